-- What the first symbol of an act can be.
use Rattle.std.specs.Prelude.{◌≡◌, ℕ, ◌||◌, Bool, true, false, List, [], ◌∷◌, Option, None}
use Rattle.std.proofs.Common.{cond, refl, subst}
use Rattle.kt_grammar.specs.declared.keyword.Keyword.TheVariants as keywords
use Rattle.kt_grammar.specs.declared.operator.Dialect.TheVariants.{Rules}
use Rattle.kt_grammar.specs.declared.sign.Sign.TheVariants as signs
use Rattle.kt_grammar.specs.declared.symbol.Symbol.{Symbol}
use Rattle.kt_grammar.specs.declared.symbol.Symbol.TheVariants as symbol
use Rattle.kt_grammar.specs.Signs.{prefix_of}
use Rattle.kt_grammar.specs.Cursor.{begins_sign}
use Rattle.kt_grammar.specs.Reading.{begins_expr}
use Rattle.kt_grammar.specs.Conditions.{behind_else}
use Rattle.xf_syntax.specs.Reading.{Blocks, begins_if, begins_act, assigned_at, signed_at, act_at}

pub no_truth {κ} : {A : Type κ} → ◌≡◌ {A = Bool} false true → A
no_truth e = absurd (subst (λ (t : Bool). cond t ⊥ (Unit {0})) e tt)

-- an act that begins as an expression does is an assignment
pub act_at-expr : (n : ℕ) (b : Option Blocks) (symbols : List Symbol) → begins_expr Rules symbols ≡ true → act_at n b symbols ≡ assigned_at n symbols
unfolding act_at signed_at begins_expr prefix_of
act_at-expr n b [] h = no_truth h
act_at-expr n b (symbol.Keyword at keywords.If ∷ rest) h = no_truth h
act_at-expr n b (symbol.Keyword at k ∷ rest) h = refl
act_at-expr n b (symbol.Sign at signs.OpenBrace ∷ rest) h = no_truth h
act_at-expr n b (symbol.Sign at signs.Semicolon ∷ rest) h = no_truth h
act_at-expr n b (symbol.Sign at s ∷ rest) h = refl
act_at-expr n b (_ ∷ rest) h = refl

or_last : (a b c d : Bool) → d ≡ true → (a || b || c || d) ≡ true
or_last true b c d h = refl
or_last false true c d h = refl
or_last false false true d h = refl
or_last false false false d h = h

pub expr-act : (symbols : List Symbol) → begins_expr Rules symbols ≡ true → begins_act symbols ≡ true
expr-act symbols h = or_last (begins_sign signs.OpenBrace symbols) (begins_sign signs.Semicolon symbols) (begins_if symbols) (begins_expr Rules symbols) h

-- an act does not begin with `else`
pub act-else : (symbols : List Symbol) → begins_act symbols ≡ true → behind_else symbols ≡ None
unfolding begins_expr begins_sign begins_if behind_else
act-else [] h = refl
act-else (symbol.Keyword at keywords.Else ∷ rest) h = no_truth h
act-else (symbol.Keyword at k ∷ rest) h = refl
act-else (_ ∷ rest) h = refl

-- nor with a closing brace
pub act-close : (symbols : List Symbol) → begins_act symbols ≡ true → begins_sign signs.CloseBrace symbols ≡ false
unfolding begins_expr begins_sign begins_if prefix_of
act-close [] h = refl
act-close (symbol.Sign at signs.CloseBrace ∷ rest) h = no_truth h
act-close (symbol.Sign at s ∷ rest) h = refl
act-close (_ ∷ rest) h = refl

-- a closing brace is no `else`
pub close-else : (symbols : List Symbol) → begins_sign signs.CloseBrace symbols ≡ true → behind_else symbols ≡ None
unfolding begins_sign behind_else
close-else [] h = refl
close-else (symbol.Keyword at k ∷ rest) h = no_truth h
close-else (_ ∷ rest) h = refl
