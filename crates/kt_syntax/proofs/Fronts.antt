-- What the first symbol of a statement or an entry of a block can be.
use Rattle.std.specs.Prelude.{◌≡◌, ℕ, ◌||◌, Bool, true, false, List, [], ◌∷◌, Option, None}
use Rattle.std.proofs.Common.{cond, refl, subst}
use Rattle.kt_grammar.specs.declared.keyword.Keyword.TheVariants as keywords
use Rattle.kt_grammar.specs.declared.operator.Dialect.TheVariants.{C}
use Rattle.kt_grammar.specs.declared.sign.Sign.TheVariants as signs
use Rattle.kt_grammar.specs.declared.symbol.Symbol.{Symbol}
use Rattle.kt_grammar.specs.declared.symbol.Symbol.TheVariants as symbol
use Rattle.kt_grammar.specs.Signs.{prefix_of}
use Rattle.kt_grammar.specs.Cursor.{begins_sign}
use Rattle.kt_grammar.specs.Reading.{begins_base, begins_expr}
use Rattle.kt_syntax.specs.Reading.{Blocks, begins_keyword, begins_statement, begins_entry, behind_else, evaluated_at, worded_at, signed_at, statement_at}

pub no_truth {κ} : {A : Type κ} → ◌≡◌ {A = Bool} false true → A
no_truth e = absurd (subst (λ (t : Bool). cond t ⊥ (Unit {0})) e tt)

-- ---- expressions

-- an expression does not begin with a semicolon
pub expr-semicolon : (symbols : List Symbol) → begins_expr C symbols ≡ true → begins_sign signs.Semicolon symbols ≡ false
unfolding begins_expr begins_sign prefix_of
expr-semicolon [] h = refl
expr-semicolon (symbol.Sign at signs.Semicolon ∷ rest) h = no_truth h
expr-semicolon (symbol.Sign at s ∷ rest) h = refl
expr-semicolon (_ ∷ rest) h = refl

-- nor with a closing parenthesis
pub expr-close : (symbols : List Symbol) → begins_expr C symbols ≡ true → begins_sign signs.CloseParenthesis symbols ≡ false
unfolding begins_expr begins_sign prefix_of
expr-close [] h = refl
expr-close (symbol.Sign at signs.CloseParenthesis ∷ rest) h = no_truth h
expr-close (symbol.Sign at s ∷ rest) h = refl
expr-close (_ ∷ rest) h = refl

-- nor with a type
pub expr-base : (symbols : List Symbol) → begins_expr C symbols ≡ true → begins_base symbols ≡ false
unfolding begins_expr begins_base
expr-base [] h = refl
expr-base (symbol.Keyword at keywords.Const ∷ rest) h = no_truth h
expr-base (symbol.Keyword at keywords.Char ∷ rest) h = no_truth h
expr-base (symbol.Keyword at keywords.Int ∷ rest) h = no_truth h
expr-base (symbol.Keyword at keywords.Long ∷ rest) h = no_truth h
expr-base (symbol.Keyword at keywords.Mutex ∷ rest) h = no_truth h
expr-base (symbol.Keyword at keywords.Struct ∷ rest) h = no_truth h
expr-base (symbol.Keyword at k ∷ rest) h = refl
expr-base (_ ∷ rest) h = refl

-- a type does not begin with a semicolon
pub base-semicolon : (symbols : List Symbol) → begins_base symbols ≡ true → begins_sign signs.Semicolon symbols ≡ false
unfolding begins_sign begins_base
base-semicolon [] h = refl
base-semicolon (symbol.Sign at s ∷ rest) h = no_truth h
base-semicolon (_ ∷ rest) h = refl

-- a statement that begins as an expression does is one and a semicolon
pub statement_at-expr : (n : ℕ) (b : Option Blocks) (symbols : List Symbol) → begins_expr C symbols ≡ true → statement_at n b symbols ≡ evaluated_at n symbols
unfolding statement_at worded_at signed_at begins_expr prefix_of
statement_at-expr n b [] h = no_truth h
statement_at-expr n b (symbol.Keyword at keywords.Return ∷ rest) h = no_truth h
statement_at-expr n b (symbol.Keyword at keywords.Break ∷ rest) h = no_truth h
statement_at-expr n b (symbol.Keyword at keywords.Continue ∷ rest) h = no_truth h
statement_at-expr n b (symbol.Keyword at keywords.If ∷ rest) h = no_truth h
statement_at-expr n b (symbol.Keyword at keywords.While ∷ rest) h = no_truth h
statement_at-expr n b (symbol.Keyword at keywords.Do ∷ rest) h = no_truth h
statement_at-expr n b (symbol.Keyword at keywords.For ∷ rest) h = no_truth h
statement_at-expr n b (symbol.Keyword at k ∷ rest) h = refl
statement_at-expr n b (symbol.Sign at signs.OpenBrace ∷ rest) h = no_truth h
statement_at-expr n b (symbol.Sign at signs.Semicolon ∷ rest) h = no_truth h
statement_at-expr n b (symbol.Sign at s ∷ rest) h = refl
statement_at-expr n b (_ ∷ rest) h = refl

-- ---- statements and entries

or_last : (a b c d : Bool) → d ≡ true → (a || b || c || d) ≡ true
or_last true b c d h = refl
or_last false true c d h = refl
or_last false false true d h = refl
or_last false false false d h = h

or_right : (a b : Bool) → b ≡ true → (a || b) ≡ true
or_right true b h = refl
or_right false b h = h

or_left : (a b : Bool) → a ≡ true → (a || b) ≡ true
or_left true b h = refl
or_left false b h = no_truth h

pub expr-statement : (symbols : List Symbol) → begins_expr C symbols ≡ true → begins_statement symbols ≡ true
expr-statement symbols h = or_last (begins_sign signs.OpenBrace symbols) (begins_sign signs.Semicolon symbols) (begins_keyword symbols) (begins_expr C symbols) h

pub statement-entry : (symbols : List Symbol) → begins_statement symbols ≡ true → begins_entry symbols ≡ true
statement-entry symbols h = or_right (begins_base symbols) (begins_statement symbols) h

pub base-entry : (symbols : List Symbol) → begins_base symbols ≡ true → begins_entry symbols ≡ true
base-entry symbols h = or_left (begins_base symbols) (begins_statement symbols) h

-- a statement does not begin with a type
pub statement-base : (symbols : List Symbol) → begins_statement symbols ≡ true → begins_base symbols ≡ false
unfolding begins_expr begins_base begins_sign begins_keyword
statement-base [] h = refl
statement-base (symbol.Keyword at keywords.Const ∷ rest) h = no_truth h
statement-base (symbol.Keyword at keywords.Char ∷ rest) h = no_truth h
statement-base (symbol.Keyword at keywords.Int ∷ rest) h = no_truth h
statement-base (symbol.Keyword at keywords.Long ∷ rest) h = no_truth h
statement-base (symbol.Keyword at keywords.Mutex ∷ rest) h = no_truth h
statement-base (symbol.Keyword at keywords.Struct ∷ rest) h = no_truth h
statement-base (symbol.Keyword at k ∷ rest) h = refl
statement-base (_ ∷ rest) h = refl

-- an entry of a block does not begin with `else`
pub entry-else : (symbols : List Symbol) → begins_entry symbols ≡ true → behind_else symbols ≡ None
unfolding begins_expr begins_base begins_sign begins_keyword behind_else
entry-else [] h = refl
entry-else (symbol.Keyword at keywords.Else ∷ rest) h = no_truth h
entry-else (symbol.Keyword at k ∷ rest) h = refl
entry-else (_ ∷ rest) h = refl

-- nor with a closing brace
pub entry-close : (symbols : List Symbol) → begins_entry symbols ≡ true → begins_sign signs.CloseBrace symbols ≡ false
unfolding begins_expr begins_base begins_sign begins_keyword prefix_of
entry-close [] h = refl
entry-close (symbol.Sign at signs.CloseBrace ∷ rest) h = no_truth h
entry-close (symbol.Sign at s ∷ rest) h = refl
entry-close (_ ∷ rest) h = refl

-- a closing brace is no `else`
pub close-else : (symbols : List Symbol) → begins_sign signs.CloseBrace symbols ≡ true → behind_else symbols ≡ None
unfolding begins_sign behind_else
close-else [] h = refl
close-else (symbol.Keyword at k ∷ rest) h = no_truth h
close-else (_ ∷ rest) h = refl
