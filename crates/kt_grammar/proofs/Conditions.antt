-- Expressions one deeper, and in parentheses: they are read back, what is read stands there, what is not breaks off where it is told,
-- and what is read is decided by the symbols that were read.
use Rattle.std.proofs.Common.{◌≡◌, ℕ, zero, suc, ◌+◌, ◌≤◌, inl, inr, Bool, true, false, not, List, [], ◌∷◌, ◌++◌, Some, None, Ok, refl, sym, ap, subst, ◌∙◌, arith}
use Rattle.std.proofs.lemmas.Option.{same_Some}
use Rattle.kt_grammar.specs.declared.keyword.Keyword.{Keyword}
use Rattle.kt_grammar.specs.declared.keyword.Keyword.TheVariants as keywords
use Rattle.kt_grammar.specs.declared.operator.Dialect.{Dialect}
use Rattle.kt_grammar.specs.declared.operator.Dialect.TheVariants.{C, Rules}
use Rattle.kt_grammar.specs.declared.sign.Sign.{Sign}
use Rattle.kt_grammar.specs.declared.sign.Sign.TheVariants as signs
use Rattle.kt_grammar.specs.declared.symbol.Symbol.{Symbol}
use Rattle.kt_grammar.specs.declared.symbol.Symbol.TheVariants as symbol
use Rattle.kt_grammar.specs.Tree.{Term, Named}
use Rattle.kt_grammar.specs.Signs.{step_of, assign_of, binary_of}
use Rattle.kt_grammar.specs.Marks.{Mark, sign, keyword, symbols_of, ◌·◌}
use Rattle.kt_grammar.specs.Spelling.{between, spells}
use Rattle.kt_grammar.specs.Cursor.{begins_sign, behind}
use Rattle.kt_grammar.specs.Reading.{begins_expr, begins_postfix, expr_at}
use Rattle.kt_grammar.specs.Cut.{cut}
use Rattle.kt_grammar.specs.Laws.{needs, Stands, FaultStands, some_expr, ExprIsReadBack, ExprBegins, ExprStands, ExprFaultStands, ExprGoesOn, ExprIsLocal}
use Rattle.kt_grammar.specs.Local.{IsLocal}
use Rattle.kt_grammar.specs.CutLaws.{cut-none}
use Rattle.kt_grammar.specs.StandsLaws.{no_value, by_value, bind_ok, chosen, same_sign_is, stands_joined, keyword_stands, behind_stands}
use Rattle.kt_grammar.specs.FaultLaws.{fault_as, behind_fault, blank_name, name_mark}
use Rattle.kt_grammar.specs.LocalLaws.{behind_local, then_local, gives_local, refused_local, begins_expr-first}
use Rattle.kt_grammar.specs.Lists.{any}
use Rattle.kt_grammar.specs.Conditions.{condition, refused, deep_expr_at, condition_at, behind_else}
use Rattle.kt_grammar.proofs.ListStands.{ReadStands, not_true, none_is_some}
use Rattle.kt_grammar.proofs.Parts.{part-then, sign-then, sign-end, first-end}
use Rattle.kt_grammar.proofs.FaultSteps.{Blank, blank_joined, blank_as, sign_blank, rejoined, ReadFaults, any_stands, last_fault, parts_fault, GoesOn, refused_fault}

-- ---- read back

-- no operator goes on with a closing parenthesis
close_operator : (g : Dialect) (at : ℕ) (rest : List Symbol) → needs g (symbol.Sign at signs.CloseParenthesis ∷ rest) ≡ 0
unfolding needs begins_postfix step_of assign_of binary_of
close_operator C at rest = refl
close_operator Rules at rest = refl

-- an expression one deeper
pub deep_expr-back : ExprIsReadBack → ExprBegins → (g : Dialect) (n d : ℕ) (e : Term) (marks : List Mark) (rest : List Symbol) → spells g (suc d) e marks → needs g rest ≡ 0
    → deep_expr_at g n (symbols_of marks ++ rest) ≡ cut (d + n) marks rest (Ok (e, rest))
deep_expr-back back begins g zero d e marks rest is h = cut-none (begins_expr g) (d + 0) (suc d) marks rest (Ok (e, rest)) (omega arith) (begins g (suc d) e marks is)
deep_expr-back back begins g (suc n) d e marks rest is h =
    let same : suc d + n ≡ d + suc n = omega arith in
    back g n (suc d) e marks rest is h ∙ ap (λ l. cut l marks rest (Ok (e, rest))) same

pub condition-back : ExprIsReadBack → ExprBegins → (g : Dialect) (n d : ℕ) (c : Term) (marks : List Mark) (rest : List Symbol) → condition g d c marks
    → condition_at g n (symbols_of marks ++ rest) ≡ cut (d + n) marks rest (Ok (c, rest))
unfolding condition_at
condition-back back begins g n d c marks rest is =
    let low : d ≤ d + n = omega arith in
    sign-then _ rest _ is low
    (part-then (deep_expr_at g n) _ (d + n) rest _ is.second
    (deep_expr-back back begins g n d c is.second.front (symbols_of is.second.back ++ rest) is.second.first (first-end (λ r. needs g r ≡ 0) rest is.second.second.1 (close_operator g _ _)))
    (sign-end _ is.second.second low refl))

-- ---- what is read stands there

-- what is refused gives nothing
pub refused_not : {A : Type 0} (begins : List Symbol → Bool) (symbols : List Symbol) (x : A) {C : Type 0} → refused begins symbols ≡ Ok x → C
refused_not begins symbols x e = elim (chosen (begins symbols) _ _ (Ok x) e) [
  | inl c ↦ no_value _ x c.1
  | inr c ↦ no_value _ x c.1
]

pub expr_reads : ExprStands → (g : Dialect) (limit n d : ℕ) → d + n ≡ limit → ReadStands limit (spells g d) (expr_at g n)
expr_reads law g limit n d whole symbols x e = subst (λ (k : ℕ). Stands k (spells g d x.0) symbols x.1) whole (law g n d symbols x.0 x.1 e)

pub deep_expr_reads : ExprStands → (g : Dialect) (limit n d : ℕ) → d + n ≡ limit → ReadStands limit (spells g (suc d)) (deep_expr_at g n)
deep_expr_reads law g limit zero d whole symbols x e = refused_not (begins_expr g) symbols x e
deep_expr_reads law g limit (suc n) d whole symbols x e =
    let deeper : suc d + n ≡ limit = omega arith in
    expr_reads law g limit n (suc d) deeper symbols x e

pub condition_reads : ExprStands → (g : Dialect) (limit n d : ℕ) → d + n ≡ limit → ReadStands limit (condition g d) (condition_at g n)
unfolding condition_at
condition_reads law g limit n d whole symbols x e =
    let within : d ≤ limit = omega arith in
    let s = bind_ok (behind signs.OpenParenthesis symbols) _ x e in
    let c = bind_ok (deep_expr_at g n s.value) _ x s.then_gave in
    let t = bind_ok (behind signs.CloseParenthesis c.value.1) _ x c.then_gave in
    by_value (λ (y : Term × List Symbol). Stands limit (condition g d y.0) symbols y.1) (c.value.0, t.value) x t.then_gave
    (stands_joined (behind_stands limit d signs.OpenParenthesis symbols s.value within s.gave)
    (stands_joined (deep_expr_reads law g limit n d whole s.value c.value c.gave) (behind_stands limit d signs.CloseParenthesis c.value.1 t.value within t.gave)))

-- the keyword behind which something is read stands there
pub behind_else_stands : (limit d : ℕ) (symbols rest : List Symbol) → d ≤ limit → behind_else symbols ≡ Some rest → Stands limit (keyword d keywords.Else) symbols rest
unfolding behind_else
behind_else_stands limit d (symbol.Keyword at keywords.Else ∷ rest) after h e =
    subst (λ (r : List Symbol). Stands limit (keyword d keywords.Else) (symbol.Keyword at keywords.Else ∷ rest) r) (same_Some rest after e) (keyword_stands limit d at keywords.Else rest h)
behind_else_stands limit d _ after h e = none_is_some after e

-- what an `else` was taken behind does not end open
pub before_else : (o : Bool) (symbols rest : List Symbol) → (o ≡ true → behind_else symbols ≡ None) → behind_else symbols ≡ Some rest → not o ≡ true
before_else true symbols rest no_else e = none_is_some rest (sym (no_else refl) ∙ e)
before_else false symbols rest no_else e = refl

-- ---- what is not read breaks off

pub goes_on_as : {d : ℕ} {A B : List Mark → Type 0} {s : Symbol} → ((marks : List Mark) → A marks → B marks) → GoesOn d A s → GoesOn d B s
goes_on_as {d} {s = s} f g = record { others = g.others; goes = f (record { symbol = s; depth = d } ∷ g.others) g.goes }

pub goes_on_with : {d : ℕ} {A B : List Mark → Type 0} {s : Symbol} → GoesOn d A s → Blank B → GoesOn d (A · B) s
goes_on_with {d} {s = s} g b = record {
  others = g.others ++ b.0;
  goes = record { front = record { symbol = s; depth = d } ∷ g.others; back = b.0; parts = refl; first = g.goes; second = b.1 };
}

pub keyword_goes : (d at : ℕ) (k : Keyword) → GoesOn d (keyword d k) (symbol.Keyword at k)
keyword_goes d at k = record { others = []; goes = (at, refl) }

pub sign_goes : (d at : ℕ) (s : Sign) → GoesOn d (sign d s) (symbol.Sign at s)
sign_goes d at s = record { others = []; goes = (at, refl) }

-- a sign at the front is that sign
pub sign_at_front : (s : Sign) (x : Symbol) (rest : List Symbol) → begins_sign s (x ∷ rest) ≡ true → (at : ℕ) × (x ≡ symbol.Sign at s)
unfolding begins_sign
sign_at_front s (symbol.Sign at t) rest e = (at, ap (λ (t : Sign). symbol.Sign at t) (same_sign_is t s e))
sign_at_front s _ rest e = not_true e

-- an expression begins with the symbol
pub expr_begins : ExprGoesOn → (g : Dialect) (d : ℕ) (s : Symbol) (rest : List Symbol) → begins_expr g (s ∷ rest) ≡ true → GoesOn d (any (spells g d)) s
expr_begins goes_on g d s rest e = let y = goes_on g d s rest e in record { others = y.0; goes = (y.1.0, y.1.2) }

pub expr_blank : (g : Dialect) (d : ℕ) → Blank (any (spells g d))
expr_blank g d = (name_mark d, (Named blank_name, refl))

condition_of : (g : Dialect) (d : ℕ) (marks : List Mark) → between d (any (spells g (suc d))) marks → any (condition g d) marks
condition_of g d m j = (j.second.first.0, rejoined j j.first (rejoined j.second j.second.first.1 j.second.second))

pub condition_blank : (g : Dialect) (d : ℕ) → Blank (any (condition g d))
condition_blank g d = blank_as (condition_of g d) (blank_joined (sign_blank d signs.OpenParenthesis) (blank_joined (expr_blank g (suc d)) (sign_blank d signs.CloseParenthesis)))

no_expr : (g : Dialect) → begins_expr g [] ≡ false
unfolding begins_expr
no_expr C = refl
no_expr Rules = refl

pub expr_breaks : ExprFaultStands → (g : Dialect) (limit n d : ℕ) → d + n ≡ limit → ReadFaults limit (any (spells g d)) (expr_at g n)
expr_breaks faults g limit n d whole symbols fault e = fault_as (any (spells g d)) (λ m s. (s.0, s.2))
    (subst (λ (k : ℕ). FaultStands k (some_expr g 0 d) symbols fault) whole (faults g n d symbols fault e))

pub deep_expr_breaks : ExprFaultStands → ExprGoesOn → (g : Dialect) (limit n d : ℕ) → d + n ≡ limit → ReadFaults limit (any (spells g (suc d))) (deep_expr_at g n)
deep_expr_breaks faults goes_on g limit zero d whole symbols fault e =
    refused_fault {A = Term × List Symbol} limit (suc d) (begins_expr g) (any (spells g (suc d))) (omega arith) (no_expr g) (expr_blank g (suc d)) (expr_begins goes_on g (suc d)) symbols fault e
deep_expr_breaks faults goes_on g limit (suc n) d whole symbols fault e =
    let deeper : suc d + n ≡ limit = omega arith in
    expr_breaks faults g limit n (suc d) deeper symbols fault e

pub condition_breaks : ExprStands → ExprFaultStands → ExprGoesOn → (g : Dialect) (limit n d : ℕ) → d + n ≡ limit → ReadFaults limit (any (condition g d)) (condition_at g n)
unfolding condition_at
condition_breaks law faults goes_on g limit n d whole symbols fault e =
    let low : d ≤ limit = omega arith in
    let deep_here : (y : List Symbol) (x : Term × List Symbol) → deep_expr_at g n y ≡ Ok x → Stands limit (any (spells g (suc d))) y x.1 =
    λ y x r. any_stands (spells g (suc d)) x.0 (deep_expr_reads law g limit n d whole y x r) in
    fault_as (any (condition g d)) (condition_of g d)
    (parts_fault (behind signs.OpenParenthesis symbols) _ fault (λ x. x) e (behind_fault limit d signs.OpenParenthesis symbols fault) (λ x r. behind_stands limit d signs.OpenParenthesis symbols x low r)
    (blank_joined (expr_blank g (suc d)) (sign_blank d signs.CloseParenthesis))
    (λ y r w. parts_fault (deep_expr_at g n y) _ fault (λ x. x.1) w (deep_expr_breaks faults goes_on g limit n d whole y fault) (deep_here y) (sign_blank d signs.CloseParenthesis)
    (λ x r w. behind_fault limit d signs.CloseParenthesis x.1 fault (last_fault (behind signs.CloseParenthesis x.1) _ fault w))))

-- ---- what is read is decided by the symbols that were read

pub deep_expr_at-local : ExprIsLocal → (g : Dialect) (n : ℕ) → IsLocal (deep_expr_at g n)
deep_expr_at-local e g zero = refused_local (begins_expr-first g)
deep_expr_at-local e g (suc n) = e g n

pub condition_at-local : ExprIsLocal → (g : Dialect) (n : ℕ) → IsLocal (condition_at g n)
unfolding condition_at
condition_at-local e g n = behind_local signs.OpenParenthesis (then_local _ (deep_expr_at-local e g n) (λ c. behind_local signs.CloseParenthesis (gives_local c)))
