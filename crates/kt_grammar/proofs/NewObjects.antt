-- What stands between the parentheses of `$new`: it is read back, what is read stands there, what is not breaks off where it is told.
use Rattle.std.proofs.Common.{◌≡◌, ℕ, ◌≤◌, false, List, [], ◌∷◌, ◌++◌, Ok, Err, refl, le_refl}
use Rattle.kt_lex.specs.declared.number.Number.{Number}
use Rattle.kt_grammar.specs.declared.fault.Fault.{Fault}
use Rattle.kt_grammar.specs.declared.sign.Sign.TheVariants as signs
use Rattle.kt_grammar.specs.declared.symbol.Symbol.{Symbol}
use Rattle.kt_grammar.specs.declared.symbol.Symbol.TheVariants as symbol
use Rattle.kt_grammar.specs.declared.tree.Fresh.{Fresh}
use Rattle.kt_grammar.specs.Marks.{Mark, token, sign, symbols_of, ◌·◌}
use Rattle.kt_grammar.specs.Spelling.{spells_fresh}
use Rattle.kt_grammar.specs.Cursor.{begins_sign, behind}
use Rattle.kt_grammar.specs.Reading.{type_at, number_at, fresh_at}
use Rattle.kt_grammar.specs.Cut.{cut}
use Rattle.kt_grammar.specs.Laws.{Stands, FaultStands}
use Rattle.kt_grammar.specs.Local.{IsLocal}
use Rattle.kt_grammar.specs.BackLaws.{type-cut}
use Rattle.kt_grammar.specs.StandsLaws.{no_value, by_value, bind_ok, token_stands, stands_joined, stands_as, behind_stands, type_at_stands}
use Rattle.kt_grammar.specs.FaultLaws.{no_fault, unexpected_stands, fault_as, behind_fault, some_type, base_mark, is_blank_type, type_at_fault}
use Rattle.kt_grammar.specs.LocalLaws.{IsLocalFrom, then_local, gives_local, unexpected_local, taken, untaken, by_first, behind_local, type_at-local}
use Rattle.kt_grammar.specs.Lists.{any}
use Rattle.kt_grammar.proofs.Parts.{part-then, part-end, sign-then, token-end, signed, first-then}
use Rattle.kt_grammar.proofs.FaultSteps.{Blank, blank_joined, blank_as, sign_blank, rejoined, last_fault, parts_fault}

-- a number where it stands
abbrev placed : ℕ → ℕ × Number → List Mark → Type 0
placed d n = token d (symbol.Number n.0 n.1)

-- ---- read back

number_at-back : (limit d : ℕ) (n : ℕ × Number) (marks : List Mark) (rest : List Symbol) → placed d n marks → d ≤ limit → number_at (symbols_of marks ++ rest) ≡ cut limit marks rest (Ok (n, rest))
unfolding number_at
number_at-back limit d n marks rest is low = token-end number_at rest _ is low refl

pub fresh-back : (limit d : ℕ) (f : Fresh) (marks : List Mark) (rest : List Symbol) → spells_fresh d f marks → d ≤ limit → fresh_at (symbols_of marks ++ rest) ≡ cut limit marks rest (Ok (f, rest))
unfolding fresh_at begins_sign
fresh-back limit d f marks rest is low =
    part-then type_at _ limit rest _ is
    (type-cut limit d f.type_name is.front (symbols_of is.back ++ rest) is.first (first-then (λ r. begins_sign signs.Star r ≡ false) rest (signed is.second) refl) low)
    (sign-then _ rest _ is.second low
    (part-end number_at _ limit is.second.back rest (number_at-back limit d (f.at, f.count) is.second.back rest is.second.second low) refl))

-- ---- what is read stands there

number_at_stands : (limit d : ℕ) (symbols : List Symbol) (x : (ℕ × Number) × List Symbol) → d ≤ limit → number_at symbols ≡ Ok x → Stands limit (placed d x.0) symbols x.1
unfolding number_at
number_at_stands limit d (symbol.Number at n ∷ rest) x h e =
    by_value (λ (y : (ℕ × Number) × List Symbol). Stands limit (placed d y.0) (symbol.Number at n ∷ rest) y.1) ((at, n), rest) x e (token_stands limit d (symbol.Number at n) rest h)
number_at_stands limit d _ x h e = no_value _ x e

pub fresh_at_stands : (limit d : ℕ) (symbols : List Symbol) (x : Fresh × List Symbol) → d ≤ limit → fresh_at symbols ≡ Ok x → Stands limit (spells_fresh d x.0) symbols x.1
unfolding fresh_at
fresh_at_stands limit d symbols x h e =
    let t = bind_ok (type_at symbols) _ x e in
    let c = bind_ok (behind signs.Comma t.value.1) _ x t.then_gave in
    let n = bind_ok (number_at c.value) _ x c.then_gave in
    by_value (λ (y : Fresh × List Symbol). Stands limit (spells_fresh d y.0) symbols y.1) (record { type_name = t.value.0; at = n.value.0.0; count = n.value.0.1 }, n.value.1) x n.then_gave
    (stands_joined (type_at_stands limit d symbols t.value h t.gave)
    (stands_joined (behind_stands limit d signs.Comma t.value.1 c.value h c.gave) (number_at_stands limit d c.value n.value h n.gave)))

-- ---- what is not read breaks off

blank_number : ℕ × Number
blank_number = (0, record { value = 0; long = false; hexadecimal = false })

number_blank : (d : ℕ) → Blank (any (placed d))
number_blank d = (record { symbol = symbol.Number blank_number.0 blank_number.1; depth = d } ∷ [], (blank_number, refl))

number_at_fault : (limit d : ℕ) (symbols : List Symbol) (fault : Fault) → number_at symbols ≡ Err fault → FaultStands limit (any (placed d)) symbols fault
unfolding number_at
number_at_fault limit d (symbol.Number at n ∷ rest) fault e = no_fault _ fault e
number_at_fault limit d symbols fault e = unexpected_stands limit (any (placed d)) (number_blank d).0 symbols fault (number_blank d).1 e

-- anything between the parentheses of `$new`
abbrev pub some_fresh : ℕ → List Mark → Type 0
some_fresh d = any (spells_fresh d)

fresh_of : (d : ℕ) (marks : List Mark) → (some_type d · sign d signs.Comma · any (placed d)) marks → some_fresh d marks
fresh_of d m j = (
  record { type_name = j.first.0; at = j.second.second.0.0; count = j.second.second.0.1 },
  rejoined j j.first.1 (rejoined j.second j.second.first j.second.second.1),
)

pub fresh_blank : (d : ℕ) → Blank (some_fresh d)
fresh_blank d = blank_as (fresh_of d) (blank_joined (base_mark d, is_blank_type d) (blank_joined (sign_blank d signs.Comma) (number_blank d)))

pub fresh_at_fault : (limit d : ℕ) (symbols : List Symbol) (fault : Fault) → d ≤ limit → fresh_at symbols ≡ Err fault → FaultStands limit (some_fresh d) symbols fault
unfolding fresh_at
fresh_at_fault limit d symbols fault h e =
    fault_as (some_fresh d) (fresh_of d)
    (parts_fault (type_at symbols) _ fault (λ x. x.1) e (type_at_fault limit d symbols fault h) (λ x r. stands_as (some_type d) (λ m s. (x.0, s)) (type_at_stands limit d symbols x h r))
    (blank_joined (sign_blank d signs.Comma) (number_blank d))
    (λ t r w. parts_fault (behind signs.Comma t.1) _ fault (λ x. x) w (behind_fault limit d signs.Comma t.1 fault) (λ x r. behind_stands limit d signs.Comma t.1 x h r) (number_blank d)
    (λ y r w. number_at_fault limit d y fault (last_fault (number_at y) _ fault w))))

-- ---- what is read is decided by the symbols that were read

number_at-local : IsLocal number_at
unfolding number_at
number_at-local = by_first (le_refl 0) some
  where
    some : (s : Symbol) → IsLocalFrom s (λ symbols. number_at (s ∷ symbols))
    some (symbol.Number at n) = taken (gives_local (at, n))
    some _ = untaken unexpected_local

pub fresh_at-local : IsLocal fresh_at
unfolding fresh_at
fresh_at-local = then_local _ type_at-local (λ t. behind_local signs.Comma (then_local _ number_at-local (λ n. gives_local (record { type_name = t; at = n.0; count = n.1 }))))
