-- Declarators that are not read, of fields, globals, parameters and locals, break off where the fault tells.
use Rattle.std.proofs.Common.{◌≡◌, ℕ, ◌≤◌, inl, inr, List, [], ◌∷◌, length, Option, Some, None, Result, Ok, Err, refl, sym, subst}
use Rattle.kt_lex.specs.declared.number.Number.{Number}
use Rattle.kt_grammar.specs.declared.fault.Fault.{Fault}
use Rattle.kt_grammar.specs.declared.fault.Fault.TheVariants.{Syntax}
use Rattle.kt_grammar.specs.declared.keyword.Keyword.TheVariants as keywords
use Rattle.kt_grammar.specs.declared.operator.Dialect.TheVariants.{C}
use Rattle.kt_grammar.specs.declared.sign.Sign.{Sign}
use Rattle.kt_grammar.specs.declared.sign.Sign.TheVariants as signs
use Rattle.kt_grammar.specs.declared.symbol.Symbol.{Symbol}
use Rattle.kt_grammar.specs.declared.symbol.Symbol.TheVariants as symbol
use Rattle.kt_grammar.specs.declared.tree.Name.{Name}
use Rattle.kt_grammar.specs.declared.tree.Base.TheVariants as base
use Rattle.kt_grammar.specs.declared.tree.Base.{Base}
use Rattle.kt_grammar.specs.Tree.{Term}
use Rattle.kt_grammar.specs.Signs.{same_sign}
use Rattle.kt_grammar.specs.Marks.{Mark, Language, sign, ◌·◌}
use Rattle.kt_grammar.specs.Spelling.{between, spells}
use Rattle.kt_grammar.specs.Cursor.{◌>>=◌, Outcome, behind, name_at, listed_at}
use Rattle.kt_grammar.specs.Reading.{base_at, expr_at}
use Rattle.kt_grammar.specs.Laws.{Stands, FaultStands}
use Rattle.kt_grammar.specs.StandsLaws.{by_value, bind_ok, chosen, same_sign_is, stands_as, sign_stands, keyword_stands, behind_stands, name_at_stands, base_at_stands}
use Rattle.kt_grammar.specs.FaultLaws.{no_fault, unexpected_stands, fault_as, fault_behind, behind_fault, blank_name, name_mark, some_name, name_at_fault, base_mark, some_base, base_at_fault}
use Rattle.kt_syntax.specs.declared.tree.Stars.{Stars}
use Rattle.kt_syntax.specs.declared.tree.Extent.TheVariants as extent
use Rattle.kt_syntax.specs.declared.tree.Pointer.{Pointer}
use Rattle.kt_syntax.specs.declared.tree.Declarator.{Declarator}
use Rattle.kt_syntax.specs.declared.tree.Constant.{Constant}
use Rattle.kt_syntax.specs.declared.tree.Constant.TheVariants as constant
use Rattle.kt_syntax.specs.Spelling.{maybe, number, stars, extent_name, extent_spelling, pointer, count, declarator, constant_spelling, global, parameter, fields, local, declaration}
use Rattle.kt_syntax.specs.Reading.{stars_at, extent_name_at, extent_behind, extent_at, pointer_behind, pointer_at, count_behind, count_at, declarator_behind, declarator_at, negative_at, constant_at, initial_at, global_behind, global_at, parameter_at, fields_at, value_at, local_at, declaration_at}
use Rattle.kt_syntax.specs.ListStands.{ReadStands, separated_at_stands}
use Rattle.kt_syntax.proofs.DeclaratorStands.{stars_at_stands, extent_name_at_stands, pointer_at_stands, number_stands, count_at_stands, declarator_at_stands, local_at_stands}
use Rattle.kt_syntax.proofs.FaultSteps.{any, Blank, blank_joined, blank_as, sign_blank, name_blank, number_blank, maybe_blank, rejoined, grouped, ReadFaults, any_stands, last_fault, parts_fault, led_fault, some_separated, separated_at_fault}

-- a type that can stand where one is missing
pub base_blank : (d : ℕ) → Blank (some_base d)
base_blank d = (base_mark d, (base.Char, record { front = []; back = base_mark d; parts = refl; first = inl refl; second = (0, refl) }))

-- the number of elements, behind the opening bracket
abbrev pub count_end : ℕ → Number → List Mark → Type 0
count_end d n = number d n · sign d signs.CloseBracket

-- the initial value of a global, with its sign
abbrev pub initial_spelling : ℕ → Constant → List Mark → Type 0
initial_spelling d c = sign d signs.Assign · constant_spelling d c

pub declarator_of : (d : ℕ) (marks : List Mark) → (any (maybe (pointer d)) · some_name d · any (maybe (count d))) marks → any (declarator d) marks
declarator_of d m j =
    (record { pointer = j.first.0; name = j.second.first.0; count = j.second.second.0 }, rejoined j j.first.1 (rejoined j.second j.second.first.1 j.second.second.1))

pub declarator_blank : (d : ℕ) → Blank (any (declarator d))
declarator_blank d = blank_as (declarator_of d) (blank_joined (maybe_blank (pointer d)) (blank_joined (name_blank d) (maybe_blank (count d))))

-- a global behind its name
abbrev pub global_end : ℕ → List Mark → Type 0
global_end d = any (maybe (count d)) · any (maybe (initial_spelling d))

pub global_end_blank : (d : ℕ) → Blank (global_end d)
global_end_blank d = blank_joined (maybe_blank (count d)) (maybe_blank (initial_spelling d))

pub global_of : (d : ℕ) (marks : List Mark) → (any (maybe (pointer d)) · some_name d · global_end d) marks → any (global d) marks
global_of d m j =
    let k = grouped (rejoined j j.first (grouped j.second)) in
    let x = declarator_of d k.front k.first in
    (record { declarator = x.0; initial = k.second.0 }, rejoined k x.1 k.second.1)

pub global_blank : (d : ℕ) → Blank (any (global d))
global_blank d = blank_as (global_of d) (blank_joined (maybe_blank (pointer d)) (blank_joined (name_blank d) (global_end_blank d)))

pub parameter_of : (d : ℕ) (marks : List Mark) → (some_base d · any (maybe (pointer d)) · some_name d) marks → any (parameter d) marks
parameter_of d m j =
    (record { base = j.first.0; pointer = j.second.first.0; name = j.second.second.0 }, rejoined j j.first.1 (rejoined j.second j.second.first.1 j.second.second.1))

pub parameter_blank : (d : ℕ) → Blank (any (parameter d))
parameter_blank d = blank_as (parameter_of d) (blank_joined (base_blank d) (blank_joined (maybe_blank (pointer d)) (name_blank d)))

pub fields_of : (d : ℕ) (marks : List Mark) → (some_base d · some_separated d (declarator d) · sign d signs.Semicolon) marks → any (fields d) marks
fields_of d m j =
    (record { base = j.first.0; declarators = j.second.first.0 ∷ j.second.first.1 }, rejoined j j.first.1 (rejoined j.second j.second.first.2 j.second.second))

-- the initial value of a local, with its sign
abbrev pub value_spelling : ℕ → Term → List Mark → Type 0
value_spelling d e = sign d signs.Assign · spells C d e

pub local_of : (d : ℕ) (marks : List Mark) → (any (maybe (pointer d)) · some_name d · any (maybe (value_spelling d))) marks → any (local d) marks
local_of d m j =
    (record { pointer = j.first.0; name = j.second.first.0; initial = j.second.second.0 }, rejoined j j.first.1 (rejoined j.second j.second.first.1 j.second.second.1))

pub local_blank : (d : ℕ) → Blank (any (local d))
local_blank d = blank_as (local_of d) (blank_joined (maybe_blank (pointer d)) (blank_joined (name_blank d) (maybe_blank (value_spelling d))))

pub declaration_of : (d : ℕ) (marks : List Mark) → (some_base d · some_separated d (local d)) marks → any (declaration d) marks
declaration_of d m j = (record { base = j.first.0; locals = j.second.0 ∷ j.second.1 }, rejoined j j.first.1 j.second.2)

some_of_blank : {A : Type 0} (d : ℕ) (item : A → Language) → Blank (any item) → Blank (some_separated d item)
some_of_blank d item b = (b.0, (b.1.0, [], b.1.1))

module _ (limit d : ℕ) (h : d ≤ limit) where
  -- ---- pointers

  extent_name_at_fault : ReadFaults limit (any (extent_name d)) extent_name_at
  unfolding extent_name_at
  extent_name_at_fault (symbol.Name at word ∷ rest) fault e = no_fault _ fault e
  extent_name_at_fault (symbol.Number at n ∷ rest) fault e = no_fault _ fault e
  extent_name_at_fault symbols fault e = unexpected_stands limit (any (extent_name d)) (name_mark d) symbols fault (extent.Name blank_name, refl) e

  extent_behind_fault : ReadFaults limit (between d (any (extent_name d))) extent_behind
  extent_behind_fault symbols fault e =
      parts_fault (behind signs.OpenParenthesis symbols) _ fault (λ x. x) e (behind_fault limit d signs.OpenParenthesis symbols fault) (λ x r. behind_stands limit d signs.OpenParenthesis symbols x h r)
      (blank_joined (name_mark d, (extent.Name blank_name, refl)) (sign_blank d signs.CloseParenthesis))
      (λ inner r w. parts_fault (extent_name_at inner) _ fault (λ x. x.1) w (extent_name_at_fault inner fault) (λ x r. any_stands (extent_name d) x.0 (extent_name_at_stands limit d h inner x r))
      (sign_blank d signs.CloseParenthesis)
      (λ x r w. behind_fault limit d signs.CloseParenthesis x.1 fault (last_fault (behind signs.CloseParenthesis x.1) _ fault w)))

  extent_at_fault : ReadFaults limit (any (maybe (extent_spelling d))) extent_at
  unfolding extent_at
  extent_at_fault (symbol.Keyword at keywords.PointerArray ∷ rest) fault e = fault_as (any (maybe (extent_spelling d)))
      (λ m j. (Some j.second.second.first.0, rejoined j j.first (rejoined j.second j.second.first (rejoined j.second.second j.second.second.first.1 j.second.second.second))))
      (fault_behind (keyword_stands limit d at keywords.PointerArray rest h) (extent_behind_fault rest fault (last_fault (extent_behind rest) _ fault e)))
  extent_at_fault symbols fault e = no_fault _ fault e

  pointer_behind_fault : (s : Option Stars) (symbols middle : List Symbol) (fault : Fault) → Stands limit (maybe (stars d) s) symbols middle → pointer_behind s middle ≡ Err fault → FaultStands limit (any (maybe (pointer d))) symbols fault
  unfolding pointer_behind
  pointer_behind_fault None symbols middle fault front e = no_fault _ fault e
  pointer_behind_fault (Some s) symbols middle fault front e = fault_as (any (maybe (pointer d)))
      (λ m j. (Some (record { stars = s; extent = j.second.0 }), rejoined j j.first j.second.1))
      (fault_behind front (extent_at_fault middle fault (last_fault (extent_at middle) _ fault e)))

  pub pointer_at_fault : ReadFaults limit (any (maybe (pointer d))) pointer_at
  pointer_at_fault symbols fault e = pointer_behind_fault (stars_at symbols).0 symbols (stars_at symbols).1 fault (stars_at_stands limit d h symbols) e

  -- a pointer, a name, and what is behind them
  named_fault : {Y : Type 0} {B : List Mark → Type 0} (f : Option Pointer → Name → List Symbol → Result Y Fault) (symbols : List Symbol) (fault : Fault) → (pointer_at symbols >>= λ p. name_at p.1 >>= λ n. f p.0 n.0 n.1) ≡ Err fault
      → Blank B → ((p : Option Pointer) (n : Name) (rest : List Symbol) → f p n rest ≡ Err fault → FaultStands limit B rest fault)
      → FaultStands limit (any (maybe (pointer d)) · some_name d · B) symbols fault
  named_fault f symbols fault e blank behind_is =
      parts_fault (pointer_at symbols) _ fault (λ x. x.1) e (pointer_at_fault symbols fault) (λ x r. any_stands (maybe (pointer d)) x.0 (pointer_at_stands limit d h symbols x r)) (blank_joined (name_blank d) blank)
      (λ p r w. parts_fault (name_at p.1) _ fault (λ x. x.1) w (name_at_fault limit d p.1 fault) (λ x r. stands_as (some_name d) (λ m s. (x.0, s)) (name_at_stands limit d p.1 x h r)) blank
      (λ n r w. behind_is p.0 n.0 n.1 w))

  -- ---- declarators

  count_blank : Blank (any (count_end d))
  count_blank = blank_as (λ m j. (j.first.0, rejoined j j.first.1 j.second)) (blank_joined (number_blank d) (sign_blank d signs.CloseBracket))

  count_behind_fault : ReadFaults limit (any (count_end d)) count_behind
  unfolding count_behind
  count_behind_fault (symbol.Number at n ∷ rest) fault e = fault_as (any (count_end d)) (λ m j. (n, j))
      (fault_behind (number_stands limit d h at n rest) (behind_fault limit d signs.CloseBracket rest fault (last_fault (behind signs.CloseBracket rest) _ fault e)))
  count_behind_fault symbols fault e = unexpected_stands limit (any (count_end d)) count_blank.0 symbols fault count_blank.1 e

  count_at_fault : ReadFaults limit (any (maybe (count d))) count_at
  unfolding count_at
  count_at_fault symbols fault e = led_fault limit d signs.OpenBracket (count_end d) count_behind h count_behind_fault symbols fault e

  pub declarator_at_fault : ReadFaults limit (any (declarator d)) declarator_at
  unfolding declarator_at
  declarator_at_fault symbols fault e = fault_as (any (declarator d)) (declarator_of d)
      (named_fault declarator_behind symbols fault e (maybe_blank (count d)) (λ p n rest w. count_at_fault rest fault (last_fault (count_at rest) _ fault w)))

  -- ---- globals

  negative_at_fault : ReadFaults limit (any (number d)) negative_at
  unfolding negative_at
  negative_at_fault (symbol.Number at n ∷ rest) fault e = no_fault _ fault e
  negative_at_fault symbols fault e = unexpected_stands limit (any (number d)) (number_blank d).0 symbols fault (number_blank d).1 e

  no_constant : (symbols : List Symbol) (fault : Fault) → ◌≡◌ {A = Outcome Constant} (Err (Syntax (length symbols))) (Err fault) → FaultStands limit (any (constant_spelling d)) symbols fault
  no_constant symbols fault e = unexpected_stands limit (any (constant_spelling d)) (record { symbol = symbol.Keyword 0 keywords.Null; depth = d } ∷ []) symbols fault (constant.Null, (0, refl)) e

  constant_at_fault : ReadFaults limit (any (constant_spelling d)) constant_at
  unfolding constant_at
  constant_at_fault (symbol.Number at n ∷ rest) fault e = no_fault _ fault e
  constant_at_fault (symbol.Sign at s ∷ rest) fault e = elim (chosen (same_sign s signs.Minus) _ _ (Err fault) e) [
    | inl c ↦ subst (λ (s : Sign). FaultStands limit (any (constant_spelling d)) (symbol.Sign at s ∷ rest) fault) (sym (same_sign_is s signs.Minus c.0))
        (fault_as (any (constant_spelling d)) (λ m j. (constant.Negative j.second.0, rejoined j j.first j.second.1))
        (fault_behind (sign_stands limit d at signs.Minus rest h) (negative_at_fault rest fault c.1)))
    | inr c ↦ no_constant (symbol.Sign at s ∷ rest) fault c.1
  ]
  constant_at_fault (symbol.Character at b ∷ rest) fault e = no_fault _ fault e
  constant_at_fault (symbol.Text at bytes ∷ rest) fault e = no_fault _ fault e
  constant_at_fault (symbol.Keyword at keywords.Null ∷ rest) fault e = no_fault _ fault e
  constant_at_fault (symbol.Keyword at keywords.Eof ∷ rest) fault e = no_fault _ fault e
  constant_at_fault (symbol.Keyword at keywords.MutexInitializer ∷ rest) fault e = no_fault _ fault e
  constant_at_fault symbols fault e = no_constant symbols fault e

  initial_at_fault : ReadFaults limit (any (maybe (initial_spelling d))) initial_at
  unfolding initial_at
  initial_at_fault symbols fault e = led_fault limit d signs.Assign (constant_spelling d) constant_at h constant_at_fault symbols fault e

  count_found : (p : Option Pointer) (n : Name) (symbols : List Symbol) (x : Declarator × List Symbol) → declarator_behind p n symbols ≡ Ok x → Stands limit (any (maybe (count d))) symbols x.1
  count_found p n symbols x e =
      let c = bind_ok (count_at symbols) _ x e in
      by_value (λ (y : Declarator × List Symbol). Stands limit (any (maybe (count d))) symbols y.1) (record { pointer = p; name = n; count = c.value.0 }, c.value.1) x c.then_gave
      (any_stands (maybe (count d)) c.value.0 (count_at_stands limit d h symbols c.value c.gave))

  pub global_behind_fault : (p : Option Pointer) (n : Name) → ReadFaults limit (global_end d) (global_behind p n)
  unfolding global_behind
  global_behind_fault p n symbols fault e =
      parts_fault (declarator_behind p n symbols) _ fault (λ x. x.1) e (λ w. count_at_fault symbols fault (last_fault (count_at symbols) _ fault w)) (count_found p n symbols) (maybe_blank (initial_spelling d))
      (λ x r w. initial_at_fault x.1 fault (last_fault (initial_at x.1) _ fault w))

  pub global_at_fault : ReadFaults limit (any (global d)) global_at
  unfolding global_at
  global_at_fault symbols fault e = fault_as (any (global d)) (global_of d) (named_fault global_behind symbols fault e (global_end_blank d) (λ p n rest w. global_behind_fault p n rest fault w))

  -- ---- parameters and fields

  pub some_base_stands : (symbols : List Symbol) (x : Base × List Symbol) → base_at symbols ≡ Ok x → Stands limit (some_base d) symbols x.1
  some_base_stands symbols x r = stands_as (some_base d) (λ m s. (x.0, s)) (base_at_stands limit d symbols x h r)

  pub parameter_at_fault : ReadFaults limit (any (parameter d)) parameter_at
  unfolding parameter_at
  parameter_at_fault symbols fault e = fault_as (any (parameter d)) (parameter_of d)
      (parts_fault (base_at symbols) _ fault (λ x. x.1) e (λ w. base_at_fault limit d symbols fault h w) (some_base_stands symbols) (blank_joined (maybe_blank (pointer d)) (name_blank d))
      (λ b r w. parts_fault (pointer_at b.1) _ fault (λ x. x.1) w (pointer_at_fault b.1 fault) (λ x r. any_stands (maybe (pointer d)) x.0 (pointer_at_stands limit d h b.1 x r)) (name_blank d)
      (λ p r w. name_at_fault limit d p.1 fault (last_fault (name_at p.1) _ fault w))))

  -- one or more items with commas between them that are read stand there
  pub some_separated_stands : {A : Type 0} (item : A → Language) (read : List Symbol → Outcome A) → ReadStands limit item read
      → (k : ℕ) (symbols : List Symbol) (x : List A × List Symbol) → listed_at read k [] symbols ≡ Ok x → Stands limit (some_separated d item) symbols x.1
  some_separated_stands item read stands k symbols x e =
      let l = separated_at_stands limit d item read h stands k [] symbols x e in
      stands_as (some_separated d item) (λ m s. (l.first, l.others, s)) l.stands

  pub fields_at_fault : ReadFaults limit (any (fields d)) fields_at
  unfolding fields_at
  fields_at_fault symbols fault e = fault_as (any (fields d)) (fields_of d)
      (parts_fault (base_at symbols) _ fault (λ x. x.1) e (λ w. base_at_fault limit d symbols fault h w) (some_base_stands symbols) (blank_joined (some_of_blank d (declarator d) (declarator_blank d)) (sign_blank d signs.Semicolon))
      (λ b r w. parts_fault (listed_at declarator_at (length b.1) [] b.1) _ fault (λ x. x.1) w
      (λ w. separated_at_fault limit d (declarator d) declarator_at h (declarator_at_stands limit d h) declarator_at_fault (declarator_blank d) (length b.1) [] b.1 fault w)
      (some_separated_stands (declarator d) declarator_at (declarator_at_stands limit d h) (length b.1) b.1) (sign_blank d signs.Semicolon)
      (λ ds r w. behind_fault limit d signs.Semicolon ds.1 fault (last_fault (behind signs.Semicolon ds.1) _ fault w))))

  -- ---- locals

  module _ (n : ℕ) (expr_stands : ReadStands limit (spells C d) (expr_at C n)) (expr_fault : ReadFaults limit (any (spells C d)) (expr_at C n)) where
    value_at_fault : ReadFaults limit (any (maybe (value_spelling d))) (value_at n)
    unfolding value_at
    value_at_fault symbols fault e = led_fault limit d signs.Assign (spells C d) (expr_at C n) h expr_fault symbols fault e

    local_at_fault : ReadFaults limit (any (local d)) (local_at n)
    unfolding local_at
    local_at_fault symbols fault e = fault_as (any (local d)) (local_of d)
        (named_fault (λ p x rest. value_at n rest >>= λ v. Ok (record { pointer = p; name = x; initial = v.0 }, v.1)) symbols fault e (maybe_blank (value_spelling d))
        (λ p x rest w. value_at_fault rest fault (last_fault (value_at n rest) _ fault w)))

    pub declaration_at_fault : ReadFaults limit (any (declaration d)) (declaration_at n)
    unfolding declaration_at
    declaration_at_fault symbols fault e = fault_as (any (declaration d)) (declaration_of d)
        (parts_fault (base_at symbols) _ fault (λ x. x.1) e (λ w. base_at_fault limit d symbols fault h w) (some_base_stands symbols) (some_of_blank d (local d) (local_blank d))
        (λ b r w. separated_at_fault limit d (local d) (local_at n) h (local_at_stands limit d h n expr_stands) local_at_fault (local_blank d) (length b.1) [] b.1 fault
        (last_fault (listed_at (local_at n) (length b.1) [] b.1) _ fault w)))
