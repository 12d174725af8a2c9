-- Rules that are not read, and so rule files, break off where the fault tells.
use Rattle.std.proofs.Common.{◌≡◌, ℕ, ◌≤◌, inl, inr, true, List, [], ◌∷◌, drop, Some, None, Ok, Err, refl}
use Rattle.kt_grammar.specs.declared.fault.Fault.{Fault}
use Rattle.kt_grammar.specs.declared.keyword.Keyword.TheVariants as keywords
use Rattle.kt_grammar.specs.declared.sign.Sign.TheVariants as signs
use Rattle.kt_grammar.specs.declared.symbol.Symbol.{Symbol}
use Rattle.kt_grammar.specs.declared.symbol.Symbol.TheVariants as symbol
use Rattle.kt_grammar.specs.declared.tree.Name.{Name}
use Rattle.kt_grammar.specs.Marks.{Mark, token, sign, keyword, name, ◌·◌}
use Rattle.kt_grammar.specs.Cursor.{◌>>=◌, begins_sign, behind, name_at}
use Rattle.kt_grammar.specs.Laws.{Stands, ExprStands, FaultStands, ExprFaultStands, ExprGoesOn}
use Rattle.kt_grammar.specs.Lists.{any}
use Rattle.kt_grammar.specs.TextLaws.{TextFaultStands}
use Rattle.kt_grammar.specs.StandsLaws.{chosen, token_stands, stands_as, keyword_stands, begins_sign_stands, behind_stands, name_at_stands}
use Rattle.kt_grammar.specs.FaultLaws.{no_fault, bind_err, unexpected_stands, fault_as, fault_before, fault_behind, behind_fault, some_name, name_at_fault}
use Rattle.kt_grammar.proofs.FaultSteps.{Blank, blank_joined, blank_as, sign_blank, name_blank, rejoined, grouped, ReadFaults, any_stands, last_fault, parts_fault}
use Rattle.kt_grammar.proofs.ItemTexts.{each_fault}
use Rattle.xf_syntax.specs.declared.tree.StructName.{StructName}
use Rattle.xf_syntax.specs.declared.tree.Target.TheVariants as target
use Rattle.xf_syntax.specs.declared.tree.Side.{Side}
use Rattle.xf_syntax.specs.declared.tree.Side.TheVariants as side
use Rattle.xf_syntax.specs.Tree.{StructsPaired, Started, Moved}
use Rattle.xf_syntax.specs.Spelling.{struct_name, target_spelling, side_spelling, ending, rule, rules}
use Rattle.xf_syntax.specs.Reading.{code_at, ending_at, field_behind, field_at, target_at, named_behind, side_at, struct_name_at, moved_behind, paired_behind, struct_behind, started_behind, rule_at, rules_at}
use Rattle.xf_syntax.proofs.ActFaults.{code_blank, code_breaks}
use Rattle.xf_syntax.proofs.RuleStands.{low, struct_stands, field_behind_stands, target_at_stands, named_behind_stands, side_at_stands, struct_name_at_stands, rule_at_stands}

-- ---- parts of their parts

abbrev struct_word : ℕ → List Mark → Type 0
struct_word at = token 0 (symbol.Keyword at keywords.Struct)

struct_of : (at : ℕ) (marks : List Mark) → (struct_word at · some_name 0) marks → any struct_name marks
struct_of at m j = (record { at = at; name = j.second.0 }, rejoined j j.first j.second.1)

struct_blank : Blank (any struct_name)
struct_blank = blank_as (struct_of 0) (blank_joined (record { symbol = symbol.Keyword 0 keywords.Struct; depth = 0 } ∷ [], refl) (name_blank 0))

-- what stands behind a struct's name in a field
abbrev field_end : List Mark → Type 0
field_end = sign 0 signs.Dot · some_name 0

field_end_blank : Blank field_end
field_end_blank = blank_joined (sign_blank 0 signs.Dot) (name_blank 0)

field_of : (s : StructName) (marks : List Mark) → (struct_name s · field_end) marks → any target_spelling marks
field_of s m j = (target.Field s j.second.second.0, rejoined j j.first (rejoined j.second j.second.first j.second.second.1))

any_field_of : (at : ℕ) (marks : List Mark) → (struct_word at · some_name 0 · field_end) marks → any target_spelling marks
any_field_of at m j =
    let k = grouped j in
    let s = struct_of at k.front k.first in
    field_of s.0 m (rejoined k s.1 k.second)

target_blank : Blank (any target_spelling)
target_blank = blank_as (λ m g. (target.Global g.0, g.1)) (name_blank 0)

side_blank : Blank (any side_spelling)
side_blank = blank_as (λ m t. (side.Target t.0, t.1)) target_blank

ending_blank : Blank (any ending)
ending_blank = blank_as (λ m s. (None, s)) (sign_blank 0 signs.Semicolon)

-- what stands behind a left side
abbrev moved_end : List Mark → Type 0
moved_end = sign 0 signs.Arrow · any side_spelling · any ending

moved_end_blank : Blank moved_end
moved_end_blank = blank_joined (sign_blank 0 signs.Arrow) (blank_joined side_blank ending_blank)

moved_of : (marks : List Mark) → (any side_spelling · moved_end) marks → any rule marks
moved_of m j =
    let k = j.second.second in
    (Moved j.first.0 k.first.0 k.second.0, rejoined j j.first.1 (rejoined j.second j.second.first (rejoined k k.first.1 k.second.1)))

-- a field stands on the left side
field_moved_of : (marks : List Mark) → (any target_spelling · moved_end) marks → any rule marks
field_moved_of m j = moved_of m (rejoined j (side.Target j.first.0, j.first.1) j.second)

paired_of : (s : StructName) (marks : List Mark) → (struct_name s · sign 0 signs.Arrow · any struct_name · sign 0 signs.Semicolon) marks → any rule marks
paired_of s m j =
    let k = j.second.second in
    (StructsPaired s k.first.0, rejoined j j.first (rejoined j.second j.second.first (rejoined k k.first.1 k.second)))

started_of : (marks : List Mark) → (keyword 0 keywords.Init · any target_spelling · any ending) marks → any rule marks
started_of m j = (Started j.second.first.0 j.second.second.0, rejoined j j.first (rejoined j.second j.second.first.1 j.second.second.1))

module _ (n : ℕ) where
  above : 0 ≤ n
  above = low n

  name_here : (symbols : List Symbol) (x : Name × List Symbol) → name_at symbols ≡ Ok x → Stands n (some_name 0) symbols x.1
  name_here symbols x r = stands_as (some_name 0) (λ m s. (x.0, s)) (name_at_stands n 0 symbols x above r)

  -- ---- sides

  field_end_fault : (s : StructName) → ReadFaults n field_end (field_behind s)
  unfolding field_behind
  field_end_fault s symbols fault e =
      parts_fault (behind signs.Dot symbols) _ fault (λ x. x) e (behind_fault n 0 signs.Dot symbols fault) (λ x r. behind_stands n 0 signs.Dot symbols x above r) (name_blank 0)
      (λ y r w. name_at_fault n 0 y fault (last_fault (name_at y) _ fault w))

  field_at_fault : (at : ℕ) (rest : List Symbol) (fault : Fault) → field_at at rest ≡ Err fault → FaultStands n (any target_spelling) (symbol.Keyword at keywords.Struct ∷ rest) fault
  unfolding field_at
  field_at_fault at rest fault e =
      fault_as (any target_spelling) (any_field_of at)
      (fault_behind (token_stands n 0 (symbol.Keyword at keywords.Struct) rest above)
      (parts_fault (name_at rest) _ fault (λ x. x.1) e (name_at_fault n 0 rest fault) (name_here rest) field_end_blank
      (λ x r w. field_end_fault (record { at = at; name = x.0 }) x.1 fault w)))

  target_at_fault : ReadFaults n (any target_spelling) target_at
  unfolding target_at
  target_at_fault (symbol.Keyword at keywords.Struct ∷ rest) fault e = field_at_fault at rest fault e
  target_at_fault symbols fault e = fault_as (any target_spelling) (λ m g. (target.Global g.0, g.1)) (name_at_fault n 0 symbols fault (last_fault (name_at symbols) _ fault e))

  -- a local breaks off behind the two colons
  named_behind_fault : (i : Name) (front symbols : List Symbol) (fault : Fault) → Stands n (name 0 i) front symbols → named_behind i symbols ≡ Err fault → FaultStands n (any side_spelling) front fault
  unfolding named_behind
  named_behind_fault i front symbols fault named e = elim (chosen (begins_sign signs.DoubleColon symbols) _ _ (Err fault) e) [
    | inl c ↦ fault_as (any side_spelling) (λ m j. (side.Local i j.second.second.0, rejoined j j.first (rejoined j.second j.second.first j.second.second.1)))
        (fault_behind named (fault_behind (begins_sign_stands n 0 signs.DoubleColon symbols above c.0) (name_at_fault n 0 (drop 1 symbols) fault (last_fault (name_at (drop 1 symbols)) _ fault c.1))))
    | inr c ↦ no_fault _ fault c.1
  ]

  -- a name that is missing could be a global
  global_missing : (symbols : List Symbol) (fault : Fault) → name_at symbols ≡ Err fault → FaultStands n (any side_spelling) symbols fault
  global_missing symbols fault e = fault_as (any side_spelling) (λ m g. (side.Target (target.Global g.0), g.1)) (name_at_fault n 0 symbols fault e)

  plain_side_fault : (symbols : List Symbol) (fault : Fault) → (name_at symbols >>= λ i. named_behind i.0 i.1) ≡ Err fault → FaultStands n (any side_spelling) symbols fault
  plain_side_fault symbols fault e = elim (bind_err (name_at symbols) _ fault e) [
    | inl w ↦ global_missing symbols fault w
    | inr i ↦ named_behind_fault i.0.0 symbols i.0.1 fault (name_at_stands n 0 symbols i.0 above i.1) i.2
  ]

  side_at_fault : ReadFaults n (any side_spelling) side_at
  unfolding side_at
  side_at_fault (symbol.Keyword at keywords.Struct ∷ rest) fault e =
      fault_as (any side_spelling) (λ m t. (side.Target t.0, t.1)) (field_at_fault at rest fault (last_fault (field_at at rest) _ fault e))
  side_at_fault symbols fault e = plain_side_fault symbols fault e

  struct_name_at_fault : ReadFaults n (any struct_name) struct_name_at
  unfolding struct_name_at
  struct_name_at_fault (symbol.Keyword at keywords.Struct ∷ rest) fault e =
      fault_as (any struct_name) (struct_of at) (fault_behind (token_stands n 0 (symbol.Keyword at keywords.Struct) rest above) (name_at_fault n 0 rest fault (last_fault (name_at rest) _ fault e)))
  struct_name_at_fault symbols fault e = unexpected_stands n (any struct_name) struct_blank.0 symbols fault struct_blank.1 e

  -- ---- rules

  paired_fault : (s : StructName) (front symbols : List Symbol) (fault : Fault) → Stands n (struct_name s) front symbols → begins_sign signs.Arrow symbols ≡ true → paired_behind s (drop 1 symbols) ≡ Err fault
      → FaultStands n (any rule) front fault
  unfolding paired_behind
  paired_fault s front symbols fault named arrow e =
      fault_as (any rule) (paired_of s)
      (fault_behind named
      (fault_behind (begins_sign_stands n 0 signs.Arrow symbols above arrow)
      (parts_fault (struct_name_at (drop 1 symbols)) _ fault (λ x. x.1) e (struct_name_at_fault (drop 1 symbols) fault) (λ x r. any_stands struct_name x.0 (struct_name_at_stands n (drop 1 symbols) x r)) (sign_blank 0 signs.Semicolon)
      (λ x r w. behind_fault n 0 signs.Semicolon x.1 fault (last_fault (behind signs.Semicolon x.1) _ fault w)))))

  module _ (law : ExprStands) (faults : ExprFaultStands) (goes_on : ExprGoesOn) where
    ending_at_fault : ReadFaults n (any ending) (ending_at n)
    unfolding ending_at
    ending_at_fault symbols fault e = elim (chosen (begins_sign signs.Semicolon symbols) _ _ (Err fault) e) [
      | inl c ↦ no_fault _ fault c.1
      | inr c ↦ fault_as (any ending) (λ m j. (Some j.second.0, rejoined j j.first j.second.1))
          (parts_fault (behind signs.Colon symbols) _ fault (λ x. x) c.1 (behind_fault n 0 signs.Colon symbols fault) (λ x r. behind_stands n 0 signs.Colon symbols x above r) code_blank
          (λ y r w. code_breaks law faults goes_on n y fault (last_fault (code_at n y) _ fault w)))
    ]

    moved_end_fault : (left : Side) → ReadFaults n moved_end (moved_behind n left)
    unfolding moved_behind
    moved_end_fault left symbols fault e =
        parts_fault (behind signs.Arrow symbols) _ fault (λ x. x) e (behind_fault n 0 signs.Arrow symbols fault) (λ x r. behind_stands n 0 signs.Arrow symbols x above r) (blank_joined side_blank ending_blank)
        (λ y r w. parts_fault (side_at y) _ fault (λ x. x.1) w (side_at_fault y fault) (λ x r. any_stands side_spelling x.0 (side_at_stands n y x r)) ending_blank
        (λ x r w. ending_at_fault x.1 fault (last_fault (ending_at n x.1) _ fault w)))

    struct_behind_fault : (s : StructName) (front symbols : List Symbol) (fault : Fault) → Stands n (struct_name s) front symbols → struct_behind n s symbols ≡ Err fault → FaultStands n (any rule) front fault
    unfolding struct_behind
    struct_behind_fault s front symbols fault named e = elim (chosen (begins_sign signs.Arrow symbols) _ _ (Err fault) e) [
      | inl c ↦ paired_fault s front symbols fault named c.0 c.1
      | inr c ↦ elim (bind_err (field_behind s symbols) _ fault c.1) [
        | inl w ↦ fault_as (any rule) field_moved_of
            (fault_before moved_end moved_end_blank.0 moved_end_blank.1 (fault_as (any target_spelling) (field_of s) (fault_behind named (field_end_fault s symbols fault w))))
        | inr f ↦ fault_as (any rule) field_moved_of
            (fault_behind (any_stands target_spelling f.0.0 (field_behind_stands n s front symbols f.0 named f.1)) (moved_end_fault (side.Target f.0.0) f.0.1 fault f.2))
      ]
    ]

    started_fault : (at : ℕ) (rest : List Symbol) (fault : Fault) → started_behind n rest ≡ Err fault → FaultStands n (any rule) (symbol.Keyword at keywords.Init ∷ rest) fault
    unfolding started_behind
    started_fault at rest fault e =
        fault_as (any rule) started_of
        (fault_behind (keyword_stands n 0 at keywords.Init rest above)
        (parts_fault (target_at rest) _ fault (λ x. x.1) e (target_at_fault rest fault) (λ x r. any_stands target_spelling x.0 (target_at_stands n rest x r)) ending_blank
        (λ x r w. ending_at_fault x.1 fault (last_fault (ending_at n x.1) _ fault w))))

    -- a rule of which no struct's name is read
    unnamed_fault : (at : ℕ) (rest : List Symbol) (fault : Fault) → name_at rest ≡ Err fault → FaultStands n (any rule) (symbol.Keyword at keywords.Struct ∷ rest) fault
    unnamed_fault at rest fault e =
        fault_as (any rule) field_moved_of
        (fault_before moved_end moved_end_blank.0 moved_end_blank.1
        (fault_as (any target_spelling) (any_field_of at)
        (fault_behind (token_stands n 0 (symbol.Keyword at keywords.Struct) rest above) (fault_before field_end field_end_blank.0 field_end_blank.1 (name_at_fault n 0 rest fault e)))))

    plain_rule_fault : (symbols : List Symbol) (fault : Fault) → (name_at symbols >>= λ i. named_behind i.0 i.1 >>= λ left. moved_behind n left.0 left.1) ≡ Err fault → FaultStands n (any rule) symbols fault
    plain_rule_fault symbols fault e = elim (bind_err (name_at symbols) _ fault e) [
      | inl w ↦ fault_as (any rule) moved_of (fault_before moved_end moved_end_blank.0 moved_end_blank.1 (global_missing symbols fault w))
      | inr i ↦
          let named = name_at_stands n 0 symbols i.0 above i.1 in
          elim (bind_err (named_behind i.0.0 i.0.1) _ fault i.2) [
            | inl w ↦ fault_as (any rule) moved_of (fault_before moved_end moved_end_blank.0 moved_end_blank.1 (named_behind_fault i.0.0 symbols i.0.1 fault named w))
            | inr l ↦ fault_as (any rule) moved_of
                (fault_behind (any_stands side_spelling l.0.0 (named_behind_stands n i.0.0 symbols i.0.1 l.0 named l.1)) (moved_end_fault l.0.0 l.0.1 fault l.2))
          ]
    ]

    rule_at_fault : ReadFaults n (any rule) (rule_at n)
    unfolding rule_at
    rule_at_fault (symbol.Keyword at keywords.Struct ∷ rest) fault e = elim (bind_err (name_at rest) _ fault e) [
      | inl w ↦ unnamed_fault at rest fault w
      | inr s ↦ struct_behind_fault (record { at = at; name = s.0.0 }) (symbol.Keyword at keywords.Struct ∷ rest) s.0.1 fault (struct_stands n at rest s.0 s.1) s.2
    ]
    rule_at_fault (symbol.Keyword at keywords.Init ∷ rest) fault e = started_fault at rest fault e
    rule_at_fault symbols fault e = plain_rule_fault symbols fault e

-- a rule file that is not read breaks off where the fault tells
pub rules_break : ExprStands → ExprFaultStands → ExprGoesOn → TextFaultStands rules rules_at
unfolding rules_at
rules_break law faults goes_on n symbols fault e = each_fault rule (rule_at n) n (rule_at_stands n law) (rule_at_fault n law faults goes_on) symbols fault e
