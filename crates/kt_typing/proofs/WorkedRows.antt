-- The worked rows, by computation.
use Rattle.std.proofs.Common.{◌≡◌, true, Option, Some, None, List, [], ◌∷◌, map, refl}
use Rattle.std.specs.List.{AllByRecursion}
use Rattle.std.specs.Option.{is_some}
use Rattle.kt_grammar.specs.Tree.{Term}
use Rattle.kt_types.specs.Layout.{layout, place_cells, struct_cells, repeated}
use Rattle.kt_typing.specs.declared.fault.Fault.{Fault}
use Rattle.kt_typing.specs.Answers.{IsRefused, IsAccepted}
use Rattle.kt_typing.specs.Environment.{Environment}
use Rattle.kt_typing.specs.First.{first_fault}
use Rattle.kt_typing.specs.Forms.{typed}
use Rattle.kt_typing.specs.Operands.{Operand}
use Rattle.kt_typing.specs.Pairs.{two_faulty_parts, own_faults}
use Rattle.kt_typing.specs.Rows.{c_file, rule_code, refused, accepted, refused_in_rules, accepted_in_rules}
use Rattle.kt_typing.specs.Terms.{effect}
use Rattle.kt_typing.proofs.Exact.{found-first}

module _ (env : Environment) where
  all-refused : (rows : List (Term × Fault)) → map (λ r. first_fault (effect env r.0)) rows ≡ map (λ r. Some r.1) rows → AllByRecursion (IsRefused env) rows
  all-refused [] e = tt
  all-refused (r ∷ rows) e = (found-first (effect env r.0) r.1 cc, all-refused rows cc)

  some-typed : (o : Option Operand) → is_some o ≡ true → (x : Operand) × (o ≡ Some x)
  some-typed (Some x) e = (x, refl)
  some-typed None e = absurd cc

  all-accepted : (rows : List Term) → map (λ e. is_some (typed (effect env e))) rows ≡ map (λ e. true) rows → AllByRecursion (IsAccepted env) rows
  all-accepted [] e = tt
  all-accepted (r ∷ rows) e = (some-typed (typed (effect env r)) cc, all-accepted rows cc)

pub refused-rows : AllByRecursion (IsRefused c_file) refused
unfolding layout place_cells struct_cells repeated
refused-rows = all-refused c_file refused refl

pub two-faulty-parts-rows : AllByRecursion (IsRefused c_file) two_faulty_parts
unfolding layout place_cells struct_cells repeated
two-faulty-parts-rows = all-refused c_file two_faulty_parts refl

pub own-faults-rows : AllByRecursion (IsRefused c_file) own_faults
unfolding layout place_cells struct_cells repeated
own-faults-rows = all-refused c_file own_faults refl

pub accepted-rows : AllByRecursion (IsAccepted c_file) accepted
unfolding layout place_cells struct_cells repeated
accepted-rows = all-accepted c_file accepted refl

pub refused-in-rules-rows : AllByRecursion (IsRefused rule_code) refused_in_rules
unfolding layout place_cells struct_cells repeated
refused-in-rules-rows = all-refused rule_code refused_in_rules refl

pub accepted-in-rules-rows : AllByRecursion (IsAccepted rule_code) accepted_in_rules
unfolding layout place_cells struct_cells repeated
accepted-in-rules-rows = all-accepted rule_code accepted_in_rules refl
