-- The worked rows, by computation.
use Rattle.std.proofs.Common.{◌≡◌, true, Option, Some, None, List, [], ◌∷◌, map, refl}
use Rattle.std.specs.List.{AllByRecursion}
use Rattle.std.specs.Option.{is_some}
use Rattle.kt_syntax.specs.Tree.{Statement}
use Rattle.kt_types.specs.Layout.{layout, place_cells, struct_cells, repeated}
use Rattle.kt_typing.specs.declared.fault.Fault.{Fault}
use Rattle.kt_program.specs.Judgments.{made, first_wrong}
use Rattle.kt_program.specs.Made.{Made}
use Rattle.kt_program.specs.Rows.{judged, body, noted_body, void_body, IsRefused, IsAccepted, refused, accepted, refused_noted, refused_void, accepted_void}
use Rattle.kt_program.specs.Scopes.{Body}
use Rattle.kt_program.proofs.Exact.{found-first}

module _ (b : Body) where
  all-refused : (rows : List (List Statement × Fault)) → map (λ r. first_wrong (judged b r.0)) rows ≡ map (λ r. Some r.1) rows → AllByRecursion (IsRefused b) rows
  all-refused [] e = tt
  all-refused (r ∷ rows) e = (found-first (judged b r.0) r.1 cc, all-refused rows cc)

  some-made : (o : Option Made) → is_some o ≡ true → (m : Made) × (o ≡ Some m)
  some-made (Some m) e = (m, refl)
  some-made None e = absurd cc

  all-accepted : (rows : List (List Statement)) → map (λ es. is_some (made (judged b es))) rows ≡ map (λ es. true) rows → AllByRecursion (IsAccepted b) rows
  all-accepted [] e = tt
  all-accepted (r ∷ rows) e = (some-made (made (judged b r)) cc, all-accepted rows cc)

pub refused-rows : AllByRecursion (IsRefused body) refused
unfolding layout place_cells struct_cells repeated
refused-rows = all-refused body refused refl

pub accepted-rows : AllByRecursion (IsAccepted body) accepted
unfolding layout place_cells struct_cells repeated
accepted-rows = all-accepted body accepted refl

pub refused-noted-rows : AllByRecursion (IsRefused noted_body) refused_noted
unfolding layout place_cells struct_cells repeated
refused-noted-rows = all-refused noted_body refused_noted refl

pub refused-void-rows : AllByRecursion (IsRefused void_body) refused_void
unfolding layout place_cells struct_cells repeated
refused-void-rows = all-refused void_body refused_void refl

pub accepted-void-rows : AllByRecursion (IsAccepted void_body) accepted_void
unfolding layout place_cells struct_cells repeated
accepted-void-rows = all-accepted void_body accepted_void refl
