-- The worked rows of files, by computation.
use Rattle.std.proofs.Common.{◌≡◌, true, Option, Some, None, List, [], ◌∷◌, map, refl}
use Rattle.std.specs.List.{AllByRecursion}
use Rattle.std.specs.Option.{is_some}
use Rattle.kt_syntax.specs.Tree.{Tree, External}
use Rattle.kt_tree.specs.Version.{Program}
use Rattle.kt_types.specs.Layout.{layout, place_cells, struct_cells, repeated}
use Rattle.kt_typing.specs.declared.fault.Fault.{Fault}
use Rattle.kt_typing.specs.Faults.{IsFirst}
use Rattle.kt_program.specs.FileRows.{IsRefusedFile, IsAcceptedFile, refused_files, accepted_files}
use Rattle.kt_program.specs.Files.{file}
use Rattle.kt_program.specs.Fragments.{tree}
use Rattle.kt_program.specs.Judgments.{made, first_wrong}
use Rattle.kt_program.specs.Made.{Made}
use Rattle.kt_program.specs.MainRows.{with_main, IsRefusedInMain, IsAcceptedInMain, refused_in_main, accepted_in_main}
use Rattle.kt_program.specs.ProgramRow.{small, small_program}
use Rattle.kt_program.specs.Programs.{program_of, program_made, IsTyped, IsFaultOf}
use Rattle.kt_program.proofs.Exact.{found-first}

module _ {A : Type 0} (t : A → Tree) where
  all-refused : (rows : List (A × Fault)) → map (λ r. first_wrong (file (t r.0))) rows ≡ map (λ r. Some r.1) rows
      → AllByRecursion (λ r. IsFirst (IsFaultOf (t r.0)) r.1) rows
  all-refused [] e = tt
  all-refused (r ∷ rows) e = (found-first (file (t r.0)) r.1 cc, all-refused rows cc)

  some-program : (xs : List External) (o : Option Made) → is_some o ≡ true → (p : Program) × (program_made xs o ≡ Some p)
  some-program xs (Some m) e = (program_of xs m, refl)
  some-program xs None e = absurd cc

  all-accepted : (rows : List A) → map (λ r. is_some (made (file (t r)))) rows ≡ map (λ r. true) rows
      → AllByRecursion (λ r. (p : Program) × IsTyped (t r) p) rows
  all-accepted [] e = tt
  all-accepted (r ∷ rows) e = (some-program (t r).externals (made (file (t r))) cc, all-accepted rows cc)

pub refused-file-rows : AllByRecursion IsRefusedFile refused_files
unfolding layout place_cells struct_cells repeated
refused-file-rows = all-refused (λ r. tree r.0 r.1) refused_files refl

pub accepted-file-rows : AllByRecursion IsAcceptedFile accepted_files
unfolding layout place_cells struct_cells repeated
accepted-file-rows = all-accepted (λ r. tree r.0 r.1) accepted_files refl

pub refused-in-main-rows : AllByRecursion IsRefusedInMain refused_in_main
unfolding layout place_cells struct_cells repeated
refused-in-main-rows = all-refused with_main refused_in_main refl

pub accepted-in-main-rows : AllByRecursion IsAcceptedInMain accepted_in_main
unfolding layout place_cells struct_cells repeated
accepted-in-main-rows = all-accepted with_main accepted_in_main refl

pub small-typed : IsTyped small small_program
unfolding layout place_cells struct_cells repeated
small-typed = refl
