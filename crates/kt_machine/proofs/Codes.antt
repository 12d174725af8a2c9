-- The codes of a job's versions, by number.
use Rattle.std.specs.Prelude.{◌≡◌, ℕ, ◌<◌, List, length, Some, slice_get}
use Rattle.std.specs.Option.{option_map}
use Rattle.std.proofs.Common.{arith, sym, ap, ◌∙◌}
use Rattle.std.proofs.lemmas.List.{length-map}
use Rattle.std.proofs.lemmas.Option.{slice_get-map, slice_get_within}
use Rattle.kt_tree.specs.Version.{Program}
use Rattle.kt_pair.specs.Pair.{Pair}
use Rattle.kt_lone.specs.Job.{Job, version_at, types_at, types_of}
use Rattle.kt_machine.specs.Engine.{AreCodesOf}

module _ (job : Job) (codes : List Pair) (are : AreCodesOf job codes) where
  pub version-in : (v : ℕ) (c : Pair) → slice_get codes v ≡ Some c → version_at job v ≡ Some c.program
  version-in v c is =
      ap (λ (l : List Program). slice_get l v) (sym are.versions) ∙ slice_get-map (λ (c : Pair). c.program) codes v
      ∙ ap (option_map (λ (c : Pair). c.program)) is

  pub types-in : (v : ℕ) (c : Pair) → slice_get codes v ≡ Some c → types_at job v ≡ c.program.types
  types-in v c is = ap types_of (version-in v c is)

  pub as-many : length codes ≡ length job.versions
  as-many = sym (length-map codes (λ (c : Pair). c.program)) ∙ ap (λ (l : List Program). length l) are.versions

  -- a version of the job has its code
  pub code-within : (v : ℕ) (p : Program) → version_at job v ≡ Some p → v < length codes
  code-within v p is =
      let within = slice_get_within job.versions v p is in
      let many = as-many in
      omega arith

  -- the code of the version of that number is that of this program
  pub same-program : (v : ℕ) (c : Pair) (p : Program) → slice_get codes v ≡ Some c → version_at job v ≡ Some p → c.program ≡ p
  same-program v c p is version = let known = version-in v c is in cc
