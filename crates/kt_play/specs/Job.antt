-- The job of texts and an input: the bytes of the files, what they are the text of, and the first file that is no such
-- text.
use Rattle.std.specs.Prelude.{◌≡◌, ℕ, zero, suc, List, [], ◌∷◌, length, ◌<◌, ◌≤◌, ◌⊎◌, true, false}
use Rattle.std.specs.List.{list_all}
use Rattle.kt_lex.specs.Bytes.{is_blank}
use Rattle.kt_stage.specs.Stage.{runs_alone, runs_updated}
use Rattle.kt_tree.specs.Version.{Program}
use Rattle.kt_lone.specs.Job.{Job}
use Rattle.kt_play.specs.declared.status.Cause.{Cause}
use Rattle.kt_play.specs.declared.status.Cause.TheVariants.{Later}
use Rattle.kt_play.specs.Text.{IsVersionText, IsFaultOf}

-- the most turns of a run
abbrev pub budget : ℕ
budget = 1000000

-- a file is within the limit
abbrev pub IsShort : List ℕ → Type 0
IsShort bytes = length bytes ≤ 262144

abbrev pub AreShort : List (List ℕ) → Type 0
AreShort [] = Unit {0}
AreShort (bytes ∷ files) = IsShort bytes × AreShort files

-- the input is within the limit
abbrev pub IsShortInput : List ℕ → Type 0
IsShortInput input = length input ≤ 1048576

-- a rule file without rules: spaces, tabs, carriage returns and newlines
abbrev pub IsBlankText : List ℕ → Type 0
IsBlankText bytes = list_all is_blank bytes ≡ true

-- ---- the job

-- one version runs
abbrev pub alone : Program → List ℕ → Job
alone v input = record { versions = v ∷ []; after = []; budget = budget; input = input }

-- a version and the next one, which is asked for at once
abbrev pub updated : Program → Program → List ℕ → Job
updated v w input = record { versions = v ∷ (w ∷ []); after = 0 ∷ []; budget = budget; input = input }

-- the files are a version that runs, or two that may be updated, with blank rules between them
abbrev pub IsJobOf : List (List ℕ) → List ℕ → Job → Type 0
IsJobOf [] input job = ⊥
IsJobOf (a ∷ []) input job = (v : Program) × IsVersionText a v × (runs_alone v ≡ true) × (job ≡ alone v input)
IsJobOf (a ∷ (r ∷ [])) input job = ⊥
IsJobOf (a ∷ (r ∷ (b ∷ []))) input job =
    (v : Program) × (w : Program) × IsVersionText a v × IsVersionText b w
    × (runs_updated v ≡ true) × IsBlankText r × (runs_updated w ≡ true) × (job ≡ updated v w input)
IsJobOf (a ∷ (r ∷ (b ∷ (c ∷ more)))) input job = ⊥

-- each file and the input are within their limits
pub record IsJobText (files : List (List ℕ)) (input : List ℕ) (job : Job) : Type 0 where
  pub short : AreShort files
  pub short_input : IsShortInput input
  pub text : IsJobOf files input job

-- ---- the first file that is not what it has to be

abbrev pub HasVersion : List ℕ → Type 0
HasVersion bytes = (v : Program) × IsVersionText bytes v

-- the version doesn't run so far
abbrev pub IsLaterAlone : List ℕ → Type 0
IsLaterAlone a = (v : Program) × IsVersionText a v × (runs_alone v ≡ false)

-- the least file of an update that doesn't run so far: the first version, the rules between, or the second version
abbrev pub IsLeastLater : Program → List ℕ → Program → ℕ → Type 0
IsLeastLater v r w n =
    ((n ≡ 1) × (runs_updated v ≡ false))
    ⊎ (((n ≡ 2) × (runs_updated v ≡ true) × (IsBlankText r → ⊥))
    ⊎ ((n ≡ 3) × (runs_updated v ≡ true) × IsBlankText r × (runs_updated w ≡ false)))

abbrev pub IsLaterOfThree : (a r b : List ℕ) → ℕ → Type 0
IsLaterOfThree a r b n = (v : Program) × (w : Program) × IsVersionText a v × IsVersionText b w × IsLeastLater v r w n

-- version files are judged in their order, and then what of the files doesn't run so far
abbrev pub IsOutsideOfThree : (a r b : List ℕ) → ℕ → Cause → Type 0
IsOutsideOfThree a r b n cause =
    ((n ≡ 1) × IsFaultOf a cause)
    ⊎ (((n ≡ 3) × HasVersion a × IsFaultOf b cause)
    ⊎ ((cause ≡ Later 0) × IsLaterOfThree a r b n))

abbrev pub IsOutside : List (List ℕ) → ℕ → Cause → Type 0
IsOutside [] n cause = ⊥
IsOutside (a ∷ []) n cause = (n ≡ 1) × (IsFaultOf a cause ⊎ ((cause ≡ Later 0) × IsLaterAlone a))
IsOutside (a ∷ (r ∷ [])) n cause = ⊥
IsOutside (a ∷ (r ∷ (b ∷ []))) n cause = IsOutsideOfThree a r b n cause
IsOutside (a ∷ (r ∷ (b ∷ (c ∷ more)))) n cause = ⊥

-- no file is too long, and the file of that number is the first that is not what it has to be, for this cause
abbrev pub IsFirstOutside : List (List ℕ) → ℕ → Cause → Type 0
IsFirstOutside files n cause = AreShort files × IsOutside files n cause

-- the file of that number is the first that passes the limit
abbrev pub IsFirstLong : List (List ℕ) → ℕ → Type 0
IsFirstLong [] n = ⊥
IsFirstLong (bytes ∷ files) zero = ⊥
IsFirstLong (bytes ∷ files) (suc zero) = 262144 < length bytes
IsFirstLong (bytes ∷ files) (suc (suc n)) = IsShort bytes × IsFirstLong files (suc n)
