-- A machine's closing is the world's.
use Rattle.std.specs.Prelude.{◌≡◌, ℕ, ◌+◌, List, [], ◌∷◌, Option, None, Some, is_none, option_and_then, slice_get, if◌then◌else◌, refl}
use Rattle.std.proofs.Common.{sym, ap, ◌∙◌}
use Rattle.kt_mem.specs.declared.steps.Act.TheVariants as act
use Rattle.kt_mem.specs.declared.thread.Mode.TheVariants.{Updating}
use Rattle.kt_tree.specs.Version.{Program}
use Rattle.kt_code.specs.declared.private.Private.{Private}
use Rattle.kt_pair.specs.Pair.{Pair}
use Rattle.kt_lone.specs.Update.{closed_between, decided, new_point, next_point, refused, updated, updating_from}
use Rattle.kt_lone.specs.World.{Engine, Live, Parked, Ended, Shared, Standing, Thread, World}
use Rattle.kt_code.specs.Settling as settling
use Rattle.kt_code.specs.declared.private.Head.{Head}
use Rattle.kt_code.specs.declared.private.Head.TheVariants as head
use Rattle.kt_mem.specs.Renaming.{Pairs}
use Rattle.kt_machine.specs.declared.machine.Machine.{Machine}
use Rattle.kt_machine.specs.declared.machine.Standing as declared
use Rattle.kt_machine.specs.declared.machine.Standing.TheVariants as standing
use Rattle.kt_machine.specs.Acts.{step_of}
use Rattle.kt_machine.specs.Closing.{old_point, with_restart}
use Rattle.kt_machine.specs.ByNumber.{head_by, private_by}
use Rattle.kt_machine.specs.Engine.{code_engine, code_entry, code_settle, no_frames, pairs_of, standing_of, world_of}
use Rattle.kt_machine.specs.Outside.{pairs_in}
use Rattle.kt_machine.specs.Shared as machine
use Rattle.kt_machine.specs.Shared.{shared_of}
use Rattle.kt_machine.proofs.Heads.{IsStepAt, point-at}
use Rattle.kt_machine.proofs.Entries.{private-same}

module _ {X : Type 0} (e : Engine X) (old new : Program) (s : Shared) (x : X) where
  abbrev standing_as : Standing → World X
  standing_as standing = record { shared = s; threads = record { state = x; standing = standing } ∷ [] }

  abbrev goes_to : Option ℕ → Thread X
  goes_to q = record { state = e.settle (s.version + 1) (e.entry (s.version + 1) (updating_from q)); standing = Live }

  -- the point is found
  pub closed-restart : (p : ℕ) → next_point old new (e.step s.version x) ≡ Some p →
      closed_between e (Some old) (Some new) (standing_as Parked) ≡ with_restart e old new p (standing_as Parked)
  closed-restart p is =
      ap (λ q. decided e old new (if is_none q then Some 0 else None) (standing_as Parked)) is
      ∙ ap (λ (q : Option ℕ). record { shared = (updated e old new (standing_as Parked)).shared; threads = goes_to q ∷ [] }) is

  -- or it is lost
  pub closed-refuse : next_point old new (e.step s.version x) ≡ None →
      closed_between e (Some old) (Some new) (standing_as Parked) ≡ refused e 0 (standing_as Parked)
  closed-refuse is = ap (λ q. decided e old new (if is_none q then Some 0 else None) (standing_as Parked)) is

  -- a thread that has ended has no point
  pub closed-ended : closed_between e (Some old) (Some new) (standing_as Ended) ≡ updated e old new (standing_as Ended)
  closed-ended = refl

-- ---- of a machine

-- a point is no heap name
point-by : (ps : Pairs) (h : Head) → old_point (head_by ps h) ≡ old_point h
point-by ps (head.Act (act.Point p)) = refl
point-by ps (head.Act a) = refl
point-by ps (head.Trap t) = refl

module _ (codes : List Pair) (old new : Program) (m n : Machine) where
  abbrev the_engine : Engine Private
  the_engine = code_engine codes

  abbrev as_if : declared.Standing → World Private
  as_if s = record { shared = shared_of m.shared; threads = record { state = private_by (pairs_of m) m.private; standing = standing_of s } ∷ [] }

  abbrev found : Option ℕ
  found = option_and_then (new_point old new) (old_point m.head)

  point-found : IsStepAt (head_by (pairs_of m) m.head) (step_of codes m) → (q : Option ℕ) → q ≡ found → next_point old new (step_of codes m) ≡ q
  point-found k q is =
      ap (option_and_then (new_point old new)) (point-at (head_by (pairs_of m) m.head) (step_of codes m) k ∙ point-by (pairs_of m) m.head) ∙ sym is

  pub decided-restart : m.standing ≡ standing.Parked → IsStepAt (head_by (pairs_of m) m.head) (step_of codes m) → (q : Option ℕ) (p : ℕ) → q ≡ found → q ≡ Some p →
      world_of n ≡ with_restart the_engine old new p (world_of m) → world_of n ≡ closed_between the_engine (Some old) (Some new) (world_of m)
  decided-restart parked k q p is some after =
      after ∙ ap (λ s. with_restart the_engine old new p (as_if s)) parked
      ∙ sym (ap (λ s. closed_between the_engine (Some old) (Some new) (as_if s)) parked
      ∙ closed-restart the_engine old new (shared_of m.shared) (private_by (pairs_of m) m.private) p (point-found k q is ∙ some))

  pub decided-refuse : m.standing ≡ standing.Parked → IsStepAt (head_by (pairs_of m) m.head) (step_of codes m) → (q : Option ℕ) → q ≡ found → q ≡ None →
      world_of n ≡ refused the_engine 0 (world_of m) → world_of n ≡ closed_between the_engine (Some old) (Some new) (world_of m)
  decided-refuse parked k q is none after =
      after ∙ ap (λ s. refused the_engine 0 (as_if s)) parked
      ∙ sym (ap (λ s. closed_between the_engine (Some old) (Some new) (as_if s)) parked
      ∙ closed-refuse the_engine old new (shared_of m.shared) (private_by (pairs_of m) m.private) (point-found k q is ∙ none))

  pub decided-ended : m.standing ≡ standing.Ended → shared_of n.shared ≡ (updated the_engine old new (world_of m)).shared →
      n ≡ record m { shared = n.shared } → m.private ≡ no_frames m.private.version m.private.mode →
      world_of n ≡ closed_between the_engine (Some old) (Some new) (world_of m)
  decided-ended ended is keeps nothing =
      ap world_of keeps
      ∙ ap (λ (x : Private). record { shared = shared_of n.shared; threads = record { state = x; standing = standing_of m.standing } ∷ [] })
      (ap (λ (x : Private). private_by (pairs_of n) x) nothing ∙ sym (ap (λ (x : Private). private_by (pairs_of m) x) nothing))
      ∙ ap (λ (s : Shared). record { shared = s; threads = record { state = private_by (pairs_of m) m.private; standing = standing_of m.standing } ∷ [] }) is
      ∙ ap (λ s. record { shared = (updated the_engine old new (as_if s)).shared; threads = record { state = private_by (pairs_of m) m.private; standing = standing_of s } ∷ [] }) ended
      ∙ sym (ap (λ s. closed_between the_engine (Some old) (Some new) (as_if s)) ended)

  abbrev restarted_with : Shared → Private → World Private
  restarted_with s x = record { shared = s; threads = record { state = x; standing = Live } ∷ [] }

  -- the thread begins anew
  pub restart-world : (s : machine.Shared) (x : Private) (h : Head) (p : ℕ) (c : Pair) → pairs_in s.outside ≡ [] → shared_of s ≡ (updated the_engine old new (world_of m)).shared →
      slice_get codes (m.shared.version + 1) ≡ Some c →
      x ≡ settling.settle c.code (code_entry (m.shared.version + 1) (Updating p) (Some c)) →
      world_of (record { shared = s; private = x; head = h; standing = standing.Live }) ≡ with_restart the_engine old new p (world_of m)
  restart-world s x h p c none is found at_entry =
      ap (λ (y : Private). restarted_with (shared_of s) y) (ap (λ (ps : Pairs). private_by ps x) none ∙ private-same x)
      ∙ ap (λ (s : Shared). restarted_with s x) is
      ∙ ap (λ (x : Private). restarted_with (updated the_engine old new (world_of m)).shared x)
      (at_entry ∙ sym (ap (λ (o : Option Pair). code_settle o (code_entry (m.shared.version + 1) (Updating p) o)) found))
