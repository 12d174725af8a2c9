-- The machine stands for the world of the turns that it has taken.
use Rattle.std.specs.Prelude.{◌≡◌, ℕ, zero, suc, ◌+◌, ◌-◌, ◌<◌, ◌≤◌, ◌==◌, List, length, Option, Some, None, slice_get, Bool, true, false, ◌||◌, replicate, refl}
use Rattle.std.proofs.Common.{arith, sym, subst, ap, ◌∙◌, inl, inr}
use Rattle.std.proofs.lemmas.Bool.{false≢true, and_parts}
use Rattle.std.proofs.lemmas.Bool.Decides.{eqb_tells}
use Rattle.std.proofs.lemmas.List.{length-map}
use Rattle.kt_meaning.specs.Laws.{IsShared}
use Rattle.kt_meaning.specs.Thread as tree
use Rattle.kt_code.specs.declared.private.Private.{Private}
use Rattle.kt_heap.specs.Heap as heap
use Rattle.kt_pair.specs.Pair.{Pair}
use Rattle.kt_lone.specs.declared.mark.End.{End}
use Rattle.kt_lone.specs.declared.mark.Mark.{Mark}
use Rattle.kt_lone.specs.Job.{Job}
use Rattle.kt_lone.specs.Laws.{AreTurnsOf}
use Rattle.kt_lone.specs.Turn.{act_of, acted, is_live, enabled_as, turn, first_world, world_from, world, tree_engine, MayTurn, MayTurnAll}
use Rattle.kt_lone.specs.Typed.{IsTypedJob}
use Rattle.kt_lone.specs.TypedWorlds.{IsSettledWorld, settled-kept, settled-IsTypedWorld, world-settled}
use Rattle.kt_lone.specs.World.{Shared, Thread, World, outside_of}
use Rattle.kt_machine.specs.declared.machine.Machine.{Machine}
use Rattle.kt_machine.specs.declared.machine.Standing as declared
use Rattle.kt_machine.specs.declared.machine.Standing.TheVariants as standing
use Rattle.kt_machine.specs.Acts.{turned}
use Rattle.kt_machine.specs.Engine.{code_engine, pairs_of, standing_of, thread_of, without_ended, world_of, AreCodesOf, IsReady, IsSettled}
use Rattle.kt_machine.specs.Report.{HasRun}
use Rattle.kt_machine.specs.Same.{IsSameWorld}
use Rattle.kt_machine.specs.Shared.{shared_of}
use Rattle.kt_machine.proofs.SameRuns.{first-same, turned-same, enabled-same, ready}
use Rattle.kt_machine.proofs.UnderWay.{IsOpen, first-open, first-turns, rest-open, rest-turns, worlds-version}

-- the world after n turns of thread 0
abbrev pub after : Job → ℕ → World tree.Thread
after job n = world job (replicate n 0)

-- the machine stands for the world after n turns, and where it has not ended, its thread may take one more
pub record HasReached (job : Job) (codes : List Pair) (m : Machine) (n : ℕ) : Type 0 where
  pub may_turn : AreTurnsOf job (replicate n 0)
  pub stands : IsSameWorld codes (after job n) (world_of m)
  pub settled : IsSettled codes m
  pub going : IsOpen (code_engine codes) job (world_of m)
  pub turns : m.shared.turns ≡ n
  pub few : n ≤ job.budget

-- the machine stands for the world after its turns
abbrev pub IsUnderWay : Job → List Pair → Machine → Type 0
IsUnderWay job codes m = HasReached job codes m m.shared.turns

-- ---- turns of thread 0

module _ (job : Job) where
  after-suc : (w : World tree.Thread) (n : ℕ) →
      world_from (tree_engine job) job w (replicate (suc n) 0) ≡ turn (tree_engine job) job (world_from (tree_engine job) job w (replicate n 0)) 0
  after-suc w zero = refl
  after-suc w (suc n) = after-suc (turn (tree_engine job) job w 0) n

  may_turn-suc : (w : World tree.Thread) (n : ℕ) → MayTurnAll (tree_engine job) job w (replicate n 0) →
      MayTurn (tree_engine job) (world_from (tree_engine job) job w (replicate n 0)) 0 → MayTurnAll (tree_engine job) job w (replicate (suc n) 0)
  may_turn-suc w zero all last = (last, tt)
  may_turn-suc w (suc n) all last = (all.0, may_turn-suc (turn (tree_engine job) job w 0) n all.1 last)

-- ---- the act of a turn leaves typed memory, input and output

acted-found : (job : Job) (typed : IsTypedJob job) (w : World tree.Thread) → MayTurn (tree_engine job) w 0 → IsSettledWorld job w →
    (o : Option (Thread tree.Thread)) → slice_get w.threads 0 ≡ o → IsShared (outside_of (act_of (tree_engine job) job w 0 o).shared)
acted-found job typed w may h None at = h.shared
acted-found job typed w may h (Some th) at = ((settled-kept job typed).act w 0 th at may h).shared

acted-typed : (job : Job) → IsTypedJob job → (w : World tree.Thread) → MayTurn (tree_engine job) w 0 → IsSettledWorld job w →
    IsShared (outside_of (acted (tree_engine job) job w 0).shared)
acted-typed job typed w may h = acted-found job typed w may h (slice_get w.threads 0) refl

-- ---- small facts

or-false : (b : Bool) → (b || false) ≡ true → b ≡ true
or-false true h = refl
or-false false h = h

lives : (s : declared.Standing) → is_live (standing_of s) ≡ true → s ≡ standing.Live
lives standing.Live h = refl
lives standing.Parked h = absurd (false≢true h)
lives standing.Ended h = absurd (false≢true h)

fewer : (a b : ℕ) → a ≤ b → (a == b) ≡ false → a < b
fewer a b h tells = elim (eqb_tells a b) [ inl is ↦ absurd cc | inr is_not ↦ less a b h is_not.1 ]
  where
    less : (a b : ℕ) → a ≤ b → (a ≡ b → ⊥) → a < b
    less a b h k = omega (arith, k)

-- ---- the machine

module _ (job : Job) (codes : List Pair) (are : AreCodesOf job codes) (typed : IsTypedJob job) where
  codes-length : length codes ≡ length job.versions
  codes-length = sym (length-map codes (λ c. c.program)) ∙ ap length are.versions

  module _ (m : Machine) (r : IsUnderWay job codes m) where
    -- the version in force is one of the job's
    pub version-within : 0 < length job.versions → m.shared.version < length codes
    version-within some =
        let w = after job m.shared.turns in
        let within : w.shared.version < length job.versions =
        worlds-version (tree_engine job) job some (replicate m.shared.turns 0) r.may_turn in
        let same : w.shared.version ≡ m.shared.version = ap (λ (s : Shared). s.version) r.stands.shared in
        omega (arith, codes-length)

    module _ (on : m.shared.ended ≡ None) where
      enabled : enabled_as (code_engine codes) (shared_of m.shared) 0 (thread_of m) ≡ true
      enabled = or-false (enabled_as (code_engine codes) (shared_of m.shared) 0 (thread_of m)) (r.going on).some

      -- its thread lives
      pub live : m.standing ≡ standing.Live
      live =
          let outer = and_parts _ _ enabled in
          let inner = and_parts _ _ outer.0 in
          lives m.standing inner.0

      few-left : m.shared.turns < job.budget
      few-left = fewer m.shared.turns job.budget r.few (r.going on).unspent

      may_turn : MayTurn (tree_engine job) (after job m.shared.turns) 0
      may_turn =
          (enabled-same job codes are typed (after job m.shared.turns) (world_of m) 0 r.stands ∙ enabled, ap (λ (s : Shared). s.ended) r.stands.shared ∙ on)

      pub is_ready : heap.AreOneToOne (pairs_of m) → IsReady job codes m
      is_ready once =
          let w = after job m.shared.turns in
          let settled = world-settled job typed (replicate m.shared.turns 0) r.may_turn in
          ready job codes are typed w m once r.stands (settled-IsTypedWorld job w settled) (acted-typed job typed w may_turn settled) may_turn live r.settled

      -- the world after one turn more
      reached : (m' : Machine) → world_of m' ≡ turned (code_engine codes) job (world_of m) → IsSettled codes m' →
          HasReached job codes m' (suc m.shared.turns)
      reached m' now settled =
          let n = m.shared.turns in
          let first = first_world (tree_engine job) job in
          let few = few-left in
          let turns : m'.shared.turns ≡ n + 1 =
          ap (λ (w : World Private). w.shared.turns) now
          ∙ rest-turns (code_engine codes) job (world_of m) (without_ended (acted (code_engine codes) job (world_of m) 0)) 0 refl in
          record {
            may_turn = may_turn-suc job first n r.may_turn may_turn;
            stands =
                subst (λ (w : World tree.Thread). IsSameWorld codes w (world_of m')) (sym (after-suc job first n))
                (subst (λ (v : World Private). IsSameWorld codes (turn (tree_engine job) job (after job n) 0) v) (sym now)
                (turned-same job codes are typed (after job n) (world_of m) r.stands
                (world-settled job typed (replicate n 0) r.may_turn).shared may_turn));
            settled = settled;
            going = subst (IsOpen (code_engine codes) job) (sym now) (rest-open (code_engine codes) job (without_ended (acted (code_engine codes) job (world_of m) 0)));
            turns = omega arith;
            few = omega arith;
          }

      pub under-way : (m' : Machine) → world_of m' ≡ turned (code_engine codes) job (world_of m) → IsSettled codes m' → IsUnderWay job codes m'
      under-way m' now settled =
          let k = reached m' now settled in
          subst (HasReached job codes m') (sym k.turns) k

      -- fewer turns are left
      pub nearer : (m' : Machine) → world_of m' ≡ turned (code_engine codes) job (world_of m) → IsSettled codes m' →
          job.budget - m'.shared.turns < job.budget - m.shared.turns
      nearer m' now settled =
          let turns = (reached m' now settled).turns in
          let few = few-left in
          omega arith

    -- what a machine that has ended has done
    pub ran : (turns : ℕ) (how : End) (output : List ℕ) (marks : List Mark) → m.shared.ended ≡ Some how → turns ≡ m.shared.turns →
        output ≡ m.shared.outside.output → marks ≡ m.shared.marks → HasRun job turns how output marks
    ran turns how output marks over e_turns e_output e_marks =
        subst (λ k. HasRun job k how output marks) (sym e_turns)
        (record {
          complete = record { may_turn = r.may_turn; ended = ap (λ (s : Shared). s.ended) r.stands.shared ∙ over };
          output_is = e_output ∙ ap (λ (s : Shared). s.output) (sym r.stands.shared);
          marks_are = e_marks ∙ ap (λ (s : Shared). s.marks) (sym r.stands.shared);
        })

  -- before the first turn
  pub at_first : (m : Machine) → world_of m ≡ first_world (code_engine codes) job → IsSettled codes m → IsUnderWay job codes m
  at_first m now settled =
      let turns : m.shared.turns ≡ 0 = ap (λ (w : World Private). w.shared.turns) now ∙ first-turns (code_engine codes) job in
      subst (HasReached job codes m) (sym turns) (record {
        may_turn = tt;
        stands = subst (λ (v : World Private). IsSameWorld codes (first_world (tree_engine job) job) v) (sym now) (first-same job codes are typed);
        settled = settled;
        going = subst (IsOpen (code_engine codes) job) (sym now) (first-open (code_engine codes) job);
        turns = turns;
        few = omega arith;
      })
