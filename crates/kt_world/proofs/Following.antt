-- A longer list of turns goes on from the world of the shorter one.
use Rattle.std.specs.Prelude.{◌≡◌, ℕ, List, [], ◌∷◌, ◌++◌, Option, None, Some, true, ◌&&◌, not, slice_get, refl}
use Rattle.std.proofs.Common.{subst}
use Rattle.std.proofs.lemmas.Bool.{false≢true, and_parts, eqb-true}
use Rattle.kt_phase.specs.declared.counters.Phase.TheVariants.{Main}
use Rattle.kt_world.specs.Job.{Job}
use Rattle.kt_world.specs.Laws.{OneMoreMayBeTaken, OneMoreIsTheNext, MainIsAlone}
use Rattle.kt_world.specs.Trees.{tree_engine, world}
use Rattle.kt_world.specs.Turns.{MayTurn, MayTurnAll, first_world, turn, world_from}
use Rattle.kt_world.specs.Waiting.{enabled_if, is_turnable, is_waiting}
use Rattle.kt_world.specs.World.{Engine, Thread, World, takes_turns}

module _ {X : Type 0} (e : Engine X) (job : Job) where
  pub world_from-append : (turns more : List ℕ) (w : World X) →
      world_from e job w (turns ++ more) ≡ world_from e job (world_from e job w turns) more
  unfolding world_from
  world_from-append [] more w = refl
  world_from-append (t ∷ turns) more w = world_from-append turns more (turn e job w t)

  -- turns that may be taken, and more that may be taken after them
  append : (turns more : List ℕ) (w : World X) → MayTurnAll e job w turns → MayTurnAll e job (world_from e job w turns) more →
      MayTurnAll e job w (turns ++ more)
  unfolding world_from
  append [] more w may after = after
  append (t ∷ turns) more w may after = (may.0, append turns more (turn e job w t) may.1 after)

  -- and the other way round
  front : (turns more : List ℕ) (w : World X) → MayTurnAll e job w (turns ++ more) → MayTurnAll e job w turns
  front [] more w may = tt
  front (t ∷ turns) more w may = (may.0, front turns more (turn e job w t) may.1)

  back : (turns more : List ℕ) (w : World X) → MayTurnAll e job w (turns ++ more) → MayTurnAll e job (world_from e job w turns) more
  unfolding world_from
  back [] more w may = may
  back (t ∷ turns) more w may = back turns more (turn e job w t) may.1

  last : (turns : List ℕ) (t : ℕ) (w : World X) → MayTurnAll e job w (turns ++ t ∷ []) → MayTurn e (world_from e job w turns) t
  last turns t w may = (back turns (t ∷ []) w may).0

  one-more : (turns : List ℕ) (t : ℕ) (w : World X) → world_from e job w (turns ++ t ∷ []) ≡ turn e job (world_from e job w turns) t
  unfolding world_from
  one-more turns t w = world_from-append turns (t ∷ []) w

-- a thread that may take a turn is let in by the phase
turnable : {X : Type 0} (e : Engine X) (w : World X) (t : ℕ) (o : Option (Thread X)) → enabled_if e w t o ≡ true → is_turnable w.shared.phase t ≡ true
turnable e w t None may = absurd (false≢true may)
turnable e w t (Some th) may =
    let waits = not (is_waiting w t (e.step w.shared.version th.state)) in
    let outer = and_parts (takes_turns th.standing && is_turnable w.shared.phase t) waits may in
    (and_parts (takes_turns th.standing) (is_turnable w.shared.phase t) outer.0).1

pub alone : {X : Type 0} (e : Engine X) (w : World X) (t : ℕ) → w.shared.phase ≡ Main → MayTurn e w t → t ≡ 0
alone e w t on_its_way may =
    eqb-true t 0 (subst (λ phase. is_turnable phase t ≡ true) on_its_way (turnable e w t (slice_get w.threads t) may.enabled))

pub one-more-may : (job : Job) (turns : List ℕ) → OneMoreMayBeTaken job turns
one-more-may job turns t =
    let e = tree_engine job in
    let first = first_world e job in (
      λ may. (front e job turns (t ∷ []) first may, last e job turns t first may),
      λ both. append e job turns (t ∷ []) first both.0 (both.1, tt),
    )

pub one-more-next : (job : Job) (turns : List ℕ) → OneMoreIsTheNext job turns
one-more-next job turns t = one-more (tree_engine job) job turns t (first_world (tree_engine job) job)

pub main-alone : (job : Job) (turns : List ℕ) → MainIsAlone job turns
main-alone job turns t may on_its_way = alone (tree_engine job) (world job turns) t on_its_way ((one-more-may job turns t).0 may).1
