-- Laws of lists of turns: a longer list goes on from the world of the shorter one.
use Rattle.std.specs.Prelude.{◌≡◌, ◌↔◌, ℕ, List, [], ◌∷◌, ◌++◌, Option, None, Some, true, ◌&&◌, not, slice_get, refl}
use Rattle.std.proofs.Common.{subst}
use Rattle.std.proofs.lemmas.Bool.{false≢true, and_parts, eqb-true}
use Rattle.kt_lone.specs.declared.mark.Phase.TheVariants.{Main}
use Rattle.kt_lone.specs.Job.{Job}
use Rattle.kt_lone.specs.World.{Engine, Shared, Thread, World}
use Rattle.kt_lone.specs.Turn.{is_live, is_turnable, is_waiting, enabled_if, turn, first_world, world_from, MayTurn, MayTurnAll, tree_engine, world}

module _ {X : Type 0} (e : Engine X) (job : Job) where
  pub world_from-append : (turns more : List ℕ) (w : World X) →
      world_from e job w (turns ++ more) ≡ world_from e job (world_from e job w turns) more
  world_from-append [] more w = refl
  world_from-append (t ∷ turns) more w = world_from-append turns more (turn e job w t)

  -- turns that may be taken, and more that may be taken after them
  pub MayTurnAll-append : (turns more : List ℕ) (w : World X) → MayTurnAll e job w turns →
      MayTurnAll e job (world_from e job w turns) more → MayTurnAll e job w (turns ++ more)
  MayTurnAll-append [] more w may after = after
  MayTurnAll-append (t ∷ turns) more w may after = (may.0, MayTurnAll-append turns more (turn e job w t) may.1 after)

  -- and the other way round
  pub MayTurnAll-front : (turns more : List ℕ) (w : World X) → MayTurnAll e job w (turns ++ more) → MayTurnAll e job w turns
  MayTurnAll-front [] more w may = tt
  MayTurnAll-front (t ∷ turns) more w may = (may.0, MayTurnAll-front turns more (turn e job w t) may.1)

  pub MayTurnAll-back : (turns more : List ℕ) (w : World X) → MayTurnAll e job w (turns ++ more) →
      MayTurnAll e job (world_from e job w turns) more
  MayTurnAll-back [] more w may = may
  MayTurnAll-back (t ∷ turns) more w may = MayTurnAll-back turns more (turn e job w t) may.1

  -- the last turn
  pub MayTurnAll-last : (turns : List ℕ) (t : ℕ) (w : World X) → MayTurnAll e job w (turns ++ t ∷ []) →
      MayTurn e (world_from e job w turns) t
  MayTurnAll-last turns t w may = (MayTurnAll-back turns (t ∷ []) w may).0

-- a thread that may take a turn lives, is let in by the phase, and doesn't wait
pub enabled-parts : {X : Type 0} (e : Engine X) (s : Shared) (t : ℕ) (o : Option (Thread X)) → enabled_if e s t o ≡ true →
    (th : Thread X) × (o ≡ Some th) × (is_live th.standing ≡ true) × (is_turnable s.phase t ≡ true)
    × (not (is_waiting s.memory t (e.step s.version th.state)) ≡ true)
enabled-parts e s t None may = absurd (false≢true may)
enabled-parts e s t (Some th) may =
    let waits = not (is_waiting s.memory t (e.step s.version th.state)) in
    let outer = and_parts (is_live th.standing && is_turnable s.phase t) waits may in
    let inner = and_parts (is_live th.standing) (is_turnable s.phase t) outer.0 in
    (th, refl, inner.0, inner.1, outer.1)

-- while `main` is on its way, no other thread may take a turn
pub main-alone : {X : Type 0} (e : Engine X) (w : World X) (t : ℕ) → w.shared.phase ≡ Main → MayTurn e w t → t ≡ 0
main-alone e w t on_its_way may =
    let parts = enabled-parts e w.shared t (slice_get w.threads t) may.0 in
    eqb-true t 0 (subst (λ phase. is_turnable phase t ≡ true) on_its_way parts.3)

-- ---- the worlds of a job

-- turns of a job: each may be taken where it comes
abbrev pub AreTurnsOf : Job → List ℕ → Type 0
AreTurnsOf job turns = MayTurnAll (tree_engine job) job (first_world (tree_engine job) job) turns

-- one turn more may be taken exactly where the turns may and the thread may then take one
pub followed : (job : Job) (turns : List ℕ) (t : ℕ) →
    AreTurnsOf job (turns ++ t ∷ []) ↔ (AreTurnsOf job turns × MayTurn (tree_engine job) (world job turns) t)
followed job turns t =
    let e = tree_engine job in
    let first = first_world e job in (
      λ may. (MayTurnAll-front e job turns (t ∷ []) first may, MayTurnAll-last e job turns t first may),
      λ both. MayTurnAll-append e job turns (t ∷ []) first both.0 (both.1, tt),
    )

-- its world is one turn of that thread from theirs
pub world-next : (job : Job) (turns : List ℕ) (t : ℕ) → world job (turns ++ t ∷ []) ≡ turn (tree_engine job) job (world job turns) t
world-next job turns t = world_from-append (tree_engine job) job turns (t ∷ []) (first_world (tree_engine job) job)
