-- So many calm turns of one thread are one step.
use Rattle.std.specs.Prelude.{◌≡◌, ◌+◌, ◌<◌, ◌==◌, ◌&&◌, ◌||◌, not, ℕ, zero, suc, nat_le, Bool, true, false, List, [], ◌∷◌, replicate, slice_get, slice_set, Option, None, Some, option_and_then, is_none, is_some, refl, if◌then◌else◌}
use Rattle.std.specs.Option.{option_map}
use Rattle.std.proofs.lemmas.Option.{same_Some}
use Rattle.std.proofs.Common.{◌≤◌, ap, arith, eqb-true, leb-true, sym, subst, ◌∙◌}
use Rattle.kt_types.specs.Table.{Table}
use Rattle.kt_mem.specs.declared.steps.Act.{Act}
use Rattle.kt_mem.specs.declared.steps.Act.TheVariants as act
use Rattle.kt_mem.specs.declared.steps.Reply.{Reply}
use Rattle.kt_mem.specs.declared.steps.Reply.TheVariants.{Done, Got, Trapped}
use Rattle.kt_mem.specs.Memory.{waits}
use Rattle.kt_meaning.specs.Effects as outside
use Rattle.kt_meaning.specs.Effects.{Outcome, Replies, Waits, Elsewhere, leaves}
use Rattle.kt_meaning.specs.Steps.{Step, Quiet, Acts, Traps, Ends}
use Rattle.kt_mem.specs.Memory.{lock}
use Rattle.kt_phase.specs.declared.counters.Phase.{Phase}
use Rattle.kt_phase.specs.declared.counters.Phase.TheVariants.{Run}
use Rattle.kt_world.specs.declared.mark.End.{End}
use Rattle.kt_world.specs.declared.mark.End.TheVariants as end
use Rattle.kt_world.specs.Acts.{acted, act_of, answered, effect, gone_on, on_outcome, with_shared}
use Rattle.kt_world.specs.Calm.{AreTurnsTo, CalmTurnsAreOneStep, IsUndisturbed, NoneDue, answered_by, calm_act, calm_acts, calm_by, later, replied_by}
use Rattle.kt_world.specs.Events.{ongoing, on_shared, with_mark, end_marked, ended_as, main_there, all_back, closed_up, request, requested, asked, stuck, spent, before_turn, after_act}
use Rattle.kt_world.specs.Job.{Job, Passage, passage_at, types_at}
use Rattle.kt_world.specs.Turns.{MayTurn, MayTurnAll, counted, turn, world_from}
use Rattle.kt_world.specs.Waiting.{any_enabled, enabled_as, enabled_if, is_enabled, is_turnable, is_waiting, waits_at}
use Rattle.kt_world.specs.World.{Engine, Shared, Thread, World, outside_of, takes_turns, with_outside}

-- ---- truth values

either : (b : Bool) → b || true ≡ true
either true = refl
either false = refl

one-of : (a b : Bool) → a ≡ true → a || b ≡ true
one-of a b is = ap (λ x. x || b) is

both : (a b : Bool) → a && b ≡ true → (a ≡ true) × (b ≡ true)
both true b is = (refl, is)
both false b is = absurd cc

both-are : (a b : Bool) → a ≡ true → b ≡ true → a && b ≡ true
both-are a b h k = ap (λ x. x && b) h ∙ k

same-choice : {A : Type 0} (b : Bool) (x y : A) → x ≡ y → (if b then x else y) ≡ y
same-choice true x y h = h
same-choice false x y h = refl

module _ {X : Type 0} (e : Engine X) (job : Job) where
  -- ---- nothing is tried with success

  ongoing-same : (f : World X → World X) (w : World X) → f w ≡ w → ongoing f w ≡ w
  ongoing-same f w h = same-choice (is_none w.shared.ended) (f w) w h

  marked-same : (w : World X) → w.shared.ended ≡ None → end_marked w ≡ w
  marked-same w is = ap (λ (o : Option End). record w { shared = with_mark o w.shared }) is

  there-same : (w : World X) → w.shared.phase ≡ Run → main_there e w.shared.phase w ≡ w
  there-same w is = ap (λ (p : Phase). main_there e p w) is

  back-same : (w : World X) → w.shared.phase ≡ Run → all_back e w.shared.phase w ≡ w
  back-same w is = ap (λ (p : Phase). all_back e p w) is

  closed-same : (w : World X) → w.shared.phase ≡ Run → closed_up e job w.shared.phase w ≡ w
  closed-same w is = ap (λ (p : Phase). closed_up e job p w) is

  -- no request is due
  none-due : (j : Option Passage) (n turns : ℕ) (after : List ℕ) → NoneDue j (n ∷ after) turns → (is_some j && nat_le n turns) ≡ false
  none-due None n turns after h = refl
  none-due (Some j) n turns after h = by (nat_le n turns) refl
    where
      by : (b : Bool) → nat_le n turns ≡ b → b ≡ false
      by true is = absurd (too-far (leb-true n turns is))
        where
          too-far : n ≤ turns → ⊥
          too-far le = omega (arith, le, h)
      by false is = refl

  request-same : (after : List ℕ) (w : World X) → NoneDue (passage_at job w.shared.version) after w.shared.turns → request job after w ≡ w
  request-same [] w h = refl
  request-same (n ∷ after) w h =
      ap (λ b. if b then requested after w else w) (none-due (passage_at job w.shared.version) n w.shared.turns after h)

  asked-same : (w : World X) → w.shared.phase ≡ Run → NoneDue (passage_at job w.shared.version) w.shared.after w.shared.turns → asked job w.shared.phase w ≡ w
  asked-same w is h = ap (λ (p : Phase). asked job p w) is ∙ request-same w.shared.after w h

  stuck-same : (w : World X) → any_enabled e w 0 w.threads ≡ true → stuck e w ≡ w
  stuck-same w is = ap (λ b. if b then w else on_shared (ended_as end.Stuck) w) is

  spent-same : (w : World X) → w.shared.turns < job.budget → on_shared (spent job) w ≡ w
  spent-same w less = by (w.shared.turns == job.budget) refl
    where
      by : (b : Bool) → (w.shared.turns == job.budget) ≡ b → record w { shared = if b then ended_as end.Budget w.shared else w.shared } ≡ w
      by true is = absurd (differ (eqb-true w.shared.turns job.budget is))
        where
          differ : w.shared.turns ≡ job.budget → ⊥
          differ same = omega (arith, same, less)
      by false is = refl

  nothing-tried : (w : World X) → IsUndisturbed job w 0 → any_enabled e w 0 w.threads ≡ true → after_act e job w ≡ w
  nothing-tried w calm is =
      let phase = calm.phase in
      ap (λ u. before_turn e job (ongoing (λ v. closed_up e job v.shared.phase v) (ongoing (λ v. all_back e v.shared.phase v) (ongoing (λ v. main_there e v.shared.phase v) u)))) (marked-same w calm.ongoing)
      ∙ ap (λ u. before_turn e job (ongoing (λ v. closed_up e job v.shared.phase v) (ongoing (λ v. all_back e v.shared.phase v) u))) (ongoing-same (λ v. main_there e v.shared.phase v) w (there-same w phase))
      ∙ ap (λ u. before_turn e job (ongoing (λ v. closed_up e job v.shared.phase v) u)) (ongoing-same (λ v. all_back e v.shared.phase v) w (back-same w phase))
      ∙ ap (before_turn e job) (ongoing-same (λ v. closed_up e job v.shared.phase v) w (closed-same w phase))
      ∙ ap (λ u. ongoing (on_shared (spent job)) (ongoing (stuck e) u)) (ongoing-same (λ v. asked job v.shared.phase v) w (asked-same w phase (subst (NoneDue (passage_at job w.shared.version) w.shared.after) (omega arith) calm.requests)))
      ∙ ap (ongoing (on_shared (spent job))) (ongoing-same (stuck e) w (stuck-same w is))
      ∙ ongoing-same (on_shared (spent job)) w (spent-same w (subst (λ k. k < job.budget) (omega arith) calm.budget))

  -- ---- the thread is enabled

  -- a thread that is enabled is among those that are
  among : (w : World X) (k t : ℕ) (threads : List (Thread X)) → enabled_if e w (k + t) (slice_get threads t) ≡ true → any_enabled e w k threads ≡ true
  among w k t [] is = absurd cc
  among w k zero (th ∷ threads) is = one-of (enabled_as e w k th) _ (subst (λ n. enabled_as e w n th ≡ true) (omega arith) is)
  among w k (suc t) (th ∷ threads) is =
      let rest = among w (suc k) t threads (subst (λ n. enabled_if e w n (slice_get threads t) ≡ true) (omega arith) is) in
      ap (λ b. enabled_as e w k th || b) rest ∙ either (enabled_as e w k th)

  -- the thread of that place takes turns
  abbrev turns_of : Option (Thread X) → Bool
  turns_of None = false
  turns_of (Some th) = takes_turns th.standing

  enabled-takes : (w : World X) (t : ℕ) → is_enabled e w t ≡ true → turns_of (slice_get w.threads t) ≡ true
  enabled-takes w t is = by (slice_get w.threads t) is
    where
      by : (o : Option (Thread X)) → enabled_if e w t o ≡ true → turns_of o ≡ true
      by None k = absurd cc
      by (Some th) k = (both (takes_turns th.standing) (is_turnable w.shared.phase t) (both (takes_turns th.standing && is_turnable w.shared.phase t) _ k).0).0

  -- ---- calm acts

  -- what calm acts leave as it is
  abbrev frame : Shared → (Option End × Phase) × (ℕ × (List ℕ × ℕ))
  frame s = ((s.ended, s.phase), (s.version, (s.after, s.turns)))

  -- a calm act is the act, and leaves this
  record IsActOf (w : World X) (t : ℕ) (o : Option (Thread X)) (types : Table) (u : World X) : Type 0 where
    act : act_of e types w t o ≡ u
    frames : frame u.shared ≡ frame w.shared
    waits : enabled_if e w t o ≡ (turns_of o && is_turnable w.shared.phase t)

  set-get : (threads : List (Thread X)) (t : ℕ) (th u : Thread X) → slice_get threads t ≡ Some th → slice_get (slice_set threads t u) t ≡ Some u
  set-get [] t th u is = absurd cc
  set-get (x ∷ threads) zero th u is = refl
  set-get (x ∷ threads) (suc t) th u is = set-get threads t th u is

  abbrev frame_of : World X → Option (World X) → (Option End × Phase) × (ℕ × (List ℕ × ℕ))
  frame_of w None = frame w.shared
  frame_of w (Some u) = frame u.shared

  answered-is : (w : World X) (t : ℕ) (th : Thread X) (r : Reply) (o : outside.Shared) (u : World X) → answered_by e w t th r o ≡ Some u
      → (answered e (with_shared w (with_outside w.shared o)) t th r ≡ u) × (frame u.shared ≡ frame w.shared)
  answered-is w t th Done o u is = (cc, ap (frame_of w) (sym is))
  answered-is w t th (Got v) o u is = (cc, ap (frame_of w) (sym is))
  answered-is w t th (Trapped cause) o u is = absurd cc

  replied-is : (w : World X) (t : ℕ) (th : Thread X) (a : Act) (o : Outcome) (u : World X) → replied_by e w t th o ≡ Some u
      → (on_outcome e w t th a o ≡ u) × (frame u.shared ≡ frame w.shared)
  replied-is w t th a (Replies r o) u is = answered-is w t th r o u is
  replied-is w t th a Waits u is = absurd cc
  replied-is w t th a Elsewhere u is = absurd cc

  -- a thread that is answered doesn't wait
  goes-on : (types : Table) (w : World X) (t : ℕ) (th : Thread X) (a : Act) (u : World X) → replied_by e w t th (outside.effect types t a (outside_of w.shared)) ≡ Some u
      → waits_at w t a ≡ false
  goes-on types w t th (act.Lock p) u is = by (waits w.shared.memory t p) is
    where
      by : (b : Bool) → replied_by e w t th (if b then Waits else leaves (outside_of w.shared) (lock w.shared.memory t p)) ≡ Some u → b ≡ false
      by true k = absurd cc
      by false k = refl
  goes-on types w t th (act.Join n) u is = absurd cc
  goes-on types w t th _ u is = refl

  calm-is : (types : Table) (w : World X) (t : ℕ) (th : Thread X) (u : World X) → calm_by e types w t th (e.step w.shared.version th.state) ≡ Some u → IsActOf w t (Some th) types u
  calm-is types w t th u is = by (e.step w.shared.version th.state) refl
    where
      by : (s : Step X) → e.step w.shared.version th.state ≡ s → IsActOf w t (Some th) types u
      by (Quiet x) at = absurd cc
      by (Acts a go) at =
          let calm = subst (λ s. calm_by e types w t th s ≡ Some u) at is in
          let all = replied-is w t th a (outside.effect types t a (outside_of w.shared)) u calm in
          record {
            act = ap (effect e types w t th) at ∙ all.0;
            frames = all.1;
            waits =
                ap (λ s. takes_turns th.standing && is_turnable w.shared.phase t && not (is_waiting w t s)) at
                ∙ ap (λ b. takes_turns th.standing && is_turnable w.shared.phase t && not b) (goes-on types w t th a u calm)
                ∙ and-true (takes_turns th.standing) (is_turnable w.shared.phase t);
          }
        where
          and-true : (a b : Bool) → (a && b && true) ≡ (a && b)
          and-true true true = refl
          and-true true false = refl
          and-true false b = refl
      by (Traps cause) at = absurd cc
      by (Ends a) at = absurd cc

  calm-act-is : (types : Table) (w : World X) (t : ℕ) (o : Option (Thread X)) (u : World X)
      → option_and_then (λ th. calm_by e types w t th (e.step w.shared.version th.state)) o ≡ Some u → IsActOf w t o types u
  calm-act-is types w t None u is = absurd cc
  calm-act-is types w t (Some th) u is = calm-is types w t th u is

  act-is : (types : Table) (w : World X) (t : ℕ) (u : World X) → calm_act e types w t ≡ Some u → IsActOf w t (slice_get w.threads t) types u
  act-is types w t u is = calm-act-is types w t (slice_get w.threads t) u is

  -- ---- the thread takes turns all the while

  answered-takes : (w : World X) (t : ℕ) (th : Thread X) (r : Reply) (o : outside.Shared) (u : World X) → slice_get w.threads t ≡ Some th → answered_by e w t th r o ≡ Some u
      → turns_of (slice_get u.threads t) ≡ takes_turns th.standing
  answered-takes w t th r o u at is = by r is
    where
      got : Option (World X) → Bool
      got None = takes_turns th.standing
      got (Some x) = turns_of (slice_get x.threads t)

      by : (r : Reply) → answered_by e w t th r o ≡ Some u → turns_of (slice_get u.threads t) ≡ takes_turns th.standing
      by Done is = ap got (sym is) ∙ ap turns_of (set-get w.threads t th (gone_on e w.shared.version th Done) at)
      by (Got v) is = ap got (sym is) ∙ ap turns_of (set-get w.threads t th (gone_on e w.shared.version th (Got v)) at)
      by (Trapped cause) is = absurd cc

  calm-takes : (types : Table) (w : World X) (t : ℕ) (u : World X) → calm_act e types w t ≡ Some u → turns_of (slice_get u.threads t) ≡ turns_of (slice_get w.threads t)
  calm-takes types w t u is = by (slice_get w.threads t) refl
    where
      by-outcome : (th : Thread X) (o : Outcome) → slice_get w.threads t ≡ Some th → replied_by e w t th o ≡ Some u → turns_of (slice_get u.threads t) ≡ takes_turns th.standing
      by-outcome th (Replies r o) at k = answered-takes w t th r o u at k
      by-outcome th Waits at k = absurd cc
      by-outcome th Elsewhere at k = absurd cc

      by-step : (th : Thread X) (s : Step X) → slice_get w.threads t ≡ Some th → calm_by e types w t th s ≡ Some u → turns_of (slice_get u.threads t) ≡ takes_turns th.standing
      by-step th (Quiet x) at k = absurd cc
      by-step th (Acts a go) at k = by-outcome th (outside.effect types t a (outside_of w.shared)) at k
      by-step th (Traps cause) at k = absurd cc
      by-step th (Ends a) at k = absurd cc

      by : (o : Option (Thread X)) → slice_get w.threads t ≡ o → turns_of (slice_get u.threads t) ≡ turns_of o
      by None at = absurd (none (subst (λ o. option_and_then (λ th. calm_by e types w t th (e.step w.shared.version th.state)) o ≡ Some u) at is))
        where
          none : ◌≡◌ {A = Option (World X)} None (Some u) → ⊥
          none k = absurd cc
      by (Some th) at =
          by-step th (e.step w.shared.version th.state) at
          (subst (λ o. option_and_then (λ th. calm_by e types w t th (e.step w.shared.version th.state)) o ≡ Some u) at is)

  acts-take : (types : Table) (n : ℕ) (w : World X) (t : ℕ) (u : World X) → calm_acts e types w t n ≡ Some u → turns_of (slice_get u.threads t) ≡ turns_of (slice_get w.threads t)
  acts-take types zero w t u is = ap (λ (x : Option (World X)). takes-in x) (sym is)
    where
      takes-in : Option (World X) → Bool
      takes-in None = false
      takes-in (Some x) = turns_of (slice_get x.threads t)
  acts-take types (suc n) w t u is = by (calm_act e types w t) refl is (λ v. acts-take types n v t u)
    where
      by : (o : Option (World X)) → calm_act e types w t ≡ o → option_and_then (λ v. calm_acts e types v t n) o ≡ Some u
          → ((v : World X) → calm_acts e types v t n ≡ Some u → turns_of (slice_get u.threads t) ≡ turns_of (slice_get v.threads t))
          → turns_of (slice_get u.threads t) ≡ turns_of (slice_get w.threads t)
      by None at k rest = absurd cc
      by (Some v) at k rest = rest v k ∙ calm-takes types w t v at

  -- ---- counting changes no act

  replied-counted : (w : World X) (t : ℕ) (th : Thread X) (o : Outcome) → replied_by e (counted w) t th o ≡ option_map counted (replied_by e w t th o)
  replied-counted w t th (Replies Done o) = refl
  replied-counted w t th (Replies (Got v) o) = refl
  replied-counted w t th (Replies (Trapped cause) o) = refl
  replied-counted w t th Waits = refl
  replied-counted w t th Elsewhere = refl

  step-counted : (types : Table) (w : World X) (t : ℕ) (th : Thread X) (s : Step X) → calm_by e types (counted w) t th s ≡ option_map counted (calm_by e types w t th s)
  step-counted types w t th (Quiet x) = refl
  step-counted types w t th (Acts a go) = replied-counted w t th (outside.effect types t a (outside_of w.shared))
  step-counted types w t th (Traps cause) = refl
  step-counted types w t th (Ends a) = refl

  act-counted : (types : Table) (w : World X) (t : ℕ) → calm_act e types (counted w) t ≡ option_map counted (calm_act e types w t)
  act-counted types w t = by (slice_get w.threads t)
    where
      by : (o : Option (Thread X)) → option_and_then (λ th. calm_by e types (counted w) t th (e.step w.shared.version th.state)) o
          ≡ option_map counted (option_and_then (λ th. calm_by e types w t th (e.step w.shared.version th.state)) o)
      by None = refl
      by (Some th) = step-counted types w t th (e.step w.shared.version th.state)

  acts-counted : (types : Table) (n : ℕ) (w : World X) (t : ℕ) → calm_acts e types (counted w) t n ≡ option_map counted (calm_acts e types w t n)
  acts-counted types zero w t = refl
  acts-counted types (suc n) w t = ap (option_and_then (λ u. calm_acts e types u t n)) (act-counted types w t) ∙ by (calm_act e types w t) (λ v. acts-counted types n v t)
    where
      by : (o : Option (World X)) → ((v : World X) → calm_acts e types (counted v) t n ≡ option_map counted (calm_acts e types v t n))
          → option_and_then (λ u. calm_acts e types u t n) (option_map counted o) ≡ option_map counted (option_and_then (λ u. calm_acts e types u t n) o)
      by None rest = refl
      by (Some v) rest = rest v

  waiting-counted : (w : World X) (t : ℕ) (s : Step X) → is_waiting (counted w) t s ≡ is_waiting w t s
  waiting-counted w t (Quiet x) = refl
  waiting-counted w t (Acts a go) = by a
    where
      by : (a : Act) → waits_at (counted w) t a ≡ waits_at w t a
      by (act.Lock p) = refl
      by (act.Join n) = refl
      by _ = refl
  waiting-counted w t (Traps cause) = refl
  waiting-counted w t (Ends a) = refl

  enabled-counted : (w : World X) (t : ℕ) → is_enabled e (counted w) t ≡ is_enabled e w t
  enabled-counted w t = by (slice_get w.threads t)
    where
      by : (o : Option (Thread X)) → enabled_if e (counted w) t o ≡ enabled_if e w t o
      by None = refl
      by (Some th) =
          ap (λ b. takes_turns th.standing && is_turnable w.shared.phase t && not b) (waiting-counted w t (e.step w.shared.version th.state))

  -- ---- undisturbed

  sooner : (j : Option Passage) (after : List ℕ) (m n : ℕ) → m ≤ n → NoneDue j after n → NoneDue j after m
  sooner None after m n le h = tt
  sooner (Some j) [] m n le h = tt
  sooner (Some j) (k ∷ after) m n le h = omega (arith, le, h)

  still : (w v : World X) (n : ℕ) → frame v.shared ≡ frame w.shared → IsUndisturbed job w (suc n) → IsUndisturbed job (counted v) n
  still w v n same h =
      let last : suc n + w.shared.turns ≡ n + suc w.shared.turns = omega arith in
      record {
        ongoing = ap (λ x. x.0.0) same ∙ h.ongoing;
        phase = ap (λ x. x.0.1) same ∙ h.phase;
        requests =
            subst (λ (x : (Option End × Phase) × (ℕ × (List ℕ × ℕ))). NoneDue (passage_at job x.1.0) x.1.1.0 (n + suc x.1.1.1)) (sym same)
            (subst (NoneDue (passage_at job w.shared.version) w.shared.after) last h.requests);
        budget =
            subst (λ (x : (Option End × Phase) × (ℕ × (List ℕ × ℕ))). n + suc x.1.1.1 < job.budget) (sym same)
            (subst (λ k. k < job.budget) last h.budget);
      }

  now : (w : World X) (n : ℕ) → IsUndisturbed job w n → IsUndisturbed job w 0
  now w n h =
      let budget = h.budget in
      record {
        ongoing = h.ongoing;
        phase = h.phase;
        requests = sooner (passage_at job w.shared.version) w.shared.after (0 + w.shared.turns) (n + w.shared.turns) (omega arith) h.requests;
        budget = omega (arith, budget);
      }

  -- ---- turns

  -- a thread at a calm act, or behind the last one, is enabled
  calm-enabled : (types : Table) (n : ℕ) (w u : World X) (t : ℕ) → w.shared.phase ≡ Run → calm_acts e types w t n ≡ Some u → is_enabled e u t ≡ true → is_enabled e w t ≡ true
  calm-enabled types zero w u t phase is enabled = ap (λ (x : Option (World X)). enabled-in x) is ∙ enabled
    where
      enabled-in : Option (World X) → Bool
      enabled-in None = false
      enabled-in (Some x) = is_enabled e x t
  calm-enabled types (suc n) w u t phase is enabled = by (calm_act e types w t) refl is
    where
      by : (o : Option (World X)) → calm_act e types w t ≡ o → option_and_then (λ v. calm_acts e types v t n) o ≡ Some u → is_enabled e w t ≡ true
      by None at k = absurd cc
      by (Some v) at k =
          let takes = sym (acts-take types (suc n) w t u is) ∙ enabled-takes u t enabled in
          let turns : is_turnable w.shared.phase t ≡ true = ap (λ (p : Phase). is_turnable p t) phase in
          (act-is types w t v at).waits ∙ both-are (turns_of (slice_get w.threads t)) (is_turnable w.shared.phase t) takes turns

  turn-calm : (types : Table) (w v : World X) (t : ℕ) → types ≡ types_at job w.shared.version → calm_act e types w t ≡ Some v → IsUndisturbed job (counted v) 0 → is_enabled e v t ≡ true
      → turn e job w t ≡ counted v
  turn-calm types w v t typed is h enabled =
      let one = (act-is types w t v is).act in
      ap (λ (x : Table). after_act e job (counted (acted e x w t))) (sym typed)
      ∙ ap (λ u. after_act e job (counted u)) one
      ∙ nothing-tried (counted v) h (among (counted v) 0 t v.threads (subst (λ k. enabled_if e (counted v) k (slice_get v.threads t) ≡ true) (omega arith) (enabled-counted v t ∙ enabled)))

  later-none : (u : World X) → later 0 u ≡ u
  later-none u = ap (λ k. record u { shared = record u.shared { turns = k } }) (omega arith)

  later-later : (n : ℕ) (u : World X) → later n (counted u) ≡ later (suc n) u
  later-later n u = ap (λ k. record u { shared = record u.shared { turns = k } }) (omega arith)

  calm-turns : (types : Table) (n : ℕ) (w u : World X) (t : ℕ) → types ≡ types_at job w.shared.version → IsUndisturbed job w n → calm_acts e types w t n ≡ Some u → is_enabled e u t ≡ true
      → AreTurnsTo e job w t n (later n u)
  unfolding world_from
  calm-turns types zero w u t typed h is enabled = record { may = tt; world = same_Some w u is ∙ sym (later-none u) }
  calm-turns types (suc n) w u t typed h is enabled = by (calm_act e types w t) refl is (λ v typed_as undisturbed k goes. calm-turns types n v (counted u) t typed_as undisturbed k goes)
    where
      by : (o : Option (World X)) → calm_act e types w t ≡ o → option_and_then (λ v. calm_acts e types v t n) o ≡ Some u
          → ((v : World X) → types ≡ types_at job v.shared.version → IsUndisturbed job v n → calm_acts e types v t n ≡ Some (counted u) → is_enabled e (counted u) t ≡ true
          → AreTurnsTo e job v t n (later n (counted u)))
          → AreTurnsTo e job w t (suc n) (later (suc n) u)
      by None at k induct = absurd cc
      by (Some v) at k induct =
          let same = (act-is types w t v at).frames in
          let undisturbed = still w v n same h in
          let versions : v.shared.version ≡ w.shared.version = ap (λ x. x.1.0) same in
          let goes = calm-enabled types n v u t (ap (λ x. x.0.1) same ∙ h.phase) k enabled in
          let next = turn-calm types w v t typed at (now (counted v) n undisturbed) goes in
          let rest =
          induct (counted v) (typed ∙ ap (types_at job) (sym versions)) undisturbed
          (acts-counted types n v t ∙ ap (option_map counted) k) (enabled-counted u t ∙ enabled) in
          let may : MayTurn e w t = record { ongoing = h.ongoing; enabled = calm-enabled types (suc n) w u t h.phase is enabled } in
          record {
            may = (may, subst (λ x. MayTurnAll e job x (replicate n t)) (sym next) rest.may);
            world = ap (λ x. world_from e job x (replicate n t)) next ∙ rest.world ∙ later-later n u;
          }

pub calm-turns-are-one-step : {X : Type 0} (e : Engine X) (job : Job) → CalmTurnsAreOneStep e job
calm-turns-are-one-step e job w u t n h is enabled = calm-turns e job (types_at job w.shared.version) n w u t refl h is enabled
