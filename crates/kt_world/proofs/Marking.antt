-- The marks of a run lead to its phase and to as many requests and turns as were made; how the run ended is the last of them, and
-- no other mark tells an end.
use Rattle.std.specs.Prelude.{◌≡◌, ℕ, suc, nat_le, ◌&&◌, ◌==◌, Bool, true, false, List, [], ◌∷◌, ◌++◌, Option, None, Some, is_none, is_some, refl, slice_get, if◌then◌else◌}
use Rattle.std.specs.List.{AllByRecursion}
use Rattle.std.specs.Option.{option_map}
use Rattle.std.proofs.Common.{sym, subst, arith}
use Rattle.kt_phase.specs.declared.counters.Phase.{Phase}
use Rattle.kt_phase.specs.declared.counters.Phase.TheVariants.{Run, Asked, Main, Others}
use Rattle.xf_plan.specs.declared.place.Fault.{Fault}
use Rattle.xf_plan.specs.declared.place.Root.{Root}
use Rattle.xf_plan.specs.Images.{faults, first_fault, fresh_places, image_count, is_too_big, sizes}
use Rattle.xf_plan.specs.Reached.{distinct, reached}
use Rattle.kt_world.specs.declared.mark.Closed.{Closed}
use Rattle.kt_world.specs.declared.mark.Closed.TheVariants as closed
use Rattle.kt_world.specs.declared.mark.End.{End}
use Rattle.kt_world.specs.declared.mark.End.TheVariants as end
use Rattle.kt_world.specs.declared.mark.Mark.{Mark}
use Rattle.kt_world.specs.declared.mark.Mark.TheVariants as mark
use Rattle.kt_world.specs.Acts.{acted}
use Rattle.kt_world.specs.Events.{ongoing, on_shared, with_mark, end_marked, ended_as, main_is_normal, main_there, all_normal, all_back, all_parked, closed_up, requested, request, waiters, asked, stuck, spent, before_turn, after_act}
use Rattle.kt_world.specs.Job.{Job, Passage, passage_at, types_at}
use Rattle.kt_world.specs.Laws.{IsNoEnd, EndIsLast, EndsAreLast, MarksAreInOrder}
use Rattle.kt_world.specs.Marks.{IsRefusal, Leads, Begins, Goes, Asks, Refuses, Accepts, Arrives, Returns, AreMarks}
use Rattle.kt_world.specs.Refusals.{any_held, first_of, if_held, if_too_big, lacks_entry, lacks_point, least, refusal, size_refusal}
use Rattle.kt_world.specs.Roots.{thread_roots}
use Rattle.kt_world.specs.Trees.{tree_engine, world}
use Rattle.kt_world.specs.Turns.{MayTurn, MayTurnAll, counted, first_world, start, turn, world_from}
use Rattle.kt_world.specs.Update.{closing, decided}
use Rattle.kt_world.specs.Waiting.{any_enabled}
use Rattle.kt_world.specs.World.{Engine, Shared, World}
use Rattle.kt_world.proofs.Acting.{act-same}

-- ---- what refuses a closing is a refusal

abbrev AllRefuse : Option Closed → Type 0
AllRefuse None = Unit {0}
AllRefuse (Some c) = IsRefusal c

first-refuses : (a b : Option Closed) → AllRefuse a → AllRefuse b → AllRefuse (first_of a b)
first-refuses None b h k = k
first-refuses (Some c) b h k = h

held-refuses : (b : Bool) → AllRefuse (if_held b)
held-refuses true = tt
held-refuses false = tt

size-refuses : (b : Bool) → AllRefuse (if_too_big b)
size-refuses true = tt
size-refuses false = tt

point-refuses : (o : Option ℕ) → AllRefuse (option_map closed.Point o)
point-refuses None = tt
point-refuses (Some t) = tt

entry-refuses : (o : Option ℕ) → AllRefuse (option_map closed.Entry o)
entry-refuses None = tt
entry-refuses (Some t) = tt

place-refuses : (o : Option Fault) → AllRefuse (option_map closed.At o)
place-refuses None = tt
place-refuses (Some f) = tt

-- ---- what leads to a phase tells no end

no-more : (marks : List Mark) (m : Mark) → AllByRecursion IsNoEnd marks → IsNoEnd m → AllByRecursion IsNoEnd (marks ++ m ∷ [])
no-more [] m all one = (one, tt)
no-more (n ∷ marks) m all one = (all.0, no-more marks m all.1 one)

no-ends : {phase : Phase} {k turn : ℕ} {marks : List Mark} → Leads phase k turn marks → AllByRecursion IsNoEnd marks
no-ends Begins = tt
no-ends (Goes phase k turn later marks h before) = no-ends before
no-ends (Asks k turn woken marks before) = no-more marks (mark.Ask turn (suc k) woken) (no-ends before) tt
no-ends (Refuses k turn c marks h before) = no-more marks (mark.Close turn k c) (no-ends before) tt
no-ends (Accepts k turn images marks before) = no-more marks (mark.Close turn k (closed.Ok images)) (no-ends before) tt
no-ends (Arrives k turn marks before) = no-more marks (mark.MainThere turn k) (no-ends before) tt
no-ends (Returns k turn marks before) = no-more marks (mark.Back turn k) (no-ends before) tt

end-is-last : (how : Option End) (phase : Phase) (k turn : ℕ) (marks : List Mark) → AreMarks how phase k turn marks → EndIsLast how marks
end-is-last None phase k turn marks h = no-ends h
end-is-last (Some how) phase k turn marks h = record { front = h.front; turn = turn; is = h.is; others = no-ends h.leads }

-- ---- where the run goes on

going-on : (how : Option End) (phase : Phase) (k turn : ℕ) (marks : List Mark) → how ≡ None → AreMarks how phase k turn marks → Leads phase k turn marks
going-on None phase k turn marks h are = are
going-on (Some how) phase k turn marks h are = absurd cc

leads-on : (how : Option End) (phase : Phase) (k turn : ℕ) (marks : List Mark) → how ≡ None → Leads phase k turn marks → AreMarks how phase k turn marks
leads-on how phase k turn marks h leads = subst (λ o. AreMarks o phase k turn marks) (sym h) leads

abbrev SharedFits : Shared → Type 0
SharedFits s = AreMarks s.ended s.phase s.requests s.turns s.marks

abbrev SharedLeads : Shared → Type 0
SharedLeads s = Leads s.phase s.requests s.turns s.marks

abbrev Fits : {X : Type 0} → World X → Type 0
Fits w = SharedFits w.shared

-- an end and its mark
ends-so : (s : Shared) (how : End) → SharedLeads s → SharedFits (ended_as how s)
ends-so s how leads = record { front = s.marks; is = refl; leads = leads }

module _ {X : Type 0} (e : Engine X) (job : Job) where
  by-choice : (b : Bool) (w u : World X) → Fits w → Fits u → Fits (if b then w else u)
  by-choice true w u h k = h
  by-choice false w u h k = k

  -- what keeps this wherever the run goes on, in a phase
  abbrev KeepsIn : Phase → (World X → World X) → Type 0
  KeepsIn phase f = (w : World X) → w.shared.ended ≡ None → Leads phase w.shared.requests w.shared.turns w.shared.marks → w.shared.phase ≡ phase → Fits (f w)

  abbrev Keeps : (World X → World X) → Type 0
  Keeps f = (w : World X) → w.shared.ended ≡ None → SharedLeads w.shared → Fits (f w)

  ongoing-fits : (f : World X → World X) → Keeps f → (w : World X) → Fits w → Fits (ongoing f w)
  ongoing-fits f keeps w h = by w.shared.ended refl
    where
      by : (o : Option End) → w.shared.ended ≡ o → Fits (ongoing f w)
      by None is =
          subst (λ o. Fits (if is_none o then f w else w)) (sym is)
          (keeps w is (going-on w.shared.ended w.shared.phase w.shared.requests w.shared.turns w.shared.marks is h))
      by (Some how) is = subst (λ o. Fits (if is_none o then f w else w)) (sym is) h

  -- nothing changes
  stays : (w : World X) → w.shared.ended ≡ None → SharedLeads w.shared → Fits w
  stays w h leads = leads-on w.shared.ended w.shared.phase w.shared.requests w.shared.turns w.shared.marks h leads

  stays-in : (phase : Phase) (w : World X) → w.shared.ended ≡ None → Leads phase w.shared.requests w.shared.turns w.shared.marks → w.shared.phase ≡ phase → Fits w
  stays-in phase w h leads is = stays w h (subst (λ (p : Phase). Leads p w.shared.requests w.shared.turns w.shared.marks) (sym is) leads)

  -- one mark more, which leads to a phase
  marks-one : (w : World X) (phase : Phase) (k : ℕ) (m : Mark) → w.shared.ended ≡ None → Leads phase k w.shared.turns (w.shared.marks ++ m ∷ [])
      → AreMarks w.shared.ended phase k w.shared.turns (w.shared.marks ++ m ∷ [])
  marks-one w phase k m h leads = leads-on w.shared.ended phase k w.shared.turns (w.shared.marks ++ m ∷ []) h leads

  -- ---- what is tried after an act

  main_there-keeps : (phase : Phase) → KeepsIn phase (main_there e phase)
  main_there-keeps Run w h leads is = stays-in Run w h leads is
  main_there-keeps Asked w h leads is = stays-in Asked w h leads is
  main_there-keeps Main w h leads is =
      let s = w.shared in
      by-choice (main_is_normal e w.threads) _ w
      (marks-one w Others s.requests (mark.MainThere s.turns s.requests) h (Arrives s.requests s.turns s.marks leads)) (stays-in Main w h leads is)
  main_there-keeps Others w h leads is = stays-in Others w h leads is

  all_back-keeps : (phase : Phase) → KeepsIn phase (all_back e phase)
  all_back-keeps Run w h leads is = stays-in Run w h leads is
  all_back-keeps Asked w h leads is = stays-in Asked w h leads is
  all_back-keeps Main w h leads is = stays-in Main w h leads is
  all_back-keeps Others w h leads is =
      let s = w.shared in
      by-choice (all_normal e w.threads) _ w
      (marks-one w Run s.requests (mark.Back s.turns s.requests) h (Returns s.requests s.turns s.marks leads)) (stays-in Others w h leads is)

  refusal-refuses : (j : Passage) (w : World X) (roots : List Root) → AllRefuse (refusal e j w roots)
  refusal-refuses j w roots =
      let s = w.shared in
      let size = size_refusal j s.memory roots in
      let place = first_of (option_map closed.At (first_fault (faults j.plan s.memory roots))) size in
      let entry = first_of (option_map closed.Entry (least (lacks_entry j) 0 w.threads)) place in
      let point = first_of (option_map closed.Point (least (lacks_point e s.version j) 0 w.threads)) entry in
      first-refuses (if_held (any_held j.old s.memory)) point (held-refuses (any_held j.old s.memory))
      (first-refuses (option_map closed.Point (least (lacks_point e s.version j) 0 w.threads)) entry (point-refuses (least (lacks_point e s.version j) 0 w.threads))
      (first-refuses (option_map closed.Entry (least (lacks_entry j) 0 w.threads)) place (entry-refuses (least (lacks_entry j) 0 w.threads))
      (first-refuses (option_map closed.At (first_fault (faults j.plan s.memory roots))) size (place-refuses (first_fault (faults j.plan s.memory roots)))
      (size-refuses (is_too_big (sizes j.plan s.memory (distinct (reached j.plan s.memory roots)) (fresh_places j.plan s.memory roots)))))))

  decided-keeps : (j : Passage) (roots : List Root) (c : Option Closed) → AllRefuse c → KeepsIn Asked (λ w. decided e j w roots c)
  decided-keeps j roots None tells w h leads is =
      let s = w.shared in
      let images = image_count j.plan s.memory roots in
      marks-one w Main s.requests (mark.Close s.turns s.requests (closed.Ok images)) h (Accepts s.requests s.turns images s.marks leads)
  decided-keeps j roots (Some c) tells w h leads is =
      let s = w.shared in
      marks-one w Run s.requests (mark.Close s.turns s.requests c) h (Refuses s.requests s.turns c s.marks tells leads)

  closing-keeps : (j : Option Passage) → KeepsIn Asked (closing e j)
  closing-keeps None w h leads is = stays-in Asked w h leads is
  closing-keeps (Some j) w h leads is =
      let roots = thread_roots e j w.shared.memory w.threads in
      decided-keeps j roots (refusal e j w roots) (refusal-refuses j w roots) w h leads is

  closed_up-keeps : (phase : Phase) → KeepsIn phase (closed_up e job phase)
  closed_up-keeps Run w h leads is = stays-in Run w h leads is
  closed_up-keeps Asked w h leads is =
      by-choice (all_parked w.threads) _ w (closing-keeps (passage_at job w.shared.version) w h leads is) (stays-in Asked w h leads is)
  closed_up-keeps Main w h leads is = stays-in Main w h leads is
  closed_up-keeps Others w h leads is = stays-in Others w h leads is

  request-keeps : (after : List ℕ) → KeepsIn Run (request job after)
  request-keeps [] w h leads is = stays-in Run w h leads is
  request-keeps (n ∷ after) w h leads is =
      let s = w.shared in
      by-choice (is_some (passage_at job s.version) && nat_le n s.turns) (requested after w) w
      (marks-one w Asked (suc s.requests) (mark.Ask s.turns (suc s.requests) (waiters w.threads)) h (Asks s.requests s.turns (waiters w.threads) s.marks leads))
      (stays-in Run w h leads is)

  asked-keeps : (phase : Phase) → KeepsIn phase (asked job phase)
  asked-keeps Run w h leads is = request-keeps w.shared.after w h leads is
  asked-keeps Asked w h leads is = stays-in Asked w h leads is
  asked-keeps Main w h leads is = stays-in Main w h leads is
  asked-keeps Others w h leads is = stays-in Others w h leads is

  stuck-keeps : Keeps (stuck e)
  stuck-keeps w h leads =
      by-choice (any_enabled e w 0 w.threads) w (on_shared (ended_as end.Stuck) w) (stays w h leads) (ends-so w.shared end.Stuck leads)

  spent-keeps : Keeps (on_shared (spent job))
  spent-keeps w h leads = by-shared (w.shared.turns == job.budget)
    where
      by-shared : (b : Bool) → SharedFits (if b then ended_as end.Budget w.shared else w.shared)
      by-shared true = ends-so w.shared end.Budget leads
      by-shared false = stays w h leads

  before_turn-fits : (w : World X) → Fits w → Fits (before_turn e job w)
  before_turn-fits w h =
      let a = ongoing (λ u. asked job u.shared.phase u) w in
      let b = ongoing (stuck e) a in
      let asks = ongoing-fits (λ u. asked job u.shared.phase u) (λ u k leads. asked-keeps u.shared.phase u k leads refl) w h in
      let sticks = ongoing-fits (stuck e) stuck-keeps a asks in
      ongoing-fits (on_shared (spent job)) spent-keeps b sticks

  -- an end that an act brought is marked
  marked-fits : (how : Option End) (s : Shared) → s.ended ≡ how → SharedLeads s → SharedFits (with_mark how s)
  marked-fits None s is leads = leads-on s.ended s.phase s.requests s.turns s.marks is leads
  marked-fits (Some how) s is leads =
      subst (λ o. AreMarks o s.phase s.requests s.turns (s.marks ++ mark.End s.turns how ∷ [])) (sym is) (ends-so s how leads)

  after_act-fits : (w : World X) → SharedLeads w.shared → Fits (after_act e job w)
  after_act-fits w leads =
      let a = end_marked w in
      let b = ongoing (λ u. main_there e u.shared.phase u) a in
      let c = ongoing (λ u. all_back e u.shared.phase u) b in
      let d = ongoing (λ u. closed_up e job u.shared.phase u) c in
      let ends = marked-fits w.shared.ended w.shared refl leads in
      let there = ongoing-fits (λ u. main_there e u.shared.phase u) (λ u k h. main_there-keeps u.shared.phase u k h refl) a ends in
      let back = ongoing-fits (λ u. all_back e u.shared.phase u) (λ u k h. all_back-keeps u.shared.phase u k h refl) b there in
      let closes = ongoing-fits (λ u. closed_up e job u.shared.phase u) (λ u k h. closed_up-keeps u.shared.phase u k h refl) c back in
      before_turn-fits d closes

  turn-fits : (w : World X) (t : ℕ) → MayTurn e w t → Fits w → Fits (turn e job w t)
  turn-fits w t may h =
      let types = types_at job w.shared.version in
      let s = w.shared in
      let leads = going-on s.ended s.phase s.requests s.turns s.marks may.ongoing h in
      let more = Goes s.phase s.requests s.turns (suc s.turns) s.marks (omega arith) leads in
      after_act-fits (counted (acted e types w t))
      (subst (λ (x : (ℕ × ℕ) × (Phase × List Mark)). Leads x.1.0 x.0.1 (suc x.0.0) x.1.1) (sym (act-same e types w t (slice_get w.threads t))) more)

  from-fits : (turns : List ℕ) (w : World X) → MayTurnAll e job w turns → Fits w → Fits (world_from e job w turns)
  unfolding world_from
  from-fits [] w may h = h
  from-fits (t ∷ turns) w may h = from-fits turns (turn e job w t) may.1 (turn-fits w t may.0 h)

  first-fits : Fits (first_world e job)
  first-fits = before_turn-fits (start e job) Begins

pub marks-are-in-order : (job : Job) (turns : List ℕ) → MarksAreInOrder job turns
marks-are-in-order job turns may =
    let e = tree_engine job in from-fits e job turns (first_world e job) may (first-fits e job)

pub ends-are-last : (job : Job) (turns : List ℕ) → EndsAreLast job turns
ends-are-last job turns may =
    let s = (world job turns).shared in
    end-is-last s.ended s.phase s.requests s.turns s.marks (marks-are-in-order job turns may)
