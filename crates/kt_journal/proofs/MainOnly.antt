-- In the worlds of a job `main` alone takes turns while an update is on its way.
use Rattle.std.proofs.Common.{◌≡◌, ℕ, suc, ◌==◌, nat_le, Bool, true, false, ◌&&◌, List, [], ◌∷◌, ◌++◌, length, map, refl, ap, sym, subst, ◌∙◌, arith, length-append, append_assoc, append-nil}
use Rattle.std.specs.Prelude.{Option, Some, None, is_none, is_some, if◌then◌else◌, slice_get}
use Rattle.std.specs.List.{AllByRecursion}
use Rattle.std.specs.Option.{option_map}
use Rattle.std.proofs.lemmas.Bool.{false≢true}
use Rattle.kt_tree.specs.Version.{IsProgram}
use Rattle.kt_phase.specs.declared.counters.Phase.{Phase}
use Rattle.kt_phase.specs.declared.counters.Phase.TheVariants.{Run, Asked, Main, Others}
use Rattle.xf_plan.specs.declared.place.Root.{Root}
use Rattle.xf_plan.specs.Images.{faults, first_fault, image_count}
use Rattle.kt_world.specs.declared.mark.Closed.{Closed}
use Rattle.kt_world.specs.declared.mark.Closed.TheVariants as closed
use Rattle.kt_world.specs.declared.mark.End.{End}
use Rattle.kt_world.specs.declared.mark.End.TheVariants as end
use Rattle.kt_world.specs.declared.mark.Mark.{Mark}
use Rattle.kt_world.specs.declared.mark.Mark.TheVariants as mark
use Rattle.kt_world.specs.Acts.{acted}
use Rattle.kt_world.specs.Events.{ongoing, on_shared, with_mark, end_marked, main_is_normal, main_there, all_normal, all_back, all_parked, closed_up, requested, request, waiters, asked, stuck, spent, before_turn, after_act}
use Rattle.kt_world.specs.Job.{Job, Passage, passage_at, types_at}
use Rattle.kt_world.specs.Refusals.{any_held, first_of, if_held, if_too_big, lacks_entry, lacks_point, least, refusal}
use Rattle.kt_world.specs.Roots.{thread_roots}
use Rattle.kt_world.specs.Trees.{AreTurnsOf, tree_engine, world}
use Rattle.kt_world.specs.Turns.{MayTurn, MayTurnAll, counted, first_world, start, turn, world_from}
use Rattle.kt_world.specs.Update.{closing, decided}
use Rattle.kt_world.specs.Waiting.{any_enabled}
use Rattle.kt_world.specs.World.{Engine, Shared, World}
use Rattle.kt_world.proofs.Acting.{act-same}
use Rattle.kt_world.proofs.Following.{alone}
use Rattle.kt_journal.specs.declared.kit.Kit.{Kit}
use Rattle.kt_journal.specs.declared.kit.Kit.TheVariants.{First, Second}
use Rattle.kt_journal.specs.Journal.{Entry, words_of, kit_words}
use Rattle.kt_journal.specs.Marks.{turn_of, kit_of}
use Rattle.kt_journal.specs.Runs.{HasMainOnly, IsMainOnly, journal_in}
use Rattle.kt_journal.specs.Written.{entries_from}
use Rattle.kt_journal.proofs.Between.{Between, behind, between-only, after, after-more, AreInOrder, order-turn, order-mark, between-turn, between-mark}
use Rattle.kt_journal.proofs.Lines.{written-lines, front-lines}

-- ---- what the marks of a world tell

-- marks beside the turns that were made
pub record Tells (turns : List ℕ) (s : Shared) : Type 0 where
  pub count : s.turns ≡ length turns
  pub order : AreInOrder 0 s.turns s.marks
  pub between : Between 0 false turns s.marks
  -- while an update is on its way the phase says so
  pub phase : after false s.marks ≡ true → s.phase ≡ Main

-- turns, marks and phase are the same
record IsBeside (s r : Shared) : Type 0 where
  turns : r.turns ≡ s.turns
  marks : r.marks ≡ s.marks
  phase : r.phase ≡ s.phase

tells-beside : (turns : List ℕ) (s r : Shared) → IsBeside s r → Tells turns s → Tells turns r
tells-beside turns s r same tells = record {
  count = same.turns ∙ tells.count;
  order = subst (λ n. AreInOrder 0 n r.marks) (sym same.turns) (subst (AreInOrder 0 s.turns) (sym same.marks) tells.order);
  between = subst (Between 0 false turns) (sym same.marks) tells.between;
  phase = λ on. same.phase ∙ tells.phase (ap (after false) (sym same.marks) ∙ on);
}

-- a mark more
tells-mark : (turns : List ℕ) (s r : Shared) (m : Mark) → r.turns ≡ s.turns → r.marks ≡ s.marks ++ m ∷ [] → turn_of m ≡ s.turns
    → (behind m (after false s.marks) ≡ true → r.phase ≡ Main) → Tells turns s → Tells turns r
tells-mark turns s r m count marks here phase tells = record {
  count = count ∙ tells.count;
  order = subst (λ n. AreInOrder 0 n r.marks) (sym count) (subst (AreInOrder 0 s.turns) (sym marks) (order-mark 0 s.turns s.marks m here tells.order));
  between = subst (Between 0 false turns) (sym marks) (between-mark 0 s.turns false turns s.marks m (omega (arith, tells.count)) tells.order here tells.between);
  phase = λ on. phase (sym (after-more false s.marks m) ∙ ap (after false) (sym marks) ∙ on);
}

-- a turn more
tells-turn : (turns : List ℕ) (t : ℕ) (s : Shared) → (after false s.marks ≡ true → t ≡ 0) → Tells turns s → Tells (turns ++ t ∷ []) (record s { turns = suc s.turns })
tells-turn turns t s zeroth tells = record {
  count = omega (arith, tells.count, length-append turns (t ∷ []));
  order = subst (λ n. AreInOrder 0 n s.marks) (omega arith) (order-turn 0 s.turns s.marks tells.order);
  between = between-turn 0 s.turns false turns s.marks t (omega (arith, tells.count)) tells.order zeroth tells.between;
  phase = tells.phase;
}

abbrev is_main : Phase → Bool
is_main Main = true
is_main Run = false
is_main Asked = false
is_main Others = false

-- no update is on its way in another phase
never : (turns : List ℕ) (s : Shared) (phase : Phase) → s.phase ≡ phase → is_main phase ≡ false → Tells turns s → after false s.marks ≡ true → ⊥
never turns s phase is other tells on = false≢true (sym other ∙ ap is_main (sym is ∙ tells.phase on))

tells-end : (turns : List ℕ) (s r : Shared) (how : End) → r.turns ≡ s.turns → r.marks ≡ s.marks ++ mark.End s.turns how ∷ [] → Tells turns s → Tells turns r
tells-end turns s r how count marks tells =
    tells-mark turns s r (mark.End s.turns how) count marks refl (λ on. absurd (false≢true on)) tells

-- ---- a refusal is no update

abbrev IsNoUpdate : Option Closed → Type 0
IsNoUpdate (Some (closed.Ok images)) = ⊥
IsNoUpdate o = Unit {0}

first-refused : (a b : Option Closed) → IsNoUpdate a → IsNoUpdate b → IsNoUpdate (first_of a b)
first-refused None b h k = k
first-refused (Some c) b h k = h

held-refused : (b : Bool) → IsNoUpdate (if_held b)
held-refused true = tt
held-refused false = tt

size-refused : (b : Bool) → IsNoUpdate (if_too_big b)
size-refused true = tt
size-refused false = tt

told-refused : {A : Type 0} (kind : A → Closed) → ((a : A) → IsNoUpdate (Some (kind a))) → (o : Option A) → IsNoUpdate (option_map kind o)
told-refused kind one None = tt
told-refused kind one (Some a) = one a

refusal-refused : {X : Type 0} (e : Engine X) (j : Passage) (w : World X) (roots : List Root) → IsNoUpdate (refusal e j w roots)
refusal-refused e j w roots =
    first-refused _ _ (held-refused (any_held j.old w.shared.memory))
    (first-refused _ _ (told-refused closed.Point (λ t. tt) (least (lacks_point e w.shared.version j) 0 w.threads))
    (first-refused _ _ (told-refused closed.Entry (λ t. tt) (least (lacks_entry j) 0 w.threads))
    (first-refused _ _ (told-refused closed.At (λ f. tt) (first_fault (faults j.plan w.shared.memory roots)))
    (size-refused _))))

refused-behind : (turn k : ℕ) (c : Closed) (b : Bool) → IsNoUpdate (Some c) → behind (mark.Close turn k c) b ≡ b
refused-behind at k (closed.Ok images) b other = absurd other
refused-behind at k closed.Held b other = refl
refused-behind at k (closed.Point t) b other = refl
refused-behind at k (closed.Entry t) b other = refl
refused-behind at k (closed.At fault) b other = refl
refused-behind at k closed.Size b other = refl

-- ---- what is tried after an act

module _ {X : Type 0} (e : Engine X) (job : Job) where
  module _ (turns : List ℕ) where
    abbrev Told : World X → Type 0
    Told w = Tells turns w.shared

    if-told : (b : Bool) (w v : World X) → Told w → Told v → Told (if b then w else v)
    if-told true w v h k = h
    if-told false w v h k = k

    if-tells : (b : Bool) (s r : Shared) → Tells turns s → Tells turns r → Tells turns (if b then s else r)
    if-tells true s r h k = h
    if-tells false s r h k = k

    ongoing-told : (go : World X → World X) → ((w : World X) → Told w → Told (go w)) → (w : World X) → Told w → Told (ongoing go w)
    ongoing-told go one w h = if-told (is_none w.shared.ended) (go w) w (one w h) h

    end-tells : (o : Option End) (s : Shared) → Tells turns s → Tells turns (with_mark o s)
    end-tells None s h = h
    end-tells (Some how) s h = tells-end turns s _ how refl refl h

    main-told : (phase : Phase) (w : World X) → Told w → Told (main_there e phase w)
    main-told Run w h = h
    main-told Asked w h = h
    main-told Main w h =
        if-told (main_is_normal e w.threads) _ w
        (tells-mark turns w.shared _ (mark.MainThere w.shared.turns w.shared.requests) refl refl refl (λ on. absurd (false≢true on)) h) h
    main-told Others w h = h

    back-told : (phase : Phase) (w : World X) → w.shared.phase ≡ phase → Told w → Told (all_back e phase w)
    back-told Run w is h = h
    back-told Asked w is h = h
    back-told Main w is h = h
    back-told Others w is h =
        if-told (all_normal e w.threads) _ w
        (tells-mark turns w.shared _ (mark.Back w.shared.turns w.shared.requests) refl refl refl (λ on. absurd (never turns w.shared Others is refl h on)) h) h

    decided-told : (j : Passage) (roots : List Root) (c : Option Closed) → IsNoUpdate c → (w : World X) → w.shared.phase ≡ Asked → Told w → Told (decided e j w roots c)
    decided-told j roots None other w is h =
        tells-mark turns w.shared _ (mark.Close w.shared.turns w.shared.requests (closed.Ok (image_count j.plan w.shared.memory roots))) refl refl refl (λ on. refl) h
    decided-told j roots (Some c) other w is h =
        tells-mark turns w.shared _ (mark.Close w.shared.turns w.shared.requests c) refl refl refl
        (λ on. absurd (never turns w.shared Asked is refl h (sym (refused-behind w.shared.turns w.shared.requests c (after false w.shared.marks) other) ∙ on))) h

    closing-told : (j : Option Passage) (w : World X) → w.shared.phase ≡ Asked → Told w → Told (closing e j w)
    closing-told None w is h = h
    closing-told (Some j) w is h =
        let roots = thread_roots e j w.shared.memory w.threads in
        decided-told j roots (refusal e j w roots) (refusal-refused e j w roots) w is h

    closed-told : (phase : Phase) (w : World X) → w.shared.phase ≡ phase → Told w → Told (closed_up e job phase w)
    closed-told Run w is h = h
    closed-told Asked w is h =
        if-told (all_parked w.threads) _ w (closing-told (passage_at job w.shared.version) w is h) h
    closed-told Main w is h = h
    closed-told Others w is h = h

    request-told : (left : List ℕ) (w : World X) → w.shared.phase ≡ Run → Told w → Told (request job left w)
    request-told [] w is h = h
    request-told (n ∷ left) w is h =
        if-told (is_some (passage_at job w.shared.version) && nat_le n w.shared.turns) (requested left w) w
        (tells-mark turns w.shared _ (mark.Ask w.shared.turns (suc w.shared.requests) (waiters w.threads)) refl refl refl
        (λ on. absurd (never turns w.shared Run is refl h on)) h) h

    asked-told : (phase : Phase) (w : World X) → w.shared.phase ≡ phase → Told w → Told (asked job phase w)
    asked-told Run w is h = request-told w.shared.after w is h
    asked-told Asked w is h = h
    asked-told Main w is h = h
    asked-told Others w is h = h

    stuck-told : (w : World X) → Told w → Told (stuck e w)
    stuck-told w h = if-told (any_enabled e w 0 w.threads) w _ h (tells-end turns w.shared _ end.Stuck refl refl h)

    spent-tells : (s : Shared) → Tells turns s → Tells turns (spent job s)
    spent-tells s h = if-tells (s.turns == job.budget) _ s (tells-end turns s _ end.Budget refl refl h) h

    pub before-told : (w : World X) → Told w → Told (before_turn e job w)
    before-told w h =
        let asks = λ (u : World X). asked job u.shared.phase u in
        let first = ongoing asks w in
        let second = ongoing (stuck e) first in
        ongoing-told (on_shared (spent job)) (λ u k. spent-tells u.shared k) second
        (ongoing-told (stuck e) stuck-told first
        (ongoing-told asks (λ u k. asked-told u.shared.phase u refl k) w h))

    after-told : (w : World X) → Told w → Told (after_act e job w)
    after-told w h =
        let first = ongoing (λ u. main_there e u.shared.phase u) (end_marked w) in
        let second = ongoing (λ u. all_back e u.shared.phase u) first in
        let third = ongoing (λ u. closed_up e job u.shared.phase u) second in
        before-told third
        (ongoing-told (λ u. closed_up e job u.shared.phase u) (λ u k. closed-told u.shared.phase u refl k) second
        (ongoing-told (λ u. all_back e u.shared.phase u) (λ u k. back-told u.shared.phase u refl k) first
        (ongoing-told (λ u. main_there e u.shared.phase u) (λ u k. main-told u.shared.phase u k) (end_marked w) (end-tells w.shared.ended w.shared h))))

  -- ---- turns

  turn-told : (turns : List ℕ) (w : World X) (t : ℕ) → MayTurn e w t → Tells turns w.shared → Tells (turns ++ t ∷ []) (turn e job w t).shared
  turn-told turns w t may h =
      let types = types_at job w.shared.version in
      let same = act-same e types w t (slice_get w.threads t) in
      let turns-same = ap (λ (x : (ℕ × ℕ) × (Phase × List Mark)). x.0.0) same in
      let marks-same = ap (λ (x : (ℕ × ℕ) × (Phase × List Mark)). x.1.1) same in
      let phase-same = ap (λ (x : (ℕ × ℕ) × (Phase × List Mark)). x.1.0) same in
      let left = tells-beside turns w.shared (acted e types w t).shared (record { turns = turns-same; marks = marks-same; phase = phase-same }) h in
      let zeroth = λ (on : after false (acted e types w t).shared.marks ≡ true). alone e w t (h.phase (ap (after false) (sym marks-same) ∙ on)) may in
      after-told (turns ++ t ∷ []) (counted (acted e types w t)) (tells-turn turns t (acted e types w t).shared zeroth left)

  pub turns-told : (made turns : List ℕ) (w : World X) → MayTurnAll e job w turns → Tells made w.shared → Tells (made ++ turns) (world_from e job w turns).shared
  unfolding world_from
  turns-told made [] w may h = subst (λ l. Tells l w.shared) (sym (append-nil made)) h
  turns-told made (t ∷ turns) w may h =
      subst (λ l. Tells l (world_from e job (turn e job w t) turns).shared) (append_assoc made (t ∷ []) turns)
      (turns-told (made ++ t ∷ []) turns (turn e job w t) may.1 (turn-told made w t may.0 h))

  pub start-told : Tells [] (first_world e job).shared
  start-told = before-told [] (start e job) (record { count = refl; order = omega arith; between = λ on. tt; phase = λ on. absurd (false≢true on) })

-- ---- journals

pub world-told : (job : Job) (turns : List ℕ) → AreTurnsOf job turns → Tells turns (world job turns).shared
world-told job turns may = turns-told (tree_engine job) job [] turns (first_world (tree_engine job) job) may (start-told (tree_engine job) job)

pub main_only : (job : Job) → AllByRecursion IsProgram job.versions → (turns : List ℕ) → AreTurnsOf job turns → HasMainOnly (journal_in job turns)
main_only job programs turns may =
    let marks = (world job turns).shared.marks in
    let kit = kit_of marks in
    let entries = entries_from kit job 0 0 turns marks in
    let only = between-only kit job 0 0 false turns marks (world-told job turns may).between in
    subst (IsMainOnly false) (sym (front-lines kit entries (written-lines kit job programs 0 0 turns marks))) (first kit entries only)
  where
    first : (kit : Kit) (entries : List Entry) → IsMainOnly false (map words_of entries) → IsMainOnly false (kit_words kit ∷ map words_of entries)
    first First entries only = (λ on. absurd (false≢true on), only)
    first Second entries only = (λ on. absurd (false≢true on), only)
