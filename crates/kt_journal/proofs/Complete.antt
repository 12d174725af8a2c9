-- The journal of a complete list of turns says these turns.
use Rattle.std.proofs.Common.{◌≡◌, ℕ, ◌≤◌, List, [], ◌∷◌, ◌++◌, length, take, ap, sym, subst, ◌∙◌, arith, length-append}
use Rattle.std.specs.Prelude.{Option, Some, None}
use Rattle.std.specs.List.{AllByRecursion}
use Rattle.std.proofs.lemmas.List.{take-append-le, take_all}
use Rattle.kt_tree.specs.Version.{IsProgram}
use Rattle.kt_phase.specs.declared.counters.Phase.{Phase}
use Rattle.kt_world.specs.declared.mark.End.{End}
use Rattle.kt_world.specs.declared.mark.Mark.{Mark}
use Rattle.kt_world.specs.declared.mark.Mark.TheVariants as mark
use Rattle.kt_world.specs.Job.{Job}
use Rattle.kt_world.specs.Laws.{BudgetIsKept, EndIsLast, EndsAreLast, IsNoEnd, MarksAreInOrder, MarksTellOfJobs, TurnsAreCounted, TurnsAreOfThreads}
use Rattle.kt_world.specs.Marks.{AreMarks, Ends}
use Rattle.kt_world.specs.Told.{PlansLeadOn, TellOf, TellsEnd, version_after}
use Rattle.kt_world.specs.Trees.{IsRunOf, world}
use Rattle.kt_journal.specs.Journal.{Says, most_turns}
use Rattle.kt_journal.specs.Kept.{IsKept}
use Rattle.kt_journal.specs.Marks.{turn_of}
use Rattle.kt_journal.specs.Written.{journal_of}
use Rattle.kt_journal.proofs.Between.{AreInOrder}
use Rattle.kt_journal.proofs.MainOnly.{world-told}
use Rattle.kt_journal.proofs.ReadBack.{says-back}

-- ---- the last of some marks

front-holds : (P : Mark → Type 0) (front : List Mark) (m : Mark) → AllByRecursion P (front ++ m ∷ []) → AllByRecursion P front × P m
front-holds P [] m all = (tt, all.0)
front-holds P (n ∷ front) m all = let rest = front-holds P front m all.1 in ((all.0, rest.0), rest.1)

tell-end : (job : Job) (v turn : ℕ) (front : List Mark) (how : End) → TellOf job v (front ++ mark.End turn how ∷ []) → TellOf job v front × TellsEnd how
tell-end job v turn [] how tell = (tt, tell.0)
tell-end job v turn (m ∷ front) how tell = let rest = tell-end job (version_after m v) turn front how tell.1 in ((tell.0, rest.0), rest.1)

order-front : (made all : ℕ) (front : List Mark) (m : Mark) → AreInOrder made all (front ++ m ∷ []) → AreInOrder made all front
order-front made all [] m order = omega (arith, order.0, order.1)
order-front made all (n ∷ front) m order = (order.0, order-front (turn_of n) all front m order.1)

-- ---- a run that has ended

-- the marks of an end, and the end alone is one
whole-marks : (o : Option End) (how : End) (phase : Phase) (k turn : ℕ) (marks : List Mark) → o ≡ Some how → AreMarks o phase k turn marks → Ends how phase k turn marks
whole-marks None how phase k turn marks is are = absurd cc
whole-marks (Some other) how phase k turn marks is are = let same : other ≡ how = cc in subst (λ h. Ends h phase k turn marks) same are

-- what stands before the last one
before-last : (xs ys : List Mark) (x y : Mark) → xs ++ x ∷ [] ≡ ys ++ y ∷ [] → xs ≡ ys
before-last xs ys x y same =
    let more = length-append xs (x ∷ []) in
    let most = length-append ys (y ∷ []) in
    let all = ap (λ (l : List Mark). length l) same in
    let long : length xs ≡ length ys = omega (arith, more, most, all) in
    sym (take_all (length xs) xs (omega arith))
    ∙ sym (take-append-le (length xs) xs (x ∷ []) (omega arith))
    ∙ ap (take (length xs)) same
    ∙ ap (λ n. take n (ys ++ y ∷ [])) long
    ∙ take-append-le (length ys) ys (y ∷ []) (omega arith)
    ∙ take_all (length ys) ys (omega arith)

front-no-end : (front marks : List Mark) (m : Mark) (o : Option End) → marks ≡ front ++ m ∷ [] → EndIsLast o marks → AllByRecursion IsNoEnd front
front-no-end front marks m None is last = (front-holds IsNoEnd front m (subst (AllByRecursion IsNoEnd) is last)).0
front-no-end front marks m (Some how) is last =
    subst (AllByRecursion IsNoEnd) (sym (before-last front last.front m (mark.End last.turn how) (sym is ∙ last.is))) last.others

-- what is known of the world of a list of turns
pub record IsKnown (job : Job) (turns : List ℕ) : Type 0 where
  pub counted : TurnsAreCounted job turns
  pub marks : MarksAreInOrder job turns
  pub last : EndsAreLast job turns
  pub of_threads : TurnsAreOfThreads job turns
  pub budget : BudgetIsKept job turns
  pub tell : MarksTellOfJobs job turns

pub read-back : (job : Job) → AllByRecursion IsProgram job.versions → (turns : List ℕ) (marks : List Mark) (how : End) → IsKnown job turns → IsRunOf job turns how
    → marks ≡ (world job turns).shared.marks → AllByRecursion IsKept marks → PlansLeadOn job → job.budget ≤ most_turns → Says (journal_of job turns marks) turns
read-back job programs turns marks how known run are kept leads few =
    let s = (world job turns).shared in
    let may = run.may_turn in
    let ends = whole-marks s.ended how s.phase s.requests s.turns s.marks run.ended (known.marks may) in
    let count = known.counted in
    let is : marks ≡ ends.front ++ mark.End (length turns) how ∷ [] = are ∙ ends.is ∙ ap (λ n. ends.front ++ mark.End n how ∷ []) count in
    let order = order-front 0 s.turns ends.front (mark.End s.turns how) (subst (AreInOrder 0 s.turns) ends.is (world-told job turns may).order) in
    let parts = front-holds IsKept ends.front (mark.End (length turns) how) (subst (AllByRecursion IsKept) is kept) in
    let tell = tell-end job 0 s.turns ends.front how (subst (TellOf job 0) ends.is (known.tell leads)) in
    let budget = known.budget may in
    says-back job programs turns marks
    (record {
      front = ends.front;
      how = how;
      is = is;
      order = subst (λ n. AreInOrder 0 n ends.front) count order;
      no_end = front-no-end ends.front s.marks (mark.End s.turns how) s.ended ends.is (known.last may);
      front_kept = parts.0;
      end_kept = parts.1;
      front_tells = tell.0;
      end_tells = tell.1;
    })
    (known.of_threads may) (omega (arith, budget, few))
