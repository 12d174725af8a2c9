-- What is written of turns and marks says these turns.
use Rattle.std.proofs.Common.{◌≡◌, ℕ, zero, suc, ◌+◌, ◌-◌, ◌==◌, ◌≤◌, Bool, true, false, eqb-true, List, [], ◌∷◌, ◌++◌, length, take, drop, replicate, refl, ap, sym, subst, ◌∙◌, arith, append-nil, append_assoc}
use Rattle.std.specs.Prelude.{if◌then◌else◌}
use Rattle.std.specs.List.{AllByRecursion}
use Rattle.std.proofs.lemmas.List.{take-append-drop, take_all, drop_all, length-drop}
use Rattle.kt_tree.specs.Version.{IsProgram}
use Rattle.kt_world.specs.declared.mark.End.{End}
use Rattle.kt_world.specs.declared.mark.Mark as world
use Rattle.kt_world.specs.declared.mark.Mark.TheVariants as mark
use Rattle.kt_world.specs.Job.{Job, version_at}
use Rattle.kt_world.specs.Laws.{IsNoEnd}
use Rattle.kt_world.specs.Told.{IsThread, TellOf, TellsEnd, version_after}
use Rattle.kt_journal.specs.declared.kit.Kit.{Kit}
use Rattle.kt_journal.specs.Grammar.{Words}
use Rattle.kt_journal.specs.Journal.{Entry, Turns, Mark, IsEntry, Says, front_of, kit_words, most_turns, turns_of}
use Rattle.kt_journal.specs.Kept.{IsEndKept, IsKept}
use Rattle.kt_journal.specs.Marks.{end_words, kit_of, mark_words, turn_of}
use Rattle.kt_journal.specs.Written.{with_turn, with_turns, entries_from, journal_of}
use Rattle.kt_journal.proofs.Between.{AreInOrder}
use Rattle.kt_journal.proofs.Formed.{end-formed, mark-formed}
use Rattle.kt_journal.proofs.Named.{program-at}
use Rattle.kt_journal.proofs.Writing.{text_in, text_in-append, with_turns-mark}
use Rattle.kt_text.specs.Lines.{line_of}

-- ---- the turns of lines

turn-by : (t u n : ℕ) (es : List Entry) (b : Bool) → (u == t) ≡ b
    → turns_of (if b then Turns u (n + 1) ∷ es else Turns t 1 ∷ (Turns u n ∷ es)) ≡ t ∷ (replicate n u ++ turns_of es)
turn-by t u n es true same =
    let more : n + 1 ≡ suc n = omega arith in
    ap (λ k. replicate k u ++ turns_of es) more ∙ ap (λ w. w ∷ (replicate n u ++ turns_of es)) (eqb-true u t same)
turn-by t u n es false other = refl

-- one turn more, in front
says-turn : (t : ℕ) (es : List Entry) → turns_of (with_turn t es) ≡ t ∷ turns_of es
says-turn t [] = refl
says-turn t (Mark words ∷ es) = refl
says-turn t (Turns u n ∷ es) = turn-by t u n es (u == t) refl

says-these : (turns : List ℕ) (es : List Entry) → turns_of (with_turns turns es) ≡ turns ++ turns_of es
says-these [] es = refl
says-these (t ∷ turns) es = says-turn t (with_turns turns es) ∙ ap (λ l. t ∷ l) (says-these turns es)

says-turns : (kit : Kit) (job : Job) (v made : ℕ) (turns : List ℕ) (marks : List world.Mark) → turns_of (entries_from kit job v made turns marks) ≡ turns
says-turns kit job v made turns [] = says-these turns [] ∙ append-nil turns
says-turns kit job v made turns (m ∷ marks) =
    let k = turn_of m - made in
    says-these (take k turns) (Mark (mark_words kit (version_at job (suc v)) m) ∷ entries_from kit job (version_after m v) (turn_of m) (drop k turns) marks)
    ∙ ap (λ l. take k turns ++ l) (says-turns kit job (version_after m v) (turn_of m) (drop k turns) marks)
    ∙ take-append-drop k turns

-- ---- lines that may stand there

abbrev AreFormed : Kit → List Entry → Type 0
AreFormed kit entries = AllByRecursion (IsEntry kit) entries

turn-formed-by : (kit : Kit) (t u n : ℕ) (es : List Entry) (b : Bool) → IsThread t → AreFormed kit (Turns u n ∷ es)
    → AreFormed kit (if b then Turns u (n + 1) ∷ es else Turns t 1 ∷ (Turns u n ∷ es))
turn-formed-by kit t u n es true small all = ((all.0.0, omega arith), all.1)
turn-formed-by kit t u n es false small all = ((small, omega arith), all)

turn-formed : (kit : Kit) (t : ℕ) (es : List Entry) → IsThread t → AreFormed kit es → AreFormed kit (with_turn t es)
turn-formed kit t [] small all = ((small, omega arith), tt)
turn-formed kit t (Mark words ∷ es) small all = ((small, omega arith), all)
turn-formed kit t (Turns u n ∷ es) small all = turn-formed-by kit t u n es (u == t) small all

turns-formed : (kit : Kit) (turns : List ℕ) (es : List Entry) → AllByRecursion IsThread turns → AreFormed kit es → AreFormed kit (with_turns turns es)
turns-formed kit [] es small all = all
turns-formed kit (t ∷ turns) es small all = turn-formed kit t (with_turns turns es) small.0 (turns-formed kit turns es small.1 all)

front-all : (P : ℕ → Type 0) (k : ℕ) (xs : List ℕ) → AllByRecursion P xs → AllByRecursion P (take k xs) × AllByRecursion P (drop k xs)
front-all P zero xs all = (tt, all)
front-all P (suc k) [] all = (tt, tt)
front-all P (suc k) (x ∷ xs) all = let rest = front-all P k xs all.1 in ((all.0, rest.0), rest.1)

entries-formed : (kit : Kit) (job : Job) → AllByRecursion IsProgram job.versions → (v made : ℕ) (turns : List ℕ) (marks : List world.Mark) → AllByRecursion IsThread turns
    → AllByRecursion IsNoEnd marks → AllByRecursion IsKept marks → TellOf job v marks → AreFormed kit (entries_from kit job v made turns marks)
entries-formed kit job programs v made turns [] small no_end kept tell = turns-formed kit turns [] small tt
entries-formed kit job programs v made turns (m ∷ marks) small no_end kept tell =
    let k = turn_of m - made in
    let parts = front-all IsThread k turns small in
    turns-formed kit (take k turns) (Mark (mark_words kit (version_at job (suc v)) m) ∷ entries_from kit job (version_after m v) (turn_of m) (drop k turns) marks) parts.0 (
      mark-formed kit (version_at job (suc v)) m (program-at job programs (suc v)) no_end.0 kept.0 tell.0,
      entries-formed kit job programs (version_after m v) (turn_of m) (drop k turns) marks parts.1 no_end.1 kept.1 tell.1,
    )

-- ---- the last line

last-turns : (turns : List ℕ) (words ends : Words) (es : List Entry) → with_turns turns (Mark words ∷ (es ++ Mark ends ∷ [])) ≡ with_turns turns (Mark words ∷ es) ++ Mark ends ∷ []
last-turns turns words ends es =
    with_turns-mark turns words (es ++ Mark ends ∷ [])
    ∙ sym (append_assoc (with_turns turns []) (Mark words ∷ es) (Mark ends ∷ []))
    ∙ ap (λ front. front ++ Mark ends ∷ []) (sym (with_turns-mark turns words es))

order-le : (made all : ℕ) (marks : List world.Mark) → AreInOrder made all marks → made ≤ all
order-le made all [] order = order
order-le made all (m ∷ marks) order = let rest = order-le (turn_of m) all marks order.1 in omega (arith, rest, order.0)

-- the line of the end stands behind those of all turns
end-last : (kit : Kit) (job : Job) (v made all : ℕ) (turns : List ℕ) (marks : List world.Mark) (how : End) → all ≡ made + length turns → AreInOrder made all marks
    → entries_from kit job v made turns (marks ++ mark.End all how ∷ []) ≡ entries_from kit job v made turns marks ++ Mark (end_words how) ∷ []
end-last kit job v made all turns [] how sum order =
    let size : length turns ≤ all - made = omega (arith, sum) in
    ap (λ l. with_turns l (Mark (end_words how) ∷ with_turns (drop (all - made) turns) [])) (take_all (all - made) turns size)
    ∙ ap (λ l. with_turns turns (Mark (end_words how) ∷ with_turns l [])) (drop_all (all - made) turns size)
    ∙ with_turns-mark turns (end_words how) []
end-last kit job v made all turns (m ∷ marks) how sum order =
    let k = turn_of m - made in
    let words = mark_words kit (version_at job (suc v)) m in
    let later = entries_from kit job (version_after m v) (turn_of m) (drop k turns) marks in
    let high = order-le (turn_of m) all marks order.1 in
    let rest = end-last kit job (version_after m v) (turn_of m) all (drop k turns) marks how (omega (arith, order.0, high, sum, length-drop k turns)) order.1 in
    ap (λ es. with_turns (take k turns) (Mark words ∷ es)) rest ∙ last-turns (take k turns) words (end_words how) later

front-last : (kit : Kit) (es : List Entry) (words : Words) → front_of kit (es ++ Mark words ∷ []) ≡ front_of kit es ++ line_of words
front-last kit es words =
    ap (λ l. line_of (kit_words kit) ++ l) (text_in-append es (Mark words ∷ []))
    ∙ ap (λ l. line_of (kit_words kit) ++ (text_in es ++ l)) (append-nil (line_of words))
    ∙ sym (append_assoc (line_of (kit_words kit)) (text_in es) (line_of words))

-- ---- journals

-- the marks of a run that has ended, beside its turns
pub record AreWhole (job : Job) (turns : List ℕ) (marks : List world.Mark) : Type 0 where
  pub front : List world.Mark
  pub how : End
  pub is : marks ≡ front ++ mark.End (length turns) how ∷ []
  pub order : AreInOrder 0 (length turns) front
  pub no_end : AllByRecursion IsNoEnd front
  pub front_kept : AllByRecursion IsKept front
  pub end_kept : IsEndKept how
  pub front_tells : TellOf job 0 front
  pub end_tells : TellsEnd how

pub says-back : (job : Job) → AllByRecursion IsProgram job.versions → (turns : List ℕ) (marks : List world.Mark) → AreWhole job turns marks
    → AllByRecursion IsThread turns → length turns ≤ most_turns → Says (journal_of job turns marks) turns
says-back job programs turns marks whole small few =
    let kit = kit_of marks in
    let es = entries_from kit job 0 0 turns whole.front in
    let says = says-turns kit job 0 0 turns whole.front in
    record {
      kit = kit;
      entries = es;
      end = end_words whole.how;
      are_entries = record {
        formed = entries-formed kit job programs 0 0 turns whole.front small whole.no_end whole.front_kept whole.front_tells;
        few = subst (λ l. length l ≤ most_turns) (sym says) few;
      };
      ends = end-formed whole.how whole.end_kept whole.end_tells;
      bytes_are =
          ap (λ ms. front_of kit (entries_from kit job 0 0 turns ms)) whole.is
          ∙ ap (front_of kit) (end-last kit job 0 0 (length turns) turns whole.front whole.how (omega arith) whole.order)
          ∙ front-last kit es (end_words whole.how);
      turns_are = sym says;
    }
