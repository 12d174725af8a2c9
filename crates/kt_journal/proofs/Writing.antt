-- The lines of turns, and the lines of a journal with one mark more.
use Rattle.std.proofs.Common.{◌≡◌, ℕ, zero, suc, ◌+◌, ◌-◌, ◌<◌, min, Bool, true, false, eqb-true, eq-eqb, List, [], ◌∷◌, ◌++◌, length, get_or, take, drop, map, replicate, refl, ap, sym, ◌∙◌, arith, append_assoc, append-nil, codes}
use Rattle.std.specs.Prelude.{◌==◌, Option, if◌then◌else◌}
use Rattle.std.proofs.lemmas.List.{drop_more, replicate_more}
use Rattle.std.specs.Fmt.{decimal}
use Rattle.kt_text.specs.Lines.{line_of}
use Rattle.kt_world.specs.declared.mark.Mark as world
use Rattle.kt_tree.specs.Version.{Program}
use Rattle.kt_world.specs.Job.{Job, version_at}
use Rattle.kt_journal.specs.declared.kit.Kit.{Kit}
use Rattle.kt_journal.specs.Grammar.{Words}
use Rattle.kt_journal.specs.Journal.{Entry, Turns, Mark, words_of, text_of}
use Rattle.kt_journal.specs.Marks.{mark_words, turn_of}
use Rattle.kt_world.specs.Told.{version_after}
use Rattle.kt_journal.specs.Written.{with_turn, with_turns, entries_from}

-- the text of lines
abbrev pub text_in : List Entry → List ℕ
text_in entries = text_of (map words_of entries)

pub text_in-append : (xs ys : List Entry) → text_in (xs ++ ys) ≡ text_in xs ++ text_in ys
text_in-append [] ys = refl
text_in-append (entry ∷ xs) ys =
    ap (λ text. line_of (words_of entry) ++ text) (text_in-append xs ys) ∙ sym (append_assoc (line_of (words_of entry)) (text_in xs) (text_in ys))

-- ---- turns before a mark

with_turn-mark : (t : ℕ) (xs : List Entry) (ws : Words) (es : List Entry) → with_turn t (xs ++ Mark ws ∷ es) ≡ with_turn t xs ++ Mark ws ∷ es
with_turn-mark t [] ws es = refl
with_turn-mark t (Mark vs ∷ xs) ws es = refl
with_turn-mark t (Turns u n ∷ xs) ws es =
    elim (u == t) as (λ b. (if b then Turns u (n + 1) ∷ (xs ++ Mark ws ∷ es) else Turns t 1 ∷ (Turns u n ∷ (xs ++ Mark ws ∷ es)))
    ≡ (if b then Turns u (n + 1) ∷ xs else Turns t 1 ∷ (Turns u n ∷ xs)) ++ Mark ws ∷ es) [ true ↦ refl | false ↦ refl ]

pub with_turns-mark : (turns : List ℕ) (ws : Words) (es : List Entry) → with_turns turns (Mark ws ∷ es) ≡ with_turns turns [] ++ Mark ws ∷ es
with_turns-mark [] ws es = refl
with_turns-mark (t ∷ turns) ws es = ap (with_turn t) (with_turns-mark turns ws es) ∙ with_turn-mark t (with_turns turns []) ws es

take-min : (k : ℕ) (xs : List ℕ) → take (min k (length xs)) xs ≡ take k xs
take-min zero xs = let e : min 0 (length xs) ≡ 0 = omega arith in ap (λ j. take j xs) e
take-min (suc k) [] = let e : min (suc k) 0 ≡ 0 = omega arith in ap (λ (j : ℕ). take {A = ℕ} j []) e
take-min (suc k) (x ∷ xs) =
    let e : min (suc k) (length (x ∷ xs)) ≡ suc (min k (length xs)) = omega arith in
    ap (λ j. take j (x ∷ xs)) e ∙ ap (λ l. x ∷ l) (take-min k xs)

drop-min : (k : ℕ) (xs : List ℕ) → drop (min k (length xs)) xs ≡ drop k xs
drop-min zero xs = let e : min 0 (length xs) ≡ 0 = omega arith in ap (λ j. drop j xs) e
drop-min (suc k) [] = let e : min (suc k) 0 ≡ 0 = omega arith in ap (λ (j : ℕ). drop {A = ℕ} j []) e
drop-min (suc k) (x ∷ xs) =
    let e : min (suc k) (length (x ∷ xs)) ≡ suc (min k (length xs)) = omega arith in
    ap (λ j. drop j (x ∷ xs)) e ∙ drop-min k xs

mark-text : (k turn : ℕ) (turns : List ℕ) (ws : Words) (es : List Entry) → text_in (with_turns (take k turns) (Mark ws ∷ es))
    ≡ text_in (with_turns (take k turns) []) ++ (line_of ws ++ text_in es)
mark-text k turn turns ws es = ap text_in (with_turns-mark (take k turns) ws es) ∙ text_in-append (with_turns (take k turns) []) (Mark ws ∷ es)

-- the lines of what is left begin with those of the turns before the next mark, and the mark's
pub next_mark : (kit : Kit) (job : Job) (text all : List ℕ) (v made : ℕ) (turns : List ℕ) (marks : List world.Mark) (i : ℕ) (d : world.Mark) → i < length marks
    → text ++ text_in (entries_from kit job v made turns (drop i marks)) ≡ all
    → let m = get_or marks i d in
    let count = min (turn_of m - made) (length turns) in
    ((text ++ text_in (with_turns (take count turns) [])) ++ line_of (mark_words kit (version_at job (suc v)) m)) ++ text_in (entries_from kit job (version_after m v) (turn_of m) (drop count turns) (drop (i + 1) marks)) ≡ all
next_mark kit job text all v made turns marks i d in_range so_far =
    let m = get_or marks i d in
    let k = turn_of m - made in
    let words = mark_words kit (version_at job (suc v)) m in
    let later = λ (rest : List ℕ). text_in (entries_from kit job (version_after m v) (turn_of m) rest (drop (i + 1) marks)) in
    let first = λ (front : List ℕ). text_in (with_turns front []) in
    ap (λ front. ((text ++ first front) ++ line_of words) ++ later (drop (min k (length turns)) turns)) (take-min k turns)
    ∙ ap (λ rest. ((text ++ first (take k turns)) ++ line_of words) ++ later rest) (drop-min k turns)
    ∙ append_assoc (text ++ first (take k turns)) (line_of words) (later (drop k turns))
    ∙ append_assoc text (first (take k turns)) (line_of words ++ later (drop k turns))
    ∙ ap (λ l. text ++ l) (sym (mark-text k (turn_of m) turns words (entries_from kit job (version_after m v) (turn_of m) (drop k turns) (drop (i + 1) marks))))
    ∙ ap (λ l. text ++ text_in (entries_from kit job v made turns l)) (sym (drop_more marks i d in_range))
    ∙ so_far

-- ---- turns in a row

join-one : (u n : ℕ) (es : List Entry) → with_turn u (Turns u n ∷ es) ≡ Turns u (n + 1) ∷ es
join-one u n es = let same : (u == u) ≡ true = eq-eqb u u refl in rw same

cut-one : (u t n : ℕ) (es : List Entry) → (t == u) ≡ false → with_turn u (Turns t n ∷ es) ≡ Turns u 1 ∷ (Turns t n ∷ es)
cut-one u t n es other = rw other

-- turns that begin with t have lines that do
starts-by : (t u n : ℕ) (es : List Entry) (b : Bool) → (u == t) ≡ b
    → (m : ℕ) × (rest : List Entry) × ((if b then Turns u (n + 1) ∷ es else Turns t 1 ∷ (Turns u n ∷ es)) ≡ Turns t m ∷ rest)
starts-by t u n es true is = (n + 1, es, ap (λ v. Turns v (n + 1) ∷ es) (eqb-true u t is))
starts-by t u n es false is = (1, Turns u n ∷ es, refl)

starts : (t : ℕ) (es : List Entry) → (m : ℕ) × (rest : List Entry) × (with_turn t es ≡ Turns t m ∷ rest)
starts t [] = (1, [], refl)
starts t (Mark ws ∷ es) = (1, Mark ws ∷ es, refl)
starts t (Turns u n ∷ es) = starts-by t u n es (u == t) refl

pub all-same : (k u : ℕ) → with_turns (replicate (suc k) u) [] ≡ Turns u (suc k) ∷ []
all-same zero u = refl
all-same (suc k) u =
    let sum : suc k + 1 ≡ suc (suc k) = omega arith in
    ap (with_turn u) (all-same k u) ∙ join-one u (suc k) [] ∙ ap (λ m. Turns u m ∷ []) sum

stretch-cut : (k u t : ℕ) (turns : List ℕ) → (t == u) ≡ false
    → with_turns (replicate (suc k) u ++ t ∷ turns) [] ≡ Turns u (suc k) ∷ with_turns (t ∷ turns) []
stretch-cut zero u t turns other =
    let s = starts t (with_turns turns []) in
    ap (with_turn u) s.2 ∙ cut-one u t s.0 s.1 other ∙ ap (λ es. Turns u 1 ∷ es) (sym s.2)
stretch-cut (suc k) u t turns other =
    let sum : suc k + 1 ≡ suc (suc k) = omega arith in
    ap (with_turn u) (stretch-cut k u t turns other) ∙ join-one u (suc k) (with_turns (t ∷ turns) []) ∙ ap (λ m. Turns u m ∷ with_turns (t ∷ turns) []) sum

parted : (count u t : ℕ) (turns : List ℕ) → (t == u) ≡ false
    → with_turns (replicate count u ++ t ∷ turns) [] ≡ with_turns (replicate count u) [] ++ with_turns (t ∷ turns) []
parted zero u t turns other = refl
parted (suc k) u t turns other = stretch-cut k u t turns other ∙ sym (ap (λ es. es ++ with_turns (t ∷ turns) []) (all-same k u))

-- a turn of another thread ends the line
pub other_turn : (text new all : List ℕ) (count u t : ℕ) (turns : List ℕ) → (t == u) ≡ false
    → new ≡ text ++ text_in (with_turns (replicate count u) [])
    → text ++ text_in (with_turns (replicate count u ++ t ∷ turns) []) ≡ all
    → new ++ text_in (with_turns (replicate 1 t ++ turns) []) ≡ all
other_turn text new all count u t turns other pushed so_far =
    ap (λ front. front ++ text_in (with_turns (t ∷ turns) [])) pushed
    ∙ append_assoc text (text_in (with_turns (replicate count u) [])) (text_in (with_turns (t ∷ turns) []))
    ∙ ap (λ l. text ++ l) (sym (text_in-append (with_turns (replicate count u) []) (with_turns (t ∷ turns) [])))
    ∙ ap (λ es. text ++ text_in es) (sym (parted count u t turns other))
    ∙ so_far

-- a turn of the same thread is one more in the line
pub same_turn : (text all : List ℕ) (count u t : ℕ) (turns : List ℕ) → t ≡ u
    → text ++ text_in (with_turns (replicate count u ++ t ∷ turns) []) ≡ all
    → text ++ text_in (with_turns (replicate (count + 1) u ++ turns) []) ≡ all
same_turn text all count u t turns same so_far =
    ap (λ l. text ++ text_in (with_turns (l ++ turns) [])) (sym (replicate_more count u))
    ∙ ap (λ l. text ++ text_in (with_turns l [])) (append_assoc (replicate count u) (u ∷ []) turns)
    ∙ ap (λ v. text ++ text_in (with_turns (replicate count u ++ v ∷ turns) [])) (sym same)
    ∙ so_far

-- turns of one thread are one line
pub one_stretch : (n t : ℕ) → 0 < n → text_in (with_turns (replicate n t) []) ≡ line_of (codes "turn" ∷ decimal t ∷ decimal n ∷ [])
one_stretch zero t some = absurd (omega arith)
one_stretch (suc n) t some = ap text_in (all-same n t) ∙ append-nil (line_of (codes "turn" ∷ decimal t ∷ decimal (suc n) ∷ []))

-- ---- steps of the loops

pub step_same : (text all new : List ℕ) (count u more v i : ℕ) (turns : List ℕ) → new ≡ text → v ≡ u → more ≡ count + 1 → i < length turns → get_or turns i 0 ≡ u
    → text ++ text_in (with_turns (replicate count u ++ drop i turns) []) ≡ all
    → new ++ text_in (with_turns (replicate more v ++ drop (i + 1) turns) []) ≡ all
step_same text all new count u more v i turns texts threads counts h same so_far =
    rw (texts, threads, counts)
    (same_turn text all count u (get_or turns i 0) (drop (i + 1) turns) same
    (ap (λ l. text ++ text_in (with_turns (replicate count u ++ l) [])) (sym (drop_more turns i 0 h)) ∙ so_far))

unequal : (t u : ℕ) (b : Bool) → (t == u) ≡ b → (t ≡ u → ⊥) → b ≡ false
unequal t u true same other = absurd (other (eqb-true t u same))
unequal t u false same other = refl

pub step_other : (text all pushed new : List ℕ) (count u one v i : ℕ) (turns : List ℕ) → new ≡ pushed → v ≡ get_or turns i 0 → one ≡ 1 → i < length turns
    → (get_or turns i 0 ≡ u → ⊥) → pushed ≡ text ++ text_in (with_turns (replicate count u) [])
    → text ++ text_in (with_turns (replicate count u ++ drop i turns) []) ≡ all
    → new ++ text_in (with_turns (replicate one v ++ drop (i + 1) turns) []) ≡ all
step_other text all pushed new count u one v i turns texts threads counts h other row so_far =
    rw (texts, threads, counts)
    (other_turn text pushed all count u (get_or turns i 0) (drop (i + 1) turns) (unequal (get_or turns i 0) u (get_or turns i 0 == u) refl other) row
    (ap (λ l. text ++ text_in (with_turns (replicate count u ++ l) [])) (sym (drop_more turns i 0 h)) ∙ so_far))

pub step_mark : (kit : Kit) (job : Job) (text all rows new before behind : List ℕ) (v w made turn apart count : ℕ) (o : Option Program) (turns : List ℕ) (marks : List world.Mark) (i : ℕ) (d : world.Mark) → i < length marks
    → o ≡ version_at job (v + 1) → w ≡ version_after (get_or marks i d) v → turn ≡ turn_of (get_or marks i d) → apart ≡ turn - made → count ≡ min apart (length turns) → before ≡ take count turns → behind ≡ drop count turns
    → rows ≡ text ++ text_in (with_turns before []) → new ≡ rows ++ line_of (mark_words kit o (get_or marks i d))
    → text ++ text_in (entries_from kit job v made turns (drop i marks)) ≡ all
    → new ++ text_in (entries_from kit job w turn behind (drop (i + 1) marks)) ≡ all
step_mark kit job text all rows new before behind v w made turn apart count o turns marks i d h next versions turns_so_far parted_by counted front back pushed marked so_far =
    let later : o ≡ version_at job (suc v) = next ∙ ap (version_at job) (omega arith) in
    rw (marked, later, pushed, front, back, counted, parted_by, versions, turns_so_far) (next_mark kit job text all v made turns marks i d h so_far)
