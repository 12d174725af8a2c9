-- Lists of turns of one thread, and the lines of a journal with one mark more.
use Rattle.std.specs.Prelude.{◌≡◌, ℕ, zero, suc, ◌+◌, ◌-◌, ◌<◌, min, List, [], ◌∷◌, ◌++◌, length, get_or, take, drop, replicate, refl}
use Rattle.std.proofs.Common.{arith, sym, ap, ◌∙◌, append_assoc}
use Rattle.std.proofs.lemmas.List.{drop_more}
use Rattle.kt_lone.specs.declared.mark.Mark.{Mark}
use Rattle.kt_play.specs.Journal.{with_turn, stretches_of, turn_lines, mark_line, turn_of, lines_from}

more_turns : (n : ℕ) → stretches_of (replicate (suc n) 0) ≡ record { thread = 0; count = suc n } ∷ []
more_turns zero = refl
more_turns (suc n) =
    let sum : suc n + 1 ≡ suc (suc n) = omega arith in
    ap (with_turn 0) (more_turns n) ∙ ap (λ (k : ℕ). record { thread = 0; count = k } ∷ []) sum

-- turns of one thread are one stretch
pub stretches_of-replicate : (n : ℕ) → 0 < n → stretches_of (replicate n 0) ≡ record { thread = 0; count = n } ∷ []
stretches_of-replicate zero h = absurd (omega arith)
stretches_of-replicate (suc n) h = more_turns n

-- the first k of n turns of one thread, and the rest
take-turns : (k n : ℕ) (t : ℕ) → take k (replicate n t) ≡ replicate (min k n) t
take-turns zero n t = let e : min 0 n ≡ 0 = omega arith in ap (λ j. replicate j t) (sym e)
take-turns (suc k) zero t = let e : min (suc k) 0 ≡ 0 = omega arith in ap (λ j. replicate j t) (sym e)
take-turns (suc k) (suc n) t =
    let e : min (suc k) (suc n) ≡ suc (min k n) = omega arith in
    ap (λ l. t ∷ l) (take-turns k n t) ∙ ap (λ j. replicate j t) (sym e)

drop-turns : (k n : ℕ) (t : ℕ) → drop k (replicate n t) ≡ replicate (n - min k n) t
drop-turns zero n t = let e : n - min 0 n ≡ n = omega arith in ap (λ j. replicate j t) (sym e)
drop-turns (suc k) zero t = let e : 0 - min (suc k) 0 ≡ 0 = omega arith in ap (λ j. replicate j t) (sym e)
drop-turns (suc k) (suc n) t =
    let e : suc n - min (suc k) (suc n) ≡ n - min k n = omega arith in
    drop-turns k n t ∙ ap (λ j. replicate j t) (sym e)

-- the lines of what is left begin with the turns before the next mark, and the mark
pub next_mark : (text all : List ℕ) (made left : ℕ) (marks : List Mark) (i : ℕ) (d : Mark) → i < length marks →
    text ++ lines_from made (replicate left 0) (drop i marks) ≡ all →
    let m = get_or marks i d in
    let count = min (turn_of m - made) left in
    ((text ++ turn_lines (replicate count 0)) ++ mark_line m) ++ lines_from (turn_of m) (replicate (left - count) 0) (drop (i + 1) marks) ≡ all
next_mark text all made left marks i d in_range so_far =
    let m = get_or marks i d in
    let k = turn_of m - made in
    let lines = λ (l : List ℕ). mark_line m ++ lines_from (turn_of m) l (drop (i + 1) marks) in
    let first = turn_lines (replicate (min k left) 0) in
    let rest = replicate (left - min k left) 0 in
    append_assoc (text ++ first) (mark_line m) (lines_from (turn_of m) rest (drop (i + 1) marks))
    ∙ append_assoc text first (lines rest)
    ∙ ap (λ l. text ++ (turn_lines l ++ lines rest)) (sym (take-turns k left 0))
    ∙ ap (λ l. text ++ (turn_lines (take k (replicate left 0)) ++ lines l)) (sym (drop-turns k left 0))
    ∙ ap (λ l. text ++ lines_from made (replicate left 0) l) (sym (drop_more marks i d in_range))
    ∙ so_far
