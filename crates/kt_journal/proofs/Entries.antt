-- What the first line of a text says.
use Rattle.std.proofs.Common.{◌≡◌, ℕ, ◌+◌, ◌^◌, ◌<◌, ◌≤◌, Bool, true, false, List, [], ◌∷◌, ◌++◌, length, replicate, Option, Some, None, refl, ap, sym, subst, ◌∙◌, arith, codes, length-append, append-nil}
use Rattle.std.specs.Prelude.{◌==◌, if◌then◌else◌}
use Rattle.std.specs.Fmt.{decimal}
use Rattle.std.proofs.lemmas.Bool.{false≢true}
use Rattle.std.proofs.lemmas.Bool.Decides.{nat_tests}
use Rattle.std.proofs.lemmas.List.{length-replicate}
use Rattle.std.proofs.lemmas.Fmt.{digits_decimal}
use Rattle.std.proofs.lemmas.Str.Parse.{numerals_by_value, tells_all_ascii_digits}
use Rattle.kt_text.specs.Lines.{line_of}
use Rattle.kt_text.specs.Numbers.{number_of, is_number}
use Rattle.kt_journal.specs.declared.kit.Kit.{Kit}
use Rattle.kt_journal.specs.declared.kit.Kit.TheVariants.{First, Second}
use Rattle.kt_journal.specs.Grammar.{Words, is, number_in, has_leading_zero, is_mark, is_end}
use Rattle.kt_journal.specs.Journal.{Entry, Turns, Mark, words_of, IsEntry, turns_of, most_turns, StandsAt}
use Rattle.kt_journal.specs.Reading.{split, some_turns, stretch_in, TakesEntry, TakesNone, TakesEnd}
use Rattle.kt_journal.proofs.Numbers.{number_in-decimal, number_in-only}
use Rattle.kt_journal.proofs.Clean.{digits-clean, is-same, mark-clean, mark-some, end-clean, end-some}
use Rattle.kt_journal.proofs.Splitting.{has, IsClean, AreClean, line-split, stands-words, stands-nowhere}

-- ---- turns

positive : (n : ℕ) → 0 < n → (n == 0) ≡ false
positive n h = grind (arith, nat_tests)

pub stretch-turns : (t n : ℕ) → t ≤ 64 → 0 < n → n ≤ most_turns → stretch_in (words_of (Turns t n)) ≡ Some (t, n)
stretch-turns t n few some most =
    let thread : number_in 64 (decimal t) ≡ Some t = number_in-decimal 64 t (omega arith) few in
    let count : number_in most_turns (decimal n) ≡ Some n = number_in-decimal most_turns n (omega arith) most in
    let over : (n == 0) ≡ false = positive n some in
    rw (thread, count, over) refl

in-range : (most : ℕ) (word : List ℕ) (n : ℕ) → number_of most word ≡ Some n → n ≤ most
unfolding number_of is_number
in-range most word n is = grind (arith, nat_tests)

pub number_in-most : (most : ℕ) (word : List ℕ) (n : ℕ) → number_in most word ≡ Some n → n ≤ most
unfolding number_in
number_in-most most word n is = by-lead (has_leading_zero word) is where
  by-lead : (b : Bool) → (if b then None else number_of most word) ≡ Some n → n ≤ most
  by-lead true never = let lacks : ⊥ = cc in absurd lacks
  by-lead false found = in-range most word n found

said-if : (b : Bool) (o : Option (ℕ × ℕ)) (p : ℕ × ℕ) → (if b then o else None) ≡ Some p → (b ≡ true) × (o ≡ Some p)
said-if true o p is = (refl, is)
said-if false o p is = let never : ⊥ = cc in absurd never

over-zero : (n : ℕ) → (n == 0) ≡ false → 0 < n
over-zero n h = grind (arith, nat_tests)

abbrev pub thread_in : Option (ℕ × ℕ) → ℕ
thread_in None = 0
thread_in (Some p) = p.0

abbrev pub count_in : Option (ℕ × ℕ) → ℕ
count_in None = 0
count_in (Some p) = p.1

counted : (t n u m : ℕ) (b : Bool) → (n == 0) ≡ b → if◌then◌else◌ {A = Option (ℕ × ℕ)} b None (Some (t, n)) ≡ Some (u, m) → (t ≡ u) × (n ≡ m) × (0 < m)
counted t n u m true zero_count is = let never : ⊥ = cc in absurd never
counted t n u m false some is =
    let thread : t ≡ u = ap thread_in is in
    let count : n ≡ m = ap count_in is in (thread, count, subst (λ k. 0 < k) count (over-zero n some))

both-some : (x y : Option ℕ) (u m : ℕ) → some_turns x y ≡ Some (u, m) → (x ≡ Some u) × (y ≡ Some m) × (0 < m)
both-some None y u m is = let never : ⊥ = cc in absurd never
both-some (Some t) None u m is = let never : ⊥ = cc in absurd never
both-some (Some t) (Some n) u m is =
    let parts = counted t n u m (n == 0) refl is in
    (ap (λ k. Some k) parts.0, ap (λ k. Some k) parts.1, parts.2)

pub record IsStretch (words : Words) (t n : ℕ) : Type 0 where
  pub words_are : words ≡ words_of (Turns t n)
  pub few : t ≤ 64
  pub some : 0 < n
  pub most : n ≤ most_turns

pub stretch-only : (words : Words) (t n : ℕ) → stretch_in words ≡ Some (t, n) → IsStretch words t n
stretch-only [] t n is = let never : ⊥ = cc in absurd never
stretch-only (word ∷ []) t n is = let never : ⊥ = cc in absurd never
stretch-only (word ∷ (thread ∷ [])) t n is = let never : ⊥ = cc in absurd never
stretch-only (word ∷ (thread ∷ (count ∷ (more ∷ words)))) t n is = let never : ⊥ = cc in absurd never
stretch-only (word ∷ (thread ∷ (count ∷ []))) t n eq =
    let said = said-if (is (codes "turn") word) (some_turns (number_in 64 thread) (number_in most_turns count)) (t, n) eq in
    let parts = both-some (number_in 64 thread) (number_in most_turns count) t n said.1 in
    let few : t ≤ 64 = number_in-most 64 thread t parts.0 in
    let most : n ≤ most_turns = number_in-most most_turns count n parts.1 in
    let first : word ≡ codes "turn" = is-same (codes "turn") word said.0 in
    let second : thread ≡ decimal t = (number_in-only 64 thread t (omega arith) parts.0).0 in
    let third : count ≡ decimal n = (number_in-only most_turns count n (omega arith) parts.1).0 in
    record { words_are = cc; few = few; some = parts.2; most = most }

pub turns-no-mark : (kit : Kit) (t n : ℕ) → is_mark kit (words_of (Turns t n)) ≡ false
turns-no-mark First t n = refl
turns-no-mark Second t n = refl

-- a mark's words say no turns
no-both : (kit : Kit) (words : Words) (t n : ℕ) → is_mark kit words ≡ true → stretch_in words ≡ Some (t, n) → ⊥
no-both kit words t n mark said =
    let turns = (stretch-only words t n said).words_are in
    false≢true (sym (turns-no-mark kit t n) ∙ ap (is_mark kit) (sym turns) ∙ mark)

-- ---- lines

decimal-clean : (n : ℕ) → n < 2 ^ 64 → IsClean (decimal n)
decimal-clean n small = digits-clean (decimal n) (digits_decimal (numerals_by_value _ tells_all_ascii_digits) n small)

pub turns-clean : (t n : ℕ) → t ≤ 64 → n ≤ most_turns → AreClean (words_of (Turns t n))
turns-clean t n few most = ((refl, refl), (decimal-clean t (omega arith), (decimal-clean n (omega arith), tt)))

pub length-turns : (t n : ℕ) → length (turns_of (Turns t n ∷ [])) ≡ n
length-turns t n = length-append (replicate n t) [] ∙ (omega (arith, length-replicate n t))

-- where no line ends there is none
pub none-cut : (kit : Kit) (before text : List ℕ) → has 10 text ≡ false → TakesNone kit before text
none-cut kit before text lacks entry is few stands = stands-nowhere text (words_of entry) lacks stands

-- the words of a line that may stand at the front are those of the first line
front-words : (kit : Kit) (before text line behind : List ℕ) → has 10 line ≡ false → text ≡ line ++ 10 ∷ behind → (entry : Entry) → IsEntry kit entry
    → length before + length (turns_of (entry ∷ [])) ≤ most_turns → StandsAt (words_of entry) text → split line ≡ words_of entry
front-words kit before text line behind lacks is (Turns t n) entry few stands =
    let count = length-turns t n in
    stands-words text line behind (words_of (Turns t n)) lacks is (turns-clean t n entry.0 (omega (arith, count))) refl stands
front-words kit before text line behind lacks is (Mark words) entry few stands =
    stands-words text line behind words lacks is (mark-clean kit words entry) (mark-some kit words entry) stands

-- a line that says no turns and is no mark
pub none-other : (kit : Kit) (before text line behind : List ℕ) → has 10 line ≡ false → text ≡ line ++ 10 ∷ behind
    → stretch_in (split line) ≡ None → is_mark kit (split line) ≡ false → TakesNone kit before text
none-other kit before text line behind lacks is said mark (Turns t n) entry few stands =
    let count = length-turns t n in
    let words = front-words kit before text line behind lacks is (Turns t n) entry few stands in
    let turns = stretch-turns t n entry.0 entry.1 (omega (arith, count)) in
    let never : None ≡ Some (t, n) = sym said ∙ ap stretch_in words ∙ turns in
    let no_way : ⊥ = cc in no_way
none-other kit before text line behind lacks is said mark (Mark words) entry few stands =
    let front = front-words kit before text line behind lacks is (Mark words) entry few stands in
    false≢true (sym mark ∙ ap (is_mark kit) front ∙ entry)

-- a line by which there are too many turns
pub none-many : (kit : Kit) (before text line behind : List ℕ) (t n : ℕ) → has 10 line ≡ false → text ≡ line ++ 10 ∷ behind
    → stretch_in (split line) ≡ Some (t, n) → most_turns < length before + n → TakesNone kit before text
none-many kit before text line behind t n lacks is said many (Turns u m) entry few stands =
    let count = length-turns u m in
    let words = front-words kit before text line behind lacks is (Turns u m) entry few stands in
    let turns = stretch-turns u m entry.0 entry.1 (omega (arith, count)) in
    let same : Some (t, n) ≡ Some (u, m) = sym said ∙ ap stretch_in words ∙ turns in
    let number : n ≡ m = ap count_in same in omega (arith, count)
none-many kit before text line behind t n lacks is said many (Mark words) entry few stands =
    let front = front-words kit before text line behind lacks is (Mark words) entry few stands in
    no-both kit words t n entry (ap stretch_in (sym front) ∙ said)

-- a line of turns
pub takes-turns : (kit : Kit) (before after text line behind : List ℕ) (t n : ℕ) → text ≡ line ++ 10 ∷ behind → stretch_in (split line) ≡ Some (t, n)
    → after ≡ before ++ replicate n t → length before + n ≤ most_turns → TakesEntry kit before after text behind
takes-turns kit before after text line behind t n is said pushed few =
    let turns = stretch-only (split line) t n said in
    let whole : after ≡ before ++ turns_of (Turns t n ∷ []) = pushed ∙ ap (λ l. before ++ l) (sym (append-nil (replicate n t))) in
    record {
      entry = Turns t n;
      is_entry = (turns.few, turns.some);
      stands = is ∙ line-split line behind ∙ ap (λ words. line_of words ++ behind) turns.words_are;
      turns_are = whole;
      few = omega (arith, ap length pushed, length-append before (replicate n t), length-replicate n t);
    }

-- a line of a mark
pub takes-mark : (kit : Kit) (before after text line behind : List ℕ) → text ≡ line ++ 10 ∷ behind → is_mark kit (split line) ≡ true
    → after ≡ before → length before ≤ most_turns → TakesEntry kit before after text behind
takes-mark kit before after text line behind is mark same few = record {
  entry = Mark (split line);
  is_entry = mark;
  stands = is ∙ line-split line behind;
  turns_are = same ∙ sym (append-nil before);
  few = subst (λ turns. length turns ≤ most_turns) (sym same) few;
}

-- ---- the last line

pub takes-end : (text line behind : List ℕ) → text ≡ line ++ 10 ∷ behind → is_end (split line) ≡ true → TakesEnd text behind
takes-end text line behind is last = record { end = split line; ends = last; stands = is ∙ line-split line behind }

pub no-end-cut : (text : List ℕ) → has 10 text ≡ false → (end : Words) → is_end end ≡ true → StandsAt end text → ⊥
no-end-cut text lacks end last stands = stands-nowhere text end lacks stands

pub no-end : (text line behind : List ℕ) → has 10 line ≡ false → text ≡ line ++ 10 ∷ behind → is_end (split line) ≡ false
    → (end : Words) → is_end end ≡ true → StandsAt end text → ⊥
no-end text line behind lacks is other end last stands =
    let front = stands-words text line behind end lacks is (end-clean end last) (end-some end last) stands in
    false≢true (sym other ∙ ap is_end front ∙ last)

pub shorter : (text line behind : List ℕ) → text ≡ line ++ 10 ∷ behind → length behind < length text
shorter text line behind is = omega (arith, ap length is, length-append line (10 ∷ behind))
