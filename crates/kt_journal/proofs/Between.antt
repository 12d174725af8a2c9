-- Turns between marks: while an update is on its way, `main` alone takes them.
use Rattle.std.proofs.Common.{◌≡◌, ℕ, ◌+◌, ◌-◌, ◌≤◌, Bool, true, false, not, List, [], ◌∷◌, ◌++◌, length, take, drop, map, refl, ap, sym, subst, ◌∙◌, arith, codes}
use Rattle.std.specs.Prelude.{suc, ◌==◌, Option, if◌then◌else◌}
use Rattle.std.specs.Fmt.{decimal}
use Rattle.std.specs.List.{AllByRecursion}
use Rattle.std.proofs.lemmas.Fmt.{decimal_digit}
use Rattle.std.proofs.lemmas.List.{take-append-le, drop-append-le, take_all, drop_all, length-drop}
use Rattle.kt_tree.specs.Version.{Program}
use Rattle.kt_world.specs.declared.mark.Closed.{Closed}
use Rattle.kt_world.specs.declared.mark.Closed.TheVariants as closed
use Rattle.kt_world.specs.Job.{Job, version_at}
use Rattle.kt_journal.specs.declared.kit.Kit.{Kit}
use Rattle.kt_journal.specs.declared.kit.Kit.TheVariants.{First, Second}
use Rattle.kt_world.specs.declared.mark.End.{End}
use Rattle.kt_world.specs.declared.mark.End.TheVariants as end
use Rattle.kt_world.specs.declared.mark.Mark.{Mark}
use Rattle.kt_world.specs.declared.mark.Mark.TheVariants as mark
use Rattle.kt_journal.specs.Grammar.{is}
use Rattle.kt_journal.specs.Journal as journal
use Rattle.kt_journal.specs.Journal.{Entry, Turns, words_of}
use Rattle.kt_journal.specs.Runs.{is_other, is_on_its_way, IsMainOnly}
use Rattle.kt_journal.specs.Marks.{closed_words, end_words, mark_words, turn_of}
use Rattle.kt_world.specs.Told.{version_after}
use Rattle.kt_journal.specs.Written.{with_turn, with_turns, entries_from}

-- ---- entries

-- turns of `main` alone
abbrev pub AreOfMain : List ℕ → Type 0
AreOfMain turns = AllByRecursion (λ t. t ≡ 0) turns

turns-of-main : (t n : ℕ) → t ≡ 0 → is_other (words_of (Turns t n)) ≡ false
turns-of-main t n zeroth =
    ap (λ word. not (is (codes "0") word)) (ap decimal zeroth ∙ decimal_digit 0 (omega arith))

turn-only : (b : Bool) (t : ℕ) (entries : List Entry) → (b ≡ true → t ≡ 0) → IsMainOnly b (map words_of entries) → IsMainOnly b (map words_of (with_turn t entries))
turn-only b t [] zeroth only = (λ on. turns-of-main t 1 (zeroth on), tt)
turn-only b t (journal.Mark words ∷ entries) zeroth only = (λ on. turns-of-main t 1 (zeroth on), only)
turn-only b t (Turns u n ∷ entries) zeroth only =
    elim (u == t) as (λ c. IsMainOnly b (map words_of (if c then Turns u (n + 1) ∷ entries else Turns t 1 ∷ (Turns u n ∷ entries))))
    [ true ↦ (only.0, only.1) | false ↦ (λ on. turns-of-main t 1 (zeroth on), only) ]

turns-only : (b : Bool) (turns : List ℕ) (entries : List Entry) → (b ≡ true → AreOfMain turns) → IsMainOnly b (map words_of entries)
    → IsMainOnly b (map words_of (with_turns turns entries))
turns-only b [] entries zeroes only = only
turns-only b (t ∷ turns) entries zeroes only =
    turn-only b t (with_turns turns entries) (λ on. (zeroes on).0) (turns-only b turns entries (λ on. (zeroes on).1) only)

end-no-turn : (how : End) → is_other (end_words how) ≡ false
end-no-turn (end.Main value) = refl
end-no-turn (end.Trap thread cause) = refl
end-no-turn end.Stuck = refl
end-no-turn end.Budget = refl

mark-no-turn : (kit : Kit) (new : Option Program) (m : Mark) → is_other (mark_words kit new m) ≡ false
mark-no-turn First new (mark.Ask turn k woken) = refl
mark-no-turn Second new (mark.Ask turn k woken) = refl
mark-no-turn kit new (mark.Close turn k how) = close-no-turn how
  where
    close-no-turn : (how : Closed) → is_other (codes "close" ∷ (decimal k ∷ closed_words new how)) ≡ false
    close-no-turn how = refl
mark-no-turn kit new (mark.MainThere turn k) = refl
mark-no-turn kit new (mark.Back turn k) = refl
mark-no-turn kit new (mark.End turn how) = end-no-turn how

-- ---- turns and marks

-- whether an update is on its way behind a mark
abbrev pub behind : Mark → Bool → Bool
behind (mark.Close turn k (closed.Ok images)) b = true
behind (mark.MainThere turn k) b = false
behind (mark.End turn how) b = false
behind m b = b

end-over : (how : End) (b : Bool) → is_on_its_way (end_words how) b ≡ false
end-over (end.Main value) b = refl
end-over (end.Trap thread cause) b = refl
end-over end.Stuck b = refl
end-over end.Budget b = refl

-- the line of a mark tells so
behind-line : (kit : Kit) (new : Option Program) (m : Mark) (b : Bool) → is_on_its_way (mark_words kit new m) b ≡ behind m b
behind-line First new (mark.Ask turn k woken) b = refl
behind-line Second new (mark.Ask turn k woken) b = refl
behind-line kit new (mark.Close turn k (closed.Ok images)) b = refl
behind-line kit new (mark.Close turn k closed.Held) b = refl
behind-line kit new (mark.Close turn k (closed.Point thread)) b = refl
behind-line kit new (mark.Close turn k (closed.Entry thread)) b = refl
behind-line kit new (mark.Close turn k (closed.At fault)) b = refl
behind-line kit new (mark.Close turn k closed.Size) b = refl
behind-line kit new (mark.MainThere turn k) b = refl
behind-line kit new (mark.Back turn k) b = refl
behind-line kit new (mark.End turn how) b = end-over how b

-- while an update is on its way, turns are those of `main`
abbrev pub Between : (made : ℕ) (b : Bool) (turns : List ℕ) (marks : List Mark) → Type 0
Between made b turns [] = b ≡ true → AreOfMain turns
Between made b turns (m ∷ marks) =
    (b ≡ true → AreOfMain (take (turn_of m - made) turns)) × Between (turn_of m) (behind m b) (drop (turn_of m - made) turns) marks

pub between-only : (kit : Kit) (job : Job) (v made : ℕ) (b : Bool) (turns : List ℕ) (marks : List Mark) → Between made b turns marks
    → IsMainOnly b (map words_of (entries_from kit job v made turns marks))
between-only kit job v made b turns [] between = turns-only b turns [] between tt
between-only kit job v made b turns (m ∷ marks) between =
    let new = version_at job (suc v) in
    let later = entries_from kit job (version_after m v) (turn_of m) (drop (turn_of m - made) turns) marks in
    turns-only b (take (turn_of m - made) turns) (journal.Mark (mark_words kit new m) ∷ later) between.0 (
      λ on. mark-no-turn kit new m,
      subst (λ c. IsMainOnly c (map words_of later)) (sym (behind-line kit new m b))
          (between-only kit job (version_after m v) (turn_of m) (behind m b) (drop (turn_of m - made) turns) marks between.1),
    )

-- whether an update is on its way behind these marks
abbrev pub after : Bool → List Mark → Bool
after b [] = b
after b (m ∷ marks) = after (behind m b) marks

pub after-more : (b : Bool) (marks : List Mark) (m : Mark) → after b (marks ++ m ∷ []) ≡ behind m (after b marks)
after-more b [] m = refl
after-more b (n ∷ marks) m = after-more (behind n b) marks m

-- marks in their order, up to so many turns
abbrev pub AreInOrder : (made all : ℕ) → List Mark → Type 0
AreInOrder made all [] = made ≤ all
AreInOrder made all (m ∷ marks) = (made ≤ turn_of m) × AreInOrder (turn_of m) all marks

order-le : (made all : ℕ) (marks : List Mark) → AreInOrder made all marks → made ≤ all
order-le made all [] order = order
order-le made all (m ∷ marks) order = let rest = order-le (turn_of m) all marks order.1 in omega (arith, rest, order.0)

pub order-turn : (made all : ℕ) (marks : List Mark) → AreInOrder made all marks → AreInOrder made (all + 1) marks
order-turn made all [] order = omega (arith, order)
order-turn made all (m ∷ marks) order = (order.0, order-turn (turn_of m) all marks order.1)

pub order-mark : (made all : ℕ) (marks : List Mark) (m : Mark) → turn_of m ≡ all → AreInOrder made all marks → AreInOrder made all (marks ++ m ∷ [])
order-mark made all [] m is order = (omega (arith, is, order), omega (arith, is))
order-mark made all (n ∷ marks) m is order = (order.0, order-mark (turn_of n) all marks m is order.1)

all-more : (turns : List ℕ) (t : ℕ) → AreOfMain turns → t ≡ 0 → AreOfMain (turns ++ t ∷ [])
all-more [] t zeroes zeroth = (zeroth, tt)
all-more (u ∷ turns) t zeroes zeroth = (zeroes.0, all-more turns t zeroes.1 zeroth)

rest-all : (made all turn : ℕ) (turns : List ℕ) → made ≤ turn → turn ≤ all → all ≡ made + length turns → all ≡ turn + length (drop (turn - made) turns)
rest-all made all turn turns low high sum = omega (arith, low, high, sum, length-drop (turn - made) turns)

-- one turn more
pub between-turn : (made all : ℕ) (b : Bool) (turns : List ℕ) (marks : List Mark) (t : ℕ) → all ≡ made + length turns → AreInOrder made all marks
    → (after b marks ≡ true → t ≡ 0) → Between made b turns marks → Between made b (turns ++ t ∷ []) marks
between-turn made all b turns [] t sum order zeroth between = λ on. all-more turns t (between on) (zeroth on)
between-turn made all b turns (m ∷ marks) t sum order zeroth between =
    let k = turn_of m - made in
    let high = order-le (turn_of m) all marks order.1 in
    let within : k ≤ length turns = omega (arith, high, order.0, sum) in (
      subst (λ l. b ≡ true → AreOfMain l) (sym (take-append-le k turns (t ∷ []) within)) between.0,
      subst (λ l. Between (turn_of m) (behind m b) l marks) (sym (drop-append-le k turns (t ∷ []) within))
          (between-turn (turn_of m) all (behind m b) (drop k turns) marks t (rest-all made all (turn_of m) turns order.0 high sum) order.1 zeroth between.1),
    )

-- one mark more
pub between-mark : (made all : ℕ) (b : Bool) (turns : List ℕ) (marks : List Mark) (m : Mark) → all ≡ made + length turns → AreInOrder made all marks
    → turn_of m ≡ all → Between made b turns marks → Between made b turns (marks ++ m ∷ [])
between-mark made all b turns [] m sum order is between =
    let k = turn_of m - made in
    let size : length turns ≤ k = omega (arith, sum, is) in (
      subst (λ l. b ≡ true → AreOfMain l) (sym (take_all k turns size)) between,
      subst (λ l. behind m b ≡ true → AreOfMain l) (sym (drop_all k turns size)) (λ on. tt),
    )
between-mark made all b turns (n ∷ marks) m sum order is between =
    let high = order-le (turn_of n) all marks order.1 in
    (between.0, between-mark (turn_of n) all (behind n b) (drop (turn_of n - made) turns) marks m (rest-all made all (turn_of n) turns order.0 high sum) order.1 is between.1)
