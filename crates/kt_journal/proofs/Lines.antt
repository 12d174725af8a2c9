-- The lines of a journal that was written.
use Rattle.std.proofs.Common.{◌≡◌, ℕ, zero, suc, ◌+◌, ◌-◌, take, drop, ◌/◌, ◌%◌, ◌<◌, true, false, ◌||◌, List, [], ◌∷◌, ◌++◌, map, refl, ap, ◌∙◌, arith, codes, pos, negsuc, ℤ}
use Rattle.std.specs.Prelude.{◌==◌, Option, Some, None, if◌then◌else◌}
use Rattle.std.specs.Fmt.{decimal, signed_decimal, digits, digits_onto, digit_glyph}
use Rattle.std.specs.List.{join_with_byte, AllByRecursion}
use Rattle.std.proofs.lemmas.Bool.Decides.{nat_tests}
use Rattle.kt_mem.specs.declared.steps.Trap.{Trap}
use Rattle.kt_mem.specs.declared.steps.Trap.TheVariants as trap
use Rattle.kt_tree.specs.Version.{Program, IsProgram}
use Rattle.xf_plan.specs.declared.place.Place.{Place}
use Rattle.xf_plan.specs.declared.place.Place.TheVariants as place
use Rattle.xf_plan.specs.declared.place.Why.{Why}
use Rattle.xf_plan.specs.declared.place.Why.TheVariants as why
use Rattle.kt_world.specs.Job.{Job, version_at}
use Rattle.kt_world.specs.declared.mark.Closed.{Closed}
use Rattle.kt_world.specs.declared.mark.Closed.TheVariants as closed
use Rattle.kt_world.specs.declared.mark.End.{End}
use Rattle.kt_world.specs.declared.mark.End.TheVariants as end
use Rattle.kt_world.specs.declared.mark.Mark.{Mark}
use Rattle.kt_world.specs.declared.mark.Mark.TheVariants as mark
use Rattle.kt_journal.specs.declared.kit.Kit.{Kit}
use Rattle.kt_journal.specs.declared.kit.Kit.TheVariants.{First, Second}
use Rattle.kt_journal.specs.Grammar.{Words}
use Rattle.kt_journal.specs.Journal as journal
use Rattle.kt_journal.specs.Journal.{Entry, Turns, words_of, kit_words, text_of, front_of}
use Rattle.kt_journal.specs.Reading.{with_byte, split}
use Rattle.kt_journal.specs.Runs.{lines_in}
use Rattle.kt_journal.specs.Marks.{trap_name, place_words, why_name, trap_in, trap_words, closed_words, end_words, mark_words, turn_of}
use Rattle.kt_world.specs.Told.{version_after}
use Rattle.kt_journal.specs.Written.{with_turn, with_turns, entries_from}
use Rattle.kt_journal.proofs.Named.{IsProgramIf, program-at, global-clean, function-clean, local-clean}
use Rattle.kt_journal.proofs.Splitting.{has, IsClean, AreClean, IsSomeWords, or-parts, words-split, join-clean, line-whole}

-- ---- lines

line-first : (line rest : List ℕ) → has 10 line ≡ false → lines_in (line ++ 10 ∷ rest) ≡ line ∷ lines_in rest
line-first [] rest lacks = refl
line-first (b ∷ line) rest lacks =
    let parts = or-parts (b == 10) (has 10 line) lacks in
    let here : (b == 10) ≡ false = parts.0 in
    rw here (ap (with_byte b) (line-first line rest parts.1))

-- words of a line
abbrev pub IsLine : Words → Type 0
IsLine words = AreClean words × IsSomeWords words

pub text-lines : (lines : List Words) → AllByRecursion IsLine lines → map split (lines_in (text_of lines)) ≡ lines
text-lines [] all = refl
text-lines (words ∷ lines) all =
    ap (λ text. map split (lines_in text)) (line-whole words (text_of lines))
    ∙ ap (map split) (line-first (join_with_byte 32 words) (text_of lines) (join-clean words all.0.0))
    ∙ ap (λ first. first ∷ map split (lines_in (text_of lines))) (words-split words all.0.0 all.0.1)
    ∙ ap (λ rest. words ∷ rest) (text-lines lines all.1)

-- ---- numbers

glyph-space : (d : ℕ) → d < 10 → (digit_glyph false d == 32) ≡ false
glyph-space d few = grind (arith, nat_tests)

glyph-newline : (d : ℕ) → d < 10 → (digit_glyph false d == 10) ≡ false
glyph-newline d few = grind (arith, nat_tests)

more-clean : (d : ℕ) (word : List ℕ) → d < 10 → IsClean word → IsClean (digit_glyph false d ∷ word)
more-clean d word few clean =
    (ap (λ t. t || has 32 word) (glyph-space d few) ∙ clean.0, ap (λ t. t || has 10 word) (glyph-newline d few) ∙ clean.1)

digits-clean : (k n : ℕ) (word : List ℕ) → IsClean word → IsClean (digits_onto k 10 false n word)
digits-clean zero n word clean = clean
digits-clean (suc k) n word clean =
    let few : n % 10 < 10 = omega arith in
    let more = more-clean (n % 10) word few clean in
    elim (n / 10 == 0) as (λ b. IsClean (if b then digit_glyph false (n % 10) ∷ word else digits_onto k 10 false (n / 10) (digit_glyph false (n % 10) ∷ word)))
    [ true ↦ more | false ↦ digits-clean k (n / 10) (digit_glyph false (n % 10) ∷ word) more ]

number-clean : (n : ℕ) → IsClean (decimal n)
unfolding digits
number-clean n = digits-clean 64 n [] (refl, refl)

value-clean : (z : ℤ) → IsClean (signed_decimal z)
value-clean (pos n) = number-clean n
value-clean (negsuc n) = let clean = number-clean (suc n) in (clean.0, clean.1)

-- ---- words that are written

trap-clean : (cause : Trap) → IsClean (trap_name cause)
trap-clean trap.Overflow = (refl, refl)
trap-clean trap.Zero = (refl, refl)
trap-clean trap.Range = (refl, refl)
trap-clean trap.Null = (refl, refl)
trap-clean trap.Dead = (refl, refl)
trap-clean trap.Bounds = (refl, refl)
trap-clean trap.Uninit = (refl, refl)
trap-clean trap.Literal = (refl, refl)
trap-clean trap.Free = (refl, refl)
trap-clean trap.Mutex = (refl, refl)
trap-clean trap.Thread = (refl, refl)
trap-clean trap.Threads = (refl, refl)
trap-clean trap.Size = (refl, refl)
trap-clean trap.Heap = (refl, refl)
trap-clean trap.Depth = (refl, refl)
trap-clean trap.Output = (refl, refl)

end-line : (how : End) → IsLine (end_words how)
end-line (end.Main value) = (((refl, refl), ((refl, refl), (value-clean value, tt))), refl)
end-line (end.Trap thread cause) = (((refl, refl), ((refl, refl), (number-clean thread, (trap-clean cause, tt)))), refl)
end-line end.Stuck = (((refl, refl), ((refl, refl), tt)), refl)
end-line end.Budget = (((refl, refl), ((refl, refl), tt)), refl)

numbered-line : (word : List ℕ) (k : ℕ) → IsClean word → IsLine (word ∷ (decimal k ∷ []))
numbered-line word k clean = ((clean, (number-clean k, tt)), refl)

place-clean : (new : Option Program) (p : Place) → IsProgramIf new → AreClean (place_words new p)
place-clean new (place.GlobalCell g cell) is = ((refl, refl), (global-clean new g is, (number-clean cell, tt)))
place-clean new (place.Argument thread) is = ((refl, refl), (number-clean thread, tt))
place-clean new (place.Local thread f x) is = ((refl, refl), (number-clean thread, (function-clean new f is, (local-clean new f x is, tt))))
place-clean new (place.HeapCell number cell) is = ((refl, refl), (number-clean number, (number-clean cell, tt)))

append-clean : (words more : Words) → AreClean words → AreClean more → AreClean (words ++ more)
append-clean [] more clean clean_too = clean_too
append-clean (word ∷ words) more clean clean_too = (clean.0, append-clean words more clean.1 clean_too)

why-clean : (w : Why) → IsClean (why_name w)
why-clean (why.Rule cause) = (refl, refl)
why-clean why.Interior = (refl, refl)
why-clean why.Gone = (refl, refl)
why-clean why.Retyped = (refl, refl)
why-clean why.Extent = (refl, refl)

cause-clean : (o : Option Trap) → AreClean (trap_words o)
cause-clean None = tt
cause-clean (Some cause) = (trap-clean cause, tt)

closed-clean : (new : Option Program) (how : Closed) → IsProgramIf new → AreClean (closed_words new how)
closed-clean new (closed.Ok images) is = ((refl, refl), (number-clean images, tt))
closed-clean new closed.Held is = ((refl, refl), ((refl, refl), tt))
closed-clean new (closed.Point thread) is = ((refl, refl), ((refl, refl), (number-clean thread, tt)))
closed-clean new (closed.Entry thread) is = ((refl, refl), ((refl, refl), (number-clean thread, tt)))
closed-clean new (closed.At fault) is =
    let where_it_is = place_words new fault.place in
    ((refl, refl), (why-clean fault.why, append-clean where_it_is (trap_words (trap_in fault.why)) (place-clean new fault.place is) (cause-clean (trap_in fault.why))))
closed-clean new closed.Size is = ((refl, refl), ((refl, refl), tt))

mark-line : (kit : Kit) (new : Option Program) (m : Mark) → IsProgramIf new → IsLine (mark_words kit new m)
mark-line First new (mark.Ask turn k woken) is = numbered-line (codes "ask") k (refl, refl)
mark-line Second new (mark.Ask turn k woken) is = (((refl, refl), (number-clean k, (number-clean woken, tt))), refl)
mark-line kit new (mark.Close turn k how) is = (((refl, refl), (number-clean k, closed-clean new how is)), refl)
mark-line kit new (mark.MainThere turn k) is = numbered-line (codes "main") k (refl, refl)
mark-line kit new (mark.Back turn k) is = numbered-line (codes "back") k (refl, refl)
mark-line kit new (mark.End turn how) is = end-line how

-- ---- lines that are written

abbrev AreLines : List Entry → Type 0
AreLines entries = AllByRecursion IsLine (map words_of entries)

turns-line : (t n : ℕ) → IsLine (words_of (Turns t n))
turns-line t n = (((refl, refl), (number-clean t, (number-clean n, tt))), refl)

turn-lines : (t : ℕ) (entries : List Entry) → AreLines entries → AreLines (with_turn t entries)
turn-lines t [] all = (turns-line t 1, tt)
turn-lines t (journal.Mark words ∷ entries) all = (turns-line t 1, all)
turn-lines t (Turns u n ∷ entries) all =
    elim (u == t) as (λ b. AreLines (if b then Turns u (n + 1) ∷ entries else Turns t 1 ∷ (Turns u n ∷ entries)))
    [ true ↦ (turns-line u (n + 1), all.1) | false ↦ (turns-line t 1, all) ]

turns-lines : (turns : List ℕ) (entries : List Entry) → AreLines entries → AreLines (with_turns turns entries)
turns-lines [] entries all = all
turns-lines (t ∷ turns) entries all = turn-lines t (with_turns turns entries) (turns-lines turns entries all)

pub written-lines : (kit : Kit) (job : Job) → AllByRecursion IsProgram job.versions → (v made : ℕ) (turns : List ℕ) (marks : List Mark)
    → AreLines (entries_from kit job v made turns marks)
written-lines kit job programs v made turns [] = turns-lines turns [] tt
written-lines kit job programs v made turns (m ∷ marks) =
    let new = version_at job (suc v) in
    let rest = entries_from kit job (version_after m v) (turn_of m) (drop (turn_of m - made) turns) marks in
    turns-lines (take (turn_of m - made) turns) (journal.Mark (mark_words kit new m) ∷ rest) (
      mark-line kit new m (program-at job programs (suc v)),
      written-lines kit job programs (version_after m v) (turn_of m) (drop (turn_of m - made) turns) marks,
    )

kit-line : (kit : Kit) → IsLine (kit_words kit)
kit-line First = (((refl, refl), ((refl, refl), tt)), refl)
kit-line Second = (((refl, refl), ((refl, refl), tt)), refl)

-- the lines of a journal
pub front-lines : (kit : Kit) (entries : List Entry) → AreLines entries → map split (lines_in (front_of kit entries)) ≡ kit_words kit ∷ map words_of entries
front-lines kit entries all = text-lines (kit_words kit ∷ map words_of entries) (kit-line kit, all)
