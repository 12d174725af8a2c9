-- A text is a journal in one way, or leaves the grammar at one place.
use Rattle.std.proofs.Common.{◌≡◌, ℕ, ◌+◌, ◌<◌, ◌≤◌, Bool, true, false, ◌&&◌, List, [], ◌∷◌, ◌++◌, length, refl, ap, sym, subst, ◌∙◌, arith, codes, append_assoc, append-nil, length-append}
use Rattle.std.specs.Prelude.{Some}
use Rattle.std.specs.List.{AllByRecursion}
use Rattle.std.proofs.lemmas.Bool.{false≢true}
use Rattle.kt_text.specs.Lines.{line_of}
use Rattle.kt_journal.specs.declared.kit.Kit.{Kit}
use Rattle.kt_journal.specs.declared.kit.Kit.TheVariants.{First, Second}
use Rattle.kt_journal.specs.Grammar.{Words, Form, is, is_of, is_value, is_thread, is_trap, is_mark, is_end}
use Rattle.kt_journal.specs.Journal.{Entry, Turns, Mark, words_of, IsEntry, turns_of, most_turns, AreEntries, kit_words, front_of, Says, StandsAt, BreaksOff, LeavesAt, AtStart, AtLine, BehindEnd}
use Rattle.kt_journal.specs.Reading.{stretch_in}
use Rattle.kt_journal.proofs.Clean.{is-same, neither, mark-clean, mark-some, end-clean, end-some}
use Rattle.kt_journal.proofs.Entries.{stretch-turns, turns-no-mark, turns-clean, length-turns, thread_in, count_in}
use Rattle.kt_journal.proofs.Splitting.{AreClean, IsSomeWords, lines-once}
use Rattle.kt_journal.proofs.SoFar.{turns-append, all-last}
use Rattle.kt_journal.proofs.Writing.{text_in}

-- ---- lines of entries

-- few enough turns
abbrev pub IsFew : Entry → Type 0
IsFew entry = length (turns_of (entry ∷ [])) ≤ most_turns

pub entry-clean : (kit : Kit) (entry : Entry) → IsEntry kit entry → IsFew entry → AreClean (words_of entry)
entry-clean kit (Turns t n) is few = let count = length-turns t n in turns-clean t n is.0 (omega (arith, count, few))
entry-clean kit (Mark words) is few = mark-clean kit words is

pub entry-some : (kit : Kit) (entry : Entry) → IsEntry kit entry → IsSomeWords (words_of entry)
entry-some kit (Turns t n) is = refl
entry-some kit (Mark words) is = mark-some kit words is

-- an entry has words of its own
entry-same : (kit : Kit) (e f : Entry) → IsEntry kit e → IsFew e → IsEntry kit f → IsFew f → words_of e ≡ words_of f → e ≡ f
entry-same kit (Turns t n) (Turns u m) is few is_too few_too same =
    let count = length-turns t n in
    let count_too = length-turns u m in
    let said : stretch_in (words_of (Turns t n)) ≡ Some (t, n) = stretch-turns t n is.0 is.1 (omega (arith, count, few)) in
    let said_too : stretch_in (words_of (Turns u m)) ≡ Some (u, m) = stretch-turns u m is_too.0 is_too.1 (omega (arith, count_too, few_too)) in
    let whole : Some (t, n) ≡ Some (u, m) = sym said ∙ ap stretch_in same ∙ said_too in
    let thread : t ≡ u = ap thread_in whole in
    let number : n ≡ m = ap count_in whole in
    ap (λ v. Turns v n) thread ∙ ap (λ k. Turns u k) number
entry-same kit (Turns t n) (Mark words) is few mark few_too same =
    absurd (false≢true (sym (turns-no-mark kit t n) ∙ ap (is_mark kit) same ∙ mark))
entry-same kit (Mark words) (Turns t n) mark few is few_too same =
    absurd (false≢true (sym (turns-no-mark kit t n) ∙ ap (is_mark kit) (sym same) ∙ mark))
entry-same kit (Mark words) (Mark others) is few is_too few_too same = ap Mark same

-- ---- entries and the last line

of-first : (may : List ℕ → Bool) (form : Form) (word : List ℕ) (words : Words) → may word ≡ false → is_of (may ∷ form) (word ∷ words) ≡ false
of-first may form word words lacks = ap (λ t. t && is_of form words) lacks

end-first : (word : List ℕ) (words : Words) (b : Bool) → is (codes "end") word ≡ b → is_end (word ∷ words) ≡ true → word ≡ codes "end"
end-first word words true holds last = is-same (codes "end") word holds
end-first word words false lacks last =
    let none = λ (form : Form). of-first (is (codes "end")) form word words lacks in
    absurd (false≢true (sym (neither _ _ (none (is (codes "main") ∷ is_value ∷ [])) (neither _ _ (none (is (codes "trap") ∷ is_thread ∷ is_trap ∷ []))
    (neither _ _ (none (is (codes "stuck") ∷ [])) (neither _ _ (none (is (codes "budget") ∷ [])) refl)))) ∙ last))

mark-no-end : (kit : Kit) (words : Words) → is_mark kit (codes "end" ∷ words) ≡ false
mark-no-end First words = refl
mark-no-end Second words = refl

-- what may stand before the last line is no last line
pub entry-no-end : (kit : Kit) (entry : Entry) → IsEntry kit entry → is_end (words_of entry) ≡ true → ⊥
entry-no-end kit (Turns t n) entry last = false≢true last
entry-no-end kit (Mark []) entry last = false≢true last
entry-no-end kit (Mark (word ∷ words)) entry last =
    let first = end-first word words (is (codes "end") word) refl last in
    false≢true (sym (mark-no-end kit words) ∙ ap (λ w. is_mark kit (w ∷ words)) (sym first) ∙ entry)

-- ---- the lines that two texts have in common

pub parts-few : (entry : Entry) (entries : List Entry) → length (turns_of (entry ∷ entries)) ≡ length (turns_of (entry ∷ [])) + length (turns_of entries)
parts-few entry entries = ap length (turns-append (entry ∷ []) entries) ∙ length-append (turns_of (entry ∷ [])) (turns_of entries)

pub tail-entries : (kit : Kit) (entry : Entry) (entries : List Entry) → AreEntries kit (entry ∷ entries) → IsFew entry × AreEntries kit entries
tail-entries kit entry entries are =
    let sum = parts-few entry entries in
    (omega (arith, sum, are.few), record { formed = are.formed.1; few = omega (arith, sum, are.few) })

data Compared (es fs : List Entry) (x y : List ℕ) : Type 0 where
  Same : es ≡ fs → x ≡ y → Compared es fs x y
  Longer : (first : Entry) (more : List Entry) → es ≡ fs ++ first ∷ more → y ≡ text_in (first ∷ more) ++ x → Compared es fs x y
  Shorter : (first : Entry) (more : List Entry) → fs ≡ es ++ first ∷ more → x ≡ text_in (first ∷ more) ++ y → Compared es fs x y

one-more : (e f : Entry) (es fs : List Entry) (x y : List ℕ) → e ≡ f → Compared es fs x y → Compared (e ∷ es) (f ∷ fs) x y
one-more e f es fs x y same (Same entries rest) = Same (ap (λ g. g ∷ es) same ∙ ap (λ l. f ∷ l) entries) rest
one-more e f es fs x y same (Longer first more entries rest) = Longer first more (ap (λ g. g ∷ es) same ∙ ap (λ l. f ∷ l) entries) rest
one-more e f es fs x y same (Shorter first more entries rest) = Shorter first more (ap (λ g. g ∷ fs) (sym same) ∙ ap (λ l. e ∷ l) entries) rest

compare : (kit : Kit) (es fs : List Entry) (x y : List ℕ) → AreEntries kit es → AreEntries kit fs → text_in es ++ x ≡ text_in fs ++ y → Compared es fs x y
compare kit [] [] x y are are_too is = Same refl is
compare kit [] (f ∷ fs) x y are are_too is = Shorter f fs refl is
compare kit (e ∷ es) [] x y are are_too is = Longer e es refl (sym is)
compare kit (e ∷ es) (f ∷ fs) x y are are_too is =
    let parts = tail-entries kit e es are in
    let parts_too = tail-entries kit f fs are_too in
    let line = words_of e in
    let line_too = words_of f in
    let both = lines-once line line_too (text_in es ++ x) (text_in fs ++ y) (entry-clean kit e are.formed.0 parts.0) (entry-clean kit f are_too.formed.0 parts_too.0)
    (entry-some kit e are.formed.0) (entry-some kit f are_too.formed.0)
    (sym (append_assoc (line_of line) (text_in es) x) ∙ is ∙ append_assoc (line_of line_too) (text_in fs) y)
    in
    one-more e f es fs x y (entry-same kit e f are.formed.0 parts.0 are_too.formed.0 parts_too.0 both.0) (compare kit es fs x y parts.1 parts_too.1 both.1)

all-front : (kit : Kit) (fs : List Entry) (first : Entry) (more : List Entry) → AllByRecursion (IsEntry kit) (fs ++ first ∷ more) → AllByRecursion (IsEntry kit) (fs ++ first ∷ [])
all-front kit [] first more all = (all.0, tt)
all-front kit (f ∷ fs) first more all = (all.0, all-front kit fs first more all.1)

-- the first of more lines may stand behind these ones
front-entries : (kit : Kit) (es fs : List Entry) (first : Entry) (more : List Entry) → es ≡ fs ++ first ∷ more → AreEntries kit es → AreEntries kit (fs ++ first ∷ [])
front-entries kit es fs first more is are =
    let all = subst (AllByRecursion (IsEntry kit)) is are.formed in
    let few = subst (λ l. length (turns_of l) ≤ most_turns) is are.few in
    let whole = ap length (turns-append fs (first ∷ more)) ∙ length-append (turns_of fs) (turns_of (first ∷ more)) in
    let sum = parts-few first more in
    let front = ap length (turns-append fs (first ∷ [])) ∙ length-append (turns_of fs) (turns_of (first ∷ [])) in
    record { formed = all-front kit fs first more all; few = omega (arith, few, whole, sum, front) }

-- it is no last line
first-no-end : (kit : Kit) (es fs : List Entry) (first : Entry) (more : List Entry) (end : Words) (r x : List ℕ) → es ≡ fs ++ first ∷ more → AreEntries kit es → is_end end ≡ true
    → line_of end ++ r ≡ text_in (first ∷ more) ++ x → ⊥
first-no-end kit es fs first more end r x is are last same =
    let front = front-entries kit es fs first more is are in
    let entry = all-last kit fs first front.formed in
    let sum = ap length (turns-append fs (first ∷ [])) ∙ length-append (turns_of fs) (turns_of (first ∷ [])) in
    let few : IsFew first = omega (arith, sum, front.few) in
    let both = lines-once end (words_of first) r (text_in more ++ x) (end-clean end last) (entry-clean kit first entry few) (end-some end last) (entry-some kit first entry)
    (same ∙ append_assoc (line_of (words_of first)) (text_in more) x)
    in
    entry-no-end kit first entry (ap is_end (sym both.0) ∙ last)

-- ---- the first line

kit-clean : (kit : Kit) → AreClean (kit_words kit)
kit-clean First = ((refl, refl), ((refl, refl), tt))
kit-clean Second = ((refl, refl), ((refl, refl), tt))

kit-some : (kit : Kit) → IsSomeWords (kit_words kit)
kit-some First = refl
kit-some Second = refl

abbrev is_first : Words → Bool
is_first words = is_of (is (codes "kit") ∷ is (codes "1") ∷ []) words

kit-same : (k l : Kit) → kit_words k ≡ kit_words l → k ≡ l
kit-same First First same = refl
kit-same Second Second same = refl
kit-same First Second same = absurd (false≢true (sym (ap is_first same)))
kit-same Second First same = absurd (false≢true (ap is_first same))

kit-once : (k l : Kit) (x y : List ℕ) → line_of (kit_words k) ++ x ≡ line_of (kit_words l) ++ y → (k ≡ l) × (x ≡ y)
kit-once k l x y is =
    let both = lines-once (kit_words k) (kit_words l) x y (kit-clean k) (kit-clean l) (kit-some k) (kit-some l) is in
    (kit-same k l both.0, both.1)

-- ---- texts that have their last line, and texts that break off

record HasEnd (bytes : List ℕ) (kit : Kit) (entries : List Entry) (end : Words) (rest : List ℕ) : Type 0 where
  are : AreEntries kit entries
  ends : is_end end ≡ true
  bytes_are : bytes ≡ line_of (kit_words kit) ++ (text_in entries ++ (line_of end ++ rest))

record HasNoMore (bytes : List ℕ) (kit : Kit) (entries : List Entry) (rest : List ℕ) : Type 0 where
  are : AreEntries kit entries
  breaks : BreaksOff kit entries rest
  bytes_are : bytes ≡ line_of (kit_words kit) ++ (text_in entries ++ rest)

record IsSameEnd (es fs : List Entry) (e f : Words) (r q : List ℕ) : Type 0 where
  entries : es ≡ fs
  end : e ≡ f
  rest : r ≡ q

ends-by : (kit : Kit) (es fs : List Entry) (e f : Words) (r q : List ℕ) → AreEntries kit es → AreEntries kit fs → is_end e ≡ true → is_end f ≡ true
    → Compared es fs (line_of e ++ r) (line_of f ++ q) → IsSameEnd es fs e f r q
ends-by kit es fs e f r q are are_too last last_too (Same entries rest) =
    let both = lines-once e f r q (end-clean e last) (end-clean f last_too) (end-some e last) (end-some f last_too) rest in
    record { entries = entries; end = both.0; rest = both.1 }
ends-by kit es fs e f r q are are_too last last_too (Longer first more is rest) = absurd (first-no-end kit es fs first more f q (line_of e ++ r) is are last_too rest)
ends-by kit es fs e f r q are are_too last last_too (Shorter first more is rest) = absurd (first-no-end kit fs es first more e r (line_of f ++ q) is are_too last rest)

ends-once : (bytes : List ℕ) (k l : Kit) (es fs : List Entry) (e f : Words) (r q : List ℕ) → HasEnd bytes k es e r → HasEnd bytes l fs f q → (k ≡ l) × IsSameEnd es fs e f r q
ends-once bytes k l es fs e f r q one other =
    let kits = kit-once k l (text_in es ++ (line_of e ++ r)) (text_in fs ++ (line_of f ++ q)) (sym one.bytes_are ∙ other.bytes_are) in
    let are_too = subst (λ m. AreEntries m fs) (sym kits.0) other.are in
    (kits.0, ends-by k es fs e f r q one.are are_too one.ends other.ends (compare k es fs (line_of e ++ r) (line_of f ++ q) one.are are_too kits.1))

never-by : (kit : Kit) (es fs : List Entry) (e : Words) (r y : List ℕ) → AreEntries kit es → AreEntries kit fs → is_end e ≡ true → BreaksOff kit fs y
    → Compared es fs (line_of e ++ r) y → ⊥
never-by kit es fs e r y are are_too last breaks (Same entries rest) = breaks.no_end e last (r, sym rest)
never-by kit es fs e r y are are_too last breaks (Longer first more is rest) =
    breaks.no_entry first (front-entries kit es fs first more is are) (text_in more ++ (line_of e ++ r), rest ∙ append_assoc (line_of (words_of first)) (text_in more) (line_of e ++ r))
never-by kit es fs e r y are are_too last breaks (Shorter first more is rest) = first-no-end kit fs es first more e r y is are_too last rest

never-both : (bytes : List ℕ) (k l : Kit) (es fs : List Entry) (e : Words) (r y : List ℕ) → HasEnd bytes k es e r → HasNoMore bytes l fs y → ⊥
never-both bytes k l es fs e r y one other =
    let kits = kit-once k l (text_in es ++ (line_of e ++ r)) (text_in fs ++ y) (sym one.bytes_are ∙ other.bytes_are) in
    let are_too = subst (λ m. AreEntries m fs) (sym kits.0) other.are in
    never-by k es fs e r y one.are are_too one.ends (subst (λ m. BreaksOff m fs y) (sym kits.0) other.breaks) (compare k es fs (line_of e ++ r) y one.are are_too kits.1)

breaks-by : (kit : Kit) (es fs : List Entry) (x y : List ℕ) → AreEntries kit es → AreEntries kit fs → BreaksOff kit es x → BreaksOff kit fs y → Compared es fs x y → es ≡ fs
breaks-by kit es fs x y are are_too breaks breaks_too (Same entries rest) = entries
breaks-by kit es fs x y are are_too breaks breaks_too (Longer first more is rest) =
    absurd (breaks_too.no_entry first (front-entries kit es fs first more is are) (text_in more ++ x, rest ∙ append_assoc (line_of (words_of first)) (text_in more) x))
breaks-by kit es fs x y are are_too breaks breaks_too (Shorter first more is rest) =
    absurd (breaks.no_entry first (front-entries kit fs es first more is are_too) (text_in more ++ y, rest ∙ append_assoc (line_of (words_of first)) (text_in more) y))

breaks-once : (bytes : List ℕ) (k l : Kit) (es fs : List Entry) (x y : List ℕ) → HasNoMore bytes k es x → HasNoMore bytes l fs y → (k ≡ l) × (es ≡ fs)
breaks-once bytes k l es fs x y one other =
    let kits = kit-once k l (text_in es ++ x) (text_in fs ++ y) (sym one.bytes_are ∙ other.bytes_are) in
    let are_too = subst (λ m. AreEntries m fs) (sym kits.0) other.are in
    (kits.0, breaks-by k es fs x y one.are are_too one.breaks (subst (λ m. BreaksOff m fs y) (sym kits.0) other.breaks) (compare k es fs x y one.are are_too kits.1))

-- ---- journals and faults

front-text : (kit : Kit) (entries : List Entry) (rest : List ℕ) → front_of kit entries ++ rest ≡ line_of (kit_words kit) ++ (text_in entries ++ rest)
front-text kit entries rest = append_assoc (line_of (kit_words kit)) (text_in entries) rest

end-text : (kit : Kit) (entries : List Entry) (end : Words) (rest : List ℕ) → (front_of kit entries ++ line_of end) ++ rest ≡ line_of (kit_words kit) ++ (text_in entries ++ (line_of end ++ rest))
end-text kit entries end rest = append_assoc (front_of kit entries) (line_of end) rest ∙ front-text kit entries (line_of end ++ rest)

says-end : (bytes turns : List ℕ) (says : Says bytes turns) → HasEnd bytes says.kit says.entries says.end []
says-end bytes turns says = record {
  are = says.are_entries;
  ends = says.ends;
  bytes_are = says.bytes_are ∙ sym (append-nil (front_of says.kit says.entries ++ line_of says.end)) ∙ end-text says.kit says.entries says.end [];
}

behind-end : (bytes : List ℕ) (kit : Kit) (entries : List Entry) (end : Words) (rest : List ℕ) → AreEntries kit entries → is_end end ≡ true
    → bytes ≡ (front_of kit entries ++ line_of end) ++ rest → HasEnd bytes kit entries end rest
behind-end bytes kit entries end rest are last is = record { are = are; ends = last; bytes_are = is ∙ end-text kit entries end rest }

line-more : (bytes : List ℕ) (kit : Kit) (entries : List Entry) (rest : List ℕ) → AreEntries kit entries → bytes ≡ front_of kit entries ++ rest
    → BreaksOff kit entries rest → HasNoMore bytes kit entries rest
line-more bytes kit entries rest are is breaks = record { are = are; breaks = breaks; bytes_are = is ∙ front-text kit entries rest }

-- a journal says one list of turns
pub says-once : (bytes turns others : List ℕ) → Says bytes turns → Says bytes others → turns ≡ others
says-once bytes turns others one other =
    let same = ends-once bytes one.kit other.kit one.entries other.entries one.end other.end [] [] (says-end bytes turns one) (says-end bytes others other) in
    one.turns_are ∙ ap turns_of same.1.entries ∙ sym other.turns_are

some-rest : (rest : List ℕ) → [] ≡ rest → 0 < length rest → ⊥
some-rest rest none some = let size : 0 ≡ length rest = ap length none in omega (arith, size, some)

-- a journal does not leave the grammar
pub says-never-leaves : (bytes turns : List ℕ) (at : ℕ) → Says bytes turns → LeavesAt bytes at → ⊥
says-never-leaves bytes turns _ says (AtStart none) =
    let end = says-end bytes turns says in
    none says.kit (text_in says.entries ++ (line_of says.end ++ []), end.bytes_are)
says-never-leaves bytes turns _ says (AtLine kit entries rest are is breaks) =
    never-both bytes says.kit kit says.entries entries says.end [] rest (says-end bytes turns says) (line-more bytes kit entries rest are is breaks)
says-never-leaves bytes turns _ says (BehindEnd kit entries end rest are last is some) =
    let same = ends-once bytes says.kit kit says.entries entries says.end end [] rest (says-end bytes turns says) (behind-end bytes kit entries end rest are last is) in
    some-rest rest same.1.rest some

-- ---- one place

line-once : (bytes : List ℕ) (k : Kit) (es : List Entry) (x : List ℕ) (at : ℕ) → HasNoMore bytes k es x → LeavesAt bytes at → length (front_of k es) ≡ at
line-once bytes k es x _ one (AtStart none) = absurd (none k (text_in es ++ x, one.bytes_are))
line-once bytes k es x _ one (AtLine kit entries rest are is breaks) =
    let same = breaks-once bytes k kit es entries x rest one (line-more bytes kit entries rest are is breaks) in
    ap (λ m. length (front_of m es)) same.0 ∙ ap (λ l. length (front_of kit l)) same.1
line-once bytes k es x _ one (BehindEnd kit entries end rest are last is some) =
    absurd (never-both bytes kit k entries es end rest x (behind-end bytes kit entries end rest are last is) one)

end-once : (bytes : List ℕ) (k : Kit) (es : List Entry) (e : Words) (r : List ℕ) (at : ℕ) → HasEnd bytes k es e r → 0 < length r → LeavesAt bytes at
    → length (front_of k es ++ line_of e) ≡ at
end-once bytes k es e r _ one some (AtStart none) = absurd (none k (text_in es ++ (line_of e ++ r), one.bytes_are))
end-once bytes k es e r _ one some (AtLine kit entries rest are is breaks) =
    absurd (never-both bytes k kit es entries e r rest one (line-more bytes kit entries rest are is breaks))
end-once bytes k es e r _ one some (BehindEnd kit entries end rest are last is some_too) =
    let same = ends-once bytes k kit es entries e end r rest one (behind-end bytes kit entries end rest are last is) in
    ap (λ m. length (front_of m es ++ line_of e)) same.0
    ∙ ap (λ l. length (front_of kit l ++ line_of e)) same.1.entries
    ∙ ap (λ w. length (front_of kit entries ++ line_of w)) same.1.end

start-once : (bytes : List ℕ) (at : ℕ) → ((kit : Kit) → StandsAt (kit_words kit) bytes → ⊥) → LeavesAt bytes at → 0 ≡ at
start-once bytes _ none (AtStart none_too) = refl
start-once bytes _ none (AtLine kit entries rest are is breaks) = absurd (none kit (text_in entries ++ rest, is ∙ front-text kit entries rest))
start-once bytes _ none (BehindEnd kit entries end rest are last is some) =
    absurd (none kit (text_in entries ++ (line_of end ++ rest), is ∙ end-text kit entries end rest))

-- a text leaves the grammar at one place
pub leaves-once : (bytes : List ℕ) (at other : ℕ) → LeavesAt bytes at → LeavesAt bytes other → at ≡ other
leaves-once bytes _ other (AtStart none) too = start-once bytes other none too
leaves-once bytes _ other (AtLine kit entries rest are is breaks) too = line-once bytes kit entries rest other (line-more bytes kit entries rest are is breaks) too
leaves-once bytes _ other (BehindEnd kit entries end rest are last is some) too =
    end-once bytes kit entries end rest other (behind-end bytes kit entries end rest are last is) some too
