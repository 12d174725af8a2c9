-- What was read of a journal.
use Rattle.std.proofs.Common.{◌≡◌, ℕ, ◌-◌, ◌<◌, ◌≤◌, true, List, [], ◌∷◌, ◌++◌, length, take, drop, replicate, refl, ap, sym, subst, ◌∙◌, arith, append_assoc, append-nil, length-append, eq-eqb}
use Rattle.std.specs.List.{AllByRecursion}
use Rattle.std.specs.Str.{bytes_eq}
use Rattle.std.proofs.Math.Seq.{take-append_seam}
use Rattle.std.proofs.lemmas.Bool.{false≢true}
use Rattle.std.proofs.lemmas.List.{take-append-drop}
use Rattle.std.specs.Prelude.{false, nat_eq, Option, Some, None, MatchOption}
use Rattle.kt_journal.specs.declared.kit.Kit.TheVariants.{First, Second}
use Rattle.kt_text.specs.Lines.{line_of}
use Rattle.kt_journal.specs.declared.kit.Kit.{Kit}
use Rattle.kt_journal.specs.Grammar.{Words, is_end}
use Rattle.kt_journal.specs.Journal.{Entry, Turns, Mark, words_of, IsEntry, turns_of, most_turns, AreEntries, kit_words, front_of, Says, StandsAt, LeavesAt, AtLine, BehindEnd}
use Rattle.kt_journal.specs.Reading.{TakesEntry, TakesNone, ReadsEntries, TakesEnd}
use Rattle.kt_journal.proofs.Clean.{bytes-same}
use Rattle.kt_journal.proofs.Writing.{text_in, text_in-append}

-- these lines were read, which say these turns, and the rest is left
pub record IsRead (kit : Kit) (text rest turns : List ℕ) : Type 0 where
  pub entries : List Entry
  pub are : AreEntries kit entries
  pub text_is : text ≡ text_in entries ++ rest
  pub turns_are : turns ≡ turns_of entries

pub read-few : (kit : Kit) (text rest turns : List ℕ) → IsRead kit text rest turns → length turns ≤ most_turns
read-few kit text rest turns so_far = subst (λ l. length l ≤ most_turns) (sym so_far.turns_are) so_far.are.few

pub read-start : (kit : Kit) (text turns : List ℕ) → turns ≡ [] → IsRead kit text text turns
read-start kit text turns none = record {
  entries = [];
  are = record { formed = tt; few = omega arith };
  text_is = refl;
  turns_are = none;
}

pub turns-append : (xs ys : List Entry) → turns_of (xs ++ ys) ≡ turns_of xs ++ turns_of ys
turns-append [] ys = refl
turns-append (Turns t n ∷ xs) ys = ap (λ l. replicate n t ++ l) (turns-append xs ys) ∙ sym (append_assoc (replicate n t) (turns_of xs) (turns_of ys))
turns-append (Mark words ∷ xs) ys = turns-append xs ys

pub all-snoc : (kit : Kit) (entries : List Entry) (entry : Entry) → AllByRecursion (IsEntry kit) entries → IsEntry kit entry → AllByRecursion (IsEntry kit) (entries ++ entry ∷ [])
all-snoc kit [] entry all one = (one, tt)
all-snoc kit (e ∷ entries) entry all one = (all.0, all-snoc kit entries entry all.1 one)

pub all-last : (kit : Kit) (entries : List Entry) (entry : Entry) → AllByRecursion (IsEntry kit) (entries ++ entry ∷ []) → IsEntry kit entry
all-last kit [] entry all = all.0
all-last kit (e ∷ entries) entry all = all-last kit entries entry all.1

text-more : (entries : List Entry) (entry : Entry) (behind : List ℕ) → text_in (entries ++ entry ∷ []) ++ behind ≡ text_in entries ++ (line_of (words_of entry) ++ behind)
text-more entries entry behind =
    let line = line_of (words_of entry) in
    ap (λ l. l ++ behind) (text_in-append entries (entry ∷ []) ∙ ap (λ l. text_in entries ++ l) (append-nil line))
    ∙ append_assoc (text_in entries) line behind

pub read-more : (kit : Kit) (text rest behind turns after : List ℕ) → IsRead kit text rest turns → TakesEntry kit turns after rest behind → IsRead kit text behind after
read-more kit text rest behind turns after so_far takes =
    let whole : after ≡ turns_of (so_far.entries ++ takes.entry ∷ []) =
    takes.turns_are ∙ ap (λ l. l ++ turns_of (takes.entry ∷ [])) so_far.turns_are ∙ sym (turns-append so_far.entries (takes.entry ∷ []))
    in
    record {
      entries = so_far.entries ++ takes.entry ∷ [];
      are = record {
        formed = all-snoc kit so_far.entries takes.entry so_far.are.formed takes.is_entry;
        few = subst (λ l. length l ≤ most_turns) whole takes.few;
      };
      text_is = so_far.text_is ∙ ap (λ l. text_in so_far.entries ++ l) takes.stands ∙ sym (text-more so_far.entries takes.entry behind);
      turns_are = whole;
    }

-- no such line goes on
pub read-all : (kit : Kit) (text rest turns same : List ℕ) → IsRead kit text rest turns → same ≡ turns → TakesNone kit turns rest → ReadsEntries kit text rest same
read-all kit text rest turns same so_far is none = record {
  entries = so_far.entries;
  are_entries = so_far.are;
  stands = so_far.text_is;
  turns_are = is ∙ so_far.turns_are;
  no_more = subst (λ l. TakesNone kit l rest) (sym is) none;
}

-- ---- the whole text

empty : (l : List ℕ) → length l ≡ 0 → l ≡ []
empty [] e = refl
empty (x ∷ l) e = absurd (omega arith)

module _ (kit : Kit) (bytes text rest turns : List ℕ) (first : bytes ≡ line_of (kit_words kit) ++ text) (reads : ReadsEntries kit text rest turns) where
  whole-front : bytes ≡ front_of kit reads.entries ++ rest
  whole-front = first ∙ ap (λ l. line_of (kit_words kit) ++ l) reads.stands ∙ sym (append_assoc (line_of (kit_words kit)) (text_in reads.entries) rest)

  whole-end : (behind : List ℕ) (end : Words) → rest ≡ line_of end ++ behind → bytes ≡ (front_of kit reads.entries ++ line_of end) ++ behind
  whole-end behind end stands =
      whole-front ∙ ap (λ l. front_of kit reads.entries ++ l) stands ∙ sym (append_assoc (front_of kit reads.entries) (line_of end) behind)

  -- the last line is the last thing in the text
  pub read-end : (behind : List ℕ) → TakesEnd rest behind → length behind ≡ 0 → Says bytes turns
  read-end behind takes none = record {
    kit = kit;
    entries = reads.entries;
    end = takes.end;
    are_entries = reads.are_entries;
    ends = takes.ends;
    bytes_are = whole-end behind takes.end takes.stands ∙ ap (λ l. (front_of kit reads.entries ++ line_of takes.end) ++ l) (empty behind none) ∙ append-nil (front_of kit reads.entries ++ line_of takes.end);
    turns_are = reads.turns_are;
  }

  -- something stands behind the last line
  pub read-behind : (behind : List ℕ) (at : ℕ) → TakesEnd rest behind → 0 < length behind → at ≡ length bytes - length behind → LeavesAt bytes at
  read-behind behind at takes some place =
      let front = front_of kit reads.entries ++ line_of takes.end in
      let whole = whole-end behind takes.end takes.stands in
      let here : length front ≡ at = omega (arith, ap length whole, length-append front behind) in
      subst (LeavesAt bytes) here (BehindEnd kit reads.entries takes.end behind reads.are_entries takes.ends whole some)

  -- no line goes on
  pub read-breaks : (at : ℕ) → ((end : Words) → is_end end ≡ true → StandsAt end rest → ⊥) → at ≡ length bytes - length rest → LeavesAt bytes at
  read-breaks at no_end place =
      let entries = reads.entries in
      let here : length (front_of kit entries) ≡ at = omega (arith, ap length whole-front, length-append (front_of kit entries) rest) in
      let no_entry = λ (entry : Entry) (are : AreEntries kit (entries ++ entry ∷ [])).
      reads.no_more entry (all-last kit entries entry are.formed)
      (omega (arith, are.few, ap length (turns-append entries (entry ∷ [])), length-append (turns_of entries) (turns_of (entry ∷ [])), ap length reads.turns_are))
      in
      subst (LeavesAt bytes) here (AtLine kit entries rest reads.are_entries whole-front (record { no_entry = no_entry; no_end = no_end }))

-- ---- the first line

pub front-found : (bytes rest text : List ℕ) → bytes_eq (take (length text) bytes) text ≡ true → rest ≡ drop (length text) bytes → bytes ≡ text ++ rest
front-found bytes rest text same is =
    sym (take-append-drop (length text) bytes) ∙ ap (λ l. l ++ drop (length text) bytes) (bytes-same (take (length text) bytes) text same) ∙ ap (λ l. text ++ l) (sym is)

bytes-alike : (text : List ℕ) → bytes_eq text text ≡ true
bytes-alike [] = refl
bytes-alike (b ∷ text) = let same : nat_eq b b ≡ true = eq-eqb b b refl in rw same (bytes-alike text)

pub front-none : (bytes rest text : List ℕ) → bytes_eq (take (length text) bytes) text ≡ false → bytes ≡ text ++ rest → ⊥
front-none bytes rest text other is =
    let front : take (length text) bytes ≡ text = ap (take (length text)) is ∙ take-append_seam text rest in
    false≢true (sym other ∙ ap (λ l. bytes_eq l text) front ∙ bytes-alike text)

pub kits : (bytes : List ℕ) → (StandsAt (kit_words First) bytes → ⊥) → (StandsAt (kit_words Second) bytes → ⊥) → (kit : Kit) → StandsAt (kit_words kit) bytes → ⊥
kits bytes first second First stands = first stands
kits bytes first second Second stands = second stands

pub none-first : {X : Type 0} (P Q : Type 0) (S : X → Type 0) (found : Option X) → (P → Q) → MatchOption found P S → MatchOption found Q S
none-first P Q S None f h = f h
none-first P Q S (Some x) f h = h

pub some-found : {X : Type 0} (P : Type 0) (S : X → Type 0) (found : Option X) (x : X) → found ≡ Some x → MatchOption found P S → S x
some-found P S found x is h = subst (λ o. MatchOption o P S) is h
