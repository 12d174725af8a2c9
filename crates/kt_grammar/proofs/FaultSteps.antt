-- Steps of the proof that what is not read breaks off something: parts one after the other, what may stand, and lists.
use Rattle.std.proofs.Common.{◌≡◌, ℕ, zero, suc, ◌≤◌, ◌<◌, inl, inr, Bool, true, false, List, [], ◌∷◌, ◌++◌, length, drop, Option, Some, None, Result, Ok, Err, refl, sym, ap, ◌∙◌, subst, append_assoc}
use Rattle.std.specs.Prelude.{if◌then◌else◌}
use Rattle.kt_grammar.specs.declared.fault.Fault.{Fault}
use Rattle.kt_grammar.specs.declared.fault.Fault.TheVariants.{TooDeep}
use Rattle.kt_grammar.specs.declared.keyword.Keyword.{Keyword}
use Rattle.kt_grammar.specs.declared.sign.Sign.{Sign}
use Rattle.kt_grammar.specs.declared.symbol.Symbol.{Symbol}
use Rattle.kt_grammar.specs.declared.symbol.Symbol.TheVariants as symbol
use Rattle.kt_grammar.specs.Marks.{Mark, Language, sign, keyword, Joined, ◌·◌}
use Rattle.kt_grammar.specs.Cursor.{◌>>=◌, Outcome, begins_sign, listed_at, until_at}
use Rattle.kt_grammar.specs.Laws.{Stands, FaultStands}
use Rattle.kt_grammar.specs.StandsLaws.{chosen, stands_as, begins_sign_stands}
use Rattle.kt_grammar.specs.FaultLaws.{no_fault, same_fault, bind_err, unexpected_stands, too_deep_stands, fault_as, fault_before, fault_behind, listed_at_fault, sign_mark, name_mark, some_name, blank_name}
use Rattle.kt_grammar.specs.Lists.{separated, each, maybe, any}
use Rattle.kt_grammar.specs.Conditions.{refused}
use Rattle.kt_grammar.proofs.ListStands.{ReadStands, not_true, separated_of}

-- something that can stand where it is missing
abbrev pub Blank : (List Mark → Type 0) → Type 0
Blank language = (marks : List Mark) × language marks

pub blank_joined : {A B : List Mark → Type 0} → Blank A → Blank B → Blank (A · B)
blank_joined a b = (a.0 ++ b.0, record { front = a.0; back = b.0; parts = refl; first = a.1; second = b.1 })

pub blank_as : {A B : List Mark → Type 0} → ((marks : List Mark) → A marks → B marks) → Blank A → Blank B
blank_as f a = (a.0, f a.0 a.1)

pub sign_blank : (d : ℕ) (s : Sign) → Blank (sign d s)
sign_blank d s = (sign_mark d s, (0, refl))

pub keyword_blank : (d : ℕ) (k : Keyword) → Blank (keyword d k)
keyword_blank d k = (record { symbol = symbol.Keyword 0 k; depth = d } ∷ [], (0, refl))

pub name_blank : (d : ℕ) → Blank (some_name d)
name_blank d = (name_mark d, (blank_name, refl))

pub maybe_blank : {A : Type 0} (spelling : A → Language) → Blank (any (maybe spelling))
maybe_blank spelling = ([], (None, refl))

-- joined parts of which each is told otherwise
pub rejoined : {A B C D : List Mark → Type 0} {marks : List Mark} (j : Joined A B marks) → C j.front → D j.back → Joined C D marks
rejoined j c d = record { front = j.front; back = j.back; parts = j.parts; first = c; second = d }

-- a part and two others are two and another
pub grouped : {A B C : List Mark → Type 0} {marks : List Mark} → Joined A (B · C) marks → Joined (A · B) C marks
grouped j = record {
  front = j.front ++ j.second.front;
  back = j.second.back;
  parts = j.parts ∙ ap (λ (b : List Mark). j.front ++ b) j.second.parts ∙ sym (append_assoc j.front j.second.front j.second.back);
  first = record { front = j.front; back = j.second.front; parts = refl; first = j.first; second = j.second.first };
  second = j.second.second;
}

-- two parts and another are a part and two others
pub ungrouped : {A B C : List Mark → Type 0} {marks : List Mark} → Joined (A · B) C marks → Joined A (B · C) marks
ungrouped j = record {
  front = j.first.front;
  back = j.first.back ++ j.back;
  parts = j.parts ∙ ap (λ (f : List Mark). f ++ j.back) j.first.parts ∙ append_assoc j.first.front j.first.back j.back;
  first = j.first.first;
  second = record { front = j.first.back; back = j.back; parts = refl; first = j.first.second; second = j.second };
}

-- what is not read breaks off what is spelled so
abbrev pub ReadFaults : {A : Type 0} → ℕ → (List Mark → Type 0) → (List Symbol → Result A Fault) → Type 0
ReadFaults limit language read = (symbols : List Symbol) (fault : Fault) → read symbols ≡ Err fault → FaultStands limit language symbols fault

-- what stands is something
pub any_stands : {A : Type 0} {limit : ℕ} {symbols rest : List Symbol} (spelling : A → List Mark → Type 0) (x : A) → Stands limit (spelling x) symbols rest → Stands limit (any spelling) symbols rest
any_stands spelling x s = stands_as (any spelling) (λ m p. (x, p)) s

-- a reading whose last step is at fault
pub last_fault : {X Y : Type 0} (read : Result X Fault) (f : X → Y) (fault : Fault) → (read >>= λ x. Ok (f x)) ≡ Err fault → read ≡ Err fault
last_fault (Ok x) f fault e = no_fault (f x) fault e
last_fault {X} {Y} (Err other) f fault e = subst (λ (x : Fault). ◌≡◌ {A = Result X Fault} (Err other) (Err x)) (same_fault {A = Y} other fault e) refl

-- a part and those behind it: the part is at fault, or it stands and those behind it are
pub parts_fault : {X Y : Type 0} {limit : ℕ} {A B : List Mark → Type 0} {symbols : List Symbol} (read : Result X Fault) (f : X → Result Y Fault) (fault : Fault) (rest : X → List Symbol) → (read >>= f) ≡ Err fault
    → (read ≡ Err fault → FaultStands limit A symbols fault) → ((x : X) → read ≡ Ok x → Stands limit A symbols (rest x)) → Blank B → ((x : X) → read ≡ Ok x → f x ≡ Err fault → FaultStands limit B (rest x) fault)
    → FaultStands limit (A · B) symbols fault
parts_fault {B = B} read f fault rest e first stands blank second = elim (bind_err read f fault e) [
  | inl w ↦ fault_before B blank.0 blank.1 (first w)
  | inr w ↦ fault_behind (stands w.0 w.1) (second w.0 w.1 w.2)
]

-- what a sign leads breaks off where the sign stands
pub led_fault : {A : Type 0} (limit d : ℕ) (s : Sign) (language : A → Language) (read : List Symbol → Outcome A) → d ≤ limit → ReadFaults limit (any language) read
    → (symbols : List Symbol) (fault : Fault) → ◌≡◌ {A = Outcome (Option A)} (if begins_sign s symbols then (read (drop 1 symbols) >>= λ c. Ok (Some c.0, c.1)) else Ok (None, symbols)) (Err fault)
    → FaultStands limit (any (maybe (λ c. sign d s · language c))) symbols fault
led_fault {A} limit d s language read h faults symbols fault e = elim (chosen (begins_sign s symbols) _ _ (Err fault) e) [
  | inl c ↦ fault_as (any (maybe (λ c. sign d s · language c)))
      (λ m j. (Some j.second.0, record { front = j.front; back = j.back; parts = j.parts; first = j.first; second = j.second.1 }))
      (fault_behind (begins_sign_stands limit d s symbols h c.0) (faults (drop 1 symbols) fault (last_fault (read (drop 1 symbols)) _ fault c.1)))
  | inr c ↦ no_fault _ fault c.1
]

-- the symbol, at a depth, begins something
pub record GoesOn (d : ℕ) (language : List Mark → Type 0) (s : Symbol) : Type 0 where
  pub others : List Mark
  pub goes : language (record { symbol = s; depth = d } ∷ others)

-- what could begin here is too deep
pub refused_fault : {A : Type 0} (limit d : ℕ) (begins : List Symbol → Bool) (language : List Mark → Type 0) → limit < d → begins [] ≡ false → Blank language
    → ((s : Symbol) (rest : List Symbol) → begins (s ∷ rest) ≡ true → GoesOn d language s)
    → (symbols : List Symbol) (fault : Fault) → refused {A = A} begins symbols ≡ Err fault → FaultStands limit language symbols fault
refused_fault {A} limit d begins language deep empty blank goes_on symbols fault e = elim (chosen (begins symbols) _ _ (Err fault) e) [
  | inl c ↦ begun symbols c.0 c.1
  | inr c ↦ unexpected_stands limit language blank.0 symbols fault blank.1 c.1
]
  where
    begun : (symbols : List Symbol) → begins symbols ≡ true → ◌≡◌ {A = Result A Fault} (Err (TooDeep (length symbols))) (Err fault) → FaultStands limit language symbols fault
    begun [] t e = not_true (sym empty ∙ t)
    begun (s ∷ rest) t e = let l = goes_on s rest t in too_deep_stands limit d language l.others s rest fault deep l.goes e

-- ---- lists

-- any items with commas between them, one at least
abbrev pub some_separated : {A : Type 0} → ℕ → (A → Language) → List Mark → Type 0
some_separated {A} d item marks = (x : A) × (others : List A) × separated d item (x ∷ others) marks

pub one_separated : {A : Type 0} (d : ℕ) (item : A → Language) (marks : List Mark) → any item marks → some_separated d item marks
one_separated d item marks s = (s.0, [], s.1)

-- a list breaks off where an item does
pub separated_at_fault : {A : Type 0} (limit d : ℕ) (item : A → Language) (read : List Symbol → Outcome A) → d ≤ limit → ReadStands limit item read → ReadFaults limit (any item) read → Blank (any item)
    → (count : ℕ) (done : List A) (symbols : List Symbol) (fault : Fault) → listed_at read count done symbols ≡ Err fault → FaultStands limit (some_separated d item) symbols fault
separated_at_fault limit d item read h stands faults blank count done symbols fault e = fault_as (some_separated d item)
    (λ m l. (l.0, l.1, separated_of d item l.0 l.1 m l.2))
    (listed_at_fault limit d item read h stands faults blank.1.0 blank.0 blank.1.1 count done symbols fault e)

-- items one after the other break off where an item does
pub until_at_fault : {A : Type 0} (limit : ℕ) (stops : List Symbol → Bool) (item : A → Language) (read : List Symbol → Outcome A) → ReadStands limit item read → ReadFaults limit (any item) read
    → (count : ℕ) (done : List A) (symbols : List Symbol) (fault : Fault) → until_at stops read count done symbols ≡ Err fault → FaultStands limit (any (each item)) symbols fault
until_at_fault limit stops item read stands faults zero done symbols fault e = elim (chosen (stops symbols) _ _ (Err fault) e) [
  | inl c ↦ no_fault _ fault c.1
  | inr c ↦ unexpected_stands limit (any (each item)) [] symbols fault ([], refl) c.1
]
until_at_fault limit stops item read stands faults (suc count) done symbols fault e = elim (chosen (stops symbols) _ _ (Err fault) e) [
  | inl c ↦ no_fault _ fault c.1
  | inr c ↦ fault_as (any (each item))
      (λ m j. (j.first.0 ∷ j.second.0, record { front = j.front; back = j.back; parts = j.parts; first = j.first.1; second = j.second.1 }))
      (parts_fault (read symbols) _ fault (λ x. x.1) c.1 (faults symbols fault) (λ x r. any_stands item x.0 (stands symbols x r)) ([], ([], refl))
      (λ x r w. until_at_fault limit stops item read stands faults count (done ++ x.0 ∷ []) x.1 fault w))
]
