-- How parts that follow one another are read back.
use Rattle.std.specs.Prelude.{◌≡◌, ℕ, ◌≤◌, List, ◌∷◌, ◌++◌, Result, Ok}
use Rattle.std.proofs.Common.{refl, sym, ap, subst, ◌∙◌, append_assoc}
use Rattle.kt_grammar.specs.declared.fault.Fault.{Fault}
use Rattle.kt_grammar.specs.declared.keyword.Keyword.{Keyword}
use Rattle.kt_grammar.specs.declared.sign.Sign.{Sign}
use Rattle.kt_grammar.specs.declared.symbol.Symbol.{Symbol}
use Rattle.kt_grammar.specs.declared.symbol.Symbol.TheVariants as symbol
use Rattle.kt_grammar.specs.declared.tree.Name.{Name}
use Rattle.kt_grammar.specs.declared.tree.Base.{Base}
use Rattle.kt_grammar.specs.Marks.{Mark, Joined, symbols_of, IsShallow, token, sign, keyword, name, nothing}
use Rattle.kt_grammar.specs.Spelling.{spells_base}
use Rattle.kt_grammar.specs.Cursor.{◌>>=◌, behind, name_at}
use Rattle.kt_grammar.specs.Reading.{base_at}
use Rattle.kt_grammar.specs.Cut.{cut}
use Rattle.kt_grammar.specs.CutLaws.{symbols_of-joined, cut-joined, cut-then, cut-end, cut-first, cut-token, cut-shallow}
use Rattle.kt_grammar.specs.BackLaws.{sign-back, name-back, base-back, base-shallow}

-- a part, and what is read behind it
pub part-then : {A B : Type 0} {P Q : List Mark → Type 0} {marks : List Mark} {x : A} (read : List Symbol → Result A Fault) (next : A → Result B Fault) (limit : ℕ) (rest : List Symbol) (answer : Result B Fault) (j : Joined P Q marks)
    → read (symbols_of j.front ++ (symbols_of j.back ++ rest)) ≡ cut limit j.front (symbols_of j.back ++ rest) (Ok x)
    → next x ≡ cut limit j.back rest answer
    → (read (symbols_of marks ++ rest) >>= next) ≡ cut limit marks rest answer
part-then {marks = marks} {x} read next limit rest answer j h k = cut-then read next limit marks j.front j.back rest x answer j.parts h k

-- the last part, and what is answered behind it
pub part-end : {A B : Type 0} {x : A} {answer : Result B Fault} (read : List Symbol → Result A Fault) (next : A → Result B Fault) (limit : ℕ) (marks : List Mark) (rest : List Symbol)
    → read (symbols_of marks ++ rest) ≡ cut limit marks rest (Ok x)
    → next x ≡ answer
    → (read (symbols_of marks ++ rest) >>= next) ≡ cut limit marks rest answer
part-end {x = x} {answer} read next limit marks rest h k = cut-end read next limit marks rest x answer h k

-- a sign, and what is read behind it
pub sign-then : {B : Type 0} {Q : List Mark → Type 0} {limit : ℕ} {marks : List Mark} {d : ℕ} {s : Sign} (next : List Symbol → Result B Fault) (rest : List Symbol) (answer : Result B Fault) (j : Joined (sign d s) Q marks) → d ≤ limit
    → next (symbols_of j.back ++ rest) ≡ cut limit j.back rest answer
    → (behind s (symbols_of marks ++ rest) >>= next) ≡ cut limit marks rest answer
sign-then {limit = limit} {d = d} {s} next rest answer j low k = part-then (behind s) next limit rest answer j (sign-back limit d s j.front (symbols_of j.back ++ rest) j.first low) k

-- the last sign, and what is answered behind it
pub sign-end : {B : Type 0} {limit : ℕ} {marks : List Mark} {rest : List Symbol} {answer : Result B Fault} {d : ℕ} {s : Sign} (next : List Symbol → Result B Fault) → sign d s marks → d ≤ limit
    → next rest ≡ answer
    → (behind s (symbols_of marks ++ rest) >>= next) ≡ cut limit marks rest answer
sign-end {limit = limit} {marks} {rest} {d = d} {s} next is low k = part-end (behind s) next limit marks rest (sign-back limit d s marks rest is low) k

-- a name, and what is read behind it
pub name-then : {B : Type 0} {Q : List Mark → Type 0} {limit : ℕ} {marks : List Mark} {d : ℕ} {n : Name} (next : Name × List Symbol → Result B Fault) (rest : List Symbol) (answer : Result B Fault) (j : Joined (name d n) Q marks) → d ≤ limit
    → next (n, symbols_of j.back ++ rest) ≡ cut limit j.back rest answer
    → (name_at (symbols_of marks ++ rest) >>= next) ≡ cut limit marks rest answer
name-then {limit = limit} {d = d} {n} next rest answer j low k = part-then name_at next limit rest answer j (name-back limit d n j.front (symbols_of j.back ++ rest) j.first low) k

-- the last name, and what is answered behind it
pub name-end : {B : Type 0} {limit : ℕ} {marks : List Mark} {rest : List Symbol} {answer : Result B Fault} {d : ℕ} {n : Name} (next : Name × List Symbol → Result B Fault) → name d n marks → d ≤ limit
    → next (n, rest) ≡ answer
    → (name_at (symbols_of marks ++ rest) >>= next) ≡ cut limit marks rest answer
name-end {limit = limit} {marks} {rest} {d = d} {n} next is low k = part-end name_at next limit marks rest (name-back limit d n marks rest is low) k

-- a base that is spelled is read, and no token of it is cut
pub base-cut : (limit d : ℕ) (b : Base) (marks : List Mark) (rest : List Symbol) → spells_base d b marks → d ≤ limit → base_at (symbols_of marks ++ rest) ≡ cut limit marks rest (Ok (b, rest))
base-cut limit d b marks rest is low = base-back d b marks rest is ∙ sym (cut-shallow limit marks rest (Ok (b, rest)) (base-shallow limit d b marks is low))

-- a base, and what is read behind it
pub base-then : {B : Type 0} {Q : List Mark → Type 0} {limit : ℕ} {marks : List Mark} {d : ℕ} {b : Base} (next : Base × List Symbol → Result B Fault) (rest : List Symbol) (answer : Result B Fault) (j : Joined (spells_base d b) Q marks) → d ≤ limit
    → next (b, symbols_of j.back ++ rest) ≡ cut limit j.back rest answer
    → (base_at (symbols_of marks ++ rest) >>= next) ≡ cut limit marks rest answer
base-then {limit = limit} {d = d} {b} next rest answer j low k = part-then base_at next limit rest answer j (base-cut limit d b j.front (symbols_of j.back ++ rest) j.first low) k

-- a first token, and what is read behind it
pub token-then : {A : Type 0} {Q : List Mark → Type 0} {limit : ℕ} {marks : List Mark} {d : ℕ} {s : Symbol} (read : List Symbol → Result A Fault) (rest : List Symbol) (answer : Result A Fault) (j : Joined (token d s) Q marks) → d ≤ limit
    → read (s ∷ (symbols_of j.back ++ rest)) ≡ cut limit j.back rest answer
    → read (symbols_of marks ++ rest) ≡ cut limit marks rest answer
token-then {limit = limit} {marks} {d} {s} read rest answer j low h = cut-first read limit d s marks j.front j.back rest answer j.parts j.first low h

-- one token
pub token-end : {A : Type 0} {limit : ℕ} {marks : List Mark} {d : ℕ} {s : Symbol} (read : List Symbol → Result A Fault) (rest : List Symbol) (answer : Result A Fault) → token d s marks → d ≤ limit
    → read (s ∷ rest) ≡ answer
    → read (symbols_of marks ++ rest) ≡ cut limit marks rest answer
token-end {limit = limit} {marks} {d} {s} read rest answer is low h = cut-token read limit d s marks rest answer is low h

-- no token
pub none-end : {A : Type 0} {marks : List Mark} (read : List Symbol → Result A Fault) (limit : ℕ) (rest : List Symbol) (answer : Result A Fault) → nothing marks
    → read rest ≡ answer
    → read (symbols_of marks ++ rest) ≡ cut limit marks rest answer
none-end read limit rest answer is h = ap (λ m. read (symbols_of m ++ rest)) is ∙ h ∙ sym (ap (λ m. cut limit m rest answer) is)

-- no token, and what is read behind it
pub none-then : {A : Type 0} {Q : List Mark → Type 0} {marks : List Mark} (read : List Symbol → Result A Fault) (limit : ℕ) (rest : List Symbol) (answer : Result A Fault) (j : Joined nothing Q marks)
    → read (symbols_of j.back ++ rest) ≡ cut limit j.back rest answer
    → read (symbols_of marks ++ rest) ≡ cut limit marks rest answer
none-then read limit rest answer j h =
    let e = j.parts ∙ ap (λ f. f ++ j.back) j.first in
    ap (λ m. read (symbols_of m ++ rest)) e ∙ h ∙ sym (ap (λ m. cut limit m rest answer) e)

-- the first two of three parts as one
pub joined-left : {P Q R : List Mark → Type 0} {marks : List Mark} → Joined P (Joined Q R) marks → Joined (Joined P Q) R marks
joined-left {P} {Q} {R} {marks} j =
    record {
      front = j.front ++ j.second.front;
      back = j.second.back;
      parts = j.parts ∙ ap (λ b. j.front ++ b) j.second.parts ∙ sym (append_assoc j.front j.second.front j.second.back);
      first = record { front = j.front; back = j.second.front; parts = refl; first = j.first; second = j.second.first };
      second = j.second.second;
    }

-- the last two of three parts as one
pub joined-right : {P Q R : List Mark → Type 0} {marks : List Mark} → Joined (Joined P Q) R marks → Joined P (Joined Q R) marks
joined-right {P} {Q} {R} {marks} j =
    record {
      front = j.first.front;
      back = j.first.back ++ j.back;
      parts = j.parts ∙ ap (λ f. f ++ j.back) j.first.parts ∙ append_assoc j.first.front j.first.back j.back;
      first = j.first.first;
      second = record { front = j.first.back; back = j.back; parts = refl; first = j.first.second; second = j.second };
    }

-- a first sign at its place
abbrev pub signed : {Q : List Mark → Type 0} {marks : List Mark} {d : ℕ} {s : Sign} (j : Joined (sign d s) Q marks) → Joined (token d (symbol.Sign j.first.0 s)) Q marks
signed j = record { front = j.front; back = j.back; parts = j.parts; first = j.first.1; second = j.second }

-- a first keyword at its place
abbrev pub worded : {Q : List Mark → Type 0} {marks : List Mark} {d : ℕ} {k : Keyword} (j : Joined (keyword d k) Q marks) → Joined (token d (symbol.Keyword j.first.0 k)) Q marks
worded j = record { front = j.front; back = j.back; parts = j.parts; first = j.first.1; second = j.second }

-- what holds of symbols that begin with the token
pub first-end : {d : ℕ} {s : Symbol} {marks : List Mark} (P : List Symbol → Type 0) (rest : List Symbol) → token d s marks → P (s ∷ rest) → P (symbols_of marks ++ rest)
first-end P rest is h = subst (λ m. P (symbols_of m ++ rest)) (sym is) h

pub first-then : {Q : List Mark → Type 0} {d : ℕ} {s : Symbol} {marks : List Mark} (P : List Symbol → Type 0) (rest : List Symbol) (j : Joined (token d s) Q marks) → P (s ∷ (symbols_of j.back ++ rest)) → P (symbols_of marks ++ rest)
first-then P rest j h = subst (λ m. P (symbols_of m ++ rest)) (sym (j.parts ∙ ap (λ f. f ++ j.back) j.first)) h

pub first-joined : {A B : List Mark → Type 0} {marks : List Mark} (P : List Symbol → Type 0) (rest : List Symbol) (j : Joined A B marks) → P (symbols_of j.front ++ (symbols_of j.back ++ rest)) → P (symbols_of marks ++ rest)
first-joined {marks = marks} P rest j h = subst P (sym (symbols_of-joined marks j.front j.back rest j.parts)) h

-- a part of which no token is too deep, and what is read behind it
pub shallow-then : {A : Type 0} {P Q : List Mark → Type 0} {marks : List Mark} (read : List Symbol → Result A Fault) (limit : ℕ) (rest : List Symbol) (answer : Result A Fault) (j : Joined P Q marks) → IsShallow limit j.front
    → read (symbols_of j.front ++ (symbols_of j.back ++ rest)) ≡ cut limit j.back rest answer
    → read (symbols_of marks ++ rest) ≡ cut limit marks rest answer
shallow-then {marks = marks} read limit rest answer j low h =
    cut-joined read limit marks j.front j.back rest answer j.parts
    (h ∙ sym (cut-shallow limit j.front (symbols_of j.back ++ rest) (cut limit j.back rest answer) low))
