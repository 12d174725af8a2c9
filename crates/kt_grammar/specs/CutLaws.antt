-- How the answer on tokens that may be too deep is put together.
use Rattle.std.specs.Prelude.{max, ◌≡◌, ℕ, suc, ◌+◌, ◌<◌, ◌≤◌, nat_lt, Bool, true, false, List, [], ◌∷◌, ◌++◌, length, Result, Ok, Err, if◌then◌else◌}
use Rattle.std.proofs.Common.{refl, sym, ap, subst, ◌∙◌, arith, append_assoc}
use Rattle.std.proofs.lemmas.List.{length-append}
use Rattle.std.proofs.lemmas.Bool.Decides.{nat_tests}
use Rattle.kt_grammar.specs.declared.fault.Fault.{Fault}
use Rattle.kt_grammar.specs.declared.fault.Fault.TheVariants.{TooDeep}
use Rattle.kt_grammar.specs.declared.symbol.Symbol.{Symbol}
use Rattle.kt_grammar.specs.Marks.{Mark, symbols_of, IsShallow, token}
use Rattle.kt_grammar.specs.Cursor.{◌>>=◌, unexpected}
use Rattle.kt_grammar.specs.Laws.{Begins}
use Rattle.kt_grammar.specs.Cut.{cut}

-- ---- symbols of marks

-- the symbols of joined lists
pub symbols_of-append : (front back : List Mark) → symbols_of (front ++ back) ≡ symbols_of front ++ symbols_of back
symbols_of-append [] back = refl
symbols_of-append (m ∷ front) back = ap (λ l. m.symbol ∷ l) (symbols_of-append front back)

-- as many symbols as marks
pub symbols_of-length : (marks : List Mark) → length (symbols_of marks) ≡ length marks
symbols_of-length [] = refl
symbols_of-length (m ∷ marks) = ap (λ n. suc n) (symbols_of-length marks)

-- the symbols of joined lists, before a rest
pub symbols_of-joined : (marks front back : List Mark) (rest : List Symbol) → marks ≡ front ++ back → symbols_of marks ++ rest ≡ symbols_of front ++ (symbols_of back ++ rest)
symbols_of-joined marks front back rest e =
    ap (λ m. symbols_of m ++ rest) e ∙ ap (λ l. l ++ rest) (symbols_of-append front back) ∙ append_assoc (symbols_of front) (symbols_of back) rest

-- how many symbols stand before and in a rest
pub symbols_of-rest : (marks : List Mark) (rest : List Symbol) → length (symbols_of marks ++ rest) ≡ length marks + length rest
symbols_of-rest marks rest = length-append (symbols_of marks) rest ∙ ap (λ n. n + length rest) (symbols_of-length marks)

-- ---- choices

-- what is done behind a choice is done behind each side
pub if-bind : {A B : Type 0} (b : Bool) (e : Fault) (answer : Result A Fault) (next : A → Result B Fault) → ((if b then Err e else answer) >>= next) ≡ (if b then Err e else (answer >>= next))
if-bind true e answer next = refl
if-bind false e answer next = refl

-- a test that passes
pub nat_lt-true : (n m : ℕ) → n < m → nat_lt n m ≡ true
nat_lt-true n m h = grind (arith, nat_tests)

-- a test that does not pass
pub nat_lt-false : (n m : ℕ) → m ≤ n → nat_lt n m ≡ false
nat_lt-false n m h = grind (arith, nat_tests)

-- ---- cut

-- a token that is not too deep is passed over
pub cut-kept : {A : Type 0} (limit : ℕ) (m : Mark) (marks : List Mark) (rest : List Symbol) (answer : Result A Fault) → m.depth ≤ limit → cut limit (m ∷ marks) rest answer ≡ cut limit marks rest answer
cut-kept limit m marks rest answer h = ap (λ b. if b then Err (TooDeep (1 + (length marks + length rest))) else cut limit marks rest answer) (nat_lt-false limit m.depth h)

-- a first token that is too deep decides
pub cut-deep : {A : Type 0} (limit : ℕ) (m : Mark) (marks : List Mark) (rest : List Symbol) (answer : Result A Fault) → limit < m.depth
    → cut limit (m ∷ marks) rest answer ≡ Err (TooDeep (length (symbols_of (m ∷ marks) ++ rest)))
cut-deep limit m marks rest answer h =
    ap (λ b. if b then Err (TooDeep (1 + (length marks + length rest))) else cut limit marks rest answer) (nat_lt-true limit m.depth h)
    ∙ ap (λ n. Err (TooDeep n)) (let e : length (symbols_of marks ++ rest) ≡ length marks + length rest = symbols_of-rest marks rest in omega arith)

-- what is done behind the tokens is done behind the cut
pub cut-bind : {A B : Type 0} (limit : ℕ) (marks : List Mark) (rest : List Symbol) (answer : Result A Fault) (next : A → Result B Fault)
    → (cut limit marks rest answer >>= next) ≡ cut limit marks rest (answer >>= next)
cut-bind limit [] rest answer next = refl
cut-bind limit (m ∷ marks) rest answer next =
    if-bind (nat_lt limit m.depth) (TooDeep (1 + (length marks + length rest))) (cut limit marks rest answer) next
    ∙ ap (λ a. if nat_lt limit m.depth then Err (TooDeep (1 + (length marks + length rest))) else a) (cut-bind limit marks rest answer next)

-- tokens are cut one after the other
pub cut-append : {A : Type 0} (limit : ℕ) (front back : List Mark) (rest : List Symbol) (answer : Result A Fault)
    → cut limit (front ++ back) rest answer ≡ cut limit front (symbols_of back ++ rest) (cut limit back rest answer)
cut-append limit [] back rest answer = refl
cut-append limit (m ∷ front) back rest answer =
    let count : 1 + (length (front ++ back) + length rest) ≡ 1 + (length front + length (symbols_of back ++ rest)) =
    (let a : length (front ++ back) ≡ length front + length back = length-append front back in
    let b : length (symbols_of back ++ rest) ≡ length back + length rest = symbols_of-rest back rest in omega arith) in
    ap (λ n. if nat_lt limit m.depth then Err (TooDeep n) else cut limit (front ++ back) rest answer) count
    ∙ ap (λ a. if nat_lt limit m.depth then Err (TooDeep (1 + (length front + length (symbols_of back ++ rest)))) else a) (cut-append limit front back rest answer)

-- tokens of which none is too deep are passed over
pub cut-shallow : {A : Type 0} (limit : ℕ) (marks : List Mark) (rest : List Symbol) (answer : Result A Fault) → IsShallow limit marks → cut limit marks rest answer ≡ answer
cut-shallow limit [] rest answer h = refl
cut-shallow limit (m ∷ marks) rest answer h = cut-kept limit m marks rest answer h.0 ∙ cut-shallow limit marks rest answer h.1

if-passed : {A : Type 0} (b : Bool) (e : Fault) (answer : Result A Fault) (x : A) → (if b then Err e else answer) ≡ Ok x → (b ≡ false) × (answer ≡ Ok x)
if-passed true e answer x h = absurd cc
if-passed false e answer x h = (refl, h)

nat_lt-passed : (n m : ℕ) → nat_lt n m ≡ false → m ≤ n
nat_lt-passed n m h = grind (arith, nat_tests)

-- where something is answered, no token was too deep
pub cut-passed : {A : Type 0} (limit : ℕ) (marks : List Mark) (rest : List Symbol) (answer : Result A Fault) (x : A) → cut limit marks rest answer ≡ Ok x → IsShallow limit marks × (answer ≡ Ok x)
cut-passed limit [] rest answer x h = (tt, h)
cut-passed limit (m ∷ marks) rest answer x h =
    let first = if-passed (nat_lt limit m.depth) (TooDeep (1 + (length marks + length rest))) (cut limit marks rest answer) x h in
    let others = cut-passed limit marks rest answer x first.1 in
    ((nat_lt-passed limit m.depth first.0, others.0), others.1)

-- the depth of the deepest token
abbrev pub deepest : List Mark → ℕ
deepest [] = 0
deepest (m ∷ marks) = max m.depth (deepest marks)

-- no token is deeper than the deepest
pub deepest-shallow : (limit : ℕ) (marks : List Mark) → deepest marks ≤ limit → IsShallow limit marks
deepest-shallow limit [] h = tt
deepest-shallow limit (m ∷ marks) h = (omega arith, deepest-shallow limit marks (omega arith))

-- none of joined tokens is too deep
pub shallow-append : (limit : ℕ) (front back : List Mark) → IsShallow limit front → IsShallow limit back → IsShallow limit (front ++ back)
shallow-append limit [] back h k = k
shallow-append limit (m ∷ front) back h k = (h.0, shallow-append limit front back h.1 k)

-- ---- reading

-- a reader that reads the front of some tokens and goes on with their back
pub cut-joined : {A : Type 0} (read : List Symbol → Result A Fault) (limit : ℕ) (marks front back : List Mark) (rest : List Symbol) (answer : Result A Fault) → marks ≡ front ++ back
    → read (symbols_of front ++ (symbols_of back ++ rest)) ≡ cut limit front (symbols_of back ++ rest) (cut limit back rest answer)
    → read (symbols_of marks ++ rest) ≡ cut limit marks rest answer
cut-joined read limit marks front back rest answer parts h =
    ap read (symbols_of-joined marks front back rest parts) ∙ h
    ∙ sym (ap (λ m. cut limit m rest answer) parts ∙ cut-append limit front back rest answer)

-- a reader that takes the first of some tokens and goes on with the others
pub cut-first : {A : Type 0} (read : List Symbol → Result A Fault) (limit d : ℕ) (s : Symbol) (marks front back : List Mark) (rest : List Symbol) (answer : Result A Fault) → marks ≡ front ++ back → token d s front
    → d ≤ limit → read (s ∷ (symbols_of back ++ rest)) ≡ cut limit back rest answer
    → read (symbols_of marks ++ rest) ≡ cut limit marks rest answer
cut-first read limit d s marks front back rest answer parts first low h =
    let e : marks ≡ record { symbol = s; depth = d } ∷ back = parts ∙ ap (λ f. f ++ back) first in
    ap (λ m. read (symbols_of m ++ rest)) e ∙ h
    ∙ sym (ap (λ m. cut limit m rest answer) e ∙ cut-kept limit (record { symbol = s; depth = d }) back rest answer low)

-- a reader that takes one token
pub cut-token : {A : Type 0} (read : List Symbol → Result A Fault) (limit d : ℕ) (s : Symbol) (marks : List Mark) (rest : List Symbol) (answer : Result A Fault) → token d s marks
    → d ≤ limit → read (s ∷ rest) ≡ answer → read (symbols_of marks ++ rest) ≡ cut limit marks rest answer
cut-token read limit d s marks rest answer is low h =
    ap (λ m. read (symbols_of m ++ rest)) is ∙ h
    ∙ sym (ap (λ m. cut limit m rest answer) is ∙ cut-kept limit (record { symbol = s; depth = d }) [] rest answer low)

-- ---- what tokens begin with

-- what the front begins with, the whole begins with
pub begins-append : (begins : List Symbol → Type 0) (d : ℕ) (marks front back : List Mark) → marks ≡ front ++ back → Begins begins d front → Begins begins d marks
begins-append begins d marks front back parts b = record {
  first = b.first;
  others = b.others ++ back;
  is = parts ∙ ap (λ f. f ++ back) b.is;
  begins_so = b.begins_so;
}

-- one token begins with itself
pub begins-token : (begins : List Symbol → Type 0) (d : ℕ) (s : Symbol) (marks : List Mark) → token d s marks → ((rest : List Symbol) → begins (s ∷ rest)) → Begins begins d marks
begins-token begins d s marks is so = record { first = s; others = []; is = is; begins_so = so }

-- a beginning that weakens
pub begins-weaker : (begins weaker : List Symbol → Type 0) (d : ℕ) (marks : List Mark) → ((rest : List Symbol) → begins rest → weaker rest) → Begins begins d marks → Begins weaker d marks
begins-weaker begins weaker d marks h b = record { first = b.first; others = b.others; is = b.is; begins_so = λ rest. h (b.first ∷ rest) (b.begins_so rest) }

-- what holds at the tokens' symbols, before any rest
pub begins-at : (begins : List Symbol → Type 0) (d : ℕ) (marks : List Mark) (rest : List Symbol) → Begins begins d marks → begins (symbols_of marks ++ rest)
begins-at begins d marks rest b = subst (λ m. begins (symbols_of m ++ rest)) (sym b.is) (b.begins_so (symbols_of b.others ++ rest))

-- where no more may be opened, what begins one deeper is too deep
pub cut-none : {A : Type 0} (begins : List Symbol → Bool) (limit d : ℕ) (marks : List Mark) (rest : List Symbol) (answer : Result A Fault) → limit < d → Begins (λ symbols. begins symbols ≡ true) d marks
    → (if begins (symbols_of marks ++ rest) then Err (TooDeep (length (symbols_of marks ++ rest))) else unexpected (symbols_of marks ++ rest)) ≡ cut limit marks rest answer
cut-none begins limit d marks rest answer deep b =
    ap (λ c. if c then Err (TooDeep (length (symbols_of marks ++ rest))) else unexpected (symbols_of marks ++ rest)) (begins-at (λ symbols. begins symbols ≡ true) d marks rest b)
    ∙ ap (λ m. Err (TooDeep (length (symbols_of m ++ rest)))) b.is
    ∙ sym (ap (λ m. cut limit m rest answer) b.is ∙ cut-deep limit (record { symbol = b.first; depth = d }) b.others rest answer deep)

-- ---- steps of a reader

-- a reader that is followed by another step reads the front, and the step reads the back
pub cut-then : {A B : Type 0} (read : List Symbol → Result A Fault) (next : A → Result B Fault) (limit : ℕ) (marks front back : List Mark) (rest : List Symbol) (x : A) (answer : Result B Fault) → marks ≡ front ++ back
    → read (symbols_of front ++ (symbols_of back ++ rest)) ≡ cut limit front (symbols_of back ++ rest) (Ok x)
    → next x ≡ cut limit back rest answer
    → (read (symbols_of marks ++ rest) >>= next) ≡ cut limit marks rest answer
cut-then read next limit marks front back rest x answer parts h k =
    cut-joined (λ s. read s >>= next) limit marks front back rest answer parts
    (ap (λ r. r >>= next) h ∙ cut-bind limit front (symbols_of back ++ rest) (Ok x) next ∙ ap (λ a. cut limit front (symbols_of back ++ rest) a) k)

-- a reader that reads all tokens, followed by a step that reads none
pub cut-end : {A B : Type 0} (read : List Symbol → Result A Fault) (next : A → Result B Fault) (limit : ℕ) (marks : List Mark) (rest : List Symbol) (x : A) (answer : Result B Fault)
    → read (symbols_of marks ++ rest) ≡ cut limit marks rest (Ok x) → next x ≡ answer
    → (read (symbols_of marks ++ rest) >>= next) ≡ cut limit marks rest answer
cut-end read next limit marks rest x answer h k =
    ap (λ r. r >>= next) h ∙ cut-bind limit marks rest (Ok x) next ∙ ap (λ a. cut limit marks rest a) k
