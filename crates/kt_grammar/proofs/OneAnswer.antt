-- A token list has one tree, or its one fault at its one place.
use Rattle.std.specs.Prelude.{◌≡◌, ℕ, ◌<◌, ◌≤◌, List, [], ◌∷◌, ◌++◌, Result, Ok, Err, length, refl}
use Rattle.std.proofs.Common.{inl, inr, sym, subst, ap, ◌∙◌, arith, append_assoc, append-nil, length-append}
use Rattle.std.proofs.lemmas.Bool.{cases_lt}
use Rattle.kt_lex.specs.declared.token.Token.{Token}
use Rattle.kt_grammar.specs.declared.fault.Fault.TheVariants as fault
use Rattle.kt_grammar.specs.declared.symbol.Symbol.{Symbol}
use Rattle.kt_grammar.specs.Cursor.{Outcome}
use Rattle.kt_grammar.specs.Symbols.{symbols_of_tokens}
use Rattle.kt_grammar.specs.Marks.{Mark, symbols_of, IsShallow}
use Rattle.kt_grammar.specs.declared.syntax_fault.SyntaxFault.{SyntaxFault}
use Rattle.kt_grammar.specs.declared.syntax_fault.SyntaxFault.TheVariants.{Syntax, TooDeep, NoMemory}
use Rattle.kt_grammar.specs.Texts.{IsText, IsSpelled, OneTree, BeginsText, IsRefused, IsSyntaxAt, IsDeepAt, BreaksOff, IsTooDeepAt, place_of, Sized, IsTree, IsAnswer, HasAnswer, OneAnswer}
use Rattle.kt_grammar.specs.TextLaws.{TextStands, TextFaultStands, SyntaxIsThere, DepthIsThere}

-- ---- two ways to part a list

-- marks of symbols that are two lists
pub record AreSplit (marks : List Mark) (a b : List Symbol) : Type 0 where
  pub front : List Mark
  pub back : List Mark
  pub whole : marks ≡ front ++ back
  pub first : symbols_of front ≡ a
  pub second : symbols_of back ≡ b

pub split : (marks : List Mark) (a b : List Symbol) → symbols_of marks ≡ a ++ b → AreSplit marks a b
split marks [] b e = record { front = []; back = marks; whole = refl; first = refl; second = e }
split [] (x ∷ a) b e = absurd cc
split (m ∷ marks) (x ∷ a) b e =
    let here : m.symbol ≡ x = cc in
    let later : symbols_of marks ≡ a ++ b = cc in
    let s = split marks a b later in
    record { front = m ∷ s.front; back = s.back; whole = ap (λ l. m ∷ l) s.whole; first = (let f = s.first in cc); second = s.second }

-- of two ways to part a list, the longer front goes on with what stands behind the shorter one
longer : (a b c d : List Symbol) (x : Symbol) → a ++ x ∷ c ≡ b ++ d → length a < length b → (more : List Symbol) × (b ≡ a ++ x ∷ more)
longer [] [] c d x e h = absurd (omega (arith, h))
longer [] (y ∷ b) c d x e h = (b, (let same : x ≡ y = cc in ap (λ z. z ∷ b) (sym same)))
longer (z ∷ a) [] c d x e h = absurd (omega (arith, h))
longer (z ∷ a) (y ∷ b) c d x e h =
    let same : z ≡ y = cc in
    let rest : a ++ x ∷ c ≡ b ++ d = cc in
    let less : length a < length b = omega (arith, h) in
    let l = longer a b c d x rest less in
    (l.0, ap (λ z. z ∷ b) (sym same) ∙ ap (λ l. z ∷ l) l.1)

-- of two fronts of a list, what is left is as long where neither is the longer one
same_left : (a c b d : List Symbol) (m n : ℕ) → a ++ c ≡ b ++ d → length c ≡ m → length d ≡ n → length a ≤ length b → length b ≤ length a → m ≡ n
same_left a c b d m n e x y f g =
    let k = ap length e in
    let left = length-append a c in
    let right = length-append b d in
    omega (arith, k, left, right, x, y, f, g)

module _ {X : Type 0} (language : X → List Mark → Type 0) where
  -- ---- where a list breaks off

  -- nothing goes on past a place where a list breaks off
  past : (a rest d : List Symbol) (marks : List Mark) → a ++ rest ≡ symbols_of marks ++ d → IsRefused language a rest → BeginsText language marks → length a < length (symbols_of marks) → ⊥
  past a [] d marks e refused b h =
      let n = ap length e in
      let left = length-append a [] in
      let right = length-append (symbols_of marks) d in
      omega (arith, n, left, right, h)
  past a (x ∷ rest) d marks e refused b h =
      let l = longer a (symbols_of marks) rest d x e h in
      let s = split marks (a ++ x ∷ []) l.0 (l.1 ∙ sym (append_assoc a (x ∷ []) l.0)) in
      refused (record {
        marks = s.front;
        parts = s.first;
        begins = record {
          whole = b.whole;
          others = s.back ++ b.others;
          spelled = subst (language b.whole) (ap (λ l. l ++ b.others) s.whole ∙ append_assoc s.front s.back b.others) b.spelled;
        };
      })

  -- a list breaks off at one place
  one_syntax : (n : ℕ) (symbols : List Symbol) (i j : ℕ) → IsSyntaxAt language n symbols i → IsSyntaxAt language n symbols j → i ≡ j
  one_syntax n symbols i j s t = elim (cases_lt (length (symbols_of s.marks)) (length (symbols_of t.marks))) [
    | inl less ↦ absurd (past (symbols_of s.marks) s.rest t.rest t.marks (sym s.parts ∙ t.parts) s.refused t.begins less)
    | inr most ↦ elim (cases_lt (length (symbols_of t.marks)) (length (symbols_of s.marks))) [
      | inl less ↦ absurd (past (symbols_of t.marks) t.rest s.rest s.marks (sym t.parts ∙ s.parts) t.refused s.begins less)
      | inr least ↦ same_left (symbols_of s.marks) s.rest (symbols_of t.marks) t.rest i j (sym s.parts ∙ t.parts) s.place t.place least most
    ]
  ]

  -- a text breaks off nowhere
  whole-or-broken : (symbols : List Symbol) (xs : X) (before rest : List Symbol) → IsText language symbols xs → symbols ≡ before ++ rest → IsRefused language before rest → ⊥
  whole-or-broken symbols xs before [] f parts refused =
      refused xs (record { marks = f.marks; parts = f.parts ∙ parts ∙ append-nil before; spelled = f.spelled })
  whole-or-broken symbols xs before (t ∷ rest) f parts refused =
      let p = split f.marks (before ++ t ∷ []) rest (f.parts ∙ parts ∙ sym (append_assoc before (t ∷ []) rest)) in
      refused (record {
        marks = p.front;
        parts = p.first;
        begins = record { whole = xs; others = p.back; spelled = subst (language xs) p.whole f.spelled };
      })

  file_or_syntax : (n : ℕ) (symbols : List Symbol) (xs : X) (i : ℕ) → IsText language symbols xs → IsSyntaxAt language n symbols i → ⊥
  file_or_syntax n symbols xs i f s = whole-or-broken symbols xs (symbols_of s.marks) s.rest f s.parts s.refused

  -- ---- the first token that is too deep

  -- what is said of it
  abbrev IsFirstDeep : ℕ → List Symbol → Symbol → Type 0
  IsFirstDeep n before deep = (ms : List Mark) (m : Mark) → symbols_of ms ≡ before → m.symbol ≡ deep → BeginsText language (ms ++ m ∷ []) → IsShallow n ms × (n < m.depth)

  -- a mark among shallow ones is shallow
  shallow-middle : (n : ℕ) (front : List Mark) (m : Mark) (back : List Mark) → IsShallow n (front ++ m ∷ back) → m.depth ≤ n
  shallow-middle n [] m back h = h.0
  shallow-middle n (f ∷ front) m back h = shallow-middle n front m back h.1

  deep-past : (n : ℕ) (before : List Symbol) (deep : Symbol) (more : List Symbol) (front back marks : List Mark) → marks ≡ front ++ back
      → symbols_of front ≡ before → symbols_of back ≡ deep ∷ more → BeginsText language marks → IsShallow n marks → IsFirstDeep n before deep → ⊥
  deep-past n before deep more front [] marks whole f b begins shallow first = absurd cc
  deep-past n before deep more front (m ∷ back) marks whole f b begins shallow first =
      let is : m.symbol ≡ deep = cc in
      let d = (first front m f is (record {
        whole = begins.whole;
        others = back ++ begins.others;
        spelled = subst (language begins.whole)
            (ap (λ l. l ++ begins.others) whole ∙ append_assoc front (m ∷ back) begins.others ∙ sym (append_assoc front (m ∷ []) (back ++ begins.others)))
            begins.spelled;
      })).1 in
      let s = shallow-middle n front m back (subst (IsShallow n) whole shallow) in
      omega (arith, d, s)

  -- no shallow beginning of a text goes past a token that is too deep
  pub shallow-past : (n : ℕ) (before : List Symbol) (deep : Symbol) (rest d : List Symbol) (marks : List Mark) → before ++ deep ∷ rest ≡ symbols_of marks ++ d
      → IsFirstDeep n before deep → BeginsText language marks → IsShallow n marks → length before < length (symbols_of marks) → ⊥
  shallow-past n before deep rest d marks e first begins shallow h =
      let l = longer before (symbols_of marks) rest d deep e h in
      let s = split marks before (deep ∷ l.0) l.1 in
      deep-past n before deep l.0 s.front s.back marks s.whole s.first s.second begins shallow first

  -- a text within the limit has no token that is too deep
  file_or_deep : (n : ℕ) (symbols : List Symbol) (xs : X) (i : ℕ) → IsSpelled language n symbols xs → IsDeepAt language n symbols i → ⊥
  file_or_deep n symbols xs i f d =
      let whole : d.before ++ d.deep ∷ d.rest ≡ symbols_of f.marks ++ [] = sym d.parts ∙ sym f.parts ∙ sym (append-nil (symbols_of f.marks)) in
      let begins : BeginsText language f.marks = record { whole = xs; others = []; spelled = subst (language xs) (sym (append-nil f.marks)) f.spelled } in
      let n_left = ap length whole in
      let left = length-append d.before (d.deep ∷ d.rest) in
      let right = length-append (symbols_of f.marks) [] in
      shallow-past n d.before d.deep d.rest [] f.marks whole d.first begins f.shallow (omega (arith, n_left, left, right))

  -- a list that breaks off has no token before that is too deep, and a list with such a token doesn't break off before it
  syntax_or_deep : (n : ℕ) (symbols : List Symbol) (i j : ℕ) → IsSyntaxAt language n symbols i → IsDeepAt language n symbols j → ⊥
  syntax_or_deep n symbols i j s d = elim (cases_lt (length d.before) (length (symbols_of s.marks))) [
    | inl less ↦ shallow-past n d.before d.deep d.rest s.rest s.marks (sym d.parts ∙ s.parts) d.first s.begins s.shallow less
    | inr least ↦
        let longer_by = length-append d.before (d.deep ∷ []) in
        let parts = ap length d.begins.parts in
        past (symbols_of s.marks) s.rest d.rest d.begins.marks
        (sym s.parts ∙ d.parts ∙ sym (append_assoc d.before (d.deep ∷ []) d.rest) ∙ ap (λ l. l ++ d.rest) (sym d.begins.parts))
        s.refused d.begins.begins (omega (arith, least, longer_by, parts))
  ]

  -- the front of a beginning up to a token that is too deep is shallow
  front-shallow : (n : ℕ) (before : List Symbol) (deep : Symbol) (front back marks : List Mark) → marks ≡ front ++ back → symbols_of front ≡ before
      → symbols_of back ≡ deep ∷ [] → BeginsText language marks → IsFirstDeep n before deep → BeginsText language front × IsShallow n front
  front-shallow n before deep front [] marks whole f b begins first = absurd cc
  front-shallow n before deep front (m ∷ (k ∷ back)) marks whole f b begins first = absurd cc
  front-shallow n before deep front (m ∷ []) marks whole f b begins first =
      let is : m.symbol ≡ deep = cc in (
        record {
          whole = begins.whole;
          others = (m ∷ []) ++ begins.others;
          spelled = subst (language begins.whole) (ap (λ l. l ++ begins.others) whole ∙ append_assoc front (m ∷ []) begins.others) begins.spelled;
        },
        (first front m f is (subst (BeginsText language) whole begins)).0,
      )

  -- no token that is too deep stands before the first one
  deep-before : (n : ℕ) (symbols : List Symbol) (i j : ℕ) (s : IsDeepAt language n symbols i) (t : IsDeepAt language n symbols j) → length s.before < length t.before → ⊥
  deep-before n symbols i j s t less =
      let p = split t.begins.marks t.before (t.deep ∷ []) t.begins.parts in
      let f = front-shallow n t.before t.deep p.front p.back t.begins.marks p.whole p.first p.second t.begins.begins t.first in
      shallow-past n s.before s.deep s.rest (t.deep ∷ t.rest) p.front (sym s.parts ∙ t.parts ∙ ap (λ l. l ++ t.deep ∷ t.rest) (sym p.first)) s.first f.0 f.1
      (subst (λ l. length s.before < length l) (sym p.first) less)

  one_deep : (n : ℕ) (symbols : List Symbol) (i j : ℕ) → IsDeepAt language n symbols i → IsDeepAt language n symbols j → i ≡ j
  one_deep n symbols i j s t = elim (cases_lt (length s.before) (length t.before)) [
    | inl less ↦ absurd (deep-before n symbols i j s t less)
    | inr most ↦ elim (cases_lt (length t.before) (length s.before)) [
      | inl less ↦ absurd (deep-before n symbols j i t s less)
      | inr least ↦ same_left s.before (s.deep ∷ s.rest) t.before (t.deep ∷ t.rest) i j (sym s.parts ∙ t.parts) s.place t.place least most
    ]
  ]

  -- ---- one answer

  as_file : (limit : ℕ) (symbols : List Symbol) (xs : X) → IsSpelled language limit symbols xs → IsText language symbols xs
  as_file limit symbols xs s = record { marks = s.marks; parts = s.parts; spelled = s.spelled }

  same_tree : OneTree language → (bytes : List ℕ) (tokens : List Token) (x y : Sized X) → IsTree language bytes tokens x → IsTree language bytes tokens y → x ≡ y
  same_tree one bytes tokens x y s t =
      let symbols = symbols_of_tokens bytes tokens in
      let e = one symbols x.content y.content (as_file 200 symbols x.content s.spelled) (as_file 200 symbols y.content t.spelled) in
      let l = s.bytes_long ∙ sym t.bytes_long in
      λ i. record { content = e i; length = l i }

  same_break : (bytes : List ℕ) (tokens : List Token) (i j : ℕ) → BreaksOff language bytes tokens i → BreaksOff language bytes tokens j → i ≡ j
  same_break bytes tokens i j s t =
      s.2 ∙ ap (place_of tokens (length bytes)) (one_syntax 200 (symbols_of_tokens bytes tokens) s.0 t.0 s.1 t.1) ∙ sym t.2

  same_depth : (bytes : List ℕ) (tokens : List Token) (i j : ℕ) → IsTooDeepAt language bytes tokens i → IsTooDeepAt language bytes tokens j → i ≡ j
  same_depth bytes tokens i j s t =
      s.2 ∙ ap (place_of tokens (length bytes)) (one_deep 200 (symbols_of_tokens bytes tokens) s.0 t.0 s.1 t.1) ∙ sym t.2

  tree_or_break : (bytes : List ℕ) (tokens : List Token) (x : Sized X) (at : ℕ) → IsTree language bytes tokens x → BreaksOff language bytes tokens at → ⊥
  tree_or_break bytes tokens x at t b =
      let symbols = symbols_of_tokens bytes tokens in
      file_or_syntax 200 symbols x.content b.0 (as_file 200 symbols x.content t.spelled) b.1

  tree_or_depth : (bytes : List ℕ) (tokens : List Token) (x : Sized X) (at : ℕ) → IsTree language bytes tokens x → IsTooDeepAt language bytes tokens at → ⊥
  tree_or_depth bytes tokens x at t d = file_or_deep 200 (symbols_of_tokens bytes tokens) x.content d.0 t.spelled d.1

  break_or_depth : (bytes : List ℕ) (tokens : List Token) (i j : ℕ) → BreaksOff language bytes tokens i → IsTooDeepAt language bytes tokens j → ⊥
  break_or_depth bytes tokens i j b d = syntax_or_deep 200 (symbols_of_tokens bytes tokens) b.0 d.0 b.1 d.1

  pub one_answer : OneTree language → OneAnswer language
  one_answer one bytes tokens (Ok x) (Ok y) s t = ap (λ z. Ok z) (same_tree one bytes tokens x y s t)
  one_answer one bytes tokens (Ok x) (Err (Syntax at)) s t = absurd (tree_or_break bytes tokens x at s t)
  one_answer one bytes tokens (Ok x) (Err (TooDeep at)) s t = absurd (tree_or_depth bytes tokens x at s t)
  one_answer one bytes tokens (Err (Syntax at)) (Ok y) s t = absurd (tree_or_break bytes tokens y at t s)
  one_answer one bytes tokens (Err (TooDeep at)) (Ok y) s t = absurd (tree_or_depth bytes tokens y at t s)
  one_answer one bytes tokens (Err (Syntax i)) (Err (Syntax j)) s t = ap (λ at. Err (Syntax at)) (same_break bytes tokens i j s t)
  one_answer one bytes tokens (Err (TooDeep i)) (Err (TooDeep j)) s t = ap (λ at. Err (TooDeep at)) (same_depth bytes tokens i j s t)
  one_answer one bytes tokens (Err (Syntax i)) (Err (TooDeep j)) s t = absurd (break_or_depth bytes tokens i j s t)
  one_answer one bytes tokens (Err (TooDeep i)) (Err (Syntax j)) s t = absurd (break_or_depth bytes tokens j i t s)
  one_answer one bytes tokens (Err NoMemory) y s t = absurd s
  one_answer one bytes tokens x (Err NoMemory) s t = absurd t

  -- ---- some answer

  module _ (read : ℕ → List Symbol → Outcome X) (stands : TextStands language read) (faults : TextFaultStands language read) (syntax : SyntaxIsThere language read) (depth : DepthIsThere language read) where
    answer_of : (bytes : List ℕ) (tokens : List Token) (answered : Outcome X) → read 200 (symbols_of_tokens bytes tokens) ≡ answered
        → (answer : Result (Sized X) SyntaxFault) × IsAnswer language bytes tokens answer
    answer_of bytes tokens (Ok (xs, rest)) is = (
      Ok (record { content = xs; length = length bytes }),
      record { spelled = (stands 200 (symbols_of_tokens bytes tokens) xs rest is).1; bytes_long = refl },
    )
    answer_of bytes tokens (Err (fault.Syntax left)) is = (
      Err (Syntax (place_of tokens (length bytes) left)),
      (left, syntax 200 (symbols_of_tokens bytes tokens) left is, refl),
    )
    answer_of bytes tokens (Err (fault.TooDeep left)) is = (
      Err (TooDeep (place_of tokens (length bytes) left)),
      (left, depth 200 (symbols_of_tokens bytes tokens) left is, refl),
    )
    answer_of bytes tokens (Err fault.NoMemory) is = absurd (faults 200 (symbols_of_tokens bytes tokens) fault.NoMemory is).is_fault

    pub has_answer : HasAnswer language
    has_answer bytes tokens = answer_of bytes tokens _ refl
