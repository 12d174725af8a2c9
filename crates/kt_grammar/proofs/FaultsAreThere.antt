-- A token list that is no file within the limit breaks off exactly where reading tells.
use Rattle.std.proofs.Common.{◌≡◌, ℕ, suc, ◌+◌, ◌<◌, ◌≤◌, nat_lt, inl, inr, ◌⊎◌, List, [], ◌∷◌, ◌++◌, length, Result, Ok, Err, sym, ap, subst, ◌∙◌, arith, append_assoc, length-append}
use Rattle.std.proofs.lemmas.List.{append-nil}
use Rattle.std.proofs.lemmas.Bool.Decides.{nat_tests}
use Rattle.kt_grammar.specs.declared.fault.Fault.{Fault}
use Rattle.kt_grammar.specs.declared.fault.Fault.TheVariants.{Syntax, TooDeep}
use Rattle.kt_grammar.specs.declared.symbol.Symbol.{Symbol}
use Rattle.kt_grammar.specs.Marks.{Mark, symbols_of, IsShallow}
use Rattle.kt_grammar.specs.Cut.{cut}
use Rattle.kt_grammar.specs.CutLaws.{symbols_of-append, symbols_of-length, cut-kept, cut-deep}
use Rattle.kt_grammar.specs.StandsLaws.{either}
use Rattle.kt_grammar.specs.FaultLaws.{no_fault, same_fault}
use Rattle.kt_grammar.specs.Laws.{IsFaultAt}
use Rattle.kt_grammar.specs.Cursor.{Outcome}
use Rattle.kt_grammar.specs.Lists.{any}
use Rattle.kt_grammar.specs.Texts.{IsText, BeginsText, IsBeginning, IsRefused, IsDeepAt}
use Rattle.kt_grammar.specs.TextLaws.{IsReadBack, TextFaultStands, TextIsLocal, SyntaxIsThere, DepthIsThere}

-- ---- what cut answers

no_syntax : {A : Type 0} (n k : ℕ) → ◌≡◌ {A = Result A Fault} (Err (TooDeep n)) (Err (Syntax k)) → ⊥
no_syntax n k e = let f : TooDeep n ≡ Syntax k = same_fault (TooDeep n) (Syntax k) e in absurd cc

depth_or : ℕ → Fault → ℕ
depth_or n (TooDeep k) = k
depth_or n other = n

same_depth : {A : Type 0} (n k : ℕ) → ◌≡◌ {A = Result A Fault} (Err (TooDeep n)) (Err (TooDeep k)) → n ≡ k
unfolding depth_or
same_depth n k e = ap (depth_or n) (same_fault (TooDeep n) (TooDeep k) e)

-- a depth is above the limit or not
over : (limit depth : ℕ) → (limit < depth) ⊎ (depth ≤ limit)
over limit depth = elim (either (nat_lt limit depth)) as (λ _. (limit < depth) ⊎ (depth ≤ limit)) [
  | inl h ↦ inl (grind (arith, nat_tests))
  | inr h ↦ inr (grind (arith, nat_tests))
]

-- never that a symbol is unexpected
cut_no_syntax : {A : Type 0} (limit : ℕ) (marks : List Mark) (x : A) (k : ℕ) → cut limit marks [] (Ok x) ≡ Err (Syntax k) → ⊥
cut_no_syntax limit [] x k e = no_fault x (Syntax k) e
cut_no_syntax limit (m ∷ marks) x k e = elim (over limit m.depth) as (λ _. ⊥) [
  | inl h ↦ no_syntax _ k (sym (cut-deep limit m marks [] (Ok x) h) ∙ e)
  | inr h ↦ cut_no_syntax limit marks x k (sym (cut-kept limit m marks [] (Ok x) h) ∙ e)
]

-- no more tokens are left than there are
cut_within : {A : Type 0} (limit : ℕ) (marks : List Mark) (x : A) (k : ℕ) → cut limit marks [] (Ok x) ≡ Err (TooDeep k) → k ≤ length marks
cut_within limit [] x k e = no_fault x (TooDeep k) e
cut_within limit (m ∷ marks) x k e = elim (over limit m.depth) as (λ _. k ≤ suc (length marks)) [
  | inl h ↦
      let d : length (symbols_of (m ∷ marks) ++ []) ≡ k = same_depth _ k (sym (cut-deep limit m marks [] (Ok x) h) ∙ e) in
      let l : length (symbols_of (m ∷ marks) ++ []) ≡ suc (length marks) = ap length (append-nil (symbols_of (m ∷ marks))) ∙ symbols_of-length (m ∷ marks) in
      omega arith
  | inr h ↦ let l = cut_within limit marks x k (sym (cut-kept limit m marks [] (Ok x) h) ∙ e) in omega arith
]

-- the first token that is too deep is the one with so many left
cut_first : {A : Type 0} (limit : ℕ) (front : List Mark) (m : Mark) (others : List Mark) (x : A)
    → cut limit (front ++ m ∷ others) [] (Ok x) ≡ Err (TooDeep (suc (length others))) → IsShallow limit front × (limit < m.depth)
cut_first limit [] m others x e = elim (over limit m.depth) as (λ _. IsShallow limit [] × (limit < m.depth)) [
  | inl h ↦ (tt, h)
  | inr h ↦ let l = cut_within limit others x (suc (length others)) (sym (cut-kept limit m others [] (Ok x) h) ∙ e) in absurd (omega arith)
]
cut_first limit (a ∷ front) m others x e = elim (over limit a.depth) as (λ _. IsShallow limit (a ∷ front) × (limit < m.depth)) [
  | inl h ↦
      let d : length (symbols_of (a ∷ front ++ m ∷ others) ++ []) ≡ suc (length others) = same_depth _ _ (sym (cut-deep limit a (front ++ m ∷ others) [] (Ok x) h) ∙ e) in
      let l : length (symbols_of (a ∷ front ++ m ∷ others) ++ []) ≡ suc (length (front ++ m ∷ others)) = ap length (append-nil (symbols_of (a ∷ front ++ m ∷ others))) ∙ symbols_of-length (a ∷ front ++ m ∷ others) in
      let j : length (front ++ m ∷ others) ≡ length front + suc (length others) = length-append front (m ∷ others) in
      absurd (omega arith)
  | inr h ↦ let r = cut_first limit front m others x (sym (cut-kept limit a (front ++ m ∷ others) [] (Ok x) h) ∙ e) in ((h, r.0), r.1)
]

-- ---- texts that go on

-- the symbols of a text that begins with these marks
goes_on : (marks others : List Mark) (before : List Symbol) (t : Symbol) → symbols_of marks ≡ before ++ t ∷ [] → symbols_of (marks ++ others) ≡ before ++ t ∷ symbols_of others
goes_on marks others before t e =
    symbols_of-append marks others ∙ ap (λ (s : List Symbol). s ++ symbols_of others) e ∙ append_assoc before (t ∷ []) (symbols_of others)

module _ {X : Type 0} (language : X → List Mark → Type 0) (read : ℕ → List Symbol → Outcome X) (back : IsReadBack language read) (local : TextIsLocal read) where
  -- no text goes on with a symbol that is refused
  refused_on : (n : ℕ) (before : List Symbol) (t : Symbol) (rest : List Symbol) → read n (before ++ t ∷ rest) ≡ Err (Syntax (length (t ∷ rest))) → IsBeginning language (before ++ t ∷ []) → ⊥
  refused_on n before t rest e b =
      let f = b.begins in
      let other = symbols_of f.others in
      let same : symbols_of (b.marks ++ f.others) ≡ before ++ t ∷ other = goes_on b.marks f.others before t b.parts in
      let refused : read n (before ++ t ∷ other) ≡ Err (Syntax (length (t ∷ other))) = (local n before t rest other).syntax e in
      cut_no_syntax n (b.marks ++ f.others) (f.whole, []) (length (t ∷ other))
      (sym (back n f.whole (b.marks ++ f.others) f.spelled) ∙ ap (read n) same ∙ refused)

  -- what is refused at its end is no text
  refused_end : (n k : ℕ) (before : List Symbol) → read n before ≡ Err (Syntax k) → (xs : X) → IsText language before xs → ⊥
  refused_end n k before e xs f = cut_no_syntax n f.marks (xs, []) k (sym (back n xs f.marks f.spelled) ∙ ap (read n) f.parts ∙ e)

  refused : (n k : ℕ) (before rest : List Symbol) → length rest ≡ k → read n (before ++ rest) ≡ Err (Syntax k) → IsRefused language before rest
  refused n k before [] l e = refused_end n k before (ap (read n) (sym (append-nil before)) ∙ e)
  refused n k before (t ∷ rest) l e = refused_on n before t rest (e ∙ ap (λ i. Err (Syntax i)) (sym l))

  pub syntax_is_there : TextFaultStands language read → SyntaxIsThere language read
  syntax_is_there faults n symbols left e =
      let f = faults n symbols (Syntax left) e in
      record {
        marks = f.marks;
        rest = f.rest;
        parts = f.parts;
        place = f.is_fault;
        begins = record { whole = f.begins.0; others = f.others; spelled = f.begins.1 };
        shallow = f.shallow;
        refused = refused n left (symbols_of f.marks) f.rest f.is_fault (ap (read n) (sym f.parts) ∙ e);
      }

  -- in each text that goes on with it the symbol is the first that is too deep
  first_deep : (n : ℕ) (before : List Symbol) (t : Symbol) (rest : List Symbol) → read n (before ++ t ∷ rest) ≡ Err (TooDeep (length (t ∷ rest)))
      → (marks : List Mark) (m : Mark) → symbols_of marks ≡ before → m.symbol ≡ t → BeginsText language (marks ++ m ∷ []) → IsShallow n marks × (n < m.depth)
  first_deep n before t rest e marks m p q f =
      let all : (marks ++ m ∷ []) ++ f.others ≡ marks ++ m ∷ f.others = append_assoc marks (m ∷ []) f.others in
      let spelled : language f.whole (marks ++ m ∷ f.others) = subst (language f.whole) all f.spelled in
      let other = symbols_of f.others in
      let same : symbols_of (marks ++ m ∷ f.others) ≡ before ++ t ∷ other = symbols_of-append marks (m ∷ f.others) ∙ ap (λ (s : List Symbol). s ++ m.symbol ∷ other) p ∙ ap (λ (s : Symbol). before ++ s ∷ other) q in
      let deep : read n (before ++ t ∷ other) ≡ Err (TooDeep (length (t ∷ other))) = (local n before t rest other).deep e in
      cut_first n marks m f.others (f.whole, [])
      (sym (back n f.whole (marks ++ m ∷ f.others) spelled) ∙ ap (read n) same ∙ deep ∙ ap (λ i. Err (TooDeep (suc i))) (symbols_of-length f.others))

  depth_at : (n left : ℕ) (symbols : List Symbol) → read n symbols ≡ Err (TooDeep left) → (marks others : List Mark) (rest : List Symbol) → symbols ≡ symbols_of marks ++ rest
      → any language (marks ++ others) → IsFaultAt n others rest (TooDeep left) → IsDeepAt language n symbols left
  depth_at n left symbols e marks [] rest p b h = absurd h.1
  depth_at n left symbols e marks (m ∷ others) [] p b h = absurd h.1
  depth_at n left symbols e marks (m ∷ others) (t ∷ rest) p b h =
      record {
        before = symbols_of marks;
        deep = t;
        rest = rest;
        parts = p;
        place = h.0;
        begins = record {
          marks = marks ++ m ∷ [];
          parts = symbols_of-append marks (m ∷ []) ∙ ap (λ (s : Symbol). symbols_of marks ++ s ∷ []) h.1.0;
          begins = record { whole = b.0; others = others; spelled = subst (language b.0) (sym (append_assoc marks (m ∷ []) others)) b.1 };
        };
        first = first_deep n (symbols_of marks) t rest (ap (read n) (sym p) ∙ e ∙ ap (λ i. Err (TooDeep i)) (sym h.0));
      }

  pub depth_is_there : TextFaultStands language read → DepthIsThere language read
  depth_is_there faults n symbols left e =
      let f = faults n symbols (TooDeep left) e in
      depth_at n left symbols e f.marks f.others f.rest f.parts f.begins f.is_fault
