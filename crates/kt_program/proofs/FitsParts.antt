-- What comes of parts that fit fits too.
use Rattle.std.proofs.Common.{◌≡◌, ℕ, ◌&&◌, Bool, true, List, [], ◌∷◌, ◌++◌, Option, Some, None, refl, subst}
use Rattle.std.proofs.lemmas.Bool.{and_from, and_parts}
use Rattle.std.specs.Option.{is_some}
use Rattle.kt_tree.specs.Kinds.{Scope}
use Rattle.kt_tree.specs.Tree.{Expression, Statement, Evaluated, Compound, Conditional, Looped, Repeated, Returned, Done}
use Rattle.kt_tree.specs.Typed.{kind, is_condition, all_of, fits, fits_return, all_fit}
use Rattle.kt_typing.specs.declared.fault.Fault.{Fault}
use Rattle.kt_typing.specs.Forms.{Form, typed}
use Rattle.kt_typing.specs.Operands.{Operand}
use Rattle.kt_program.specs.Judgments.{Judgment, Expressed, Held, Judgments, NoMore, And, tree_made, both_made, made_of, made, all_made}
use Rattle.kt_program.specs.Made.{Made, Value, Lines, lines_of, all_lines, block_of, as_one, block, the_one}
use Rattle.kt_program.specs.Statements.{evaluated, returned, conditional, while_loop, repeated, value_of, for_loop, under}

-- ---- what a judgment gives

held-by : (broken : Option Fault) (how : List Made → Made) (o : Option (List Made)) (m : Made)
    → made_of broken how o ≡ Some m → (broken ≡ None) × (ms : List Made) × (o ≡ Some ms) × (how ms ≡ m)
held-by None how (Some ms) m e = (refl, ms, refl, cc)
held-by None how None m e = absurd cc
held-by (Some f) how None m e = absurd cc
held-by (Some f) how (Some ms) m e = absurd cc

and-by : (o : Option Made) (os : Option (List Made)) (ms : List Made)
    → both_made o os ≡ Some ms → (x : Made) × (rest : List Made) × (o ≡ Some x) × (os ≡ Some rest) × (x ∷ rest ≡ ms)
and-by (Some x) (Some rest) ms e = (x, rest, refl, refl, cc)
and-by None None ms e = absurd cc
and-by None (Some rest) ms e = absurd cc
and-by (Some x) None ms e = absurd cc

tree-by : (o : Option Operand) (m : Made) → tree_made o ≡ Some m → (x : Operand) × (o ≡ Some x) × (Value x.tree ≡ m)
tree-by (Some x) m e = (x, refl, cc)
tree-by None m e = absurd cc

-- P of what comes of it
abbrev pub Gives : (Made → Type 0) → Judgment → Type 0
Gives P j = (m : Made) → made j ≡ Some m → P m

abbrev pub GiveAll : (List Made → Type 0) → Judgments → Type 0
GiveAll P js = (ms : List Made) → all_made js ≡ Some ms → P ms

pub held-gives : (P : Made → Type 0) (broken : Option Fault) (js : Judgments) (how : List Made → Made)
    → (broken ≡ None → GiveAll (λ ms. P (how ms)) js) → Gives P (Held broken js how)
held-gives P broken js how h m e =
    let (none, ms, are, is) = held-by broken how (all_made js) m e in
    subst P is (h none ms are)

pub none-give : (P : List Made → Type 0) → P [] → GiveAll P NoMore
none-give P h ms e = let same : [] ≡ ms = cc in subst P same h

pub and-give : (P : List Made → Type 0) (j : Judgment) (rest : Judgments)
    → ((m : Made) → made j ≡ Some m → GiveAll (λ ms. P (m ∷ ms)) rest) → GiveAll P (And j rest)
and-give P j rest h ms e =
    let (x, others, is, are, same) = and-by (made j) (all_made rest) ms e in
    subst P same (h x is others are)

pub expressed-gives : (P : Made → Type 0) (e : Form) → ((x : Operand) → typed e ≡ Some x → P (Value x.tree)) → Gives P (Expressed e)
expressed-gives P e h m is =
    let (x, there, same) = tree-by (typed e) m is in
    subst P same (h x there)

-- of an expression and what follows it, of a last part
pub tree-and-give : (P : List Made → Type 0) (e : Form) (rest : Judgments)
    → ((x : Operand) → typed e ≡ Some x → GiveAll (λ ms. P (Value x.tree ∷ ms)) rest) → GiveAll P (And (Expressed e) rest)
tree-and-give P e rest h = and-give P (Expressed e) rest (expressed-gives (λ m. GiveAll (λ ms. P (m ∷ ms)) rest) e h)

pub last-gives : (P : List Made → Type 0) (j : Judgment) → Gives (λ m. P (m ∷ [])) j → GiveAll P (And j NoMore)
last-gives P j h = and-give P j NoMore (λ m is. none-give (λ ms. P (m ∷ ms)) (h m is))

pub last-tree-gives : (P : List Made → Type 0) (e : Form) → ((x : Operand) → typed e ≡ Some x → P (Value x.tree ∷ [])) → GiveAll P (And (Expressed e) NoMore)
last-tree-gives P e h = last-gives P (Expressed e) (expressed-gives (λ m. P (m ∷ [])) e h)

pub under-gives : (P : Made → Type 0) (broken : Option Fault) (j : Judgment) → Gives P j → Gives P (under broken j)
under-gives P broken j h =
    held-gives P broken (And j NoMore) the_one (λ none. last-gives (λ ms. P (the_one ms)) j h)

-- ---- lines that fit

module _ (s : Scope) (r : Option ℕ) where
  abbrev pub FitLines : Bool → List Statement → Type 0
  FitLines l xs = all_fit s r l (block_of xs) ≡ true

  abbrev pub Fit : Bool → Made → Type 0
  Fit l m = FitLines l (lines_of m)

  pub one-fits : (l : Bool) (a : Statement) → fits s r l a ≡ true → FitLines l (a ∷ [])
  one-fits l a h = and_from (fits s r l a) true h refl

  lines-fit : (l : Bool) (xs ys : List Statement) → FitLines l xs → FitLines l ys → FitLines l (xs ++ ys)
  lines-fit l [] ys h k = k
  lines-fit l (x ∷ xs) ys h k =
      let (one, rest) = and_parts (fits s r l x) (all_fit s r l (block_of xs)) h in
      and_from (fits s r l x) (all_fit s r l (block_of (xs ++ ys))) one (lines-fit l xs ys rest k)

  pub all-lines-fit : (l : Bool) (m : Made) (ms : List Made) → Fit l m → FitLines l (all_lines ms) → FitLines l (all_lines (m ∷ ms))
  all-lines-fit l m ms h k = lines-fit l (lines_of m) (all_lines ms) h k

  pub as-one-fits : (l : Bool) (xs : List Statement) → FitLines l xs → fits s r l (as_one xs) ≡ true
  as-one-fits l [] h = refl
  as-one-fits l (x ∷ []) h = (and_parts (fits s r l x) true h).0
  as-one-fits l (x ∷ y ∷ xs) h = h

  pub block-fits : (l : Bool) (ms : List Made) → FitLines l (all_lines ms) → Fit l (block ms)
  block-fits l ms h = one-fits l (Compound (block_of (all_lines ms))) h

  pub evaluated-fits : (l : Bool) (e : Expression) → is_some (kind s e) ≡ true → Fit l (evaluated (Value e ∷ []))
  evaluated-fits l e h = one-fits l (Evaluated e) h

  pub returned-fits : (l : Bool) (e : Expression) → fits_return s r (Some e) ≡ true → Fit l (returned (Value e ∷ []))
  returned-fits l e h = one-fits l (Returned (Some e)) h

  pub conditional-fits : (l : Bool) (c : Expression) (a : Made) → is_condition s c ≡ true → Fit l a → Fit l (conditional (Value c ∷ a ∷ []))
  conditional-fits l c (Value e) h k = refl
  conditional-fits l c (Lines a) h k = one-fits l (Conditional c (as_one a) (Compound Done))
      (and_from (is_condition s c && fits s r l (as_one a)) true (and_from (is_condition s c) (fits s r l (as_one a)) h (as-one-fits l a k)) refl)

  pub alternative-fits : (l : Bool) (c : Expression) (a b : Made) → is_condition s c ≡ true → Fit l a → Fit l b → Fit l (conditional (Value c ∷ a ∷ b ∷ []))
  alternative-fits l c (Value e) b h k m = refl
  alternative-fits l c (Lines a) (Value e) h k m = refl
  alternative-fits l c (Lines a) (Lines b) h k m = one-fits l (Conditional c (as_one a) (as_one b))
      (and_from (is_condition s c && fits s r l (as_one a)) (fits s r l (as_one b))
      (and_from (is_condition s c) (fits s r l (as_one a)) h (as-one-fits l a k)) (as-one-fits l b m))

  loop-fits : (l : Bool) (test step : Option Expression) (a : List Statement)
      → all_of (is_condition s) test ≡ true → all_of (λ e. is_some (kind s e)) step ≡ true → FitLines true a → fits s r l (Looped test step (as_one a)) ≡ true
  loop-fits l test step a h k m =
      and_from (all_of (is_condition s) test && all_of (λ e. is_some (kind s e)) step) (fits s r true (as_one a))
      (and_from (all_of (is_condition s) test) (all_of (λ e. is_some (kind s e)) step) h k) (as-one-fits true a m)

  pub while-fits : (l : Bool) (c : Expression) (a : Made) → is_condition s c ≡ true → Fit true a → Fit l (while_loop (Value c ∷ a ∷ []))
  while-fits l c (Value e) h k = refl
  while-fits l c (Lines a) h k = one-fits l (Looped (Some c) None (as_one a)) (loop-fits l (Some c) None a h refl k)

  pub repeated-fits : (l : Bool) (a : Made) (c : Expression) → Fit true a → is_condition s c ≡ true → Fit l (repeated (a ∷ Value c ∷ []))
  repeated-fits l (Value e) c k h = refl
  repeated-fits l (Lines a) c k h = one-fits l (Repeated (as_one a) c) (and_from (fits s r true (as_one a)) (is_condition s c) (as-one-fits true a k) h)

  pub for-fits : (l : Bool) (first test step a : Made) → Fit l first → all_of (is_condition s) (value_of test) ≡ true
      → all_of (λ e. is_some (kind s e)) (value_of step) ≡ true → Fit true a → Fit l (for_loop (first ∷ test ∷ step ∷ a ∷ []))
  for-fits l (Value e) test step a h k m n = refl
  for-fits l (Lines xs) test step (Value e) h k m n = refl
  for-fits l (Lines xs) test step (Lines a) h k m n =
      block-fits l (Lines xs ∷ Lines (Looped (value_of test) (value_of step) (as_one a) ∷ []) ∷ [])
      (all-lines-fit l (Lines xs) (Lines (Looped (value_of test) (value_of step) (as_one a) ∷ []) ∷ []) h
      (all-lines-fit l (Lines (Looped (value_of test) (value_of step) (as_one a) ∷ [])) []
      (one-fits l (Looped (value_of test) (value_of step) (as_one a)) (loop-fits l (value_of test) (value_of step) a k m n)) refl))
