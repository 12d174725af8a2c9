-- Places behind parts of a body, and scopes that are left.
use Rattle.std.proofs.Common.{◌≡◌, ℕ, zero, suc, ◌+◌, ◌-◌, ◌≤◌, ◌<◌, List, [], ◌∷◌, ◌++◌, length, map, take, drop, get_or, refl, sym, ap, subst, ◌∙◌, append_assoc, length-append, arith}
use Rattle.kt_syntax.specs.Tree.{Local, Start, NoStart, Declares, Evaluates, Statement, Declared, Compound, Empty, Evaluated, Returned, Broken, Continued, Conditional, Alternative, Looped, Repeated, Counted, Statements, Nothing, More}
use Rattle.kt_program.specs.Scopes.{Visible, Place, entered, looped, declared, passed}
use Rattle.kt_program.specs.Statements.{behind_locals, behind_start, start_locals, locals_in, locals_among, behind}
use Rattle.kt_statements.specs.declared.mark.Mark.{Mark}
use Rattle.kt_statements.specs.Scopes.{IsMark, left, behind_entries}

pub drop-next : {A : Type 0} (xs : List A) (i : ℕ) (x : A) → i < length xs → x ≡ get_or xs i x → drop i xs ≡ x ∷ drop (i + 1) xs
drop-next [] i x h e = absurd (omega arith)
drop-next (y ∷ ys) zero x h e = ap (λ z. z ∷ ys) (sym e)
drop-next (y ∷ ys) (suc i) x h e =
    let same : suc i + 1 ≡ suc (i + 1) = omega arith in
    drop-next ys i x (omega arith) e ∙ ap (λ n. x ∷ drop n (y ∷ ys)) (sym same)

drop-whole : {A : Type 0} (xs : List A) → drop (length xs) xs ≡ []
drop-whole [] = refl
drop-whole (x ∷ xs) = drop-whole xs

pub drop-end : {A : Type 0} (xs : List A) (i : ℕ) → length xs ≤ i → drop i xs ≡ []
drop-end [] zero h = refl
drop-end [] (suc i) h = refl
drop-end (x ∷ xs) zero h = absurd (omega arith)
drop-end (x ∷ xs) (suc i) h = drop-end xs i (omega arith)

behind-front : {A : Type 0} (xs ys : List A) → drop (length xs) (xs ++ ys) ≡ ys
behind-front [] ys = refl
behind-front (x ∷ xs) ys = behind-front xs ys

-- ---- how many locals were declared before

pub locals-next : (p : Place) (ls : List Local) → (behind_locals p ls).next ≡ p.next + length ls
locals-next p [] = omega arith
locals-next p (l ∷ ls) =
    let e = locals-next (declared p l.name.word) ls in
    omega arith

pub start-next : (p : Place) (s : Start) → (behind_start p s).next ≡ p.next + start_locals s
start-next p NoStart = omega arith
start-next p (Declares d) = locals-next p d.locals
start-next p (Evaluates e) = omega arith

pub behind-next : (p : Place) (s : Statement) → (behind p s).next ≡ p.next + locals_in s
behind-next p (Declared d) = locals-next p d.locals
behind-next p (Compound es) = refl
behind-next p Empty = refl
behind-next p (Evaluated e) = refl
behind-next p (Returned at e) = refl
behind-next p (Broken at) = refl
behind-next p (Continued at) = refl
behind-next p (Conditional c a) = refl
behind-next p (Alternative c a b) = refl
behind-next p (Looped c a) = refl
behind-next p (Repeated a c) = refl
behind-next p (Counted first test step a) = refl

pub entries-next : (p : Place) (es : Statements) → (behind_entries p es).next ≡ p.next + locals_among es
entries-next p Nothing = omega arith
entries-next p (More s rest) =
    let e = behind-next p s in
    let f = entries-next (behind p s) rest in
    omega arith

-- ---- a place with more locals in scope

abbrev pub Inside : Place → Place → Type 0
Inside p q = (extra : List Visible) × (q.visible ≡ extra ++ p.visible)

pub inside-same : (p q : Place) → q.visible ≡ p.visible → Inside p q
inside-same p q e = ([], e)

pub inside-more : (p q r : Place) → Inside p q → Inside q r → Inside p r
inside-more p q r (xs, e) (ys, f) = (ys ++ xs, f ∙ ap (λ (vs : List Visible). ys ++ vs) e ∙ sym (append_assoc ys xs p.visible))

inside-locals : (p : Place) (ls : List Local) → Inside p (behind_locals p ls)
inside-locals p [] = ([], refl)
inside-locals p (l ∷ ls) =
    inside-more p (declared p l.name.word) (behind_locals (declared p l.name.word) ls) (record { name = l.name.word; local = p.next } ∷ [], refl) (inside-locals (declared p l.name.word) ls)

pub inside-start : (p : Place) (s : Start) → Inside p (behind_start p s)
inside-start p NoStart = ([], refl)
inside-start p (Declares d) = inside-locals p d.locals
inside-start p (Evaluates e) = ([], refl)

pub inside-behind : (p : Place) (s : Statement) → Inside p (behind p s)
inside-behind p (Declared d) = inside-locals p d.locals
inside-behind p (Compound es) = ([], refl)
inside-behind p Empty = ([], refl)
inside-behind p (Evaluated e) = ([], refl)
inside-behind p (Returned at e) = ([], refl)
inside-behind p (Broken at) = ([], refl)
inside-behind p (Continued at) = ([], refl)
inside-behind p (Conditional c a) = ([], refl)
inside-behind p (Alternative c a b) = ([], refl)
inside-behind p (Looped c a) = ([], refl)
inside-behind p (Repeated a c) = ([], refl)
inside-behind p (Counted first test step a) = ([], refl)

pub inside-entries : (p : Place) (es : Statements) → Inside p (behind_entries p es)
inside-entries p Nothing = ([], refl)
inside-entries p (More s rest) = inside-more p (behind p s) (behind_entries (behind p s) rest) (inside-behind p s) (inside-entries (behind p s) rest)

-- ---- a scope that is left

module _ (m : Mark) (p q : Place) (is : IsMark m p) (inside : Inside p q) where
  pub left-count : m.count ≤ length q.visible
  left-count =
      let (extra, e) = inside in
      let n = ap (λ (vs : List Visible). length vs) e ∙ length-append extra p.visible in
      let k = is.count in
      omega arith

  left-visible : drop (length q.visible - m.count) q.visible ≡ p.visible
  left-visible =
      let (extra, e) = inside in
      let n = ap (λ (vs : List Visible). length vs) e ∙ length-append extra p.visible in
      let k = is.count in
      let front : length q.visible - m.count ≡ length extra = omega arith in
      ap (λ d. drop d q.visible) front ∙ ap (drop (length extra)) e ∙ behind-front extra p.visible

  pub left-behind : (n : ℕ) → q.next ≡ p.next + n → left m q ≡ passed p n
  left-behind n e =
      let own = ap (λ (vs : List Visible). map (λ (v : Visible). v.name) (take (m.count - m.start) vs)) left-visible ∙ sym is.own in
      λ i. record { visible = left-visible i; own = own i; next = e i; in_loop = is.in_loop i }

-- nothing is declared
pub passed-none : (p : Place) → p ≡ passed p 0
passed-none p =
    let e : p.next ≡ p.next + 0 = omega arith in
    λ i. record p { next = e i }

pub passed-twice : (p q : Place) (n m : ℕ) → q ≡ passed p n → passed q m ≡ passed p (n + m)
passed-twice p q n m e =
    let more : p.next + n + m ≡ p.next + (n + m) = omega arith in
    ap (λ (r : Place). passed r m) e ∙ (λ i. record p { next = more i })

-- behind a block, the first part of a `for`, a statement and the body of a loop

pub behind-block : (p e q : Place) (es : Statements) → e ≡ entered p → q ≡ behind_entries e es → Inside p q × (q.next ≡ p.next + locals_among es)
behind-block p e q es begins ends =
    let n = ap (λ (r : Place). r.next) ends ∙ entries-next e es in
    let f = ap (λ (r : Place). r.next) begins in (
      inside-more p e q (inside-same p e (ap (λ (r : Place). r.visible) begins)) (subst (Inside e) (sym ends) (inside-entries e es)),
      omega arith,
    )

pub behind-begun : (p e q : Place) (s : Start) → e ≡ entered p → q ≡ behind_start e s → Inside p q × (q.next ≡ p.next + start_locals s)
behind-begun p e q s begins ends =
    let n = ap (λ (r : Place). r.next) ends ∙ start-next e s in
    let f = ap (λ (r : Place). r.next) begins in (
      inside-more p e q (inside-same p e (ap (λ (r : Place). r.visible) begins)) (subst (Inside e) (sym ends) (inside-start e s)),
      omega arith,
    )

pub behind-head : (p e q r : Place) (s : Start) (n : ℕ) → e ≡ entered p → q ≡ behind_start e s → r ≡ passed q n → Inside p r × (r.next ≡ p.next + (start_locals s + n))
behind-head p e q r s n begins ends goes =
    let (inside, k) = behind-begun p e q s begins ends in
    let m = ap (λ (x : Place). x.next) goes in
    (inside-more p q r inside (inside-same q r (ap (λ (x : Place). x.visible) goes)), omega arith)

pub behind-one : (p q : Place) (s : Statement) → q ≡ behind p s → Inside p q × (q.next ≡ p.next + locals_in s)
behind-one p q s ends = (subst (Inside p) (sym ends) (inside-behind p s), ap (λ (r : Place). r.next) ends ∙ behind-next p s)

pub behind-loop : (p l q : Place) (s : Statement) → l ≡ looped p → q ≡ behind l s → Inside p q × (q.next ≡ p.next + locals_in s)
behind-loop p l q s begins ends =
    let (inside, n) = behind-one l q s ends in
    let f = ap (λ (r : Place). r.next) begins in
    (inside-more p l q (inside-same p l (ap (λ (r : Place). r.visible) begins)) inside, omega arith)
