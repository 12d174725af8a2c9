-- How answers for the parts of an expression give the one for the whole.
use Rattle.std.proofs.Common.{◌≡◌, ℕ, List, [], ◌∷◌, Option, Some, None, Result, Ok, Err, refl, ap, ◌∙◌, subst}
use Rattle.kt_typing.specs.declared.fault.Fault.{Fault}
use Rattle.kt_typing.specs.First.{earlier, misuse, first_fault, first_of_parts}
use Rattle.kt_typing.specs.Forms.{Form, Ruled, Parts, NoPart, Part, unless, fitting, typed, operands, IsPartFault}
use Rattle.kt_typing.specs.Operands.{Operand}
use Rattle.kt_typing.specs.Terms.{on_one, on_two, on_three}
use Rattle.kt_typing.proofs.Exact.{Finds, finds-parts, faultless-parts, typed-none}
use Rattle.kt_operands.specs.declared.refusal.Refusal.{Refusal}
use Rattle.kt_operands.specs.declared.refusal.Refusal.TheVariants as refusal
use Rattle.kt_operands.specs.Judged.{Follows}
use Rattle.kt_operators.specs.Judged.{Judges, JudgesPart, JudgesParts, used, both_of, AfterOne, AfterTwo, AfterThree}

-- ---- what has types has no fault, and the other way round

none-some : (o : Option Fault) (f : Fault) → o ≡ None → o ≡ Some f → ⊥
none-some o f a b = absurd cc

pub parts-none : (ps : Parts) (xs : List Operand) → operands ps ≡ Some xs → first_of_parts ps ≡ None
parts-none ps xs is = by (first_of_parts ps) refl
  where
    by : (o : Option Fault) → first_of_parts ps ≡ o → o ≡ None
    by None h = refl
    by (Some f) h = absurd (faultless-parts ps xs is f (subst (λ o. Finds o (IsPartFault ps)) h (finds-parts ps)).among)

pub faulty-untyped : (e : Form) (f : Fault) → first_fault e ≡ Some f → typed e ≡ None
faulty-untyped e f is = by (typed e) refl
  where
    by : (o : Option Operand) → typed e ≡ o → o ≡ None
    by None h = refl
    by (Some x) h = absurd (none-some (first_fault e) f (typed-none e x h) is)

pub faulty-operands : (ps : Parts) (f : Fault) → first_of_parts ps ≡ Some f → operands ps ≡ None
faulty-operands ps f is = by (operands ps) refl
  where
    by : (o : Option (List Operand)) → operands ps ≡ o → o ≡ None
    by None h = refl
    by (Some xs) h = absurd (none-some (first_of_parts ps) f (parts-none ps xs h) is)

-- ---- a part, as what it is used as

module _ {V : Type 0} (view : V → Operand) (wrong : Operand → Option Fault) (e : Form) where
  pub part_stops : (f : Refusal) → Judges view e (Err f) → JudgesPart view wrong e (Err f)
  part_stops refusal.NoMemory is = tt
  part_stops (refusal.Fault f) is = rw is (rw (faulty-untyped e f is) refl)

  goes-by : (x : Operand) (w : Option Fault) → wrong x ≡ w → typed e ≡ Some x → (r : Result V Refusal) → Follows view (used w x) r → JudgesPart view wrong e r
  goes-by x w d is (Err refusal.NoMemory) h = tt
  goes-by x None d is (Ok y) h = let same : x ≡ view y = cc in rw is (rw d (ap Some same))
  goes-by x (Some g) d is (Ok y) h = absurd cc
  goes-by x None d is (Err (refusal.Fault f)) h = absurd cc
  goes-by x (Some g) d is (Err (refusal.Fault f)) h = let same : g ≡ f = cc in rw (typed-none e x is) (rw is (rw d (ap Some same)))

  pub part_goes : (x : V) (r : Result V Refusal) → typed e ≡ Some (view x) → Follows view (used (wrong (view x)) (view x)) r → JudgesPart view wrong e r
  part_goes x r is h = goes-by (view x) (wrong (view x)) refl is r h

  -- a part that has a type as what it is used as
  there-by : (o : Option Operand) → typed e ≡ o → (y : Operand) → fitting wrong o ≡ Some y → (first_fault e ≡ None) × (misuse wrong o ≡ None)
  there-by None d y h = absurd cc
  there-by (Some x) d y h = (typed-none e x d, unless-by (wrong x) refl h)
    where
      unless-by : (w : Option Fault) → wrong x ≡ w → unless w x ≡ Some y → w ≡ None
      unless-by None i h = refl
      unless-by (Some f) i h = absurd cc

  pub part-there : (y : Operand) → fitting wrong (typed e) ≡ Some y → (first_fault e ≡ None) × (misuse wrong (typed e) ≡ None)
  part-there y h = there-by (typed e) refl y h

  -- a part with a fault before others
  faulty-by : (o : Option Fault) → first_fault e ≡ o → (f : Fault) (p : Option Fault) → earlier o (misuse wrong (typed e)) ≡ Some f
      → earlier o (earlier (misuse wrong (typed e)) p) ≡ earlier (Some f) p
  faulty-by None d f p h = ap (λ m. earlier m p) h
  faulty-by (Some g) d f p h =
      let none : misuse wrong (typed e) ≡ None = ap (misuse wrong) (faulty-untyped e g d) in
      let same : g ≡ f = by-none (misuse wrong (typed e)) none h in
      rw none (ap (λ k. earlier (Some k) p) same)
    where
      by-none : (m : Option Fault) → m ≡ None → earlier (Some g) m ≡ Some f → g ≡ f
      by-none None i h = cc
      by-none (Some k) i h = absurd cc

  pub part-faulty : (f : Fault) (rest : Parts) → earlier (first_fault e) (misuse wrong (typed e)) ≡ Some f
      → first_of_parts (Part wrong e rest) ≡ earlier (Some f) (first_of_parts rest)
  part-faulty f rest h = faulty-by (first_fault e) refl f (first_of_parts rest) h

-- ---- parts

module _ {V W : Type 0} (view : V → Operand) (list : W → List Operand) (wrong : Operand → Option Fault) (e : Form) (rest : Parts) where
  pub more-parts : (x : Result V Refusal) (r : Result W Refusal) → JudgesPart view wrong e x → JudgesParts list rest r
      → JudgesParts (λ (p : V × W). view p.0 ∷ list p.1) (Part wrong e rest) (both_of x r)
  more-parts (Ok x) (Ok xs) i j = rw i (rw j refl)
  more-parts (Ok x) (Err refusal.NoMemory) i j = tt
  more-parts (Ok x) (Err (refusal.Fault g)) i j = let (none, right) = part-there view wrong e (view x) i in rw none (rw right (rw j refl))
  more-parts (Err refusal.NoMemory) (Ok xs) i j = tt
  more-parts (Err refusal.NoMemory) (Err g) i j = tt
  more-parts (Err (refusal.Fault f)) (Ok xs) i j = part-faulty view wrong e f rest i ∙ ap (earlier (Some f)) (parts-none rest (list xs) j)
  more-parts (Err (refusal.Fault f)) (Err refusal.NoMemory) i j = tt
  more-parts (Err (refusal.Fault f)) (Err (refusal.Fault g)) i j = part-faulty view wrong e f rest i ∙ ap (earlier (Some f)) j

earlier-none : (o : Option Fault) → earlier o None ≡ o
earlier-none None = refl
earlier-none (Some f) = refl

pub one-part : {V : Type 0} (view : V → Operand) (wrong : Operand → Option Fault) (e : Form) (x : Result V Refusal) → JudgesPart view wrong e x
    → JudgesParts (λ (y : V). view y ∷ []) (Part wrong e NoPart) x
one-part view wrong e (Ok x) i = rw i refl
one-part view wrong e (Err refusal.NoMemory) i = tt
one-part view wrong e (Err (refusal.Fault f)) i = part-faulty view wrong e f NoPart i

-- ---- the whole, by its parts

module _ {V W : Type 0} (view : V → Operand) (list : W → List Operand) (parts : Parts) (rule : List Operand → Result Operand Fault) where
  pub whole-stops : (e : Refusal) → JudgesParts list parts (Err e) → Judges view (Ruled None parts rule) (Err e)
  whole-stops refusal.NoMemory i = tt
  whole-stops (refusal.Fault f) i = rw i (rw (faulty-operands parts f i) refl)

  pub whole-goes : (xs : W) (r : Result V Refusal) → operands parts ≡ Some (list xs) → Follows view (rule (list xs)) r → Judges view (Ruled None parts rule) r
  whole-goes xs (Ok x) i h = rw i (rw h refl)
  whole-goes xs (Err refusal.NoMemory) i h = tt
  whole-goes xs (Err (refusal.Fault f)) i h = rw (parts-none parts (list xs) i) (rw i (rw h refl))

-- ---- forms of one, two and three parts

module _ {V : Type 0} (view : V → Operand) (at : ℕ) where
  pub one_stops : (x : Result V Refusal) (rule : Operand → Result Operand Fault) (e : Refusal) → x ≡ Err e → AfterOne view at x rule (Err e)
  one_stops x rule e is w a i =
      whole-stops view (λ (y : V). view y ∷ []) (Part w a NoPart) (on_one at rule) e
      (subst (JudgesParts (λ (y : V). view y ∷ []) (Part w a NoPart)) is (one-part view w a x i))

  pub one_goes : (x : Result V Refusal) (rule : Operand → Result Operand Fault) (p : V) (r : Result V Refusal) → x ≡ Ok p → Follows view (rule (view p)) r → AfterOne view at x rule r
  one_goes x rule p r is h w a i =
      whole-goes view (λ (y : V). view y ∷ []) (Part w a NoPart) (on_one at rule) p r
      (subst (JudgesParts (λ (y : V). view y ∷ []) (Part w a NoPart)) is (one-part view w a x i)) h

  abbrev two : V × V → List Operand
  two p = view p.0 ∷ view p.1 ∷ []

  two-parts : (w v : Operand → Option Fault) (a b : Form) (x y : Result V Refusal) (r : Result (V × V) Refusal) → both_of x y ≡ r → JudgesPart view w a x → JudgesPart view v b y
      → JudgesParts two (Part w a (Part v b NoPart)) r
  two-parts w v a b x y r is i j =
      subst (JudgesParts two (Part w a (Part v b NoPart))) is (more-parts view (λ (q : V). view q ∷ []) w a (Part v b NoPart) x y i (one-part view v b y j))

  pub two_stops : (x y : Result V Refusal) (rule : Operand → Operand → Result Operand Fault) (e : Refusal) → both_of x y ≡ Err e → AfterTwo view at x y rule (Err e)
  two_stops x y rule e is w v a b i j = whole-stops view two (Part w a (Part v b NoPart)) (on_two at rule) e (two-parts w v a b x y (Err e) is i j)

  pub two_goes : (x y : Result V Refusal) (rule : Operand → Operand → Result Operand Fault) (p q : V) (r : Result V Refusal) → both_of x y ≡ Ok (p, q)
      → Follows view (rule (view p) (view q)) r → AfterTwo view at x y rule r
  two_goes x y rule p q r is h w v a b i j = whole-goes view two (Part w a (Part v b NoPart)) (on_two at rule) (p, q) r (two-parts w v a b x y (Ok (p, q)) is i j) h

  abbrev three : V × (V × V) → List Operand
  three p = view p.0 ∷ two p.1

  three-parts : (w : Operand → Option Fault) (a b c : Form) (x y z : Result V Refusal) (r : Result (V × (V × V)) Refusal) → both_of x (both_of y z) ≡ r
      → JudgesPart view w a x → JudgesPart view w b y → JudgesPart view w c z → JudgesParts three (Part w a (Part w b (Part w c NoPart))) r
  three-parts w a b c x y z r is i j k =
      subst (JudgesParts three (Part w a (Part w b (Part w c NoPart)))) is
      (more-parts view two w a (Part w b (Part w c NoPart)) x (both_of y z) i (two-parts w w b c y z (both_of y z) refl j k))

  pub three_stops : (x y z : Result V Refusal) (rule : Operand → Operand → Operand → Result Operand Fault) (e : Refusal) → both_of x (both_of y z) ≡ Err e → AfterThree view at x y z rule (Err e)
  three_stops x y z rule e is w a b c i j k =
      whole-stops view three (Part w a (Part w b (Part w c NoPart))) (on_three at rule) e (three-parts w a b c x y z (Err e) is i j k)

  pub three_goes : (x y z : Result V Refusal) (rule : Operand → Operand → Operand → Result Operand Fault) (p q s : V) (r : Result V Refusal) → both_of x (both_of y z) ≡ Ok (p, (q, s))
      → Follows view (rule (view p) (view q) (view s)) r → AfterThree view at x y z rule r
  three_goes x y z rule p q s r is h w a b c i j k =
      whole-goes view three (Part w a (Part w b (Part w c NoPart))) (on_three at rule) (p, (q, s)) r (three-parts w a b c x y z (Ok (p, (q, s))) is i j k) h
