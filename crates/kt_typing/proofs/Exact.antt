-- An expression has a type exactly where it has no fault, and else a first fault.
use Rattle.std.proofs.Common.{if◌then◌else◌, ◌≡◌, ◌⊎◌, inl, inr, Bool, true, false, List, ◌∷◌, Option, Some, None, Result, Ok, Err, refl, sym, ap, ◌∙◌, subst}
use Rattle.kt_typing.specs.declared.fault.Fault.{Fault}
use Rattle.kt_typing.specs.Faults.{is_before, IsFirst}
use Rattle.kt_typing.specs.First.{earlier, misuse, err_of, breach, first_fault, first_of_parts}
use Rattle.kt_typing.specs.Forms.{Form, Ruled, Parts, NoPart, Part, ok_of, unless, fitting, both_there, by_rule, typed, operands, IsMisused, IsBroken, IsFault, IsPartFault}
use Rattle.kt_typing.specs.Operands.{Operand}
use Rattle.kt_typing.proofs.Firsts.{not-before-itself, not-before-both, not-before-lesser, one-first}

of-either : {A B C : Type 0} → (A → C) → (B → C) → A ⊎ B → C
of-either f g (inl a) = f a
of-either f g (inr b) = g b

-- ---- the first fault of a set, where it has one

abbrev pub Finds : Option Fault → (Fault → Type 0) → Type 0
Finds None P = (f : Fault) → P f → ⊥
Finds (Some f) P = IsFirst P f

module _ (P Q : Fault → Type 0) where
  finds-earlier : (f g : Fault) → IsFirst P f → IsFirst Q g → (b : Bool) → is_before g f ≡ b → IsFirst (λ h. P h ⊎ Q h) (if b then g else f)
  finds-earlier f g p q true e = record { among = inr q.among; first = λ h. of-either (λ x. not-before-lesser f g h (p.first h x) e) (q.first h) }
  finds-earlier f g p q false e = record { among = inl p.among; first = λ h. of-either (p.first h) (λ x. not-before-both f g h e (q.first h x)) }

  pub finds-both : (a b : Option Fault) → Finds a P → Finds b Q → Finds (earlier a b) (λ h. P h ⊎ Q h)
  finds-both None None p q = λ f. of-either (p f) (q f)
  finds-both None (Some g) p q = record { among = inr q.among; first = λ h. of-either (λ x. absurd (p h x)) (q.first h) }
  finds-both (Some f) None p q = record { among = inl p.among; first = λ h. of-either (p.first h) (λ x. absurd (q h x)) }
  finds-both (Some f) (Some g) p q = finds-earlier f g p q (is_before g f) refl

alone : (g h : Fault) → g ≡ h → is_before h g ≡ false
alone g h e = subst (λ k. is_before k g ≡ false) e (not-before-itself g)

pub finds-some : (o : Option Fault) → Finds o (λ f. o ≡ Some f)
finds-some None = λ f e. absurd cc
finds-some (Some g) = record { among = refl; first = λ h e. alone g h cc }

pub finds-err : (r : Result Operand Fault) → Finds (err_of r) (λ f. r ≡ Err f)
finds-err (Ok x) = λ f e. absurd cc
finds-err (Err g) = record { among = refl; first = λ h e. alone g h cc }

finds-misuse : (wrong : Operand → Option Fault) (x : Option Operand) → Finds (misuse wrong x) (IsMisused wrong x)
finds-misuse wrong None = λ f e. e
finds-misuse wrong (Some x) = finds-some (wrong x)

finds-breach : (rule : List Operand → Result Operand Fault) (xs : Option (List Operand)) → Finds (breach rule xs) (IsBroken rule xs)
finds-breach rule None = λ f e. e
finds-breach rule (Some xs) = finds-err (rule xs)

mutual
  pub finds : (e : Form) → Finds (first_fault e) (IsFault e)
  finds (Ruled always parts rule) =
      finds-both (λ f. always ≡ Some f) (λ f. IsPartFault parts f ⊎ IsBroken rule (operands parts) f)
      always (earlier (first_of_parts parts) (breach rule (operands parts))) (finds-some always)
      (finds-both (IsPartFault parts) (IsBroken rule (operands parts))
      (first_of_parts parts) (breach rule (operands parts)) (finds-parts parts) (finds-breach rule (operands parts)))

  pub finds-parts : (ps : Parts) → Finds (first_of_parts ps) (IsPartFault ps)
  finds-parts NoPart = λ f e. e
  finds-parts (Part wrong e rest) =
      finds-both (IsFault e) (λ f. IsMisused wrong (typed e) f ⊎ IsPartFault rest f)
      (first_fault e) (earlier (misuse wrong (typed e)) (first_of_parts rest)) (finds e)
      (finds-both (IsMisused wrong (typed e)) (IsPartFault rest)
      (misuse wrong (typed e)) (first_of_parts rest) (finds-misuse wrong (typed e)) (finds-parts rest))

-- what is found is the first fault
pub found-first : (e : Form) (f : Fault) → first_fault e ≡ Some f → IsFirst (IsFault e) f
found-first e f is = subst (λ o. Finds o (IsFault e)) is (finds e)

-- where nothing is found there is no fault
pub found-none : (e : Form) (f : Fault) → first_fault e ≡ None → IsFault e f → ⊥
found-none e f is = (subst (λ o. Finds o (IsFault e)) is (finds e)) f

-- ---- what has a type has no fault

ok-there : (r : Result Operand Fault) (x : Operand) → ok_of r ≡ Some x → r ≡ Ok x
ok-there (Ok y) x e = ap Ok cc
ok-there (Err f) x e = absurd cc

pub ruled-there : (always : Option Fault) (rule : List Operand → Result Operand Fault) (o : Option (List Operand)) (x : Operand)
    → by_rule always rule o ≡ Some x → (always ≡ None) × (xs : List Operand) × (o ≡ Some xs) × (rule xs ≡ Ok x)
ruled-there None rule (Some xs) x e = (refl, xs, refl, ok-there (rule xs) x e)
ruled-there None rule None x e = absurd cc
ruled-there (Some f) rule None x e = absurd cc
ruled-there (Some f) rule (Some xs) x e = absurd cc

pub fitting-there : (wrong : Operand → Option Fault) (o : Option Operand) (x : Operand) → fitting wrong o ≡ Some x → (o ≡ Some x) × (wrong x ≡ None)
fitting-there wrong None x e = absurd cc
fitting-there wrong (Some y) x e = by (wrong y) refl e
  where
    by : (w : Option Fault) → wrong y ≡ w → unless w y ≡ Some x → (Some y ≡ Some x) × (wrong x ≡ None)
    by None d h = let same : y ≡ x = cc in (h, subst (λ z. wrong z ≡ None) same d)
    by (Some f) d h = absurd cc

pub both-there : (o : Option Operand) (os : Option (List Operand)) (xs : List Operand)
    → both_there o os ≡ Some xs → (x : Operand) × (rest : List Operand) × (o ≡ Some x) × (os ≡ Some rest) × (xs ≡ x ∷ rest)
both-there (Some x) (Some rest) xs e = (x, rest, refl, refl, cc)
both-there None None xs e = absurd cc
both-there None (Some rest) xs e = absurd cc
both-there (Some x) None xs e = absurd cc

some-none : (o : Option Fault) (f : Fault) → o ≡ None → o ≡ Some f → ⊥
some-none o f a b = absurd cc

ok-err : (r : Result Operand Fault) (x : Operand) (f : Fault) → r ≡ Ok x → r ≡ Err f → ⊥
ok-err r x f a b = absurd cc

mutual
  pub faultless : (e : Form) (x : Operand) → typed e ≡ Some x → (f : Fault) → IsFault e f → ⊥
  faultless (Ruled always parts rule) x e f m =
      let (none, xs, are, is) = ruled-there always rule (operands parts) x e in
      of-either (some-none always f none)
      (of-either (faultless-parts parts xs are f) (λ b. ok-err (rule xs) x f is (subst (λ o. IsBroken rule o f) are b))) m

  pub faultless-parts : (ps : Parts) (xs : List Operand) → operands ps ≡ Some xs → (f : Fault) → IsPartFault ps f → ⊥
  faultless-parts NoPart xs e f m = m
  faultless-parts (Part wrong a rest) xs e f m =
      let (x, ys, fits, are, same) = both-there (fitting wrong (typed a)) (operands rest) xs e in
      let (is, right) = fitting-there wrong (typed a) x fits in
      of-either (faultless a x is f)
      (of-either (λ b. some-none (wrong x) f right (subst (λ o. IsMisused wrong o f) is b)) (faultless-parts rest ys are f)) m

-- ---- what has no type has a fault

-- a part that has no type, or is used as what it is not, or what stands behind it, has a fault
module _ (wrong : Operand → Option Fault) (a : Form) (rest : Parts) where
  misused : (x : Operand) (w : Option Fault) → wrong x ≡ w → typed a ≡ Some x → (os : Option (List Operand)) → both_there (unless w x) os ≡ None
      → (os ≡ None → (f : Fault) × IsPartFault rest f) → (f : Fault) × IsPartFault (Part wrong a rest) f
  misused x (Some f) d is os h later = (f, inr (inl (subst (λ o. IsMisused wrong o f) (sym is) d)))
  misused x None d is None h later = let (f, m) = later refl in (f, inr (inr m))
  misused x None d is (Some xs) h later = absurd cc

  part-faulty : (o : Option Operand) → typed a ≡ o → (os : Option (List Operand)) → both_there (fitting wrong o) os ≡ None
      → (typed a ≡ None → (f : Fault) × IsFault a f) → (os ≡ None → (f : Fault) × IsPartFault rest f) → (f : Fault) × IsPartFault (Part wrong a rest) f
  part-faulty None is os h own later = let (f, m) = own is in (f, inl m)
  part-faulty (Some x) is os h own later = misused x (wrong x) refl is os h later

own-fault : (r : Result Operand Fault) → ok_of r ≡ None → (f : Fault) × (r ≡ Err f)
own-fault (Ok x) h = absurd cc
own-fault (Err f) h = (f, refl)

module _ (parts : Parts) (rule : List Operand → Result Operand Fault) where
  ruled-faulty : (o : Option (List Operand)) → operands parts ≡ o → by_rule None rule o ≡ None → (operands parts ≡ None → (f : Fault) × IsPartFault parts f)
      → (f : Fault) × IsFault (Ruled None parts rule) f
  ruled-faulty None d h part = let (f, m) = part d in (f, inr (inl m))
  ruled-faulty (Some xs) d h part = let (f, m) = own-fault (rule xs) h in (f, inr (inr (subst (λ o. IsBroken rule o f) (sym d) m)))

mutual
  pub faulty : (e : Form) → typed e ≡ None → (f : Fault) × IsFault e f
  faulty (Ruled (Some g) parts rule) e = (g, inl refl)
  faulty (Ruled None parts rule) e = ruled-faulty parts rule (operands parts) refl e (faulty-parts parts)

  pub faulty-parts : (ps : Parts) → operands ps ≡ None → (f : Fault) × IsPartFault ps f
  faulty-parts NoPart e = absurd cc
  faulty-parts (Part wrong a rest) e = part-faulty wrong a rest (typed a) refl (operands rest) e (faulty a) (faulty-parts rest)

some-there : (o : Option Fault) → (o ≡ None → ⊥) → (f : Fault) × (o ≡ Some f)
some-there None h = absurd (h refl)
some-there (Some f) h = (f, refl)

-- what has no type has a first fault
pub first-there : (e : Form) → typed e ≡ None → (f : Fault) × IsFirst (IsFault e) f
first-there e none =
    let (g, m) = faulty e none in
    let (f, is) = some-there (first_fault e) (λ h. found-none e g h m) in
    (f, found-first e f is)

-- the first fault is found
pub first-found : (e : Form) (f : Fault) → IsFirst (IsFault e) f → first_fault e ≡ Some f
first-found e f first =
    let (g, is) = some-there (first_fault e) (λ h. found-none e f h first.among) in
    is ∙ ap Some (one-first (IsFault e) g f (found-first e g is) first)

-- what has a type has no first fault
pub typed-none : (e : Form) (x : Operand) → typed e ≡ Some x → first_fault e ≡ None
typed-none e x is = by (first_fault e) refl
  where
    by : (o : Option Fault) → first_fault e ≡ o → o ≡ None
    by None h = refl
    by (Some f) h = absurd (faultless e x is f (found-first e f h).among)
