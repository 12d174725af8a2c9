-- What is known of all that typing gives, part by part.
use Rattle.std.proofs.Common.{◌≡◌, Bool, true, false, Option, Some, None, Ok, Err, if◌then◌else◌, refl}
use Rattle.kt_names.specs.declared.fault.CheckFault.{CheckFault}
use Rattle.kt_names.specs.Checked.{Checked, Faults, and_then, both, fault, holds, found}

-- what is typed has P
pub record Gives {A : Type 0} (P : A → Type 0) (c : Checked A) : Type 0 where
  pub gives : (x : A) → c ≡ Ok x → P x

pub same-ok : {A : Type 0} (x y : A) → ◌≡◌ {A = Checked A} (Ok x) (Ok y) → x ≡ y
same-ok x y e = cc

module _ {A : Type 0} (P : A → Type 0) where
  pub given : (x : A) → P x → Gives P (Ok x)
  given x p = record { gives = λ y e. let same : x ≡ y = same-ok x y e in rw same at p }

  pub faulty : (fs : Faults) → Gives P (Err fs)
  faulty fs = record { gives = λ y e. absurd cc }

  pub by-test : (b : Bool) (c d : Checked A) → (b ≡ true → Gives P c) → (b ≡ false → Gives P d) → Gives P (if b then c else d)
  by-test true c d h k = h refl
  by-test false c d h k = k refl

  pub if-test : (b : Bool) (c : Checked A) (f : CheckFault) → (b ≡ true → Gives P c) → Gives P (if b then c else fault f)
  if-test true c f h = h refl
  if-test false c f h = faulty _

  pub weaken : (Q : A → Type 0) (c : Checked A) → Gives Q c → ((x : A) → Q x → P x) → Gives P c
  weaken Q c h k = record { gives = λ x e. k x (h.gives x e) }

module _ {A B : Type 0} (P : A → Type 0) (Q : B → Type 0) where
  pub afterwards : (c : Checked A) (k : A → Checked B) → Gives P c → ((x : A) → P x → Gives Q (k x)) → Gives Q (and_then c k)
  afterwards (Ok x) k h g = g x (h.gives x refl)
  afterwards (Err fs) k h g = faulty Q fs

  pub pair : (c : Checked A) (d : Checked B) → Gives P c → Gives Q d → Gives (λ x. P x.0 × Q x.1) (both c d)
  unfolding both
  pair (Ok x) (Ok y) h k = given (λ x. P x.0 × Q x.1) (x, y) (h.gives x refl, k.gives y refl)
  pair (Ok x) (Err g) h k = faulty (λ x. P x.0 × Q x.1) g
  pair (Err f) (Ok y) h k = faulty (λ x. P x.0 × Q x.1) f
  pair (Err f) (Err g) h k = faulty (λ x. P x.0 × Q x.1) _

pub when-held : (b : Bool) (f : CheckFault) → Gives (λ _. b ≡ true) (holds b f)
when-held true f = given (λ _. true ≡ true) tt refl
when-held false f = faulty (λ _. false ≡ true) _

pub when-found : {A : Type 0} (o : Option A) (f : CheckFault) → Gives (λ x. o ≡ Some x) (found o f)
when-found None f = faulty (λ x. None ≡ Some x) _
when-found (Some x) f = given (λ y. Some x ≡ Some y) x refl

pub anything : {A : Type 0} (c : Checked A) → Gives (λ _. Unit {0}) c
anything c = record { gives = λ x e. tt }
