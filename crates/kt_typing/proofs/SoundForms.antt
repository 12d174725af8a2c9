-- A form is sound where its parts and its rule are.
use Rattle.std.proofs.Common.{◌≡◌, ℕ, List, [], ◌∷◌, Option, Some, None, Result, sym, subst}
use Rattle.std.specs.List.{AllByRecursion}
use Rattle.kt_tree.specs.Kinds.{Scope}
use Rattle.kt_typing.specs.declared.fault.Fault.{Fault}
use Rattle.kt_typing.specs.Calls.{leaf}
use Rattle.kt_typing.specs.Forms.{Form, Ruled, Parts, NoPart, Part, fitting, typed, operands}
use Rattle.kt_typing.specs.Operands.{Operand}
use Rattle.kt_typing.specs.Sound.{IsSound}
use Rattle.kt_typing.specs.Terms.{on_one, on_two, on_three}
use Rattle.kt_typing.proofs.Exact.{ruled-there, fitting-there, both-there}
use Rattle.kt_typing.proofs.SoundOperands.{Sound, sound-err}

module _ (s : Scope) where
  pub ruled-sound : (always : Option Fault) (ps : Parts) (rule : List Operand → Result Operand Fault)
      → ((xs : List Operand) → operands ps ≡ Some xs → AllByRecursion (IsSound s) xs) → ((xs : List Operand) → AllByRecursion (IsSound s) xs → Sound s (rule xs))
      → (x : Operand) → typed (Ruled always ps rule) ≡ Some x → IsSound s x
  ruled-sound always ps rule h k x e =
      let (none, xs, are, is) = ruled-there always rule (operands ps) x e in
      k xs (h xs are) x is

  pub no-part-sound : (xs : List Operand) → operands NoPart ≡ Some xs → AllByRecursion (IsSound s) xs
  no-part-sound xs e = let same : [] ≡ xs = cc in subst (λ ys. AllByRecursion (IsSound s) ys) same tt

  pub part-sound : (wrong : Operand → Option Fault) (e : Form) (rest : Parts)
      → ((x : Operand) → typed e ≡ Some x → IsSound s x) → ((xs : List Operand) → operands rest ≡ Some xs → AllByRecursion (IsSound s) xs)
      → (xs : List Operand) → operands (Part wrong e rest) ≡ Some xs → AllByRecursion (IsSound s) xs
  part-sound wrong a rest h k xs e =
      let (x, ys, fits, are, same) = both-there (fitting wrong (typed a)) (operands rest) xs e in
      let (is, right) = fitting-there wrong (typed a) x fits in
      subst (λ zs. AllByRecursion (IsSound s) zs) (sym same) (h x is, k ys are)

  pub leaf-sound : (r : Result Operand Fault) → Sound s r → (x : Operand) → typed (leaf r) ≡ Some x → IsSound s x
  leaf-sound r h x e = ruled-sound None NoPart (λ xs. r) no-part-sound (λ xs all. h) x e

  pub one-sound : (at : ℕ) (rule : Operand → Result Operand Fault) → ((x : Operand) → IsSound s x → Sound s (rule x))
      → (xs : List Operand) → AllByRecursion (IsSound s) xs → Sound s (on_one at rule xs)
  one-sound at rule h [] all = sound-err s _
  one-sound at rule h (x ∷ []) all = h x all.0
  one-sound at rule h (x ∷ y ∷ xs) all = sound-err s _

  pub two-sound : (at : ℕ) (rule : Operand → Operand → Result Operand Fault) → ((x y : Operand) → IsSound s x → IsSound s y → Sound s (rule x y))
      → (xs : List Operand) → AllByRecursion (IsSound s) xs → Sound s (on_two at rule xs)
  two-sound at rule h [] all = sound-err s _
  two-sound at rule h (x ∷ []) all = sound-err s _
  two-sound at rule h (x ∷ y ∷ []) all = h x y all.0 all.1.0
  two-sound at rule h (x ∷ y ∷ z ∷ xs) all = sound-err s _

  pub three-sound : (at : ℕ) (rule : Operand → Operand → Operand → Result Operand Fault) → ((x y z : Operand) → IsSound s x → IsSound s y → IsSound s z → Sound s (rule x y z))
      → (xs : List Operand) → AllByRecursion (IsSound s) xs → Sound s (on_three at rule xs)
  three-sound at rule h [] all = sound-err s _
  three-sound at rule h (x ∷ []) all = sound-err s _
  three-sound at rule h (x ∷ y ∷ []) all = sound-err s _
  three-sound at rule h (x ∷ y ∷ z ∷ []) all = h x y z all.0 all.1.0 all.1.1.0
  three-sound at rule h (x ∷ y ∷ z ∷ w ∷ xs) all = sound-err s _
