-- A conditional is sound, and null where both of its arms are.
use Rattle.std.proofs.Common.{◌≡◌, ℕ, ◌==◌, ◌&&◌, ◌||◌, Bool, true, false, Option, Some, None, Result, Ok, Err, if◌then◌else◌, refl, ◌∙◌, subst, arith}
use Rattle.std.proofs.lemmas.Bool.Decides.{nat_tests}
use Rattle.kt_tree.specs.Tree.{Expression, Chosen}
use Rattle.kt_tree.specs.Kinds.{Scope, is_integer, is_pointer, is_scalar, common}
use Rattle.kt_tree.specs.Typed.{Of, if_so, is_choice}
use Rattle.kt_typing.specs.declared.fault.Fault.{Fault}
use Rattle.kt_typing.specs.declared.standing.Standing.{Standing}
use Rattle.kt_typing.specs.declared.standing.Standing.TheVariants as standing
use Rattle.kt_typing.specs.Environment.{Environment}
use Rattle.kt_typing.specs.Operands.{Operand, Value, valued, of_type, value, scalar_of, scalar}
use Rattle.kt_typing.specs.Rules.{given, with_value, with_two, is_null_itself, null_tree, null_beside, value_beside, choice_type, chosen, null_if, choice}
use Rattle.kt_typing.specs.Sound.{HasType, IsNullTree, IsSoundAs, IsSound}
use Rattle.kt_typing.proofs.SoundOperands.{IsOf, Sound, sound-err, sound-ok, sound-given, sound-with, sound-two, scalar-sound}
use Rattle.kt_typing.proofs.SoundRules.{beside-sound, chosen-kind}

same-self : (n : ℕ) → (n == n) ≡ true
same-self n = grind (arith, nat_tests)

or-right : (a b : Bool) → b ≡ true → (a || b) ≡ true
or-right true b h = refl
or-right false b h = h

module _ (s : Scope) where
  null-scalar : (what : Standing) (t : ℕ) (e : Expression) → IsSoundAs s what t e → is_null_itself what ≡ true → (w : Value) → scalar_of s what t e ≡ Some w → IsNullTree s w.tree
  null-scalar standing.Null t e h n w is = let same : of_type t e ≡ w = cc in subst (λ u. IsNullTree s u.tree) same h.1
  null-scalar standing.Zero t e h n w is = absurd cc
  null-scalar standing.Value t e h n w is = absurd cc
  null-scalar (standing.Local x) t e h n w is = absurd cc
  null-scalar standing.Cell t e h n w is = absurd cc
  null-scalar standing.Whole t e h n w is = absurd cc
  null-scalar standing.Elements t e h n w is = absurd cc
  null-scalar (standing.Size at) t e h n w is = absurd cc
  null-scalar (standing.Product c) t e h n w is = absurd cc
  null-scalar standing.Nothing t e h n w is = absurd cc
  null-scalar (standing.Entry f) t e h n w is = absurd cc

  null-beside-null : (x y : Operand) → IsSound s x → is_null_itself x.standing ≡ true → is_null_itself y.standing ≡ true → (w : Value) → value_beside s x y ≡ Some w → IsNullTree s w.tree
  null-beside-null x y h n m w is = by (is_null_itself x.standing) n (is_null_itself y.standing) m is
    where
      by : (b : Bool) → b ≡ true → (c : Bool) → c ≡ true
          → (if b then (if c then scalar s x else null_beside s x (value s y)) else value s x) ≡ Some w → IsNullTree s w.tree
      by true p true q e = null-scalar x.standing x.ty x.tree h n w e
      by false p c q e = absurd cc
      by true p false q e = absurd cc

  -- a pointer type is that of a choice between two values of it
  pointer-choice : (t : ℕ) → is_pointer s t ≡ true → is_choice s t t t ≡ true
  pointer-choice t p = or-right (is_integer s t && is_integer s t && (common t t == t)) (is_pointer s t && (t == t) && (t == t)) (rw p (rw (same-self t) refl))

  null-chosen : (t : ℕ) (c a b : Value) → IsOf s c → is_scalar s c.ty ≡ true → IsNullTree s a.tree → IsNullTree s b.tree → IsNullTree s (Chosen c.tree t a.tree b.tree)
  null-chosen t c a b h sc n m d p =
      chosen-kind s d c (of_type d (null_tree d a.tree)) (of_type d (null_tree d b.tree)) h (n d p) (m d p) ∙ rw sc (rw (pointer-choice d p) refl)

module _ (env : Environment) where
  chosen-sound : (at : ℕ) (c a b : Value) → IsOf env.scope c → IsOf env.scope a → IsOf env.scope b → Sound env.scope (chosen env at c a b)
  chosen-sound at c a b h k l = sound-given env.scope at _ _ (chosen-kind env.scope (choice_type env.scope a.ty b.ty) c a b h k l)

  chosen-null : (at : ℕ) (c a b : Value) → IsOf env.scope c → IsOf env.scope a → IsOf env.scope b → IsNullTree env.scope a.tree → IsNullTree env.scope b.tree
      → (x : Operand) → chosen env at c a b ≡ Ok x → HasType env.scope x.ty x.tree × IsNullTree env.scope x.tree
  chosen-null at c a b h k l n m x is = by (is_scalar env.scope c.ty) refl (is_choice env.scope t a.ty b.ty) refl is
    where
      t : ℕ
      t = choice_type env.scope a.ty b.ty

      by : (sc : Bool) → is_scalar env.scope c.ty ≡ sc → (ch : Bool) → is_choice env.scope (choice_type env.scope a.ty b.ty) a.ty b.ty ≡ ch
          → given at (Chosen c.tree (choice_type env.scope a.ty b.ty) a.tree b.tree) (if_so (sc && ch) (Of (choice_type env.scope a.ty b.ty))) ≡ Ok x
          → HasType env.scope x.ty x.tree × IsNullTree env.scope x.tree
      by true p true q e =
          let same : valued at (choice_type env.scope a.ty b.ty) (Chosen c.tree (choice_type env.scope a.ty b.ty) a.tree b.tree) ≡ x = cc in
          subst (λ y. HasType env.scope y.ty y.tree × IsNullTree env.scope y.tree) same
          (chosen-kind env.scope (choice_type env.scope a.ty b.ty) c a b h k l ∙ rw p (rw q refl), null-chosen env.scope (choice_type env.scope a.ty b.ty) c a b h p n m)
      by true p false q e = absurd cc
      by false p ch q e = absurd cc

  null-if-sound : (b : Bool) (r : Result Operand Fault) → Sound env.scope r
      → (b ≡ true → (x : Operand) → r ≡ Ok x → HasType env.scope x.ty x.tree × IsNullTree env.scope x.tree) → Sound env.scope (null_if b r)
  null-if-sound b (Err f) h n = sound-err env.scope f
  null-if-sound true (Ok x) h n = sound-ok env.scope _ (n refl x refl)
  null-if-sound false (Ok x) h n = sound-ok env.scope _ (h x refl)

  arms-null : (at : ℕ) (o p q : Option Value) (x : Operand)
      → ((v : Value) → o ≡ Some v → IsOf env.scope v)
      → ((v : Value) → p ≡ Some v → IsOf env.scope v × IsNullTree env.scope v.tree)
      → ((v : Value) → q ≡ Some v → IsOf env.scope v × IsNullTree env.scope v.tree)
      → with_value at o (λ v. with_two at p q (chosen env at v)) ≡ Ok x → HasType env.scope x.ty x.tree × IsNullTree env.scope x.tree
  arms-null at None p q x h k l is = absurd cc
  arms-null at (Some c) None None x h k l is = absurd cc
  arms-null at (Some c) None (Some b) x h k l is = absurd cc
  arms-null at (Some c) (Some a) None x h k l is = absurd cc
  arms-null at (Some c) (Some a) (Some b) x h k l is = chosen-null at c a b (h c refl) (k a refl).0 (l b refl).0 (k a refl).1 (l b refl).1 x is

  both-of : (a b : Bool) → (a && b) ≡ true → (a ≡ true) × (b ≡ true)
  both-of true true e = (refl, refl)
  both-of true false e = absurd cc
  both-of false b e = absurd cc

  pub choice-sound : (at : ℕ) (c a b : Operand) → IsSound env.scope c → IsSound env.scope a → IsSound env.scope b → Sound env.scope (choice env at c a b)
  choice-sound at c a b h k l = null-if-sound (is_null_itself a.standing && is_null_itself b.standing) _
      (sound-with env.scope at (scalar env.scope c) _ (λ v vs. sound-two env.scope at _ _ _
      (λ p q ps qs. chosen-sound at v p q (scalar-sound env.scope c h v vs) (beside-sound env.scope a b k p ps) (beside-sound env.scope b a l q qs))))
      (λ n x is. let (na, nb) = both-of (is_null_itself a.standing) (is_null_itself b.standing) n in
      arms-null at (scalar env.scope c) (value_beside env.scope a b) (value_beside env.scope b a) x (scalar-sound env.scope c h)
      (λ v vs. (beside-sound env.scope a b k v vs, null-beside-null env.scope a b k na nb v vs))
      (λ v vs. (beside-sound env.scope b a l v vs, null-beside-null env.scope b a l nb na v vs)) is)
