-- Types of expressions at their places in the version's table.
use Rattle.std.proofs.Common.{◌≡◌, ℕ, zero, suc, ◌==◌, ◌&&◌, true, ◌++◌, Some, refl, sym, ap, ◌∙◌, subst, inl, inr}
use Rattle.std.proofs.lemmas.Bool.{and_parts, and_from, or_cases, or_left, or_right, false≢true}
use Rattle.std.proofs.lemmas.Bool.Decides.{Decides-eqb}
use lib.Dec.{eqb-suc-zero}
use Rattle.kt_types.specs.declared.kinds.Ty.TheVariants as ty
use Rattle.kt_tree.specs.Kinds as kinds
use Rattle.kt_tree.specs.Kinds.{Scope, type_at, points_to}
use Rattle.kt_names.specs.declared.ctype.Root.{Root}
use Rattle.kt_names.specs.declared.ctype.Root.TheVariants as root
use Rattle.kt_names.specs.declared.ctype.CType.{CType}
use Rattle.kt_names.specs.Types.{char, int, long, mutex, pointer_to, pointee, is_integer, is_pointer, is_scalar, same_root, same_ctype, common, root_type, place_in, scalars}
use Rattle.kt_names.specs.Rules.{comparable}
use Rattle.kt_names.specs.Environment.{Environment}
use Rattle.kt_terms.proofs.Agrees.{Agrees, Has, Holds}

-- ---- two types are one

pub same-number : (a b : ℕ) → (a == b) ≡ true → a ≡ b
same-number a b = (Decides-eqb a b).0

pub number-itself : (a : ℕ) → (a == a) ≡ true
number-itself a = (Decides-eqb a a).1 refl

same-roots : (a b : Root) → same_root a b ≡ true → a ≡ b
same-roots root.Char root.Char e = refl
same-roots root.Int root.Int e = refl
same-roots root.Long root.Long e = refl
same-roots root.Mutex root.Mutex e = refl
same-roots (root.Struct s) (root.Struct r) e = ap root.Struct (same-number s r e)
same-roots _ _ e = absurd (false≢true e)

ctypes : (a b : CType) → a.root ≡ b.root → a.stars ≡ b.stars → a ≡ b
ctypes a b e f = λ i. record { root = e i; stars = f i }

pub same-ctypes : (a b : CType) → same_ctype a b ≡ true → a ≡ b
same-ctypes a b e =
    let parts = and_parts (same_root a.root b.root) (a.stars == b.stars) e in
    ctypes a b (same-roots a.root b.root parts.0) (same-number a.stars b.stars parts.1)

-- ---- integers and pointers

pub data Integer : CType → Type 0 where
  of_char : Integer char
  of_int : Integer int
  of_long : Integer long

integer-root : (r : Root) (n : ℕ) → is_integer (record { root = r; stars = n }) ≡ true → Integer (record { root = r; stars = n })
integer-root root.Char zero e = of_char
integer-root root.Int zero e = of_int
integer-root root.Long zero e = of_long
integer-root root.Mutex zero e = absurd (false≢true e)
integer-root (root.Struct s) zero e = absurd (false≢true e)
integer-root r (suc n) e = absurd (false≢true (sym (rw (eqb-suc-zero n)) ∙ e))

pub integer-of : (t : CType) → is_integer t ≡ true → Integer t
integer-of t e = integer-root t.root t.stars e

pub is-integer : {t : CType} → Integer t → is_integer t ≡ true
is-integer of_char = refl
is-integer of_int = refl
is-integer of_long = refl

pub pointer-is : (t : CType) → is_pointer (pointer_to t) ≡ true
pointer-is t = rw (eqb-suc-zero t.stars)

pub pointer-scalar : (t : CType) → is_scalar (pointer_to t) ≡ true
pointer-scalar t = rw (eqb-suc-zero t.stars)

pointer-by : (r : Root) (n : ℕ) → is_pointer (record { root = r; stars = n }) ≡ true → (e : CType) × (record { root = r; stars = n } ≡ pointer_to e)
pointer-by r zero e = absurd (false≢true e)
pointer-by r (suc n) e = (record { root = r; stars = n }, refl)

-- a pointer points to something
pub pointer-of : (t : CType) → is_pointer t ≡ true → (e : CType) × (t ≡ pointer_to e)
pointer-of t e = pointer-by t.root t.stars e

pointee-by : (r : Root) (n : ℕ) (e : CType) → pointee (record { root = r; stars = n }) ≡ Some e → record { root = r; stars = n } ≡ pointer_to e
pointee-by r zero e is = absurd cc
pointee-by r (suc n) e is = ap pointer_to cc

pub pointee-of : (t e : CType) → pointee t ≡ Some e → t ≡ pointer_to e
pointee-of t e is = pointee-by t.root t.stars e is

-- ---- places

module _ (env : Environment) (s : Scope) (agrees : Agrees env s) where
  pub place-is : (t : CType) → env.place t ≡ place_in s.types.types t
  place-is t = ap (λ (f : CType → ℕ). f t) agrees.place

  pub at-pointer : (t : CType) → Has s.types.types (pointer_to t) → type_at s (env.place (pointer_to t)) ≡ Some (ty.Ptr (env.place t))
  at-pointer t has = rw (place-is (pointer_to t), place-is t) has.0

  pub pointed : (t : CType) → Has s.types.types (pointer_to t) → Has s.types.types t
  pointed t has = has.1

  pub points : (t : CType) → Has s.types.types (pointer_to t) → points_to s (env.place (pointer_to t)) (env.place t) ≡ true
  points t has = rw (at-pointer t has) (number-itself (env.place t))

  pub at-root : (r : Root) → Has s.types.types (record { root = r; stars = 0 }) → type_at s (env.place (record { root = r; stars = 0 })) ≡ Some (root_type r)
  at-root r has = rw (place-is (record { root = r; stars = 0 })) has

  place-scalar : (t : CType) → env.place t ≡ place_in (scalars ++ agrees.scalars.0) t
  place-scalar t = place-is t ∙ ap (λ ts. place_in ts t) agrees.scalars.1

  pub char-place : env.place char ≡ 0
  char-place = place-scalar char

  pub int-place : env.place int ≡ 1
  int-place = place-scalar int

  pub long-place : env.place long ≡ 2
  long-place = place-scalar long

  pub mutex-place : env.place mutex ≡ 3
  mutex-place = place-scalar mutex

  pub has-integer : {t : CType} → Integer t → Has s.types.types t
  has-integer of_char = rw (agrees.scalars.1) refl
  has-integer of_int = rw (agrees.scalars.1) refl
  has-integer of_long = rw (agrees.scalars.1) refl

  pub integer-there : {t : CType} → Integer t → kinds.is_integer s (env.place t) ≡ true
  integer-there of_char = rw (at-root root.Char (has-integer of_char)) refl
  integer-there of_int = rw (at-root root.Int (has-integer of_int)) refl
  integer-there of_long = rw (at-root root.Long (has-integer of_long)) refl

  pub pointer-there : (t : CType) → Has s.types.types (pointer_to t) → kinds.is_pointer s (env.place (pointer_to t)) ≡ true
  pointer-there t has = rw (at-pointer t has) refl

  -- what holds of each pointer holds of a type that is one
  pub by-pointer : (P : CType → Type 0) (t : CType) → is_pointer t ≡ true → ((e : CType) → P (pointer_to e)) → P t
  by-pointer P t is k = let (e, same) = pointer-of t is in subst P (sym same) (k e)

  pub is-pointer-there : (t : CType) → Has s.types.types t → is_pointer t ≡ true → kinds.is_pointer s (env.place t) ≡ true
  is-pointer-there t has is = by-pointer (λ p. Has s.types.types p → kinds.is_pointer s (env.place p) ≡ true) t is pointer-there has

  pub scalar-there : (t : CType) → Holds s.types.types t → kinds.is_scalar s (env.place t) ≡ true
  scalar-there t h = elim (or_cases (is_integer t) (is_pointer t) h.1) as (λ _. kinds.is_scalar s (env.place t) ≡ true) [
    | inl i ↦ or_left _ _ (integer-there (integer-of t i))
    | inr p ↦ or_right _ _ (is-pointer-there t h.0 p)
  ]

  pub holds-integer : {t : CType} → Integer t → Holds s.types.types t
  holds-integer {t} i = (has-integer i, or_left (is_integer t) (is_pointer t) (is-integer i))

  pub common-there : {a b : CType} → Integer a → Integer b → kinds.common (env.place a) (env.place b) ≡ env.place (common a b)
  common-there of_char of_char = simp (char-place, int-place)
  common-there of_char of_int = simp (char-place, int-place)
  common-there of_char of_long = simp (char-place, long-place)
  common-there of_int of_char = simp (char-place, int-place)
  common-there of_int of_int = simp (int-place)
  common-there of_int of_long = simp (int-place, long-place)
  common-there of_long of_char = simp (char-place, long-place)
  common-there of_long of_int = simp (int-place, long-place)
  common-there of_long of_long = simp (long-place)

  pub common-is : {a b : CType} → Integer a → Integer b → (kinds.common (env.place a) (env.place b) == env.place (common a b)) ≡ true
  common-is {a} {b} i j = rw (common-there i j) (number-itself (env.place (common a b)))

  pub comparable-there : (a b : CType) → Has s.types.types a → comparable a b ≡ true → kinds.is_comparable s (env.place a) (env.place b) ≡ true
  comparable-there a b has c = elim (or_cases (is_integer a && is_integer b) (is_pointer a && same_ctype a b) c) as (λ _. kinds.is_comparable s (env.place a) (env.place b) ≡ true) [
    | inl i ↦
        let parts = and_parts (is_integer a) (is_integer b) i in
        or_left _ _ (and_from _ _ (integer-there (integer-of a parts.0)) (integer-there (integer-of b parts.1)))
    | inr p ↦
        let parts = and_parts (is_pointer a) (same_ctype a b) p in
        let same : env.place a ≡ env.place b = ap env.place (same-ctypes a b parts.1) in
        or_right _ _ (and_from _ _ (is-pointer-there a has parts.0) ((Decides-eqb (env.place a) (env.place b)).1 same))
  ]

pub integer-common : {a b : CType} → Integer a → Integer b → Integer (common a b)
integer-common of_char of_char = of_int
integer-common of_char of_int = of_int
integer-common of_char of_long = of_long
integer-common of_int of_char = of_int
integer-common of_int of_int = of_int
integer-common of_int of_long = of_long
integer-common of_long of_char = of_long
integer-common of_long of_int = of_long
integer-common of_long of_long = of_long
