-- The tests of names and types, and a map of objects after a change under one name.
use Rattle.std.proofs.Common.{◌≡◌, ℕ, ◌==◌, ◌&&◌, Bool, true, false, ◌⊎◌, inl, inr, Option, refl, sym, ap, subst, arith}
use Rattle.std.proofs.lemmas.Bool.Decides.{eqb_tells, nat_tests}
use Rattle.kt_types.specs.declared.kinds.Ty.{Ty}
use Rattle.kt_types.specs.declared.kinds.Ty.TheVariants as ty
use Rattle.kt_mem.specs.declared.memory.Name.{Name}
use Rattle.kt_mem.specs.declared.memory.Name.TheVariants.{Glob, Lit, Heap}
use Rattle.kt_mem.specs.Values.{name_eq, ty_eq}
use Rattle.kt_mem.specs.Memory.{Object, put}

eqb-refl : (n : ℕ) → (n == n) ≡ true
eqb-refl n = grind (arith, nat_tests)

eqb-true : (m n : ℕ) → (m == n) ≡ true → m ≡ n
eqb-true m n h = elim (eqb_tells m n) [ inl p ↦ p.1 | inr p ↦ cc (p.0, h) ]

both_true : (a b : Bool) → (a && b) ≡ true → (a ≡ true) × (b ≡ true)
both_true true b h = (refl, h)
both_true false b h = cc

pub name_eq-refl : (n : Name) → name_eq n n ≡ true
name_eq-refl (Glob i) = eqb-refl i
name_eq-refl (Lit v i) = rw (eqb-refl v, eqb-refl i)
name_eq-refl (Heap a) = eqb-refl a

pub name_eq-true : (n q : Name) → name_eq n q ≡ true → n ≡ q
name_eq-true (Glob i) (Glob j) h = ap Glob (eqb-true i j h)
name_eq-true (Lit v i) (Lit w j) h =
    let both = both_true (v == w) (i == j) h in
    let first = eqb-true v w both.0 in
    let second = eqb-true i j both.1 in
    cc
name_eq-true (Heap a) (Heap b) h = ap Heap (eqb-true a b h)
name_eq-true (Glob i) (Lit w j) h = cc
name_eq-true (Glob i) (Heap b) h = cc
name_eq-true (Lit v i) (Glob j) h = cc
name_eq-true (Lit v i) (Heap b) h = cc
name_eq-true (Heap a) (Glob j) h = cc
name_eq-true (Heap a) (Lit w j) h = cc

-- two names are one, or the test fails
pub same_name : (n q : Name) → (n ≡ q) ⊎ (name_eq n q ≡ false)
same_name n q =
    let split : (b : Bool) → name_eq n q ≡ b → (n ≡ q) ⊎ (name_eq n q ≡ false) =
    λ b. elim b as (λ b. name_eq n q ≡ b → (n ≡ q) ⊎ (name_eq n q ≡ false)) [ true ↦ λ h. inl (name_eq-true n q h) | false ↦ λ h. inr h ]
    in split (name_eq n q) refl

pub ty_eq-refl : (t : Ty) → ty_eq t t ≡ true
ty_eq-refl ty.Char = refl
ty_eq-refl ty.Int = refl
ty_eq-refl ty.Long = refl
ty_eq-refl ty.Mutex = refl
ty_eq-refl (ty.Struct i) = eqb-refl i
ty_eq-refl (ty.Array i n) = rw (eqb-refl i, eqb-refl n)
ty_eq-refl (ty.Ptr i) = eqb-refl i

pub ty_eq-true : (t u : Ty) → ty_eq t u ≡ true → t ≡ u
ty_eq-true ty.Char ty.Char h = refl
ty_eq-true ty.Int ty.Int h = refl
ty_eq-true ty.Long ty.Long h = refl
ty_eq-true ty.Mutex ty.Mutex h = refl
ty_eq-true (ty.Struct i) (ty.Struct j) h = ap ty.Struct (eqb-true i j h)
ty_eq-true (ty.Array i n) (ty.Array j m) h =
    let both = both_true (i == j) (n == m) h in
    let first = eqb-true i j both.0 in
    let second = eqb-true n m both.1 in
    cc
ty_eq-true (ty.Ptr i) (ty.Ptr j) h = ap ty.Ptr (eqb-true i j h)
ty_eq-true _ _ h = cc

-- ---- a map after a change

pub put-same : (at : Name → Option Object) (n : Name) (o : Option Object) → put at n o n ≡ o
unfolding put
put-same at n o = rw (name_eq-refl n)

pub put-other : (at : Name → Option Object) (n q : Name) (o : Option Object) → name_eq q n ≡ false → put at n o q ≡ at q
unfolding put
put-other at n q o h = rw h

-- what a test of both cases shows of a map after a change
pub put-cases : (P : Option Object → Type 0) (at : Name → Option Object) (n q : Name) (o : Option Object) → (q ≡ n → P o) → (name_eq q n ≡ false → P (at q)) → P (put at n o q)
put-cases P at n q o same other =
    elim (same_name q n) [ inl e ↦ subst (λ (r : Name). P (put at n o r)) (sym e) (subst P (sym (put-same at n o)) (same e)) | inr h ↦ subst P (sym (put-other at n q o h)) (other h) ]
