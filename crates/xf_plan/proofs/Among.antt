-- Names among lists of names.
use Rattle.std.specs.Prelude.{◌≡◌, ◌⊎◌, ◌||◌, Bool, true, false, List, [], ◌∷◌, ◌++◌, flat_map, refl}
use Rattle.std.proofs.Common.{inl, inr, subst}
use Rattle.kt_mem.specs.declared.memory.Name.{Name}
use Rattle.kt_mem.specs.Values.{name_eq}
use Rattle.kt_mem.proofs.Names.{name_eq-refl, name_eq-true}
use Rattle.xf_plan.specs.Reached.{is_among}

or-left : (a b : Bool) → a ≡ true → (a || b) ≡ true
or-left true b h = refl
or-left false b h = absurd cc

or-right : (a b : Bool) → b ≡ true → (a || b) ≡ true
or-right true b h = refl
or-right false b h = h

pub or-cases : (a b : Bool) → (a || b) ≡ true → (a ≡ true) ⊎ (b ≡ true)
or-cases true b h = inl refl
or-cases false b h = inr h

pub among-left : (xs ys : List Name) (n : Name) → is_among xs n ≡ true → is_among (xs ++ ys) n ≡ true
among-left [] ys n h = absurd cc
among-left (x ∷ xs) ys n h =
    elim (or-cases (name_eq n x) (is_among xs n) h) [
      | inl e ↦ or-left (name_eq n x) (is_among (xs ++ ys) n) e
      | inr k ↦ or-right (name_eq n x) (is_among (xs ++ ys) n) (among-left xs ys n k)
    ]

pub among-right : (xs ys : List Name) (n : Name) → is_among ys n ≡ true → is_among (xs ++ ys) n ≡ true
among-right [] ys n h = h
among-right (x ∷ xs) ys n h = or-right (name_eq n x) (is_among (xs ++ ys) n) (among-right xs ys n h)

pub among-cases : (xs ys : List Name) (n : Name) → is_among (xs ++ ys) n ≡ true → (is_among xs n ≡ true) ⊎ (is_among ys n ≡ true)
among-cases [] ys n h = inr h
among-cases (x ∷ xs) ys n h =
    elim (or-cases (name_eq n x) (is_among (xs ++ ys) n) h) [
      | inl e ↦ inl (or-left (name_eq n x) (is_among xs n) e)
      | inr k ↦ elim (among-cases xs ys n k) [ inl l ↦ inl (or-right (name_eq n x) (is_among xs n) l) | inr r ↦ inr r ]
    ]

-- what one of a list's elements gives is among what all of them give
pub among-flat : (f : Name → List Name) (xs : List Name) (a n : Name) → is_among xs a ≡ true → is_among (f a) n ≡ true →
    is_among (flat_map f xs) n ≡ true
among-flat f [] a n h k = absurd cc
among-flat f (x ∷ xs) a n h k =
    elim (or-cases (name_eq a x) (is_among xs a) h) [
      | inl e ↦ among-left (f x) (flat_map f xs) n (subst (λ b. is_among (f b) n ≡ true) (name_eq-true a x e) k)
      | inr l ↦ among-right (f x) (flat_map f xs) n (among-flat f xs a n l k)
    ]

-- and the other way round
pub record GivenBy (f : Name → List Name) (xs : List Name) (n : Name) : Type 0 where
  pub by : Name
  pub among : is_among xs by ≡ true
  pub gives : is_among (f by) n ≡ true

pub flat-given : (f : Name → List Name) (xs : List Name) (n : Name) → is_among (flat_map f xs) n ≡ true → GivenBy f xs n
flat-given f [] n h = absurd cc
flat-given f (x ∷ xs) n h =
    elim (among-cases (f x) (flat_map f xs) n h) [
      | inl k ↦ record { by = x; among = or-left (name_eq x x) (is_among xs x) (name_eq-refl x); gives = k }
      | inr k ↦ later (flat-given f xs n k)
    ]
  where
    later : GivenBy f xs n → GivenBy f (x ∷ xs) n
    later g = record { by = g.by; among = or-right (name_eq g.by x) (is_among xs g.by) g.among; gives = g.gives }
