-- Names in lists and in tables.
use Rattle.std.proofs.Common.{if◌then◌else◌, ◌≡◌, ℕ, ◌+◌, ◌||◌, List, [], ◌∷◌, map, Option, None, Some, refl, ap, ◌∙◌}
use Rattle.std.specs.List.{position, position_from, list_any}
use Rattle.std.specs.Str.{bytes_eq}
use Rattle.std.specs.Global.{Vec}
use Rattle.std.proofs.lemmas.Cmp.{nat_list_eq_equiv}
use Rattle.std.proofs.lemmas.Iterator.Adapters.{position_from-zero}
use Rattle.kt_names.specs.Types.{number_of_struct}

bytes-flip : (a b : List ℕ) → bytes_eq a b ≡ bytes_eq b a
bytes-flip a b = nat_list_eq_equiv.symm a b

names-position : (name : List ℕ) (n : ℕ) (ks : List (Vec ℕ)) → position_from (λ k. bytes_eq name k.items) n ks ≡ position_from (λ m. bytes_eq m name) n (map (λ k. k.items) ks)
names-position name n [] = refl
names-position name n (k ∷ ks) = λ i. if bytes-flip name k.items i then Some n else names-position name (n + 1) ks i

names-place : (name : List ℕ) (ks : List (Vec ℕ)) → elim (position (λ k. bytes_eq name k.items) ks) as (λ _. ℕ) [ None ↦ 0 | (Some n) ↦ n ] ≡ number_of_struct (map (λ k. k.items) ks) name
names-place name ks = ap (λ (o : Option ℕ). elim o as (λ _. ℕ) [ None ↦ 0 | (Some n) ↦ n ]) (position_from-zero (λ k. bytes_eq name k.items) ks ∙ names-position name 0 ks)

pub struct-number : (name : List ℕ) (ks : List (Vec ℕ)) (n : ℕ) → Some n ≡ position (λ k. bytes_eq name k.items) ks → n ≡ number_of_struct (map (λ k. k.items) ks) name
struct-number name ks n e = ap (λ (o : Option ℕ). elim o as (λ _. ℕ) [ None ↦ 0 | (Some n) ↦ n ]) e ∙ names-place name ks

pub struct-unnamed : (name : List ℕ) (ks : List (Vec ℕ)) → None ≡ position (λ k. bytes_eq name k.items) ks → 0 ≡ number_of_struct (map (λ k. k.items) ks) name
struct-unnamed name ks e = ap (λ (o : Option ℕ). elim o as (λ _. ℕ) [ None ↦ 0 | (Some n) ↦ n ]) e ∙ names-place name ks

pub names-any : (name : List ℕ) (ks : List (Vec ℕ)) → list_any (λ k. bytes_eq name k.items) ks ≡ list_any (λ m. bytes_eq m name) (map (λ k. k.items) ks)
names-any name [] = refl
names-any name (k ∷ ks) = λ i. bytes-flip name k.items i || names-any name ks i
