-- Declarations of locals.
use Rattle.std.proofs.Common.{nat_le, zero, suc, min, ◌≡◌, ◌==◌, ℕ, ◌+◌, ◌-◌, ◌≤◌, ◌<◌, Bool, true, false, List, [], ◌∷◌, ◌++◌, Option, None, Some, length, map, take, drop, get_or, refl, sym, ap, ◌∙◌, arith, rules, drop-cons, add-one}
use Rattle.std.specs.List.{list_any, position, position_from}
use Rattle.std.specs.Str.{bytes_eq}
use Rattle.std.specs.Global.{Vec}
use Rattle.std.proofs.lemmas.Cmp.{nat_list_eq_equiv}
use Rattle.std.proofs.lemmas.Iterator.Adapters.{position_from-zero}
use Rattle.std.proofs.lemmas.Bool.Decides.{nat_tests}
use Rattle.std.proofs.lemmas.List.{take_all}
use Rattle.kt_syntax.specs.declared.tree.LocalDeclarator.{LocalDeclarator}
use Rattle.kt_syntax.specs.Tree.{local_of}
use Rattle.kt_names.specs.declared.info.LocalInfo.{LocalInfo}
use Rattle.kt_names.specs.Uses.{stars_of}
use Rattle.kt_names.specs.Types.{number_of_struct}
use Rattle.kt_names.specs.Statements.{contains}
use Rattle.kt_names.specs.Scopes.{local_names}

-- ---- the number of a struct

names-flip : (a b : List ℕ) → bytes_eq a b ≡ bytes_eq b a
names-flip a b = nat_list_eq_equiv.symm a b

name-place : (n : ℕ) (keys : List (Vec ℕ)) (name : List ℕ) → position_from (λ m. bytes_eq m name) n (map (λ k. k.items) keys) ≡ position_from (λ k. bytes_eq name k.items) n keys
name-place n [] name = refl
name-place n (k ∷ keys) name = rw (names-flip k.items name, name-place (n + 1) keys name) refl

number-by : (keys : List (Vec ℕ)) (name : List ℕ) (o : Option ℕ) → o ≡ position (λ k. bytes_eq name k.items) keys
    → elim o as (λ _. ℕ) [ None ↦ 0 | (Some n) ↦ n ] ≡ number_of_struct (map (λ k. k.items) keys) name
number-by keys name o e =
    ap (λ (p : Option ℕ). elim p as (λ _. ℕ) [ None ↦ 0 | (Some n) ↦ n ]) (e ∙ position_from-zero (λ k. bytes_eq name k.items) keys ∙ sym (name-place 0 keys name))

pub struct-found : (keys : List (Vec ℕ)) (name : List ℕ) (n : ℕ) → Some n ≡ position (λ k. bytes_eq name k.items) keys → n ≡ number_of_struct (map (λ k. k.items) keys) name
struct-found keys name n e = number-by keys name (Some n) e

pub struct-missing : (keys : List (Vec ℕ)) (name : List ℕ) → None ≡ position (λ k. bytes_eq name k.items) keys → 0 ≡ number_of_struct (map (λ k. k.items) keys) name
struct-missing keys name e = number-by keys name None e

-- ---- declarators without stars

abbrev pub plain_in : List LocalDeclarator → Bool
plain_in ds = list_any (λ n. n == 0) (map (λ l. stars_of l.pointer) (map local_of ds))

module _ (ds : List LocalDeclarator) (i : ℕ) (d : LocalDeclarator) (within : i < length ds) (is : d ≡ get_or ds i d) where
  rest-is : drop i ds ≡ d ∷ drop (i + 1) ds
  rest-is = rw (drop-cons ds i d within, ← is, add-one) refl

  pub plain-here : stars_of d.pointer ≡ 0 → plain_in (drop i ds) ≡ plain_in ds → true ≡ plain_in ds
  plain-here e before = sym (ap plain_in rest-is ∙ rw e refl) ∙ before

  pub plain-past : (stars_of d.pointer == 0) ≡ false → plain_in (drop i ds) ≡ plain_in ds → plain_in (drop (i + 1) ds) ≡ plain_in ds
  plain-past e before = sym (ap plain_in rest-is ∙ rw e refl) ∙ before
