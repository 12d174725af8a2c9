-- Look-ups in tables and maps against those in lists.
use Rattle.std.proofs.Common.{if◌then◌else◌, zero, suc, ◌≡◌, ◌==◌, ℕ, ◌+◌, ◌-◌, ◌≤◌, ◌<◌, Bool, true, false, cond, List, [], ◌∷◌, ◌++◌, length, map, take, get_or, slice_get, subst, Option, None, Some, refl, sym, ap, ◌∙◌, arith, rules}
use Rattle.std.specs.List.{position, position_from, IsDistinct, AllByRecursion}
use Rattle.std.specs.Map.{lookup, keys_of}
use Rattle.std.specs.Str.{bytes_eq}
use Rattle.std.specs.Global.{Vec}
use Rattle.std.proofs.lemmas.Option.{none-some, get_or_from_slice_get}
use Rattle.std.proofs.lemmas.List.Quantifiers.{position-Some}
use Rattle.std.specs.Option.{option_map}
use Rattle.std.proofs.lemmas.Bool.Decides.{nat_tests, Decides-eqb}
use Rattle.std.proofs.lemmas.Cmp.{nat_list_eq_equiv}
use Rattle.std.proofs.lemmas.Slice.Eq.{bytes_eq-Decides}
use Rattle.std.proofs.lemmas.Iterator.Adapters.{position_from-zero}
use Rattle.std.proofs.lemmas.Map.Keys.{IsDistinct-head, IsDistinct-tail}
use Rattle.kt_types.specs.declared.kinds.Ty.{Ty}
use Rattle.kt_types.specs.contracts.kinds.TyPartialEq.TheImpl.{eq-value}
use Rattle.kt_names.specs.declared.info.StructInfo.{StructInfo}
use Rattle.kt_names.specs.declared.info.FieldInfo.{FieldInfo}
use Rattle.kt_names.specs.Types.{same_type, place_of_type, place_by}
use Rattle.kt_names.specs.Environment.{FieldOf, Found, field_from, struct_numbered, Struct}
use Rattle.kt_names.specs.Views.{latest_first, struct_of}

-- ---- types

pub same-type : (t u : Ty) → eq-value.it t u ≡ same_type t u
same-type t u = search rules

type-place : (types : List Ty) (t : Ty) → elim (position (eq-value.it t) types) as (λ _. ℕ) [ None ↦ 0 | (Some n) ↦ n ] ≡ place_of_type types t
type-place types t =
    ap (λ (test : Ty → Bool). elim (position test types) as (λ _. ℕ) [ None ↦ 0 | (Some n) ↦ n ]) (λ i u. same-type t u i)
    ∙ ap (λ (o : Option ℕ). elim o as (λ _. ℕ) [ None ↦ 0 | (Some n) ↦ n ]) (position_from-zero (same_type t) types)

pub type-found : (types : List Ty) (t : Ty) (n : ℕ) → Some n ≡ position (eq-value.it t) types → n ≡ place_of_type types t
type-found types t n e = ap (λ (o : Option ℕ). elim o as (λ _. ℕ) [ None ↦ 0 | (Some n) ↦ n ]) e ∙ type-place types t

pub type-missing : (types : List Ty) (t : Ty) → None ≡ position (eq-value.it t) types → 0 ≡ place_of_type types t
type-missing types t e = ap (λ (o : Option ℕ). elim o as (λ _. ℕ) [ None ↦ 0 | (Some n) ↦ n ]) e ∙ type-place types t

-- ---- names

bytes-same : (a b : List ℕ) → bytes_eq a b ≡ true → a ≡ b
bytes-same a b e = (bytes_eq-Decides a b).0 e

bytes-flip : (a b : List ℕ) → bytes_eq a b ≡ bytes_eq b a
bytes-flip a b = nat_list_eq_equiv.symm a b

-- ---- names in tables

module _ (name : List ℕ) where
  names-by : (n : ℕ) (keys : List (Vec ℕ)) → position_from (λ k. bytes_eq name k.items) n keys ≡ position_from (λ m. bytes_eq m name) n (map (λ k. k.items) keys)
  names-by n [] = refl
  names-by n (k ∷ keys) = by (bytes_eq name k.items) refl (names-by (n + 1) keys)
    where
      by : (b : Bool) → bytes_eq name k.items ≡ b → position_from (λ k. bytes_eq name k.items) (n + 1) keys ≡ position_from (λ m. bytes_eq m name) (n + 1) (map (λ k. k.items) keys)
          → position_from (λ k. bytes_eq name k.items) n (k ∷ keys) ≡ position_from (λ m. bytes_eq m name) n (map (λ k. k.items) (k ∷ keys))
      by true t later = rw (bytes-flip k.items name, t) refl
      by false t later = rw (bytes-flip k.items name, t) later

  pub name-place : (keys : List (Vec ℕ)) (o : Option ℕ) → o ≡ position (λ k. bytes_eq name k.items) keys
      → elim o as (λ _. ℕ) [ None ↦ 0 | (Some n) ↦ n ] ≡ place_by (λ m. bytes_eq m name) (map (λ k. k.items) keys)
  name-place keys o e =
      ap (λ (p : Option ℕ). elim p as (λ _. ℕ) [ None ↦ 0 | (Some n) ↦ n ]) (e ∙ position_from-zero _ keys ∙ names-by 0 keys)

-- ---- fields

abbrev field_list : List (Vec ℕ × FieldInfo) → List FieldOf
field_list es = map (λ e. record { name = e.0.items; ty = e.1.ty; array = e.1.array }) es

abbrev found_at : List ℕ → ℕ → FieldInfo → Found
found_at name n f = record { index = n; field = record { name = name; ty = f.ty; array = f.array } }

found-here : (name other : List ℕ) (n i : ℕ) (f g : FieldInfo) (rest : Option Found) → bytes_eq name other ≡ true → Some n ≡ Some i → Some f ≡ Some g
    → cond (bytes_eq other name) (Some (found_at other n f)) rest ≡ Some (found_at name i g)
found-here name other n i f g rest e at is =
    let same : other ≡ name = sym (bytes-same name other e) in
    let index : n ≡ i = cc in
    let field : f ≡ g = cc in
    rw (bytes-flip other name, e, same, index, field) refl

module _ (name : List ℕ) where
  field-found : (n : ℕ) (es : List (Vec ℕ × FieldInfo)) (i : ℕ) (f : FieldInfo) → position_from (λ k. bytes_eq name k.items) n (keys_of es) ≡ Some i → lookup (λ k. bytes_eq name k.items) es ≡ Some f
      → field_from n (field_list es) name ≡ Some (found_at name i f)
  field-found n [] i f at is = absurd cc
  field-found n (e ∷ es) i f at is = by (bytes_eq name e.0.items) refl (field-found (n + 1) es i f)
    where
      by : (b : Bool) → bytes_eq name e.0.items ≡ b → (position_from (λ k. bytes_eq name k.items) (n + 1) (keys_of es) ≡ Some i → lookup (λ k. bytes_eq name k.items) es ≡ Some f → field_from (n + 1) (field_list es) name ≡ Some (found_at name i f))
          → field_from n (field_list (e ∷ es)) name ≡ Some (found_at name i f)
      by true t later = found-here name e.0.items n i e.1 f (field_from (n + 1) (field_list es) name) t (rw t at at) (rw t at is)
      by false t later = rw (bytes-flip e.0.items name, t) (later (rw t at at) (rw t at is))

  field-missing : (n : ℕ) (es : List (Vec ℕ × FieldInfo)) → position_from (λ k. bytes_eq name k.items) n (keys_of es) ≡ None → field_from n (field_list es) name ≡ None
  field-missing n [] at = refl
  field-missing n (e ∷ es) at = by (bytes_eq name e.0.items) refl (field-missing (n + 1) es)
    where
      by : (b : Bool) → bytes_eq name e.0.items ≡ b → (position_from (λ k. bytes_eq name k.items) (n + 1) (keys_of es) ≡ None → field_from (n + 1) (field_list es) name ≡ None) → field_from n (field_list (e ∷ es)) name ≡ None
      by true t later = absurd (none-some n (sym (rw t at at)))
      by false t later = rw (bytes-flip e.0.items name, t) (later (rw t at at))

  pub field-at : (es : List (Vec ℕ × FieldInfo)) (i : ℕ) (f : FieldInfo) → Some i ≡ position (λ k. bytes_eq name k.items) (keys_of es) → Some f ≡ lookup (λ k. bytes_eq name k.items) es
      → Some (found_at name i f) ≡ field_from 0 (field_list es) name
  field-at es i f at is = sym (field-found 0 es i f (sym (at ∙ position_from-zero _ (keys_of es))) (sym is))

  pub field-none : (es : List (Vec ℕ × FieldInfo)) → None ≡ position (λ k. bytes_eq name k.items) (keys_of es) → None ≡ field_from 0 (field_list es) name
  field-none es at = sym (field-missing 0 es (sym (at ∙ position_from-zero _ (keys_of es))))

-- ---- structs

abbrev pub or_else : {A : Type 0} → Option A → Option A → Option A
or_else (Some x) y = Some x
or_else None y = y

abbrev pub tested : ℕ → ℕ × StructInfo → Option Struct
tested s e = if e.0 == s then Some (struct_of e) else None

module _ (s : ℕ) where
  pub struct-push : (xs : List (ℕ × StructInfo)) (e : ℕ × StructInfo) → struct_numbered (map struct_of (xs ++ e ∷ [])) s ≡ or_else (struct_numbered (map struct_of xs) s) (tested s e)
  struct-push [] e = refl
  struct-push (x ∷ xs) e = by (x.0 == s) refl (struct-push xs e)
    where
      by : (b : Bool) → (x.0 == s) ≡ b → struct_numbered (map struct_of (xs ++ e ∷ [])) s ≡ or_else (struct_numbered (map struct_of xs) s) (tested s e)
          → struct_numbered (map struct_of (x ∷ (xs ++ e ∷ []))) s ≡ or_else (struct_numbered (map struct_of (x ∷ xs)) s) (tested s e)
      by true t later = rw t refl
      by false t later = rw t later

  flip : (x : ℕ) → (s == x) ≡ false → (x == s) ≡ false
  flip x e = grind (arith, nat_tests)

  struct-absent : (es : List (ℕ × StructInfo)) → AllByRecursion (λ k. (s == k) ≡ false) (keys_of es) → struct_numbered (map struct_of (latest_first es)) s ≡ None
  struct-absent [] h = refl
  struct-absent (e ∷ es) h = rw (struct-push (latest_first es) e, struct-absent es h.1, flip e.0 h.0) refl

  struct-at : (es : List (ℕ × StructInfo)) (i : ℕ) (e : ℕ × StructInfo) → slice_get es i ≡ Some e → s ≡ e.0 → IsDistinct ◌==◌ (keys_of es) → struct_numbered (map struct_of (latest_first es)) s ≡ Some (struct_of e)
  struct-at [] i e at is apart = absurd (none-some e at)
  struct-at (x ∷ es) zero e at is apart =
      let same : x ≡ e = cc in
      let others : AllByRecursion (λ k. (s == k) ≡ false) (keys_of es) = subst (λ n. AllByRecursion (λ k. (n == k) ≡ false) (keys_of es)) (ap (λ (y : ℕ × StructInfo). y.0) same ∙ sym is) (IsDistinct-head ◌==◌ x.0 (keys_of es) apart) in
      let here : (x.0 == s) ≡ true = (Decides-eqb _ _).1 (ap (λ (y : ℕ × StructInfo). y.0) same ∙ sym is) in
      rw (struct-push (latest_first es) x, struct-absent es others, here, same) refl
  struct-at (x ∷ es) (suc i) e at is apart =
      rw (struct-push (latest_first es) x, struct-at es i e at is (IsDistinct-tail ◌==◌ x.0 (keys_of es) apart)) refl

  none-passes : (n : ℕ) (ks : List ℕ) → position_from (λ k. s == k) n ks ≡ None → AllByRecursion (λ k. (s == k) ≡ false) ks
  none-passes n [] e = tt
  none-passes n (k ∷ ks) e = by (s == k) refl (none-passes (n + 1) ks)
    where
      by : (b : Bool) → (s == k) ≡ b → (position_from (λ k. s == k) (n + 1) ks ≡ None → AllByRecursion (λ k. (s == k) ≡ false) ks) → AllByRecursion (λ k. (s == k) ≡ false) (k ∷ ks)
      by true t later = absurd (none-some n (sym (rw t at e)))
      by false t later = (t, later (rw t at e))

  pub struct-none : (es : List (ℕ × StructInfo)) → None ≡ position (λ k. s == k) (keys_of es) → None ≡ struct_numbered (map struct_of (latest_first es)) s
  struct-none es e = sym (struct-absent es (none-passes 0 (keys_of es) (sym (e ∙ position_from-zero _ (keys_of es)))))

  keys-at : (es : List (ℕ × StructInfo)) (i : ℕ) (e : ℕ × StructInfo) → slice_get es i ≡ Some e → slice_get (keys_of es) i ≡ Some e.0
  keys-at [] i e at = absurd (none-some e at)
  keys-at (x ∷ es) zero e at = ap (λ (y : Option (ℕ × StructInfo)). option_map (λ (z : ℕ × StructInfo). z.0) y) at
  keys-at (x ∷ es) (suc i) e at = keys-at es i e at

  passes : (es : List (ℕ × StructInfo)) (i : ℕ) (e : ℕ × StructInfo) → Some i ≡ position (λ k. s == k) (keys_of es) → slice_get es i ≡ Some e → s ≡ e.0
  passes es i e is at =
      let (within, holds, before) = position-Some (λ k. s == k) (keys_of es) i e.0 (sym is) in
      (Decides-eqb _ _).0 (ap (λ k. s == k) (sym (get_or_from_slice_get (keys_of es) i e.0 e.0 (keys-at es i e at))) ∙ holds)

  pub struct-found : (es : List (ℕ × StructInfo)) (i : ℕ) (e : ℕ × StructInfo) → Some i ≡ position (λ k. s == k) (keys_of es) → slice_get es i ≡ Some e → IsDistinct ◌==◌ (keys_of es)
      → Some (struct_of e) ≡ struct_numbered (map struct_of (latest_first es)) s
  struct-found es i e is at apart = sym (struct-at es i e at (passes es i e is at) apart)
