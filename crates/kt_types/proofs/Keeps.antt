-- What a table keeps, it keeps when it gets a type, a struct or a definition.
use Rattle.std.proofs.Common.{◌≡◌, ◌≢◌, ℕ, zero, suc, ◌<◌, ◌≤◌, ◌+◌, List, [], ◌∷◌, ◌++◌, length, length-append, set, lit<, Option, None, Some, refl, sym, ap, ◌∙◌, subst, arith, slice_get, ◌⊎◌, inl, inr}
use Rattle.std.proofs.lemmas.Bool.{ne_eqb}
use Rattle.std.proofs.lemmas.Option.{none-some, same_Some}
use Rattle.kt_types.proofs.Cells.{before-grows}
use Rattle.kt_types.proofs.Growth.{Grows, front-push, joined-grows, layout-grows-type, layout-grows-definition, struct-grows-types, struct-grows-defs}
use Rattle.kt_types.specs.Kept.{IsCounted, IsKept, IsLaidOut, IsNumbered}
use Rattle.kt_types.specs.Layout.{layout, struct_cells}
use Rattle.kt_types.specs.Table.{Table, fields_of, scalar_table, with_type, with_struct, with_definition}
use Rattle.kt_types.specs.declared.kinds.FieldDecl.{FieldDecl}
use Rattle.kt_types.specs.declared.kinds.Ty.{Ty}
use Rattle.kt_types.specs.declared.kinds.Ty.TheVariants.{Char, Int, Long, Mutex, Struct, Array, Ptr}
use Rattle.kt_types.specs.declared.table.StructLayout.{StructLayout}

-- u is t and perhaps more
pub record Extends (t u : Table) : Type 0 where
  pub types : length t.types ≤ length u.types
  pub structs : length t.structs ≤ length u.structs
  pub grows : Grows (layout t) (layout u)
  pub laid : (s : ℕ) (cs : List Ty) → struct_cells t.types t.defined s ≡ Some cs → struct_cells u.types u.defined s ≡ Some cs
  pub known : (s : ℕ) (fields : List FieldDecl) → fields_of t s ≡ Some fields → fields_of u s ≡ Some fields

pub counted-extends : (t u : Table) → Extends t u → (p : ℕ) (ty : Ty) (n : ℕ) → IsCounted t p ty n → IsCounted u p ty n
counted-extends t u x p Char n h = h
counted-extends t u x p Int n h = h
counted-extends t u x p Long n h = h
counted-extends t u x p Mutex n h = h
counted-extends t u x p (Ptr q) n h = (omega (arith, h.0, x.types), h.1)
counted-extends t u x p (Struct s) n h = omega (arith, x.structs)
counted-extends t u x p (Array e k) n h = (h.0, h.1, x.grows e h.0 h.2, x.grows p _ h.3, h.4, h.5, h.6)

pub laid-extends : (t u : Table) → Extends t u → (d : StructLayout) → IsLaidOut t d → IsLaidOut u d
laid-extends t u x d h =
    let same = before-grows t u x.grows d.fields.items h.cells.0 h.cells.2 in
    record {
      known = x.known d.number d.fields.items h.known;
      cells = (h.cells.0, x.laid d.number h.cells.0 h.cells.1, joined-grows _ _ x.grows d.fields.items h.cells.0 h.cells.2, h.cells.3);
      some_cells = h.some_cells;
      few_cells = h.few_cells;
      few_fields = h.few_fields;
      starts = record { len = h.starts.len; each = λ n lt. h.starts.each n lt ∙ ap Some (sym (same n)) };
      names = h.names;
    }

pub extends-type : (t : Table) (ty : Ty) → Extends t (with_type t ty)
extends-type t ty =
    let longer : length (t.types ++ ty ∷ []) ≡ length t.types + 1 = length-append t.types (ty ∷ []) in
    record {
      types = omega (arith, longer);
      structs = omega arith;
      grows = layout-grows-type t ty;
      laid = struct-grows-types t.types (t.types ++ ty ∷ []) (front-push t.types ty) (omega (arith, longer)) t.defined;
      known = λ s fields h. h;
    }

pub extends-struct : (t : Table) (name : List ℕ) → Extends t (with_struct t name)
unfolding layout
extends-struct t name =
    record {
      types = omega arith;
      structs = omega (arith, length-append t.structs (name ∷ []));
      grows = λ p cs h. h;
      laid = λ s cs h. h;
      known = λ s fields h. h;
    }

-- a struct other than the one that is defined keeps its fields
fields-other : (t : Table) (s : ℕ) (fields : List FieldDecl) (q : ℕ) → s ≢ q → fields_of (with_definition t s fields) q ≡ fields_of t q
fields-other t s fields q apart = rw (ne_eqb s q apart) refl

pub extends-definition : (t : Table) (s : ℕ) (fields : List FieldDecl) → fields_of t s ≡ None → Extends t (with_definition t s fields)
extends-definition t s fields new =
    record {
      types = omega arith;
      structs = omega arith;
      grows = layout-grows-definition t s fields new;
      laid = struct-grows-defs t.types (record { number = s; fields = fields }) t.defined new;
      known = λ q fs h. fields-other t s fields q (λ same. none-some fs (sym new ∙ ap (fields_of t) same ∙ h)) ∙ h;
    }

-- what stands in a list with one more element at its end
pub slice_get-push : {X : Type 0} (xs : List X) (x : X) (i : ℕ) (y : X) → slice_get (xs ++ x ∷ []) i ≡ Some y → (slice_get xs i ≡ Some y) ⊎ ((i ≡ length xs) × (x ≡ y))
slice_get-push [] x zero y h = inr (refl, same_Some _ _ h)
slice_get-push [] x (suc i) y h = absurd (none-some y h)
slice_get-push (z ∷ xs) x zero y h = inl h
slice_get-push (z ∷ xs) x (suc i) y h =
    elim (slice_get-push xs x i y h) [ inl before ↦ inl before | inr last ↦ inr (ap suc last.0, last.1) ]

pub slice_get-at_push : {X : Type 0} (xs : List X) (x : X) → slice_get (xs ++ x ∷ []) (length xs) ≡ Some x
slice_get-at_push [] x = refl
slice_get-at_push (y ∷ xs) x = slice_get-at_push xs x

pub slice_get-before_push : {X : Type 0} (xs : List X) (x : X) (i : ℕ) (y : X) → slice_get xs i ≡ Some y → slice_get (xs ++ x ∷ []) i ≡ Some y
slice_get-before_push [] x i y h = absurd (none-some y h)
slice_get-before_push (z ∷ xs) x zero y h = h
slice_get-before_push (z ∷ xs) x (suc i) y h = slice_get-before_push xs x i y h

-- what stands in a list after a write
pub slice_get-set : {X : Type 0} (xs : List X) (s : ℕ) (x : X) (i : ℕ) (y : X) → slice_get (set xs s x) i ≡ Some y → ((s ≡ i) × (x ≡ y)) ⊎ ((s ≢ i) × (slice_get xs i ≡ Some y))
slice_get-set [] s x i y h = absurd (none-some y h)
slice_get-set (z ∷ xs) zero x zero y h = inl (refl, same_Some _ _ h)
slice_get-set (z ∷ xs) zero x (suc i) y h = inr ((λ e. absurd (omega arith)), h)
slice_get-set (z ∷ xs) (suc s) x zero y h = inr ((λ e. absurd (omega arith)), h)
slice_get-set (z ∷ xs) (suc s) x (suc i) y h =
    elim (slice_get-set xs s x i y h) [ inl here ↦ inl (ap suc here.0, here.1) | inr there ↦ inr ((λ e. there.0 (omega arith)), there.1) ]

pub keeps-type : (t : Table) (counts : List (Ty × ℕ)) (places : List (Option ℕ)) (defined : List StructLayout) → IsKept t counts places defined
    → length counts ≡ length t.types → length t.types < 4294967295 → (ty : Ty) (n : ℕ) → IsCounted (with_type t ty) (length t.types) ty n
    → IsKept (with_type t ty) (counts ++ (ty, n) ∷ []) places defined
keeps-type t counts places defined kept even room ty n new =
    let x = extends-type t ty in
    record {
      few_types = omega (arith, length-append t.types (ty ∷ []));
      few_structs = kept.few_structs;
      counted = λ p c at. elim (slice_get-push counts (ty, n) p c at) [
        | inl before ↦ counted-extends t (with_type t ty) x p c.0 c.1 (kept.counted p c before)
        | inr last ↦
            let here : IsCounted (with_type t ty) p ty n = subst (λ q. IsCounted (with_type t ty) q ty n) (sym (last.0 ∙ even)) new in
            subst (λ (d : Ty × ℕ). IsCounted (with_type t ty) p d.0 d.1) last.1 here
      ];
      numbered = kept.numbered;
      laid_out = λ i d at. laid-extends t (with_type t ty) x d (kept.laid_out i d at);
      once = kept.once;
      declared = kept.declared;
    }

pub keeps-struct : (t : Table) (counts : List (Ty × ℕ)) (places : List (Option ℕ)) (defined : List StructLayout) → IsKept t counts places defined
    → length places ≡ length t.structs → length t.structs < 4294967295 → (name : List ℕ)
    → IsKept (with_struct t name) counts (places ++ None ∷ []) defined
keeps-struct t counts places defined kept even room name =
    let x = extends-struct t name in
    let longer = length-append t.structs (name ∷ []) in
    record {
      few_types = kept.few_types;
      few_structs = omega (arith, longer);
      counted = λ p c at. counted-extends t (with_struct t name) x p c.0 c.1 (kept.counted p c at);
      numbered = λ s i at. elim (slice_get-push places None s i at) [
        | inl before ↦ kept.numbered s i before
        | inr last ↦ subst (λ o. IsNumbered (with_struct t name) defined s o) last.1 (kept.declared s (omega arith))
      ];
      laid_out = λ i d at. laid-extends t (with_struct t name) x d (kept.laid_out i d at);
      once = kept.once;
      declared = λ s le. kept.declared s (omega (arith, longer));
    }

pub keeps-definition : (t : Table) (counts : List (Ty × ℕ)) (places : List (Option ℕ)) (defined : List StructLayout) → IsKept t counts places defined
    → (d : StructLayout) → d.number < length t.structs → fields_of t d.number ≡ None → IsLaidOut (with_definition t d.number d.fields.items) d
    → IsKept (with_definition t d.number d.fields.items) counts (set places d.number (Some (length defined))) (defined ++ d ∷ [])
keeps-definition t counts places defined kept d within new laid =
    let u = with_definition t d.number d.fields.items in
    let x = extends-definition t d.number d.fields.items new in
    record {
      few_types = kept.few_types;
      few_structs = kept.few_structs;
      counted = λ p c at. counted-extends t u x p c.0 c.1 (kept.counted p c at);
      numbered = λ s i at. elim (slice_get-set places d.number (Some (length defined)) s i at) [
        | inl here ↦ subst (λ o. IsNumbered u (defined ++ d ∷ []) s o) here.1 (d, slice_get-at_push defined d, here.0)
        | inr there ↦ numbered_still s i there.0 (kept.numbered s i there.1)
      ];
      laid_out = λ i e at. elim (slice_get-push defined d i e at) [
        | inl before ↦ laid-extends t u x e (kept.laid_out i e before)
        | inr last ↦ subst (IsLaidOut u) last.1 laid
      ];
      once = (new, kept.once);
      declared = λ s le. fields-other t d.number d.fields.items s (λ same. absurd (omega arith)) ∙ kept.declared s le;
    }
  where
    numbered_still : (s : ℕ) (i : Option ℕ) → d.number ≢ s → IsNumbered t defined s i
        → IsNumbered (with_definition t d.number d.fields.items) (defined ++ d ∷ []) s i
    numbered_still s None apart h = fields-other t d.number d.fields.items s apart ∙ h
    numbered_still s (Some i) apart h = (h.0, slice_get-before_push defined d i h.0 h.1, h.2)

-- the table of the scalar types
pub keeps-scalars : IsKept scalar_table ((Char, 1) ∷ (Int, 1) ∷ (Long, 1) ∷ (Mutex, 1) ∷ []) [] []
keeps-scalars =
    record {
      few_types = lit< tt;
      few_structs = lit< tt;
      counted = one;
      numbered = λ s i at. absurd (none-some i at);
      laid_out = λ i d at. absurd (none-some d at);
      once = tt;
      declared = λ s le. refl;
    }
  where
    one : (p : ℕ) (c : Ty × ℕ) → slice_get ((Char, 1) ∷ (Int, 1) ∷ (Long, 1) ∷ (Mutex, 1) ∷ []) p ≡ Some c → IsCounted scalar_table p c.0 c.1
    one zero c at = subst (λ (d : Ty × ℕ). IsCounted scalar_table 0 d.0 d.1) (same_Some _ _ at) refl
    one (suc zero) c at = subst (λ (d : Ty × ℕ). IsCounted scalar_table 1 d.0 d.1) (same_Some _ _ at) refl
    one (suc (suc zero)) c at = subst (λ (d : Ty × ℕ). IsCounted scalar_table 2 d.0 d.1) (same_Some _ _ at) refl
    one (suc (suc (suc zero))) c at = subst (λ (d : Ty × ℕ). IsCounted scalar_table 3 d.0 d.1) (same_Some _ _ at) refl
    one (suc (suc (suc (suc p)))) c at = absurd (none-some c at)
