-- Names among those of a struct's fields.
use Rattle.std.proofs.Common.{◌≡◌, ◌≢◌, ℕ, zero, suc, ◌<◌, ◌+◌, true, false, List, [], ◌∷◌, ◌++◌, map, take, get_or, Some, refl, sym, ap, ◌∙◌, subst, arith, slice_get, ◌==◌, inl, inr}
use Rattle.std.specs.Cmp.Lexicographic.{pointwise, bytes_decides}
use Rattle.std.specs.Global.{Vec}
use Rattle.std.specs.List.{list_any}
use Rattle.std.proofs.lemmas.Bool.{cases_Bool, or_parts, false≢true}
use Rattle.std.proofs.lemmas.Option.{none-some, same_Some, slice_get_within, get_or_from_slice_get}
use Rattle.std.proofs.lemmas.List.{take_more, map_push}
use Rattle.kt_types.specs.declared.kinds.FieldDecl.{FieldDecl}

-- the names of the first fields stand in a set that has this name: one of them is it
pub found-name : (keys : List (Vec ℕ)) (fields : List FieldDecl) (k : ℕ) (name : List ℕ) → map (λ x. x.items) keys ≡ map (λ f. f.name) (take k fields)
    → list_any (λ x. pointwise ◌==◌ name x.items) keys ≡ true → (i : ℕ) × (f : FieldDecl) × (i < k) × (slice_get fields i ≡ Some f) × (f.name ≡ name)
found-name [] fields k name same any = absurd (false≢true any)
found-name (x ∷ keys) fields zero name same any = absurd cc
found-name (x ∷ keys) [] (suc k) name same any = absurd cc
found-name (x ∷ keys) (f ∷ fields) (suc k) name same any =
    let first : x.items ≡ f.name = cc in
    let rest : map (λ x. x.items) keys ≡ map (λ f. f.name) (take k fields) = cc in
    elim (cases_Bool (pointwise ◌==◌ name x.items)) [
      | inl here ↦ (0, f, omega arith, refl, sym first ∙ sym ((bytes_decides name x.items).0 here))
      | inr there ↦
          let (i, g, lt, at, is) = found-name keys fields k name rest (rw there at any) in
          (suc i, g, omega arith, at, is)
    ]

-- the set lacks this name: none of them is it
pub absent-name : (keys : List (Vec ℕ)) (fields : List FieldDecl) (k : ℕ) (name : List ℕ) → map (λ x. x.items) keys ≡ map (λ f. f.name) (take k fields)
    → list_any (λ x. pointwise ◌==◌ name x.items) keys ≡ false → (i : ℕ) (f : FieldDecl) → i < k → slice_get fields i ≡ Some f → f.name ≢ name
absent-name keys fields zero name same any i f lt at = absurd (omega arith)
absent-name keys [] (suc k) name same any i f lt at = absurd (none-some f at)
absent-name [] (g ∷ fields) (suc k) name same any i f lt at = absurd cc
absent-name (x ∷ keys) (g ∷ fields) (suc k) name same any i f lt at =
    let first : x.items ≡ g.name = cc in
    let rest : map (λ x. x.items) keys ≡ map (λ f. f.name) (take k fields) = cc in
    let (here, others) = or_parts (pointwise ◌==◌ name x.items) _ any in
    by i lt at (absent-name keys fields k name rest others) (λ is. false≢true (sym here ∙ (bytes_decides name x.items).1 (sym (first ∙ is))))
  where
    by : (i : ℕ) → i < suc k → slice_get (g ∷ fields) i ≡ Some f → ((i : ℕ) (f : FieldDecl) → i < k → slice_get fields i ≡ Some f → f.name ≢ name) → g.name ≢ name → f.name ≢ name
    by zero lt at later not_it is = not_it (subst (λ h. h.name ≡ name) (sym (same_Some _ _ at)) is)
    by (suc i) lt at later not_it is = later i f (omega arith) at is

-- one more name
pub names_more : (keys : List (Vec ℕ)) (added : Vec ℕ) (fields : List FieldDecl) (k : ℕ) (f : FieldDecl) → slice_get fields k ≡ Some f → added.items ≡ f.name
    → map (λ x. x.items) keys ≡ map (λ g. g.name) (take k fields) → map (λ x. x.items) (keys ++ added ∷ []) ≡ map (λ g. g.name) (take (k + 1) fields)
names_more keys added fields k f at is same =
    let within = slice_get_within fields k f at in
    let item : get_or fields k f ≡ f = get_or_from_slice_get fields k f f at in
    let more : take (k + 1) fields ≡ take k fields ++ f ∷ [] = take_more fields k f within ∙ ap (λ g. take k fields ++ g ∷ []) item in
    map_push (λ x. x.items) keys added ∙ ap (λ l. l ++ added.items ∷ []) same ∙ ap (λ n. map (λ g. g.name) (take k fields) ++ n ∷ []) is
    ∙ sym (map_push (λ g. g.name) (take k fields) f) ∙ ap (map (λ g. g.name)) (sym more)
