-- The fields of a struct, one after the other.
use Rattle.std.proofs.Common.{◌≡◌, ℕ, ◌+◌, ◌≤◌, ◌<◌, ◌&&◌, ◌||◌, not, nat_le, Bool, true, false, List, [], ◌∷◌, ◌++◌, length, map, take, get_or, Fits, w32, Option, None, Some, Ok, is_some, refl, sym, ap, ◌∙◌, append_assoc, arith, if◌then◌else◌, true≢false}
use Rattle.std.specs.Map.{lookup}
use Rattle.std.specs.Str.{bytes_eq}
use Rattle.std.specs.Global.{Vec}
use Rattle.std.proofs.lemmas.Bool.Decides.{nat_tests}
use Rattle.std.proofs.lemmas.Cmp.{nat_list_eq_equiv}
use Rattle.std.proofs.lemmas.List.{map-append, append-nil, take_more}
use Rattle.kt_grammar.specs.declared.tree.Base.{Base}
use Rattle.kt_syntax.specs.declared.tree.Declarator.{Declarator}
use Rattle.kt_syntax.specs.declared.tree.Fields.{Fields}
use Rattle.kt_names.specs.declared.fault.CheckFault.TheVariants.{Twice, TooBig}
use Rattle.kt_names.specs.declared.info.FieldInfo.{FieldInfo}
use Rattle.kt_check.specs.declared.shape.Within.{Within as WithinCode}
use Rattle.kt_names.specs.Checked.{holds}
use Rattle.kt_names.specs.Environment.{FieldOf}
use Rattle.kt_names.specs.Statements.{contains}
use Rattle.kt_names.specs.Views.{latest_first}
use Rattle.kt_check.specs.Files.{Frame, Sofar, OneField, Within, outside, is_array_count, field_cells, fields_in, field_info, field_decl, pointer_inside}
use Rattle.kt_check.specs.Shapes.{infos_of, Grows, size_parts, field_parts}
use Rattle.kt_names.proofs.Inserted.{any-append}
use Rattle.kt_check.proofs.Right.{both-right, holds-right, both-true, not-true}
use Rattle.kt_names.proofs.Visibles.{latest-push}

-- ---- names

abbrev pub names_in : List (Vec ℕ × FieldInfo) → List (List ℕ)
names_in es = map (λ e. e.0.items) (latest_first es)

module _ (n : List ℕ) where
  abbrev found : List (Vec ℕ × FieldInfo) → Option FieldInfo
  found es = lookup (λ k. bytes_eq n k.items) es

  first-last : (b : Bool) (i : FieldInfo) (l : Option FieldInfo) (x : Bool) → is_some l ≡ x → is_some (if b then Some i else l) ≡ (x || (b || false))
  first-last true i l true h = refl
  first-last true i l false h = refl
  first-last false i l true h = h
  first-last false i l false h = h

  -- a name is under a field where it is among the names
  pub has-key : (es : List (Vec ℕ × FieldInfo)) → is_some (found es) ≡ contains (names_in es) n
  has-key [] = refl
  has-key (e ∷ es) =
      first-last (bytes_eq n e.0.items) e.1 (found es) (contains (names_in es) n) (has-key es)
      ∙ ap (λ b. contains (names_in es) n || (b || false)) (nat_list_eq_equiv.symm n e.0.items)
      ∙ sym (any-append (λ m. bytes_eq m n) (names_in es) e.0.items)
      ∙ sym (ap (λ (ns : List (List ℕ)). contains ns n) (map-append (λ (e : Vec ℕ × FieldInfo). e.0.items) (latest_first es) (e ∷ [])))

  none-of : (o : Option FieldInfo) → is_some o ≡ false → o ≡ None
  none-of None h = refl
  none-of (Some x) h = absurd (true≢false h)

  pub no-key : (es : List (Vec ℕ × FieldInfo)) → contains (names_in es) n ≡ false → found es ≡ None
  no-key es h = none-of (found es) (has-key es ∙ h)

module _ (es new : List (Vec ℕ × FieldInfo)) (name : Vec ℕ) (info : FieldInfo) (word : List ℕ) (is : name.items ≡ word) (grows : new ≡ es ++ (name, info) ∷ []) where
  pub names-more : names_in new ≡ word ∷ names_in es
  names-more = ap names_in grows ∙ ap (map (λ (e : Vec ℕ × FieldInfo). e.0.items)) (latest-push es (name, info)) ∙ (λ i. is i ∷ names_in es)

  pub infos-more : (f : FieldOf) → word ≡ f.name → info.ty ≡ f.ty → info.array ≡ f.array → infos_of new ≡ infos_of es ++ f ∷ []
  infos-more f n t a =
      ap infos_of grows ∙ map-append (λ (e : Vec ℕ × FieldInfo). record { name = e.0.items; ty = e.1.ty; array = e.1.array }) es ((name, info) ∷ [])
      ∙ (λ i. infos_of es ++ record { name = (is ∙ n) i; ty = t i; array = a i } ∷ [])

-- ---- what is right

-- a field that is right
pub record IsRight (f : Frame) (s : Sofar) (fields : List OneField) (w : Within) (x : OneField) : Type 0 where
  pub viewed : pointer_inside (outside f s) fields x.declarator.pointer ≡ Ok tt
  pub once : contains w.names x.declarator.name.word ≡ false
  pub counted : is_array_count x.declarator.count ≡ true
  pub within : w.cells + field_cells f s x ≤ 65536

le-of : (a b : ℕ) → nat_le a b ≡ true → a ≤ b
le-of a b e = grind (arith, nat_tests)

pub field-right : (f : Frame) (s : Sofar) (fields : List OneField) (w : Within) (x : OneField) (y : Unit {0} × (Unit {0} × Unit {0})) → field_parts f s fields w x ≡ Ok y → IsRight f s fields w x
field-right f s fields w x y e =
    let n = x.declarator.name in
    let array = is_array_count x.declarator.count in
    let size = w.cells + field_cells f s x in
    let first = both-right (pointer_inside (outside f s) fields x.declarator.pointer) (size_parts f s w x) y e in
    let second = both-right (holds (not (contains w.names n.word)) (Twice n.at)) (holds (array && nat_le size 65536) (TooBig n.at)) y.1 first.1 in
    let sizes = both-true array (nat_le size 65536) (holds-right (array && nat_le size 65536) (TooBig n.at) y.1.1 second.1) in
    record { viewed = first.0; once = not-true (contains w.names n.word) (holds-right (not (contains w.names n.word)) (Twice n.at) y.1.0 second.0); counted = sizes.0; within = le-of size 65536 sizes.1 }

pub room-second : (a p : ℕ) → a + p ≤ 65536 → Fits w32 p
room-second a p h = omega arith

pub room-whole : (a p : ℕ) → a + p ≤ 65536 → Fits w32 (a + p)
room-whole a p h = omega arith

-- ---- fields more

joined : {X Y : Type 0} (g : X → Y) (old mid new : List Y) (xs ys : List X) → mid ≡ old ++ map g xs → new ≡ mid ++ map g ys → new ≡ old ++ map g (xs ++ ys)
joined g old mid new xs ys h k = k ∙ ap (λ zs. zs ++ map g ys) h ∙ append_assoc old (map g xs) (map g ys) ∙ ap (λ zs. old ++ zs) (sym (map-append g xs ys))

pub grows-more : (f : Frame) (fields : List OneField) (a b c : WithinCode) (xs ys : List OneField) → Grows f fields a b xs → Grows f fields b c ys → Grows f fields a c (xs ++ ys)
grows-more f fields a b c xs ys h k = record {
  infos = joined (field_info f) (infos_of a.infos.entries) (infos_of b.infos.entries) (infos_of c.infos.entries) xs ys h.infos k.infos;
  decls = joined (field_decl f fields) a.decls.items b.decls.items c.decls.items xs ys h.decls k.decls;
}

abbrev pub one_of : Base → Declarator → OneField
one_of b d = record { base = b; declarator = d }

-- fields of one base, one more
pub taken-more : (b : Base) (ds : List Declarator) (i : ℕ) (d : Declarator) → i < length ds → d ≡ get_or ds i d → map (one_of b) (take i ds) ++ one_of b d ∷ [] ≡ map (one_of b) (take (i + 1) ds)
taken-more b ds i d h is =
    sym (ap (map (one_of b)) (take_more ds i d h) ∙ map-append (one_of b) (take i ds) (get_or ds i d ∷ []) ∙ ap (λ (x : Declarator). map (one_of b) (take i ds) ++ one_of b x ∷ []) (sym is))

abbrev group : Fields → List OneField
group g = map (one_of g.base) g.declarators

fields-append : (gs hs : List Fields) → fields_in (gs ++ hs) ≡ fields_in gs ++ fields_in hs
fields-append [] hs = refl
fields-append (g ∷ gs) hs = ap (λ xs. group g ++ xs) (fields-append gs hs) ∙ sym (append_assoc (group g) (fields_in gs) (fields_in hs))

-- fields of several bases, one base more
pub groups-more : (gs : List Fields) (i : ℕ) (g : Fields) → i < length gs → g ≡ get_or gs i g → fields_in (take i gs) ++ map (one_of g.base) g.declarators ≡ fields_in (take (i + 1) gs)
groups-more gs i g h is =
    sym (ap fields_in (take_more gs i g h) ∙ fields-append (take i gs) (get_or gs i g ∷ []) ∙ ap (λ (x : Fields). fields_in (take i gs) ++ fields_in (x ∷ [])) (sym is)
    ∙ ap (λ xs. fields_in (take i gs) ++ xs) (append-nil (group g)))
