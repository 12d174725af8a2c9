-- The table of a typed file can be made: struct by struct, each behind the types of its fields.
use Rattle.std.proofs.Common.{◌≡◌, ℕ, zero, suc, ◌+◌, ◌*◌, ◌<◌, ◌≤◌, nat_lt, Bool, true, false, List, [], ◌∷◌, ◌++◌, length, map, take, slice_get, Option, Some, None, Ok, if◌then◌else◌, refl, sym, ap, ◌∙◌, subst, arith, length-take, ltb-true, ltb-false}
use Rattle.std.specs.Prelude.{flat_map, unwrap_or}
use Rattle.std.specs.Option.{is_some, option_map}
use Rattle.std.specs.List.{AllByRecursion}
use Rattle.std.proofs.lemmas.Option.{none-some, same_Some, slice_get_within, slice_get-map}
use Rattle.kt_lex.specs.declared.number.Number.{Number}
use Rattle.kt_types.specs.declared.kinds.Ty.{Ty}
use Rattle.kt_types.specs.declared.kinds.Ty.TheVariants as ty
use Rattle.kt_types.specs.declared.kinds.FieldDecl.{FieldDecl}
use Rattle.kt_types.specs.Table.{Definition, HasType, fields_by}
use Rattle.kt_types.specs.Layout.{NamesPlaces, IsFitting, layout, cells}
use Rattle.kt_types.proofs.Growth.{layout-grows-definition}
use Rattle.kt_grammar.specs.declared.tree.Base.{Base}
use Rattle.kt_grammar.specs.declared.tree.Name.{Name}
use Rattle.kt_syntax.specs.declared.tree.Declarator.{Declarator}
use Rattle.kt_syntax.specs.declared.tree.Fields.{Fields}
use Rattle.kt_syntax.specs.declared.tree.GlobalDeclarator.{GlobalDeclarator}
use Rattle.kt_syntax.specs.Tree.{External, StructMentioned, StructDefined, GlobalsDeclared, FunctionDeclared}
use Rattle.kt_names.specs.Types.{root_of, starred_place, with_uses, number_of_struct, scalars}
use Rattle.kt_names.specs.Uses.{Use, stars_of, fields_uses, global_uses, head_uses, body_uses, uses_of, declared_structs, body_structs, structs_of}
use Rattle.kt_names.specs.Environment.{is_complete}
use Rattle.kt_names.specs.Tables.{declared_type, struct_names, types_of}
use Rattle.kt_names.specs.Statements.{base_for}
use Rattle.kt_check.specs.Files.{Frame, Sofar, OneField, Within, outside, no_field, fields_in, is_array_count, field, fields_with, fields_of_base, fields_from, field_decl, with_global, globals_from, global, struct, function, globals, externals, frame_of, nothing_yet}
use Rattle.kt_check.specs.Built.{larger, reach, reversed_onto, stage, CanInternAll, CanBuild}
use Rattle.kt_terms.proofs.Agrees.{HasStars}
use Rattle.kt_check.proofs.TypePlaces.{Extends, extends-self, some-of, uses-extend, uses-both}
use Rattle.kt_check.proofs.ExternalTypes.{CountHas, FieldHas, FieldsHave, ExternalHas, array-has, external-gives, types-begin, types-have}
use Rattle.kt_check.proofs.TypeOrder.{IsBelow, IsOrdered, AllFound, types-ordered}
use Rattle.kt_check.proofs.NameTables.{Found, found-below, names-found}
use Rattle.kt_check.proofs.StructCells.{AreSame}
use Rattle.kt_check.proofs.FieldCells.{IsTyped, same-ok, then-parts, base-complete, from-typed, counted_place, fields-have, fields-cells, fields-like}
use Rattle.kt_check.proofs.Made.{struct-made, function-made}
use Rattle.kt_check.proofs.StructsDefine.{same-none, struct-defines, array-fits}
use Rattle.kt_check.proofs.Prefixes.{front-is, longer, counted-more, with_types}
use Rattle.kt_check.proofs.Shrinks.{taken, AreBefore, AllBefore, fitting-shrinks, definition-shrinks}
use Rattle.kt_check.proofs.PlainUses.{ArePlain, globals-plain, routine-plain}
use Rattle.kt_check.proofs.GlobalsFit.{all-split, all-flat}
use Rattle.kt_check.proofs.ListFacts.{all-from}
use Rattle.kt_check.proofs.Ended.{extends-long}
use Rattle.kt_check.proofs.Fills.{whole, ArraysFit, CountFits, OneFits, fills-plain, fills-fields}

-- ---- how far the fields of a struct reach

larger-up : (a b : ℕ) → (a ≤ larger a b) × (b ≤ larger a b)
larger-up a b = by (nat_lt a b) refl
  where
    by : (c : Bool) → nat_lt a b ≡ c → (a ≤ (if c then b else a)) × (b ≤ (if c then b else a))
    by true e = let lt = ltb-true a b e in (omega arith, omega arith)
    by false e = let le = ltb-false a b e in (omega arith, le)

larger-within : (a b n : ℕ) → a ≤ n → b ≤ n → larger a b ≤ n
larger-within a b n h k = by (nat_lt a b)
  where
    by : (c : Bool) → (if c then b else a) ≤ n
    by true = k
    by false = h

pub reach-up : (k : ℕ) (fields : List FieldDecl) → k ≤ reach k fields
reach-up k [] = omega arith
reach-up k (d ∷ fields) = let up = reach-up (larger k (d.ty + 1)) fields in let first = larger-up k (d.ty + 1) in omega (arith, up, first.0)

pub reach-all : (k : ℕ) (fields : List FieldDecl) → AreBefore (reach k fields) fields
reach-all k [] = tt
reach-all k (d ∷ fields) = let up = reach-up (larger k (d.ty + 1)) fields in let first = larger-up k (d.ty + 1) in (omega (arith, up, first.1), reach-all (larger k (d.ty + 1)) fields)

reach-within : (k n : ℕ) (fields : List FieldDecl) → k ≤ n → AreBefore n fields → reach k fields ≤ n
reach-within k n [] h all = h
reach-within k n (d ∷ fields) h all = reach-within (larger k (d.ty + 1)) n fields (larger-within k (d.ty + 1) n h (omega (arith, all.0))) all.1

before-later : (k m : ℕ) → k ≤ m → (fields : List FieldDecl) → AreBefore k fields → AreBefore m fields
before-later k m le [] h = tt
before-later k m le (d ∷ fields) h = (omega (arith, h.0), before-later k m le fields h.1)

all-later : (k m : ℕ) → k ≤ m → (defs : List Definition) → AllBefore k defs → AllBefore m defs
all-later k m le [] h = tt
all-later k m le (d ∷ defs) h = (before-later k m le d.fields h.0, all-later k m le defs h.1)

-- ---- the places of fields are those of the types so far

stars-within : (names : List (List ℕ)) (types : List Ty) (b : Base) (n : ℕ) → HasStars types (root_of names b) n → starred_place types (root_of names b) n < length types
stars-within names types b zero has = slice_get_within types _ _ has
stars-within names types b (suc n) has = slice_get_within types _ _ has.0

place-before : (f : Frame) (types : List Ty) → Extends types f.types → (b : Base) (n : ℕ) (c : Option Number) → HasStars types (root_of f.names b) n → CountHas types (root_of f.names b) n c → is_array_count c ≡ true
    → counted_place f.types (root_of f.names b) n c < length types
place-before f types ext b n c has is few =
    subst (λ p. p < length types) (sym (counted-more types f.types ext (root_of f.names b) n c has is few)) (by c is few)
  where
    by : (o : Option Number) → CountHas types (root_of f.names b) n o → is_array_count o ≡ true → counted_place types (root_of f.names b) n o < length types
    by None is few = stars-within f.names types b n has
    by (Some k) is few = slice_get_within types _ _ (array-has types (root_of f.names b) n k is few)

decls-before : (f : Frame) (s : Sofar) (types : List Ty) → Extends types f.types → (all xs : List OneField) → AllByRecursion (λ x. FieldHas f.names x.base x.declarator types) xs → AllByRecursion (IsTyped f s all) xs
    → AreBefore (length types) (map (field_decl f all) xs)
decls-before f s types ext all [] has typed = tt
decls-before f s types ext all (x ∷ xs) has typed =
    (place-before f types ext x.base (stars_of x.declarator.pointer) x.declarator.count has.0.0.1 has.0.1 typed.0.count, decls-before f s types ext all xs has.1 typed.1)

-- ---- what typing gives of each field

module _ (f : Frame) (s : Sofar) (all : List OneField) (same : AreSame f.types s.structs s.defined) (long : 1 < length f.types) where
  one-fits : (b : Base) (d : Declarator) (w v : Within) → FieldHas f.names b d f.types → is_complete (outside f s) (declared_type f.names b d.pointer) ≡ true
      → field f s all w (record { base = b; declarator = d }) ≡ Ok v → OneFits f s.defined (record { base = b; declarator = d })
  one-fits b d w v has complete e = by d.count refl
    where
      by : (o : Option Number) → d.count ≡ o → CountFits f s.defined b (stars_of d.pointer) o
      by None is = tt
      by (Some c) is = array-fits f s all w v b d c same long has.0.1 complete is e

  with-fit : (b : Base) (ds : List Declarator) (w v : Within) → AllByRecursion (λ d. FieldHas f.names b d f.types) ds
      → ((i : ℕ) (d : Declarator) → slice_get ds i ≡ Some d → is_complete (outside f s) (declared_type f.names b d.pointer) ≡ true)
      → fields_with f s all b w ds ≡ Ok v → AllByRecursion (λ d. OneFits f s.defined (record { base = b; declarator = d })) ds
  with-fit b [] w v has complete e = tt
  with-fit b (d ∷ ds) w v has complete e =
      let (u, first, rest) = then-parts (field f s all w (record { base = b; declarator = d })) _ v e in
      (one-fits b d w u has.0 (complete 0 d refl) first, with-fit b ds u v has.1 (λ i c at. complete (suc i) c at) rest)

  base-fit : (x : Fields) (w v : Within) → FieldsHave f.names x f.types → fields_of_base f s all w x ≡ Ok v → AllByRecursion (λ d. OneFits f s.defined (record { base = x.base; declarator = d })) x.declarators
  base-fit x w v has e =
      let (u, based, rest) = then-parts (base_for (outside f s) x.base (map (λ d. stars_of d.pointer) x.declarators)) _ v e in
      with-fit x.base x.declarators w v has
      (λ i d at. base-complete (outside f s) x.base (map (λ c. stars_of c.pointer) x.declarators) u based i (stars_of d.pointer) (slice_get-map (λ c. stars_of c.pointer) x.declarators i ∙ ap (option_map (λ c. stars_of c.pointer)) at))
      rest

  from-fit : (fs : List Fields) (w v : Within) → AllByRecursion (λ x. FieldsHave f.names x f.types) fs → fields_from f s all w fs ≡ Ok v
      → AllByRecursion (λ x. AllByRecursion (λ d. OneFits f s.defined (record { base = x.base; declarator = d })) x.declarators) fs
  from-fit [] w v has e = tt
  from-fit (x ∷ fs) w v has e =
      let (u, first, rest) = then-parts (fields_of_base f s all w x) _ v e in
      (base-fit x w u has.0 first, from-fit fs u v has.1 rest)

-- ---- globals and functions define no structs

abbrev SameStructs : Sofar → Sofar → Type 0
SameStructs s t = (s.structs ≡ t.structs) × (s.defined ≡ t.defined)

globals-keep : (f : Frame) (s t : Sofar) (b : Base) (gs : List GlobalDeclarator) → globals_from f s b gs ≡ Ok t → SameStructs s t
globals-keep f s t b [] e = let is = same-ok s t e in (ap (λ (u : Sofar). u.structs) is, ap (λ (u : Sofar). u.defined) is)
globals-keep f s t b (g ∷ gs) e = let (d, first, rest) = then-parts (global f s b g) _ t e in globals-keep f (with_global f s b g d) t b gs rest

globals-same : (f : Frame) (s t : Sofar) (b : Base) (gs : List GlobalDeclarator) → globals f s b gs ≡ Ok t → SameStructs s t
globals-same f s t b gs e =
    let (u, based, rest) = then-parts (base_for (outside f s) b (map (λ g. stars_of g.declarator.pointer) gs)) _ t e in
    globals-keep f s t b gs rest

-- ---- what fits stays so behind one definition more

definition-later : (f : Frame) (defs : List Definition) (d : Definition) → fields_by defs d.number ≡ None → (types : List Ty) → ArraysFit f defs types → ArraysFit f (d ∷ defs) types
definition-later f defs d new types h p e n at =
    let fits = h p e n at in
    let (cs, before) = some-of (layout (whole f defs) e) fits.0 in
    let after = layout-grows-definition (whole f defs) d.number d.fields new e cs before in
    let same : layout (whole f defs) e ≡ layout (whole f (d ∷ defs)) e = before ∙ sym after in
    (ap is_some after, fits.1, subst (λ o. n * length (unwrap_or o []) ≤ 65536) same fits.2)

-- ---- the run

module _ (f : Frame) (ordered : IsOrdered f.names f.types) (long : 1 < length f.types) where
  names-places : (defs : List Definition) (p : ℕ) → p ≤ length f.types → (t : Ty) → IsBelow f.names p t → NamesPlaces (stage f.types f.names p defs) t
  names-places defs p le ty.Char h = tt
  names-places defs p le ty.Int h = tt
  names-places defs p le ty.Long h = tt
  names-places defs p le ty.Mutex h = tt
  names-places defs p le (ty.Struct s) h = h
  names-places defs p le (ty.Array e n) h = simp length-take (omega arith)
  names-places defs p le (ty.Ptr q) h = simp length-take (omega arith)

  whole-fits : (defs : List Definition) (types : List Ty) → ArraysFit f defs types → (p : ℕ) (t : Ty) → slice_get types p ≡ Some t → IsFitting (whole f defs) t
  whole-fits defs types h p ty.Char at = tt
  whole-fits defs types h p ty.Int at = tt
  whole-fits defs types h p ty.Long at = tt
  whole-fits defs types h p ty.Mutex at = tt
  whole-fits defs types h p (ty.Struct s) at = tt
  whole-fits defs types h p (ty.Array e n) at = h p e n at
  whole-fits defs types h p (ty.Ptr q) at = tt

  some-at : (types : List Ty) (p : ℕ) → p < length types → (t : Ty) × (slice_get types p ≡ Some t)
  some-at [] p lt = absurd (omega arith)
  some-at (t ∷ types) zero lt = (t, refl)
  some-at (t ∷ types) (suc p) lt = some-at types p (omega arith)

  interns : (defs : List Definition) (types : List Ty) → Extends types f.types → ArraysFit f defs types → (k m : ℕ) → m ≤ length types → AllBefore k defs → CanInternAll f.types f.names defs k m
  interns defs types ext fits k m within before p t low high at =
      let le = longer types f.types ext in
      let (u, here) = some-at types p (omega (arith, high, within)) in
      let same : u ≡ t = same_Some u t (sym (front-is types f.types ext p u here) ∙ at) in
      let below = ordered.below p t at in
      let first : p ≤ length f.types = omega (arith, high, within, le) in (
        names-places defs p first t below,
        fitting-shrinks f.names f.types ordered.below p first defs (all-later k p low defs before) t below (whole-fits defs types fits p t (here ∙ ap Some same)),
        λ h. missing-before h,
      )
    where
      missing-before : HasType (stage f.types f.names p defs) t → ⊥
      missing-before (q, there) =
          let lt : q < p = omega (arith, slice_get_within (take p f.types) q t there, length-take p f.types) in
          ordered.apart q p t t lt (sym (taken f.types p q lt) ∙ there) at refl

  -- what comes of a run behind k types, from the one stage to the other
  abbrev pub Built : ℕ → Sofar → Sofar → Type 0
  Built k s z = (rest : List Definition) × (reversed_onto rest s.defined ≡ z.defined) × CanBuild f.types f.names k s.defined rest

  abbrev Runs : List External → Type 0
  Runs xs =
      (types : List Ty) (s z : Sofar) (k : ℕ) → with_uses f.names types (uses_of xs) ≡ f.types
      → AllByRecursion (λ x. ExternalHas f.names x f.types) xs → AllByRecursion (λ x. AllFound f.names (declared_structs x)) xs
      → k ≤ length types → AllBefore k s.defined → ArraysFit f s.defined types → AreSame f.types s.structs s.defined → externals f s xs ≡ Ok z → Built k s z

  further : (types : List Ty) (us : List Use) (xs : List External) → with_uses f.names types (us ++ uses_of xs) ≡ f.types → with_uses f.names (with_uses f.names types us) (uses_of xs) ≡ f.types
  further types us xs all = sym (uses-both f.names types us (uses_of xs)) ∙ all

  within-all : (types : List Ty) (xs : List External) → with_uses f.names types (uses_of xs) ≡ f.types → Extends types f.types
  within-all types xs on = subst (Extends types) on (uses-extend f.names types (uses_of xs))

  -- globals and functions
  plain-step : (us : List Use) → ArePlain us → (xs : List External) → Runs xs → AllByRecursion (λ x. ExternalHas f.names x f.types) xs → AllByRecursion (λ x. AllFound f.names (declared_structs x)) xs
      → (types : List Ty) (s t z : Sofar) (k : ℕ) → SameStructs s t → with_uses f.names types (us ++ uses_of xs) ≡ f.types → k ≤ length types → AllBefore k s.defined → ArraysFit f s.defined types
      → AreSame f.types s.structs s.defined → externals f t xs ≡ Ok z → Built k s z
  plain-step us plain xs runs has found types s t z k keep all le before fits same rest =
      let on = further types us xs all in
      let more = with_uses f.names types us in
      let filled = fills-plain f s.defined us plain types (within-all more xs on) fits in
      let up = longer types more (uses-extend f.names types us) in
      let (defs, ends, can) =
      runs more t z k on has found (omega (arith, le, up)) (subst (AllBefore k) keep.1 before) (subst (λ l. ArraysFit f l more) keep.1 filled)
      (subst (λ l. AreSame f.types t.structs l) keep.1 (subst (λ l. AreSame f.types l s.defined) keep.0 same)) rest in
      (defs, ap (reversed_onto defs) keep.1 ∙ ends, subst (λ l. CanBuild f.types f.names k l defs) (sym keep.1) can)

  -- a definition of a struct
  struct-step : (n : Name) (fs : List Fields) → AllByRecursion (λ x. FieldsHave f.names x f.types) fs → Found f.names n.word → (xs : List External) → Runs xs
      → AllByRecursion (λ x. ExternalHas f.names x f.types) xs → AllByRecursion (λ x. AllFound f.names (declared_structs x)) xs
      → (types : List Ty) (s t z : Sofar) (k : ℕ) → with_uses f.names types (flat_map fields_uses fs ++ uses_of xs) ≡ f.types → k ≤ length types → AllBefore k s.defined → ArraysFit f s.defined types
      → AreSame f.types s.structs s.defined → struct f s n fs ≡ Ok t → externals f t xs ≡ Ok z → Built k s z
  struct-step n fs have known xs runs has found types s t z k all le before fits same first rest =
      let (w, new, made, is) = struct-made f s t n fs first in
      let fields = fields_in fs in
      let decls = map (field_decl f fields) fields in
      let us = flat_map fields_uses fs in
      let more = with_uses f.names types us in
      let on = further types us xs all in
      let ext = within-all more xs on in
      let typed = from-typed f s fields fs no_field w made in
      let filled = fills-fields f s.defined fs (from-fit f s fields same long fs no_field w have made) types ext fits in
      let longer1 = longer types more (uses-extend f.names types us) in
      let longer2 = longer more f.types ext in
      let here = fields-have (with_types f more) fs (external-gives f.names (StructDefined n fs) types) in
      let m = reach k decls in
      let within : m ≤ length more = reach-within k (length more) decls (omega (arith, le, longer1)) (decls-before f s more ext fields fields here typed.0) in
      let whole-within : m ≤ length f.types = omega (arith, within, longer2) in
      let up : k ≤ m = reach-up k decls in
      let d : Definition = record { number = number_of_struct f.names n.word; fields = decls } in
      let earlier = all-later k m up s.defined before in
      let can = definition-shrinks f.names f.types ordered.below m whole-within s.defined earlier d.number decls (reach-all k decls) (struct-defines f s t n fs first same long have) in
      let one = fields-have f fs have in
      let (cs, joins, count) = fields-cells f s fields same long fields one typed.0 in
      let total : length cs ≡ w.cells = count ∙ sym (typed.1 ∙ (omega arith)) in
      let same-later = subst (λ (u : Sofar). AreSame f.types u.structs u.defined) is ((refl, new, fields-like f s fields fields one typed.0, (cs, joins, total)), same) in
      let defined : d ∷ s.defined ≡ t.defined = ap (λ (u : Sofar). u.defined) is in
      let later = definition-later f s.defined d (same-none f.types s.structs s.defined same d.number new) more filled in
      let (defs, ends, builds-on) = runs more t z m on has found within (subst (AllBefore m) defined (reach-all k decls, earlier)) (subst (λ l. ArraysFit f l more) defined later) same-later rest in (
        d ∷ defs,
        ap (reversed_onto defs) defined ∙ ends,
        (
          (whole-within, interns s.defined more ext filled k m within before, found-below f.names n.word known, can),
          subst (λ l. CanBuild f.types f.names m l defs) (sym defined) builds-on,
        ),
      )

  pub builds : (xs : List External) → Runs xs
  builds [] types s z k all has found le before fits same e =
      let is = same-ok s z e in
      let whole-le : k ≤ length f.types = subst (λ l. k ≤ length l) all le in
      ([], ap (λ (u : Sofar). u.defined) is, (whole-le, interns s.defined f.types (extends-self f.types) (subst (ArraysFit f s.defined) all fits) k (length f.types) (omega arith) before))
  builds (StructMentioned n ∷ xs) types s z k all has found le before fits same e = builds xs types s z k all has.1 found.1 le before fits same e
  builds (StructDefined n fs ∷ xs) types s z k all has found le before fits same e =
      let (t, first, rest) = then-parts (struct f s n fs) (λ u. externals f u xs) z e in
      struct-step n fs has.0 found.0.0 xs (builds xs) has.1 found.1 types s t z k all le before fits same first rest
  builds (GlobalsDeclared b gs ∷ xs) types s z k all has found le before fits same e =
      let (t, first, rest) = then-parts (globals f s b gs) (λ u. externals f u xs) z e in
      plain-step (flat_map (global_uses b) gs) (globals-plain b gs) xs (builds xs) has.1 found.1 types s t z k (globals-same f s t b gs first) all le before fits same rest
  builds (FunctionDeclared r ∷ xs) types s z k all has found le before fits same e =
      let (t, first, rest) = then-parts (function f s r) (λ u. externals f u xs) z e in
      let (x, parts, fs, made, is) = function-made f s t r first in
      plain-step (head_uses r ++ body_uses r) (routine-plain r) xs (builds xs) has.1 found.1 types s t z k (ap (λ (u : Sofar). u.structs) is, ap (λ (u : Sofar). u.defined) is) all le before fits same rest

-- ---- the table of a file

scalars-fit : (f : Frame) → ArraysFit f [] scalars
scalars-fit f zero e n at = absurd cc
scalars-fit f (suc zero) e n at = absurd cc
scalars-fit f (suc (suc zero)) e n at = absurd cc
scalars-fit f (suc (suc (suc zero))) e n at = absurd cc
scalars-fit f (suc (suc (suc (suc p)))) e n at = absurd (none-some (ty.Array e n) at)

declared-found : (xs : List External) → AllByRecursion (λ x. AllFound (struct_names xs) (declared_structs x)) xs
declared-found xs =
    let found = all-from (Found (struct_names xs)) (structs_of xs) (λ i n at. names-found [] (structs_of xs) i n at) in
    all-flat (Found (struct_names xs)) declared_structs xs (all-split (Found (struct_names xs)) (flat_map declared_structs xs) (flat_map body_structs xs) found).0

pub file-builds : (xs : List External) (z : Sofar) → externals (frame_of xs) nothing_yet xs ≡ Ok z
    → (rest : List Definition) × (reversed_onto rest [] ≡ z.defined) × CanBuild (types_of xs) (struct_names xs) 4 [] rest
file-builds xs z run =
    let long = extends-long (types_of xs) (types-begin xs) in
    builds (frame_of xs) (types-ordered xs) (omega (arith, long)) xs scalars nothing_yet z 4 refl (types-have xs) (declared-found xs) (omega arith) tt (scalars-fit (frame_of xs)) tt run
