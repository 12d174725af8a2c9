-- What is known of a file's structs by the types so far stays known as the table grows.
use Rattle.std.proofs.Common.{◌≡◌, ℕ, zero, suc, ◌≤◌, true, List, [], ◌∷◌, length, map, slice_get, Option, Some, None, refl, sym, ap, ◌∙◌, subst, arith, length-append}
use Rattle.std.specs.List.{AllByRecursion}
use Rattle.std.proofs.lemmas.Option.{none-some, slice_get_within}
use Rattle.kt_types.specs.declared.kinds.Ty.{Ty}
use Rattle.kt_types.specs.declared.kinds.Ty.TheVariants as ty
use Rattle.kt_types.specs.declared.kinds.FieldDecl.{FieldDecl}
use Rattle.kt_types.specs.Table.{Definition}
use Rattle.kt_types.specs.Layout.{struct_cells}
use Rattle.kt_types.proofs.Cells.{slice_get-append_left}
use Rattle.kt_types.proofs.Growth.{IsFront, joined-grows, place-grows, struct-grows-types}
use Rattle.kt_tree.specs.Kinds.{field_pointee_of}
use Rattle.kt_lex.specs.declared.number.Number.{Number}
use Rattle.kt_names.specs.declared.ctype.Root.{Root}
use Rattle.kt_names.specs.Environment.{FieldOf, Struct}
use Rattle.kt_names.specs.Types.{root_type, root_of, place_of_type, starred_place, place_in}
use Rattle.kt_names.specs.Uses.{stars_of}
use Rattle.kt_check.specs.Files.{Frame, OneField, is_array_count, field_decl, field_view}
use Rattle.kt_terms.proofs.Agrees.{HasStars}
use Rattle.kt_check.proofs.TypePlaces.{Extends, in-place, stars-place, stars-more}
use Rattle.kt_check.proofs.ExternalTypes.{CountHas, array-has}
use Rattle.kt_check.proofs.StructCells.{IsLike, AreLike, AreSame}
use Rattle.kt_check.proofs.FieldCells.{counted_place, OneHas}

pub front-is : (types more : List Ty) → Extends types more → IsFront types more
front-is types more (rest, is) p t at =
    ap (λ l. slice_get l p) is ∙ slice_get-append_left types rest p (slice_get_within types p t at) ∙ at

pub longer : (types more : List Ty) → Extends types more → length types ≤ length more
longer types more (rest, is) = subst (λ l. length types ≤ length l) (sym is) (subst (λ n. length types ≤ n) (sym (length-append types rest)) (omega arith))

-- ---- structs

stars-some : (types : List Ty) (r : Root) (n : ℕ) → HasStars types r n → (t : Ty) × (slice_get types (starred_place types r n) ≡ Some t)
stars-some types r zero has = (root_type r, has)
stars-some types r (suc n) has = (ty.Ptr (starred_place types r n), has.0)

like-more : (types more : List Ty) → Extends types more → (f : FieldOf) (d : FieldDecl) → IsLike types f d → IsLike more f d
like-more types more ext f d (points, has) = (by (slice_get types d.ty) refl, stars-more types more f.ty.root (suc f.ty.stars) ext has)
  where
    place : place_in more f.ty ≡ place_in types f.ty
    place = stars-place types more f.ty.root f.ty.stars ext has.1

    by : (o : Option Ty) → slice_get types d.ty ≡ o → field_pointee_of (slice_get more d.ty) d.ty ≡ place_in more f.ty
    by None e =
        let same : d.ty ≡ place_in types f.ty = ap (λ o. field_pointee_of o d.ty) (sym e) ∙ points in
        let (t, at) = stars-some types f.ty.root f.ty.stars has.1 in
        absurd (none-some t (sym e ∙ ap (slice_get types) same ∙ at))
    by (Some t) e = ap (λ o. field_pointee_of o d.ty) (front-is types more ext d.ty t e ∙ sym e) ∙ points ∙ sym place

likes-more : (types more : List Ty) → Extends types more → (fs : List FieldOf) (ds : List FieldDecl) → AreLike types fs ds → AreLike more fs ds
likes-more types more ext [] [] like = tt
likes-more types more ext [] (d ∷ ds) like = absurd like
likes-more types more ext (f ∷ fs) [] like = absurd like
likes-more types more ext (f ∷ fs) (d ∷ ds) like = (like-more types more ext f d like.0, likes-more types more ext fs ds like.1)

pub same-more : (types more : List Ty) → Extends types more → (structs : List Struct) (defs : List Definition) → AreSame types structs defs → AreSame more structs defs
same-more types more ext [] [] same = tt
same-more types more ext [] (d ∷ defs) same = absurd same
same-more types more ext (s ∷ structs) [] same = absurd same
same-more types more ext (s ∷ structs) (d ∷ defs) same =
    let (cs, joins, count) = same.0.3 in
    let le = longer types more ext in
    let front = front-is types more ext in
    let grows = place-grows (struct_cells types defs) (struct_cells more defs) types more (struct-grows-types types more front le defs) front (length types) (length more) le in
    ((same.0.0, same.0.1, likes-more types more ext s.fields d.fields same.0.2, (cs, joined-grows _ _ grows d.fields cs joins, count)), same-more types more ext structs defs same.1)

-- ---- fields have the places that they have in the whole table

pub counted-more : (types more : List Ty) → Extends types more → (r : Root) (n : ℕ) (c : Option Number) → HasStars types r n → CountHas types r n c → is_array_count c ≡ true → counted_place more r n c ≡ counted_place types r n c
counted-more types more ext r n None has is few = stars-place types more r n ext has
counted-more types more ext r n (Some c) has is few =
    ap (λ e. place_of_type more (ty.Array e c.value)) (stars-place types more r n ext has) ∙ in-place types more (ty.Array (starred_place types r n) c.value) ext (array-has types r n c is few)

-- the frame with these types alone
abbrev pub with_types : Frame → List Ty → Frame
with_types f types = record f { types = types }

pub decl-more : (f : Frame) (types : List Ty) → Extends types f.types → (all : List OneField) (x : OneField) → OneHas (with_types f types) x → is_array_count x.declarator.count ≡ true → field_decl f all x ≡ field_decl (with_types f types) all x
decl-more f types ext all x has few =
    ap (λ p. record { name = x.declarator.name.word; ty = p; view = field_view f all x })
    (counted-more types f.types ext (root_of f.names x.base) (stars_of x.declarator.pointer) x.declarator.count has.0.1 has.1 few)

pub decls-more : (f : Frame) (types : List Ty) → Extends types f.types → (all xs : List OneField) → AllByRecursion (OneHas (with_types f types)) xs → AllByRecursion (λ x. is_array_count x.declarator.count ≡ true) xs → map (field_decl f all) xs ≡ map (field_decl (with_types f types) all) xs
decls-more f types ext all [] has few = refl
decls-more f types ext all (x ∷ xs) has few =
    ap (λ d. d ∷ map (field_decl f all) xs) (decl-more f types ext all x has.0 few.0) ∙ ap (λ l. field_decl (with_types f types) all x ∷ l) (decls-more f types ext all xs has.1 few.1)
