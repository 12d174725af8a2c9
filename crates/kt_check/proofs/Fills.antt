-- The arrays of a file's table fit, once the structs of their fields are typed.
use Rattle.std.proofs.Common.{◌≡◌, ℕ, zero, suc, ◌+◌, nat_le, Bool, true, false, List, [], ◌∷◌, ◌++◌, slice_get, Option, Some, None, if◌then◌else◌, sym, subst, inl, inr}
use Rattle.std.specs.Prelude.{flat_map}
use Rattle.std.specs.List.{AllByRecursion}
use Rattle.kt_lex.specs.declared.number.Number.{Number}
use Rattle.kt_types.specs.declared.kinds.Ty.{Ty}
use Rattle.kt_types.specs.declared.kinds.Ty.TheVariants as ty
use Rattle.kt_types.specs.Table.{Table, Definition}
use Rattle.kt_types.specs.Layout.{IsFitting}
use Rattle.kt_types.proofs.Keeps.{slice_get-push}
use Rattle.kt_grammar.specs.declared.tree.Base.{Base}
use Rattle.kt_syntax.specs.declared.tree.Declarator.{Declarator}
use Rattle.kt_syntax.specs.declared.tree.Fields.{Fields}
use Rattle.kt_names.specs.declared.ctype.Root.{Root}
use Rattle.kt_names.specs.declared.ctype.Root.TheVariants as root
use Rattle.kt_names.specs.Uses.{Use, Starred, Arrayed, stars_of, field_uses, fields_uses}
use Rattle.kt_names.specs.Types.{has_by, same_type, root_type, root_of, starred_place, with_type, with_starred, with_uses}
use Rattle.kt_check.specs.Files.{Frame, OneField}
use Rattle.kt_terms.proofs.Agrees.{HasStars}
use Rattle.kt_check.proofs.TypePlaces.{Extends, extends-on, extends-self, stars-place, starred-has, uses-extend, uses-both, with-type-extends}
use Rattle.kt_check.proofs.ExternalTypes.{with_counted, counted-gives, one_more}
use Rattle.kt_check.proofs.PlainUses.{ArePlain}

module _ (f : Frame) (defs : List Definition) where
  -- the table of all types, with these definitions
  abbrev pub whole : Table
  whole = record { types = f.types; structs = f.names; defined = defs }

  -- the arrays among these types fit
  abbrev pub ArraysFit : List Ty → Type 0
  ArraysFit types = (p e n : ℕ) → slice_get types p ≡ Some (ty.Array e n) → IsFitting whole (ty.Array e n)

  type-fits : (types : List Ty) (t : Ty) → IsFitting whole t → ArraysFit types → ArraysFit (with_type types t)
  type-fits types t new h = by (has_by (same_type t) types)
    where
      by : (b : Bool) → ArraysFit (if b then types else types ++ t ∷ [])
      by true p e n at = h p e n at
      by false p e n at = elim (slice_get-push types t p (ty.Array e n) at) [
        | inl here ↦ h p e n here
        | inr last ↦ subst (IsFitting whole) last.1 new
      ]

  root-fits : (r : Root) → IsFitting whole (root_type r)
  root-fits root.Char = tt
  root-fits root.Int = tt
  root-fits root.Long = tt
  root-fits root.Mutex = tt
  root-fits (root.Struct s) = tt

  starred-fits : (types : List Ty) (r : Root) (n : ℕ) → ArraysFit types → ArraysFit (with_starred types r n)
  starred-fits types r zero h = type-fits types (root_type r) (root-fits r) h
  starred-fits types r (suc n) h = type-fits (with_starred types r n) (ty.Ptr (starred_place (with_starred types r n) r n)) tt (starred-fits types r n h)

  -- with what these uses add they still do
  abbrev pub Fills : List Use → Type 0
  Fills us = (types : List Ty) → Extends (with_uses f.names types us) f.types → ArraysFit types → ArraysFit (with_uses f.names types us)

  fills-both : (us vs : List Use) → Fills us → Fills vs → Fills (us ++ vs)
  fills-both us vs g k types ext h =
      let both = uses-both f.names types us vs in
      let all : Extends (with_uses f.names (with_uses f.names types us) vs) f.types = subst (λ ts. Extends ts f.types) both ext in
      let front = extends-on (with_uses f.names types us) (with_uses f.names (with_uses f.names types us) vs) f.types (uses-extend f.names (with_uses f.names types us) vs) all in
      subst ArraysFit (sym both) (k (with_uses f.names types us) all (g types front h))

  pub fills-plain : (us : List Use) → ArePlain us → Fills us
  fills-plain [] plain types ext h = h
  fills-plain (Starred b n ∷ us) plain types ext h = fills-plain us plain.1 (with_starred types (root_of f.names b) n) ext (starred-fits types (root_of f.names b) n h)
  fills-plain (Arrayed b n count ∷ us) plain types ext h = absurd plain.0

  -- an array that is a field fits
  abbrev pub CountFits : Base → ℕ → Option Number → Type 0
  CountFits b n None = Unit {0}
  CountFits b n (Some c) = IsFitting whole (ty.Array (starred_place f.types (root_of f.names b) n) c.value)

  counted-fits : (types : List Ty) (b : Base) (n : ℕ) (c : Option Number) → Extends types f.types → HasStars types (root_of f.names b) n → CountFits b n c → ArraysFit types → ArraysFit (with_counted f.names types b n c)
  counted-fits types b n None ext has fits h = h
  counted-fits types b n (Some c) ext has fits h = by (nat_le c.value 65536)
    where
      by : (few : Bool) → ArraysFit (if few then with_type types (ty.Array (starred_place types (root_of f.names b) n) c.value) else types)
      by true =
          type-fits types (ty.Array (starred_place types (root_of f.names b) n) c.value)
          (subst (λ e. IsFitting whole (ty.Array e c.value)) (stars-place types f.types (root_of f.names b) n ext has) fits) h
      by false = h

  counted-extends : (types : List Ty) (b : Base) (n : ℕ) (c : Option Number) → Extends types (with_counted f.names types b n c)
  counted-extends types b n None = extends-self types
  counted-extends types b n (Some c) = by (nat_le c.value 65536)
    where
      by : (few : Bool) → Extends types (if few then with_type types (ty.Array (starred_place types (root_of f.names b) n) c.value) else types)
      by true = with-type-extends types (ty.Array (starred_place types (root_of f.names b) n) c.value)
      by false = extends-self types

  fills-field : (b : Base) (d : Declarator) → CountFits b (stars_of d.pointer) d.count → Fills (field_uses b d)
  fills-field b d fits types ext h =
      let n = stars_of d.pointer in
      let r = root_of f.names b in
      let starred = with_starred types r (n + 1) in
      let is = counted-gives f.names types b n d.count in
      let has = one_more f.names starred r n (starred-has types r (n + 1)) in
      let all : Extends (with_counted f.names starred b n d.count) f.types = subst (λ ts. Extends ts f.types) is ext in
      let front = extends-on starred (with_counted f.names starred b n d.count) f.types (counted-extends starred b n d.count) all in
      subst ArraysFit (sym is) (counted-fits starred b n d.count front has.1 fits (starred-fits types r (n + 1) h))

  abbrev pub OneFits : OneField → Type 0
  OneFits x = CountFits x.base (stars_of x.declarator.pointer) x.declarator.count

  fills-declarators : (b : Base) (ds : List Declarator) → AllByRecursion (λ d. OneFits (record { base = b; declarator = d })) ds → Fills (flat_map (field_uses b) ds)
  fills-declarators b [] fits = λ types ext h. h
  fills-declarators b (d ∷ ds) fits = fills-both (field_uses b d) (flat_map (field_uses b) ds) (fills-field b d fits.0) (fills-declarators b ds fits.1)

  pub fills-fields : (fs : List Fields) → AllByRecursion (λ x. AllByRecursion (λ d. OneFits (record { base = x.base; declarator = d })) x.declarators) fs → Fills (flat_map fields_uses fs)
  fills-fields [] fits = λ types ext h. h
  fills-fields (x ∷ fs) fits = fills-both (fields_uses x) (flat_map fields_uses fs) (fills-declarators x.base x.declarators fits.0) (fills-fields fs fits.1)
