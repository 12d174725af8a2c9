-- A struct more among those that are defined.
use Rattle.std.proofs.Common.{◌≡◌, ℕ, ◌==◌, not, Bool, true, false, List, [], ◌∷◌, ◌++◌, map, Option, None, Some, Ok, is_some, refl, sym, ap, ◌∙◌, if◌then◌else◌, true≢false}
use Rattle.std.specs.Map.{lookup}
use Rattle.kt_types.specs.declared.kinds.FieldDecl.{FieldDecl}
use Rattle.kt_grammar.specs.declared.tree.Name.{Name}
use Rattle.kt_syntax.specs.declared.tree.Fields.{Fields}
use Rattle.kt_names.specs.declared.fault.CheckFault.TheVariants.{Twice}
use Rattle.kt_names.specs.declared.info.StructInfo.{StructInfo}
use Rattle.kt_check.specs.declared.sofar.Defined.{Defined}
use Rattle.kt_names.specs.Checked.{holds}
use Rattle.kt_names.specs.Environment.{FieldOf, Struct, struct_numbered}
use Rattle.kt_names.specs.Types.{number_of_struct}
use Rattle.kt_names.specs.Views.{latest_first, struct_of, fields_of}
use Rattle.kt_check.specs.Files.{Frame, Sofar, Within, no_field, fields_in, fields_from}
use Rattle.kt_check.specs.Shapes.{struct_parts}
use Rattle.kt_check.specs.Stages.{definition_seen}
use Rattle.kt_names.proofs.Lookups.{or_else, struct-push}
use Rattle.kt_names.proofs.Noted.{flip-eq}
use Rattle.kt_check.proofs.Right.{both-right, holds-right, not-true}
use Rattle.kt_names.proofs.Visibles.{latest-push}

module _ (s : ℕ) where
  abbrev found : List (ℕ × StructInfo) → Option StructInfo
  found es = lookup (λ k. s == k) es

  abbrev numbered : List (ℕ × StructInfo) → Option Struct
  numbered es = struct_numbered (map struct_of (latest_first es)) s

  first-last : (b : Bool) (e : ℕ × StructInfo) (l : Option StructInfo) (x : Option Struct) → is_some l ≡ is_some x → is_some (if b then Some e.1 else l) ≡ is_some (or_else x (if b then Some (struct_of e) else None))
  first-last true e l None h = refl
  first-last true e l (Some y) h = refl
  first-last false e l None h = h
  first-last false e l (Some y) h = h

  has-number : (es : List (ℕ × StructInfo)) → is_some (found es) ≡ is_some (numbered es)
  has-number [] = refl
  has-number (e ∷ es) =
      first-last (s == e.0) e (found es) (numbered es) (has-number es)
      ∙ ap (λ b. is_some (or_else (numbered es) (if b then Some (struct_of e) else None))) (flip-eq s e.0)
      ∙ sym (ap is_some (struct-push s (latest_first es) e))

  none-of : (o : Option StructInfo) → is_some o ≡ false → o ≡ None
  none-of None h = refl
  none-of (Some x) h = absurd (true≢false h)

  -- a number of no struct is under none
  pub no-number : (es : List (ℕ × StructInfo)) → is_some (numbered es) ≡ false → found es ≡ None
  no-number es h = none-of (found es) (has-number es ∙ h)

pub struct-new : (f : Frame) (s : Sofar) (n : Name) (fs : List Fields) (x : Unit {0} × Within) → struct_parts f s n fs ≡ Ok x → is_some (struct_numbered s.structs (number_of_struct f.names n.word)) ≡ false
struct-new f s n fs x e =
    let defined = is_some (struct_numbered s.structs (number_of_struct f.names n.word)) in
    let parts = both-right (holds (not defined) (Twice n.at)) (fields_from f s (fields_in fs) no_field fs) x e in
    not-true defined (holds-right (not defined) (Twice n.at) x.0 parts.0)

pub structs-more : (es new : List (ℕ × StructInfo)) (n k : ℕ) (info : StructInfo) (fs : List FieldOf) → n ≡ k → fields_of info ≡ fs → new ≡ es ++ (n, info) ∷ []
    → map struct_of (latest_first new) ≡ record { number = k; fields = fs; cells = info.cells } ∷ map struct_of (latest_first es)
structs-more es new n k info fs number fields grows =
    ap (λ xs. map struct_of (latest_first xs)) grows ∙ ap (map struct_of) (latest-push es (n, info)) ∙ (λ i. record { number = number i; fields = fields i; cells = info.cells } ∷ map struct_of (latest_first es))

pub definitions-more : (ds new : List Defined) (k : ℕ) (d : Defined) (fs : List FieldDecl) → d.number ≡ k → d.fields.items ≡ fs → new ≡ ds ++ d ∷ []
    → map definition_seen (latest_first new) ≡ record { number = k; fields = fs } ∷ map definition_seen (latest_first ds)
definitions-more ds new k d fs number fields grows =
    ap (λ (xs : List Defined). map definition_seen (latest_first xs)) grows ∙ ap (map definition_seen) (latest-push ds d) ∙ (λ i. record { number = number i; fields = fields i } ∷ map definition_seen (latest_first ds))
