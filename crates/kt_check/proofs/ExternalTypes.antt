-- The table of types of a file has each type that an external declaration names, with all that it points to.
use Rattle.std.proofs.Common.{◌≡◌, ℕ, suc, ◌+◌, nat_le, Bool, true, false, List, [], ◌∷◌, ◌++◌, Option, Some, None, if◌then◌else◌, refl, sym, subst, arith, true≢false}
use Rattle.std.proofs.lemmas.Bool.{and_parts}
use Rattle.std.specs.List.{AllByRecursion}
use Rattle.kt_types.specs.declared.kinds.Ty.{Ty}
use Rattle.kt_types.specs.declared.kinds.Ty.TheVariants as ty
use Rattle.kt_grammar.specs.declared.tree.Base.{Base}
use Rattle.kt_lex.specs.declared.number.Number.{Number}
use Rattle.kt_syntax.specs.declared.tree.Declarator.{Declarator}
use Rattle.kt_syntax.specs.declared.tree.GlobalDeclarator.{GlobalDeclarator}
use Rattle.kt_syntax.specs.declared.tree.Fields.{Fields}
use Rattle.kt_syntax.specs.Tree.{External, StructMentioned, StructDefined, GlobalsDeclared, FunctionDeclared}
use Rattle.kt_names.specs.declared.ctype.Root.{Root}
use Rattle.kt_names.specs.declared.ctype.Root.TheVariants as root
use Rattle.kt_names.specs.Uses.{Use, Starred, Arrayed, stars_of, counted_uses, field_uses, fields_uses, global_uses, head_uses, body_uses, external_uses, uses_of}
use Rattle.kt_names.specs.Types.{root_of, starred_place, with_type, with_use, with_uses, scalars}
use Rattle.kt_names.specs.Tables.{struct_names, types_of}
use Rattle.kt_check.specs.Files.{is_array_count}
use Rattle.kt_terms.proofs.Agrees.{HasStars, HasUse}
use Rattle.kt_check.proofs.TypePlaces.{IsIn, Extends, Gives, Stays, all-stays, gives-all, array-more, stars-more, stars-place, use-more, uses-have, uses-extend, with-type-extends, with-type-in, starred-has}

-- an array of so many elements, where a count stands, has its place if it is not too large
abbrev pub CountHas : List Ty → Root → ℕ → Option Number → Type 0
CountHas types r n None = Unit {0}
CountHas types r n (Some c) = nat_le c.value 65536 ≡ true → IsIn types (ty.Array (starred_place types r n) c.value)

-- a field's type has its place, and a pointer to it too
abbrev pub FieldHas : List (List ℕ) → Base → Declarator → List Ty → Type 0
FieldHas names b d types = HasStars types (root_of names b) (suc (stars_of d.pointer)) × CountHas types (root_of names b) (stars_of d.pointer) d.count

abbrev pub FieldsHave : List (List ℕ) → Fields → List Ty → Type 0
FieldsHave names f types = AllByRecursion (λ d. FieldHas names f.base d types) f.declarators

abbrev pub GlobalHas : List (List ℕ) → Base → GlobalDeclarator → List Ty → Type 0
GlobalHas names b g types = HasStars types (root_of names b) (suc (stars_of g.declarator.pointer))

-- all types of an external declaration have their places
abbrev pub ExternalHas : List (List ℕ) → External → List Ty → Type 0
ExternalHas names (StructMentioned n) types = Unit {0}
ExternalHas names (StructDefined n fs) types = AllByRecursion (λ f. FieldsHave names f types) fs
ExternalHas names (GlobalsDeclared b gs) types = AllByRecursion (λ g. GlobalHas names b g types) gs
ExternalHas names (FunctionDeclared f) types = AllByRecursion (HasUse names types) (head_uses f ++ body_uses f)

-- an array that typing takes is not too large
pub array-has : (types : List Ty) (r : Root) (n : ℕ) (c : Number) → CountHas types r n (Some c) → is_array_count (Some c) ≡ true → IsIn types (ty.Array (starred_place types r n) c.value)
array-has types r n c has e = has (and_parts (nat_le 1 c.value) (nat_le c.value 65536) e).1

module _ (names : List (List ℕ)) where
  -- ---- it stays so

  count-stays : (r : Root) (n : ℕ) (c : Option Number) (types more : List Ty) → Extends types more → HasStars types r n → CountHas types r n c → CountHas more r n c
  count-stays r n None types more ext has h = tt
  count-stays r n (Some c) types more ext has h = λ few. array-more names types more r n c.value ext has (h few)

  field-stays : (b : Base) (d : Declarator) → Stays names (FieldHas names b d)
  field-stays b d types more ext h =
      (stars-more types more (root_of names b) (suc (stars_of d.pointer)) ext h.0, count-stays (root_of names b) (stars_of d.pointer) d.count types more ext h.0.1 h.1)

  fields-stay : (f : Fields) → Stays names (FieldsHave names f)
  fields-stay f = all-stays names (FieldHas names f.base) (field-stays f.base) f.declarators

  global-stays : (b : Base) (g : GlobalDeclarator) → Stays names (GlobalHas names b g)
  global-stays b g types more ext h = stars-more types more (root_of names b) (suc (stars_of g.declarator.pointer)) ext h

  uses-stay : (us : List Use) → Stays names (λ types. AllByRecursion (HasUse names types) us)
  uses-stay us = all-stays names (λ u types. HasUse names types u) (λ u types more ext h. use-more names types more u ext h) us

  external-stays : (x : External) → Stays names (ExternalHas names x)
  external-stays (StructMentioned n) types more ext h = tt
  external-stays (StructDefined n fs) types more ext h = all-stays names (FieldsHave names) fields-stay fs types more ext h
  external-stays (GlobalsDeclared b gs) types more ext h = all-stays names (GlobalHas names b) (global-stays b) gs types more ext h
  external-stays (FunctionDeclared f) types more ext h = uses-stay (head_uses f ++ body_uses f) types more ext h

  -- ---- the uses give it

  pub one_more : (types : List Ty) (r : Root) (n : ℕ) → HasStars types r (n + 1) → HasStars types r (suc n)
  one_more types r n h = let e : n + 1 ≡ suc n = omega arith in subst (HasStars types r) e h

  -- the types with the array that a count asks for
  abbrev pub with_counted : List Ty → Base → ℕ → Option Number → List Ty
  with_counted types b n None = types
  with_counted types b n (Some c) = if nat_le c.value 65536 then with_type types (ty.Array (starred_place types (root_of names b) n) c.value) else types

  -- the array has its place where the test holds
  abbrev CountGiven : List Ty → Base → ℕ → Number → Bool → Type 0
  CountGiven types b n c few =
      let more = if few then with_type types (ty.Array (starred_place types (root_of names b) n) c.value) else types in
      HasStars more (root_of names b) (suc n) × (few ≡ true → IsIn more (ty.Array (starred_place more (root_of names b) n) c.value))

  count-gives : (types : List Ty) (b : Base) (n : ℕ) (c : Option Number) → HasStars types (root_of names b) (suc n)
      → HasStars (with_counted types b n c) (root_of names b) (suc n) × CountHas (with_counted types b n c) (root_of names b) n c
  count-gives types b n None has = (has, tt)
  count-gives types b n (Some c) has = by (nat_le c.value 65536)
    where
      by : (few : Bool) → CountGiven types b n c few
      by true =
          let array = ty.Array (starred_place types (root_of names b) n) c.value in
          let ext = with-type-extends types array in
          let place = stars-place types (with_type types array) (root_of names b) n ext has.1 in (
            stars-more types (with_type types array) (root_of names b) (suc n) ext has,
            λ e. subst (λ k. IsIn (with_type types array) (ty.Array k c.value)) (sym place) (with-type-in types array),
          )
      by false = (has, λ e. absurd (true≢false (sym e)))

  pub counted-gives : (types : List Ty) (b : Base) (n : ℕ) (c : Option Number) → with_uses names types (counted_uses b n c) ≡ with_counted (with_use names types (Starred b (n + 1))) b n c
  counted-gives types b n None = refl
  counted-gives types b n (Some c) = by (nat_le c.value 65536)
    where
      before : List Ty
      before = with_use names types (Starred b (n + 1))

      by : (few : Bool) → with_uses names before (if few then Arrayed b n c.value ∷ [] else []) ≡ (if few then with_type before (ty.Array (starred_place before (root_of names b) n) c.value) else before)
      by true = refl
      by false = refl

  field-gives : (b : Base) (d : Declarator) → Gives names (FieldHas names b d) (field_uses b d)
  field-gives b d types =
      subst (FieldHas names b d) (sym (counted-gives types b (stars_of d.pointer) d.count))
      (count-gives (with_use names types (Starred b (stars_of d.pointer + 1))) b (stars_of d.pointer) d.count
      (one_more (with_use names types (Starred b (stars_of d.pointer + 1))) (root_of names b) (stars_of d.pointer) (starred-has types (root_of names b) (stars_of d.pointer + 1))))

  fields-give : (f : Fields) → Gives names (FieldsHave names f) (fields_uses f)
  fields-give f = gives-all names (FieldHas names f.base) (field-stays f.base) (field_uses f.base) (field-gives f.base) f.declarators

  global-gives : (b : Base) (g : GlobalDeclarator) → Gives names (GlobalHas names b g) (global_uses b g)
  global-gives b g types =
      one_more (with_use names types (Starred b (stars_of g.declarator.pointer + 1))) (root_of names b) (stars_of g.declarator.pointer) (starred-has types (root_of names b) (stars_of g.declarator.pointer + 1))

  pub external-gives : (x : External) → Gives names (ExternalHas names x) (external_uses x)
  external-gives (StructMentioned n) types = tt
  external-gives (StructDefined n fs) types = gives-all names (FieldsHave names) fields-stay fields_uses fields-give fs types
  external-gives (GlobalsDeclared b gs) types = gives-all names (GlobalHas names b) (global-stays b) (global_uses b) (global-gives b) gs types
  external-gives (FunctionDeclared f) types = uses-have names types (head_uses f ++ body_uses f)

-- ---- the table of a file

pub types-have : (xs : List External) → AllByRecursion (λ x. ExternalHas (struct_names xs) x (types_of xs)) xs
types-have xs = gives-all (struct_names xs) (ExternalHas (struct_names xs)) (external-stays (struct_names xs)) external_uses (external-gives (struct_names xs)) xs scalars

-- it begins with the scalar types
pub types-begin : (xs : List External) → Extends scalars (types_of xs)
types-begin xs = uses-extend (struct_names xs) scalars (uses_of xs)

pub has-char : (types : List Ty) → Extends scalars types → HasStars types root.Char 0
has-char types ext = stars-more scalars types root.Char 0 ext refl

pub has-int : (types : List Ty) → Extends scalars types → HasStars types root.Int 0
has-int types ext = stars-more scalars types root.Int 0 ext refl

pub has-long : (types : List Ty) → Extends scalars types → HasStars types root.Long 0
has-long types ext = stars-more scalars types root.Long 0 ext refl

pub has-mutex : (types : List Ty) → Extends scalars types → HasStars types root.Mutex 0
has-mutex types ext = stars-more scalars types root.Mutex 0 ext refl

-- at the places 0 to 3
pub place-char : (types : List Ty) → Extends scalars types → starred_place types root.Char 0 ≡ 0
place-char types ext = stars-place scalars types root.Char 0 ext refl

pub place-int : (types : List Ty) → Extends scalars types → starred_place types root.Int 0 ≡ 1
place-int types ext = stars-place scalars types root.Int 0 ext refl

pub place-long : (types : List Ty) → Extends scalars types → starred_place types root.Long 0 ≡ 2
place-long types ext = stars-place scalars types root.Long 0 ext refl

pub place-mutex : (types : List Ty) → Extends scalars types → starred_place types root.Mutex 0 ≡ 3
place-mutex types ext = stars-place scalars types root.Mutex 0 ext refl
