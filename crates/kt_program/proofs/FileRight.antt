-- What the names of a file stand for has the types that their trees give.
use Rattle.std.proofs.Common.{◌≡◌, ℕ, zero, suc, ◌+◌, ◌==◌, ◌&&◌, ◌||◌, Bool, true, false, List, [], ◌∷◌, ◌++◌, map, slice_get, Option, Some, None, if◌then◌else◌, refl, sym, ap, ◌∙◌, subst, arith, true≢false}
use Rattle.std.specs.List.{position_from}
use Rattle.std.specs.Option.{is_some}
use Rattle.std.specs.Str.{bytes_eq}
use Rattle.std.proofs.lemmas.Bool.{eq-eqb}
use Rattle.std.proofs.lemmas.Bool.Decides.{Decides-eqb}
use Rattle.std.proofs.lemmas.Option.{none-some, same_Some}
use Rattle.kt_grammar.specs.declared.tree.Base.{Base}
use Rattle.kt_grammar.specs.declared.tree.Base.TheVariants as base
use Rattle.kt_syntax.specs.Tree.{External, StructMentioned, StructDefined, GlobalsDeclared, FunctionDeclared}
use Rattle.kt_types.specs.declared.kinds.Ty.{Ty}
use Rattle.kt_types.specs.declared.kinds.Ty.TheVariants as ty
use Rattle.kt_types.specs.declared.kinds.FieldDecl.{FieldDecl}
use Rattle.kt_types.specs.Layout.{layout}
use Rattle.kt_types.specs.Table.{Definition, Table, with_definition}
use Rattle.kt_tree.specs.declared.expr.Constant.TheVariants as constant
use Rattle.kt_tree.specs.Kinds.{Scope, is_integer_type, pointee_of, pointee, is_pointer, is_scalar, is_same, points_to, is_constant}
use Rattle.kt_tree.specs.Tree.{Constant'}
use Rattle.kt_tree.specs.Typed.{Of, if_so}
use Rattle.kt_typing.specs.Sound.{HasType, IsSoundAs, IsSoundMeaning, IsRight}
use Rattle.kt_program.specs.Gathered.{OuterGlobal, global_name, global_type, globals_of, is_array}
use Rattle.kt_program.specs.FileTable.{can_define, can_repeat, field_of, start, table_of, with_external, with_externals, with_spelling, with_spellings, with_struct}
use Rattle.kt_program.specs.Mentioned.{Spelling, Starred, Arrayed, external_spellings, stars_of}
use Rattle.kt_program.specs.Outside.{Whole, whole, place_of, standing_of, global_meaning, function_meaning, outer_meaning, scope, environment}
use Rattle.kt_program.specs.Types.{has_by, number_of_struct, same_type, base_type, spelled, place_of_type, with_type, starred_place, place_in, with_starred, scalars}
use Rattle.kt_program.specs.Views.{all_fields}

-- ---- lists

module _ {A : Type 0} (test : A → Bool) where
  found-at : (i : ℕ) (xs : List A) (n : ℕ) → position_from test i xs ≡ Some n → (k : ℕ) × (x : A) × (n ≡ i + k) × (slice_get xs k ≡ Some x) × (test x ≡ true)
  found-at i [] n e = absurd (none-some n e)
  found-at i (x ∷ xs) n e = by (test x) refl (found-at (i + 1) xs n)
    where
      by : (b : Bool) → test x ≡ b → (position_from test (i + 1) xs ≡ Some n → (k : ℕ) × (y : A) × (n ≡ i + 1 + k) × (slice_get xs k ≡ Some y) × (test y ≡ true))
          → (k : ℕ) × (y : A) × (n ≡ i + k) × (slice_get (x ∷ xs) k ≡ Some y) × (test y ≡ true)
      by true t later = (0, x, omega (arith, same_Some i n (rw t at e)), refl, t)
      by false t later = let (k, y, is, at, passes) = later (rw t at e) in (suc k, y, omega (arith, is), at, passes)

mapped-at : {A B : Type 0} (f : A → B) (xs : List A) (k : ℕ) (x : A) → slice_get xs k ≡ Some x → slice_get (map f xs) k ≡ Some (f x)
mapped-at f [] k x e = absurd (none-some x e)
mapped-at f (y ∷ xs) zero x e = ap (λ z. Some (f z)) (same_Some y x e)
mapped-at f (y ∷ xs) (suc k) x e = mapped-at f xs k x e

same-type-is : (t u : Ty) → same_type t u ≡ true → t ≡ u
same-type-is ty.Char ty.Char e = refl
same-type-is ty.Int ty.Int e = refl
same-type-is ty.Long ty.Long e = refl
same-type-is ty.Mutex ty.Mutex e = refl
same-type-is (ty.Struct s) (ty.Struct r) e = ap ty.Struct ((Decides-eqb s r).0 e)
same-type-is (ty.Array f n) (ty.Array g m) e = pair (f == g) (n == m) refl refl e
  where
    pair : (a b : Bool) → (f == g) ≡ a → (n == m) ≡ b → (a && b) ≡ true → ty.Array f n ≡ ty.Array g m
    pair true true p q h = ap (λ k. ty.Array k n) ((Decides-eqb f g).0 p) ∙ ap (ty.Array g) ((Decides-eqb n m).0 q)
    pair true false p q h = absurd (true≢false (sym h))
    pair false b p q h = absurd (true≢false (sym h))
same-type-is (ty.Ptr f) (ty.Ptr g) e = ap ty.Ptr ((Decides-eqb f g).0 e)
same-type-is t u e = absurd (true≢false (sym e))

found-type : (types : List Ty) (t : Ty) (n : ℕ) → position_from (same_type t) 0 types ≡ Some n → slice_get types n ≡ Some t
found-type types t n e =
    let (k, u, is, at, same) = found-at (same_type t) 0 types n e in
    let here : slice_get types n ≡ Some u = subst (λ m. slice_get types m ≡ Some u) (omega (arith, is)) at in
    here ∙ ap Some (sym (same-type-is t u same))

-- ---- the table begins with the scalar types

abbrev Starts : List Ty → Type 0
Starts types = (rest : List Ty) × (types ≡ scalars ++ rest)

type-starts : (types : List Ty) (t : Ty) → Starts types → Starts (with_type types t)
type-starts types t h = by (has_by (same_type t) types)
  where
    by : (b : Bool) → Starts (if b then types else types ++ t ∷ [])
    by true = h
    by false = let (rest, is) = h in (rest ++ t ∷ [], ap (λ ts. ts ++ t ∷ []) is)

starred-starts : (stars : ℕ) (types : List Ty) (t : Ty) → Starts types → Starts (with_starred types t stars)
starred-starts zero types t h = type-starts types t h
starred-starts (suc n) types t h = type-starts (with_starred types t n) (ty.Ptr (starred_place (with_starred types t n) t n)) (starred-starts n types t h)

spelling-starts : (t : Table) (u : Spelling) → Starts t.types → Starts (with_spelling t u).types
spelling-starts t (Starred b stars) h = starred-starts stars t.types (base_type t.structs b) h
spelling-starts t (Arrayed b stars n) h = by (can_repeat n (layout t (starred_place t.types (base_type t.structs b) stars)))
  where
    by : (c : Bool) → Starts (if c then record t { types = with_type t.types (ty.Array (starred_place t.types (base_type t.structs b) stars) n) } else t).types
    by true = type-starts t.types (ty.Array (starred_place t.types (base_type t.structs b) stars) n) h
    by false = h

spellings-start : (us : List Spelling) (t : Table) → Starts t.types → Starts (with_spellings t us).types
spellings-start [] t h = h
spellings-start (u ∷ us) t h = spellings-start us (with_spelling t u) (spelling-starts t u h)

struct-starts : (t : Table) (s : ℕ) (fields : List FieldDecl) → Starts t.types → Starts (with_struct t s fields).types
struct-starts t s fields h = by (can_define t s fields)
  where
    by : (c : Bool) → Starts (if c then with_definition t s fields else t).types
    by true = h
    by false = h

external-starts : (globals : List OuterGlobal) (t : Table) (x : External) → Starts t.types → Starts (with_external globals t x).types
external-starts globals t (StructDefined n fs) h =
    let u = with_spellings t (external_spellings (StructDefined n fs)) in
    struct-starts u (number_of_struct u.structs n.word) (map (field_of u globals (all_fields fs)) (all_fields fs)) (spellings-start (external_spellings (StructDefined n fs)) t h)
external-starts globals t (StructMentioned n) h = spellings-start (external_spellings (StructMentioned n)) t h
external-starts globals t (GlobalsDeclared b gs) h = spellings-start (external_spellings (GlobalsDeclared b gs)) t h
external-starts globals t (FunctionDeclared f) h = spellings-start (external_spellings (FunctionDeclared f)) t h

externals-start : (globals : List OuterGlobal) (xs : List External) (t : Table) → Starts t.types → Starts (with_externals globals t xs).types
externals-start globals [] t h = h
externals-start globals (x ∷ xs) t h = externals-start globals xs (with_external globals t x) (external-starts globals t x h)

types-start : (xs : List External) → Starts (table_of xs).types
types-start xs = externals-start (globals_of xs) xs (start xs) ([], refl)

-- ---- the type of a declarator is no array

abbrev is_spelled : Option Ty → Bool
is_spelled None = false
is_spelled (Some (ty.Array e n)) = false
is_spelled (Some _) = true

base-spelled : (structs : List (List ℕ)) (b : Base) → is_spelled (Some (base_type structs b)) ≡ true
base-spelled structs base.Char = refl
base-spelled structs base.Int = refl
base-spelled structs base.Long = refl
base-spelled structs base.Mutex = refl
base-spelled structs (base.Struct n) = refl

place-spelled : (types : List Ty) → Starts types → (t : Ty) → is_spelled (Some t) ≡ true → is_spelled (slice_get types (place_of_type types t)) ≡ true
place-spelled types start t h = by (position_from (same_type t) 0 types) refl
  where
    by : (o : Option ℕ) → position_from (same_type t) 0 types ≡ o → is_spelled (slice_get types (place_of_type types t)) ≡ true
    by None e = rw e (subst (λ ts. is_spelled (slice_get ts 0) ≡ true) (sym start.1) refl)
    by (Some n) e = rw e (subst (λ o. is_spelled o ≡ true) (sym (found-type types t n e)) h)

starred-spelled : (types : List Ty) → Starts types → (structs : List (List ℕ)) (b : Base) (stars : ℕ)
    → is_spelled (slice_get types (place_in types (spelled structs b stars))) ≡ true
starred-spelled types start structs b zero = place-spelled types start (base_type structs b) (base-spelled structs b)
starred-spelled types start structs b (suc n) = place-spelled types start (ty.Ptr (starred_place types (base_type structs b) n)) refl

-- ---- what names stand for

if-so : (b : Bool) (t : ℕ) → b ≡ true → if_so b (Of t) ≡ Some (Of t)
if-so true t e = refl
if-so false t e = absurd (true≢false (sym e))

global-points : (s : Scope) (k p t : ℕ) → slice_get s.globals k ≡ Some t → slice_get s.types.types p ≡ Some (ty.Ptr t) → is_constant s (constant.Global k) p ≡ true
global-points s k p t global at =
    subst (λ o. (elim o as (λ _. Bool) [ None ↦ false | (Some e) ↦ points_to s p e ]) ≡ true) (sym global)
    (subst (λ u. is_same (pointee_of u) t ≡ true) (sym at) (eq-eqb t t refl))

module _ (xs : List External) (defined : List Definition) (locals : List ℕ) (noted : Bool) where
  abbrev w : Whole
  w = whole xs

  abbrev s : Scope
  s = scope w defined locals noted

  abbrev type_of : OuterGlobal → ℕ
  type_of g = place_in w.types (global_type w.structs g)

  module _ (k : ℕ) (g : OuterGlobal) (here : slice_get w.globals k ≡ Some g) (p : ℕ) (found : place_of w.types (ty.Ptr (type_of g)) ≡ Some p) where
    at : slice_get w.types p ≡ Some (ty.Ptr (type_of g))
    at = found-type w.types (ty.Ptr (type_of g)) p found

    typed : HasType s p (Constant' (constant.Global k) p)
    typed = if-so (is_constant s (constant.Global k) p) p (global-points s k p (type_of g) (mapped-at type_of w.globals k g here) at)

    cell : (o : Option Ty) → slice_get w.types (type_of g) ≡ o → (is_integer_type o || is_some (pointee_of o)) ≡ true
        → (c : ℕ) → pointee s p ≡ Some c → is_scalar s c ≡ true
    cell o is h c points =
        let same : type_of g ≡ c = same_Some (type_of g) c (sym (ap pointee_of at) ∙ points) in
        subst (λ t. is_scalar s t ≡ true) same (subst (λ z. (is_integer_type z || is_some (pointee_of z)) ≡ true) (sym is) h)

    stands : (b : Bool) (o : Option Ty) → slice_get w.types (type_of g) ≡ o → is_spelled o ≡ true → IsSoundAs s (standing_of b o) p (Constant' (constant.Global k) p)
    stands true o is h = typed
    stands false None is h = absurd (true≢false (sym h))
    stands false (Some ty.Char) is h = (typed, cell (Some ty.Char) is refl)
    stands false (Some ty.Int) is h = (typed, cell (Some ty.Int) is refl)
    stands false (Some ty.Long) is h = (typed, cell (Some ty.Long) is refl)
    stands false (Some ty.Mutex) is h = typed
    stands false (Some (ty.Struct n)) is h = typed
    stands false (Some (ty.Array e n)) is h = absurd (true≢false (sym h))
    stands false (Some (ty.Ptr e)) is h = (typed, cell (Some (ty.Ptr e)) is refl)

  global-sound : (k : ℕ) (g : OuterGlobal) → slice_get w.globals k ≡ Some g → (o : Option ℕ) → place_of w.types (ty.Ptr (type_of g)) ≡ o
      → IsSoundMeaning s (global_meaning w k g o)
  global-sound k g here None found = tt
  global-sound k g here (Some p) found =
      stands k g here p found (is_array g) (slice_get w.types (type_of g)) refl
      (starred-spelled w.types (types-start xs) w.structs g.base (stars_of g.declarator.declarator.pointer))

  function-sound : (o : Option ℕ) → IsSoundMeaning s (function_meaning o)
  function-sound None = tt
  function-sound (Some k) = tt

  outer-sound : (name : List ℕ) (k : ℕ) (gs : List OuterGlobal) → ((i : ℕ) (g : OuterGlobal) → slice_get gs i ≡ Some g → slice_get w.globals (k + i) ≡ Some g)
      → IsSoundMeaning s (outer_meaning w k gs name)
  outer-sound name k [] h = function-sound (position_from (λ r. bytes_eq r.name.word name) 0 w.defined)
  outer-sound name k (g ∷ rest) h = by (bytes_eq (global_name g) name) (outer-sound name (suc k) rest (λ i x is. subst (λ n. slice_get w.globals n ≡ Some x) (omega arith) (h (suc i) x is)))
    where
      by : (b : Bool) → IsSoundMeaning s (outer_meaning w (suc k) rest name)
          → IsSoundMeaning s (if b then global_meaning w k g (place_of w.types (ty.Ptr (type_of g))) else outer_meaning w (suc k) rest name)
      by true later = global-sound k g (subst (λ n. slice_get w.globals n ≡ Some g) (omega arith) (h 0 g refl)) (place_of w.types (ty.Ptr (type_of g))) refl
      by false later = later

  pub file-right : is_pointer s (environment w defined locals noted).text ≡ true → IsRight (environment w defined locals noted)
  file-right text = record {
    names = λ name. outer-sound name 0 w.globals (λ i g is. subst (λ n. slice_get w.globals n ≡ Some g) (omega arith) is);
    words = λ word. tt;
    symbols = λ name. tt;
    text = text;
    mutex = subst (λ ts. is_integer_type (slice_get ts 3) ≡ false) (sym (types-start xs).1) refl;
  }
