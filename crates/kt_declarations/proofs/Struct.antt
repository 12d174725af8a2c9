-- The structs that a file names.
use Rattle.std.proofs.Common.{if◌then◌else◌, ◌≡◌, ℕ, zero, suc, Bool, true, false, ◌&&◌, ◌||◌, List, [], ◌∷◌, ◌++◌, flat_map, slice_get, Some, refl, sym, ap, ◌∙◌, subst}
use Rattle.std.specs.List.{list_all}
use Rattle.std.specs.Str.{bytes_eq}
use Rattle.std.proofs.lemmas.Option.{none-some}
use Rattle.kt_syntax.specs.Tree.{External, FunctionDeclared, Routine}
use Rattle.kt_program.specs.Gathered.{struct_names}
use Rattle.kt_program.specs.Mentioned.{declared_structs, body_structs, structs_of}
use Rattle.kt_program.specs.Scopes.{contains}
use Rattle.kt_program.specs.Types.{has_by, with_name, with_names}
use Rattle.kt_declarations.specs.Met.{HasStructs}
use Rattle.kt_declarations.proofs.Mapped.{itself}
use Rattle.kt_declarations.proofs.Spelled.{and-first, and-second, and-both}
use Rattle.kt_declarations.proofs.Within.{any-push, found-any}

has-is : (names : List (List ℕ)) (n : List ℕ) → has_by (λ m. bytes_eq m n) names ≡ contains names n
has-is names n = found-any (λ m. bytes_eq m n) 0 names

or-true : (b : Bool) → (b || true) ≡ true
or-true true = refl
or-true false = refl

-- a name that is added is there, and others stay
added-there : (names : List (List ℕ)) (n : List ℕ) → contains (with_name names n) n ≡ true
added-there names n = by (has_by (λ m. bytes_eq m n) names) refl
  where
    by : (b : Bool) → has_by (λ m. bytes_eq m n) names ≡ b → contains (if b then names else names ++ n ∷ []) n ≡ true
    by true e = sym (has-is names n) ∙ e
    by false e = any-push (λ m. bytes_eq m n) names n ∙ ap (λ b. b || contains names n) (itself n)

stays-there : (names : List (List ℕ)) (n q : List ℕ) → contains names q ≡ true → contains (with_name names n) q ≡ true
stays-there names n q h = by (has_by (λ m. bytes_eq m n) names)
  where
    by : (b : Bool) → contains (if b then names else names ++ n ∷ []) q ≡ true
    by true = h
    by false = any-push (λ m. bytes_eq m q) names n ∙ ap (λ b. bytes_eq n q || b) h ∙ or-true (bytes_eq n q)

all-stay : (ns names : List (List ℕ)) (q : List ℕ) → contains names q ≡ true → contains (with_names names ns) q ≡ true
all-stay [] names q h = h
all-stay (n ∷ ns) names q h = all-stay ns (with_name names n) q (stays-there names n q h)

all-there : (ns names : List (List ℕ)) → list_all (contains (with_names names ns)) ns ≡ true
all-there [] names = refl
all-there (n ∷ ns) names =
    and-both (contains (with_names (with_name names n) ns) n) (list_all (contains (with_names (with_name names n) ns)) ns)
    (all-stay ns (with_name names n) n (added-there names n)) (all-there ns (with_name names n))

module _ (test : List ℕ → Bool) where
  all-append : (xs ys : List (List ℕ)) → list_all test (xs ++ ys) ≡ (list_all test xs && list_all test ys)
  all-append [] ys = refl
  all-append (x ∷ xs) ys = ap (λ b. test x && b) (all-append xs ys) ∙ assoc (test x)
    where
      assoc : (a : Bool) → (a && (list_all test xs && list_all test ys)) ≡ ((a && list_all test xs) && list_all test ys)
      assoc true = refl
      assoc false = refl

  of-part : (xs : List External) (i : ℕ) (x : External) → slice_get xs i ≡ Some x → list_all test (flat_map declared_structs xs) ≡ true → list_all test (declared_structs x) ≡ true
  of-part [] i x e h = absurd (none-some x e)
  of-part (y ∷ xs) zero x e h =
      let is : y ≡ x = cc in
      subst (λ z. list_all test (declared_structs z) ≡ true) is
      (and-first (list_all test (declared_structs y)) (list_all test (flat_map declared_structs xs)) (sym (all-append (declared_structs y) (flat_map declared_structs xs)) ∙ h))
  of-part (y ∷ xs) (suc i) x e h =
      of-part xs i x e (and-second (list_all test (declared_structs y)) (list_all test (flat_map declared_structs xs)) (sym (all-append (declared_structs y) (flat_map declared_structs xs)) ∙ h))

pub names-there : (xs : List External) (i : ℕ) (r : Routine) → slice_get xs i ≡ Some (FunctionDeclared r) → HasStructs (struct_names xs) r
names-there xs i r e =
    let test = contains (struct_names xs) in
    of-part test xs i (FunctionDeclared r) e
    (and-first (list_all test (flat_map declared_structs xs)) (list_all test (flat_map body_structs xs))
    (sym (all-append test (flat_map declared_structs xs) (flat_map body_structs xs)) ∙ all-there (structs_of xs) []))
