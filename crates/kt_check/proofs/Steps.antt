-- The run through a file as single steps: structs, globals and functions one by one, and what stays of each.
use Rattle.std.proofs.Common.{◌≡◌, ℕ, suc, true, List, [], ◌∷◌, ◌++◌, map, slice_get, Some, Ok, refl, sym, ap, ◌∙◌, subst}
use Rattle.std.specs.Option.{option_map}
use Rattle.std.specs.List.{AllByRecursion}
use Rattle.std.specs.Prelude.{flat_map}
use Rattle.std.proofs.lemmas.Option.{slice_get-map}
use Rattle.kt_tree.specs.declared.global.GlobalDecl.{GlobalDecl}
use Rattle.kt_grammar.specs.declared.tree.Base.{Base}
use Rattle.kt_grammar.specs.declared.tree.Name.{Name}
use Rattle.kt_syntax.specs.declared.tree.GlobalDeclarator.{GlobalDeclarator}
use Rattle.kt_syntax.specs.declared.tree.Fields.{Fields}
use Rattle.kt_syntax.specs.Tree.{Routine, External, StructMentioned, StructDefined, GlobalsDeclared, FunctionDeclared}
use Rattle.kt_names.specs.Environment.{is_complete}
use Rattle.kt_names.specs.Uses.{stars_of, head_uses, body_uses}
use Rattle.kt_names.specs.Tables.{OuterGlobal, globals_in, globals_of, functions_in, functions_of, global_type}
use Rattle.kt_names.specs.Statements.{base_for}
use Rattle.kt_check.specs.Files.{Frame, Sofar, outside, fields_in, global, with_global, globals_from, function, struct, external, externals}
use Rattle.kt_check.proofs.AllNamed.{IsNamedDeclarator, IsNamedRoutine, IsNamed}
use Rattle.kt_terms.proofs.Agrees.{HasUse}
use Rattle.kt_check.proofs.ExternalTypes.{FieldsHave, GlobalHas, ExternalHas}
use Rattle.kt_check.proofs.FieldCells.{all-both, then-parts, same-ok, base-complete}

-- a struct, a global or a function of a file
pub data Item : Type 0 where
  AStruct : Name → List Fields → Item
  AGlobal : OuterGlobal → Item
  ARoutine : Routine → Item

abbrev pub one_global : Base → GlobalDeclarator → OuterGlobal
one_global b g = record { base = b; declarator = g }

abbrev pub items_in : External → List Item
items_in (StructMentioned n) = []
items_in (StructDefined n fs) = AStruct n fs ∷ []
items_in (GlobalsDeclared b gs) = map (λ g. AGlobal (one_global b g)) gs
items_in (FunctionDeclared r) = ARoutine r ∷ []

abbrev pub items_of : List External → List Item
items_of xs = flat_map items_in xs

-- what the typing of one of them makes of what was declared so far
abbrev pub Step : Frame → Sofar → Item → Sofar → Type 0
Step f s (AStruct n fs) t = struct f s n fs ≡ Ok t
Step f s (AGlobal g) t =
    (d : GlobalDecl) × (is_complete (outside f s) (global_type f.names g) ≡ true) × (global f s g.base g.declarator ≡ Ok d) × (with_global f s g.base g.declarator d ≡ t)
Step f s (ARoutine r) t = function f s r ≡ Ok t

abbrev pub Steps : Frame → Sofar → List Item → Sofar → Type 0
Steps f s [] z = s ≡ z
Steps f s (x ∷ xs) z = (t : Sofar) × Step f s x t × Steps f t xs z

pub steps-on : (f : Frame) (xs ys : List Item) (s t z : Sofar) → Steps f s xs t → Steps f t ys z → Steps f s (xs ++ ys) z
steps-on f [] ys s t z h k = subst (λ u. Steps f u ys z) (sym h) k
steps-on f (x ∷ xs) ys s t z h k = (h.0, h.1, steps-on f xs ys h.0 t z h.2 k)

module _ (f : Frame) where
  global-steps : (b : Base) (gs : List GlobalDeclarator) (s t : Sofar)
      → ((u : Sofar) → u.structs ≡ s.structs → (i : ℕ) (g : GlobalDeclarator) → slice_get gs i ≡ Some g → is_complete (outside f u) (global_type f.names (one_global b g)) ≡ true)
      → globals_from f s b gs ≡ Ok t → Steps f s (map (λ g. AGlobal (one_global b g)) gs) t
  global-steps b [] s t complete e = same-ok s t e
  global-steps b (g ∷ gs) s t complete e =
      let (d, made, rest) = then-parts (global f s b g) _ t e in
      (with_global f s b g d, (d, complete s refl 0 g refl, made, refl), global-steps b gs (with_global f s b g d) t (λ u is i h at. complete u is (suc i) h at) rest)

  external-steps : (x : External) (s t : Sofar) → external f s x ≡ Ok t → Steps f s (items_in x) t
  external-steps (StructMentioned n) s t e = same-ok s t e
  external-steps (StructDefined n fs) s t e = (t, e, refl)
  external-steps (GlobalsDeclared b gs) s t e =
      let (u, based, rest) = then-parts (base_for (outside f s) b (map (λ g. stars_of g.declarator.pointer) gs)) _ t e in
      global-steps b gs s t
      (λ v is i g at. subst (λ l. is_complete (record (outside f s) { structs = l }) (global_type f.names (one_global b g)) ≡ true) (sym is)
      (base-complete (outside f s) b (map (λ h. stars_of h.declarator.pointer) gs) u based i (stars_of g.declarator.pointer)
      (slice_get-map (λ h. stars_of h.declarator.pointer) gs i ∙ ap (option_map (λ h. stars_of h.declarator.pointer)) at)))
      rest
  external-steps (FunctionDeclared r) s t e = (t, e, refl)

  -- a run is such steps
  pub externals-steps : (xs : List External) (s z : Sofar) → externals f s xs ≡ Ok z → Steps f s (items_of xs) z
  externals-steps [] s z e = same-ok s z e
  externals-steps (x ∷ xs) s z e =
      let (t, first, rest) = then-parts (external f s x) _ z e in
      steps-on f (items_in x) (items_of xs) s t z (external-steps x s t first) (externals-steps xs t z rest)

-- ---- what is declared

abbrev pub globals_among : List Item → List OuterGlobal
globals_among [] = []
globals_among (AStruct n fs ∷ xs) = globals_among xs
globals_among (AGlobal g ∷ xs) = g ∷ globals_among xs
globals_among (ARoutine r ∷ xs) = globals_among xs

abbrev pub routines_among : List Item → List Routine
routines_among [] = []
routines_among (AStruct n fs ∷ xs) = routines_among xs
routines_among (AGlobal g ∷ xs) = routines_among xs
routines_among (ARoutine r ∷ xs) = r ∷ routines_among xs

globals-both : (xs ys : List Item) → globals_among (xs ++ ys) ≡ globals_among xs ++ globals_among ys
globals-both [] ys = refl
globals-both (AStruct n fs ∷ xs) ys = globals-both xs ys
globals-both (AGlobal g ∷ xs) ys = ap (λ l. g ∷ l) (globals-both xs ys)
globals-both (ARoutine r ∷ xs) ys = globals-both xs ys

routines-both : (xs ys : List Item) → routines_among (xs ++ ys) ≡ routines_among xs ++ routines_among ys
routines-both [] ys = refl
routines-both (AStruct n fs ∷ xs) ys = routines-both xs ys
routines-both (AGlobal g ∷ xs) ys = routines-both xs ys
routines-both (ARoutine r ∷ xs) ys = ap (λ l. r ∷ l) (routines-both xs ys)

globals-map : (b : Base) (gs : List GlobalDeclarator) → globals_among (map (λ g. AGlobal (one_global b g)) gs) ≡ map (one_global b) gs
globals-map b [] = refl
globals-map b (g ∷ gs) = ap (λ l. one_global b g ∷ l) (globals-map b gs)

routines-map : (b : Base) (gs : List GlobalDeclarator) → routines_among (map (λ g. AGlobal (one_global b g)) gs) ≡ []
routines-map b [] = refl
routines-map b (g ∷ gs) = routines-map b gs

globals-one : (x : External) → globals_among (items_in x) ≡ globals_in x
globals-one (StructMentioned n) = refl
globals-one (StructDefined n fs) = refl
globals-one (GlobalsDeclared b gs) = globals-map b gs
globals-one (FunctionDeclared r) = refl

routines-one : (x : External) → routines_among (items_in x) ≡ functions_in x
routines-one (StructMentioned n) = refl
routines-one (StructDefined n fs) = refl
routines-one (GlobalsDeclared b gs) = routines-map b gs
routines-one (FunctionDeclared r) = refl

pub globals-all : (xs : List External) → globals_among (items_of xs) ≡ globals_of xs
globals-all [] = refl
globals-all (x ∷ xs) = globals-both (items_in x) (items_of xs) ∙ (rw (globals-one x, globals-all xs) refl)

pub routines-all : (xs : List External) → routines_among (items_of xs) ≡ functions_of xs
routines-all [] = refl
routines-all (x ∷ xs) = routines-both (items_in x) (items_of xs) ∙ (rw (routines-one x, routines-all xs) refl)

-- ---- all types of an item have their places

abbrev pub ItemHas : Frame → Item → Type 0
ItemHas f (AStruct n fs) = AllByRecursion (λ x. FieldsHave f.names x f.types) fs
ItemHas f (AGlobal g) = GlobalHas f.names g.base g.declarator f.types
ItemHas f (ARoutine r) = AllByRecursion (HasUse f.names f.types) (head_uses r ++ body_uses r)

globals-have : (f : Frame) (b : Base) (gs : List GlobalDeclarator) → AllByRecursion (λ g. GlobalHas f.names b g f.types) gs → AllByRecursion (ItemHas f) (map (λ g. AGlobal (one_global b g)) gs)
globals-have f b [] h = tt
globals-have f b (g ∷ gs) h = (h.0, globals-have f b gs h.1)

item-has : (f : Frame) (x : External) → ExternalHas f.names x f.types → AllByRecursion (ItemHas f) (items_in x)
item-has f (StructMentioned n) h = tt
item-has f (StructDefined n fs) h = (h, tt)
item-has f (GlobalsDeclared b gs) h = globals-have f b gs h
item-has f (FunctionDeclared r) h = (h, tt)

pub items-have : (f : Frame) (xs : List External) → AllByRecursion (λ x. ExternalHas f.names x f.types) xs → AllByRecursion (ItemHas f) (items_of xs)
items-have f [] h = tt
items-have f (x ∷ xs) h = all-both (ItemHas f) (items_in x) (items_of xs) (item-has f x h.0) (items-have f xs h.1)

-- ---- the names of an item are identifiers

abbrev pub ItemNamed : Frame → Item → Type 0
ItemNamed f (AStruct n fs) = AllByRecursion (λ x. IsNamedDeclarator x.declarator) (fields_in fs)
ItemNamed f (AGlobal g) = IsNamedDeclarator g.declarator.declarator
ItemNamed f (ARoutine r) = IsNamedRoutine f.names r

globals-named : (f : Frame) (b : Base) (gs : List GlobalDeclarator) → AllByRecursion (λ g. IsNamedDeclarator g.declarator) gs → AllByRecursion (ItemNamed f) (map (λ g. AGlobal (one_global b g)) gs)
globals-named f b [] h = tt
globals-named f b (g ∷ gs) h = (h.0, globals-named f b gs h.1)

item-named : (f : Frame) (x : External) → IsNamed f.names x → AllByRecursion (ItemNamed f) (items_in x)
item-named f (StructMentioned n) h = tt
item-named f (StructDefined n fs) h = (h, tt)
item-named f (GlobalsDeclared b gs) h = globals-named f b gs h
item-named f (FunctionDeclared r) h = (h, tt)

pub items-named : (f : Frame) (xs : List External) → AllByRecursion (IsNamed f.names) xs → AllByRecursion (ItemNamed f) (items_of xs)
items-named f [] h = tt
items-named f (x ∷ xs) h = all-both (ItemNamed f) (items_in x) (items_of xs) (item-named f x h.0) (items-named f xs h.1)
