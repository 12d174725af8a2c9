-- The names of a program are words of a line.
use Rattle.std.proofs.Common.{◌≡◌, ℕ, zero, suc, Bool, true, false, List, [], ◌∷◌, ◌++◌, map, refl}
use Rattle.std.specs.Prelude.{Option, Some, None, slice_get, ◌&&◌}
use Rattle.std.specs.List.{list_all, AllByRecursion}
use Rattle.std.proofs.lemmas.Bool.{false≢true, and_parts}
use Rattle.kt_types.specs.declared.kinds.FieldDecl.{FieldDecl}
use Rattle.kt_tree.specs.declared.global.GlobalDecl.{GlobalDecl}
use Rattle.kt_tree.specs.Names as tree
use Rattle.kt_tree.specs.Tree.{Function}
use Rattle.kt_tree.specs.Version.{Program, IsProgram, IsFunction, global_names, function_names}
use Rattle.kt_grammar.specs.Identifiers.{is_identifier}
use Rattle.kt_world.specs.Job.{Job, version_at}
use Rattle.kt_journal.specs.Marks.{name_of_global, name_of_function, name_of_local, local_at, global_name, function_name, local_name}
use Rattle.kt_journal.proofs.Clean.{name-cleans}
use Rattle.kt_journal.proofs.Splitting.{IsClean}

-- identifiers of programs are those of journals
identifier : (word : List ℕ) → tree.is_identifier word ≡ true → is_identifier word ≡ true
identifier [] is = absurd (false≢true is)
identifier (b ∷ bytes) is = is

-- what holds of each entry of a list, and of none, holds of the entry of any number
pub at : {A : Type 0} (P : Option A → Type 0) (Q : A → Type 0) → P None → ((x : A) → Q x → P (Some x)) → (xs : List A) → AllByRecursion Q xs → (i : ℕ) → P (slice_get xs i)
at P Q none some [] all i = none
at P Q none some (x ∷ xs) all zero = some x all.0
at P Q none some (x ∷ xs) all (suc i) = at P Q none some xs all.1 i

pub both : (xs ys : List (List ℕ)) → list_all tree.is_identifier (xs ++ ys) ≡ true → (list_all tree.is_identifier xs ≡ true) × (list_all tree.is_identifier ys ≡ true)
both [] ys all = (refl, all)
both (x ∷ xs) ys all =
    let parts = and_parts (tree.is_identifier x) (list_all tree.is_identifier (xs ++ ys)) all in
    let rest = both xs ys parts.1 in
    (joined (tree.is_identifier x) (list_all tree.is_identifier xs) parts.0 rest.0, rest.1)
  where
    joined : (a b : Bool) → a ≡ true → b ≡ true → (a && b) ≡ true
    joined true b h k = k
    joined false b h k = absurd (false≢true h)

pub named : {A : Type 0} (name : A → List ℕ) (xs : List A) → list_all tree.is_identifier (map name xs) ≡ true → AllByRecursion (λ x. is_identifier (name x) ≡ true) xs
named name [] all = tt
named name (x ∷ xs) all =
    let parts = and_parts (tree.is_identifier (name x)) (list_all tree.is_identifier (map name xs)) all in
    (identifier (name x) parts.0, named name xs parts.1)

-- a program, where there is one
abbrev pub IsProgramIf : Option Program → Type 0
IsProgramIf None = Unit {0}
IsProgramIf (Some p) = IsProgram p

pub program-at : (job : Job) → AllByRecursion IsProgram job.versions → (v : ℕ) → IsProgramIf (version_at job v)
program-at job all v = at IsProgramIf IsProgram tt (λ p is. is) job.versions all v

no-name : IsClean []
no-name = (refl, refl)

pub global-clean : (new : Option Program) (g : ℕ) → IsProgramIf new → IsClean (global_name new g)
global-clean None g is = no-name
global-clean (Some p) g is =
    at (λ o. IsClean (name_of_global o)) (λ x. is_identifier x.name ≡ true) no-name (λ x h. name-cleans x.name h) p.globals
    (named (λ (x : GlobalDecl). x.name) p.globals (both (global_names p) (function_names p) is.names).0) g

pub function-clean : (new : Option Program) (f : ℕ) → IsProgramIf new → IsClean (function_name new f)
function-clean None f is = no-name
function-clean (Some p) f is =
    at (λ o. IsClean (name_of_function o)) (λ x. is_identifier x.name ≡ true) no-name (λ x h. name-cleans x.name h) p.functions
    (named (λ (x : Function). x.name) p.functions (both (global_names p) (function_names p) is.names).1) f

abbrev IsFunctionIf : Program → Option Function → Type 0
IsFunctionIf p None = Unit {0}
IsFunctionIf p (Some f) = IsFunction p f

local-of : (p : Program) (o : Option Function) (x : ℕ) → IsFunctionIf p o → IsClean (name_of_local (local_at o x))
local-of p None x is = no-name
local-of p (Some f) x is =
    at (λ o. IsClean (name_of_local o)) (λ d. is_identifier d.name ≡ true) no-name (λ d h. name-cleans d.name h) f.locals
    (named (λ (d : FieldDecl). d.name) f.locals is.names) x

pub local-clean : (new : Option Program) (f x : ℕ) → IsProgramIf new → IsClean (local_name new f x)
local-clean None f x is = no-name
local-clean (Some p) f x is =
    local-of p (slice_get p.functions f) x (at (IsFunctionIf p) (IsFunction p) tt (λ g h. h) p.functions is.functions f)
