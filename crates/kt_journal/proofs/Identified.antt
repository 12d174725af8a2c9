-- Names at places of a program are identifiers.
use Rattle.std.proofs.Common.{◌≡◌, ℕ, zero, suc, ◌<◌, true, List, [], ◌∷◌, length, ap, subst, ◌∙◌, arith}
use Rattle.std.specs.Prelude.{Option, Some, None, slice_get}
use Rattle.std.specs.List.{AllByRecursion}
use Rattle.std.proofs.lemmas.Option.{slice_get_within}
use Rattle.kt_types.specs.declared.kinds.FieldDecl.{FieldDecl}
use Rattle.kt_tree.specs.declared.global.GlobalDecl.{GlobalDecl}
use Rattle.kt_tree.specs.Tree.{Function}
use Rattle.kt_tree.specs.Version.{Program, IsProgram, IsFunction, global_names, function_names}
use Rattle.kt_grammar.specs.Identifiers.{is_identifier}
use Rattle.kt_world.specs.Told.{HasLocal}
use Rattle.kt_journal.specs.Marks.{function_name, global_name, local_at, local_name, name_of_function, name_of_global, name_of_local}
use Rattle.kt_journal.proofs.Named.{both, named}

-- what holds of each entry of a list holds of the entry of any number below its length
within : {A : Type 0} (P : Option A → Type 0) (Q : A → Type 0) → ((x : A) → Q x → P (Some x)) → (xs : List A) → AllByRecursion Q xs → (i : ℕ) → i < length xs → P (slice_get xs i)
within P Q some [] all i h = absurd (omega (arith, h))
within P Q some (x ∷ xs) all zero h = some x all.0
within P Q some (x ∷ xs) all (suc i) h = within P Q some xs all.1 i (omega (arith, h))

pub global-named : (p : Program) (g : ℕ) → IsProgram p → g < length p.globals → is_identifier (global_name (Some p) g) ≡ true
global-named p g is there =
    within (λ o. is_identifier (name_of_global o) ≡ true) (λ (x : GlobalDecl). is_identifier x.name ≡ true) (λ x h. h) p.globals
    (named (λ (x : GlobalDecl). x.name) p.globals (both (global_names p) (function_names p) is.names).0) g there

pub function-named : (p : Program) (f x : ℕ) → IsProgram p → HasLocal p f x → is_identifier (function_name (Some p) f) ≡ true
function-named p f x is there =
    within (λ o. is_identifier (name_of_function o) ≡ true) (λ (g : Function). is_identifier g.name ≡ true) (λ g h. h) p.functions
    (named (λ (g : Function). g.name) p.functions (both (global_names p) (function_names p) is.names).1) f
    (slice_get_within p.functions f there.function there.is)

pub local-named : (p : Program) (f x : ℕ) → IsProgram p → HasLocal p f x → is_identifier (local_name (Some p) f x) ≡ true
local-named p f x is there =
    let function = within (λ o. (g : Function) → o ≡ Some g → IsFunction p g) (IsFunction p) (λ g h k same. subst (λ o. is-if o) same h) p.functions is.functions f
    (slice_get_within p.functions f there.function there.is) there.function there.is in
    ap (λ o. is_identifier (name_of_local (local_at o x))) there.is
    ∙ within (λ o. is_identifier (name_of_local o) ≡ true) (λ (d : FieldDecl). is_identifier d.name ≡ true) (λ d h. h) there.function.locals
    (named (λ (d : FieldDecl). d.name) there.function.locals function.names) x there.within
  where
    is-if : Option Function → Type 0
    is-if None = Unit {0}
    is-if (Some g) = IsFunction p g
