-- What the code that makes the table of a typed file needs to know of it.
use Rattle.std.proofs.Common.{◌≡◌, ℕ, List, [], ◌∷◌, ◌++◌, map, take, Ok, refl, sym, ap, ◌∙◌, subst, append-nil}
use Rattle.kt_types.specs.Table.{Definition}
use Rattle.kt_tree.specs.Version.{AreDistinct}
use Rattle.kt_syntax.specs.Tree.{External}
use Rattle.kt_check.specs.declared.sofar.Defined.{Defined}
use Rattle.kt_names.specs.Types.{scalars}
use Rattle.kt_names.specs.Uses.{structs_of}
use Rattle.kt_names.specs.Tables.{struct_names, types_of}
use Rattle.kt_names.specs.Views.{latest_first}
use Rattle.kt_check.specs.Files.{Sofar, frame_of, nothing_yet, externals}
use Rattle.kt_check.specs.Built.{definition_seen, reversed_onto, CanBuild}
use Rattle.kt_check.proofs.ExternalTypes.{types-begin}
use Rattle.kt_check.proofs.NameTables.{names-distinct, none-distinct}
use Rattle.kt_check.proofs.Builds.{file-builds}

pub structs-distinct : (xs : List External) → AreDistinct (struct_names xs)
structs-distinct xs = names-distinct [] (structs_of xs) none-distinct

pub types-first : (xs : List External) → take 4 (types_of xs) ≡ scalars
types-first xs = ap (take 4) (types-begin xs).1

reversed-twice : (xs ys : List Definition) → reversed_onto (reversed_onto xs ys) [] ≡ reversed_onto ys xs
reversed-twice [] ys = refl
reversed-twice (x ∷ xs) ys = reversed-twice xs (x ∷ ys)

seen-push : (xs : List Defined) (x : Defined) (before : List Definition) → map definition_seen (xs ++ x ∷ []) ++ before ≡ map definition_seen xs ++ (definition_seen x ∷ before)
seen-push [] x before = refl
seen-push (y ∷ xs) x before = ap (λ l. definition_seen y ∷ l) (seen-push xs x before)

latest-onto : (xs : List Defined) (before : List Definition) → reversed_onto (map definition_seen xs) before ≡ map definition_seen (latest_first xs) ++ before
latest-onto [] before = refl
latest-onto (x ∷ xs) before = latest-onto xs (definition_seen x ∷ before) ∙ sym (seen-push (latest_first xs) x before)

-- the code keeps the latest definition last
pub latest-are : (xs : List Defined) → reversed_onto (map definition_seen xs) [] ≡ map definition_seen (latest_first xs)
latest-are xs = latest-onto xs [] ∙ append-nil (map definition_seen (latest_first xs))

-- the definitions of a typed file may be made in their order
pub definitions-build : (xs : List External) (z : Sofar) (defs : List Defined) → externals (frame_of xs) nothing_yet xs ≡ Ok z → z.defined ≡ map definition_seen (latest_first defs)
    → CanBuild (types_of xs) (struct_names xs) 4 [] (map definition_seen defs)
definitions-build xs z defs run is =
    let (rest, ends, can) = file-builds xs z run in
    let same : rest ≡ map definition_seen defs =
    sym (reversed-twice rest []) ∙ ap (λ l. reversed_onto l []) (ends ∙ is ∙ sym (latest-are defs)) ∙ reversed-twice (map definition_seen defs) [] in
    subst (CanBuild (types_of xs) (struct_names xs) 4 []) same can
