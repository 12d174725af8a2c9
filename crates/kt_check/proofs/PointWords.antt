-- The names of points that a file writes have the form of such names.
use Rattle.std.proofs.Common.{◌≡◌, true, List, [], ◌∷◌, refl}
use Rattle.std.specs.List.{AllByRecursion, list_all}
use Rattle.std.proofs.lemmas.Bool.{and_from}
use Rattle.kt_tree.specs.Names.{is_point_name}
use Rattle.kt_syntax.specs.Tree.{External}
use Rattle.kt_names.specs.Tables.{Written, Literal, Updates, Asks, written_of, updates_in, asks_in, update_names, point_names}
use Rattle.kt_check.proofs.NameTables.{names-all}

-- a name of a point has the form of one
abbrev pub IsPointWord : Written → Type 0
IsPointWord (Literal p bytes) = Unit {0}
IsPointWord (Updates n) = is_point_name n ≡ true
IsPointWord (Asks n) = is_point_name n ≡ true

updates-named : (ws : List Written) → AllByRecursion IsPointWord ws → list_all is_point_name (updates_in ws) ≡ true
updates-named [] h = refl
updates-named (Literal p bytes ∷ ws) h = updates-named ws h.1
updates-named (Updates n ∷ ws) h = and_from (is_point_name n) _ h.0 (updates-named ws h.1)
updates-named (Asks n ∷ ws) h = updates-named ws h.1

asks-named : (ws : List Written) → AllByRecursion IsPointWord ws → list_all is_point_name (asks_in ws) ≡ true
asks-named [] h = refl
asks-named (Literal p bytes ∷ ws) h = asks-named ws h.1
asks-named (Updates n ∷ ws) h = asks-named ws h.1
asks-named (Asks n ∷ ws) h = and_from (is_point_name n) _ h.0 (asks-named ws h.1)

pub points-named : (xs : List External) → AllByRecursion IsPointWord (written_of xs) → list_all is_point_name (point_names xs) ≡ true
points-named xs h =
    names-all is_point_name (update_names xs) (asks_in (written_of xs)) (names-all is_point_name [] (updates_in (written_of xs)) refl (updates-named (written_of xs) h)) (asks-named (written_of xs) h)
