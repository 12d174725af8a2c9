-- How the logic stores a version: by the code's trees of its functions.
use Rattle.std.specs.Prelude.{◌≡◌, ℕ, List, [], ◌∷◌, map, refl}
use Rattle.std.specs.Coded.{Coded, code_by, coded×}
use Rattle.kt_types.specs.contracts.lists.Points as points
use Rattle.kt_types.specs.contracts.table.TypeTable as types
use Rattle.kt_types.specs.PointNames.{PointNames}
use Rattle.kt_types.specs.Table.{Table}
use Rattle.kt_tree.specs.contracts.lists.Functions as functions
use Rattle.kt_tree.specs.contracts.lists.Globals as globals
use Rattle.kt_tree.specs.contracts.lists.Literals as literals
use Rattle.kt_tree.specs.declared.function.Fun.{Fun}
use Rattle.kt_tree.specs.declared.global.GlobalDecl.{GlobalDecl}
use Rattle.kt_tree.specs.Back.{fun_of, back_function}
use Rattle.kt_tree.specs.Tree.{Function, function_of}
use Rattle.kt_tree.specs.Version.{Program}

pub back_functions : (fs : List Function) → map function_of (map fun_of fs) ≡ fs
back_functions [] = refl
back_functions (f ∷ fs) = λ i. back_function f i ∷ back_functions fs i

abbrev pub program_code : Coded Program
program_code =
    code_by (Table × (List GlobalDecl × (List (List ℕ) × (List Fun × PointNames))))
    (coded× types.the_row.coded (coded× globals.the_row.coded (coded× literals.the_row.coded (coded× functions.the_row.coded points.the_row.coded))))
    (λ p. (p.types, (p.globals, (p.literals, (map fun_of p.functions, p.points)))))
    (λ q. record { types = q.0; globals = q.1.0; literals = q.1.1.0; functions = map function_of q.1.1.1.0; points = q.1.1.1.1 })
    (λ p i. record { types = p.types; globals = p.globals; literals = p.literals; functions = back_functions p.functions i; points = p.points })
