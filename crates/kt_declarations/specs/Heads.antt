-- What is judged of the head of a function.
use Rattle.std.specs.Prelude.{ℕ, ◌==◌, Bool, true, false, ◌&&◌, not, List, [], ◌∷◌, Option, Some, None}
use Rattle.std.specs.Str.{bytes_eq}
use Rattle.kt_grammar.specs.declared.tree.Base.{Base}
use Rattle.kt_grammar.specs.declared.tree.Base.TheVariants as base
use Rattle.kt_syntax.specs.declared.tree.Parameter.{Parameter}
use Rattle.kt_syntax.specs.Tree.{Routine}
use Rattle.kt_types.specs.Table.{Definition}
use Rattle.kt_typing.specs.Environment.{Environment}
use Rattle.kt_typing.specs.Faults.{bad_type}
use Rattle.kt_program.specs.Declarators.{where_not}
use Rattle.kt_program.specs.Functions.{nowhere, body_of, parameters, body_judged, result_place, result_complete, is_result, is_other_type, function_twice}
use Rattle.kt_program.specs.Judgments.{Judgment, Held, NoMore, And}
use Rattle.kt_program.specs.Made.{joined}
use Rattle.kt_program.specs.Mentioned.{stars_of, result_stars}
use Rattle.kt_program.specs.Outside.{Whole}
use Rattle.kt_program.specs.Statements.{under}

-- what is judged of a function, of which this is judged of its parameters and its body
abbrev pub head_judged : Environment → Whole → List (List ℕ) → List Routine → Routine → Judgment → Judgment
head_judged env w globals before r inside =
    under (result_complete env r.result r)
    (under (where_not (is_result env r.result r.stars) (bad_type (result_place r.stars r)))
    (under (function_twice globals before r)
    (under (where_not (not (is_other_type w before r)) (bad_type r.name.at)) inside)))

-- ---- types as they are written

abbrev pub same_base : Base → Base → Bool
same_base base.Char base.Char = true
same_base base.Int base.Int = true
same_base base.Long base.Long = true
same_base base.Mutex base.Mutex = true
same_base (base.Struct n) (base.Struct m) = bytes_eq n.word m.word
same_base _ _ = false

abbrev pub same_written : Base → ℕ → Base → ℕ → Bool
same_written a i b j = same_base a b && (i == j)

abbrev pub same_results : Option Base → ℕ → Option Base → ℕ → Bool
same_results None i None j = true
same_results (Some a) i (Some b) j = same_written a i b j
same_results _ i _ j = false

abbrev pub same_parameters : List Parameter → List Parameter → Bool
same_parameters [] [] = true
same_parameters (p ∷ ps) (q ∷ qs) = same_written p.base (stars_of p.pointer) q.base (stars_of q.pointer) && same_parameters ps qs
same_parameters _ _ = false

-- two heads have the same result and parameters
abbrev pub same_head : Routine → Routine → Bool
same_head a b = same_results a.result (result_stars a.stars) b.result (result_stars b.stars) && same_parameters a.parameters b.parameters

-- what is judged of a function's parameters and body
abbrev pub inside : Whole → List Definition → Routine → Judgment
inside w structs r =
    let body = body_of w structs r in
    Held None (And (Held None (parameters body nowhere r.parameters) joined) (And (body_judged body r.parameters r.body) NoMore)) joined
