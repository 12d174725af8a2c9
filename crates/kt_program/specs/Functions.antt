-- What is judged of functions: their results, their declarations against one another, parameters and bodies (ISO/IEC
-- 9899:2011, 6.7.6.3 and 6.9.1).
use Rattle.std.specs.Prelude.{ℕ, Bool, false, ◌&&◌, ◌||◌, not, List, [], ◌∷◌, map, Option, Some, None}
use Rattle.std.specs.List.{list_any}
use Rattle.std.specs.Option.{is_some, option_map}
use Rattle.std.specs.Str.{bytes_eq}
use Rattle.kt_grammar.specs.declared.tree.Base.{Base}
use Rattle.kt_syntax.specs.declared.tree.Parameter.{Parameter}
use Rattle.kt_syntax.specs.declared.tree.Stars.{Stars}
use Rattle.kt_syntax.specs.Tree.{Definition as Block, Routine}
use Rattle.kt_types.specs.Table.{Definition}
use Rattle.kt_typing.specs.declared.fault.Fault.{Fault}
use Rattle.kt_typing.specs.declared.fault.Kind.TheVariants as kind
use Rattle.kt_typing.specs.Calls.{builtin_named}
use Rattle.kt_typing.specs.Environment.{Environment, base_type, starred}
use Rattle.kt_typing.specs.Faults.{fault_at, bad_type}
use Rattle.kt_program.specs.Gathered.{locals_of, result_type, same_function, is_noted}
use Rattle.kt_program.specs.Mentioned.{stars_of, result_stars}
use Rattle.kt_program.specs.Types.{place_in}
use Rattle.kt_program.specs.Declarators.{where_not, base_fault, held_fault, extent_fault, extent_of, is_holdable}
use Rattle.kt_program.specs.Judgments.{Judgment, Held, Judgments, NoMore, And}
use Rattle.kt_program.specs.Made.{joined, block}
use Rattle.kt_program.specs.Outside.{Whole, environment}
use Rattle.kt_program.specs.Scopes.{Body, Place, declared, contains}
use Rattle.kt_program.specs.Statements.{under, absent, twice_fault, note_fault, entries}

abbrev pub nowhere : Place
nowhere = record { visible = []; own = []; next = 0; in_loop = false }

abbrev pub body_of : Whole → List Definition → Routine → Body
body_of w structs r = record {
  environment = environment w structs (map (λ l. place_in w.types l.ty) (locals_of w.structs r)) (is_noted r.body);
  result = option_map (place_in w.types) (result_type w.structs r);
  names = map (λ l. l.name) (locals_of w.structs r);
}

-- ---- results: `void`, an integer or a pointer, and no pointer to `void`

abbrev pub result_place : Option Stars → Routine → ℕ
result_place None r = r.name.at
result_place (Some s) r = s.at

abbrev pub result_complete : Environment → Option Base → Routine → Option Fault
result_complete env None r = None
result_complete env (Some b) r = base_fault env b (result_stars r.stars ∷ [])

abbrev pub is_result : Environment → Option Base → Option Stars → Bool
is_result env None stars = not (is_some stars)
is_result env (Some b) stars = is_holdable env.scope (starred env (result_stars stars) (base_type env b))

-- ---- parameters

abbrev pub parameter : Body → Place → Parameter → Judgment
parameter body p x =
    under (base_fault body.environment x.base (stars_of x.pointer ∷ []))
    (under (held_fault body.environment x.base x.pointer x.name)
    (under (extent_fault body.environment (extent_of x.pointer))
    (under (twice_fault p x.name.word x.name.at)
    (under (note_fault body p x.name.word x.name.at) absent))))

abbrev pub parameters : Body → Place → List Parameter → Judgments
parameters body p [] = NoMore
parameters body p (x ∷ rest) = And (parameter body p x) (parameters body (declared p x.name.word) rest)

abbrev pub behind_parameters : Place → List Parameter → Place
behind_parameters p [] = p
behind_parameters p (x ∷ rest) = behind_parameters (declared p x.name.word) rest

-- ---- a declaration of a function, behind these globals and these declarations of functions

abbrev pub is_defined : List Routine → Routine → Bool
is_defined before r = is_some r.body && list_any (λ e. is_some e.body && bytes_eq e.name.word r.name.word) before

abbrev pub is_other_type : Whole → List Routine → Routine → Bool
is_other_type w before r = list_any (λ e. bytes_eq e.name.word r.name.word && not (same_function w.structs e r)) before

abbrev pub function_twice : List (List ℕ) → List Routine → Routine → Option Fault
function_twice globals before r =
    where_not (not (is_some (builtin_named r.name.word) || contains globals r.name.word || is_defined before r)) (fault_at kind.Twice r.name.at)

-- the parameters and the outermost block are one scope
abbrev pub body_judged : Body → List Parameter → Option Block → Judgment
body_judged body ps None = absent
body_judged body ps (Some b) = Held None (entries body (behind_parameters nowhere ps) b.entries) block

-- a definition gives its body
abbrev pub function : Whole → List Definition → List (List ℕ) → List Routine → Routine → Judgment
function w structs globals before r =
    let body = body_of w structs r in
    under (result_complete body.environment r.result r)
    (under (where_not (is_result body.environment r.result r.stars) (bad_type (result_place r.stars r)))
    (under (function_twice globals before r)
    (under (where_not (not (is_other_type w before r)) (bad_type r.name.at))
    (Held None (And (Held None (parameters body nowhere r.parameters) joined) (And (body_judged body r.parameters r.body) NoMore)) joined))))
