-- The typing of functions: their results, their declarations against one another, parameters and bodies (ISO/IEC 9899:2011, 6.9.1).
use Rattle.std.specs.Prelude.{ℕ, ◌&&◌, not, Bool, true, false, List, [], ◌∷◌, length, map, Ok, Option, Some, None, if◌then◌else◌}
use Rattle.std.specs.Option.{is_some, option_map}
use Rattle.std.specs.List.{list_any}
use Rattle.std.specs.Str.{bytes_eq}
use Rattle.kt_grammar.specs.declared.tree.Name.{Name}
use Rattle.kt_syntax.specs.declared.tree.Stars.{Stars}
use Rattle.kt_syntax.specs.declared.tree.Parameter.{Parameter}
use Rattle.kt_syntax.specs.Tree.{Definition, Routine}
use Rattle.kt_names.specs.declared.ctype.CType.{CType}
use Rattle.kt_tree.specs.Tree.{Function, Statement, Compound}
use Rattle.kt_names.specs.declared.fault.CheckFault.TheVariants.{Twice, BadType}
use Rattle.kt_names.specs.Checked.{Checked, fault, and_then, both, holds}
use Rattle.kt_names.specs.Environment.{Environment}
use Rattle.kt_names.specs.Types.{same_ctype, is_scalar, ctype}
use Rattle.kt_names.specs.Uses.{stars_of, result_stars}
use Rattle.kt_names.specs.Statements.{Body, State, base_for, held, pointer_outside, new_name, declared, entries}
use Rattle.kt_names.specs.Tables.{result_type, parameter_types, locals_of, view_of}

-- a result is an integer or a pointer, or `void` without stars
abbrev pub stars_place : Option Stars → Name → ℕ
stars_place None n = n.at
stars_place (Some s) n = s.at

abbrev pub result_fault : Environment → Routine → Checked (Unit {0})
result_fault env r = elim r.result as (λ _. Checked (Unit {0})) [
  | None ↦ holds (not (is_some r.stars)) (BadType (stars_place r.stars r.name))
  | (Some b) ↦ and_then (base_for env b (result_stars r.stars ∷ []))
      (λ x. holds (is_scalar (ctype env.names b (result_stars r.stars))) (BadType (stars_place r.stars r.name)))
]

abbrev pub same_types : List CType → List CType → Bool
same_types [] [] = true
same_types (a ∷ as') (b ∷ bs) = same_ctype a b && same_types as' bs
same_types _ _ = false

abbrev pub same_result : Option CType → Option CType → Bool
same_result None None = true
same_result (Some a) (Some b) = same_ctype a b
same_result _ _ = false

abbrev pub same_function : List (List ℕ) → Routine → Routine → Bool
same_function t a b = same_result (result_type t a) (result_type t b) && same_types (parameter_types t a) (parameter_types t b)

-- a function is declared with one type, and defined once
abbrev pub is_defined : List Routine → List ℕ → Bool
is_defined earlier name = list_any (λ r. is_some r.body && bytes_eq r.name.word name) earlier

abbrev pub is_other_type : List (List ℕ) → Routine → Routine → Bool
is_other_type t r earlier = bytes_eq earlier.name.word r.name.word && not (same_function t earlier r)

abbrev pub agrees : List (List ℕ) → Routine → List Routine → Checked (Unit {0})
agrees t r earlier =
    if is_some r.body && is_defined earlier r.name.word then fault (Twice r.name.at)
    else holds (not (list_any (is_other_type t r) earlier)) (BadType r.name.at)

-- the parameters, one after the other
abbrev pub parameters : Body → State → List Parameter → Checked State
parameters body s [] = Ok s
parameters body s (p ∷ rest) =
    and_then (base_for body.environment p.base (stars_of p.pointer ∷ []))
    (λ y. and_then
    (both (held body.environment p.base p.pointer p.name) (both (pointer_outside body.environment p.pointer) (new_name body s p.name)))
    (λ x. parameters body (declared s p.name.word) rest))

abbrev pub no_state : State
no_state = record { visible = []; own = []; next = 0 }

-- the body of a function, seen from outside functions
abbrev pub body_in : Environment → Routine → Bool → Body
body_in env r noted = record {
  environment = record env { locals = map (λ l. l.ty) (locals_of env.names r); noted = noted };
  result = result_type env.names r;
  names = map (λ l. l.name) (locals_of env.names r);
}

abbrev pub is_noted : Option Definition → Bool
is_noted None = false
is_noted (Some b) = b.noted

abbrev pub typed_function : Environment → Routine → Bool → Statement → Function
typed_function env r noted body = record {
  name = r.name.word;
  result = option_map env.place (result_type env.names r);
  params = length r.parameters;
  noted = noted;
  locals = map (λ l. record { name = l.name; ty = env.place l.ty; view = view_of env.outer l.base l.pointer }) (locals_of env.names r);
  body = body;
}

-- the body of a function, behind its parameters
abbrev pub defined_function : Environment → Routine → State → Option Definition → Checked (List Function)
defined_function env r state None = Ok []
defined_function env r state (Some b) =
    and_then (entries (body_in env r b.noted) false state b.entries) (λ x. Ok (typed_function env r b.noted (Compound x.0) ∷ []))
