-- What is judged of a rule: its names, its two sides, and its body.
use Rattle.std.specs.Prelude.{ℕ, ◌==◌, ◌&&◌, Bool, true, false, not, List, [], ◌∷◌, ◌++◌, slice_get, Option, None, Some, option_and_then, Result, Ok, Err, if◌then◌else◌}
use Rattle.std.specs.Option.{is_some}
use Rattle.kt_tree.specs.Tree.{Function}
use Rattle.kt_tree.specs.Version.{Program}
use Rattle.kt_typing.specs.declared.fault.Fault.{Fault}
use Rattle.kt_typing.specs.Faults.{unknown, bad_type}
use Rattle.xf_plan.specs.Bodies.{Actions, Compound}
use Rattle.xf_plan.specs.Plan.{Plan, is_pair}
use Rattle.xf_syntax.specs.declared.tree.StructName.{StructName}
use Rattle.xf_syntax.specs.declared.tree.Target.{Target}
use Rattle.xf_syntax.specs.declared.tree.Target.TheVariants as target
use Rattle.xf_syntax.specs.declared.tree.Side.{Side}
use Rattle.xf_syntax.specs.declared.tree.Side.TheVariants as side
use Rattle.xf_syntax.specs.Tree.{Code, Rule, StructsPaired, Started, Moved}
use Rattle.xf_rules.specs.Bodies.{Context, where_not, target_of, acts}
use Rattle.xf_rules.specs.Bodies as body
use Rattle.xf_rules.specs.Code.{Read, read_global, read_field, read_local, read_struct, code}
use Rattle.xf_rules.specs.Judgments.{Judgment, Held, Judgments, NoMore, And}
use Rattle.xf_rules.specs.Made.{Made, Nothing, Does, Rules, Paired, FieldRuled, GlobalRuled, LocalRuled, nothing, block}
use Rattle.xf_rules.specs.Names.{struct_named, is_defined, function_named}
use Rattle.xf_rules.specs.Things.{Thing, Global, Field, Local, target_place, side_place, thing_of_target, thing_of, unknown_names, type_of_thing, field_decl, local_decl}

-- both versions, and which of their types correspond by the whole file
pub record Versions : Type 0 where
  pub old : Program
  pub new : Program
  pub related : Plan

-- ---- `struct a -> struct b;`

abbrev pub struct_fault : Program → StructName → List Fault
struct_fault p s = where_not (is_some (struct_named p s.name.word)) (unknown s.name.at)

abbrev pub is_struct_defined : Program → Option ℕ → Bool
is_struct_defined p None = false
is_struct_defined p (Some s) = is_defined p s

-- a new struct that is there, without a definition
abbrev pub is_left_open : Program → Option ℕ → Bool
is_left_open p None = false
is_left_open p (Some r) = not (is_defined p r)

abbrev pub as_pair : Option ℕ → Option ℕ → Made
as_pair (Some s) (Some r) = Rules (Paired s r ∷ [])
as_pair s r = Nothing

abbrev pub paired : Versions → StructName → StructName → Judgment
paired v a b =
    let s = struct_named v.old a.name.word in
    let r = struct_named v.new b.name.word in
    Held (struct_fault v.old a ++ struct_fault v.new b ++ where_not (not (is_struct_defined v.old s && is_left_open v.new r)) (bad_type b.at))
    NoMore (λ ms. as_pair s r)

-- ---- the two sides of an arrow

abbrev pub are_alike_targets : Target → Target → Bool
are_alike_targets (target.Global a) (target.Global b) = true
are_alike_targets (target.Field s a) (target.Field r b) = true
are_alike_targets a b = false

-- both are globals, both fields, or both locals
abbrev pub are_alike : Side → Side → Bool
are_alike (side.Target a) (side.Target b) = are_alike_targets a b
are_alike (side.Local f x) (side.Local g y) = true
are_alike a b = false

abbrev pub is_unnoted_function : Option Function → Bool
is_unnoted_function None = false
is_unnoted_function (Some f) = not f.noted

-- a local of a function without `E_NOTELOCALS`
abbrev pub is_unnoted : Program → Side → Bool
is_unnoted p (side.Target t) = false
is_unnoted p (side.Local f x) = is_unnoted_function (option_and_then (λ k. slice_get p.functions k) (function_named p f.word))

-- two structs that are there and don't correspond
abbrev pub are_unpaired : Versions → Option ℕ → Option ℕ → Bool
are_unpaired v (Some s) (Some r) = not (is_pair v.related.structs s r)
are_unpaired v s r = false

abbrev pub are_strange_targets : Versions → Target → Target → Bool
are_strange_targets v (target.Field s a) (target.Field r b) = are_unpaired v (struct_named v.old s.name.word) (struct_named v.new r.name.word)
are_strange_targets v a b = false

-- fields of structs that don't correspond
abbrev pub are_strange : Versions → Side → Side → Bool
are_strange v (side.Target a) (side.Target b) = are_strange_targets v a b
are_strange v a b = false

abbrev pub side_faults : Versions → Side → Side → List Fault
side_faults v a b =
    where_not (are_alike a b && not (is_unnoted v.old a) && not (is_unnoted v.new b) && not (are_strange v a b)) (bad_type (side_place b))

-- ---- bodies

-- what `$in` and `$base` stand for

abbrev pub read_old_global : Versions → ℕ → Option Read
read_old_global v g = option_and_then (read_global v.related.old) (slice_get v.old.globals g)

abbrev pub source_of : Versions → Thing → Option Read
source_of v (Global g) = read_old_global v g
source_of v (Field s k) = option_and_then (read_field v.related.old) (field_decl v.old s k)
source_of v (Local f x) = option_and_then read_local (local_decl v.old f x)

-- the old struct that holds the source
abbrev pub holder_of : Versions → Thing → Option Read
holder_of v (Global g) = None
holder_of v (Field s k) = read_struct v.related.old s
holder_of v (Local f x) = None

-- the old struct that corresponds to a new one
abbrev pub old_struct : List (ℕ × ℕ) → ℕ → Option ℕ
old_struct [] r = None
old_struct (p ∷ rest) r = if p.1 == r then Some p.0 else old_struct rest r

-- the old struct that corresponds to the one of a new field
abbrev pub base_of : Versions → Thing → Option Read
base_of v (Global g) = None
base_of v (Field r k) = option_and_then (read_struct v.related.old) (old_struct v.related.structs r)
base_of v (Local f x) = None

abbrev pub read_there : {A : Type 0} → (A → Option Read) → Result A Fault → Option Read
read_there f (Ok x) = f x
read_there f (Err e) = None

-- a body of a target that is an integer or a pointer; of any other target none is allowed
abbrev pub body_of : Context → ℕ → Option body.Target → Code → Judgment
body_of c at None b = Held (bad_type at ∷ []) NoMore nothing
body_of c at (Some t) b = Held [] (acts c t b.actions) block

-- the body of a rule, if it has one; a target that is unknown is judged by its name
abbrev pub body_judged : Context → ℕ → Result Thing Fault → Option Code → Judgments
body_judged c at t None = NoMore
body_judged c at (Err f) (Some b) = NoMore
body_judged c at (Ok t) (Some b) = And (body_of c at (target_of (type_of_thing c.new t)) b) NoMore

abbrev pub context : Versions → Option Read → Option Read → Context
context v source base = record { environment = code v.old source base; related = v.related; new = v.new }

-- ---- what comes of a rule

abbrev pub body_made : List Made → Option Actions
body_made (Does (Compound xs) ∷ []) = Some xs
body_made ms = None

abbrev pub as_started : Result Thing Fault → Option Actions → Made
as_started (Ok (Global g)) b = Rules (GlobalRuled g None b ∷ [])
as_started (Ok (Field r k)) b = Rules (FieldRuled r k None b ∷ [])
as_started (Ok (Local f x)) b = Nothing
as_started (Err f) b = Nothing

abbrev pub as_moved : Result Thing Fault → Result Thing Fault → Option Actions → Made
as_moved (Ok (Global h)) (Ok (Global g)) b = Rules (GlobalRuled g (Some h) b ∷ [])
as_moved (Ok (Field s j)) (Ok (Field r k)) b = Rules (FieldRuled r k (Some j) b ∷ [])
as_moved (Ok (Local e y)) (Ok (Local f x)) b = Rules (LocalRuled f x e y b ∷ [])
as_moved a t b = Nothing

-- ---- rules

abbrev pub started : Versions → Target → Option Code → Judgment
started v t b =
    let goal = thing_of_target v.new t in
    Held (unknown_names goal) (body_judged (context v None (read_there (base_of v) goal)) (target_place t) goal b) (λ ms. as_started goal (body_made ms))

abbrev pub moved : Versions → Side → Side → Option Code → Judgment
moved v a t b =
    let source = thing_of v.old a in
    let goal = thing_of v.new t in
    Held (unknown_names source ++ unknown_names goal ++ side_faults v a t)
    (body_judged (context v (read_there (source_of v) source) (read_there (holder_of v) source)) (side_place t) goal b)
    (λ ms. as_moved source goal (body_made ms))

abbrev pub rule : Versions → Rule → Judgment
rule v (StructsPaired a b) = paired v a b
rule v (Started t b) = started v t b
rule v (Moved a t b) = moved v a t b
