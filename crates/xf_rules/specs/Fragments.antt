-- Short names for rules and versions of worked rows.
use Rattle.std.specs.Prelude.{ℕ, Bool, false, List, [], Option, Some}
use Rattle.kt_grammar.specs.declared.tree.Name.{Name}
use Rattle.kt_grammar.specs.declared.tree.TypeName.{TypeName}
use Rattle.kt_grammar.specs.Tree.{Term, NewObject}
use Rattle.kt_types.specs.declared.kinds.FieldDecl.{FieldDecl}
use Rattle.kt_types.specs.declared.kinds.View.{View}
use Rattle.kt_types.specs.Table.{Table}
use Rattle.kt_tree.specs.declared.global.GlobalDecl.{GlobalDecl}
use Rattle.kt_tree.specs.declared.global.Init.TheVariants as init
use Rattle.kt_tree.specs.Tree.{Function, Compound, Done}
use Rattle.kt_tree.specs.Version.{Program, program}
use Rattle.xf_syntax.specs.declared.tree.StructName.{StructName}
use Rattle.xf_syntax.specs.Tree as written

-- ---- rules

abbrev pub struct : ℕ → Name → StructName
struct at n = record { at = at; name = n }

abbrev pub fresh : ℕ → TypeName → ℕ → ℕ → Term
fresh at t count_at count = NewObject at (record { type_name = t; at = count_at; count = record { value = count; long = false; hexadecimal = false } })

abbrev pub inner : List written.Action → written.Action
inner acts = written.Compound (written.actions_of acts)

abbrev pub body : ℕ → ℕ → List written.Action → Option written.Code
body first last acts = Some (record { first = first; last = last; actions = written.actions_of acts })

-- ---- versions: only what functions are called, keep and have as locals is told of them

abbrev pub field : List ℕ → ℕ → View → FieldDecl
field n t v = record { name = n; ty = t; view = v }

abbrev pub global : List ℕ → ℕ → ℕ → Bool → View → GlobalDecl
global n t count array v = record { name = n; ty = t; count = count; array = array; view = v; init = init.Zero }

abbrev pub function : List ℕ → ℕ → Bool → List FieldDecl → Function
function n params noted locals = record { name = n; result = Some 1; params = params; noted = noted; locals = locals; body = Compound Done }

abbrev pub version : Table → List GlobalDecl → List Function → Program
version types globals functions = program types globals [] functions (record { names = []; updates = 0 })
