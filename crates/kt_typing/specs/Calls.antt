-- Calls: of the file's functions, and the built-in ones, each a row of one table. A call's own faults are at its name.
use Rattle.std.specs.Prelude.{ℕ, ◌+◌, ◌==◌, Bool, true, false, List, [], ◌∷◌, length, codes, slice_get, Option, Some, None, Result, Ok, Err, if◌then◌else◌}
use Rattle.std.specs.Str.{bytes_eq}
use Rattle.kt_grammar.specs.declared.tree.Name.{Name}
use Rattle.kt_tree.specs.declared.expr.Request.{Request}
use Rattle.kt_tree.specs.declared.expr.Request.TheVariants as request
use Rattle.kt_tree.specs.Tree.{Expression, Constant', Requested, Called, NoMore}
use Rattle.kt_tree.specs.Kinds.{Scope, Head, is_request, char_type, int_type}
use Rattle.kt_tree.specs.Names.{is_point_name}
use Rattle.kt_tree.specs.Typed.{call_kind}
use Rattle.kt_typing.specs.declared.builtin.Builtin.{Builtin}
use Rattle.kt_typing.specs.declared.builtin.Builtin.TheVariants as builtin
use Rattle.kt_typing.specs.declared.fault.Fault.{Fault}
use Rattle.kt_typing.specs.declared.fault.Kind.TheVariants as kind
use Rattle.kt_typing.specs.declared.format.Conversion.{Conversion}
use Rattle.kt_typing.specs.declared.standing.Standing.{Standing}
use Rattle.kt_typing.specs.declared.standing.Standing.TheVariants as standing
use Rattle.kt_typing.specs.declared.standing.Use.{Use}
use Rattle.kt_typing.specs.declared.standing.Use.TheVariants as use_as
use Rattle.kt_typing.specs.Environment.{Environment, Meaning, Missing, Barred, Stands, Routine}
use Rattle.kt_typing.specs.Faults.{fault_at, unknown, bad_type}
use Rattle.kt_typing.specs.Formats.{format_of, taken_by, are_taken, parts_of}
use Rattle.kt_typing.specs.Forms.{Form, Ruled, Parts, NoPart, Part}
use Rattle.kt_typing.specs.Operands.{Operand, Value, operand, of_type, valued, value, scalar, types_of, trees_of}
use Rattle.kt_typing.specs.Rules.{given, with_value, requested, convert, is_size}

-- ---- the table of built-in calls

-- what an argument is
pub data Argument : Type 0 where
  -- a value
  Plain : Argument
  -- a value or null
  Nullable : Argument
  -- `NULL`, which the request doesn't take
  NullItself : Argument

pub data Row : Type 0 where
  -- a request of its arguments, which gives a value of a type or nothing
  Asks : List Argument → Request → Option ℕ → Row
  -- an allocation of a size, a product or a number of bytes
  Allocates : Row
  -- an allocation of a count of elements of a size, zero in all cells
  AllocatesZeros : Row
  -- a format, and the arguments that it takes
  Prints : Row
  -- the name of a function, and its argument
  Begins : Row
  -- the name of a point
  Reaches : Row
  AsksFrom : Row
  -- the name of a local
  Keeps : Row

abbrev pub row : Builtin → Row
row builtin.Malloc = Allocates
row builtin.Calloc = AllocatesZeros
row builtin.Free = Asks (Nullable ∷ []) request.Release None
row builtin.GetChar = Asks [] request.GetChar (Some int_type)
row builtin.PutChar = Asks (Plain ∷ []) request.PutChar (Some int_type)
row builtin.Puts = Asks (Plain ∷ []) request.Puts (Some int_type)
row builtin.Printf = Prints
row builtin.Lock = Asks (Plain ∷ []) request.Lock (Some int_type)
row builtin.Unlock = Asks (Plain ∷ []) request.Unlock (Some int_type)
row builtin.InitMutex = Asks (Plain ∷ NullItself ∷ []) request.InitMutex (Some int_type)
row builtin.Create = Begins
row builtin.Join = Asks (Plain ∷ []) request.Join (Some int_type)
row builtin.Update = Reaches
row builtin.IsUpdating = Asks [] request.IsUpdating (Some int_type)
row builtin.IsUpdatingFrom = AsksFrom
row builtin.Automigrate = Asks [] request.Automigrate None
row builtin.MigrateLocal = Keeps

-- the built-in calls and their names
abbrev pub named_builtins : List (List ℕ × Builtin)
named_builtins =
    (codes "malloc", builtin.Malloc) ∷ (codes "calloc", builtin.Calloc) ∷ (codes "free", builtin.Free)
    ∷ (codes "getchar", builtin.GetChar) ∷ (codes "putchar", builtin.PutChar) ∷ (codes "puts", builtin.Puts) ∷ (codes "printf", builtin.Printf)
    ∷ (codes "pthread_mutex_lock", builtin.Lock) ∷ (codes "pthread_mutex_unlock", builtin.Unlock) ∷ (codes "pthread_mutex_init", builtin.InitMutex)
    ∷ (codes "ktthread_create", builtin.Create) ∷ (codes "ktthread_join", builtin.Join)
    ∷ (codes "kitsune_update", builtin.Update) ∷ (codes "kitsune_is_updating", builtin.IsUpdating)
    ∷ (codes "kitsune_is_updating_from", builtin.IsUpdatingFrom) ∷ (codes "kitsune_do_automigrate", builtin.Automigrate)
    ∷ (codes "MIGRATE_LOCAL", builtin.MigrateLocal) ∷ []

abbrev pub among : List (List ℕ × Builtin) → List ℕ → Option Builtin
among [] name = None
among (x ∷ rest) name = if bytes_eq x.0 name then Some x.1 else among rest name

abbrev pub builtin_named : List ℕ → Option Builtin
builtin_named name = among named_builtins name

-- what the arguments of a built-in call are used as: values, but for those of an allocation
abbrev pub uses_of : Builtin → List Use
uses_of builtin.Malloc = use_as.Count ∷ []
uses_of builtin.Calloc = use_as.Value ∷ use_as.Size ∷ []
uses_of _ = []

-- ---- forms

-- what is judged without parts
abbrev pub leaf : Result Operand Fault → Form
leaf x = Ruled None NoPart (λ xs. x)

abbrev pub behind : Parts → Parts
behind NoPart = NoPart
behind (Part wrong e rest) = rest

-- the arguments behind the first, where that is a word and no expression
abbrev pub behind_word : {A : Type 0} → Option A → Parts → Parts
behind_word None parts = parts
behind_word (Some w) parts = behind parts

-- a call at a place has another number of arguments than it takes
abbrev pub miscounted : ℕ → ℕ → ℕ → Option Fault
miscounted at taken given_ = if taken == given_ then None else Some (bad_type at)

-- ---- calls of the file's functions

-- arguments, each converted to a type
abbrev pub both_values : Option Value → Option (List Value) → Option (List Value)
both_values (Some v) (Some vs) = Some (v ∷ vs)
both_values _ _ = None

abbrev pub converted_all : Scope → List ℕ → List Operand → Option (List Value)
converted_all s [] [] = Some []
converted_all s (t ∷ ts) (x ∷ xs) = both_values (convert s t x) (converted_all s ts xs)
converted_all s _ _ = None

abbrev pub called_with : ℕ → ℕ → Head → Option (List Value) → Result Operand Fault
called_with at f h None = Err (bad_type at)
called_with at f h (Some vs) = given at (Called f (trees_of vs)) (call_kind (Some h) (Some (types_of vs)))

-- a call of the function of a number, with so many arguments
abbrev pub function_called : Environment → ℕ → ℕ → ℕ → Parts → Option Head → Form
function_called env at f count parts None = Ruled (Some (unknown at)) parts (λ xs. Err (unknown at))
function_called env at f count parts (Some h) =
    Ruled (miscounted at (length h.parameters) count) parts (λ xs. called_with at f h (converted_all env.scope h.parameters xs))

-- a call of what a name stands for
abbrev pub meaning_called : Environment → ℕ → ℕ → Parts → Meaning → Form
meaning_called env at count parts Missing = Ruled (Some (unknown at)) parts (λ xs. Err (unknown at))
meaning_called env at count parts Barred = Ruled (Some (bad_type at)) parts (λ xs. Err (bad_type at))
meaning_called env at count parts (Stands what t e) = Ruled (Some (bad_type at)) parts (λ xs. Err (bad_type at))
meaning_called env at count parts (Routine f) = function_called env at f count parts (slice_get env.scope.functions f)

-- ---- built-in calls

-- `NULL` as it is written, parentheses aside
abbrev pub is_null_word : Standing → Expression → Bool
is_null_word standing.Null (Constant' c t) = true
is_null_word _ _ = false

abbrev pub argument_values : Scope → List Argument → List Operand → Option (List Value)
argument_values s [] [] = Some []
argument_values s (Plain ∷ as') (x ∷ xs) = both_values (value s x) (argument_values s as' xs)
argument_values s (Nullable ∷ as') (x ∷ xs) = both_values (scalar s x) (argument_values s as' xs)
argument_values s (NullItself ∷ as') (x ∷ xs) = if is_null_word x.standing x.tree then argument_values s as' xs else None
argument_values s _ _ = None

abbrev pub asked : Environment → ℕ → Request → Option ℕ → Option (List Value) → Result Operand Fault
asked env at r t None = Err (bad_type at)
asked env at r t (Some vs) = requested env at r t vs

-- an allocation of a count of elements of a type
abbrev pub allocated : Environment → ℕ → Bool → ℕ → Value → Result Operand Fault
allocated env at zeros e n = elim (env.pointer e) as (λ _. Result Operand Fault)
    [ None ↦ Err (bad_type at) | (Some t) ↦ requested env at (request.Allocate e zeros) (Some t) (n ∷ []) ]

abbrev pub allocation_of : Environment → ℕ → Operand → Standing → Result Operand Fault
allocation_of env at x (standing.Size p) = allocated env at false x.ty (of_type int_type x.tree)
allocation_of env at x (standing.Product e) = allocated env at false e (of_type x.ty x.tree)
allocation_of env at x _ = with_value at (value env.scope x) (allocated env at false char_type)

abbrev pub allocation : Environment → ℕ → List Operand → Result Operand Fault
allocation env at (x ∷ []) = allocation_of env at x x.standing
allocation env at _ = Err (bad_type at)

abbrev pub zeroed : Environment → ℕ → List Operand → Result Operand Fault
zeroed env at (x ∷ y ∷ []) = if is_size y.standing then with_value at (value env.scope x) (allocated env at true y.ty) else Err (bad_type at)
zeroed env at _ = Err (bad_type at)

abbrev pub plain_values : Scope → List Operand → Option (List Value)
plain_values s [] = Some []
plain_values s (x ∷ xs) = both_values (value s x) (plain_values s xs)

abbrev pub written : Environment → ℕ → List Conversion → Option (List Value) → Result Operand Fault
written env at cs None = Err (bad_type at)
written env at cs (Some vs) =
    if are_taken env.scope cs (types_of vs) then requested env at (request.Print (parts_of [] cs)) (Some int_type) vs else Err (bad_type at)

-- `printf` of a format
abbrev pub printed : Environment → ℕ → ℕ → Parts → Option (List Conversion) → Form
printed env at count parts None = Ruled None parts (λ xs. Err (bad_type at))
printed env at count parts (Some cs) = Ruled (miscounted at (1 + taken_by cs) count) parts (λ xs. written env at cs (plain_values env.scope xs))

abbrev pub entry_head : Option ℕ → List ℕ → Option ℕ
entry_head None (p ∷ []) = Some p
entry_head result parameters = None

-- the parameter of a `void` function of one parameter
abbrev pub entry_parameter : Option Head → Option ℕ
entry_parameter None = None
entry_parameter (Some h) = entry_head h.result h.parameters

abbrev pub entry_of : ℕ → ℕ → Option ℕ → Result Operand Fault
entry_of at f None = Err (fault_at kind.Entry at)
entry_of at f (Some p) = Ok (operand at (standing.Entry f) p (Called f NoMore))

-- a name where a thread begins
abbrev pub entry : Environment → ℕ → Meaning → Result Operand Fault
entry env at Missing = Err (unknown at)
entry env at (Routine f) = entry_of at f (entry_parameter (slice_get env.scope.functions f))
entry env at Barred = Err (fault_at kind.Entry at)
entry env at (Stands what t e) = Err (fault_at kind.Entry at)

-- the entry is a part in the place of the first argument
abbrev pub with_entry : Environment → Option Name → Parts → Parts
with_entry env (Some n) (Part wrong e rest) = Part (λ x. None) (leaf (entry env n.at (env.name n.word))) rest
with_entry env _ parts = parts

abbrev pub begun_at : Environment → ℕ → Standing → ℕ → Operand → Result Operand Fault
begun_at env at (standing.Entry f) p y = with_value at (convert env.scope p y) (λ v. requested env at (request.Create f) (Some int_type) (v ∷ []))
begun_at env at _ p y = Err (bad_type at)

abbrev pub begun : Environment → ℕ → List Operand → Result Operand Fault
begun env at (x ∷ y ∷ []) = begun_at env at x.standing x.ty y
begun env at _ = Err (bad_type at)

-- a request that a point's name stands in
abbrev pub pointed_at : Environment → ℕ → (ℕ → Request) → Option ℕ → Option (List ℕ) → Result Operand Fault
pointed_at env at r t None = Err (bad_type at)
pointed_at env at r t (Some name) = if is_point_name name then requested env at (r (env.point name)) t [] else Err (bad_type at)

-- `MIGRATE_LOCAL` of what a name stands for
abbrev pub kept : Environment → ℕ → Meaning → Result Operand Fault
kept env at (Stands (standing.Local x) t e) =
    if is_request env.scope (request.MigrateLocal x) (Some int_type) [] then Ok (valued at int_type (Requested (request.MigrateLocal x) (Some int_type) NoMore))
    else Err (fault_at kind.Note at)
kept env at _ = Err (fault_at kind.Note at)

abbrev pub kept_name : Environment → ℕ → Option Name → Result Operand Fault
kept_name env at None = Err (fault_at kind.Note at)
kept_name env at (Some n) = kept env at (env.name n.word)

abbrev pub format_in : Option (List ℕ) → Option (List Conversion)
format_in None = None
format_in (Some bytes) = format_of bytes

-- without a first argument there is no format
abbrev pub print_form : Environment → ℕ → ℕ → Option (List ℕ) → Parts → Form
print_form env at count text parts = if count == 0 then Ruled (Some (bad_type at)) parts (λ xs. Err (bad_type at)) else printed env at count (behind_word text parts) (format_in text)

-- a call by its row, with so many arguments: its first as a string, its first as a name, and all as parts
abbrev pub row_called : Environment → ℕ → ℕ → Option (List ℕ) → Option Name → Parts → Row → Form
row_called env at count text name parts (Asks arguments r t) =
    Ruled (miscounted at (length arguments) count) parts (λ xs. asked env at r t (argument_values env.scope arguments xs))
row_called env at count text name parts Allocates = Ruled (miscounted at 1 count) parts (allocation env at)
row_called env at count text name parts AllocatesZeros = Ruled (miscounted at 2 count) parts (zeroed env at)
row_called env at count text name parts Prints = print_form env at count text parts
row_called env at count text name parts Begins = Ruled (miscounted at 2 count) (with_entry env name parts) (begun env at)
row_called env at count text name parts Reaches = Ruled (miscounted at 1 count) (behind_word text parts) (λ xs. pointed_at env at request.Point None text)
row_called env at count text name parts AsksFrom = Ruled (miscounted at 1 count) (behind_word text parts) (λ xs. pointed_at env at request.IsUpdatingFrom (Some int_type) text)
row_called env at count text name parts Keeps = Ruled (miscounted at 1 count) (behind_word name parts) (λ xs. kept_name env at name)
