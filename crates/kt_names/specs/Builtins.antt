-- The built-in calls: which there are, and what each takes and gives. A call's faults are at its name.
use Rattle.std.specs.Prelude.{ℕ, ◌||◌, List, [], ◌∷◌, ◌++◌, codes, Ok, Option, Some, None, if◌then◌else◌}
use Rattle.std.specs.List.{position_from}
use Rattle.std.specs.Option.{is_some}
use Rattle.std.specs.Str.{bytes_eq}
use Rattle.kt_grammar.specs.declared.tree.Name.{Name}
use Rattle.kt_tree.specs.declared.expr.Part.{Part}
use Rattle.kt_tree.specs.declared.expr.Part.TheVariants as part
use Rattle.kt_tree.specs.declared.expr.Request.{Request}
use Rattle.kt_tree.specs.declared.expr.Request.TheVariants as request
use Rattle.kt_tree.specs.Tree.{Expression, Requested, Expressions, NoMore, More}
use Rattle.kt_names.specs.declared.ctype.CType.{CType}
use Rattle.kt_names.specs.Types.{char, int, long, pointer_to, same_ctype}
use Rattle.kt_tree.specs.Names.{is_point_name}
use Rattle.kt_names.specs.declared.fault.CheckFault.{CheckFault}
use Rattle.kt_names.specs.declared.fault.CheckFault.TheVariants.{Unknown, BadType, Entry, Note}
use Rattle.kt_names.specs.declared.builtin.Builtin.{Builtin}
use Rattle.kt_names.specs.declared.builtin.Builtin.TheVariants as builtin
use Rattle.kt_names.specs.Checked.{Checked, fault, and_then, both, found}
use Rattle.kt_names.specs.Environment.{Environment, Outer, Global, Function, local_named}
use Rattle.kt_names.specs.Operands.{Operand, Valued, NoResult, Value, value, integer, pointer, convert}
use Rattle.kt_names.specs.declared.format.Conversion.{Conversion}
use Rattle.kt_names.specs.declared.format.Conversion.TheVariants.{Plain, Decimal, LongDecimal, Byte, Text}
use Rattle.kt_names.specs.Formats.{format_of}

-- the built-in call of a name that has to do with updates
unfoldable pub update_builtin : List ℕ → Option Builtin
update_builtin n =
    if bytes_eq n (codes "kitsune_update") then Some builtin.Update
    else (if bytes_eq n (codes "kitsune_is_updating") then Some builtin.IsUpdating
    else (if bytes_eq n (codes "kitsune_is_updating_from") then Some builtin.IsUpdatingFrom
    else (if bytes_eq n (codes "kitsune_do_automigrate") then Some builtin.Automigrate
    else (if bytes_eq n (codes "MIGRATE_LOCAL") then Some builtin.MigrateLocal
    else None))))

-- the built-in call of a name that has to do with threads or updates
unfoldable pub thread_builtin : List ℕ → Option Builtin
thread_builtin n =
    if bytes_eq n (codes "pthread_mutex_lock") then Some builtin.Lock
    else (if bytes_eq n (codes "pthread_mutex_unlock") then Some builtin.Unlock
    else (if bytes_eq n (codes "pthread_mutex_init") then Some builtin.InitMutex
    else (if bytes_eq n (codes "ktthread_create") then Some builtin.Create
    else (if bytes_eq n (codes "ktthread_join") then Some builtin.Join
    else update_builtin n))))

-- the built-in call of a name
unfoldable pub builtin_named : List ℕ → Option Builtin
builtin_named n =
    if bytes_eq n (codes "malloc") then Some builtin.Malloc
    else (if bytes_eq n (codes "calloc") then Some builtin.Calloc
    else (if bytes_eq n (codes "free") then Some builtin.Free
    else (if bytes_eq n (codes "getchar") then Some builtin.GetChar
    else (if bytes_eq n (codes "putchar") then Some builtin.PutChar
    else (if bytes_eq n (codes "puts") then Some builtin.Puts
    else (if bytes_eq n (codes "printf") then Some builtin.Printf
    else thread_builtin n))))))

-- An argument, and where it begins. A call's own fault is at its name, before those of its arguments: so where the number of
-- arguments is wrong, or a name is not called so, the arguments need no judging.
pub record Argument : Type 0 where
  pub at : ℕ
  pub typed : Checked Operand

-- the value of an argument of a call at `up`
abbrev pub argument_value : Environment → ℕ → Argument → Checked Value
argument_value env up x = and_then x.typed (value env x.at up)

abbrev pub integer_argument : Environment → ℕ → Argument → Checked Value
integer_argument env up x = and_then x.typed (integer env x.at up)

abbrev pub one_of : Expression → Expressions
one_of e = More e NoMore

-- a request that gives a value of a type
abbrev pub gives : Environment → Request → CType → Expressions → Operand
gives env r t args = Valued t (Requested r (Some (env.place t)) args)

-- a pointer to this type, or the fault
abbrev pub points_to : Environment → ℕ → Argument → CType → Checked Value
points_to env up x e = and_then (and_then x.typed (pointer env x.at up)) (λ p. if same_ctype p.ty (pointer_to e) then Ok p else fault (BadType up))

-- a request of one pointer to a type, which gives `int`
abbrev pub asks_pointer : Environment → ℕ → Request → CType → Argument → Checked Operand
asks_pointer env up r e x = and_then (points_to env up x e) (λ p. Ok (gives env r int (one_of p.expression)))

-- a request of one integer, which gives `int`
abbrev pub asks_integer : Environment → ℕ → Request → Argument → Checked Operand
asks_integer env up r x = and_then (integer_argument env up x) (λ v. Ok (gives env r int (one_of v.expression)))

-- ---- printf

-- the types that a piece of a format takes
abbrev pub takes : Environment → ℕ → Conversion → Argument → Checked Value
takes env up LongDecimal x = and_then (integer_argument env up x) (λ v. if same_ctype v.ty long then Ok v else fault (BadType up))
takes env up Text x = points_to env up x char
takes env up _ x = and_then (integer_argument env up x) (λ v. if same_ctype v.ty long then fault (BadType up) else Ok v)

-- each piece but the plain ones takes one argument
abbrev pub format_values : Environment → ℕ → List Conversion → List Argument → Checked Expressions
format_values env up [] [] = Ok NoMore
format_values env up [] (x ∷ rest) = fault (BadType up)
format_values env up (Plain b ∷ cs) args = format_values env up cs args
format_values env up (c ∷ cs) [] = fault (BadType up)
format_values env up (c ∷ cs) (x ∷ rest) = and_then (both (takes env up c x) (format_values env up cs rest)) (λ y. Ok (More y.0.expression y.1))

-- plain bytes before the parts, as one part
abbrev pub with_bytes : List ℕ → List Part → List Part
with_bytes [] parts = parts
with_bytes (b ∷ bytes) parts = part.Bytes (b ∷ bytes) ∷ parts

-- the parts of a format behind these plain bytes
abbrev pub parts_of : List ℕ → List Conversion → List Part
parts_of plain [] = with_bytes plain []
parts_of plain (Plain b ∷ cs) = parts_of (plain ++ b ∷ []) cs
parts_of plain (Decimal ∷ cs) = with_bytes plain (part.Number ∷ parts_of [] cs)
parts_of plain (LongDecimal ∷ cs) = with_bytes plain (part.Number ∷ parts_of [] cs)
parts_of plain (Byte ∷ cs) = with_bytes plain (part.Byte ∷ parts_of [] cs)
parts_of plain (Text ∷ cs) = with_bytes plain (part.Text ∷ parts_of [] cs)

abbrev pub printed : Environment → ℕ → List ℕ → List Argument → Checked Operand
printed env up format args =
    and_then (found (format_of format) (BadType up))
    (λ cs. and_then (format_values env up cs args) (λ es. Ok (gives env (request.Print (parts_of [] cs)) int es)))

-- ---- points, threads, noted locals

-- the number of a name among the names of points
abbrev pub point_number : List (List ℕ) → List ℕ → ℕ
point_number points name = elim (position_from (λ p. bytes_eq p name) 0 points) as (λ _. ℕ) [ None ↦ 0 | (Some n) ↦ n ]

abbrev pub updated : Environment → ℕ → List ℕ → Checked Operand
updated env up name =
    if is_point_name name then Ok (NoResult (Requested (request.Point (point_number env.points name)) None NoMore)) else fault (BadType up)

abbrev pub updating_from : Environment → ℕ → List ℕ → Checked Operand
updating_from env up name =
    if is_point_name name then Ok (gives env (request.IsUpdatingFrom (point_number env.points name)) int NoMore) else fault (BadType up)

abbrev pub entry_in : Option CType → List CType → Option ℕ → Option (ℕ × CType)
entry_in None (p ∷ []) (Some n) = Some (n, p)
entry_in result parameters number = None

-- the number and the parameter of a defined `void` function of one parameter
abbrev pub entry_of : Option Outer → Option (ℕ × CType)
entry_of (Some (Function d)) = entry_in d.result d.parameters d.number
entry_of _ = None

-- what a name stands for where no local hides it
abbrev pub outer_unhidden : Environment → List ℕ → Option Outer
outer_unhidden env name = elim (local_named env.visible name) as (λ _. Option Outer) [ None ↦ env.outer name | (Some x) ↦ None ]

-- the function that a thread begins at, and its argument, converted
-- what is wrong with a name that is no entry: nothing has it, or no definition; or a thread can't begin there
abbrev pub entry_fault : ℕ → Option Outer → CheckFault
entry_fault at (Some (Function d)) = if is_some d.number then Entry at else Unknown at
entry_fault at (Some (Global g t array)) = Entry at
entry_fault at None = Unknown at

abbrev pub no_entry : Environment → Name → CheckFault
no_entry env f =
    if is_some (local_named env.visible f.word) || is_some (builtin_named f.word) then Entry f.at else entry_fault f.at (env.outer f.word)

-- (the name stands before the argument)
abbrev pub created : Environment → ℕ → Name → Argument → Checked Operand
created env up f x =
    and_then (found (entry_of (outer_unhidden env f.word)) (no_entry env f))
    (λ e. and_then (and_then x.typed (convert env e.1 x.at up))
    (λ v. Ok (gives env (request.Create e.0) int (one_of v))))

abbrev pub migrated : Environment → ℕ → Name → Checked Operand
migrated env up n =
    if env.noted then and_then (found (local_named env.visible n.word) (Note up)) (λ x. Ok (gives env (request.MigrateLocal x) int NoMore))
    else fault (Note up)
