-- The words of the line of a mark.
use Rattle.std.specs.Prelude.{ℕ, nat_lt, Bool, false, List, [], ◌∷◌, ◌++◌, codes, Option, None, Some, slice_get, if◌then◌else◌}
use Rattle.std.specs.Fmt.{decimal, signed_decimal}
use Rattle.std.specs.List.{list_any}
use Rattle.kt_types.specs.declared.kinds.FieldDecl.{FieldDecl}
use Rattle.kt_mem.specs.declared.steps.Trap.{Trap}
use Rattle.kt_mem.specs.declared.steps.Trap.TheVariants as trap
use Rattle.kt_tree.specs.declared.global.GlobalDecl.{GlobalDecl}
use Rattle.kt_tree.specs.Tree.{Function}
use Rattle.kt_tree.specs.Version.{Program}
use Rattle.xf_plan.specs.declared.place.Place.{Place}
use Rattle.xf_plan.specs.declared.place.Place.TheVariants as place
use Rattle.xf_plan.specs.declared.place.Why.{Why}
use Rattle.xf_plan.specs.declared.place.Why.TheVariants as why
use Rattle.kt_world.specs.declared.mark.Closed.{Closed}
use Rattle.kt_world.specs.declared.mark.Closed.TheVariants as closed
use Rattle.kt_world.specs.declared.mark.End.{End}
use Rattle.kt_world.specs.declared.mark.End.TheVariants as end
use Rattle.kt_world.specs.declared.mark.Mark.{Mark}
use Rattle.kt_world.specs.declared.mark.Mark.TheVariants as mark
use Rattle.kt_journal.specs.declared.kit.Kit.{Kit}
use Rattle.kt_journal.specs.declared.kit.Kit.TheVariants.{First, Second}
use Rattle.kt_journal.specs.Grammar.{Words}

-- ---- names

-- the name of a trap
abbrev pub trap_name : Trap → List ℕ
trap_name trap.Overflow = codes "overflow"
trap_name trap.Zero = codes "zero"
trap_name trap.Range = codes "range"
trap_name trap.Null = codes "null"
trap_name trap.Dead = codes "dead"
trap_name trap.Bounds = codes "bounds"
trap_name trap.Uninit = codes "uninit"
trap_name trap.Literal = codes "literal"
trap_name trap.Free = codes "free"
trap_name trap.Mutex = codes "mutex"
trap_name trap.Thread = codes "thread"
trap_name trap.Threads = codes "threads"
trap_name trap.Size = codes "size"
trap_name trap.Heap = codes "heap"
trap_name trap.Depth = codes "depth"
trap_name trap.Output = codes "output"

-- Names of the version that a closing was to bring. The places of its refusal are of that version; what is in none has no name.
abbrev pub name_of_global : Option GlobalDecl → List ℕ
name_of_global None = []
name_of_global (Some g) = g.name

abbrev pub name_of_function : Option Function → List ℕ
name_of_function None = []
name_of_function (Some f) = f.name

abbrev pub name_of_local : Option FieldDecl → List ℕ
name_of_local None = []
name_of_local (Some d) = d.name

abbrev pub global_name : Option Program → ℕ → List ℕ
global_name None g = []
global_name (Some p) g = name_of_global (slice_get p.globals g)

-- the function of that number
abbrev pub function_at : Option Program → ℕ → Option Function
function_at None f = None
function_at (Some p) f = slice_get p.functions f

abbrev pub local_at : Option Function → ℕ → Option FieldDecl
local_at None x = None
local_at (Some f) x = slice_get f.locals x

abbrev pub function_name : Option Program → ℕ → List ℕ
function_name new f = name_of_function (function_at new f)

abbrev pub local_name : Option Program → ℕ → ℕ → List ℕ
local_name new f x = name_of_local (local_at (function_at new f) x)

-- ---- refused closings

-- where a new value stands
abbrev pub place_words : Option Program → Place → Words
place_words new (place.GlobalCell g cell) = codes "g" ∷ global_name new g ∷ decimal cell ∷ []
place_words new (place.Argument thread) = codes "a" ∷ decimal thread ∷ []
place_words new (place.Local thread f x) = codes "l" ∷ decimal thread ∷ function_name new f ∷ local_name new f x ∷ []
place_words new (place.HeapCell number cell) = codes "h" ∷ decimal number ∷ decimal cell ∷ []

abbrev pub why_name : Why → List ℕ
why_name (why.Rule cause) = codes "rule"
why_name why.Interior = codes "interior"
why_name why.Gone = codes "gone"
why_name why.Retyped = codes "retyped"
why_name why.Extent = codes "extent"

-- of a rule that traps, the trap
abbrev pub trap_in : Why → Option Trap
trap_in (why.Rule cause) = Some cause
trap_in w = None

abbrev pub trap_words : Option Trap → Words
trap_words None = []
trap_words (Some cause) = trap_name cause ∷ []

-- what is wrong at a place; a rule's trap stands behind the place
abbrev pub fault_words : Why → Words → Words
fault_words w where_it_is = why_name w ∷ (where_it_is ++ trap_words (trap_in w))

-- how the closing went that was to bring this version
abbrev pub closed_words : Option Program → Closed → Words
closed_words new (closed.Ok images) = codes "ok" ∷ decimal images ∷ []
closed_words new closed.Held = codes "refused" ∷ codes "held" ∷ []
closed_words new (closed.Point thread) = codes "refused" ∷ codes "point" ∷ decimal thread ∷ []
closed_words new (closed.Entry thread) = codes "refused" ∷ codes "entry" ∷ decimal thread ∷ []
closed_words new (closed.At fault) = codes "refused" ∷ fault_words fault.why (place_words new fault.place)
closed_words new closed.Size = codes "refused" ∷ codes "size" ∷ []

-- ---- marks

-- a request; in the second form with how many threads it woke
abbrev pub ask_words : Kit → ℕ → ℕ → Words
ask_words First k woken = codes "ask" ∷ decimal k ∷ []
ask_words Second k woken = codes "ask" ∷ decimal k ∷ decimal woken ∷ []

abbrev pub end_words : End → Words
end_words (end.Main value) = codes "end" ∷ codes "main" ∷ signed_decimal value ∷ []
end_words (end.Trap thread cause) = codes "end" ∷ codes "trap" ∷ decimal thread ∷ trap_name cause ∷ []
end_words end.Stuck = codes "end" ∷ codes "stuck" ∷ []
end_words end.Budget = codes "end" ∷ codes "budget" ∷ []

-- the line of a mark, in a journal of this form, where the next update is one to this version
abbrev pub mark_words : Kit → Option Program → Mark → Words
mark_words kit new (mark.Ask turn k woken) = ask_words kit k woken
mark_words kit new (mark.Close turn k how) = codes "close" ∷ decimal k ∷ closed_words new how
mark_words kit new (mark.MainThere turn k) = codes "main" ∷ decimal k ∷ []
mark_words kit new (mark.Back turn k) = codes "back" ∷ decimal k ∷ []
mark_words kit new (mark.End turn how) = end_words how

-- the turns that were made before a mark
abbrev pub turn_of : Mark → ℕ
turn_of (mark.Ask turn k woken) = turn
turn_of (mark.Close turn k how) = turn
turn_of (mark.MainThere turn k) = turn
turn_of (mark.Back turn k) = turn
turn_of (mark.End turn how) = turn

-- a request woke a thread
abbrev pub wakes : Mark → Bool
wakes (mark.Ask turn k woken) = nat_lt 0 woken
wakes m = false

-- the form of the journal of these marks: the second one where a request woke a thread
abbrev pub kit_of : List Mark → Kit
kit_of marks = if list_any wakes marks then Second else First
