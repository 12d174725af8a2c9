-- Worked programs, as typed trees, and their runs, counted by hand.
use Rattle.std.specs.Prelude.{ℕ, ◌+◌, replicate, pos, negsuc, true, false, List, [], ◌∷◌, codes, Option, None, Some}
use Rattle.kt_types.specs.declared.kinds.FieldDecl.{FieldDecl}
use Rattle.kt_types.specs.declared.kinds.Ty.TheVariants as ty
use Rattle.kt_types.specs.declared.kinds.View.TheVariants as view
use Rattle.kt_types.specs.Table.{Table}
use Rattle.kt_mem.specs.Memory.{Cell}
use Rattle.kt_mem.specs.declared.memory.Name.{Name}
use Rattle.kt_mem.specs.declared.memory.Name.TheVariants.{Glob, Lit, Heap}
use Rattle.kt_mem.specs.declared.memory.Value.{Value}
use Rattle.kt_mem.specs.declared.memory.Value.TheVariants.{Num, Null, Ptr}
use Rattle.kt_mem.specs.declared.steps.Act.{Act}
use Rattle.kt_mem.specs.declared.steps.Act.TheVariants as act
use Rattle.kt_mem.specs.declared.steps.Piece.TheVariants as piece
use Rattle.kt_mem.specs.declared.steps.Trap.TheVariants as trap
use Rattle.kt_mem.specs.declared.thread.Mode.TheVariants.{Normal, Updating}
use Rattle.kt_mem.specs.Memory.{Object, no_objects, put}
use Rattle.kt_tree.specs.declared.expr.Constant.TheVariants as constant
use Rattle.kt_tree.specs.declared.expr.Operation.{Operation}
use Rattle.kt_tree.specs.declared.expr.Operation.TheVariants as operation
use Rattle.kt_tree.specs.declared.expr.Part.TheVariants as format
use Rattle.kt_tree.specs.declared.expr.Request.{Request}
use Rattle.kt_tree.specs.declared.expr.Request.TheVariants as request
use Rattle.kt_tree.specs.Tree.{Expression, Constant', LocalRead, LocalSet, LocalSwapped, Operated, Requested, Modified, Both, Either, Chosen, Called, Expressions, NoMore, More, Statement, Evaluated, Undefined, Compound, Conditional, Looped, Repeated, Returned, Broken, Continued, Statements, Done, Then, Function}
use Rattle.kt_tree.specs.Version.{program}
use Rattle.kt_meaning.specs.Effects.{Shared}
use Rattle.kt_meaning.specs.Thread.{Restart, entry}
use Rattle.kt_meaning.specs.TreeSteps.{Version}
use Rattle.kt_meaning.specs.Alone.{Run, End, Ended, Trap', alone}

-- ---- short forms

abbrev number : ℕ → Expression
number n = Constant' (constant.Number (pos n)) 1

abbrev two : Expression → Expression → Expressions
two a b = More a (More b NoMore)

abbrev one : Expression → Expressions
one a = More a NoMore

-- an operation and a request that give an `int`
abbrev does : Operation → Expression → Expression → Expression
does op a b = Operated op 1 (two a b)

abbrev asks_int : Request → Expressions → Expression
asks_int r es = Requested r (Some 1) es

abbrev minus : Expression → Expression
minus a = does operation.Subtract (number 0) a

abbrev in_order : List Statement → Statements
in_order [] = Done
in_order (a ∷ rest) = Then a (in_order rest)

abbrev main_of : List FieldDecl → List Statement → Function
main_of locals body = record { name = codes "main"; result = Some 1; params = 0; noted = false; locals = locals; body = Compound (in_order body) }

abbrev local : ℕ → FieldDecl
local t = record { name = codes "x"; ty = t; view = view.One }

abbrev function_of : List ℕ → Option ℕ → ℕ → List FieldDecl → List Statement → Function
function_of name result params locals body =
    record { name = name; result = result; params = params; noted = true; locals = locals; body = Compound (in_order body) }

-- ---- types and memory

-- behind the scalar types: `int *`; `struct node { int v; struct node *next; }`, a pointer to it, and a pointer to that
abbrev types : Table
types = record {
  types = ty.Char ∷ ty.Int ∷ ty.Long ∷ ty.Mutex ∷ ty.Ptr 1 ∷ ty.Struct 0 ∷ ty.Ptr 5 ∷ ty.Ptr 6 ∷ ty.Ptr 0 ∷ [];
  structs = codes "node" ∷ [];
  defined = record { number = 0; fields = local 1 ∷ local 6 ∷ [] } ∷ [];
}

-- a global with this value, as memory begins
abbrev global : ℕ → Cell → (Name → Option Object) → Name → Option Object
global n c at = put at (Glob n) (Some (record { number = 0; ty = 1; count = 1; cells = c ∷ [] }))

abbrev begins : (Name → Option Object) → Shared
begins at = record { memory = record { at = at; next = 0; live = 0 }; input = []; output = [] }

abbrev zero_int : Cell
zero_int = record { ty = ty.Int; value = Num (pos 0) }

abbrev null_node : Cell
null_node = record { ty = ty.Ptr 5; value = Null }

-- ---- runs

abbrev no_restart : Restart
no_restart = record { mode = Normal; kept = [] }

-- the run of `main`, which is the first function, for at most so many acts
abbrev run_of : List Function → Restart → ℕ → Shared → Run
run_of functions r n s = from (functions) r n s
  where
    version : List Function → Version
    version fs = record { program = program types [] [] fs (record { names = []; updates = 0 }); number = 1 }

    from : List Function → Restart → ℕ → Shared → Run
    from [] r n s = alone (version []) n (record { frames = []; restart = r }) s
    from (main ∷ fs) r n s = alone (version (main ∷ fs)) n (entry 0 main [] r) s

-- ---- `int main(void){printf("%d %d\n",-7/2,-7%2); return 0&&1/0;}`

abbrev pub division : Function
division = main_of [] (
    Evaluated (asks_int (request.Print (format.Number ∷ format.Bytes (codes " ") ∷ format.Number ∷ format.Bytes (10 ∷ []) ∷ []))
    (two (does operation.Divide (minus (number 7)) (number 2)) (does operation.Remainder (minus (number 7)) (number 2))))
    ∷ Returned (Some (Both (number 0) (does operation.Divide (number 1) (number 0))))
    ∷ [])

abbrev pub division_run : Run
division_run = run_of (division ∷ []) no_restart 3 (begins no_objects)

abbrev pub division_row : Run
division_row = record {
  acts = act.Print (piece.Number (negsuc 2) ∷ piece.Bytes (codes " ") ∷ piece.Number (negsuc 0) ∷ piece.Bytes (10 ∷ []) ∷ []) ∷ [];
  output = codes "-3 -1\n";
  end = Ended (act.MainReturn (pos 0));
}

-- ---- the counting loop: `int n;` and
-- `int main(void){kitsune_do_automigrate(); while(n<5){kitsune_update("loop"); n=n+1; printf("a%d\n",n);} return 0;}`

abbrev the_global : ℕ → ℕ → Expression
the_global n t = Constant' (constant.Global n) t

abbrev int_global : ℕ → Expression
int_global n = asks_int request.Load (one (the_global n 4))

abbrev nothing_of : Request → Statement
nothing_of r = Evaluated (Requested r None NoMore)

abbrev pub counting : Function
counting = main_of [] (
    nothing_of request.Automigrate
    ∷ Looped (Some (does operation.Less (int_global 0) (number 5))) None (Compound (in_order (
    nothing_of (request.Point 0)
    ∷ Evaluated (asks_int request.Store (two (the_global 0 4) (does operation.Add (int_global 0) (number 1))))
    ∷ Evaluated (asks_int (request.Print (format.Bytes (codes "a") ∷ format.Number ∷ format.Bytes (10 ∷ []) ∷ [])) (one (int_global 0)))
    ∷ [])))
    ∷ Returned (Some (number 0))
    ∷ [])

abbrev pub counting_run : Run
counting_run = run_of (counting ∷ []) no_restart 50 (begins (global 0 zero_int no_objects))

-- the load of the test, the tick, the point, and then load, store, load and print
abbrev loads : ℕ → Act
loads n = act.Load (Ptr (Glob n) 0) ty.Int

abbrev turn : ℕ → List Act → List Act
turn i rest =
    loads 0 ∷ act.Tick ∷ act.Point 0 ∷ loads 0 ∷ act.Store (Ptr (Glob 0) 0) ty.Int (Num (pos i)) ∷ loads 0
    ∷ act.Print (piece.Bytes (codes "a") ∷ piece.Number (pos i) ∷ piece.Bytes (10 ∷ []) ∷ []) ∷ rest

abbrev pub counting_row : Run
counting_row = record {
  acts = act.Automigrate ∷ turn 1 (turn 2 (turn 3 (turn 4 (turn 5 (loads 0 ∷ [])))));
  output = codes "a1\na2\na3\na4\na5\n";
  end = Ended (act.MainReturn (pos 0));
}

-- ---- the ring of nodes, from its allocations to the return

abbrev node_global : ℕ → Expression
node_global n = Requested request.Load (Some 6) (one (the_global n 7))

abbrev value_place : Expression → Expression
value_place p = Operated (operation.Field 0 0) 4 (one p)

abbrev next_place : Expression → Expression
next_place p = Operated (operation.Field 0 1) 7 (one p)

abbrev next : Expression → Expression
next p = Requested request.Load (Some 6) (one (next_place p))

abbrev sets_value : Expression → ℕ → Statement
sets_value p n = Evaluated (asks_int request.Store (two (value_place p) (number n)))

abbrev sets_node : Expression → Expression → Statement
sets_node place v = Evaluated (Requested request.Store (Some 6) (two place v))

abbrev new_node : Expression
new_node = Requested (request.Allocate 5 false) (Some 6) (one (number 1))

abbrev pub ring : Function
ring = main_of [] (
    nothing_of request.Automigrate
    ∷ Conditional (Operated operation.Not 1 (one (asks_int request.IsUpdating NoMore))) (Compound (in_order (
    sets_node (the_global 0 7) new_node
    ∷ sets_value (node_global 0) 1
    ∷ sets_node (next_place (node_global 0)) new_node
    ∷ sets_value (next (node_global 0)) 2
    ∷ sets_node (next_place (next (node_global 0))) new_node
    ∷ sets_value (next (next (node_global 0))) 3
    ∷ sets_node (next_place (next (next (node_global 0)))) (node_global 0)
    ∷ sets_node (the_global 1 7) (node_global 0)
    ∷ []))) (Compound Done)
    ∷ nothing_of (request.Point 0)
    ∷ Evaluated (asks_int (request.Print (format.Bytes (codes "old ") ∷ format.Number ∷ format.Bytes (10 ∷ []) ∷ []))
    (one (does operation.Equal (node_global 0) (node_global 1))))
    ∷ Returned (Some (number 0))
    ∷ [])

abbrev pub ring_run : Run
ring_run = run_of (ring ∷ []) no_restart 50 (begins (global 0 null_node (global 1 null_node no_objects)))

abbrev node_at : Value → Act
node_at p = act.Load p (ty.Ptr 5)

abbrev p_is : Act
p_is = node_at (Ptr (Glob 0) 0)

abbrev node_to : Value → ℕ → Act
node_to p n = act.Store p (ty.Ptr 5) (Ptr (Heap n) 0)

abbrev value_to : ℕ → ℕ → Act
value_to n v = act.Store (Ptr (Heap n) 0) ty.Int (Num (pos v))

abbrev new : Act
new = act.Allocate 5 (pos 1) false

abbrev pub ring_row : Run
ring_row = record {
  acts =
      act.Automigrate ∷ act.UpdatingTest None
      ∷ new ∷ node_to (Ptr (Glob 0) 0) 0
      ∷ p_is ∷ value_to 0 1
      ∷ p_is ∷ new ∷ node_to (Ptr (Heap 0) 1) 1
      ∷ p_is ∷ node_at (Ptr (Heap 0) 1) ∷ value_to 1 2
      ∷ p_is ∷ node_at (Ptr (Heap 0) 1) ∷ new ∷ node_to (Ptr (Heap 1) 1) 2
      ∷ p_is ∷ node_at (Ptr (Heap 0) 1) ∷ node_at (Ptr (Heap 1) 1) ∷ value_to 2 3
      ∷ p_is ∷ node_at (Ptr (Heap 0) 1) ∷ node_at (Ptr (Heap 1) 1) ∷ p_is ∷ node_to (Ptr (Heap 2) 1) 0
      ∷ p_is ∷ node_to (Ptr (Glob 1) 0) 0
      ∷ act.Point 0
      ∷ p_is ∷ node_at (Ptr (Glob 1) 0)
      ∷ act.Print (piece.Bytes (codes "old ") ∷ piece.Number (pos 1) ∷ piece.Bytes (10 ∷ []) ∷ [])
      ∷ [];
  output = codes "old 1\n";
  end = Ended (act.MainReturn (pos 0));
}

-- ---- noted clients, in a version that writes this number:
-- `int client(int k) E_NOTELOCALS {int i=0; MIGRATE_LOCAL(i); while(i<2){kitsune_update("client"); i=i+1; printf("K:%d.%d\n",k,i);} return i;}` and
-- `int main(void) E_NOTELOCALS {int k=0; if(!MIGRATE_LOCAL(k)){puts("init");} while(k<2){if(kitsune_is_updating_from("client")==0){k=k+1;} client(k);} return 0;}`

abbrev adds_one : ℕ → Statement
adds_one n = Evaluated (LocalSet n (does operation.Add (LocalRead n) (number 1)))

abbrev client : ℕ → Function
client version = function_of (codes "client") (Some 1) 1 (local 1 ∷ local 1 ∷ []) (
    Evaluated (LocalSet 1 (number 0))
    ∷ Evaluated (asks_int (request.MigrateLocal 1) NoMore)
    ∷ Looped (Some (does operation.Less (LocalRead 1) (number 2))) None (Compound (in_order (
    nothing_of (request.Point 0)
    ∷ adds_one 1
    ∷ Evaluated (asks_int (request.Print (format.Bytes ((48 + version) ∷ 58 ∷ []) ∷ format.Number ∷ format.Bytes (codes ".") ∷ format.Number ∷ format.Bytes (10 ∷ []) ∷ []))
    (two (LocalRead 0) (LocalRead 1)))
    ∷ [])))
    ∷ Returned (Some (LocalRead 1))
    ∷ [])

abbrev clients : Function
clients = main_of (local 1 ∷ []) (
    Evaluated (LocalSet 0 (number 0))
    ∷ Conditional (Operated operation.Not 1 (one (asks_int (request.MigrateLocal 0) NoMore)))
    (Evaluated (asks_int request.Puts (one (Constant' (constant.Literal 0) 8)))) (Compound Done)
    ∷ Looped (Some (does operation.Less (LocalRead 0) (number 2))) None (Compound (in_order (
    Conditional (does operation.Equal (asks_int (request.IsUpdatingFrom 0) NoMore) (number 0)) (adds_one 0) (Compound Done)
    ∷ Evaluated (Called 1 (one (LocalRead 0)))
    ∷ [])))
    ∷ Returned (Some (number 0))
    ∷ [])

abbrev char_cell : ℕ → Cell
char_cell b = record { ty = ty.Char; value = Num (pos b) }

abbrev init_text : Name → Option Object
init_text = put no_objects (Lit 1 0) (Some (record { number = 0; ty = 0; count = 5; cells = char_cell 105 ∷ char_cell 110 ∷ char_cell 105 ∷ char_cell 116 ∷ char_cell 0 ∷ [] }))

abbrev pub clients_run : Run
clients_run = run_of (clients ∷ client 1 ∷ []) no_restart 50 (begins init_text)

-- one turn of the client's loop, and one of `main`'s with the rest of its call
abbrev client_turn : ℕ → ℕ → ℕ → List Act → List Act
client_turn version k i rest =
    act.Tick ∷ act.Point 0
    ∷ act.Print (piece.Bytes ((48 + version) ∷ 58 ∷ []) ∷ piece.Number (pos k) ∷ piece.Bytes (codes ".") ∷ piece.Number (pos i) ∷ piece.Bytes (10 ∷ []) ∷ [])
    ∷ rest

abbrev main_turn : List Act → List Act
main_turn rest = act.Tick ∷ act.UpdatingTest (Some 0) ∷ act.Tick ∷ act.MigrateLocal 1 1 ∷ rest

abbrev pub clients_row : Run
clients_row = record {
  acts =
      act.MigrateLocal 0 0 ∷ act.Print (piece.TextAt (Ptr (Lit 1 0) 0) ∷ piece.Bytes (10 ∷ []) ∷ [])
      ∷ main_turn (client_turn 1 1 1 (client_turn 1 1 2 (main_turn (client_turn 1 2 1 (client_turn 1 2 2 [])))));
  output = codes "init\n1:1.1\n1:1.2\n1:2.1\n1:2.2\n";
  end = Ended (act.MainReturn (pos 0));
}

-- the next version, from an update with `k` and `i` both 1: it comes to its point with seven turns, and then goes on
abbrev pub restarted_run : Run
restarted_run =
    run_of (clients ∷ client 2 ∷ [])
    (record { mode = Updating 0; kept = record { function = 0; local = 0; value = Num (pos 1) } ∷ record { function = 1; local = 1; value = Num (pos 1) } ∷ [] })
    50 (begins init_text)

abbrev pub restarted_row : Run
restarted_row = record {
  acts = act.MigrateLocal 0 0 ∷ main_turn (client_turn 2 1 2 (main_turn (client_turn 2 2 1 (client_turn 2 2 2 []))));
  output = codes "2:1.2\n2:2.1\n2:2.2\n";
  end = Ended (act.MainReturn (pos 0));
}

-- ---- the order of evaluation, and of traps and acts

abbrev only : Statement → Function
only a = main_of [] (a ∷ [])

abbrev ends : List Act → List ℕ → End → Run
ends acts output end = record { acts = acts; output = output; end = end }

-- `printf("%d", getchar() - getchar());` takes the left byte first
abbrev pub left_run : Run
left_run =
    run_of (only (Evaluated (asks_int (request.Print (format.Number ∷ [])) (one (does operation.Subtract (asks_int request.GetChar NoMore) (asks_int request.GetChar NoMore))))) ∷ [])
    no_restart 9 (record (begins no_objects) { input = codes "DA" })

abbrev pub left_row : Run
left_row = ends (act.GetChar ∷ act.GetChar ∷ act.Print (piece.Number (pos 3) ∷ []) ∷ []) (codes "3") (Ended (act.MainReturn (pos 0)))

-- `n += (n = 5);` loads before the right side, and stores after it
abbrev pub compound_run : Run
compound_run =
    run_of (only (Evaluated (Modified operation.Add 1 1 false (the_global 0 4) (asks_int request.Store (two (the_global 0 4) (number 5))))) ∷ []) no_restart 9
    (begins (global 0 (record { ty = ty.Int; value = Num (pos 2) }) no_objects))

abbrev pub compound_row : Run
compound_row =
    ends (loads 0 ∷ act.Store (Ptr (Glob 0) 0) ty.Int (Num (pos 5)) ∷ act.Store (Ptr (Glob 0) 0) ty.Int (Num (pos 7)) ∷ []) [] (Ended (act.MainReturn (pos 0)))

-- `&p->v;` traps where `p` is null, though `v` is the first field
abbrev pub null_run : Run
null_run = run_of (only (Evaluated (value_place (Constant' constant.Null 6))) ∷ []) no_restart 9 (begins no_objects)

abbrev pub null_row : Run
null_row = ends [] [] (Trap' trap.Null)

-- `char c; c = 300;` traps before the store
abbrev pub char_run : Run
char_run =
    run_of (only (Evaluated (Requested request.Store (Some 0) (two (the_global 0 8) (Operated operation.Convert 0 (one (number 300)))))) ∷ []) no_restart 9
    (begins (global 0 (char_cell 100) no_objects))

abbrev pub char_row : Run
char_row = ends [] [] (Trap' trap.Range)

-- `char c = 100; c += 100;` loads, and traps before the store
abbrev pub late_run : Run
late_run =
    run_of (only (Evaluated (Modified operation.Add 1 0 false (the_global 0 8) (number 100))) ∷ []) no_restart 9
    (begins (global 0 (char_cell 100) no_objects))

abbrev pub late_row : Run
late_row = ends (act.Load (Ptr (Glob 0) 0) ty.Char ∷ []) [] (Trap' trap.Range)

-- `void f(void){f();}` is called until 200 calls are open, that of `main` among them
abbrev pub deep_run : Run
deep_run = run_of (only (Evaluated (Called 1 NoMore)) ∷ function_of (codes "f") None 0 [] (Evaluated (Called 1 NoMore) ∷ []) ∷ []) no_restart 300 (begins no_objects)

abbrev pub deep_row : Run
deep_row = ends (replicate 199 act.Tick) [] (Trap' trap.Depth)

-- `int f(void){}` gives nothing, and its end is a trap
abbrev pub fall_run : Run
fall_run = run_of (only (Evaluated (Called 1 NoMore)) ∷ function_of (codes "f") (Some 1) 0 [] [] ∷ []) no_restart 9 (begins no_objects)

abbrev pub fall_row : Run
fall_row = ends (act.Tick ∷ []) [] (Trap' trap.Uninit)

-- `int main(void){int i; int s=0; for(i=0;i<5;i++){if(i==1)continue; if(i==3)break; s=s+((i||0)?10:1);} do {s=s+1;} while(0); return s;}`
-- has four tests that are not zero, adds 1 and 10, and has one body of the `do`
abbrev adds : Expression → Statement
adds e = Evaluated (LocalSet 1 (does operation.Add (LocalRead 1) e))

abbrev on : ℕ → Statement → Statement
on n a = Conditional (does operation.Equal (LocalRead 0) (number n)) a (Compound Done)

abbrev control : Function
control = main_of (local 1 ∷ local 1 ∷ []) (
    Undefined 0
    ∷ Evaluated (LocalSet 1 (number 0))
    ∷ Compound (in_order (
    Evaluated (LocalSet 0 (number 0))
    ∷ Looped (Some (does operation.Less (LocalRead 0) (number 5))) (Some (LocalSwapped 0 (does operation.Add (LocalRead 0) (number 1)))) (Compound (in_order (
    on 1 Continued ∷ on 3 Broken ∷ adds (Chosen (Either (LocalRead 0) (number 0)) 1 (number 10) (number 1)) ∷ [])))
    ∷ []))
    ∷ Repeated (Compound (in_order (adds (number 1) ∷ []))) (number 0)
    ∷ Returned (Some (LocalRead 1))
    ∷ [])

abbrev pub control_run : Run
control_run = run_of (control ∷ []) no_restart 20 (begins no_objects)

abbrev pub control_row : Run
control_row = ends (replicate 5 act.Tick) [] (Ended (act.MainReturn (pos 12)))

-- ---- points of an update: `int main(void){kitsune_update("near"); return kitsune_is_updating();}`

abbrev reaching : Function
reaching = main_of [] (nothing_of (request.Point 0) ∷ Returned (Some (asks_int request.IsUpdating NoMore)) ∷ [])

abbrev updating_from : ℕ → Restart
updating_from n = record { mode = Updating n; kept = [] }

abbrev reached : ℕ → Run
reached v = ends (act.Point 0 ∷ act.UpdatingTest None ∷ []) [] (Ended (act.MainReturn (pos v)))

-- a thread that updates from that point is normal from there on; one that updates from another is not
abbrev pub same_point_run : Run
same_point_run = run_of (reaching ∷ []) (updating_from 0) 9 (begins no_objects)

abbrev pub same_point_row : Run
same_point_row = reached 0

abbrev pub other_point_run : Run
other_point_run = run_of (reaching ∷ []) (updating_from 1) 9 (begins no_objects)

abbrev pub other_point_row : Run
other_point_row = reached 1
