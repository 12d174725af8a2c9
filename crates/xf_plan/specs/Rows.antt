-- Worked updates: small memories of an old version, plans, and what these definitions give for them. Each is a small program that was
-- worked out by hand: a ring of nodes that gain a field, a pointer into a struct, a counted array, a rule that traps, a pointer to a
-- global, nodes that gain an object.
use Rattle.std.specs.Prelude.{◌≡◌, ℕ, ◌==◌, pos, true, false, List, [], ◌∷◌, codes, Option, None, Some, refl, if◌then◌else◌}
use Rattle.kt_types.specs.declared.kinds.Ty.TheVariants as ty
use Rattle.kt_types.specs.declared.kinds.FieldDecl.{FieldDecl}
use Rattle.kt_types.specs.declared.kinds.View.{View}
use Rattle.kt_types.specs.declared.kinds.View.TheVariants as view
use Rattle.kt_types.specs.Table.{Table}
use Rattle.kt_types.specs.Layout.{layout, place_cells, struct_cells, repeated}
use Rattle.kt_mem.specs.declared.memory.Name.{Name}
use Rattle.kt_mem.specs.declared.memory.Name.TheVariants.{Glob, Heap}
use Rattle.kt_mem.specs.declared.memory.Value.{Value}
use Rattle.kt_mem.specs.declared.memory.Value.TheVariants.{Num, Ptr, Undef}
use Rattle.kt_mem.specs.declared.memory.Value.TheVariants as value
use Rattle.kt_mem.specs.declared.steps.Trap.TheVariants as trap
use Rattle.kt_mem.specs.Memory.{Memory, Object, Cell}
use Rattle.kt_mem.specs.Values.{name_eq}
use Rattle.kt_tree.specs.declared.expr.Constant.TheVariants as constant
use Rattle.kt_tree.specs.declared.expr.Operation.TheVariants as operation
use Rattle.kt_tree.specs.declared.expr.Request.TheVariants as request
use Rattle.kt_tree.specs.declared.global.Init.{Init}
use Rattle.kt_tree.specs.declared.global.Init.TheVariants as init
use Rattle.kt_tree.specs.Tree.{Expression, Constant', LocalRead, Operated, Requested, NoMore, More}
use Rattle.xf_plan.specs.Bodies.{Actions, Done, Then, Assigned, Number, New}
use Rattle.xf_plan.specs.Plan.{Plan, FieldRule, FieldSource, OldField, FieldBody, GlobalRule, GlobalSource, OldGlobal}
use Rattle.xf_plan.specs.Correspondence.{converts}
use Rattle.xf_plan.specs.Images.{faults, fresh_places, heap_numbers, image_count, kept_globals, moved_object, live_cells}
use Rattle.xf_plan.specs.Reached.{reached}
use Rattle.xf_plan.specs.Sources.{FromCell, Zero, sources}
use Rattle.xf_plan.specs.declared.place.Fault.{Fault}
use Rattle.xf_plan.specs.declared.place.Place.{Place}
use Rattle.xf_plan.specs.declared.place.Place.TheVariants.{GlobalCell, HeapCell}
use Rattle.xf_plan.specs.declared.place.Why.{Why}
use Rattle.xf_plan.specs.declared.place.Why.TheVariants.{Rule, Interior, Gone, Retyped}
use Rattle.xf_plan.specs.declared.place.Why.TheVariants as why

-- ---- tables

abbrev field : List ℕ → ℕ → View → FieldDecl
field name t v = record { name = name; ty = t; view = v }

-- the scalar types, one struct (its type stands at 4), pointers to it (5) and to `int` (6), arrays of three and of five `int` (7, 8)
abbrev table : List FieldDecl → Table
table fields = record {
  types = ty.Char ∷ ty.Int ∷ ty.Long ∷ ty.Mutex ∷ ty.Struct 0 ∷ ty.Ptr 4 ∷ ty.Ptr 1 ∷ ty.Array 1 3 ∷ ty.Array 1 5 ∷ [];
  structs = codes "node" ∷ [];
  defined = record { number = 0; fields = fields } ∷ [];
}

-- ---- memories

abbrev named : Name → List (Name × Object) → Option Object
named n [] = None
named n (o ∷ rest) = if name_eq n (o.0) then Some (o.1) else named n rest

abbrev memory : ℕ → List (Name × Object) → Memory
memory next objects = record { at = λ n. named n objects; next = next; live = 0 }

abbrev object : ℕ → ℕ → ℕ → List Cell → Object
object number t count cells = record { number = number; ty = t; count = count; cells = cells }

abbrev int_cell : ℕ → Cell
int_cell n = record { ty = ty.Int; value = Num (pos n) }

abbrev pointer_cell : ℕ → Value → Cell
pointer_cell t v = record { ty = ty.Ptr t; value = v }

-- ---- plans

abbrev field_rule : ℕ → View → FieldSource → FieldRule
field_rule t v s = record { struct = 0; ty = t; view = v; source = s }

abbrev global_rule : ℕ → View → Init → GlobalSource → GlobalRule
global_rule t v i s = record { ty = t; count = 1; view = v; init = i; source = s }

abbrev plan : Table → Table → List GlobalRule → List FieldRule → Plan
plan old new globals fields = record { old = old; new = new; structs = (0, 0) ∷ []; globals = globals; fields = fields; locals = [] }

abbrev wrong_at : Place → Why → Fault
wrong_at place w = record { place = place; why = w }

-- ---- what converts by default

abbrev plain : Plan
plain = plan (table []) (table []) [] []

pub record ConversionRow : Type 0 where
  pub same : converts plain 1 1 ≡ true
  pub wider : converts plain 0 2 ≡ true
  pub narrower : converts plain 2 1 ≡ false
  pub mutex : converts plain 3 3 ≡ true
  pub to_struct : converts plain 5 5 ≡ true
  pub pointees : converts plain 6 5 ≡ false
  pub longer : converts plain 7 8 ≡ true
  pub shorter : converts plain 8 7 ≡ false
  pub elements : sources plain 7 8 ≡ Some (FromCell 0 ∷ FromCell 1 ∷ FromCell 2 ∷ Zero ∷ Zero ∷ [])

pub conversion_row : ConversionRow
unfolding layout place_cells struct_cells repeated
conversion_row =
    record { same = refl; wider = refl; narrower = refl; mutex = refl; to_struct = refl; pointees = refl; longer = refl; shorter = refl; elements = refl }

-- ---- a ring of three nodes, which gain an age: `INIT struct node.age: { $out = 10 + $base.v; }`

-- struct node { int v; struct node *next; } and struct node { int v; int age; struct node *next; }
abbrev nodes : Table
nodes = table (field (codes "v") 1 view.One ∷ field (codes "next") 5 view.One ∷ [])

abbrev aged_nodes : Table
aged_nodes = table (field (codes "v") 1 view.One ∷ field (codes "age") 1 view.One ∷ field (codes "next") 5 view.One ∷ [])

-- the value of the `int` at the start of `$base`
abbrev first_of_base : Expression
first_of_base = Requested request.Load (Some 1) (More (Operated (operation.Field 0 0) 6 (More (LocalRead 1) NoMore)) NoMore)

abbrev age : Actions
age = Then (Assigned (Number (Operated operation.Add 1 (More (Constant' (constant.Number (pos 10)) 1) (More first_of_base NoMore))))) Done

abbrev node : ℕ → ℕ → ℕ → Name × Object
node a v next = (Heap a, object a 4 1 (int_cell v ∷ pointer_cell 4 (Ptr (Heap next) 0) ∷ []))

abbrev pointers : List (Name × Object)
pointers = (Glob 0, object 0 5 1 (pointer_cell 4 (Ptr (Heap 0) 0) ∷ [])) ∷ (Glob 1, object 0 5 1 (pointer_cell 4 (Ptr (Heap 0) 0) ∷ [])) ∷ []

abbrev ring : Memory
ring = memory 3 (node 0 1 1 ∷ node 1 2 2 ∷ node 2 3 0 ∷ pointers)

abbrev node_pointer : ℕ → GlobalRule
node_pointer g = global_rule 5 view.One init.Null (OldGlobal g 5 1)

abbrev ageing : Plan
ageing = plan nodes aged_nodes (node_pointer 0 ∷ node_pointer 1 ∷ [])
    (field_rule 1 view.One (OldField 0) ∷ field_rule 1 view.One (FieldBody None age) ∷ field_rule 5 view.One (OldField 1) ∷ [])

abbrev aged_node : ℕ → ℕ → ℕ → ℕ → Object
aged_node a v age next = object a 4 1 (int_cell v ∷ int_cell age ∷ pointer_cell 4 (Ptr (Heap next) 0) ∷ [])

pub record RingRow : Type 0 where
  pub faultless : faults ageing ring [] ≡ []
  pub numbers : heap_numbers ring (reached ageing ring []) ≡ 0 ∷ 1 ∷ 2 ∷ []
  pub images : image_count ageing ring [] ≡ 3
  pub first : moved_object ageing ring (reached ageing ring []) [] (Heap 0) ≡ Some (aged_node 0 1 11 1)
  pub third : moved_object ageing ring (reached ageing ring []) [] (Heap 2) ≡ Some (aged_node 2 3 13 0)
  pub kept : kept_globals ageing ring [] 0 ageing.globals ≡ Some (Ptr (Heap 0) 0 ∷ []) ∷ Some (Ptr (Heap 0) 0 ∷ []) ∷ []

pub ring_row : RingRow
unfolding layout place_cells struct_cells repeated
ring_row = record { faultless = refl; numbers = refl; images = refl; first = refl; third = refl; kept = refl }

-- ---- a pointer to the first field of a struct: `struct node *o; int *p;`, p being `&o->v`

abbrev pair_object : Name × Object
pair_object = (Heap 0, object 0 4 1 (int_cell 0 ∷ int_cell 0 ∷ []))

abbrev pair_table : Table
pair_table = table (field (codes "v") 1 view.One ∷ field (codes "w") 1 view.One ∷ [])

abbrev same_pair : List FieldRule
same_pair = field_rule 1 view.One (OldField 0) ∷ field_rule 1 view.One (OldField 1) ∷ []

abbrev pointer_to : ℕ → ℕ → Value → Name × Object
pointer_to g pointee v = (Glob g, object 0 (if pointee == 4 then 5 else 6) 1 (pointer_cell pointee v ∷ []))

abbrev into_struct : Memory
into_struct = memory 1 (pair_object ∷ pointer_to 0 4 (Ptr (Heap 0) 0) ∷ pointer_to 1 1 (Ptr (Heap 0) 0) ∷ [])

abbrev same_pointers : Plan
same_pointers = plan pair_table pair_table (node_pointer 0 ∷ global_rule 6 view.One init.Null (OldGlobal 1 6 1) ∷ []) same_pair

abbrev pub InteriorRow : Type 0
InteriorRow = faults same_pointers into_struct [] ≡ wrong_at (GlobalCell 1 0) Interior ∷ []

pub interior_row : InteriorRow
unfolding layout place_cells struct_cells repeated
interior_row = refl

-- ---- a counted array: `int n; int * E_PTRARRAY(n) a;`, where a points to four elements

abbrev counted : ℕ → ℕ → Memory
counted n offset = memory 1
    ((Heap 0, object 0 1 4 (int_cell 0 ∷ int_cell 0 ∷ int_cell 0 ∷ int_cell 0 ∷ [])) ∷
    (Glob 0, object 0 1 1 (int_cell n ∷ [])) ∷ pointer_to 1 1 (Ptr (Heap 0) offset) ∷ [])

abbrev counting : Plan
counting = plan (table []) (table [])
    (global_rule 1 view.One init.Zero (OldGlobal 0 1 1) ∷ global_rule 6 (view.Global 0) init.Null (OldGlobal 1 6 1) ∷ []) []

pub record ExtentRow : Type 0 where
  pub of_three : faults counting (counted 3 0) [] ≡ wrong_at (GlobalCell 1 0) why.Extent ∷ []
  pub of_four : faults counting (counted 4 0) [] ≡ []
  -- but a pointer to its second element is none to an object
  pub inner : faults counting (counted 4 1) [] ≡ wrong_at (GlobalCell 1 0) Interior ∷ []
  pub image : moved_object counting (counted 4 0) (reached counting (counted 4 0) []) [] (Heap 0) ≡
      Some (object 0 1 4 (int_cell 0 ∷ int_cell 0 ∷ int_cell 0 ∷ int_cell 0 ∷ []))

pub extent_row : ExtentRow
unfolding layout place_cells struct_cells repeated
extent_row = record { of_three = refl; of_four = refl; inner = refl; image = refl }

-- ---- the same where the count is a field: `struct node { int n; int * E_PTRARRAY(n) a; };`

abbrev counted_field : Table
counted_field = table (field (codes "n") 1 view.One ∷ field (codes "a") 6 (view.Field 0) ∷ [])

-- two structs in one object, of which the second says three and points to four elements
abbrev two_counted : Memory
two_counted = memory 2
    ((Heap 0, object 0 4 2 (int_cell 4 ∷ pointer_cell 1 (Ptr (Heap 1) 0) ∷ int_cell 3 ∷ pointer_cell 1 (Ptr (Heap 1) 0) ∷ [])) ∷
    (Heap 1, object 1 1 4 (int_cell 0 ∷ int_cell 0 ∷ int_cell 0 ∷ int_cell 0 ∷ [])) ∷ pointer_to 0 4 (Ptr (Heap 0) 0) ∷ [])

abbrev counting_fields : Plan
counting_fields = plan counted_field counted_field (global_rule 5 (view.Count 2) init.Null (OldGlobal 0 5 1) ∷ [])
    (field_rule 1 view.One (OldField 0) ∷ field_rule 6 (view.Field 0) (OldField 1) ∷ [])

abbrev pub FieldExtentRow : Type 0
FieldExtentRow = faults counting_fields two_counted [] ≡ wrong_at (HeapCell 0 3) why.Extent ∷ []

pub field_extent_row : FieldExtentRow
unfolding layout place_cells struct_cells repeated
field_extent_row = refl

-- ---- a rule that traps on a reached object: `struct node.v -> struct node.v: { $out = 10 / $in; }`, where v is zero

abbrev tenth : Actions
tenth = Then (Assigned (Number (Operated operation.Divide 1 (More (Constant' (constant.Number (pos 10)) 1)
    (More (Requested request.Load (Some 1) (More (LocalRead 0) NoMore)) NoMore))))) Done

abbrev single : Table
single = table (field (codes "v") 1 view.One ∷ [])

abbrev dividing : Plan
dividing = plan single single (node_pointer 0 ∷ []) (field_rule 1 view.One (FieldBody (Some 0) tenth) ∷ [])

-- the global leads to the object, or to none
abbrev holding : ℕ → Value → Memory
holding n v = memory 1 ((Heap 0, object 0 4 1 (int_cell n ∷ [])) ∷ pointer_to 0 4 v ∷ [])

pub record RuleRow : Type 0 where
  pub of_zero : faults dividing (holding 0 (Ptr (Heap 0) 0)) [] ≡ wrong_at (HeapCell 0 0) (Rule trap.Zero) ∷ []
  pub of_five : moved_object dividing (holding 5 (Ptr (Heap 0) 0)) (Heap 0 ∷ []) [] (Heap 0) ≡ Some (object 0 4 1 (int_cell 2 ∷ []))
  pub unreached : faults dividing (holding 0 value.Null) [] ≡ []
  pub gone : moved_object dividing (holding 0 value.Null) (reached dividing (holding 0 value.Null) []) [] (Heap 0) ≡ None

pub rule_row : RuleRow
unfolding layout place_cells struct_cells repeated
rule_row = record { of_zero = refl; of_five = refl; unreached = refl; gone = refl }

-- ---- a pointer to a global that the new version lacks, or has as a `long`: `int g; int *p;`

abbrev to_global : Memory
to_global = memory 0 ((Glob 0, object 0 1 1 (int_cell 7 ∷ [])) ∷ pointer_to 1 1 (Ptr (Glob 0) 0) ∷ [])

abbrev without_g : Plan
without_g = plan (table []) (table []) (global_rule 6 view.One init.Null (OldGlobal 1 6 1) ∷ []) []

abbrev with_g : ℕ → Plan
with_g t = plan (table []) (table [])
    (global_rule 6 view.One init.Null (OldGlobal 1 6 1) ∷ global_rule t view.One init.Zero (OldGlobal 0 1 1) ∷ []) []

pub record GlobalRow : Type 0 where
  pub gone : faults without_g to_global [] ≡ wrong_at (GlobalCell 0 0) Gone ∷ []
  pub retyped : faults (with_g 2) to_global [] ≡ wrong_at (GlobalCell 0 0) Retyped ∷ []
  pub there : faults (with_g 1) to_global [] ≡ []
  pub kept : kept_globals (with_g 2) to_global [] 0 (with_g 2).globals ≡ Some (Ptr (Glob 1) 0 ∷ []) ∷ Some (Num (pos 7) ∷ []) ∷ []

pub global_row : GlobalRow
unfolding layout place_cells struct_cells repeated
global_row = record { gone = refl; retyped = refl; there = refl; kept = refl }

-- ---- a pointer to a dead object is undefined, and no fault

pub record DeadRow : Type 0 where
  pub faultless : faults dividing (memory 1 (pointer_to 0 4 (Ptr (Heap 0) 0) ∷ [])) [] ≡ []
  pub kept : kept_globals dividing (memory 1 (pointer_to 0 4 (Ptr (Heap 0) 0) ∷ [])) [] 0 dividing.globals ≡ Some (Undef ∷ []) ∷ []

pub dead_row : DeadRow
unfolding layout place_cells struct_cells repeated
dead_row = record { faultless = refl; kept = refl }

-- ---- the ring's nodes gain an object each: `INIT struct node.t: { $out = $new(int, 1); }`

abbrev nodes_with_new : Table
nodes_with_new = table (field (codes "v") 1 view.One ∷ field (codes "next") 5 view.One ∷ field (codes "t") 6 view.One ∷ [])

abbrev gaining : ℕ → Plan
gaining n = plan nodes nodes_with_new (node_pointer 0 ∷ node_pointer 1 ∷ [])
    (field_rule 1 view.One (OldField 0) ∷ field_rule 5 view.One (OldField 1) ∷ field_rule 6 view.One (FieldBody None (Then (Assigned (New 1 n)) Done)) ∷ [])

pub record FreshRow : Type 0 where
  pub faultless : faults (gaining 1) ring [] ≡ []
  pub second : moved_object (gaining 1) ring (reached (gaining 1) ring []) (fresh_places (gaining 1) ring []) (Heap 1) ≡
      Some (object 1 4 1 (int_cell 2 ∷ pointer_cell 4 (Ptr (Heap 2) 0) ∷ pointer_cell 1 (Ptr (Heap 4) 0) ∷ []))
  pub made : moved_object (gaining 1) ring (reached (gaining 1) ring []) (fresh_places (gaining 1) ring []) (Heap 4) ≡
      Some (object 4 1 1 (int_cell 0 ∷ []))
  pub no_more : moved_object (gaining 1) ring (reached (gaining 1) ring []) (fresh_places (gaining 1) ring []) (Heap 6) ≡ None
  pub of_two : faults (gaining 2) ring [] ≡
      wrong_at (HeapCell 0 2) why.Extent ∷ wrong_at (HeapCell 1 2) why.Extent ∷ wrong_at (HeapCell 2 2) why.Extent ∷ []
  pub live : live_cells (gaining 1) ring (reached (gaining 1) ring []) (fresh_places (gaining 1) ring []) ≡ 12

pub fresh_row : FreshRow
unfolding layout place_cells struct_cells repeated
fresh_row = record { faultless = refl; second = refl; made = refl; no_more = refl; of_two = refl; live = refl }
