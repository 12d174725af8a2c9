-- Worked rows: expressions with their answers, in the environment of a small file.
use Rattle.std.specs.Prelude.{ℕ, ◌==◌, Bool, true, false, List, [], ◌∷◌, codes, Option, Some, None, if◌then◌else◌}
use Rattle.std.specs.Str.{bytes_eq}
use Rattle.kt_grammar.specs.declared.operator.AssignOperator.TheVariants as assign
use Rattle.kt_grammar.specs.declared.operator.BinaryOperator.TheVariants as binary
use Rattle.kt_grammar.specs.declared.operator.PrefixOperator.TheVariants as prefix
use Rattle.kt_grammar.specs.declared.keyword.RuleWord.{RuleWord}
use Rattle.kt_grammar.specs.declared.keyword.RuleWord.TheVariants as word
use Rattle.kt_grammar.specs.declared.tree.Base.{Base}
use Rattle.kt_grammar.specs.declared.tree.Base.TheVariants as base
use Rattle.kt_grammar.specs.declared.tree.Name.{Name}
use Rattle.kt_grammar.specs.declared.tree.TypeName.{TypeName}
use Rattle.kt_grammar.specs.Tree.{Term, Constant, Text, Null, Named, Called, Parenthesised, SizeOf, RuleValue, OldSymbol, Transformed, Element, Pointed, Prefixed, Operated, Chosen, Assigned, Terms, Nothing, More}
use Rattle.kt_types.specs.declared.kinds.Ty.TheVariants as ty
use Rattle.kt_types.specs.declared.kinds.View.TheVariants as view
use Rattle.kt_types.specs.Table.{Table}
use Rattle.kt_tree.specs.declared.expr.Constant.TheVariants as constant
use Rattle.kt_tree.specs.Tree.{Expression, Constant', LocalRead}
use Rattle.kt_tree.specs.Kinds.{Scope}
use Rattle.kt_typing.specs.declared.fault.Fault.{Fault}
use Rattle.kt_typing.specs.declared.fault.Kind.TheVariants as kind
use Rattle.kt_typing.specs.declared.standing.Standing.TheVariants as standing
use Rattle.kt_typing.specs.Faults.{fault_at, unknown, bad_type, incomplete}
use Rattle.kt_typing.specs.Environment.{Environment, Meaning, Missing, Barred, Stands, Routine}

-- ---- struct t { int v; }; struct u; struct t s; pthread_mutex_t lk; struct u *w; int n; int *q; int g[3]; int f(int *, int);
-- ---- and a local `int x`

abbrev pub types : Table
types = record {
  types = ty.Char ∷ ty.Int ∷ ty.Long ∷ ty.Mutex ∷ ty.Ptr 0 ∷ ty.Ptr 1 ∷ ty.Struct 0 ∷ ty.Ptr 6 ∷ ty.Ptr 3 ∷ ty.Struct 1 ∷ ty.Ptr 9 ∷ ty.Ptr 10 ∷ ty.Ptr 5 ∷ [];
  structs = codes "t" ∷ codes "u" ∷ [];
  defined = record { number = 0; fields = record { name = codes "v"; ty = 1; view = view.One } ∷ [] } ∷ [];
}

abbrev pub scope : Bool → Scope
scope noted = record {
  types = types;
  globals = 6 ∷ 3 ∷ 10 ∷ 1 ∷ 5 ∷ 1 ∷ [];
  literals = 9;
  functions = record { parameters = 5 ∷ 1 ∷ []; result = Some 1 } ∷ [];
  names = 0;
  updates = 0;
  locals = 1 ∷ [];
  noted = noted;
}

abbrev pub global : ℕ → ℕ → Expression
global g t = Constant' (constant.Global g) t

abbrev pub meaning : List (List ℕ × Meaning) → List ℕ → Meaning
meaning [] name = Missing
meaning (m ∷ rest) name = if bytes_eq m.0 name then m.1 else meaning rest name

abbrev pub meanings : List (List ℕ × Meaning)
meanings =
    (codes "s", Stands standing.Whole 7 (global 0 7)) ∷ (codes "lk", Stands standing.Whole 8 (global 1 8))
    ∷ (codes "w", Stands standing.Cell 11 (global 2 11)) ∷ (codes "n", Stands standing.Cell 5 (global 3 5))
    ∷ (codes "q", Stands standing.Cell 12 (global 4 12)) ∷ (codes "g", Stands standing.Value 5 (global 5 5))
    ∷ (codes "f", Routine 0) ∷ (codes "x", Stands (standing.Local 0) 1 (LocalRead 0)) ∷ []

abbrev pub pointer : ℕ → Option ℕ
pointer t =
    if t == 0 then Some 4 else (if t == 1 then Some 5 else (if t == 6 then Some 7 else (if t == 3 then Some 8
    else (if t == 9 then Some 10 else (if t == 10 then Some 11 else (if t == 5 then Some 12 else None))))))

abbrev pub struct : List ℕ → Option ℕ
struct name = if bytes_eq name (codes "t") then Some 6 else (if bytes_eq name (codes "u") then Some 9 else None)

-- `$in` is the array, `$base` is nothing
abbrev pub rule_word : RuleWord → Meaning
rule_word word.In = Stands standing.Elements 5 (global 5 5)
rule_word word.Out = Barred
rule_word _ = Missing

-- the environment of a function of the file, with `E_NOTELOCALS`
abbrev pub c_file : Environment
c_file = record {
  scope = scope true;
  text = 4;
  pointer = pointer;
  struct = struct;
  name = meaning meanings;
  word = rule_word;
  old_symbol = λ n. Missing;
  literal = λ at. 0;
  point = λ n. 0;
  without_cells = incomplete;
  without_fields = λ at named. incomplete at;
}

-- the same names in rule code, where `$oldsym` alone names globals
abbrev pub rule_code : Environment
rule_code = record c_file {
  name = λ n. Missing;
  old_symbol = meaning meanings;
  without_cells = bad_type;
  without_fields = λ at named. unknown named;
}

-- ---- short names for terms

abbrev pub name : ℕ → List ℕ → Name
name at word = record { at = at; word = word }

abbrev pub named : ℕ → List ℕ → Term
named at word = Named (name at word)

abbrev pub number : ℕ → ℕ → Term
number at n = Constant at (record { value = n; long = false; hexadecimal = false })

abbrev pub type_name : Base → ℕ → TypeName
type_name b stars = record { base = b; stars = stars }

abbrev pub size_of : ℕ → Base → Term
size_of at b = SizeOf at (type_name b 0)

abbrev pub terms : List Term → Terms
terms [] = Nothing
terms (a ∷ rest) = More a (terms rest)

abbrev pub call : ℕ → List ℕ → List Term → Term
call at word args = Called (name at word) (terms args)

-- ---- rows: what is told of an expression that stands as a statement

abbrev pub refused : List (Term × Fault)
refused =
    -- s = unknown, and the other operators: a struct used as a value is the fault of that part
    (Assigned assign.Assign (named 45 (codes "s")) (named 49 (codes "unknown")), bad_type 45)
    ∷ (Assigned assign.Add (named 1 (codes "s")) (named 6 (codes "unknown")), bad_type 1)
    ∷ (Operated binary.Add (named 1 (codes "s")) (named 3 (codes "unknown")), bad_type 1)
    ∷ (Operated binary.And (named 1 (codes "s")) (named 4 (codes "unknown")), bad_type 1)
    ∷ (Operated binary.Equal (named 1 (codes "s")) (named 4 (codes "unknown")), bad_type 1)
    ∷ (Element (named 1 (codes "s")) (named 3 (codes "unknown")), bad_type 1)
    ∷ (Chosen (named 1 (codes "s")) (named 3 (codes "unknown")) (number 11 1), bad_type 1)
    ∷ (Chosen (number 1 1) (named 3 (codes "s")) (named 5 (codes "unknown")), bad_type 3)
    -- ((lk)); ++s; -(s)
    ∷ (Parenthesised 1 (Parenthesised 2 (named 3 (codes "lk"))), bad_type 3)
    ∷ (Prefixed 1 prefix.Increment (named 3 (codes "s")), bad_type 3)
    ∷ (Prefixed 1 prefix.Negate (Parenthesised 2 (named 3 (codes "s"))), bad_type 3)
    -- 5 = unknown; free(q) + unknown: the operator's own rule waits for the type of each part
    ∷ (Assigned assign.Assign (number 1 5) (named 5 (codes "unknown")), unknown 5)
    ∷ (Operated binary.Add (call 1 (codes "free") (named 6 (codes "q") ∷ [])) (named 11 (codes "unknown")), unknown 11)
    ∷ (Operated binary.Add (call 1 (codes "free") (named 6 (codes "q") ∷ [])) (named 11 (codes "s")), bad_type 11)
    ∷ (Assigned assign.Assign (number 1 5) (number 5 6), bad_type 1)
    -- f(n, unknown), where n doesn't convert; f(n); f(n, 1)
    ∷ (call 1 (codes "f") (named 3 (codes "n") ∷ named 6 (codes "unknown") ∷ []), unknown 6)
    ∷ (call 1 (codes "f") (named 3 (codes "unknown") ∷ []), bad_type 1)
    ∷ (call 1 (codes "f") (named 3 (codes "n") ∷ number 6 1 ∷ []), bad_type 1)
    ∷ (call 1 (codes "n") (named 3 (codes "unknown") ∷ []), bad_type 1)
    -- the same of built-in calls
    ∷ (call 1 (codes "printf") (Text 8 (codes "%d%d") ∷ named 15 (codes "q") ∷ named 18 (codes "unknown") ∷ []), unknown 18)
    ∷ (call 1 (codes "printf") (Text 8 (codes "%d") ∷ named 15 (codes "q") ∷ []), bad_type 1)
    ∷ (call 1 (codes "printf") (Text 8 (codes "%d") ∷ []), bad_type 1)
    ∷ (call 1 (codes "malloc") (Operated binary.Multiply (named 8 (codes "q")) (size_of 10 (base.Struct (name 24 (codes "u")))) ∷ []), incomplete 24)
    ∷ (call 1 (codes "malloc") (Operated binary.Multiply (named 8 (codes "q")) (size_of 10 base.Int) ∷ []), bad_type 1)
    ∷ (call 1 (codes "calloc") (named 8 (codes "q") ∷ size_of 11 (base.Struct (name 25 (codes "u"))) ∷ []), incomplete 25)
    ∷ (Element (named 1 (codes "g")) (named 3 (codes "s")), bad_type 3)
    ∷ (call 1 (codes "ktthread_create") (named 17 (codes "unknown") ∷ named 26 (codes "unknown") ∷ []), unknown 17)
    ∷ (call 1 (codes "ktthread_create") (named 17 (codes "f") ∷ number 20 0 ∷ []), fault_at kind.Entry 17)
    ∷ (call 1 (codes "ktthread_create") (number 17 1 ∷ number 20 0 ∷ []), bad_type 1)
    ∷ (call 1 (codes "MIGRATE_LOCAL") (number 15 1 ∷ []), fault_at kind.Note 1)
    ∷ (call 1 (codes "MIGRATE_LOCAL") (named 15 (codes "unknown") ∷ []), fault_at kind.Note 1)
    ∷ (call 1 (codes "MIGRATE_LOCAL") [], bad_type 1)
    -- sizeof elsewhere, whatever stands beside it; malloc without a call
    ∷ (Operated binary.Multiply (size_of 1 base.Int) (named 13 (codes "unknown")), bad_type 1)
    ∷ (call 1 (codes "putchar") (Operated binary.Multiply (number 9 2) (size_of 11 base.Int) ∷ []), bad_type 11)
    ∷ (named 1 (codes "malloc"), unknown 1)
    -- w->v and w + 1, where nothing defines struct u
    ∷ (Pointed (named 1 (codes "w")) (name 4 (codes "v")), incomplete 1)
    ∷ (Operated binary.Add (named 1 (codes "w")) (number 5 1), incomplete 1)
    -- q == 0: the literal converts where values convert, and not here
    ∷ (Operated binary.Equal (named 1 (codes "q")) (number 6 0), bad_type 1)
    ∷ (call 1 (codes "puts") (Null 6 ∷ []), bad_type 1)
    ∷ []

abbrev pub accepted : List Term
accepted =
    -- malloc((sizeof(struct t))); malloc(2*(sizeof(struct t)))
    call 1 (codes "malloc") (Parenthesised 8 (size_of 9 (base.Struct (name 23 (codes "t")))) ∷ [])
    ∷ call 1 (codes "malloc") (Operated binary.Multiply (number 8 2) (Parenthesised 10 (size_of 11 (base.Struct (name 25 (codes "t"))))) ∷ [])
    -- pthread_mutex_init(&lk, (NULL)); MIGRATE_LOCAL((x))
    ∷ call 1 (codes "pthread_mutex_init") (Prefixed 20 prefix.AddressOf (named 21 (codes "lk")) ∷ Parenthesised 25 (Null 26) ∷ [])
    ∷ call 1 (codes "MIGRATE_LOCAL") (Parenthesised 15 (named 16 (codes "x")) ∷ [])
    -- q = n ? NULL : NULL; q = 0; free(NULL); NULL == NULL; !NULL
    ∷ Assigned assign.Assign (named 1 (codes "q")) (Chosen (named 5 (codes "n")) (Null 9) (Null 16))
    ∷ Assigned assign.Assign (named 1 (codes "q")) (number 5 0)
    ∷ call 1 (codes "free") (Null 6 ∷ [])
    ∷ Operated binary.Equal (Null 1) (Null 9)
    ∷ Prefixed 1 prefix.Not (Null 2)
    -- q = q + 1; (&s)->v = x
    ∷ Assigned assign.Assign (named 1 (codes "q")) (Operated binary.Add (named 5 (codes "q")) (number 9 1))
    ∷ Assigned assign.Assign (Pointed (Parenthesised 1 (Prefixed 2 prefix.AddressOf (named 3 (codes "s")))) (name 7 (codes "v"))) (named 11 (codes "x"))
    ∷ []

abbrev pub old : ℕ → ℕ → List ℕ → Term
old at named_at word = OldSymbol at (name named_at word)

-- the same names in rule code: a field of a struct without a definition is unknown, and no pointer to it moves; an array `$in` is
-- used through its elements alone
abbrev pub refused_in_rules : List (Term × Fault)
refused_in_rules =
    (Pointed (old 1 9 (codes "w")) (name 13 (codes "v")), unknown 13)
    ∷ (Operated binary.Add (old 1 9 (codes "w")) (number 13 1), bad_type 1)
    ∷ (named 1 (codes "n"), unknown 1)
    ∷ (Operated binary.Add (old 1 9 (codes "s")) (old 13 21 (codes "unknown")), bad_type 1)
    ∷ (Operated binary.Add (RuleValue 1 word.Out) (number 8 1), bad_type 1)
    ∷ (RuleValue 1 word.Base, unknown 1)
    ∷ (Operated binary.Add (RuleValue 1 word.In) (number 7 1), bad_type 1)
    ∷ (Operated binary.Add (number 1 1) (Transformed 5 (old 12 20 (codes "unknown"))), unknown 20)
    ∷ (Operated binary.Add (number 1 1) (Transformed 5 (old 12 20 (codes "q"))), bad_type 5)
    ∷ []

abbrev pub accepted_in_rules : List Term
accepted_in_rules =
    Operated binary.Add (Element (RuleValue 1 word.In) (number 5 1)) (old 8 16 (codes "n"))
    ∷ Chosen (old 1 9 (codes "q")) (number 14 1) (number 18 2)
    ∷ []
