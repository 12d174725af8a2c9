-- Worked rows: whole files, each with how many bytes it has.
use Rattle.std.specs.Prelude.{ℕ, true, false, List, [], ◌∷◌, codes, Some, None}
use Rattle.kt_grammar.specs.declared.operator.BinaryOperator.TheVariants as binary
use Rattle.kt_grammar.specs.declared.operator.PrefixOperator.TheVariants as prefix
use Rattle.kt_grammar.specs.declared.tree.Base.TheVariants as base
use Rattle.kt_grammar.specs.Tree.{Null, Element, Member, Prefixed, Operated}
use Rattle.kt_syntax.specs.declared.tree.Constant.TheVariants as written
use Rattle.kt_syntax.specs.declared.tree.Extent.TheVariants as extent
use Rattle.kt_syntax.specs.Tree.{External, Declared, Evaluated, Returned, StructMentioned, StructDefined, GlobalsDeclared, FunctionDeclared, statements_of}
use Rattle.kt_tree.specs.Version.{Program}
use Rattle.kt_typing.specs.declared.fault.Fault.{Fault}
use Rattle.kt_typing.specs.declared.fault.Kind.TheVariants as kind
use Rattle.kt_typing.specs.Faults.{fault_at, unknown, bad_type, incomplete, IsFirst}
use Rattle.kt_typing.specs.Rows.{name, named, number, call}
use Rattle.kt_program.specs.Fragments.{plain, pointer, local, declarator, inner, tree}
use Rattle.kt_program.specs.Programs.{IsTyped, IsFaultOf}

abbrev pub IsRefusedFile : (List External × ℕ) × Fault → Type 0
IsRefusedFile row = IsFirst (IsFaultOf (tree row.0.0 row.0.1)) row.1

abbrev pub IsAcceptedFile : List External × ℕ → Type 0
IsAcceptedFile row = (p : Program) × IsTyped (tree row.0 row.1) p

abbrev pub refused_files : List ((List External × ℕ) × Fault)
refused_files =
    --
    (([], 0), fault_at kind.NoMain 0)
    -- struct t s; struct t { int v; }; int main(void){return 0;}
    ∷ (((GlobalsDeclared (base.Struct (name 7 (codes "t"))) (record { declarator = (declarator None 9 (codes "s")); initial = None } ∷ []) ∷ StructDefined (name 19 (codes "t")) (record { base = base.Int; declarators = ((declarator None 27 (codes "v")) ∷ []) } ∷ []) ∷ FunctionDeclared (record { result = (Some base.Int); stars = None; name = name 37 (codes "main"); parameters = []; body = (Some (record { noted = false; entries = statements_of (Returned 48 (Some (number 55 0)) ∷ []) })) }) ∷ []), 58), incomplete 7)
    -- int s; long s; int main(void){return 0;}
    ∷ (((GlobalsDeclared base.Int (record { declarator = (declarator None 4 (codes "s")); initial = None } ∷ []) ∷ GlobalsDeclared base.Long (record { declarator = (declarator None 12 (codes "s")); initial = None } ∷ []) ∷ FunctionDeclared (record { result = (Some base.Int); stars = None; name = name 19 (codes "main"); parameters = []; body = (Some (record { noted = false; entries = statements_of (Returned 30 (Some (number 37 0)) ∷ []) })) }) ∷ []), 40), fault_at kind.Twice 12)
    -- int f(void); struct t *f(void){return NULL;} int main(void){return 0;}
    ∷ (((FunctionDeclared (record { result = (Some base.Int); stars = None; name = name 4 (codes "f"); parameters = []; body = None }) ∷ FunctionDeclared (record { result = (Some (base.Struct (name 20 (codes "t")))); stars = (Some (record { at = 22; count = 1 })); name = name 23 (codes "f"); parameters = []; body = (Some (record { noted = false; entries = statements_of (Returned 31 (Some (Null 38)) ∷ []) })) }) ∷ FunctionDeclared (record { result = (Some base.Int); stars = None; name = name 49 (codes "main"); parameters = []; body = (Some (record { noted = false; entries = statements_of (Returned 60 (Some (number 67 0)) ∷ []) })) }) ∷ []), 70), bad_type 23)
    -- int *f(void); int f(void){return 0;} int main(void){return 0;}
    ∷ (((FunctionDeclared (record { result = (Some base.Int); stars = (Some (record { at = 4; count = 1 })); name = name 5 (codes "f"); parameters = []; body = None }) ∷ FunctionDeclared (record { result = (Some base.Int); stars = None; name = name 18 (codes "f"); parameters = []; body = (Some (record { noted = false; entries = statements_of (Returned 26 (Some (number 33 0)) ∷ []) })) }) ∷ FunctionDeclared (record { result = (Some base.Int); stars = None; name = name 41 (codes "main"); parameters = []; body = (Some (record { noted = false; entries = statements_of (Returned 52 (Some (number 59 0)) ∷ []) })) }) ∷ []), 62), bad_type 18)
    -- int x[0]; int main(void){return 0;}
    ∷ (((GlobalsDeclared base.Int (record { declarator = (record { pointer = None; name = name 4 (codes "x"); count = (Some (plain 0)) }); initial = None } ∷ []) ∷ FunctionDeclared (record { result = (Some base.Int); stars = None; name = name 14 (codes "main"); parameters = []; body = (Some (record { noted = false; entries = statements_of (Returned 25 (Some (number 32 0)) ∷ []) })) }) ∷ []), 35), fault_at kind.TooBig 4)
    -- struct A { int a[65536]; int b; }; int main(void){return 0;}
    ∷ (((StructDefined (name 7 (codes "A")) (record { base = base.Int; declarators = ((record { pointer = None; name = name 15 (codes "a"); count = (Some (plain 65536)) }) ∷ []) } ∷ record { base = base.Int; declarators = ((declarator None 29 (codes "b")) ∷ []) } ∷ []) ∷ FunctionDeclared (record { result = (Some base.Int); stars = None; name = name 39 (codes "main"); parameters = []; body = (Some (record { noted = false; entries = statements_of (Returned 50 (Some (number 57 0)) ∷ []) })) }) ∷ []), 60), fault_at kind.TooBig 29)
    -- struct A; struct A a; int main(void){return 0;}
    ∷ (((StructMentioned (name 7 (codes "A")) ∷ GlobalsDeclared (base.Struct (name 17 (codes "A"))) (record { declarator = (declarator None 19 (codes "a")); initial = None } ∷ []) ∷ FunctionDeclared (record { result = (Some base.Int); stars = None; name = name 26 (codes "main"); parameters = []; body = (Some (record { noted = false; entries = statements_of (Returned 37 (Some (number 44 0)) ∷ []) })) }) ∷ []), 47), incomplete 17)
    -- struct A { struct A a; }; int main(void){return 0;}
    ∷ (((StructDefined (name 7 (codes "A")) (record { base = (base.Struct (name 18 (codes "A"))); declarators = ((declarator None 20 (codes "a")) ∷ []) } ∷ []) ∷ FunctionDeclared (record { result = (Some base.Int); stars = None; name = name 30 (codes "main"); parameters = []; body = (Some (record { noted = false; entries = statements_of (Returned 41 (Some (number 48 0)) ∷ []) })) }) ∷ []), 51), incomplete 18)
    -- int f(void); int main(void){ return f(); }
    ∷ (((FunctionDeclared (record { result = (Some base.Int); stars = None; name = name 4 (codes "f"); parameters = []; body = None }) ∷ FunctionDeclared (record { result = (Some base.Int); stars = None; name = name 17 (codes "main"); parameters = []; body = (Some (record { noted = false; entries = statements_of (Returned 29 (Some (call 36 (codes "f") [])) ∷ []) })) }) ∷ []), 42), unknown 36)
    -- int f(void); int f(int a); int main(void){return 0;}
    ∷ (((FunctionDeclared (record { result = (Some base.Int); stars = None; name = name 4 (codes "f"); parameters = []; body = None }) ∷ FunctionDeclared (record { result = (Some base.Int); stars = None; name = name 17 (codes "f"); parameters = (record { base = base.Int; pointer = None; name = name 23 (codes "a") } ∷ []); body = None }) ∷ FunctionDeclared (record { result = (Some base.Int); stars = None; name = name 31 (codes "main"); parameters = []; body = (Some (record { noted = false; entries = statements_of (Returned 42 (Some (number 49 0)) ∷ []) })) }) ∷ []), 52), bad_type 17)
    -- int main(int a){return 0;}
    ∷ (((FunctionDeclared (record { result = (Some base.Int); stars = None; name = name 4 (codes "main"); parameters = (record { base = base.Int; pointer = None; name = name 13 (codes "a") } ∷ []); body = (Some (record { noted = false; entries = statements_of (Returned 16 (Some (number 23 0)) ∷ []) })) }) ∷ []), 26), fault_at kind.NoMain 26)
    -- void main(void){}
    ∷ (((FunctionDeclared (record { result = None; stars = None; name = name 5 (codes "main"); parameters = []; body = (Some (record { noted = false; entries = statements_of [] })) }) ∷ []), 17), fault_at kind.NoMain 17)
    -- int main(void);
    ∷ (((FunctionDeclared (record { result = (Some base.Int); stars = None; name = name 4 (codes "main"); parameters = []; body = None }) ∷ []), 15), fault_at kind.NoMain 15)
    -- int f(int free){return 0;} int main(void){return 0;}
    ∷ (((FunctionDeclared (record { result = (Some base.Int); stars = None; name = name 4 (codes "f"); parameters = (record { base = base.Int; pointer = None; name = name 10 (codes "free") } ∷ []); body = (Some (record { noted = false; entries = statements_of (Returned 16 (Some (number 23 0)) ∷ []) })) }) ∷ FunctionDeclared (record { result = (Some base.Int); stars = None; name = name 31 (codes "main"); parameters = []; body = (Some (record { noted = false; entries = statements_of (Returned 42 (Some (number 49 0)) ∷ []) })) }) ∷ []), 52), fault_at kind.Twice 10)
    -- int f(int a){int a; return 0;} int main(void){return 0;}
    ∷ (((FunctionDeclared (record { result = (Some base.Int); stars = None; name = name 4 (codes "f"); parameters = (record { base = base.Int; pointer = None; name = name 10 (codes "a") } ∷ []); body = (Some (record { noted = false; entries = statements_of (Declared (record { base = base.Int; locals = local 17 (codes "a") None ∷ [] }) ∷ Returned 20 (Some (number 27 0)) ∷ []) })) }) ∷ FunctionDeclared (record { result = (Some base.Int); stars = None; name = name 35 (codes "main"); parameters = []; body = (Some (record { noted = false; entries = statements_of (Returned 46 (Some (number 53 0)) ∷ []) })) }) ∷ []), 56), fault_at kind.Twice 17)
    -- int f(int a) E_NOTELOCALS {{int a;} return 0;} int main(void){return 0;}
    ∷ (((FunctionDeclared (record { result = (Some base.Int); stars = None; name = name 4 (codes "f"); parameters = (record { base = base.Int; pointer = None; name = name 10 (codes "a") } ∷ []); body = (Some (record { noted = true; entries = statements_of (inner (Declared (record { base = base.Int; locals = local 32 (codes "a") None ∷ [] }) ∷ []) ∷ Returned 36 (Some (number 43 0)) ∷ []) })) }) ∷ FunctionDeclared (record { result = (Some base.Int); stars = None; name = name 51 (codes "main"); parameters = []; body = (Some (record { noted = false; entries = statements_of (Returned 62 (Some (number 69 0)) ∷ []) })) }) ∷ []), 72), fault_at kind.Note 32)
    -- int f(pthread_mutex_t m){return 0;} int main(void){return 0;}
    ∷ (((FunctionDeclared (record { result = (Some base.Int); stars = None; name = name 4 (codes "f"); parameters = (record { base = base.Mutex; pointer = None; name = name 22 (codes "m") } ∷ []); body = (Some (record { noted = false; entries = statements_of (Returned 25 (Some (number 32 0)) ∷ []) })) }) ∷ FunctionDeclared (record { result = (Some base.Int); stars = None; name = name 40 (codes "main"); parameters = []; body = (Some (record { noted = false; entries = statements_of (Returned 51 (Some (number 58 0)) ∷ []) })) }) ∷ []), 61), bad_type 22)
    -- struct S {int a;}; int f(struct S s){return 0;} int main(void){return 0;}
    ∷ (((StructDefined (name 7 (codes "S")) (record { base = base.Int; declarators = ((declarator None 14 (codes "a")) ∷ []) } ∷ []) ∷ FunctionDeclared (record { result = (Some base.Int); stars = None; name = name 23 (codes "f"); parameters = (record { base = (base.Struct (name 32 (codes "S"))); pointer = None; name = name 34 (codes "s") } ∷ []); body = (Some (record { noted = false; entries = statements_of (Returned 37 (Some (number 44 0)) ∷ []) })) }) ∷ FunctionDeclared (record { result = (Some base.Int); stars = None; name = name 52 (codes "main"); parameters = []; body = (Some (record { noted = false; entries = statements_of (Returned 63 (Some (number 70 0)) ∷ []) })) }) ∷ []), 73), bad_type 34)
    -- int f(struct S s){return 0;} int main(void){return 0;}
    ∷ (((FunctionDeclared (record { result = (Some base.Int); stars = None; name = name 4 (codes "f"); parameters = (record { base = (base.Struct (name 13 (codes "S"))); pointer = None; name = name 15 (codes "s") } ∷ []); body = (Some (record { noted = false; entries = statements_of (Returned 18 (Some (number 25 0)) ∷ []) })) }) ∷ FunctionDeclared (record { result = (Some base.Int); stars = None; name = name 33 (codes "main"); parameters = []; body = (Some (record { noted = false; entries = statements_of (Returned 44 (Some (number 51 0)) ∷ []) })) }) ∷ []), 54), incomplete 13)
    -- struct S {int a;}; struct S f(void){} int main(void){return 0;}
    ∷ (((StructDefined (name 7 (codes "S")) (record { base = base.Int; declarators = ((declarator None 14 (codes "a")) ∷ []) } ∷ []) ∷ FunctionDeclared (record { result = (Some (base.Struct (name 26 (codes "S")))); stars = None; name = name 28 (codes "f"); parameters = []; body = (Some (record { noted = false; entries = statements_of [] })) }) ∷ FunctionDeclared (record { result = (Some base.Int); stars = None; name = name 42 (codes "main"); parameters = []; body = (Some (record { noted = false; entries = statements_of (Returned 53 (Some (number 60 0)) ∷ []) })) }) ∷ []), 63), bad_type 28)
    -- int * E_PTRARRAY(n) a; int main(void){return 0;}
    ∷ (((GlobalsDeclared base.Int (record { declarator = (declarator (Some (record { stars = record { at = 4; count = 1 }; extent = (Some (extent.Name (name 17 (codes "n")))) })) 20 (codes "a")); initial = None } ∷ []) ∷ FunctionDeclared (record { result = (Some base.Int); stars = None; name = name 27 (codes "main"); parameters = []; body = (Some (record { noted = false; entries = statements_of (Returned 38 (Some (number 45 0)) ∷ []) })) }) ∷ []), 48), unknown 17)
    -- int * E_PTRARRAY(n) a; int n[3]; int main(void){return 0;}
    ∷ (((GlobalsDeclared base.Int (record { declarator = (declarator (Some (record { stars = record { at = 4; count = 1 }; extent = (Some (extent.Name (name 17 (codes "n")))) })) 20 (codes "a")); initial = None } ∷ []) ∷ GlobalsDeclared base.Int (record { declarator = (record { pointer = None; name = name 27 (codes "n"); count = (Some (plain 3)) }); initial = None } ∷ []) ∷ FunctionDeclared (record { result = (Some base.Int); stars = None; name = name 37 (codes "main"); parameters = []; body = (Some (record { noted = false; entries = statements_of (Returned 48 (Some (number 55 0)) ∷ []) })) }) ∷ []), 58), unknown 17)
    -- int main(void){return 0;} int main(void){return 0;}
    ∷ (((FunctionDeclared (record { result = (Some base.Int); stars = None; name = name 4 (codes "main"); parameters = []; body = (Some (record { noted = false; entries = statements_of (Returned 15 (Some (number 22 0)) ∷ []) })) }) ∷ FunctionDeclared (record { result = (Some base.Int); stars = None; name = name 30 (codes "main"); parameters = []; body = (Some (record { noted = false; entries = statements_of (Returned 41 (Some (number 48 0)) ∷ []) })) }) ∷ []), 51), fault_at kind.Twice 30)
    -- int a[65536], b[65537]; int main(void){return 0;}
    ∷ (((GlobalsDeclared base.Int (record { declarator = (record { pointer = None; name = name 4 (codes "a"); count = (Some (plain 65536)) }); initial = None } ∷ record { declarator = (record { pointer = None; name = name 14 (codes "b"); count = (Some (plain 65537)) }); initial = None } ∷ []) ∷ FunctionDeclared (record { result = (Some base.Int); stars = None; name = name 28 (codes "main"); parameters = []; body = (Some (record { noted = false; entries = statements_of (Returned 39 (Some (number 46 0)) ∷ []) })) }) ∷ []), 49), fault_at kind.TooBig 14)
    -- struct B { int x[40000]; }; struct B b[2]; int main(void){return 0;}
    ∷ (((StructDefined (name 7 (codes "B")) (record { base = base.Int; declarators = ((record { pointer = None; name = name 15 (codes "x"); count = (Some (plain 40000)) }) ∷ []) } ∷ []) ∷ GlobalsDeclared (base.Struct (name 35 (codes "B"))) (record { declarator = (record { pointer = None; name = name 37 (codes "b"); count = (Some (plain 2)) }); initial = None } ∷ []) ∷ FunctionDeclared (record { result = (Some base.Int); stars = None; name = name 47 (codes "main"); parameters = []; body = (Some (record { noted = false; entries = statements_of (Returned 58 (Some (number 65 0)) ∷ []) })) }) ∷ []), 68), fault_at kind.TooBig 37)
    -- struct B { int x[40000]; int y[30000]; }; int main(void){return 0;}
    ∷ (((StructDefined (name 7 (codes "B")) (record { base = base.Int; declarators = ((record { pointer = None; name = name 15 (codes "x"); count = (Some (plain 40000)) }) ∷ []) } ∷ record { base = base.Int; declarators = ((record { pointer = None; name = name 29 (codes "y"); count = (Some (plain 30000)) }) ∷ []) } ∷ []) ∷ FunctionDeclared (record { result = (Some base.Int); stars = None; name = name 46 (codes "main"); parameters = []; body = (Some (record { noted = false; entries = statements_of (Returned 57 (Some (number 64 0)) ∷ []) })) }) ∷ []), 67), fault_at kind.TooBig 29)
    -- void f(int a); void f(long b) { } int main(void){return 0;}
    ∷ (((FunctionDeclared (record { result = None; stars = None; name = name 5 (codes "f"); parameters = (record { base = base.Int; pointer = None; name = name 11 (codes "a") } ∷ []); body = None }) ∷ FunctionDeclared (record { result = None; stars = None; name = name 20 (codes "f"); parameters = (record { base = base.Long; pointer = None; name = name 27 (codes "b") } ∷ []); body = (Some (record { noted = false; entries = statements_of [] })) }) ∷ FunctionDeclared (record { result = (Some base.Int); stars = None; name = name 38 (codes "main"); parameters = []; body = (Some (record { noted = false; entries = statements_of (Returned 49 (Some (number 56 0)) ∷ []) })) }) ∷ []), 59), bad_type 20)
    -- int f(void) { return 0; } int f; int main(void){return 0;}
    ∷ (((FunctionDeclared (record { result = (Some base.Int); stars = None; name = name 4 (codes "f"); parameters = []; body = (Some (record { noted = false; entries = statements_of (Returned 14 (Some (number 21 0)) ∷ []) })) }) ∷ GlobalsDeclared base.Int (record { declarator = (declarator None 30 (codes "f")); initial = None } ∷ []) ∷ FunctionDeclared (record { result = (Some base.Int); stars = None; name = name 37 (codes "main"); parameters = []; body = (Some (record { noted = false; entries = statements_of (Returned 48 (Some (number 55 0)) ∷ []) })) }) ∷ []), 58), fault_at kind.Twice 30)
    -- struct S { int a; int a; }; int main(void){return 0;}
    ∷ (((StructDefined (name 7 (codes "S")) (record { base = base.Int; declarators = ((declarator None 15 (codes "a")) ∷ []) } ∷ record { base = base.Int; declarators = ((declarator None 22 (codes "a")) ∷ []) } ∷ []) ∷ FunctionDeclared (record { result = (Some base.Int); stars = None; name = name 32 (codes "main"); parameters = []; body = (Some (record { noted = false; entries = statements_of (Returned 43 (Some (number 50 0)) ∷ []) })) }) ∷ []), 53), fault_at kind.Twice 22)
    -- struct S { int a; }; struct S { int b; }; int main(void){return 0;}
    ∷ (((StructDefined (name 7 (codes "S")) (record { base = base.Int; declarators = ((declarator None 15 (codes "a")) ∷ []) } ∷ []) ∷ StructDefined (name 28 (codes "S")) (record { base = base.Int; declarators = ((declarator None 36 (codes "b")) ∷ []) } ∷ []) ∷ FunctionDeclared (record { result = (Some base.Int); stars = None; name = name 46 (codes "main"); parameters = []; body = (Some (record { noted = false; entries = statements_of (Returned 57 (Some (number 64 0)) ∷ []) })) }) ∷ []), 67), fault_at kind.Twice 28)
    -- struct S { struct T t; }; struct T { int a; }; int main(void){return 0;}
    ∷ (((StructDefined (name 7 (codes "S")) (record { base = (base.Struct (name 18 (codes "T"))); declarators = ((declarator None 20 (codes "t")) ∷ []) } ∷ []) ∷ StructDefined (name 33 (codes "T")) (record { base = base.Int; declarators = ((declarator None 41 (codes "a")) ∷ []) } ∷ []) ∷ FunctionDeclared (record { result = (Some base.Int); stars = None; name = name 51 (codes "main"); parameters = []; body = (Some (record { noted = false; entries = statements_of (Returned 62 (Some (number 69 0)) ∷ []) })) }) ∷ []), 72), incomplete 18)
    -- char s = "a"; int main(void){return 0;}
    ∷ (((GlobalsDeclared base.Char (record { declarator = (declarator None 5 (codes "s")); initial = (Some (written.Text 9 (codes "a"))) } ∷ []) ∷ FunctionDeclared (record { result = (Some base.Int); stars = None; name = name 18 (codes "main"); parameters = []; body = (Some (record { noted = false; entries = statements_of (Returned 29 (Some (number 36 0)) ∷ []) })) }) ∷ []), 39), bad_type 5)
    -- int x = 2147483648; int main(void){return 0;}
    ∷ (((GlobalsDeclared base.Int (record { declarator = (declarator None 4 (codes "x")); initial = (Some (written.Number (plain 2147483648))) } ∷ []) ∷ FunctionDeclared (record { result = (Some base.Int); stars = None; name = name 24 (codes "main"); parameters = []; body = (Some (record { noted = false; entries = statements_of (Returned 35 (Some (number 42 0)) ∷ []) })) }) ∷ []), 45), bad_type 4)
    -- int a[2] = 0; int main(void){return 0;}
    ∷ (((GlobalsDeclared base.Int (record { declarator = (record { pointer = None; name = name 4 (codes "a"); count = (Some (plain 2)) }); initial = (Some (written.Number (plain 0))) } ∷ []) ∷ FunctionDeclared (record { result = (Some base.Int); stars = None; name = name 18 (codes "main"); parameters = []; body = (Some (record { noted = false; entries = statements_of (Returned 29 (Some (number 36 0)) ∷ []) })) }) ∷ []), 39), bad_type 4)
    -- int f(int puts); int main() { return 0; }
    ∷ (((FunctionDeclared (record { result = (Some base.Int); stars = None; name = name 4 (codes "f"); parameters = (record { base = base.Int; pointer = None; name = name 10 (codes "puts") } ∷ []); body = None }) ∷ FunctionDeclared (record { result = (Some base.Int); stars = None; name = name 21 (codes "main"); parameters = []; body = (Some (record { noted = false; entries = statements_of (Returned 30 (Some (number 37 0)) ∷ []) })) }) ∷ []), 41), fault_at kind.Twice 10)
    -- int f(void) { return f; } int main() { return 0; }
    ∷ (((FunctionDeclared (record { result = (Some base.Int); stars = None; name = name 4 (codes "f"); parameters = []; body = (Some (record { noted = false; entries = statements_of (Returned 14 (Some (named 21 (codes "f"))) ∷ []) })) }) ∷ FunctionDeclared (record { result = (Some base.Int); stars = None; name = name 30 (codes "main"); parameters = []; body = (Some (record { noted = false; entries = statements_of (Returned 39 (Some (number 46 0)) ∷ []) })) }) ∷ []), 50), bad_type 21)
    -- int kitsune_update; int main() { return 0; }
    ∷ (((GlobalsDeclared base.Int (record { declarator = (declarator None 4 (codes "kitsune_update")); initial = None } ∷ []) ∷ FunctionDeclared (record { result = (Some base.Int); stars = None; name = name 24 (codes "main"); parameters = []; body = (Some (record { noted = false; entries = statements_of (Returned 33 (Some (number 40 0)) ∷ []) })) }) ∷ []), 44), fault_at kind.Twice 4)
    -- struct S { int *n; int * E_PTRARRAY(n) a; }; int main() { return 0; }
    ∷ (((StructDefined (name 7 (codes "S")) (record { base = base.Int; declarators = ((declarator (pointer 15 1) 16 (codes "n")) ∷ []) } ∷ record { base = base.Int; declarators = ((declarator (Some (record { stars = record { at = 23; count = 1 }; extent = (Some (extent.Name (name 36 (codes "n")))) })) 39 (codes "a")) ∷ []) } ∷ []) ∷ FunctionDeclared (record { result = (Some base.Int); stars = None; name = name 49 (codes "main"); parameters = []; body = (Some (record { noted = false; entries = statements_of (Returned 58 (Some (number 65 0)) ∷ []) })) }) ∷ []), 69), unknown 36)
    -- int main() { int k; int * E_PTRARRAY(k) p; return 0; }
    ∷ (((FunctionDeclared (record { result = (Some base.Int); stars = None; name = name 4 (codes "main"); parameters = []; body = (Some (record { noted = false; entries = statements_of (Declared (record { base = base.Int; locals = local 17 (codes "k") None ∷ [] }) ∷ Declared (record { base = base.Int; locals = record { pointer = Some (record { stars = record { at = 24; count = 1 }; extent = (Some (extent.Name (name 37 (codes "k")))) }); name = name 40 (codes "p"); initial = None } ∷ [] }) ∷ Returned 43 (Some (number 50 0)) ∷ []) })) }) ∷ []), 54), unknown 37)
    -- int f(int n, int * E_PTRARRAY(n) p) { return 0; } int main() { return 0; }
    ∷ (((FunctionDeclared (record { result = (Some base.Int); stars = None; name = name 4 (codes "f"); parameters = (record { base = base.Int; pointer = None; name = name 10 (codes "n") } ∷ record { base = base.Int; pointer = (Some (record { stars = record { at = 17; count = 1 }; extent = (Some (extent.Name (name 30 (codes "n")))) })); name = name 33 (codes "p") } ∷ []); body = (Some (record { noted = false; entries = statements_of (Returned 38 (Some (number 45 0)) ∷ []) })) }) ∷ FunctionDeclared (record { result = (Some base.Int); stars = None; name = name 54 (codes "main"); parameters = []; body = (Some (record { noted = false; entries = statements_of (Returned 63 (Some (number 70 0)) ∷ []) })) }) ∷ []), 74), unknown 30)
    ∷ []

abbrev pub accepted_files : List (List External × ℕ)
accepted_files =
    -- int n; int * E_PTRARRAY(n) a; int main(void){return 0;}
    ((GlobalsDeclared base.Int (record { declarator = (declarator None 4 (codes "n")); initial = None } ∷ []) ∷ GlobalsDeclared base.Int (record { declarator = (declarator (Some (record { stars = record { at = 11; count = 1 }; extent = (Some (extent.Name (name 24 (codes "n")))) })) 27 (codes "a")); initial = None } ∷ []) ∷ FunctionDeclared (record { result = (Some base.Int); stars = None; name = name 34 (codes "main"); parameters = []; body = (Some (record { noted = false; entries = statements_of (Returned 45 (Some (number 52 0)) ∷ []) })) }) ∷ []), 55)
    -- struct S { int * E_PTRARRAY(n) a; int n; }; int main(void){return 0;}
    ∷ ((StructDefined (name 7 (codes "S")) (record { base = base.Int; declarators = ((declarator (Some (record { stars = record { at = 15; count = 1 }; extent = (Some (extent.Name (name 28 (codes "n")))) })) 31 (codes "a")) ∷ []) } ∷ record { base = base.Int; declarators = ((declarator None 38 (codes "n")) ∷ []) } ∷ []) ∷ FunctionDeclared (record { result = (Some base.Int); stars = None; name = name 48 (codes "main"); parameters = []; body = (Some (record { noted = false; entries = statements_of (Returned 59 (Some (number 66 0)) ∷ []) })) }) ∷ []), 69)
    -- int a0[65536],a1[65536],a2[65536],a3[65536],a4[65536],a5[65536],a6[65536],a7[65536],a8[65536],a9[65536],b0[65536],b1[65536],b2[65536],b3[65536],b4[65536],b5[65536]; int main(void){return 0;}
    ∷ ((GlobalsDeclared base.Int (record { declarator = (record { pointer = None; name = name 4 (codes "a0"); count = (Some (plain 65536)) }); initial = None } ∷ record { declarator = (record { pointer = None; name = name 14 (codes "a1"); count = (Some (plain 65536)) }); initial = None } ∷ record { declarator = (record { pointer = None; name = name 24 (codes "a2"); count = (Some (plain 65536)) }); initial = None } ∷ record { declarator = (record { pointer = None; name = name 34 (codes "a3"); count = (Some (plain 65536)) }); initial = None } ∷ record { declarator = (record { pointer = None; name = name 44 (codes "a4"); count = (Some (plain 65536)) }); initial = None } ∷ record { declarator = (record { pointer = None; name = name 54 (codes "a5"); count = (Some (plain 65536)) }); initial = None } ∷ record { declarator = (record { pointer = None; name = name 64 (codes "a6"); count = (Some (plain 65536)) }); initial = None } ∷ record { declarator = (record { pointer = None; name = name 74 (codes "a7"); count = (Some (plain 65536)) }); initial = None } ∷ record { declarator = (record { pointer = None; name = name 84 (codes "a8"); count = (Some (plain 65536)) }); initial = None } ∷ record { declarator = (record { pointer = None; name = name 94 (codes "a9"); count = (Some (plain 65536)) }); initial = None } ∷ record { declarator = (record { pointer = None; name = name 104 (codes "b0"); count = (Some (plain 65536)) }); initial = None } ∷ record { declarator = (record { pointer = None; name = name 114 (codes "b1"); count = (Some (plain 65536)) }); initial = None } ∷ record { declarator = (record { pointer = None; name = name 124 (codes "b2"); count = (Some (plain 65536)) }); initial = None } ∷ record { declarator = (record { pointer = None; name = name 134 (codes "b3"); count = (Some (plain 65536)) }); initial = None } ∷ record { declarator = (record { pointer = None; name = name 144 (codes "b4"); count = (Some (plain 65536)) }); initial = None } ∷ record { declarator = (record { pointer = None; name = name 154 (codes "b5"); count = (Some (plain 65536)) }); initial = None } ∷ []) ∷ FunctionDeclared (record { result = (Some base.Int); stars = None; name = name 169 (codes "main"); parameters = []; body = (Some (record { noted = false; entries = statements_of (Returned 180 (Some (number 187 0)) ∷ []) })) }) ∷ []), 190)
    -- void f(int a); void f(int b) { } int main(void){ f(1); return 0;}
    ∷ ((FunctionDeclared (record { result = None; stars = None; name = name 5 (codes "f"); parameters = (record { base = base.Int; pointer = None; name = name 11 (codes "a") } ∷ []); body = None }) ∷ FunctionDeclared (record { result = None; stars = None; name = name 20 (codes "f"); parameters = (record { base = base.Int; pointer = None; name = name 26 (codes "b") } ∷ []); body = (Some (record { noted = false; entries = statements_of [] })) }) ∷ FunctionDeclared (record { result = (Some base.Int); stars = None; name = name 37 (codes "main"); parameters = []; body = (Some (record { noted = false; entries = statements_of (Evaluated (call 49 (codes "f") ((number 51 1) ∷ [])) ∷ Returned 55 (Some (number 62 0)) ∷ []) })) }) ∷ []), 65)
    -- struct f { int f; }; int f(int f) { return f; } int main(void){ return f(0); }
    ∷ ((StructDefined (name 7 (codes "f")) (record { base = base.Int; declarators = ((declarator None 15 (codes "f")) ∷ []) } ∷ []) ∷ FunctionDeclared (record { result = (Some base.Int); stars = None; name = name 25 (codes "f"); parameters = (record { base = base.Int; pointer = None; name = name 31 (codes "f") } ∷ []); body = (Some (record { noted = false; entries = statements_of (Returned 36 (Some (named 43 (codes "f"))) ∷ []) })) }) ∷ FunctionDeclared (record { result = (Some base.Int); stars = None; name = name 52 (codes "main"); parameters = []; body = (Some (record { noted = false; entries = statements_of (Returned 64 (Some (call 71 (codes "f") ((number 73 0) ∷ []))) ∷ []) })) }) ∷ []), 78)
    -- struct S { int a; }; struct S; struct S g; int main(void){return g.a;}
    ∷ ((StructDefined (name 7 (codes "S")) (record { base = base.Int; declarators = ((declarator None 15 (codes "a")) ∷ []) } ∷ []) ∷ StructMentioned (name 28 (codes "S")) ∷ GlobalsDeclared (base.Struct (name 38 (codes "S"))) (record { declarator = (declarator None 40 (codes "g")); initial = None } ∷ []) ∷ FunctionDeclared (record { result = (Some base.Int); stars = None; name = name 47 (codes "main"); parameters = []; body = (Some (record { noted = false; entries = statements_of (Returned 58 (Some (Member (named 65 (codes "g")) (name 67 (codes "a")))) ∷ []) })) }) ∷ []), 70)
    -- struct S { struct T *t; }; struct T { int a; }; int main(void){return 0;}
    ∷ ((StructDefined (name 7 (codes "S")) (record { base = (base.Struct (name 18 (codes "T"))); declarators = ((declarator (pointer 20 1) 21 (codes "t")) ∷ []) } ∷ []) ∷ StructDefined (name 34 (codes "T")) (record { base = base.Int; declarators = ((declarator None 42 (codes "a")) ∷ []) } ∷ []) ∷ FunctionDeclared (record { result = (Some base.Int); stars = None; name = name 52 (codes "main"); parameters = []; body = (Some (record { noted = false; entries = statements_of (Returned 63 (Some (number 70 0)) ∷ []) })) }) ∷ []), 73)
    -- struct S { pthread_mutex_t m; pthread_mutex_t n[2]; }; struct S s[2]; pthread_mutex_t q[3]; int main(void){ pthread_mutex_lock(&s[1].n[1]); return 0;}
    ∷ ((StructDefined (name 7 (codes "S")) (record { base = base.Mutex; declarators = ((declarator None 27 (codes "m")) ∷ []) } ∷ record { base = base.Mutex; declarators = ((record { pointer = None; name = name 46 (codes "n"); count = (Some (plain 2)) }) ∷ []) } ∷ []) ∷ GlobalsDeclared (base.Struct (name 62 (codes "S"))) (record { declarator = (record { pointer = None; name = name 64 (codes "s"); count = (Some (plain 2)) }); initial = None } ∷ []) ∷ GlobalsDeclared base.Mutex (record { declarator = (record { pointer = None; name = name 86 (codes "q"); count = (Some (plain 3)) }); initial = None } ∷ []) ∷ FunctionDeclared (record { result = (Some base.Int); stars = None; name = name 96 (codes "main"); parameters = []; body = (Some (record { noted = false; entries = statements_of (Evaluated (call 108 (codes "pthread_mutex_lock") ((Prefixed 127 prefix.AddressOf (Element (Member (Element (named 128 (codes "s")) (number 130 1)) (name 133 (codes "n"))) (number 135 1))) ∷ [])) ∷ Returned 140 (Some (number 147 0)) ∷ []) })) }) ∷ []), 150)
    -- char *s = "a"; char *t = NULL; char *u = 0; int main(void){return 0;}
    ∷ ((GlobalsDeclared base.Char (record { declarator = (declarator (pointer 5 1) 6 (codes "s")); initial = (Some (written.Text 10 (codes "a"))) } ∷ []) ∷ GlobalsDeclared base.Char (record { declarator = (declarator (pointer 20 1) 21 (codes "t")); initial = (Some written.Null) } ∷ []) ∷ GlobalsDeclared base.Char (record { declarator = (declarator (pointer 36 1) 37 (codes "u")); initial = (Some (written.Number (plain 0))) } ∷ []) ∷ FunctionDeclared (record { result = (Some base.Int); stars = None; name = name 48 (codes "main"); parameters = []; body = (Some (record { noted = false; entries = statements_of (Returned 59 (Some (number 66 0)) ∷ []) })) }) ∷ []), 69)
    -- char c = 127; char d = -128; int main(void){return 0;}
    ∷ ((GlobalsDeclared base.Char (record { declarator = (declarator None 5 (codes "c")); initial = (Some (written.Number (plain 127))) } ∷ []) ∷ GlobalsDeclared base.Char (record { declarator = (declarator None 19 (codes "d")); initial = (Some (written.Negative (plain 128))) } ∷ []) ∷ FunctionDeclared (record { result = (Some base.Int); stars = None; name = name 33 (codes "main"); parameters = []; body = (Some (record { noted = false; entries = statements_of (Returned 44 (Some (number 51 0)) ∷ []) })) }) ∷ []), 54)
    -- int main() E_NOTELOCALS { int a; MIGRATE_LOCAL(a); return 0; }
    ∷ ((FunctionDeclared (record { result = (Some base.Int); stars = None; name = name 4 (codes "main"); parameters = []; body = (Some (record { noted = true; entries = statements_of (Declared (record { base = base.Int; locals = local 30 (codes "a") None ∷ [] }) ∷ Evaluated (call 33 (codes "MIGRATE_LOCAL") ((named 47 (codes "a")) ∷ [])) ∷ Returned 51 (Some (number 58 0)) ∷ []) })) }) ∷ []), 62)
    -- pthread_mutex_t *f(pthread_mutex_t *p) { return p; } int main() { return 0; }
    ∷ ((FunctionDeclared (record { result = (Some base.Mutex); stars = (Some (record { at = 16; count = 1 })); name = name 17 (codes "f"); parameters = (record { base = base.Mutex; pointer = (pointer 35 1); name = name 36 (codes "p") } ∷ []); body = (Some (record { noted = false; entries = statements_of (Returned 41 (Some (named 48 (codes "p"))) ∷ []) })) }) ∷ FunctionDeclared (record { result = (Some base.Int); stars = None; name = name 57 (codes "main"); parameters = []; body = (Some (record { noted = false; entries = statements_of (Returned 66 (Some (number 73 0)) ∷ []) })) }) ∷ []), 77)
    -- struct S { int n; int * E_PTRARRAY(n) a; char * E_PTRARRAY(3) b; int * E_PTRARRAY(k) c; }; int k; int main() { return 0; }
    ∷ ((StructDefined (name 7 (codes "S")) (record { base = base.Int; declarators = ((declarator None 15 (codes "n")) ∷ []) } ∷ record { base = base.Int; declarators = ((declarator (Some (record { stars = record { at = 22; count = 1 }; extent = (Some (extent.Name (name 35 (codes "n")))) })) 38 (codes "a")) ∷ []) } ∷ record { base = base.Char; declarators = ((declarator (Some (record { stars = record { at = 46; count = 1 }; extent = (Some (extent.Number 59 (plain 3))) })) 62 (codes "b")) ∷ []) } ∷ record { base = base.Int; declarators = ((declarator (Some (record { stars = record { at = 69; count = 1 }; extent = (Some (extent.Name (name 82 (codes "k")))) })) 85 (codes "c")) ∷ []) } ∷ []) ∷ GlobalsDeclared base.Int (record { declarator = (declarator None 95 (codes "k")); initial = None } ∷ []) ∷ FunctionDeclared (record { result = (Some base.Int); stars = None; name = name 102 (codes "main"); parameters = []; body = (Some (record { noted = false; entries = statements_of (Returned 111 (Some (number 118 0)) ∷ []) })) }) ∷ []), 122)
    -- int main() { int * E_PTRARRAY(n) p; return 0; } int n;
    ∷ ((FunctionDeclared (record { result = (Some base.Int); stars = None; name = name 4 (codes "main"); parameters = []; body = (Some (record { noted = false; entries = statements_of (Declared (record { base = base.Int; locals = record { pointer = Some (record { stars = record { at = 17; count = 1 }; extent = (Some (extent.Name (name 30 (codes "n")))) }); name = name 33 (codes "p"); initial = None } ∷ [] }) ∷ Returned 36 (Some (number 43 0)) ∷ []) })) }) ∷ GlobalsDeclared base.Int (record { declarator = (declarator None 52 (codes "n")); initial = None } ∷ []) ∷ []), 54)
    -- int main(void) { return 0; } // end
    ∷ ((FunctionDeclared (record { result = (Some base.Int); stars = None; name = name 4 (codes "main"); parameters = []; body = (Some (record { noted = false; entries = statements_of (Returned 17 (Some (number 24 0)) ∷ []) })) }) ∷ []), 35)
    -- int x = 0X1f; int y = 0x1FL; int main(void) { return x - y; }
    ∷ ((GlobalsDeclared base.Int (record { declarator = (declarator None 4 (codes "x")); initial = (Some (written.Number (record { value = 31; long = false; hexadecimal = true }))) } ∷ []) ∷ GlobalsDeclared base.Int (record { declarator = (declarator None 18 (codes "y")); initial = (Some (written.Number (record { value = 31; long = true; hexadecimal = true }))) } ∷ []) ∷ FunctionDeclared (record { result = (Some base.Int); stars = None; name = name 33 (codes "main"); parameters = []; body = (Some (record { noted = false; entries = statements_of (Returned 46 (Some (Operated binary.Subtract (named 53 (codes "x")) (named 57 (codes "y")))) ∷ []) })) }) ∷ []), 61)
    -- int x = 1l; int main(void) { return x; }
    ∷ ((GlobalsDeclared base.Int (record { declarator = (declarator None 4 (codes "x")); initial = (Some (written.Number (record { value = 1; long = true; hexadecimal = false }))) } ∷ []) ∷ FunctionDeclared (record { result = (Some base.Int); stars = None; name = name 16 (codes "main"); parameters = []; body = (Some (record { noted = false; entries = statements_of (Returned 29 (Some (named 36 (codes "x"))) ∷ []) })) }) ∷ []), 40)
    ∷ []
