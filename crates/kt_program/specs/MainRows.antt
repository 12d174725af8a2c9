-- Worked rows: statements in `main` of the file
-- int g; int *gp; struct S { int v; struct S *next; }; struct S *ps; struct S st; pthread_mutex_t lk; int ar[3];
-- int help(int a){return a;} void w(int x){} int main(void){ int t; char c; long l; struct S *x; .. return 0;}
use Rattle.std.specs.Prelude.{ℕ, ◌+◌, false, List, [], ◌∷◌, ◌++◌, codes, Some, None}
use Rattle.kt_grammar.specs.declared.operator.AssignOperator.TheVariants as assign
use Rattle.kt_grammar.specs.declared.operator.BinaryOperator.TheVariants as binary
use Rattle.kt_grammar.specs.declared.operator.PrefixOperator.TheVariants as prefix
use Rattle.kt_grammar.specs.declared.operator.StepOperator.TheVariants as step
use Rattle.kt_grammar.specs.declared.tree.Base.TheVariants as base
use Rattle.kt_grammar.specs.Tree.{Character, Text, Null, Eof, Parenthesised, SizeOf, Element, Member, Pointed, Stepped, Prefixed, Converted, Operated, Chosen, Assigned}
use Rattle.kt_syntax.specs.Tree.{Statement, External, Tree, NoStart, Declares, Declared, Evaluated, Returned, Broken, Continued, Conditional, Looped, Repeated, Counted, StructDefined, GlobalsDeclared, FunctionDeclared, statements_of}
use Rattle.kt_tree.specs.Version.{Program}
use Rattle.kt_typing.specs.declared.fault.Fault.{Fault}
use Rattle.kt_typing.specs.declared.fault.Kind.TheVariants as kind
use Rattle.kt_typing.specs.Faults.{fault_at, unknown, bad_type, incomplete, IsFirst}
use Rattle.kt_typing.specs.Rows.{name, named, number, type_name, call}
use Rattle.kt_program.specs.Fragments.{plain, pointer, local, declarator, inner, tree}
use Rattle.kt_program.specs.Programs.{IsTyped, IsFaultOf}

-- the file but for what stands in `main` behind its locals, which begins at its byte 206
abbrev pub around : List External
around =
    GlobalsDeclared base.Int (record { declarator = (declarator None 4 (codes "g")); initial = None } ∷ [])
    ∷ GlobalsDeclared base.Int (record { declarator = (declarator (pointer 11 1) 12 (codes "gp")); initial = None } ∷ [])
    ∷ StructDefined (name 23 (codes "S")) (record { base = base.Int; declarators = ((declarator None 31 (codes "v")) ∷ []) } ∷ record { base = (base.Struct (name 41 (codes "S"))); declarators = ((declarator (pointer 43 1) 44 (codes "next")) ∷ []) } ∷ [])
    ∷ GlobalsDeclared (base.Struct (name 60 (codes "S"))) (record { declarator = (declarator (pointer 62 1) 63 (codes "ps")); initial = None } ∷ [])
    ∷ GlobalsDeclared (base.Struct (name 74 (codes "S"))) (record { declarator = (declarator None 76 (codes "st")); initial = None } ∷ [])
    ∷ GlobalsDeclared base.Mutex (record { declarator = (declarator None 96 (codes "lk")); initial = None } ∷ [])
    ∷ GlobalsDeclared base.Int (record { declarator = (record { pointer = None; name = name 104 (codes "ar"); count = (Some (plain 3)) }); initial = None } ∷ [])
    ∷ FunctionDeclared (record { result = (Some base.Int); stars = None; name = name 115 (codes "help"); parameters = (record { base = base.Int; pointer = None; name = name 124 (codes "a") } ∷ []); body = (Some (record { noted = false; entries = statements_of (Returned 127 (Some (named 134 (codes "a"))) ∷ []) })) })
    ∷ FunctionDeclared (record { result = None; stars = None; name = name 143 (codes "w"); parameters = (record { base = base.Int; pointer = None; name = name 149 (codes "x") } ∷ []); body = (Some (record { noted = false; entries = statements_of [] })) })
    ∷ []

abbrev pub own_locals : List Statement
own_locals =
    Declared (record { base = base.Int; locals = local 174 (codes "t") None ∷ [] })
    ∷ Declared (record { base = base.Char; locals = local 182 (codes "c") None ∷ [] })
    ∷ Declared (record { base = base.Long; locals = local 190 (codes "l") None ∷ [] })
    ∷ Declared (record { base = (base.Struct (name 200 (codes "S"))); locals = record { pointer = (pointer 202 1); name = name 203 (codes "x"); initial = None } ∷ [] })
    ∷ []

-- `main` with these statements, and `return 0;` at this place behind them
abbrev pub main_of : List Statement → ℕ → External
main_of es at = FunctionDeclared (record {
  result = Some base.Int;
  stars = None;
  name = name 158 (codes "main");
  parameters = [];
  body = Some (record { noted = false; entries = statements_of (own_locals ++ es ++ Returned at (Some (number (at + 7) 0)) ∷ []) });
})

abbrev pub with_main : List Statement × ℕ → Tree
with_main b = tree (around ++ main_of b.0 b.1 ∷ []) (b.1 + 10)

abbrev pub IsRefusedInMain : (List Statement × ℕ) × Fault → Type 0
IsRefusedInMain row = IsFirst (IsFaultOf (with_main row.0)) row.1

abbrev pub IsAcceptedInMain : List Statement × ℕ → Type 0
IsAcceptedInMain b = (p : Program) × IsTyped (with_main b) p

abbrev pub refused_in_main : List ((List Statement × ℕ) × Fault)
refused_in_main =
    -- t = zz;
    (((Evaluated (Assigned assign.Assign (named 206 (codes "t")) (named 210 (codes "zz"))) ∷ []), 214), unknown 210)
    -- help = 1;
    ∷ (((Evaluated (Assigned assign.Assign (named 206 (codes "help")) (number 213 1)) ∷ []), 216), bad_type 206)
    -- help();
    ∷ (((Evaluated (call 206 (codes "help") []) ∷ []), 214), bad_type 206)
    -- help(1,2);
    ∷ (((Evaluated (call 206 (codes "help") ((number 211 1) ∷ (number 213 2) ∷ [])) ∷ []), 217), bad_type 206)
    -- x = 1;
    ∷ (((Evaluated (Assigned assign.Assign (named 206 (codes "x")) (number 210 1)) ∷ []), 213), bad_type 206)
    -- x = t;
    ∷ (((Evaluated (Assigned assign.Assign (named 206 (codes "x")) (named 210 (codes "t"))) ∷ []), 213), bad_type 206)
    -- t = help(NULL);
    ∷ (((Evaluated (Assigned assign.Assign (named 206 (codes "t")) (call 210 (codes "help") ((Null 215) ∷ []))) ∷ []), 222), bad_type 210)
    -- int q = NULL;
    ∷ (((Declared (record { base = base.Int; locals = local 210 (codes "q") (Some (Null 214)) ∷ [] }) ∷ []), 220), bad_type 210)
    -- int *q = 1;
    ∷ (((Declared (record { base = base.Int; locals = record { pointer = (pointer 210 1); name = name 211 (codes "q"); initial = Some (number 215 1) } ∷ [] }) ∷ []), 218), bad_type 210)
    -- t = ps * 2;
    ∷ (((Evaluated (Assigned assign.Assign (named 206 (codes "t")) (Operated binary.Multiply (named 210 (codes "ps")) (number 215 2))) ∷ []), 218), bad_type 210)
    -- t = 2 * ps;
    ∷ (((Evaluated (Assigned assign.Assign (named 206 (codes "t")) (Operated binary.Multiply (number 210 2) (named 214 (codes "ps")))) ∷ []), 218), bad_type 210)
    -- (ps * 2);
    ∷ (((Evaluated (Parenthesised 206 (Operated binary.Multiply (named 207 (codes "ps")) (number 212 2))) ∷ []), 216), bad_type 207)
    -- t = -ps;
    ∷ (((Evaluated (Assigned assign.Assign (named 206 (codes "t")) (Prefixed 210 prefix.Negate (named 211 (codes "ps")))) ∷ []), 215), bad_type 210)
    -- lk;
    ∷ (((Evaluated (named 206 (codes "lk")) ∷ []), 210), bad_type 206)
    -- &t;
    ∷ (((Evaluated (Prefixed 206 prefix.AddressOf (named 207 (codes "t"))) ∷ []), 210), bad_type 206)
    -- &5;
    ∷ (((Evaluated (Prefixed 206 prefix.AddressOf (number 207 5)) ∷ []), 210), bad_type 206)
    -- &ar;
    ∷ (((Evaluated (Prefixed 206 prefix.AddressOf (named 207 (codes "ar"))) ∷ []), 211), bad_type 206)
    -- ar = NULL;
    ∷ (((Evaluated (Assigned assign.Assign (named 206 (codes "ar")) (Null 211)) ∷ []), 217), bad_type 206)
    -- st.zz;
    ∷ (((Evaluated (Member (named 206 (codes "st")) (name 209 (codes "zz"))) ∷ []), 213), unknown 209)
    -- ps->zz;
    ∷ (((Evaluated (Pointed (named 206 (codes "ps")) (name 210 (codes "zz"))) ∷ []), 214), unknown 210)
    -- sizeof(int);
    ∷ (((Evaluated (SizeOf 206 (type_name base.Int 0)) ∷ []), 219), bad_type 206)
    -- t = malloc(4);
    ∷ (((Evaluated (Assigned assign.Assign (named 206 (codes "t")) (call 210 (codes "malloc") ((number 217 4) ∷ []))) ∷ []), 221), bad_type 206)
    -- t = (int)ps;
    ∷ (((Evaluated (Assigned assign.Assign (named 206 (codes "t")) (Converted 210 (type_name base.Int 0) (named 215 (codes "ps")))) ∷ []), 219), bad_type 210)
    -- break;
    ∷ (((Broken 206 ∷ []), 213), bad_type 206)
    -- return NULL;
    ∷ (((Returned 206 (Some (Null 213)) ∷ []), 219), bad_type 213)
    -- return free(x);
    ∷ (((Returned 206 (Some (call 213 (codes "free") ((named 218 (codes "x")) ∷ []))) ∷ []), 222), bad_type 213)
    -- ktthread_create(help,0);
    ∷ (((Evaluated (call 206 (codes "ktthread_create") ((named 222 (codes "help")) ∷ (number 227 0) ∷ [])) ∷ []), 231), fault_at kind.Entry 222)
    -- ktthread_create(zz,0);
    ∷ (((Evaluated (call 206 (codes "ktthread_create") ((named 222 (codes "zz")) ∷ (number 225 0) ∷ [])) ∷ []), 229), unknown 222)
    -- ktthread_create(w,NULL);
    ∷ (((Evaluated (call 206 (codes "ktthread_create") ((named 222 (codes "w")) ∷ (Null 224) ∷ [])) ∷ []), 231), bad_type 206)
    -- ktthread_create(1,0);
    ∷ (((Evaluated (call 206 (codes "ktthread_create") ((number 222 1) ∷ (number 224 0) ∷ [])) ∷ []), 228), bad_type 206)
    -- MIGRATE_LOCAL(t);
    ∷ (((Evaluated (call 206 (codes "MIGRATE_LOCAL") ((named 220 (codes "t")) ∷ [])) ∷ []), 224), fault_at kind.Note 206)
    -- MIGRATE_LOCAL(zz);
    ∷ (((Evaluated (call 206 (codes "MIGRATE_LOCAL") ((named 220 (codes "zz")) ∷ [])) ∷ []), 225), fault_at kind.Note 206)
    -- MIGRATE_LOCAL(1);
    ∷ (((Evaluated (call 206 (codes "MIGRATE_LOCAL") ((number 220 1) ∷ [])) ∷ []), 224), fault_at kind.Note 206)
    -- MIGRATE_LOCAL();
    ∷ (((Evaluated (call 206 (codes "MIGRATE_LOCAL") []) ∷ []), 223), bad_type 206)
    -- printf("%d",l);
    ∷ (((Evaluated (call 206 (codes "printf") ((Text 213 (codes "%d")) ∷ (named 218 (codes "l")) ∷ [])) ∷ []), 222), bad_type 206)
    -- printf("%ld",t);
    ∷ (((Evaluated (call 206 (codes "printf") ((Text 213 (codes "%ld")) ∷ (named 219 (codes "t")) ∷ [])) ∷ []), 223), bad_type 206)
    -- printf("%d");
    ∷ (((Evaluated (call 206 (codes "printf") ((Text 213 (codes "%d")) ∷ [])) ∷ []), 220), bad_type 206)
    -- printf("x",1);
    ∷ (((Evaluated (call 206 (codes "printf") ((Text 213 (codes "x")) ∷ (number 217 1) ∷ [])) ∷ []), 221), bad_type 206)
    -- printf("%q");
    ∷ (((Evaluated (call 206 (codes "printf") ((Text 213 (codes "%q")) ∷ [])) ∷ []), 220), bad_type 206)
    -- printf("%");
    ∷ (((Evaluated (call 206 (codes "printf") ((Text 213 (codes "%")) ∷ [])) ∷ []), 219), bad_type 206)
    -- puts(t);
    ∷ (((Evaluated (call 206 (codes "puts") ((named 211 (codes "t")) ∷ [])) ∷ []), 215), bad_type 206)
    -- t = kitsune_update("a");
    ∷ (((Evaluated (Assigned assign.Assign (named 206 (codes "t")) (call 210 (codes "kitsune_update") ((Text 225 (codes "a")) ∷ []))) ∷ []), 231), bad_type 206)
    -- x == gp;
    ∷ (((Evaluated (Operated binary.Equal (named 206 (codes "x")) (named 211 (codes "gp"))) ∷ []), 215), bad_type 206)
    -- x == 0;
    ∷ (((Evaluated (Operated binary.Equal (named 206 (codes "x")) (number 211 0)) ∷ []), 214), bad_type 206)
    -- x < NULL;
    ∷ (((Evaluated (Operated binary.Less (named 206 (codes "x")) (Null 210)) ∷ []), 216), bad_type 206)
    -- x *= 1;
    ∷ (((Evaluated (Assigned assign.Multiply (named 206 (codes "x")) (number 211 1)) ∷ []), 214), bad_type 206)
    -- 5++;
    ∷ (((Evaluated (Stepped (number 206 5) step.Increment) ∷ []), 211), bad_type 206)
    -- while (free(x)) {}
    ∷ (((Looped (call 213 (codes "free") ((named 218 (codes "x")) ∷ [])) (inner []) ∷ []), 225), bad_type 213)
    -- !free(x);
    ∷ (((Evaluated (Prefixed 206 prefix.Not (call 207 (codes "free") ((named 212 (codes "x")) ∷ []))) ∷ []), 216), bad_type 206)
    -- {int t; int t;}
    ∷ (((inner (Declared (record { base = base.Int; locals = local 211 (codes "t") None ∷ [] }) ∷ Declared (record { base = base.Int; locals = local 218 (codes "t") None ∷ [] }) ∷ []) ∷ []), 222), fault_at kind.Twice 218)
    -- for (int i=0,i=1;;){}
    ∷ (((Counted (Declares (record { base = base.Int; locals = local 215 (codes "i") (Some (number 217 0)) ∷ local 219 (codes "i") (Some (number 221 1)) ∷ [] })) None None (inner []) ∷ []), 228), fault_at kind.Twice 219)
    -- struct S q;
    ∷ (((Declared (record { base = (base.Struct (name 213 (codes "S"))); locals = local 215 (codes "q") None ∷ [] }) ∷ []), 218), bad_type 215)
    -- struct Z q;
    ∷ (((Declared (record { base = (base.Struct (name 213 (codes "Z"))); locals = local 215 (codes "q") None ∷ [] }) ∷ []), 218), incomplete 213)
    -- struct Z *q; q->a;
    ∷ (((Declared (record { base = (base.Struct (name 213 (codes "Z"))); locals = record { pointer = (pointer 215 1); name = name 216 (codes "q"); initial = None } ∷ [] }) ∷ Evaluated (Pointed (named 219 (codes "q")) (name 222 (codes "a"))) ∷ []), 225), incomplete 219)
    -- struct Z *q; q+1;
    ∷ (((Declared (record { base = (base.Struct (name 213 (codes "Z"))); locals = record { pointer = (pointer 215 1); name = name 216 (codes "q"); initial = None } ∷ [] }) ∷ Evaluated (Operated binary.Add (named 219 (codes "q")) (number 221 1)) ∷ []), 224), incomplete 219)
    -- struct Z *q; *q;
    ∷ (((Declared (record { base = (base.Struct (name 213 (codes "Z"))); locals = record { pointer = (pointer 215 1); name = name 216 (codes "q"); initial = None } ∷ [] }) ∷ Evaluated (Prefixed 219 prefix.Dereference (named 220 (codes "q"))) ∷ []), 223), bad_type 219)
    -- struct Z *q; q[0];
    ∷ (((Declared (record { base = (base.Struct (name 213 (codes "Z"))); locals = record { pointer = (pointer 215 1); name = name 216 (codes "q"); initial = None } ∷ [] }) ∷ Evaluated (Element (named 219 (codes "q")) (number 221 0)) ∷ []), 225), incomplete 219)
    -- pthread_mutex_t q;
    ∷ (((Declared (record { base = base.Mutex; locals = local 222 (codes "q") None ∷ [] }) ∷ []), 225), bad_type 222)
    -- pthread_mutex_init(&lk, 0);
    ∷ (((Evaluated (call 206 (codes "pthread_mutex_init") ((Prefixed 225 prefix.AddressOf (named 226 (codes "lk"))) ∷ (number 230 0) ∷ [])) ∷ []), 234), bad_type 206)
    -- pthread_mutex_init(&lk);
    ∷ (((Evaluated (call 206 (codes "pthread_mutex_init") ((Prefixed 225 prefix.AddressOf (named 226 (codes "lk"))) ∷ [])) ∷ []), 231), bad_type 206)
    -- t + (zz = 1);
    ∷ (((Evaluated (Operated binary.Add (named 206 (codes "t")) (Parenthesised 210 (Assigned assign.Assign (named 211 (codes "zz")) (number 216 1)))) ∷ []), 220), unknown 211)
    -- ps * zz;
    ∷ (((Evaluated (Operated binary.Multiply (named 206 (codes "ps")) (named 211 (codes "zz"))) ∷ []), 215), unknown 211)
    -- t = getchar(1);
    ∷ (((Evaluated (Assigned assign.Assign (named 206 (codes "t")) (call 210 (codes "getchar") ((number 218 1) ∷ []))) ∷ []), 222), bad_type 210)
    -- x = calloc(t);
    ∷ (((Evaluated (Assigned assign.Assign (named 206 (codes "x")) (call 210 (codes "calloc") ((named 217 (codes "t")) ∷ []))) ∷ []), 221), bad_type 210)
    -- gp = malloc(2*sizeof(int)*2);
    ∷ (((Evaluated (Assigned assign.Assign (named 206 (codes "gp")) (call 211 (codes "malloc") ((Operated binary.Multiply (Operated binary.Multiply (number 218 2) (SizeOf 220 (type_name base.Int 0))) (number 232 2)) ∷ []))) ∷ []), 236), bad_type 220)
    -- ((lk));
    ∷ (((Evaluated (Parenthesised 206 (Parenthesised 207 (named 208 (codes "lk")))) ∷ []), 214), bad_type 208)
    -- t[0];
    ∷ (((Evaluated (Element (named 206 (codes "t")) (number 208 0)) ∷ []), 212), bad_type 206)
    -- ar[ps];
    ∷ (((Evaluated (Element (named 206 (codes "ar")) (named 209 (codes "ps"))) ∷ []), 214), bad_type 206)
    -- continue;
    ∷ (((Continued 206 ∷ []), 217), bad_type 206)
    -- { struct S s2; }
    ∷ (((inner (Declared (record { base = (base.Struct (name 215 (codes "S"))); locals = local 217 (codes "s2") None ∷ [] }) ∷ []) ∷ []), 223), bad_type 217)
    -- if (1) { break; }
    ∷ (((Conditional (number 210 1) (inner (Broken 215 ∷ [])) ∷ []), 224), bad_type 215)
    -- ktthread_create(w, 1, 2);
    ∷ (((Evaluated (call 206 (codes "ktthread_create") ((named 222 (codes "w")) ∷ (number 225 1) ∷ (number 228 2) ∷ [])) ∷ []), 232), bad_type 206)
    -- gp = ps;
    ∷ (((Evaluated (Assigned assign.Assign (named 206 (codes "gp")) (named 211 (codes "ps"))) ∷ []), 215), bad_type 206)
    -- *ps = st;
    ∷ (((Evaluated (Assigned assign.Assign (Prefixed 206 prefix.Dereference (named 207 (codes "ps"))) (named 212 (codes "st"))) ∷ []), 216), bad_type 206)
    -- lk == lk;
    ∷ (((Evaluated (Operated binary.Equal (named 206 (codes "lk")) (named 212 (codes "lk"))) ∷ []), 216), bad_type 206)
    -- t = "a";
    ∷ (((Evaluated (Assigned assign.Assign (named 206 (codes "t")) (Text 210 (codes "a"))) ∷ []), 215), bad_type 206)
    -- NULL + 1;
    ∷ (((Evaluated (Operated binary.Add (Null 206) (number 213 1)) ∷ []), 216), bad_type 206)
    -- gp /= 2;
    ∷ (((Evaluated (Assigned assign.Divide (named 206 (codes "gp")) (number 212 2)) ∷ []), 215), bad_type 206)
    -- help(ps);
    ∷ (((Evaluated (call 206 (codes "help") ((named 211 (codes "ps")) ∷ [])) ∷ []), 216), bad_type 206)
    -- printf("%c", l);
    ∷ (((Evaluated (call 206 (codes "printf") ((Text 213 (codes "%c")) ∷ (named 219 (codes "l")) ∷ [])) ∷ []), 223), bad_type 206)
    -- printf("%s", gp);
    ∷ (((Evaluated (call 206 (codes "printf") ((Text 213 (codes "%s")) ∷ (named 219 (codes "gp")) ∷ [])) ∷ []), 224), bad_type 206)
    -- printf("%s", NULL);
    ∷ (((Evaluated (call 206 (codes "printf") ((Text 213 (codes "%s")) ∷ (Null 219) ∷ [])) ∷ []), 226), bad_type 206)
    -- printf();
    ∷ (((Evaluated (call 206 (codes "printf") []) ∷ []), 216), bad_type 206)
    -- puts();
    ∷ (((Evaluated (call 206 (codes "puts") []) ∷ []), 214), bad_type 206)
    -- kitsune_do_automigrate() + 1;
    ∷ (((Evaluated (Operated binary.Add (call 206 (codes "kitsune_do_automigrate") []) (number 233 1)) ∷ []), 236), bad_type 206)
    -- kitsune_update();
    ∷ (((Evaluated (call 206 (codes "kitsune_update") []) ∷ []), 224), bad_type 206)
    -- kitsune_update("a", "b");
    ∷ (((Evaluated (call 206 (codes "kitsune_update") ((Text 221 (codes "a")) ∷ (Text 226 (codes "b")) ∷ [])) ∷ []), 232), bad_type 206)
    -- pthread_mutex_lock();
    ∷ (((Evaluated (call 206 (codes "pthread_mutex_lock") []) ∷ []), 228), bad_type 206)
    -- pthread_mutex_lock(NULL);
    ∷ (((Evaluated (call 206 (codes "pthread_mutex_lock") ((Null 225) ∷ [])) ∷ []), 232), bad_type 206)
    -- calloc(ps, sizeof(int));
    ∷ (((Evaluated (call 206 (codes "calloc") ((named 213 (codes "ps")) ∷ (SizeOf 217 (type_name base.Int 0)) ∷ [])) ∷ []), 231), bad_type 206)
    -- malloc(sizeof(int) * ps);
    ∷ (((Evaluated (call 206 (codes "malloc") ((Operated binary.Multiply (SizeOf 213 (type_name base.Int 0)) (named 227 (codes "ps"))) ∷ [])) ∷ []), 232), bad_type 206)
    -- gp = calloc(2, sizeof(long));
    ∷ (((Evaluated (Assigned assign.Assign (named 206 (codes "gp")) (call 211 (codes "calloc") ((number 218 2) ∷ (SizeOf 221 (type_name base.Long 0)) ∷ []))) ∷ []), 236), bad_type 206)
    -- x = (struct S *)malloc(sizeof(int));
    ∷ (((Evaluated (Assigned assign.Assign (named 206 (codes "x")) (Converted 210 (type_name (base.Struct (name 218 (codes "S"))) 1) (call 222 (codes "malloc") ((SizeOf 229 (type_name base.Int 0)) ∷ [])))) ∷ []), 243), bad_type 210)
    -- (struct S)st;
    ∷ (((Evaluated (Converted 206 (type_name (base.Struct (name 214 (codes "S"))) 0) (named 216 (codes "st"))) ∷ []), 220), bad_type 216)
    -- (struct Zz *)malloc(4);
    ∷ (((Evaluated (Converted 206 (type_name (base.Struct (name 214 (codes "Zz"))) 1) (call 219 (codes "malloc") ((number 226 4) ∷ []))) ∷ []), 230), bad_type 206)
    -- ps->next.v;
    ∷ (((Evaluated (Member (Pointed (named 206 (codes "ps")) (name 210 (codes "next"))) (name 215 (codes "v"))) ∷ []), 218), bad_type 206)
    -- -lk;
    ∷ (((Evaluated (Prefixed 206 prefix.Negate (named 207 (codes "lk"))) ∷ []), 211), bad_type 207)
    -- st + 1;
    ∷ (((Evaluated (Operated binary.Add (named 206 (codes "st")) (number 211 1)) ∷ []), 214), bad_type 206)
    -- st == st;
    ∷ (((Evaluated (Operated binary.Equal (named 206 (codes "st")) (named 212 (codes "st"))) ∷ []), 216), bad_type 206)
    -- t ? st : st;
    ∷ (((Evaluated (Chosen (named 206 (codes "t")) (named 210 (codes "st")) (named 215 (codes "st"))) ∷ []), 219), bad_type 210)
    -- w(1) + 1;
    ∷ (((Evaluated (Operated binary.Add (call 206 (codes "w") ((number 208 1) ∷ [])) (number 213 1)) ∷ []), 216), bad_type 206)
    -- t = w(1);
    ∷ (((Evaluated (Assigned assign.Assign (named 206 (codes "t")) (call 210 (codes "w") ((number 212 1) ∷ []))) ∷ []), 216), bad_type 206)
    -- return w(1);
    ∷ (((Returned 206 (Some (call 213 (codes "w") ((number 215 1) ∷ []))) ∷ []), 219), bad_type 213)
    ∷ []

abbrev pub accepted_in_main : List (List Statement × ℕ)
accepted_in_main =
    -- x = NULL;
    ((Evaluated (Assigned assign.Assign (named 206 (codes "x")) (Null 210)) ∷ []), 216)
    -- t = !ps;
    ∷ ((Evaluated (Assigned assign.Assign (named 206 (codes "t")) (Prefixed 210 prefix.Not (named 211 (codes "ps")))) ∷ []), 215)
    -- &st;
    ∷ ((Evaluated (Prefixed 206 prefix.AddressOf (named 207 (codes "st"))) ∷ []), 211)
    -- &ar[1];
    ∷ ((Evaluated (Prefixed 206 prefix.AddressOf (Element (named 207 (codes "ar")) (number 210 1))) ∷ []), 214)
    -- *ar = 1;
    ∷ ((Evaluated (Assigned assign.Assign (Prefixed 206 prefix.Dereference (named 207 (codes "ar"))) (number 212 1)) ∷ []), 215)
    -- ar[1] = 2;
    ∷ ((Evaluated (Assigned assign.Assign (Element (named 206 (codes "ar")) (number 209 1)) (number 214 2)) ∷ []), 217)
    -- t = ar[0];
    ∷ ((Evaluated (Assigned assign.Assign (named 206 (codes "t")) (Element (named 210 (codes "ar")) (number 213 0))) ∷ []), 217)
    -- st.v = 1;
    ∷ ((Evaluated (Assigned assign.Assign (Member (named 206 (codes "st")) (name 209 (codes "v"))) (number 213 1)) ∷ []), 216)
    -- x = (struct S *)malloc(sizeof(struct S));
    ∷ ((Evaluated (Assigned assign.Assign (named 206 (codes "x")) (Converted 210 (type_name (base.Struct (name 218 (codes "S"))) 1) (call 222 (codes "malloc") ((SizeOf 229 (type_name (base.Struct (name 243 (codes "S"))) 0)) ∷ [])))) ∷ []), 248)
    -- ktthread_create(w,0);
    ∷ ((Evaluated (call 206 (codes "ktthread_create") ((named 222 (codes "w")) ∷ (number 224 0) ∷ [])) ∷ []), 228)
    -- putchar(l);
    ∷ ((Evaluated (call 206 (codes "putchar") ((named 214 (codes "l")) ∷ [])) ∷ []), 218)
    -- kitsune_update("");
    ∷ ((Evaluated (call 206 (codes "kitsune_update") ((Text 221 (codes "")) ∷ [])) ∷ []), 226)
    -- kitsune_update("a-_Z9");
    ∷ ((Evaluated (call 206 (codes "kitsune_update") ((Text 221 (codes "a-_Z9")) ∷ [])) ∷ []), 231)
    -- x == ps;
    ∷ ((Evaluated (Operated binary.Equal (named 206 (codes "x")) (named 211 (codes "ps"))) ∷ []), 215)
    -- x < ps;
    ∷ ((Evaluated (Operated binary.Less (named 206 (codes "x")) (named 210 (codes "ps"))) ∷ []), 214)
    -- x + 1;
    ∷ ((Evaluated (Operated binary.Add (named 206 (codes "x")) (number 210 1)) ∷ []), 213)
    -- 1 + x;
    ∷ ((Evaluated (Operated binary.Add (number 206 1) (named 210 (codes "x"))) ∷ []), 213)
    -- t ? x : NULL;
    ∷ ((Evaluated (Chosen (named 206 (codes "t")) (named 210 (codes "x")) (Null 214)) ∷ []), 220)
    -- (t)++;
    ∷ ((Evaluated (Stepped (Parenthesised 206 (named 207 (codes "t"))) step.Increment) ∷ []), 213)
    -- for (int t=0;;){int t;}
    ∷ ((Counted (Declares (record { base = base.Int; locals = local 215 (codes "t") (Some (number 217 0)) ∷ [] })) None None (inner (Declared (record { base = base.Int; locals = local 226 (codes "t") None ∷ [] }) ∷ [])) ∷ []), 230)
    -- struct Z *q; q == q;
    ∷ ((Declared (record { base = (base.Struct (name 213 (codes "Z"))); locals = record { pointer = (pointer 215 1); name = name 216 (codes "q"); initial = None } ∷ [] }) ∷ Evaluated (Operated binary.Equal (named 219 (codes "q")) (named 224 (codes "q"))) ∷ []), 227)
    -- int *q = &g;
    ∷ ((Declared (record { base = base.Int; locals = record { pointer = (pointer 210 1); name = name 211 (codes "q"); initial = Some (Prefixed 215 prefix.AddressOf (named 216 (codes "g"))) } ∷ [] }) ∷ []), 219)
    -- g = t = 3;
    ∷ ((Evaluated (Assigned assign.Assign (named 206 (codes "g")) (Assigned assign.Assign (named 210 (codes "t")) (number 214 3))) ∷ []), 217)
    -- free(NULL);
    ∷ ((Evaluated (call 206 (codes "free") ((Null 211) ∷ [])) ∷ []), 218)
    -- x = calloc(t, sizeof(struct S));
    ∷ ((Evaluated (Assigned assign.Assign (named 206 (codes "x")) (call 210 (codes "calloc") ((named 217 (codes "t")) ∷ (SizeOf 220 (type_name (base.Struct (name 234 (codes "S"))) 0)) ∷ []))) ∷ []), 239)
    -- gp = malloc(t*sizeof(int));
    ∷ ((Evaluated (Assigned assign.Assign (named 206 (codes "gp")) (call 211 (codes "malloc") ((Operated binary.Multiply (named 218 (codes "t")) (SizeOf 220 (type_name base.Int 0))) ∷ []))) ∷ []), 234)
    -- gp = malloc(sizeof(int)*(2*2));
    ∷ ((Evaluated (Assigned assign.Assign (named 206 (codes "gp")) (call 211 (codes "malloc") ((Operated binary.Multiply (SizeOf 218 (type_name base.Int 0)) (Parenthesised 230 (Operated binary.Multiply (number 231 2) (number 233 2)))) ∷ []))) ∷ []), 238)
    -- t = main();
    ∷ ((Evaluated (Assigned assign.Assign (named 206 (codes "t")) (call 210 (codes "main") [])) ∷ []), 218)
    -- "abc"[1];
    ∷ ((Evaluated (Element (Text 206 (codes "abc")) (number 212 1)) ∷ []), 216)
    -- (t) = 1;
    ∷ ((Evaluated (Assigned assign.Assign (Parenthesised 206 (named 207 (codes "t"))) (number 212 1)) ∷ []), 215)
    -- (st).v = 1;
    ∷ ((Evaluated (Assigned assign.Assign (Member (Parenthesised 206 (named 207 (codes "st"))) (name 211 (codes "v"))) (number 215 1)) ∷ []), 218)
    -- x = &*ps;
    ∷ ((Evaluated (Assigned assign.Assign (named 206 (codes "x")) (Prefixed 210 prefix.AddressOf (Prefixed 211 prefix.Dereference (named 212 (codes "ps"))))) ∷ []), 216)
    -- int t9 = 3; t9 = 4;
    ∷ ((Declared (record { base = base.Int; locals = local 210 (codes "t9") (Some (number 215 3)) ∷ [] }) ∷ Evaluated (Assigned assign.Assign (named 218 (codes "t9")) (number 223 4)) ∷ []), 226)
    -- for (;;) { continue; }
    ∷ ((Counted NoStart None None (inner (Continued 217 ∷ [])) ∷ []), 229)
    -- do { break; } while (1);
    ∷ ((Repeated (inner (Broken 211 ∷ [])) (number 227 1) ∷ []), 231)
    -- ktthread_create(w, help(1));
    ∷ ((Evaluated (call 206 (codes "ktthread_create") ((named 222 (codes "w")) ∷ (call 225 (codes "help") ((number 230 1) ∷ [])) ∷ [])) ∷ []), 235)
    -- t = (long)1;
    ∷ ((Evaluated (Assigned assign.Assign (named 206 (codes "t")) (Converted 210 (type_name base.Long 0) (number 216 1))) ∷ []), 219)
    -- c = 'a';
    ∷ ((Evaluated (Assigned assign.Assign (named 206 (codes "c")) (Character 210 97)) ∷ []), 215)
    -- l = t;
    ∷ ((Evaluated (Assigned assign.Assign (named 206 (codes "l")) (named 210 (codes "t"))) ∷ []), 213)
    -- t = l;
    ∷ ((Evaluated (Assigned assign.Assign (named 206 (codes "t")) (named 210 (codes "l"))) ∷ []), 213)
    -- return l;
    ∷ ((Returned 206 (Some (named 213 (codes "l"))) ∷ []), 216)
    -- gp = &g + 1;
    ∷ ((Evaluated (Assigned assign.Assign (named 206 (codes "gp")) (Operated binary.Add (Prefixed 211 prefix.AddressOf (named 212 (codes "g"))) (number 216 1))) ∷ []), 219)
    -- gp = ar;
    ∷ ((Evaluated (Assigned assign.Assign (named 206 (codes "gp")) (named 211 (codes "ar"))) ∷ []), 215)
    -- ps = ps->next;
    ∷ ((Evaluated (Assigned assign.Assign (named 206 (codes "ps")) (Pointed (named 211 (codes "ps")) (name 215 (codes "next")))) ∷ []), 221)
    -- ps = &st;
    ∷ ((Evaluated (Assigned assign.Assign (named 206 (codes "ps")) (Prefixed 211 prefix.AddressOf (named 212 (codes "st")))) ∷ []), 216)
    -- t = *gp;
    ∷ ((Evaluated (Assigned assign.Assign (named 206 (codes "t")) (Prefixed 210 prefix.Dereference (named 211 (codes "gp")))) ∷ []), 215)
    -- "a" + 1;
    ∷ ((Evaluated (Operated binary.Add (Text 206 (codes "a")) (number 212 1)) ∷ []), 215)
    -- !NULL;
    ∷ ((Evaluated (Prefixed 206 prefix.Not (Null 207)) ∷ []), 213)
    -- NULL;
    ∷ ((Evaluated (Null 206) ∷ []), 212)
    -- t = EOF;
    ∷ ((Evaluated (Assigned assign.Assign (named 206 (codes "t")) (Eof 210)) ∷ []), 215)
    -- ar + 1;
    ∷ ((Evaluated (Operated binary.Add (named 206 (codes "ar")) (number 211 1)) ∷ []), 214)
    -- ar == gp;
    ∷ ((Evaluated (Operated binary.Equal (named 206 (codes "ar")) (named 212 (codes "gp"))) ∷ []), 216)
    -- ar[0] += 1;
    ∷ ((Evaluated (Assigned assign.Add (Element (named 206 (codes "ar")) (number 209 0)) (number 215 1)) ∷ []), 218)
    -- t = gp - ar;
    ∷ ((Evaluated (Assigned assign.Assign (named 206 (codes "t")) (Operated binary.Subtract (named 210 (codes "gp")) (named 215 (codes "ar")))) ∷ []), 219)
    -- l = gp - ar;
    ∷ ((Evaluated (Assigned assign.Assign (named 206 (codes "l")) (Operated binary.Subtract (named 210 (codes "gp")) (named 215 (codes "ar")))) ∷ []), 219)
    -- help(l);
    ∷ ((Evaluated (call 206 (codes "help") ((named 211 (codes "l")) ∷ [])) ∷ []), 215)
    -- (free(x));
    ∷ ((Evaluated (Parenthesised 206 (call 207 (codes "free") ((named 212 (codes "x")) ∷ []))) ∷ []), 217)
    -- free(&g);
    ∷ ((Evaluated (call 206 (codes "free") ((Prefixed 211 prefix.AddressOf (named 212 (codes "g"))) ∷ [])) ∷ []), 216)
    -- free(ar);
    ∷ ((Evaluated (call 206 (codes "free") ((named 211 (codes "ar")) ∷ [])) ∷ []), 216)
    -- free("a");
    ∷ ((Evaluated (call 206 (codes "free") ((Text 211 (codes "a")) ∷ [])) ∷ []), 217)
    -- getchar() + 1;
    ∷ ((Evaluated (Operated binary.Add (call 206 (codes "getchar") []) (number 218 1)) ∷ []), 221)
    -- kitsune_is_updating() + kitsune_is_updating_from("a");
    ∷ ((Evaluated (Operated binary.Add (call 206 (codes "kitsune_is_updating") []) (call 230 (codes "kitsune_is_updating_from") ((Text 255 (codes "a")) ∷ []))) ∷ []), 261)
    -- gp = (int *)calloc(2, sizeof(int));
    ∷ ((Evaluated (Assigned assign.Assign (named 206 (codes "gp")) (Converted 211 (type_name base.Int 1) (call 218 (codes "calloc") ((number 225 2) ∷ (SizeOf 228 (type_name base.Int 0)) ∷ [])))) ∷ []), 242)
    -- gp = (int *)(calloc(2, sizeof(int)));
    ∷ ((Evaluated (Assigned assign.Assign (named 206 (codes "gp")) (Converted 211 (type_name base.Int 1) (Parenthesised 218 (call 219 (codes "calloc") ((number 226 2) ∷ (SizeOf 229 (type_name base.Int 0)) ∷ []))))) ∷ []), 244)
    -- ps->next->next->v = ps->v;
    ∷ ((Evaluated (Assigned assign.Assign (Pointed (Pointed (Pointed (named 206 (codes "ps")) (name 210 (codes "next"))) (name 216 (codes "next"))) (name 222 (codes "v"))) (Pointed (named 226 (codes "ps")) (name 230 (codes "v")))) ∷ []), 233)
    -- (&st)->v;
    ∷ ((Evaluated (Pointed (Parenthesised 206 (Prefixed 207 prefix.AddressOf (named 208 (codes "st")))) (name 213 (codes "v"))) ∷ []), 216)
    -- (*&st).v = 1;
    ∷ ((Evaluated (Assigned assign.Assign (Member (Parenthesised 206 (Prefixed 207 prefix.Dereference (Prefixed 208 prefix.AddressOf (named 209 (codes "st"))))) (name 213 (codes "v"))) (number 217 1)) ∷ []), 220)
    ∷ []
