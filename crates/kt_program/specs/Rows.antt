-- Worked rows: bodies of a function `int`, in the file of the rows of expressions, with their answers.
use Rattle.std.specs.Prelude.{◌≡◌, ℕ, true, false, List, [], ◌∷◌, codes, Option, Some, None}
use Rattle.kt_grammar.specs.declared.tree.Base.{Base}
use Rattle.kt_grammar.specs.declared.tree.Base.TheVariants as base
use Rattle.kt_grammar.specs.Tree.{Term}
use Rattle.kt_syntax.specs.Tree.{Declares, NoStart, Statement, Declared, Compound, Empty, Evaluated, Returned, Broken, Continued, Conditional, Looped, Repeated, Counted, statements_of}
use Rattle.kt_typing.specs.declared.fault.Fault.{Fault}
use Rattle.kt_typing.specs.declared.fault.Kind.TheVariants as kind
use Rattle.kt_typing.specs.Faults.{fault_at, unknown, bad_type, incomplete, IsFirst}
use Rattle.kt_typing.specs.Rows.{c_file, scope, name, named, number}
use Rattle.kt_program.specs.Judgments.{Judgment, made, IsWrong}
use Rattle.kt_program.specs.Made.{Made}
use Rattle.kt_program.specs.Scopes.{Body, Place}
use Rattle.kt_program.specs.Statements.{statement}

-- the body has two locals `int`, each named `y`
abbrev pub body : Body
body = record {
  environment = record c_file { scope = record (scope false) { locals = 1 ∷ 1 ∷ [] } };
  result = Some 1;
  names = codes "y" ∷ codes "y" ∷ [];
}

-- the same with `E_NOTELOCALS`
abbrev pub noted_body : Body
noted_body = record body { environment = record c_file { scope = record (scope true) { locals = 1 ∷ 1 ∷ [] } } }

abbrev pub void_body : Body
void_body = record body { result = None }

abbrev pub begin : Place
begin = record { visible = []; own = []; next = 0; in_loop = false }

abbrev pub judged : Body → List Statement → Judgment
judged b es = statement b begin (Compound (statements_of es))

-- a declaration of one local, at its name, without stars
abbrev pub one_local : Base → ℕ → List ℕ → Option Term → Statement
one_local b at word initial = Declared (record { base = b; locals = record { pointer = None; name = name at word; initial = initial } ∷ [] })

abbrev pub int_local : ℕ → List ℕ → Option Term → Statement
int_local at word initial = one_local base.Int at word initial

abbrev pub y : ℕ → Term
y at = named at (codes "y")

abbrev pub s : ℕ → Term
s at = named at (codes "s")

abbrev pub q : ℕ → Term
q at = named at (codes "q")

abbrev pub nowhere : ℕ → Term
nowhere at = named at (codes "nowhere")

abbrev pub inner : List Statement → Statement
inner es = Compound (statements_of es)

abbrev pub for_y : ℕ → Statement → Statement
for_y at a = Counted (Declares (record { base = base.Int; locals = record { pointer = None; name = name at (codes "y"); initial = None } ∷ [] })) None None a

abbrev pub IsRefused : Body → List Statement × Fault → Type 0
IsRefused b row = IsFirst (IsWrong (judged b row.0)) row.1

abbrev pub IsAccepted : Body → List Statement → Type 0
IsAccepted b es = (m : Made) × (made (judged b es) ≡ Some m)

abbrev pub refused : List (List Statement × Fault)
refused =
    -- y; int y;
    (Evaluated (y 1) ∷ int_local 8 (codes "y") None ∷ [], unknown 1)
    -- { int y; } y;
    ∷ (inner (int_local 6 (codes "y") None ∷ []) ∷ Evaluated (y 11) ∷ [], unknown 11)
    -- int y; int y;
    ∷ (int_local 5 (codes "y") None ∷ int_local 12 (codes "y") None ∷ [], fault_at kind.Twice 12)
    -- for (int y; ; ) ; y;
    ∷ (for_y 9 Empty ∷ Evaluated (y 17) ∷ [], unknown 17)
    -- int malloc;
    ∷ (int_local 5 (codes "malloc") None ∷ [], fault_at kind.Twice 5)
    -- struct u y;
    ∷ (one_local (base.Struct (name 8 (codes "u"))) 10 (codes "y") None ∷ [], incomplete 8)
    -- struct t y;
    ∷ (one_local (base.Struct (name 8 (codes "t"))) 10 (codes "y") None ∷ [], bad_type 10)
    -- pthread_mutex_t y;
    ∷ (one_local base.Mutex 17 (codes "y") None ∷ [], bad_type 17)
    -- int y = q;
    ∷ (int_local 5 (codes "y") (Some (q 9)) ∷ [], bad_type 5)
    -- int y = nowhere;
    ∷ (int_local 5 (codes "y") (Some (nowhere 9)) ∷ [], unknown 9)
    -- break;
    ∷ (Broken 1 ∷ [], bad_type 1)
    -- continue;
    ∷ (Continued 1 ∷ [], bad_type 1)
    -- while (1) ; break;
    ∷ (Looped (number 8 1) Empty ∷ Broken 13 ∷ [], bad_type 13)
    -- return;
    ∷ (Returned 1 None ∷ [], bad_type 1)
    -- return q;
    ∷ (Returned 1 (Some (q 8)) ∷ [], bad_type 8)
    -- return s;
    ∷ (Returned 1 (Some (s 8)) ∷ [], bad_type 8)
    -- return nowhere;
    ∷ (Returned 1 (Some (nowhere 8)) ∷ [], unknown 8)
    -- if (s) nowhere;
    ∷ (Conditional (s 5) (Evaluated (nowhere 8)) ∷ [], bad_type 5)
    -- if (nowhere) break;
    ∷ (Conditional (nowhere 5) (Broken 14) ∷ [], unknown 5)
    -- do break; while (s);
    ∷ (Repeated (Broken 4) (s 18) ∷ [], bad_type 18)
    -- for (; s; nowhere) ;
    ∷ (Counted NoStart (Some (s 8)) (Some (nowhere 11)) Empty ∷ [], bad_type 8)
    -- for (; ; nowhere) s;
    ∷ (Counted NoStart None (Some (nowhere 10)) (Evaluated (s 19)) ∷ [], unknown 10)
    ∷ []

abbrev pub accepted : List (List Statement)
accepted =
    -- int y = y;
    (int_local 5 (codes "y") (Some (y 9)) ∷ [])
    -- int y; { int s; s; return s; }
    ∷ (int_local 5 (codes "y") None ∷ inner (int_local 14 (codes "s") None ∷ Evaluated (s 17) ∷ Returned 20 (Some (s 27)) ∷ []) ∷ [])
    -- { int y; } { int y; }
    ∷ (inner (int_local 6 (codes "y") None ∷ []) ∷ inner (int_local 17 (codes "y") None ∷ []) ∷ [])
    -- while (q) if (1) break;
    ∷ (Looped (q 8) (Conditional (number 15 1) (Broken 18)) ∷ [])
    -- do continue; while (0);
    ∷ (Repeated (Continued 4) (number 21 0) ∷ [])
    -- for (int y; y; y) y;
    ∷ (Counted (Declares (record { base = base.Int; locals = record { pointer = None; name = name 10 (codes "y"); initial = None } ∷ [] })) (Some (y 13)) (Some (y 16)) (Evaluated (y 19)) ∷ [])
    -- return 1;
    ∷ (Returned 1 (Some (number 8 1)) ∷ [])
    ∷ []

-- with `E_NOTELOCALS`: { int y; } { int y; }
abbrev pub refused_noted : List (List Statement × Fault)
refused_noted = (inner (int_local 6 (codes "y") None ∷ []) ∷ inner (int_local 17 (codes "y") None ∷ []) ∷ [], fault_at kind.Note 17) ∷ []

-- in a function `void`: return nowhere;
abbrev pub refused_void : List (List Statement × Fault)
refused_void = (Returned 1 (Some (nowhere 8)) ∷ [], bad_type 1) ∷ []

abbrev pub accepted_void : List (List Statement)
accepted_void = (Returned 1 None ∷ []) ∷ []
