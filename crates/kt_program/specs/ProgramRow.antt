-- A worked row: a file and its typed program.
use Rattle.std.specs.Prelude.{ℕ, pos, false, List, [], ◌∷◌, codes, Some, None}
use Rattle.kt_grammar.specs.declared.operator.AssignOperator.TheVariants as assign
use Rattle.kt_grammar.specs.declared.tree.Base.TheVariants as base
use Rattle.kt_grammar.specs.Tree.{Assigned}
use Rattle.kt_syntax.specs.declared.tree.Constant.TheVariants as written
use Rattle.kt_syntax.specs.declared.tree.Extent.TheVariants as extent
use Rattle.kt_syntax.specs.Tree.{Tree, Declared, Evaluated, Returned, StructDefined, GlobalsDeclared, FunctionDeclared, statements_of}
use Rattle.kt_tree.specs.Version.{Program}
use Rattle.kt_typing.specs.Faults.{}
use Rattle.kt_typing.specs.Rows.{name, named, number, call}
use Rattle.kt_program.specs.Fragments.{plain, pointer, local, declarator, tree}
use Rattle.kt_types.specs.declared.kinds.FieldDecl.{FieldDecl}
use Rattle.kt_types.specs.declared.kinds.Ty.TheVariants as ty
use Rattle.kt_types.specs.declared.kinds.View.TheVariants as view
use Rattle.kt_tree.specs.declared.expr.Constant.TheVariants as constant
use Rattle.kt_tree.specs.declared.expr.Request.TheVariants as request
use Rattle.kt_tree.specs.declared.global.Init.TheVariants as init
use Rattle.kt_tree.specs.Tree.{Constant', LocalRead, LocalSet, Requested, Called, NoMore, More, Statement as Typed, Evaluated as Computed, Undefined, Compound as Whole, Returned as Gives}
use Rattle.kt_program.specs.Made.{block_of}

-- char *s = "a"; struct S { int n; int * E_PTRARRAY(n) a; char *b[2]; int * E_PTRARRAY(k) c; }; int k = 7;
-- int f(int x) { int y; y = x; return k; } int main(void) { return f(1); }
abbrev pub small : Tree
small = tree
    (
    GlobalsDeclared base.Char (record { declarator = (declarator (pointer 5 1) 6 (codes "s")); initial = (Some (written.Text 10 (codes "a"))) } ∷ [])
    ∷ StructDefined (name 22 (codes "S")) (record { base = base.Int; declarators = ((declarator None 30 (codes "n")) ∷ []) } ∷ record { base = base.Int; declarators = ((declarator (Some (record { stars = record { at = 37; count = 1 }; extent = (Some (extent.Name (name 50 (codes "n")))) })) 53 (codes "a")) ∷ []) } ∷ record { base = base.Char; declarators = ((record { pointer = (pointer 61 1); name = name 62 (codes "b"); count = (Some (plain 2)) }) ∷ []) } ∷ record { base = base.Int; declarators = ((declarator (Some (record { stars = record { at = 72; count = 1 }; extent = (Some (extent.Name (name 85 (codes "k")))) })) 88 (codes "c")) ∷ []) } ∷ [])
    ∷ GlobalsDeclared base.Int (record { declarator = (declarator None 98 (codes "k")); initial = (Some (written.Number (plain 7))) } ∷ [])
    ∷ FunctionDeclared (record { result = (Some base.Int); stars = None; name = name 109 (codes "f"); parameters = (record { base = base.Int; pointer = None; name = name 115 (codes "x") } ∷ []); body = (Some (record { noted = false; entries = statements_of (Declared (record { base = base.Int; locals = local 124 (codes "y") None ∷ [] }) ∷ Evaluated (Assigned assign.Assign (named 127 (codes "y")) (named 131 (codes "x"))) ∷ Returned 134 (Some (named 141 (codes "k"))) ∷ []) })) })
    ∷ FunctionDeclared (record { result = (Some base.Int); stars = None; name = name 150 (codes "main"); parameters = []; body = (Some (record { noted = false; entries = statements_of (Returned 163 (Some (call 170 (codes "f") ((number 172 1) ∷ []))) ∷ []) })) })
    ∷ [])
    177

abbrev pub block : List Typed → Typed
block xs = Whole (block_of xs)

abbrev pub local_int : List ℕ → FieldDecl
local_int n = record { name = n; ty = 1; view = view.One }

abbrev pub small_program : Program
small_program = record {
  types = record {
    types = ty.Char ∷ ty.Int ∷ ty.Long ∷ ty.Mutex ∷ ty.Ptr 0 ∷ ty.Ptr 4 ∷ ty.Ptr 1 ∷ ty.Ptr 6 ∷ ty.Array 4 2 ∷ [];
    structs = codes "S" ∷ [];
    defined = record {
      number = 0;
      fields =
          record { name = codes "n"; ty = 1; view = view.One } ∷ record { name = codes "a"; ty = 6; view = view.Field 0 }
          ∷ record { name = codes "b"; ty = 8; view = view.Whole } ∷ record { name = codes "c"; ty = 6; view = view.Global 1 } ∷ [];
    } ∷ [];
  };
  globals =
      record { name = codes "s"; ty = 4; count = 1; array = false; view = view.Whole; init = init.Literal 0 }
      ∷ record { name = codes "k"; ty = 1; count = 1; array = false; view = view.One; init = init.Number (pos 7) } ∷ [];
  literals = codes "a" ∷ [];
  functions =
      record {
        name = codes "f";
        result = Some 1;
        params = 1;
        noted = false;
        locals = local_int (codes "x") ∷ local_int (codes "y") ∷ [];
        body = block (
            Undefined 1
            ∷ Computed (LocalSet 1 (LocalRead 0))
            ∷ Gives (Some (Requested request.Load (Some 1) (More (Constant' (constant.Global 1) 6) NoMore)))
            ∷ []);
      }
      ∷ record {
        name = codes "main";
        result = Some 1;
        params = 0;
        noted = false;
        locals = [];
        body = block (Gives (Some (Called 0 (More (Constant' (constant.Number (pos 1)) 1) NoMore))) ∷ []);
      } ∷ [];
  points = record { names = []; updates = 0 };
}
