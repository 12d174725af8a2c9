-- Worked rows: files with all of their plan.
use Rattle.std.specs.Prelude.{ℕ, pos, List, [], ◌∷◌, codes, Some, None}
use Rattle.kt_grammar.specs.declared.operator.BinaryOperator.TheVariants as binary
use Rattle.kt_grammar.specs.declared.keyword.RuleWord.TheVariants as word
use Rattle.kt_grammar.specs.Tree.{RuleValue, Member, Operated}
use Rattle.kt_types.specs.declared.kinds.Ty.TheVariants as ty
use Rattle.kt_types.specs.declared.kinds.View.TheVariants as view
use Rattle.kt_tree.specs.declared.expr.Constant.TheVariants as constant
use Rattle.kt_tree.specs.declared.expr.Operation.TheVariants as operation
use Rattle.kt_tree.specs.declared.expr.Request.TheVariants as request
use Rattle.kt_tree.specs.declared.global.Init.TheVariants as init
use Rattle.kt_tree.specs.Tree.{Expression, Constant', LocalRead, Operated as Computed, Requested, NoMore, More}
use Rattle.kt_typing.specs.Rows.{name, number}
use Rattle.xf_plan.specs.Bodies as given
use Rattle.xf_plan.specs.Plan.{Plan, OldField, FieldBody, OldGlobal}
use Rattle.xf_syntax.specs.declared.tree.Target.TheVariants as target
use Rattle.xf_syntax.specs.declared.tree.Side.TheVariants as side
use Rattle.xf_syntax.specs.Tree.{Rule, Started, Moved, Assigned}
use Rattle.xf_rules.specs.Examples.{nodes, aged_nodes, kept, kept_longer}
use Rattle.xf_rules.specs.Fragments.{struct, body}

-- INIT struct node.age: { $out = 10 + $base.v; }
abbrev pub age_rule : List Rule
age_rule = (Started (target.Field (struct 5 (name 12 (codes "node"))) (name 17 (codes "age"))) (body 22 45 ((Assigned (RuleValue 24 word.Out) (Operated binary.Add (number 31 10) (Member (RuleValue 36 word.Base) (name 42 (codes "v"))))) ∷ [])) ∷ [])

-- an `int` as code has it
abbrev pub int : ℕ → Expression
int n = Constant' (constant.Number (pos n)) 1

-- from nodes to aged nodes: a new field by its body, all else from the things of the same names
abbrev pub aging : Plan
aging = record {
  -- `char *` is behind the old version's own types
  old = record nodes.types { types = ty.Char ∷ ty.Int ∷ ty.Long ∷ ty.Mutex ∷ ty.Ptr 1 ∷ ty.Struct 0 ∷ ty.Ptr 5 ∷ ty.Ptr 6 ∷ ty.Ptr 0 ∷ [] };
  new = aged_nodes.types;
  structs = (0, 0) ∷ [];
  globals =
      record { ty = 6; count = 1; view = view.One; init = init.Zero; source = OldGlobal 0 6 1 }
      ∷ record { ty = 6; count = 1; view = view.One; init = init.Zero; source = OldGlobal 1 6 1 } ∷ [];
  fields =
      record { struct = 0; ty = 1; view = view.One; source = OldField 0 }
      ∷ record {
        struct = 0;
        ty = 1;
        view = view.One;
        source = FieldBody None (given.Then (given.Assigned (given.Number
            (Computed operation.Add 1 (More (int 10) (More (Requested request.Load (Some 1) (More (Computed (operation.Field 0 0) 4 (More (LocalRead 1) NoMore)) NoMore)) NoMore)))))
            given.Done);
      }
      ∷ record { struct = 0; ty = 6; view = view.One; source = OldField 1 } ∷ [];
  locals = [];
}

-- f::i -> f::j; f::k -> f::n: { $out = $in * 2; }
abbrev pub kept_rules : List Rule
kept_rules = (Moved (side.Local (name 0 (codes "f")) (name 3 (codes "i"))) (side.Local (name 8 (codes "f")) (name 11 (codes "j"))) None ∷ Moved (side.Local (name 14 (codes "f")) (name 17 (codes "k"))) (side.Local (name 22 (codes "f")) (name 25 (codes "n"))) (body 28 46 ((Assigned (RuleValue 30 word.Out) (Operated binary.Multiply (RuleValue 37 word.In) (number 43 2))) ∷ [])) ∷ [])

-- from the kept local to more of them: two by rules, two from the locals of the same names, one new
abbrev pub keeping : Plan
keeping = record {
  old = record kept.types { types = ty.Char ∷ ty.Int ∷ ty.Long ∷ ty.Mutex ∷ ty.Ptr 0 ∷ [] };
  new = kept_longer.types;
  structs = [];
  globals = [];
  fields = [];
  locals =
      record { function = 1; local = 0; ty = 1; view = view.One; source = Some (record { function = 0; local = 0; body = None }) }
      ∷ record { function = 1; local = 1; ty = 2; view = view.One; source = Some (record { function = 0; local = 1; body = None }) }
      ∷ record { function = 1; local = 2; ty = 1; view = view.One; source = Some (record { function = 0; local = 1; body = None }) }
      ∷ record {
        function = 1;
        local = 3;
        ty = 0;
        view = view.One;
        source = Some (record {
          function = 0;
          local = 0;
          body = Some (given.Then (given.Assigned (given.Number (Computed operation.Multiply 1 (More (LocalRead 0) (More (int 2) NoMore))))) given.Done);
        });
      }
      ∷ record { function = 1; local = 4; ty = 1; view = view.One; source = None } ∷ [];
}
