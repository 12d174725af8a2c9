-- Worked rows between two versions that differ.
use Rattle.std.specs.Prelude.{List, [], ◌∷◌, codes, None}
use Rattle.kt_grammar.specs.declared.operator.BinaryOperator.TheVariants as binary
use Rattle.kt_grammar.specs.declared.keyword.RuleWord.TheVariants as word
use Rattle.kt_grammar.specs.declared.tree.Base.TheVariants as base
use Rattle.kt_grammar.specs.Tree.{Null, RuleValue, Transformed, Member, Pointed, Converted, Operated, Chosen, Parenthesised}
use Rattle.kt_typing.specs.Faults.{unknown, bad_type}
use Rattle.kt_typing.specs.Rows.{name, number, type_name, old}
use Rattle.kt_tree.specs.Version.{Program}
use Rattle.xf_syntax.specs.declared.tree.Target.TheVariants as target
use Rattle.xf_syntax.specs.declared.tree.Side.TheVariants as side
use Rattle.xf_syntax.specs.Tree.{StructsPaired, Started, Moved, Rule, Assigned}
use Rattle.xf_rules.specs.Completion.{GlobalGoal, LocalGoal}
use Rattle.xf_rules.specs.Examples.{nodes, aged_nodes, long_t, int_t, int_a, int_b, array_a, longer_a, int_t_and_u, opened, closed, unused, kept, kept_longer}
use Rattle.xf_rules.specs.Plans.{Refusal, Faulty, NeedsRule}
use Rattle.xf_rules.specs.Fragments.{struct, fresh, body}

-- files that are refused, by the first fault or the first thing that needs a rule
abbrev pub refused_between : List ((Program × Program) × (List Rule × Refusal))
refused_between =
    -- long_t to int_t: an empty file
    ((long_t, int_t), ([], NeedsRule (GlobalGoal 0)))
    -- long_t to int_t_and_u: an empty file
    ∷ ((long_t, int_t_and_u), ([], NeedsRule (GlobalGoal 0)))
    -- int_a to array_a: an empty file
    ∷ ((int_a, array_a), ([], NeedsRule (GlobalGoal 0)))
    -- array_a to int_a: an empty file
    ∷ ((array_a, int_a), ([], NeedsRule (GlobalGoal 0)))
    -- longer_a to array_a: an empty file
    ∷ ((longer_a, array_a), ([], NeedsRule (GlobalGoal 0)))
    -- array_a to int_b: a -> b;
    ∷ ((array_a, int_b), ((Moved (side.Target (target.Global (name 0 (codes "a")))) (side.Target (target.Global (name 5 (codes "b")))) None ∷ []), NeedsRule (GlobalGoal 0)))
    -- opened to closed: an empty file
    ∷ ((opened, closed), ([], NeedsRule (GlobalGoal 0)))
    -- opened to closed: struct A -> struct B;
    ∷ ((opened, closed), ((StructsPaired (struct 0 (name 7 (codes "A"))) (struct 12 (name 19 (codes "B"))) ∷ []), NeedsRule (GlobalGoal 0)))
    -- opened to closed: struct A -> struct A;
    ∷ ((opened, closed), ((StructsPaired (struct 0 (name 7 (codes "A"))) (struct 12 (name 19 (codes "A"))) ∷ []), Faulty (bad_type 12)))
    -- opened to closed: INIT struct A.x;
    ∷ ((opened, closed), ((Started (target.Field (struct 5 (name 12 (codes "A"))) (name 14 (codes "x"))) None ∷ []), Faulty (unknown 14)))
    -- opened to closed: struct A.x -> struct B.z;
    ∷ ((opened, closed), ((Moved (side.Target (target.Field (struct 0 (name 7 (codes "A"))) (name 9 (codes "x")))) (side.Target (target.Field (struct 14 (name 21 (codes "B"))) (name 23 (codes "z")))) None ∷ []), Faulty (bad_type 14)))
    -- opened to closed: struct B -> struct B; INIT struct B.x: {$out = $base.z;}
    ∷ ((opened, closed), ((StructsPaired (struct 0 (name 7 (codes "B"))) (struct 12 (name 19 (codes "B"))) ∷ Started (target.Field (struct 27 (name 34 (codes "B"))) (name 36 (codes "x"))) (body 39 55 ((Assigned (RuleValue 40 word.Out) (Member (RuleValue 47 word.Base) (name 53 (codes "z")))) ∷ [])) ∷ []), Faulty (unknown 53)))
    -- opened to closed: pa -> pb: {$out = $xform($in);}
    ∷ ((opened, closed), ((Moved (side.Target (target.Global (name 0 (codes "pa")))) (side.Target (target.Global (name 6 (codes "pb")))) (body 10 30 ((Assigned (RuleValue 11 word.Out) (Transformed 18 (RuleValue 25 word.In))) ∷ [])) ∷ []), Faulty (bad_type 18)))
    -- opened to closed: INIT pa: {$out = $new(struct A, 1);}
    ∷ ((opened, closed), ((Started (target.Global (name 5 (codes "pa"))) (body 9 35 ((Assigned (RuleValue 10 word.Out) (fresh 17 (type_name (base.Struct (name 29 (codes "A"))) 0) 32 1)) ∷ [])) ∷ []), Faulty (bad_type 29)))
    -- opened to closed: INIT pb: {$out = $new(struct B *, 1);}
    ∷ ((opened, closed), ((Started (target.Global (name 5 (codes "pb"))) (body 9 37 ((Assigned (RuleValue 10 word.Out) (fresh 17 (type_name (base.Struct (name 29 (codes "B"))) 1) 34 1)) ∷ [])) ∷ []), Faulty (bad_type 17)))
    -- opened to closed: INIT pb: {$out = $oldsym(pb)->x;}
    ∷ ((opened, closed), ((Started (target.Global (name 5 (codes "pb"))) (body 9 32 ((Assigned (RuleValue 10 word.Out) (Pointed (old 17 25 (codes "pb")) (name 30 (codes "x")))) ∷ [])) ∷ []), Faulty (unknown 30)))
    -- nodes to aged_nodes: struct node.age -> struct node.age;
    ∷ ((nodes, aged_nodes), ((Moved (side.Target (target.Field (struct 0 (name 7 (codes "node"))) (name 12 (codes "age")))) (side.Target (target.Field (struct 19 (name 26 (codes "node"))) (name 31 (codes "age")))) None ∷ []), Faulty (unknown 12)))
    -- aged_nodes to nodes: INIT struct node.age;
    ∷ ((aged_nodes, nodes), ((Started (target.Field (struct 5 (name 12 (codes "node"))) (name 17 (codes "age"))) None ∷ []), Faulty (unknown 17)))
    -- kept to kept_longer: f::i -> f::n;
    ∷ ((kept, kept_longer), ((Moved (side.Local (name 0 (codes "f")) (name 3 (codes "i"))) (side.Local (name 8 (codes "f")) (name 11 (codes "n"))) None ∷ []), NeedsRule (LocalGoal 1 3)))
    -- kept to kept_longer: f::i -> f::zz;
    ∷ ((kept, kept_longer), ((Moved (side.Local (name 0 (codes "f")) (name 3 (codes "i"))) (side.Local (name 8 (codes "f")) (name 11 (codes "zz"))) None ∷ []), Faulty (unknown 11)))
    -- kept_longer to kept: an empty file
    ∷ ((kept_longer, kept), ([], NeedsRule (LocalGoal 0 1)))
    -- int_a to int_b: b -> b;
    ∷ ((int_a, int_b), ((Moved (side.Target (target.Global (name 0 (codes "b")))) (side.Target (target.Global (name 5 (codes "b")))) None ∷ []), Faulty (unknown 0)))
    -- int_a to int_b: a -> a;
    ∷ ((int_a, int_b), ((Moved (side.Target (target.Global (name 0 (codes "a")))) (side.Target (target.Global (name 5 (codes "a")))) None ∷ []), Faulty (unknown 5)))
    ∷ []

-- files that give a plan
abbrev pub accepted_between : List ((Program × Program) × List Rule)
accepted_between =
    -- long_t to int_t_and_u: t -> u;
    ((long_t, int_t_and_u), (Moved (side.Target (target.Global (name 0 (codes "t")))) (side.Target (target.Global (name 5 (codes "u")))) None ∷ []))
    -- int_t to long_t: an empty file
    ∷ ((int_t, long_t), [])
    -- int_a to int_b: an empty file
    ∷ ((int_a, int_b), [])
    -- array_a to longer_a: an empty file
    ∷ ((array_a, longer_a), [])
    -- int_a to array_a: INIT a;
    ∷ ((int_a, array_a), (Started (target.Global (name 5 (codes "a"))) None ∷ []))
    -- long_t to int_t: t -> t: {$out = (int)$in;}
    ∷ ((long_t, int_t), (Moved (side.Target (target.Global (name 0 (codes "t")))) (side.Target (target.Global (name 5 (codes "t")))) (body 8 25 ((Assigned (RuleValue 9 word.Out) (Converted 16 (type_name base.Int 0) (RuleValue 21 word.In))) ∷ [])) ∷ []))
    -- long_t to int_t: INIT t: {$out = 1;}
    ∷ ((long_t, int_t), (Started (target.Global (name 5 (codes "t"))) (body 8 18 ((Assigned (RuleValue 9 word.Out) (number 16 1)) ∷ [])) ∷ []))
    -- long_t to int_t: INIT t;
    ∷ ((long_t, int_t), (Started (target.Global (name 5 (codes "t"))) None ∷ []))
    -- int_a to int_b: a -> b: {$out = $in * 2;}
    ∷ ((int_a, int_b), (Moved (side.Target (target.Global (name 0 (codes "a")))) (side.Target (target.Global (name 5 (codes "b")))) (body 8 24 ((Assigned (RuleValue 9 word.Out) (Operated binary.Multiply (RuleValue 16 word.In) (number 22 2))) ∷ [])) ∷ []))
    -- opened to closed: struct A -> struct B; pa -> pb; INIT pa;
    ∷ ((opened, closed), (StructsPaired (struct 0 (name 7 (codes "A"))) (struct 12 (name 19 (codes "B"))) ∷ Moved (side.Target (target.Global (name 22 (codes "pa")))) (side.Target (target.Global (name 28 (codes "pb")))) None ∷ Started (target.Global (name 37 (codes "pa"))) None ∷ []))
    -- opened to closed: INIT pa;
    ∷ ((opened, closed), (Started (target.Global (name 5 (codes "pa"))) None ∷ []))
    -- opened to closed: INIT pa; INIT pb: {$out = $new(struct B, 3);}
    ∷ ((opened, closed), (Started (target.Global (name 5 (codes "pa"))) None ∷ Started (target.Global (name 14 (codes "pb"))) (body 18 44 ((Assigned (RuleValue 19 word.Out) (fresh 26 (type_name (base.Struct (name 38 (codes "B"))) 0) 41 3)) ∷ [])) ∷ []))
    -- opened to closed: struct A -> struct B; INIT pa; pa -> pb: {$out = $in ? $xform($in->y) : NULL;}
    ∷ ((opened, closed), (StructsPaired (struct 0 (name 7 (codes "A"))) (struct 12 (name 19 (codes "B"))) ∷ Started (target.Global (name 27 (codes "pa"))) None ∷ Moved (side.Target (target.Global (name 31 (codes "pa")))) (side.Target (target.Global (name 37 (codes "pb")))) (body 41 77 ((Assigned (RuleValue 42 word.Out) (Chosen (RuleValue 49 word.In) (Transformed 55 (Pointed (RuleValue 62 word.In) (name 67 (codes "y")))) (Null 72))) ∷ [])) ∷ []))
    -- unused to unused: INIT struct B.x: {$out = $base.a->k + ($base.a == NULL);}
    ∷ ((unused, unused), (Started (target.Field (struct 5 (name 12 (codes "B"))) (name 14 (codes "x"))) (body 17 56 ((Assigned (RuleValue 18 word.Out) (Operated binary.Add (Pointed (Member (RuleValue 25 word.Base) (name 31 (codes "a"))) (name 34 (codes "k"))) (Parenthesised 38 (Operated binary.Equal (Member (RuleValue 39 word.Base) (name 45 (codes "a"))) (Null 50))))) ∷ [])) ∷ []))
    -- nodes to aged_nodes: an empty file
    ∷ ((nodes, aged_nodes), [])
    -- aged_nodes to nodes: an empty file
    ∷ ((aged_nodes, nodes), [])
    -- kept to kept_longer: f::i -> f::n: {$out = $in;}
    ∷ ((kept, kept_longer), (Moved (side.Local (name 0 (codes "f")) (name 3 (codes "i"))) (side.Local (name 8 (codes "f")) (name 11 (codes "n"))) (body 14 26 ((Assigned (RuleValue 15 word.Out) (RuleValue 22 word.In)) ∷ [])) ∷ []))
    ∷ []
