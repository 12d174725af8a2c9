-- Worked rows of names, sides and things that stand twice, and of things that need a rule; both versions are the wide one.
use Rattle.std.specs.Prelude.{List, [], ◌∷◌, codes, None}
use Rattle.kt_typing.specs.declared.fault.Kind.TheVariants as kind
use Rattle.kt_typing.specs.Faults.{fault_at, unknown, bad_type}
use Rattle.kt_typing.specs.Rows.{name}
use Rattle.xf_syntax.specs.declared.tree.Target.TheVariants as target
use Rattle.xf_syntax.specs.declared.tree.Side.TheVariants as side
use Rattle.xf_syntax.specs.Tree.{StructsPaired, Started, Moved, Rule}
use Rattle.xf_rules.specs.Completion.{FieldGoal, GlobalGoal, LocalGoal}
use Rattle.xf_rules.specs.Plans.{Refusal, Faulty, NeedsRule}
use Rattle.xf_rules.specs.Fragments.{struct}

-- the first fault of each file
abbrev pub refused_sides : List (List Rule × Refusal)
refused_sides =
    -- zz -> g;
    ((Moved (side.Target (target.Global (name 0 (codes "zz")))) (side.Target (target.Global (name 6 (codes "g")))) None ∷ []), Faulty (unknown 0))
    -- g -> zz;
    ∷ ((Moved (side.Target (target.Global (name 0 (codes "g")))) (side.Target (target.Global (name 5 (codes "zz")))) None ∷ []), Faulty (unknown 5))
    -- main -> g;
    ∷ ((Moved (side.Target (target.Global (name 0 (codes "main")))) (side.Target (target.Global (name 8 (codes "g")))) None ∷ []), Faulty (unknown 0))
    -- g -> f::q;
    ∷ ((Moved (side.Target (target.Global (name 0 (codes "g")))) (side.Local (name 5 (codes "f")) (name 8 (codes "q"))) None ∷ []), Faulty (bad_type 5))
    -- f::q -> f::q; f::r -> f::q;
    ∷ ((Moved (side.Local (name 0 (codes "f")) (name 3 (codes "q"))) (side.Local (name 8 (codes "f")) (name 11 (codes "q"))) None ∷ Moved (side.Local (name 14 (codes "f")) (name 17 (codes "r"))) (side.Local (name 22 (codes "f")) (name 25 (codes "q"))) None ∷ []), Faulty (fault_at kind.Twice 22))
    -- f::zz -> f::q;
    ∷ ((Moved (side.Local (name 0 (codes "f")) (name 3 (codes "zz"))) (side.Local (name 9 (codes "f")) (name 12 (codes "q"))) None ∷ []), Faulty (unknown 3))
    -- h::q -> h::q;
    ∷ ((Moved (side.Local (name 0 (codes "h")) (name 3 (codes "q"))) (side.Local (name 8 (codes "h")) (name 11 (codes "q"))) None ∷ []), Faulty (bad_type 8))
    -- f::q -> h::q;
    ∷ ((Moved (side.Local (name 0 (codes "f")) (name 3 (codes "q"))) (side.Local (name 8 (codes "h")) (name 11 (codes "q"))) None ∷ []), Faulty (bad_type 8))
    -- struct S.v -> struct T.k;
    ∷ ((Moved (side.Target (target.Field (struct 0 (name 7 (codes "S"))) (name 9 (codes "v")))) (side.Target (target.Field (struct 14 (name 21 (codes "T"))) (name 23 (codes "k")))) None ∷ []), Faulty (bad_type 14))
    -- struct S.v -> struct Z.k;
    ∷ ((Moved (side.Target (target.Field (struct 0 (name 7 (codes "S"))) (name 9 (codes "v")))) (side.Target (target.Field (struct 14 (name 21 (codes "Z"))) (name 23 (codes "k")))) None ∷ []), Faulty (unknown 21))
    -- struct Z.v -> struct S.v;
    ∷ ((Moved (side.Target (target.Field (struct 0 (name 7 (codes "Z"))) (name 9 (codes "v")))) (side.Target (target.Field (struct 14 (name 21 (codes "S"))) (name 23 (codes "v")))) None ∷ []), Faulty (unknown 7))
    -- struct S.v -> struct S.zz;
    ∷ ((Moved (side.Target (target.Field (struct 0 (name 7 (codes "S"))) (name 9 (codes "v")))) (side.Target (target.Field (struct 14 (name 21 (codes "S"))) (name 23 (codes "zz")))) None ∷ []), Faulty (unknown 23))
    -- struct S.v -> g;
    ∷ ((Moved (side.Target (target.Field (struct 0 (name 7 (codes "S"))) (name 9 (codes "v")))) (side.Target (target.Global (name 14 (codes "g")))) None ∷ []), Faulty (bad_type 14))
    -- g -> struct S.v;
    ∷ ((Moved (side.Target (target.Global (name 0 (codes "g")))) (side.Target (target.Field (struct 5 (name 12 (codes "S"))) (name 14 (codes "v")))) None ∷ []), Faulty (bad_type 5))
    -- g -> struct Z.v;
    ∷ ((Moved (side.Target (target.Global (name 0 (codes "g")))) (side.Target (target.Field (struct 5 (name 12 (codes "Z"))) (name 14 (codes "v")))) None ∷ []), Faulty (bad_type 5))
    -- struct S -> struct Z;
    ∷ ((StructsPaired (struct 0 (name 7 (codes "S"))) (struct 12 (name 19 (codes "Z"))) ∷ []), Faulty (unknown 19))
    -- struct Z -> struct S;
    ∷ ((StructsPaired (struct 0 (name 7 (codes "Z"))) (struct 12 (name 19 (codes "S"))) ∷ []), Faulty (unknown 7))
    -- struct S -> struct T; struct S -> struct S;
    ∷ ((StructsPaired (struct 0 (name 7 (codes "S"))) (struct 12 (name 19 (codes "T"))) ∷ StructsPaired (struct 22 (name 29 (codes "S"))) (struct 34 (name 41 (codes "S"))) ∷ []), Faulty (fault_at kind.Twice 22))
    -- g -> g; g -> g;
    ∷ ((Moved (side.Target (target.Global (name 0 (codes "g")))) (side.Target (target.Global (name 5 (codes "g")))) None ∷ Moved (side.Target (target.Global (name 8 (codes "g")))) (side.Target (target.Global (name 13 (codes "g")))) None ∷ []), Faulty (fault_at kind.Twice 8))
    -- g -> g; g -> gl;
    ∷ ((Moved (side.Target (target.Global (name 0 (codes "g")))) (side.Target (target.Global (name 5 (codes "g")))) None ∷ Moved (side.Target (target.Global (name 8 (codes "g")))) (side.Target (target.Global (name 13 (codes "gl")))) None ∷ []), Faulty (fault_at kind.Twice 8))
    -- INIT struct Z.x;
    ∷ ((Started (target.Field (struct 5 (name 12 (codes "Z"))) (name 14 (codes "x"))) None ∷ []), Faulty (unknown 12))
    -- struct T -> struct U;
    ∷ ((StructsPaired (struct 0 (name 7 (codes "T"))) (struct 12 (name 19 (codes "U"))) ∷ []), Faulty (bad_type 12))
    -- INIT g; gl -> g;
    ∷ ((Started (target.Global (name 5 (codes "g"))) None ∷ Moved (side.Target (target.Global (name 8 (codes "gl")))) (side.Target (target.Global (name 14 (codes "g")))) None ∷ []), Faulty (fault_at kind.Twice 14))
    -- gl -> g; INIT g;
    ∷ ((Moved (side.Target (target.Global (name 0 (codes "gl")))) (side.Target (target.Global (name 6 (codes "g")))) None ∷ Started (target.Global (name 14 (codes "g"))) None ∷ []), Faulty (fault_at kind.Twice 14))
    -- INIT struct S.v; struct S.v -> struct S.v;
    ∷ ((Started (target.Field (struct 5 (name 12 (codes "S"))) (name 14 (codes "v"))) None ∷ Moved (side.Target (target.Field (struct 17 (name 24 (codes "S"))) (name 26 (codes "v")))) (side.Target (target.Field (struct 31 (name 38 (codes "S"))) (name 40 (codes "v")))) None ∷ []), Faulty (fault_at kind.Twice 31))
    -- struct S -> struct S; struct S.v -> struct S.v; INIT struct S.v;
    ∷ ((StructsPaired (struct 0 (name 7 (codes "S"))) (struct 12 (name 19 (codes "S"))) ∷ Moved (side.Target (target.Field (struct 22 (name 29 (codes "S"))) (name 31 (codes "v")))) (side.Target (target.Field (struct 36 (name 43 (codes "S"))) (name 45 (codes "v")))) None ∷ Started (target.Field (struct 53 (name 60 (codes "S"))) (name 62 (codes "v"))) None ∷ []), Faulty (fault_at kind.Twice 53))
    -- g -> g; f::q -> f::q; f::q -> f::r; g -> gl;
    ∷ ((Moved (side.Target (target.Global (name 0 (codes "g")))) (side.Target (target.Global (name 5 (codes "g")))) None ∷ Moved (side.Local (name 8 (codes "f")) (name 11 (codes "q"))) (side.Local (name 16 (codes "f")) (name 19 (codes "q"))) None ∷ Moved (side.Local (name 22 (codes "f")) (name 25 (codes "q"))) (side.Local (name 30 (codes "f")) (name 33 (codes "r"))) None ∷ Moved (side.Target (target.Global (name 36 (codes "g")))) (side.Target (target.Global (name 41 (codes "gl")))) None ∷ []), Faulty (fault_at kind.Twice 36))
    -- struct T -> struct S; struct S.v -> struct S.v;
    ∷ ((StructsPaired (struct 0 (name 7 (codes "T"))) (struct 12 (name 19 (codes "S"))) ∷ Moved (side.Target (target.Field (struct 22 (name 29 (codes "S"))) (name 31 (codes "v")))) (side.Target (target.Field (struct 36 (name 43 (codes "S"))) (name 45 (codes "v")))) None ∷ []), Faulty (bad_type 36))
    -- struct S.v -> f::q;
    ∷ ((Moved (side.Target (target.Field (struct 0 (name 7 (codes "S"))) (name 9 (codes "v")))) (side.Local (name 14 (codes "f")) (name 17 (codes "q"))) None ∷ []), Faulty (bad_type 14))
    -- f::q -> struct S.v;
    ∷ ((Moved (side.Local (name 0 (codes "f")) (name 3 (codes "q"))) (side.Target (target.Field (struct 8 (name 15 (codes "S"))) (name 17 (codes "v")))) None ∷ []), Faulty (bad_type 8))
    -- zz::q -> f::q;
    ∷ ((Moved (side.Local (name 0 (codes "zz")) (name 4 (codes "q"))) (side.Local (name 9 (codes "f")) (name 12 (codes "q"))) None ∷ []), Faulty (unknown 0))
    -- f::q -> zz::q;
    ∷ ((Moved (side.Local (name 0 (codes "f")) (name 3 (codes "q"))) (side.Local (name 8 (codes "zz")) (name 12 (codes "q"))) None ∷ []), Faulty (unknown 8))
    -- f::q -> h::zz;
    ∷ ((Moved (side.Local (name 0 (codes "f")) (name 3 (codes "q"))) (side.Local (name 8 (codes "h")) (name 11 (codes "zz"))) None ∷ []), Faulty (bad_type 8))
    -- zz -> f::q;
    ∷ ((Moved (side.Target (target.Global (name 0 (codes "zz")))) (side.Local (name 6 (codes "f")) (name 9 (codes "q"))) None ∷ []), Faulty (unknown 0))
    -- INIT struct U.x;
    ∷ ((Started (target.Field (struct 5 (name 12 (codes "U"))) (name 14 (codes "x"))) None ∷ []), Faulty (unknown 14))
    -- gl -> g; g -> zz;
    ∷ ((Moved (side.Target (target.Global (name 0 (codes "gl")))) (side.Target (target.Global (name 6 (codes "g")))) None ∷ Moved (side.Target (target.Global (name 9 (codes "g")))) (side.Target (target.Global (name 14 (codes "zz")))) None ∷ []), Faulty (unknown 14))
    ∷ []

-- files without a fault, by which something needs a rule
abbrev pub needing : List (List Rule × Refusal)
needing =
    -- gl -> g;
    ((Moved (side.Target (target.Global (name 0 (codes "gl")))) (side.Target (target.Global (name 6 (codes "g")))) None ∷ []), NeedsRule (GlobalGoal 0))
    -- f::z -> f::r;
    ∷ ((Moved (side.Local (name 0 (codes "f")) (name 3 (codes "z"))) (side.Local (name 8 (codes "f")) (name 11 (codes "r"))) None ∷ []), NeedsRule (LocalGoal 0 1))
    -- struct S -> struct T; struct T -> struct S;
    ∷ ((StructsPaired (struct 0 (name 7 (codes "S"))) (struct 12 (name 19 (codes "T"))) ∷ StructsPaired (struct 22 (name 29 (codes "T"))) (struct 34 (name 41 (codes "S"))) ∷ []), NeedsRule (GlobalGoal 4))
    -- struct S.a -> struct S.v;
    ∷ ((Moved (side.Target (target.Field (struct 0 (name 7 (codes "S"))) (name 9 (codes "a")))) (side.Target (target.Field (struct 14 (name 21 (codes "S"))) (name 23 (codes "v")))) None ∷ []), NeedsRule (FieldGoal 0 0))
    -- struct S.v -> struct S.a;
    ∷ ((Moved (side.Target (target.Field (struct 0 (name 7 (codes "S"))) (name 9 (codes "v")))) (side.Target (target.Field (struct 14 (name 21 (codes "S"))) (name 23 (codes "a")))) None ∷ []), NeedsRule (FieldGoal 0 5))
    -- st -> g;
    ∷ ((Moved (side.Target (target.Global (name 0 (codes "st")))) (side.Target (target.Global (name 6 (codes "g")))) None ∷ []), NeedsRule (GlobalGoal 0))
    -- ps -> gp;
    ∷ ((Moved (side.Target (target.Global (name 0 (codes "ps")))) (side.Target (target.Global (name 6 (codes "gp")))) None ∷ []), NeedsRule (GlobalGoal 3))
    -- struct S.next -> struct S.t;
    ∷ ((Moved (side.Target (target.Field (struct 0 (name 7 (codes "S"))) (name 9 (codes "next")))) (side.Target (target.Field (struct 17 (name 24 (codes "S"))) (name 26 (codes "t")))) None ∷ []), NeedsRule (FieldGoal 0 6))
    -- g -> gc;
    ∷ ((Moved (side.Target (target.Global (name 0 (codes "g")))) (side.Target (target.Global (name 5 (codes "gc")))) None ∷ []), NeedsRule (GlobalGoal 2))
    -- ar -> g;
    ∷ ((Moved (side.Target (target.Global (name 0 (codes "ar")))) (side.Target (target.Global (name 6 (codes "g")))) None ∷ []), NeedsRule (GlobalGoal 0))
    -- g -> ar;
    ∷ ((Moved (side.Target (target.Global (name 0 (codes "g")))) (side.Target (target.Global (name 5 (codes "ar")))) None ∷ []), NeedsRule (GlobalGoal 7))
    -- tx -> gp;
    ∷ ((Moved (side.Target (target.Global (name 0 (codes "tx")))) (side.Target (target.Global (name 6 (codes "gp")))) None ∷ []), NeedsRule (GlobalGoal 3))
    -- struct S.l -> struct S.v;
    ∷ ((Moved (side.Target (target.Field (struct 0 (name 7 (codes "S"))) (name 9 (codes "l")))) (side.Target (target.Field (struct 14 (name 21 (codes "S"))) (name 23 (codes "v")))) None ∷ []), NeedsRule (FieldGoal 0 0))
    -- f::z -> f::r; gl -> g; struct S.l -> struct S.v;
    ∷ ((Moved (side.Local (name 0 (codes "f")) (name 3 (codes "z"))) (side.Local (name 8 (codes "f")) (name 11 (codes "r"))) None ∷ Moved (side.Target (target.Global (name 14 (codes "gl")))) (side.Target (target.Global (name 20 (codes "g")))) None ∷ Moved (side.Target (target.Field (struct 23 (name 30 (codes "S"))) (name 32 (codes "l")))) (side.Target (target.Field (struct 37 (name 44 (codes "S"))) (name 46 (codes "v")))) None ∷ []), NeedsRule (FieldGoal 0 0))
    -- f::z -> f::r; gl -> g;
    ∷ ((Moved (side.Local (name 0 (codes "f")) (name 3 (codes "z"))) (side.Local (name 8 (codes "f")) (name 11 (codes "r"))) None ∷ Moved (side.Target (target.Global (name 14 (codes "gl")))) (side.Target (target.Global (name 20 (codes "g")))) None ∷ []), NeedsRule (GlobalGoal 0))
    -- struct S -> struct T;
    ∷ ((StructsPaired (struct 0 (name 7 (codes "S"))) (struct 12 (name 19 (codes "T"))) ∷ []), NeedsRule (GlobalGoal 4))
    -- struct U -> struct T;
    ∷ ((StructsPaired (struct 0 (name 7 (codes "U"))) (struct 12 (name 19 (codes "T"))) ∷ []), NeedsRule (FieldGoal 0 6))
    ∷ []
