-- Worked rows of bodies; both versions are the wide one.
use Rattle.std.specs.Prelude.{List, [], ◌∷◌, codes}
use Rattle.kt_grammar.specs.declared.operator.BinaryOperator.TheVariants as binary
use Rattle.kt_grammar.specs.declared.operator.PrefixOperator.TheVariants as prefix
use Rattle.kt_grammar.specs.declared.keyword.RuleWord.TheVariants as word
use Rattle.kt_grammar.specs.declared.tree.Base.TheVariants as base
use Rattle.kt_grammar.specs.Tree.{Null, RuleValue, Transformed, Member, Pointed, Prefixed, Converted, Operated, Chosen, Parenthesised}
use Rattle.kt_typing.specs.declared.fault.Kind.TheVariants as kind
use Rattle.kt_typing.specs.Faults.{fault_at, unknown, bad_type}
use Rattle.kt_typing.specs.Rows.{name, named, number, type_name, old}
use Rattle.xf_syntax.specs.declared.tree.Target.TheVariants as target
use Rattle.xf_syntax.specs.declared.tree.Side.TheVariants as side
use Rattle.xf_syntax.specs.Tree.{StructsPaired, Started, Moved, Rule, Empty, Conditional, Alternative, Assigned}
use Rattle.xf_rules.specs.Plans.{Refusal, Faulty}
use Rattle.xf_rules.specs.Fragments.{struct, fresh, body}

-- the first fault of each file
abbrev pub refused_bodies : List (List Rule × Refusal)
refused_bodies =
    -- INIT ar: { }
    ((Started (target.Global (name 5 (codes "ar"))) (body 9 11 []) ∷ []), Faulty (bad_type 5))
    -- INIT lk: {}
    ∷ ((Started (target.Global (name 5 (codes "lk"))) (body 9 10 []) ∷ []), Faulty (bad_type 5))
    -- INIT g: { $out = $in; }
    ∷ ((Started (target.Global (name 5 (codes "g"))) (body 8 22 ((Assigned (RuleValue 10 word.Out) (RuleValue 17 word.In)) ∷ [])) ∷ []), Faulty (unknown 17))
    -- INIT g: { $out = $base.v; }
    ∷ ((Started (target.Global (name 5 (codes "g"))) (body 8 26 ((Assigned (RuleValue 10 word.Out) (Member (RuleValue 17 word.Base) (name 23 (codes "v")))) ∷ [])) ∷ []), Faulty (unknown 17))
    -- g -> g: { $out = $base; }
    ∷ ((Moved (side.Target (target.Global (name 0 (codes "g")))) (side.Target (target.Global (name 5 (codes "g")))) (body 8 24 ((Assigned (RuleValue 10 word.Out) (RuleValue 17 word.Base)) ∷ [])) ∷ []), Faulty (unknown 17))
    -- g -> g: { g = 1; }
    ∷ ((Moved (side.Target (target.Global (name 0 (codes "g")))) (side.Target (target.Global (name 5 (codes "g")))) (body 8 17 ((Assigned (named 10 (codes "g")) (number 14 1)) ∷ [])) ∷ []), Faulty (unknown 10))
    -- g -> g: { $out = g; }
    ∷ ((Moved (side.Target (target.Global (name 0 (codes "g")))) (side.Target (target.Global (name 5 (codes "g")))) (body 8 20 ((Assigned (RuleValue 10 word.Out) (named 17 (codes "g"))) ∷ [])) ∷ []), Faulty (unknown 17))
    -- g -> g: {$out = $out;}
    ∷ ((Moved (side.Target (target.Global (name 0 (codes "g")))) (side.Target (target.Global (name 5 (codes "g")))) (body 8 21 ((Assigned (RuleValue 9 word.Out) (RuleValue 16 word.Out)) ∷ [])) ∷ []), Faulty (bad_type 16))
    -- g -> g: {$out = 1 + $out;}
    ∷ ((Moved (side.Target (target.Global (name 0 (codes "g")))) (side.Target (target.Global (name 5 (codes "g")))) (body 8 25 ((Assigned (RuleValue 9 word.Out) (Operated binary.Add (number 16 1) (RuleValue 20 word.Out))) ∷ [])) ∷ []), Faulty (bad_type 20))
    -- g -> g: {$out = NULL;}
    ∷ ((Moved (side.Target (target.Global (name 0 (codes "g")))) (side.Target (target.Global (name 5 (codes "g")))) (body 8 21 ((Assigned (RuleValue 9 word.Out) (Null 16)) ∷ [])) ∷ []), Faulty (bad_type 16))
    -- g -> g: {$out = $oldsym(zz);}
    ∷ ((Moved (side.Target (target.Global (name 0 (codes "g")))) (side.Target (target.Global (name 5 (codes "g")))) (body 8 28 ((Assigned (RuleValue 9 word.Out) (old 16 24 (codes "zz"))) ∷ [])) ∷ []), Faulty (unknown 24))
    -- g -> g: {$out = $oldsym(ps)->zz;}
    ∷ ((Moved (side.Target (target.Global (name 0 (codes "g")))) (side.Target (target.Global (name 5 (codes "g")))) (body 8 32 ((Assigned (RuleValue 9 word.Out) (Pointed (old 16 24 (codes "ps")) (name 29 (codes "zz")))) ∷ [])) ∷ []), Faulty (unknown 29))
    -- g -> g: {$out = $oldsym(lk);}
    ∷ ((Moved (side.Target (target.Global (name 0 (codes "g")))) (side.Target (target.Global (name 5 (codes "g")))) (body 8 28 ((Assigned (RuleValue 9 word.Out) (old 16 24 (codes "lk"))) ∷ [])) ∷ []), Faulty (bad_type 16))
    -- g -> g: {if ($oldsym(st)) $out = 1;}
    ∷ ((Moved (side.Target (target.Global (name 0 (codes "g")))) (side.Target (target.Global (name 5 (codes "g")))) (body 8 35 ((Conditional (old 13 21 (codes "st")) (Assigned (RuleValue 26 word.Out) (number 33 1))) ∷ [])) ∷ []), Faulty (bad_type 13))
    -- st -> g: {$out = $in;}
    ∷ ((Moved (side.Target (target.Global (name 0 (codes "st")))) (side.Target (target.Global (name 6 (codes "g")))) (body 9 21 ((Assigned (RuleValue 10 word.Out) (RuleValue 17 word.In)) ∷ [])) ∷ []), Faulty (bad_type 17))
    -- ar -> g: {$out = $in;}
    ∷ ((Moved (side.Target (target.Global (name 0 (codes "ar")))) (side.Target (target.Global (name 6 (codes "g")))) (body 9 21 ((Assigned (RuleValue 10 word.Out) (RuleValue 17 word.In)) ∷ [])) ∷ []), Faulty (bad_type 17))
    -- ps -> ps: {$out = 0;}
    ∷ ((Moved (side.Target (target.Global (name 0 (codes "ps")))) (side.Target (target.Global (name 6 (codes "ps")))) (body 10 20 ((Assigned (RuleValue 11 word.Out) (number 18 0)) ∷ [])) ∷ []), Faulty (bad_type 18))
    -- ps -> ps: {$out = $in;}
    ∷ ((Moved (side.Target (target.Global (name 0 (codes "ps")))) (side.Target (target.Global (name 6 (codes "ps")))) (body 10 22 ((Assigned (RuleValue 11 word.Out) (RuleValue 18 word.In)) ∷ [])) ∷ []), Faulty (bad_type 18))
    -- ps -> ps: {$out = $xform($in->v);}
    ∷ ((Moved (side.Target (target.Global (name 0 (codes "ps")))) (side.Target (target.Global (name 6 (codes "ps")))) (body 10 33 ((Assigned (RuleValue 11 word.Out) (Transformed 18 (Pointed (RuleValue 25 word.In) (name 30 (codes "v"))))) ∷ [])) ∷ []), Faulty (bad_type 18))
    -- ps -> ps: {$out = $xform(NULL);}
    ∷ ((Moved (side.Target (target.Global (name 0 (codes "ps")))) (side.Target (target.Global (name 6 (codes "ps")))) (body 10 31 ((Assigned (RuleValue 11 word.Out) (Transformed 18 (Null 25))) ∷ [])) ∷ []), Faulty (bad_type 18))
    -- g -> g: {$out = $xform($oldsym(ps));}
    ∷ ((Moved (side.Target (target.Global (name 0 (codes "g")))) (side.Target (target.Global (name 5 (codes "g")))) (body 8 36 ((Assigned (RuleValue 9 word.Out) (Transformed 16 (old 23 31 (codes "ps")))) ∷ [])) ∷ []), Faulty (bad_type 16))
    -- ps -> ps: {$out = $xform($xform($in));}
    ∷ ((Moved (side.Target (target.Global (name 0 (codes "ps")))) (side.Target (target.Global (name 6 (codes "ps")))) (body 10 38 ((Assigned (RuleValue 11 word.Out) (Transformed 18 (Transformed 25 (RuleValue 32 word.In)))) ∷ [])) ∷ []), Faulty (bad_type 25))
    -- ps -> ps: {$out = $new(struct T, 1);}
    ∷ ((Moved (side.Target (target.Global (name 0 (codes "ps")))) (side.Target (target.Global (name 6 (codes "ps")))) (body 10 36 ((Assigned (RuleValue 11 word.Out) (fresh 18 (type_name (base.Struct (name 30 (codes "T"))) 0) 33 1)) ∷ [])) ∷ []), Faulty (bad_type 18))
    -- ps -> ps: {$out = $new(struct U, 1);}
    ∷ ((Moved (side.Target (target.Global (name 0 (codes "ps")))) (side.Target (target.Global (name 6 (codes "ps")))) (body 10 36 ((Assigned (RuleValue 11 word.Out) (fresh 18 (type_name (base.Struct (name 30 (codes "U"))) 0) 33 1)) ∷ [])) ∷ []), Faulty (bad_type 30))
    -- ps -> ps: {$out = $new(struct S, 0);}
    ∷ ((Moved (side.Target (target.Global (name 0 (codes "ps")))) (side.Target (target.Global (name 6 (codes "ps")))) (body 10 36 ((Assigned (RuleValue 11 word.Out) (fresh 18 (type_name (base.Struct (name 30 (codes "S"))) 0) 33 0)) ∷ [])) ∷ []), Faulty (bad_type 33))
    -- ps -> ps: {$out = $new(struct S, 65537);}
    ∷ ((Moved (side.Target (target.Global (name 0 (codes "ps")))) (side.Target (target.Global (name 6 (codes "ps")))) (body 10 40 ((Assigned (RuleValue 11 word.Out) (fresh 18 (type_name (base.Struct (name 30 (codes "S"))) 0) 33 65537)) ∷ [])) ∷ []), Faulty (bad_type 33))
    -- ps -> ps: {$out = $new(int, 1);}
    ∷ ((Moved (side.Target (target.Global (name 0 (codes "ps")))) (side.Target (target.Global (name 6 (codes "ps")))) (body 10 31 ((Assigned (RuleValue 11 word.Out) (fresh 18 (type_name base.Int 0) 28 1)) ∷ [])) ∷ []), Faulty (bad_type 18))
    -- INIT struct S.v: {$out = $base;}
    ∷ ((Started (target.Field (struct 5 (name 12 (codes "S"))) (name 14 (codes "v"))) (body 17 31 ((Assigned (RuleValue 18 word.Out) (RuleValue 25 word.Base)) ∷ [])) ∷ []), Faulty (bad_type 25))
    -- struct S.m -> struct S.v: {$out = $in;}
    ∷ ((Moved (side.Target (target.Field (struct 0 (name 7 (codes "S"))) (name 9 (codes "m")))) (side.Target (target.Field (struct 14 (name 21 (codes "S"))) (name 23 (codes "v")))) (body 26 38 ((Assigned (RuleValue 27 word.Out) (RuleValue 34 word.In)) ∷ [])) ∷ []), Faulty (bad_type 34))
    -- f::q -> f::r: {$out = $base.v;}
    ∷ ((Moved (side.Local (name 0 (codes "f")) (name 3 (codes "q"))) (side.Local (name 8 (codes "f")) (name 11 (codes "r"))) (body 14 30 ((Assigned (RuleValue 15 word.Out) (Member (RuleValue 22 word.Base) (name 28 (codes "v")))) ∷ [])) ∷ []), Faulty (unknown 22))
    -- g -> g: {$out = (int*)$in;}
    ∷ ((Moved (side.Target (target.Global (name 0 (codes "g")))) (side.Target (target.Global (name 5 (codes "g")))) (body 8 26 ((Assigned (RuleValue 9 word.Out) (Converted 16 (type_name base.Int 1) (RuleValue 22 word.In))) ∷ [])) ∷ []), Faulty (bad_type 16))
    -- g -> g: { $in.x = 1;}
    ∷ ((Moved (side.Target (target.Global (name 0 (codes "g")))) (side.Target (target.Global (name 5 (codes "g")))) (body 8 20 ((Assigned (Member (RuleValue 10 word.In) (name 14 (codes "x"))) (number 18 1)) ∷ [])) ∷ []), Faulty (bad_type 10))
    -- INIT zz: { $out = yy; }
    ∷ ((Started (target.Global (name 5 (codes "zz"))) (body 9 22 ((Assigned (RuleValue 11 word.Out) (named 18 (codes "yy"))) ∷ [])) ∷ []), Faulty (unknown 5))
    -- g -> g: {$out = $in->x;}
    ∷ ((Moved (side.Target (target.Global (name 0 (codes "g")))) (side.Target (target.Global (name 5 (codes "g")))) (body 8 23 ((Assigned (RuleValue 9 word.Out) (Pointed (RuleValue 16 word.In) (name 21 (codes "x")))) ∷ [])) ∷ []), Faulty (bad_type 16))
    -- g -> g: {$out = $in.x;}
    ∷ ((Moved (side.Target (target.Global (name 0 (codes "g")))) (side.Target (target.Global (name 5 (codes "g")))) (body 8 22 ((Assigned (RuleValue 9 word.Out) (Member (RuleValue 16 word.In) (name 20 (codes "x")))) ∷ [])) ∷ []), Faulty (bad_type 16))
    -- g -> g: {$out = $oldsym(lk).x;}
    ∷ ((Moved (side.Target (target.Global (name 0 (codes "g")))) (side.Target (target.Global (name 5 (codes "g")))) (body 8 30 ((Assigned (RuleValue 9 word.Out) (Member (old 16 24 (codes "lk")) (name 28 (codes "x")))) ∷ [])) ∷ []), Faulty (bad_type 16))
    -- g -> g: {$out = -$oldsym(ps);}
    ∷ ((Moved (side.Target (target.Global (name 0 (codes "g")))) (side.Target (target.Global (name 5 (codes "g")))) (body 8 29 ((Assigned (RuleValue 9 word.Out) (Prefixed 16 prefix.Negate (old 17 25 (codes "ps")))) ∷ [])) ∷ []), Faulty (bad_type 16))
    -- g -> g: {$out = $oldsym(gp) * 2;}
    ∷ ((Moved (side.Target (target.Global (name 0 (codes "g")))) (side.Target (target.Global (name 5 (codes "g")))) (body 8 32 ((Assigned (RuleValue 9 word.Out) (Operated binary.Multiply (old 16 24 (codes "gp")) (number 30 2))) ∷ [])) ∷ []), Faulty (bad_type 16))
    -- g -> g: {$out = *$in;}
    ∷ ((Moved (side.Target (target.Global (name 0 (codes "g")))) (side.Target (target.Global (name 5 (codes "g")))) (body 8 21 ((Assigned (RuleValue 9 word.Out) (Prefixed 16 prefix.Dereference (RuleValue 17 word.In))) ∷ [])) ∷ []), Faulty (bad_type 16))
    -- g -> g: {$out = $oldsym(ps) == $oldsym(gp);}
    ∷ ((Moved (side.Target (target.Global (name 0 (codes "g")))) (side.Target (target.Global (name 5 (codes "g")))) (body 8 43 ((Assigned (RuleValue 9 word.Out) (Operated binary.Equal (old 16 24 (codes "ps")) (old 31 39 (codes "gp")))) ∷ [])) ∷ []), Faulty (bad_type 16))
    -- g -> g: {$xform($in) = 1;}
    ∷ ((Moved (side.Target (target.Global (name 0 (codes "g")))) (side.Target (target.Global (name 5 (codes "g")))) (body 8 25 ((Assigned (Transformed 9 (RuleValue 16 word.In)) (number 23 1)) ∷ [])) ∷ []), Faulty (bad_type 9))
    -- g -> g: {1 = 1;}
    ∷ ((Moved (side.Target (target.Global (name 0 (codes "g")))) (side.Target (target.Global (name 5 (codes "g")))) (body 8 15 ((Assigned (number 9 1) (number 13 1)) ∷ [])) ∷ []), Faulty (fault_at kind.WritesIn 9))
    -- ps -> ps: {$out = $xform($in) ? NULL : NULL;}
    ∷ ((Moved (side.Target (target.Global (name 0 (codes "ps")))) (side.Target (target.Global (name 6 (codes "ps")))) (body 10 44 ((Assigned (RuleValue 11 word.Out) (Chosen (Transformed 18 (RuleValue 25 word.In)) (Null 32) (Null 39))) ∷ [])) ∷ []), Faulty (bad_type 18))
    -- ps -> ps: {$out = 1 + $xform($in);}
    ∷ ((Moved (side.Target (target.Global (name 0 (codes "ps")))) (side.Target (target.Global (name 6 (codes "ps")))) (body 10 34 ((Assigned (RuleValue 11 word.Out) (Operated binary.Add (number 18 1) (Transformed 22 (RuleValue 29 word.In)))) ∷ [])) ∷ []), Faulty (bad_type 22))
    -- ps -> ps: {if ($xform($in)) $out = NULL;}
    ∷ ((Moved (side.Target (target.Global (name 0 (codes "ps")))) (side.Target (target.Global (name 6 (codes "ps")))) (body 10 40 ((Conditional (Transformed 15 (RuleValue 22 word.In)) (Assigned (RuleValue 28 word.Out) (Null 35))) ∷ [])) ∷ []), Faulty (bad_type 15))
    -- g -> g: { $in = 1; }
    ∷ ((Moved (side.Target (target.Global (name 0 (codes "g")))) (side.Target (target.Global (name 5 (codes "g")))) (body 8 19 ((Assigned (RuleValue 10 word.In) (number 16 1)) ∷ [])) ∷ []), Faulty (fault_at kind.WritesIn 10))
    -- g -> g: { $oldsym(gl) = 1; }
    ∷ ((Moved (side.Target (target.Global (name 0 (codes "g")))) (side.Target (target.Global (name 5 (codes "g")))) (body 8 27 ((Assigned (old 10 18 (codes "gl")) (number 24 1)) ∷ [])) ∷ []), Faulty (fault_at kind.WritesIn 10))
    -- g -> g: { $in + 1 = zz; }
    ∷ ((Moved (side.Target (target.Global (name 0 (codes "g")))) (side.Target (target.Global (name 5 (codes "g")))) (body 8 24 ((Assigned (Operated binary.Add (RuleValue 10 word.In) (number 16 1)) (named 20 (codes "zz"))) ∷ [])) ∷ []), Faulty (fault_at kind.WritesIn 10))
    -- st -> g: { $in = 1; }
    ∷ ((Moved (side.Target (target.Global (name 0 (codes "st")))) (side.Target (target.Global (name 6 (codes "g")))) (body 9 20 ((Assigned (RuleValue 11 word.In) (number 17 1)) ∷ [])) ∷ []), Faulty (bad_type 11))
    -- st -> g: { $in.v = 1; }
    ∷ ((Moved (side.Target (target.Global (name 0 (codes "st")))) (side.Target (target.Global (name 6 (codes "g")))) (body 9 22 ((Assigned (Member (RuleValue 11 word.In) (name 15 (codes "v"))) (number 19 1)) ∷ [])) ∷ []), Faulty (fault_at kind.WritesIn 11))
    -- g -> g: { NULL = 1; }
    ∷ ((Moved (side.Target (target.Global (name 0 (codes "g")))) (side.Target (target.Global (name 5 (codes "g")))) (body 8 20 ((Assigned (Null 10) (number 17 1)) ∷ [])) ∷ []), Faulty (fault_at kind.WritesIn 10))
    -- g -> g: { $out + 1 = 2; }
    ∷ ((Moved (side.Target (target.Global (name 0 (codes "g")))) (side.Target (target.Global (name 5 (codes "g")))) (body 8 24 ((Assigned (Operated binary.Add (RuleValue 10 word.Out) (number 17 1)) (number 21 2)) ∷ [])) ∷ []), Faulty (bad_type 10))
    -- g -> g: { (($in)) = 1; }
    ∷ ((Moved (side.Target (target.Global (name 0 (codes "g")))) (side.Target (target.Global (name 5 (codes "g")))) (body 8 23 ((Assigned (Parenthesised 10 (Parenthesised 11 (RuleValue 12 word.In))) (number 20 1)) ∷ [])) ∷ []), Faulty (fault_at kind.WritesIn 10))
    -- ps -> ps: {$out = $new(struct Z, 0);}
    ∷ ((Moved (side.Target (target.Global (name 0 (codes "ps")))) (side.Target (target.Global (name 6 (codes "ps")))) (body 10 36 ((Assigned (RuleValue 11 word.Out) (fresh 18 (type_name (base.Struct (name 30 (codes "Z"))) 0) 33 0)) ∷ [])) ∷ []), Faulty (unknown 30))
    -- ps -> ps: {$out = $new(struct T, 0);}
    ∷ ((Moved (side.Target (target.Global (name 0 (codes "ps")))) (side.Target (target.Global (name 6 (codes "ps")))) (body 10 36 ((Assigned (RuleValue 11 word.Out) (fresh 18 (type_name (base.Struct (name 30 (codes "T"))) 0) 33 0)) ∷ [])) ∷ []), Faulty (bad_type 33))
    -- ps -> ps: {$out = $new(struct S *, 1);}
    ∷ ((Moved (side.Target (target.Global (name 0 (codes "ps")))) (side.Target (target.Global (name 6 (codes "ps")))) (body 10 38 ((Assigned (RuleValue 11 word.Out) (fresh 18 (type_name (base.Struct (name 30 (codes "S"))) 1) 35 1)) ∷ [])) ∷ []), Faulty (bad_type 18))
    -- g -> g: {$out = $new(int, 1);}
    ∷ ((Moved (side.Target (target.Global (name 0 (codes "g")))) (side.Target (target.Global (name 5 (codes "g")))) (body 8 29 ((Assigned (RuleValue 9 word.Out) (fresh 16 (type_name base.Int 0) 26 1)) ∷ [])) ∷ []), Faulty (bad_type 16))
    -- ps -> ps: {if ($new(struct S, 1)) ;}
    ∷ ((Moved (side.Target (target.Global (name 0 (codes "ps")))) (side.Target (target.Global (name 6 (codes "ps")))) (body 10 35 ((Conditional (fresh 15 (type_name (base.Struct (name 27 (codes "S"))) 0) 30 1) Empty) ∷ [])) ∷ []), Faulty (bad_type 15))
    -- ps -> ps: {$out = $in ? $in : NULL;}
    ∷ ((Moved (side.Target (target.Global (name 0 (codes "ps")))) (side.Target (target.Global (name 6 (codes "ps")))) (body 10 35 ((Assigned (RuleValue 11 word.Out) (Chosen (RuleValue 18 word.In) (RuleValue 24 word.In) (Null 30))) ∷ [])) ∷ []), Faulty (bad_type 24))
    -- ps -> ps: {$out = $oldsym(st) ? NULL : NULL;}
    ∷ ((Moved (side.Target (target.Global (name 0 (codes "ps")))) (side.Target (target.Global (name 6 (codes "ps")))) (body 10 44 ((Assigned (RuleValue 11 word.Out) (Chosen (old 18 26 (codes "st")) (Null 32) (Null 39))) ∷ [])) ∷ []), Faulty (bad_type 18))
    -- gp -> ps: {$out = $xform($in);}
    ∷ ((Moved (side.Target (target.Global (name 0 (codes "gp")))) (side.Target (target.Global (name 6 (codes "ps")))) (body 10 30 ((Assigned (RuleValue 11 word.Out) (Transformed 18 (RuleValue 25 word.In))) ∷ [])) ∷ []), Faulty (bad_type 18))
    -- struct S -> struct T; ps -> ps: {$out = $xform($in);}
    ∷ ((StructsPaired (struct 0 (name 7 (codes "S"))) (struct 12 (name 19 (codes "T"))) ∷ Moved (side.Target (target.Global (name 22 (codes "ps")))) (side.Target (target.Global (name 28 (codes "ps")))) (body 32 52 ((Assigned (RuleValue 33 word.Out) (Transformed 40 (RuleValue 47 word.In))) ∷ [])) ∷ []), Faulty (bad_type 40))
    -- struct T -> struct S; INIT struct S.v: {$out = $base.v;}
    ∷ ((StructsPaired (struct 0 (name 7 (codes "T"))) (struct 12 (name 19 (codes "S"))) ∷ Started (target.Field (struct 27 (name 34 (codes "S"))) (name 36 (codes "v"))) (body 39 55 ((Assigned (RuleValue 40 word.Out) (Member (RuleValue 47 word.Base) (name 53 (codes "v")))) ∷ [])) ∷ []), Faulty (unknown 53))
    -- INIT st: { }
    ∷ ((Started (target.Global (name 5 (codes "st"))) (body 9 11 []) ∷ []), Faulty (bad_type 5))
    -- INIT struct S.a: { }
    ∷ ((Started (target.Field (struct 5 (name 12 (codes "S"))) (name 14 (codes "a"))) (body 17 19 []) ∷ []), Faulty (bad_type 5))
    -- INIT struct S.m: { }
    ∷ ((Started (target.Field (struct 5 (name 12 (codes "S"))) (name 14 (codes "m"))) (body 17 19 []) ∷ []), Faulty (bad_type 5))
    -- g -> g: {$out = $oldsym(main);}
    ∷ ((Moved (side.Target (target.Global (name 0 (codes "g")))) (side.Target (target.Global (name 5 (codes "g")))) (body 8 30 ((Assigned (RuleValue 9 word.Out) (old 16 24 (codes "main"))) ∷ [])) ∷ []), Faulty (unknown 24))
    -- g -> g: {$out = h;}
    ∷ ((Moved (side.Target (target.Global (name 0 (codes "g")))) (side.Target (target.Global (name 5 (codes "g")))) (body 8 18 ((Assigned (RuleValue 9 word.Out) (named 16 (codes "h"))) ∷ [])) ∷ []), Faulty (unknown 16))
    -- ar -> g: {$out = *$in;}
    ∷ ((Moved (side.Target (target.Global (name 0 (codes "ar")))) (side.Target (target.Global (name 6 (codes "g")))) (body 9 22 ((Assigned (RuleValue 10 word.Out) (Prefixed 17 prefix.Dereference (RuleValue 18 word.In))) ∷ [])) ∷ []), Faulty (bad_type 18))
    -- f::z -> f::z: {$out = $base;}
    ∷ ((Moved (side.Local (name 0 (codes "f")) (name 3 (codes "z"))) (side.Local (name 8 (codes "f")) (name 11 (codes "z"))) (body 14 28 ((Assigned (RuleValue 15 word.Out) (RuleValue 22 word.Base)) ∷ [])) ∷ []), Faulty (unknown 22))
    -- INIT g: { if ($in) ; }
    ∷ ((Started (target.Global (name 5 (codes "g"))) (body 8 21 ((Conditional (RuleValue 14 word.In) Empty) ∷ [])) ∷ []), Faulty (unknown 14))
    -- g -> zz: { $out = yy; }
    ∷ ((Moved (side.Target (target.Global (name 0 (codes "g")))) (side.Target (target.Global (name 5 (codes "zz")))) (body 9 22 ((Assigned (RuleValue 11 word.Out) (named 18 (codes "yy"))) ∷ [])) ∷ []), Faulty (unknown 5))
    -- g -> g: {$out = $xform(zz);}
    ∷ ((Moved (side.Target (target.Global (name 0 (codes "g")))) (side.Target (target.Global (name 5 (codes "g")))) (body 8 27 ((Assigned (RuleValue 9 word.Out) (Transformed 16 (named 23 (codes "zz")))) ∷ [])) ∷ []), Faulty (unknown 23))
    -- g -> g: {$out = (long)$oldsym(st);}
    ∷ ((Moved (side.Target (target.Global (name 0 (codes "g")))) (side.Target (target.Global (name 5 (codes "g")))) (body 8 34 ((Assigned (RuleValue 9 word.Out) (Converted 16 (type_name base.Long 0) (old 22 30 (codes "st")))) ∷ [])) ∷ []), Faulty (bad_type 22))
    -- g -> g: {$out = (struct S *)$oldsym(ps);}
    ∷ ((Moved (side.Target (target.Global (name 0 (codes "g")))) (side.Target (target.Global (name 5 (codes "g")))) (body 8 40 ((Assigned (RuleValue 9 word.Out) (Converted 16 (type_name (base.Struct (name 24 (codes "S"))) 1) (old 28 36 (codes "ps")))) ∷ [])) ∷ []), Faulty (bad_type 16))
    -- tx -> tx: {$out = $new(char, 65537);}
    ∷ ((Moved (side.Target (target.Global (name 0 (codes "tx")))) (side.Target (target.Global (name 6 (codes "tx")))) (body 10 36 ((Assigned (RuleValue 11 word.Out) (fresh 18 (type_name base.Char 0) 29 65537)) ∷ [])) ∷ []), Faulty (bad_type 29))
    -- g -> g: { if (1) $out = zz; else $out = yy; }
    ∷ ((Moved (side.Target (target.Global (name 0 (codes "g")))) (side.Target (target.Global (name 5 (codes "g")))) (body 8 44 ((Alternative (number 14 1) (Assigned (RuleValue 17 word.Out) (named 24 (codes "zz"))) (Assigned (RuleValue 33 word.Out) (named 40 (codes "yy")))) ∷ [])) ∷ []), Faulty (unknown 24))
    -- ps -> ps: {$out = $new(int, 0) ;}
    ∷ ((Moved (side.Target (target.Global (name 0 (codes "ps")))) (side.Target (target.Global (name 6 (codes "ps")))) (body 10 32 ((Assigned (RuleValue 11 word.Out) (fresh 18 (type_name base.Int 0) 28 0)) ∷ [])) ∷ []), Faulty (bad_type 28))
    -- ps -> ps: {$out = $in ? $new(struct S, 0) : 0;}
    ∷ ((Moved (side.Target (target.Global (name 0 (codes "ps")))) (side.Target (target.Global (name 6 (codes "ps")))) (body 10 46 ((Assigned (RuleValue 11 word.Out) (Chosen (RuleValue 18 word.In) (fresh 24 (type_name (base.Struct (name 36 (codes "S"))) 0) 39 0) (number 44 0))) ∷ [])) ∷ []), Faulty (bad_type 39))
    ∷ []
