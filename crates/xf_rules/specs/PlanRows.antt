-- Worked rows of files that give a plan; both versions are the wide one.
use Rattle.std.specs.Prelude.{List, [], ◌∷◌, codes, None}
use Rattle.kt_grammar.specs.declared.operator.BinaryOperator.TheVariants as binary
use Rattle.kt_grammar.specs.declared.operator.PrefixOperator.TheVariants as prefix
use Rattle.kt_grammar.specs.declared.keyword.RuleWord.TheVariants as word
use Rattle.kt_grammar.specs.declared.tree.Base.TheVariants as base
use Rattle.kt_grammar.specs.Tree.{Null, Eof, RuleValue, Transformed, Element, Member, Pointed, Prefixed, Converted, Operated, Chosen, Parenthesised}
use Rattle.kt_typing.specs.Rows.{name, number, type_name, old}
use Rattle.xf_syntax.specs.declared.tree.Target.TheVariants as target
use Rattle.xf_syntax.specs.declared.tree.Side.TheVariants as side
use Rattle.xf_syntax.specs.Tree.{StructsPaired, Started, Moved, Rule, Empty, Conditional, Alternative, Assigned}
use Rattle.xf_rules.specs.Fragments.{struct, fresh, body, inner}

-- files that give a plan
abbrev pub accepted : List (List Rule)
accepted =
    -- an empty file
    []
    -- g -> g;
    ∷ (Moved (side.Target (target.Global (name 0 (codes "g")))) (side.Target (target.Global (name 5 (codes "g")))) None ∷ [])
    -- g -> gl;
    ∷ (Moved (side.Target (target.Global (name 0 (codes "g")))) (side.Target (target.Global (name 5 (codes "gl")))) None ∷ [])
    -- gl -> gl;
    ∷ (Moved (side.Target (target.Global (name 0 (codes "gl")))) (side.Target (target.Global (name 6 (codes "gl")))) None ∷ [])
    -- f::q -> f::r;
    ∷ (Moved (side.Local (name 0 (codes "f")) (name 3 (codes "q"))) (side.Local (name 8 (codes "f")) (name 11 (codes "r"))) None ∷ [])
    -- struct S -> struct S;
    ∷ (StructsPaired (struct 0 (name 7 (codes "S"))) (struct 12 (name 19 (codes "S"))) ∷ [])
    -- INIT st;
    ∷ (Started (target.Global (name 5 (codes "st"))) None ∷ [])
    -- INIT g: { }
    ∷ (Started (target.Global (name 5 (codes "g"))) (body 8 10 []) ∷ [])
    -- INIT g: { ; }
    ∷ (Started (target.Global (name 5 (codes "g"))) (body 8 12 (Empty ∷ [])) ∷ [])
    -- g -> g: {$out = $in + 1;}
    ∷ (Moved (side.Target (target.Global (name 0 (codes "g")))) (side.Target (target.Global (name 5 (codes "g")))) (body 8 24 ((Assigned (RuleValue 9 word.Out) (Operated binary.Add (RuleValue 16 word.In) (number 22 1))) ∷ [])) ∷ [])
    -- g -> g: {$out = $oldsym(ps)->v;}
    ∷ (Moved (side.Target (target.Global (name 0 (codes "g")))) (side.Target (target.Global (name 5 (codes "g")))) (body 8 31 ((Assigned (RuleValue 9 word.Out) (Pointed (old 16 24 (codes "ps")) (name 29 (codes "v")))) ∷ [])) ∷ [])
    -- g -> g: {$out = $oldsym(st).v;}
    ∷ (Moved (side.Target (target.Global (name 0 (codes "g")))) (side.Target (target.Global (name 5 (codes "g")))) (body 8 30 ((Assigned (RuleValue 9 word.Out) (Member (old 16 24 (codes "st")) (name 28 (codes "v")))) ∷ [])) ∷ [])
    -- g -> g: {$out = *$oldsym(ar);}
    ∷ (Moved (side.Target (target.Global (name 0 (codes "g")))) (side.Target (target.Global (name 5 (codes "g")))) (body 8 29 ((Assigned (RuleValue 9 word.Out) (Prefixed 16 prefix.Dereference (old 17 25 (codes "ar")))) ∷ [])) ∷ [])
    -- g -> g: {if ($oldsym(ps)) $out = 1; else $out = 2;}
    ∷ (Moved (side.Target (target.Global (name 0 (codes "g")))) (side.Target (target.Global (name 5 (codes "g")))) (body 8 50 ((Alternative (old 13 21 (codes "ps")) (Assigned (RuleValue 26 word.Out) (number 33 1)) (Assigned (RuleValue 41 word.Out) (number 48 2))) ∷ [])) ∷ [])
    -- st -> g: {$out = $in.v;}
    ∷ (Moved (side.Target (target.Global (name 0 (codes "st")))) (side.Target (target.Global (name 6 (codes "g")))) (body 9 23 ((Assigned (RuleValue 10 word.Out) (Member (RuleValue 17 word.In) (name 21 (codes "v")))) ∷ [])) ∷ [])
    -- lk -> g: {$out = 1;}
    ∷ (Moved (side.Target (target.Global (name 0 (codes "lk")))) (side.Target (target.Global (name 6 (codes "g")))) (body 9 19 ((Assigned (RuleValue 10 word.Out) (number 17 1)) ∷ [])) ∷ [])
    -- ps -> ps: {$out = NULL;}
    ∷ (Moved (side.Target (target.Global (name 0 (codes "ps")))) (side.Target (target.Global (name 6 (codes "ps")))) (body 10 23 ((Assigned (RuleValue 11 word.Out) (Null 18)) ∷ [])) ∷ [])
    -- ps -> ps: {$out = $xform($in->next);}
    ∷ (Moved (side.Target (target.Global (name 0 (codes "ps")))) (side.Target (target.Global (name 6 (codes "ps")))) (body 10 36 ((Assigned (RuleValue 11 word.Out) (Transformed 18 (Pointed (RuleValue 25 word.In) (name 30 (codes "next"))))) ∷ [])) ∷ [])
    -- ps -> ps: {$out = 1 ? $xform($in) : NULL;}
    ∷ (Moved (side.Target (target.Global (name 0 (codes "ps")))) (side.Target (target.Global (name 6 (codes "ps")))) (body 10 41 ((Assigned (RuleValue 11 word.Out) (Chosen (number 18 1) (Transformed 22 (RuleValue 29 word.In)) (Null 36))) ∷ [])) ∷ [])
    -- ps -> ps: {$out = $new(struct S, 1);}
    ∷ (Moved (side.Target (target.Global (name 0 (codes "ps")))) (side.Target (target.Global (name 6 (codes "ps")))) (body 10 36 ((Assigned (RuleValue 11 word.Out) (fresh 18 (type_name (base.Struct (name 30 (codes "S"))) 0) 33 1)) ∷ [])) ∷ [])
    -- gp -> gp: {$out = $new(int, 2);}
    ∷ (Moved (side.Target (target.Global (name 0 (codes "gp")))) (side.Target (target.Global (name 6 (codes "gp")))) (body 10 31 ((Assigned (RuleValue 11 word.Out) (fresh 18 (type_name base.Int 0) 28 2)) ∷ [])) ∷ [])
    -- INIT struct S.v: {$out = $base.v;}
    ∷ (Started (target.Field (struct 5 (name 12 (codes "S"))) (name 14 (codes "v"))) (body 17 33 ((Assigned (RuleValue 18 word.Out) (Member (RuleValue 25 word.Base) (name 31 (codes "v")))) ∷ [])) ∷ [])
    -- INIT struct S.v: {$out = $base.next->next->v;}
    ∷ (Started (target.Field (struct 5 (name 12 (codes "S"))) (name 14 (codes "v"))) (body 17 45 ((Assigned (RuleValue 18 word.Out) (Pointed (Pointed (Member (RuleValue 25 word.Base) (name 31 (codes "next"))) (name 37 (codes "next"))) (name 43 (codes "v")))) ∷ [])) ∷ [])
    -- INIT struct S.v: {$out = $base.t->k;}
    ∷ (Started (target.Field (struct 5 (name 12 (codes "S"))) (name 14 (codes "v"))) (body 17 36 ((Assigned (RuleValue 18 word.Out) (Pointed (Member (RuleValue 25 word.Base) (name 31 (codes "t"))) (name 34 (codes "k")))) ∷ [])) ∷ [])
    -- struct S.a -> struct S.v: {$out = $in[0];}
    ∷ (Moved (side.Target (target.Field (struct 0 (name 7 (codes "S"))) (name 9 (codes "a")))) (side.Target (target.Field (struct 14 (name 21 (codes "S"))) (name 23 (codes "v")))) (body 26 41 ((Assigned (RuleValue 27 word.Out) (Element (RuleValue 34 word.In) (number 38 0))) ∷ [])) ∷ [])
    -- struct S.next -> struct S.next: {$out = $xform($base.next);}
    ∷ (Moved (side.Target (target.Field (struct 0 (name 7 (codes "S"))) (name 9 (codes "next")))) (side.Target (target.Field (struct 17 (name 24 (codes "S"))) (name 26 (codes "next")))) (body 32 59 ((Assigned (RuleValue 33 word.Out) (Transformed 40 (Member (RuleValue 47 word.Base) (name 53 (codes "next"))))) ∷ [])) ∷ [])
    -- f::q -> f::r: {$out = $in + 1;}
    ∷ (Moved (side.Local (name 0 (codes "f")) (name 3 (codes "q"))) (side.Local (name 8 (codes "f")) (name 11 (codes "r"))) (body 14 30 ((Assigned (RuleValue 15 word.Out) (Operated binary.Add (RuleValue 22 word.In) (number 28 1))) ∷ [])) ∷ [])
    -- f::z -> f::z: {$out = $xform($in);}
    ∷ (Moved (side.Local (name 0 (codes "f")) (name 3 (codes "z"))) (side.Local (name 8 (codes "f")) (name 11 (codes "z"))) (body 14 34 ((Assigned (RuleValue 15 word.Out) (Transformed 22 (RuleValue 29 word.In))) ∷ [])) ∷ [])
    -- f::z -> f::r: {$out = $in->v;}
    ∷ (Moved (side.Local (name 0 (codes "f")) (name 3 (codes "z"))) (side.Local (name 8 (codes "f")) (name 11 (codes "r"))) (body 14 29 ((Assigned (RuleValue 15 word.Out) (Pointed (RuleValue 22 word.In) (name 27 (codes "v")))) ∷ [])) ∷ [])
    -- g -> g: {(($out)) = 1;}
    ∷ (Moved (side.Target (target.Global (name 0 (codes "g")))) (side.Target (target.Global (name 5 (codes "g")))) (body 8 22 ((Assigned (Parenthesised 9 (Parenthesised 10 (RuleValue 11 word.Out))) (number 20 1)) ∷ [])) ∷ [])
    -- gl -> gl: {$out = $oldsym(gp) == NULL ? 1 : *$oldsym(gp);}
    ∷ (Moved (side.Target (target.Global (name 0 (codes "gl")))) (side.Target (target.Global (name 6 (codes "gl")))) (body 10 57 ((Assigned (RuleValue 11 word.Out) (Chosen (Operated binary.Equal (old 18 26 (codes "gp")) (Null 33)) (number 40 1) (Prefixed 44 prefix.Dereference (old 45 53 (codes "gp"))))) ∷ [])) ∷ [])
    -- g -> g: {$out = $oldsym(gp) + 1 == NULL;}
    ∷ (Moved (side.Target (target.Global (name 0 (codes "g")))) (side.Target (target.Global (name 5 (codes "g")))) (body 8 40 ((Assigned (RuleValue 9 word.Out) (Operated binary.Equal (Operated binary.Add (old 16 24 (codes "gp")) (number 30 1)) (Null 35))) ∷ [])) ∷ [])
    -- g -> g: {$out = $oldsym(gp) - $oldsym(gp);}
    ∷ (Moved (side.Target (target.Global (name 0 (codes "g")))) (side.Target (target.Global (name 5 (codes "g")))) (body 8 42 ((Assigned (RuleValue 9 word.Out) (Operated binary.Subtract (old 16 24 (codes "gp")) (old 30 38 (codes "gp")))) ∷ [])) ∷ [])
    -- g -> g: {$out = $oldsym(ps)->t + 1 == NULL;}
    ∷ (Moved (side.Target (target.Global (name 0 (codes "g")))) (side.Target (target.Global (name 5 (codes "g")))) (body 8 43 ((Assigned (RuleValue 9 word.Out) (Operated binary.Equal (Operated binary.Add (Pointed (old 16 24 (codes "ps")) (name 29 (codes "t"))) (number 33 1)) (Null 38))) ∷ [])) ∷ [])
    -- tx -> tx: {$out = $xform($in + 1);}
    ∷ (Moved (side.Target (target.Global (name 0 (codes "tx")))) (side.Target (target.Global (name 6 (codes "tx")))) (body 10 34 ((Assigned (RuleValue 11 word.Out) (Transformed 18 (Operated binary.Add (RuleValue 25 word.In) (number 31 1)))) ∷ [])) ∷ [])
    -- g -> g: {$out = !$oldsym(ps);}
    ∷ (Moved (side.Target (target.Global (name 0 (codes "g")))) (side.Target (target.Global (name 5 (codes "g")))) (body 8 29 ((Assigned (RuleValue 9 word.Out) (Prefixed 16 prefix.Not (old 17 25 (codes "ps")))) ∷ [])) ∷ [])
    -- st -> st;
    ∷ (Moved (side.Target (target.Global (name 0 (codes "st")))) (side.Target (target.Global (name 6 (codes "st")))) None ∷ [])
    -- lk -> lk;
    ∷ (Moved (side.Target (target.Global (name 0 (codes "lk")))) (side.Target (target.Global (name 6 (codes "lk")))) None ∷ [])
    -- lk -> g: {}
    ∷ (Moved (side.Target (target.Global (name 0 (codes "lk")))) (side.Target (target.Global (name 6 (codes "g")))) (body 9 10 []) ∷ [])
    -- ps -> gp: {$out = NULL;}
    ∷ (Moved (side.Target (target.Global (name 0 (codes "ps")))) (side.Target (target.Global (name 6 (codes "gp")))) (body 10 23 ((Assigned (RuleValue 11 word.Out) (Null 18)) ∷ [])) ∷ [])
    -- gc -> g;
    ∷ (Moved (side.Target (target.Global (name 0 (codes "gc")))) (side.Target (target.Global (name 6 (codes "g")))) None ∷ [])
    -- g -> gc: {$out = $in;}
    ∷ (Moved (side.Target (target.Global (name 0 (codes "g")))) (side.Target (target.Global (name 5 (codes "gc")))) (body 9 21 ((Assigned (RuleValue 10 word.Out) (RuleValue 17 word.In)) ∷ [])) ∷ [])
    -- gl -> g: {$out = (int)$in;}
    ∷ (Moved (side.Target (target.Global (name 0 (codes "gl")))) (side.Target (target.Global (name 6 (codes "g")))) (body 9 26 ((Assigned (RuleValue 10 word.Out) (Converted 17 (type_name base.Int 0) (RuleValue 22 word.In))) ∷ [])) ∷ [])
    -- f::z -> f::q: {$out = $in ? $in->v : 0;}
    ∷ (Moved (side.Local (name 0 (codes "f")) (name 3 (codes "z"))) (side.Local (name 8 (codes "f")) (name 11 (codes "q"))) (body 14 39 ((Assigned (RuleValue 15 word.Out) (Chosen (RuleValue 22 word.In) (Pointed (RuleValue 28 word.In) (name 33 (codes "v"))) (number 37 0))) ∷ [])) ∷ [])
    -- INIT struct S.t: {$out = $new(struct T, 1);}
    ∷ (Started (target.Field (struct 5 (name 12 (codes "S"))) (name 14 (codes "t"))) (body 17 43 ((Assigned (RuleValue 18 word.Out) (fresh 25 (type_name (base.Struct (name 37 (codes "T"))) 0) 40 1)) ∷ [])) ∷ [])
    -- INIT struct S.t: {$out = $base.v ? $new(struct T, 2) : $xform($base.t);}
    ∷ (Started (target.Field (struct 5 (name 12 (codes "S"))) (name 14 (codes "t"))) (body 17 71 ((Assigned (RuleValue 18 word.Out) (Chosen (Member (RuleValue 25 word.Base) (name 31 (codes "v"))) (fresh 35 (type_name (base.Struct (name 47 (codes "T"))) 0) 50 2) (Transformed 55 (Member (RuleValue 62 word.Base) (name 68 (codes "t")))))) ∷ [])) ∷ [])
    -- INIT struct S.l: {$out = $base.l * 2 - 1;}
    ∷ (Started (target.Field (struct 5 (name 12 (codes "S"))) (name 14 (codes "l"))) (body 17 41 ((Assigned (RuleValue 18 word.Out) (Operated binary.Subtract (Operated binary.Multiply (Member (RuleValue 25 word.Base) (name 31 (codes "l"))) (number 35 2)) (number 39 1))) ∷ [])) ∷ [])
    -- INIT tx: {$out = $new(char, 5);}
    ∷ (Started (target.Global (name 5 (codes "tx"))) (body 9 31 ((Assigned (RuleValue 10 word.Out) (fresh 17 (type_name base.Char 0) 28 5)) ∷ [])) ∷ [])
    -- g -> g: {if ($in) if ($in > 1) $out = 1; else $out = 2;}
    ∷ (Moved (side.Target (target.Global (name 0 (codes "g")))) (side.Target (target.Global (name 5 (codes "g")))) (body 8 55 ((Conditional (RuleValue 13 word.In) (Alternative (Operated binary.Greater (RuleValue 22 word.In) (number 28 1)) (Assigned (RuleValue 31 word.Out) (number 38 1)) (Assigned (RuleValue 46 word.Out) (number 53 2)))) ∷ [])) ∷ [])
    -- g -> g: {$out = $in; ; {} $out = 2;}
    ∷ (Moved (side.Target (target.Global (name 0 (codes "g")))) (side.Target (target.Global (name 5 (codes "g")))) (body 8 35 ((Assigned (RuleValue 9 word.Out) (RuleValue 16 word.In)) ∷ Empty ∷ (inner []) ∷ (Assigned (RuleValue 26 word.Out) (number 33 2)) ∷ [])) ∷ [])
    -- g -> g: {;;}
    ∷ (Moved (side.Target (target.Global (name 0 (codes "g")))) (side.Target (target.Global (name 5 (codes "g")))) (body 8 11 (Empty ∷ Empty ∷ [])) ∷ [])
    -- g -> g: {$out = 1 ? 2 : 3;}
    ∷ (Moved (side.Target (target.Global (name 0 (codes "g")))) (side.Target (target.Global (name 5 (codes "g")))) (body 8 26 ((Assigned (RuleValue 9 word.Out) (Chosen (number 16 1) (number 20 2) (number 24 3))) ∷ [])) ∷ [])
    -- g -> g: {$out = !$in && $in || 0;}
    ∷ (Moved (side.Target (target.Global (name 0 (codes "g")))) (side.Target (target.Global (name 5 (codes "g")))) (body 8 33 ((Assigned (RuleValue 9 word.Out) (Operated binary.Or (Operated binary.And (Prefixed 16 prefix.Not (RuleValue 17 word.In)) (RuleValue 24 word.In)) (number 31 0))) ∷ [])) ∷ [])
    -- g -> g: {$out = (*$oldsym(ps)).v;}
    ∷ (Moved (side.Target (target.Global (name 0 (codes "g")))) (side.Target (target.Global (name 5 (codes "g")))) (body 8 33 ((Assigned (RuleValue 9 word.Out) (Member (Parenthesised 16 (Prefixed 17 prefix.Dereference (old 18 26 (codes "ps")))) (name 31 (codes "v")))) ∷ [])) ∷ [])
    -- g -> g: {$out = $oldsym(ps) == $oldsym(ps)->next;}
    ∷ (Moved (side.Target (target.Global (name 0 (codes "g")))) (side.Target (target.Global (name 5 (codes "g")))) (body 8 49 ((Assigned (RuleValue 9 word.Out) (Operated binary.Equal (old 16 24 (codes "ps")) (Pointed (old 31 39 (codes "ps")) (name 44 (codes "next"))))) ∷ [])) ∷ [])
    -- g -> g: {$out = $oldsym(tx)[0];}
    ∷ (Moved (side.Target (target.Global (name 0 (codes "g")))) (side.Target (target.Global (name 5 (codes "g")))) (body 8 31 ((Assigned (RuleValue 9 word.Out) (Element (old 16 24 (codes "tx")) (number 28 0))) ∷ [])) ∷ [])
    -- ps -> ps: {$out = $in ? $xform($in) : $in ? NULL : $new(struct S, 1);}
    ∷ (Moved (side.Target (target.Global (name 0 (codes "ps")))) (side.Target (target.Global (name 6 (codes "ps")))) (body 10 69 ((Assigned (RuleValue 11 word.Out) (Chosen (RuleValue 18 word.In) (Transformed 24 (RuleValue 31 word.In)) (Chosen (RuleValue 38 word.In) (Null 44) (fresh 51 (type_name (base.Struct (name 63 (codes "S"))) 0) 66 1)))) ∷ [])) ∷ [])
    -- struct S.next -> struct S.t: {$out = $xform($in->t);}
    ∷ (Moved (side.Target (target.Field (struct 0 (name 7 (codes "S"))) (name 9 (codes "next")))) (side.Target (target.Field (struct 17 (name 24 (codes "S"))) (name 26 (codes "t")))) (body 29 52 ((Assigned (RuleValue 30 word.Out) (Transformed 37 (Pointed (RuleValue 44 word.In) (name 49 (codes "t"))))) ∷ [])) ∷ [])
    -- struct S.v -> struct S.v; struct S.v -> struct S.l;
    ∷ (Moved (side.Target (target.Field (struct 0 (name 7 (codes "S"))) (name 9 (codes "v")))) (side.Target (target.Field (struct 14 (name 21 (codes "S"))) (name 23 (codes "v")))) None ∷ Moved (side.Target (target.Field (struct 26 (name 33 (codes "S"))) (name 35 (codes "v")))) (side.Target (target.Field (struct 40 (name 47 (codes "S"))) (name 49 (codes "l")))) None ∷ [])
    -- f::q -> f::q; f::q -> f::r;
    ∷ (Moved (side.Local (name 0 (codes "f")) (name 3 (codes "q"))) (side.Local (name 8 (codes "f")) (name 11 (codes "q"))) None ∷ Moved (side.Local (name 14 (codes "f")) (name 17 (codes "q"))) (side.Local (name 22 (codes "f")) (name 25 (codes "r"))) None ∷ [])
    -- struct U -> struct U;
    ∷ (StructsPaired (struct 0 (name 7 (codes "U"))) (struct 12 (name 19 (codes "U"))) ∷ [])
    -- ar -> g: {$out = $in[0];}
    ∷ (Moved (side.Target (target.Global (name 0 (codes "ar")))) (side.Target (target.Global (name 6 (codes "g")))) (body 9 24 ((Assigned (RuleValue 10 word.Out) (Element (RuleValue 17 word.In) (number 21 0))) ∷ [])) ∷ [])
    -- tx -> tx: {$out = $new(char, 65536);}
    ∷ (Moved (side.Target (target.Global (name 0 (codes "tx")))) (side.Target (target.Global (name 6 (codes "tx")))) (body 10 36 ((Assigned (RuleValue 11 word.Out) (fresh 18 (type_name base.Char 0) 29 65536)) ∷ [])) ∷ [])
    -- tx -> tx: {$out = ($in ? (NULL) : ($xform($in)));}
    ∷ (Moved (side.Target (target.Global (name 0 (codes "tx")))) (side.Target (target.Global (name 6 (codes "tx")))) (body 10 49 ((Assigned (RuleValue 11 word.Out) (Parenthesised 18 (Chosen (RuleValue 19 word.In) (Parenthesised 25 (Null 26)) (Parenthesised 34 (Transformed 35 (RuleValue 42 word.In)))))) ∷ [])) ∷ [])
    -- g -> g: {($out) = $oldsym(ar)[1] + $oldsym(st).a[0];}
    ∷ (Moved (side.Target (target.Global (name 0 (codes "g")))) (side.Target (target.Global (name 5 (codes "g")))) (body 8 52 ((Assigned (Parenthesised 9 (RuleValue 10 word.Out)) (Operated binary.Add (Element (old 18 26 (codes "ar")) (number 30 1)) (Element (Member (old 35 43 (codes "st")) (name 47 (codes "a"))) (number 49 0)))) ∷ [])) ∷ [])
    -- st -> g: {$out = $in.a[1];}
    ∷ (Moved (side.Target (target.Global (name 0 (codes "st")))) (side.Target (target.Global (name 6 (codes "g")))) (body 9 26 ((Assigned (RuleValue 10 word.Out) (Element (Member (RuleValue 17 word.In) (name 21 (codes "a"))) (number 23 1))) ∷ [])) ∷ [])
    -- struct S.a -> struct S.v: {$out = $in[0] + $base.a[1] + *$base.a;}
    ∷ (Moved (side.Target (target.Field (struct 0 (name 7 (codes "S"))) (name 9 (codes "a")))) (side.Target (target.Field (struct 14 (name 21 (codes "S"))) (name 23 (codes "v")))) (body 26 65 ((Assigned (RuleValue 27 word.Out) (Operated binary.Add (Operated binary.Add (Element (RuleValue 34 word.In) (number 38 0)) (Element (Member (RuleValue 43 word.Base) (name 49 (codes "a"))) (number 51 1))) (Prefixed 56 prefix.Dereference (Member (RuleValue 57 word.Base) (name 63 (codes "a")))))) ∷ [])) ∷ [])
    -- INIT g: {$out = EOF;}
    ∷ (Started (target.Global (name 5 (codes "g"))) (body 8 20 ((Assigned (RuleValue 9 word.Out) (Eof 16)) ∷ [])) ∷ [])
    -- g -> g: {$out = $oldsym(gp) == NULL;}
    ∷ (Moved (side.Target (target.Global (name 0 (codes "g")))) (side.Target (target.Global (name 5 (codes "g")))) (body 8 36 ((Assigned (RuleValue 9 word.Out) (Operated binary.Equal (old 16 24 (codes "gp")) (Null 31))) ∷ [])) ∷ [])
    -- g -> g: {$out = NULL == NULL;}
    ∷ (Moved (side.Target (target.Global (name 0 (codes "g")))) (side.Target (target.Global (name 5 (codes "g")))) (body 8 29 ((Assigned (RuleValue 9 word.Out) (Operated binary.Equal (Null 16) (Null 24))) ∷ [])) ∷ [])
    -- INIT gl; INIT ps; INIT struct S.t; INIT ar;
    ∷ (Started (target.Global (name 5 (codes "gl"))) None ∷ Started (target.Global (name 14 (codes "ps"))) None ∷ Started (target.Field (struct 23 (name 30 (codes "S"))) (name 32 (codes "t"))) None ∷ Started (target.Global (name 40 (codes "ar"))) None ∷ [])
    ∷ []
