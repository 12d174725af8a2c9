-- Only fields name arrays.
use Rattle.std.proofs.Common.{ℕ, Bool, true, false, List, [], ◌∷◌, ◌++◌, codes, Option, Some, None, if◌then◌else◌}
use Rattle.std.specs.Prelude.{flat_map}
use Rattle.std.specs.List.{AllByRecursion}
use Rattle.std.specs.Str.{bytes_eq}
use Rattle.kt_grammar.specs.declared.tree.Base.{Base}
use Rattle.kt_grammar.specs.declared.tree.Base.TheVariants as base
use Rattle.kt_grammar.specs.declared.tree.Name.{Name}
use Rattle.kt_grammar.specs.Tree.{Term, Constant, Character, Text, Null, Eof, Named, Called, Parenthesised, SizeOf, RuleValue, OldSymbol, Transformed, NewObject, Element, Member, Pointed, Stepped, Prefixed, Converted, Operated, Chosen, Assigned, Terms, Nothing, More}
use Rattle.kt_syntax.specs.declared.tree.GlobalDeclarator.{GlobalDeclarator}
use Rattle.kt_syntax.specs.declared.tree.Parameter.{Parameter}
use Rattle.kt_syntax.specs.Tree.{Local, Start, NoStart, Declares, Evaluates, Statement, Declared, Compound, Empty, Evaluated, Returned, Broken, Continued, Conditional, Alternative, Looped, Repeated, Counted, Statements, Nothing as NoStatements, More as Then, Definition, Routine}
use Rattle.kt_names.specs.Uses.{Use, Starred, Arrayed, where_there, result_stars, called_uses, term_uses, terms_uses, local_uses, start_uses, statement_uses, statements_uses, global_uses, parameter_uses, result_uses, head_uses, body_uses}
use Rattle.kt_check.proofs.FieldCells.{all-both}

abbrev pub IsPlainUse : Use → Type 0
IsPlainUse (Starred b n) = Unit {0}
IsPlainUse (Arrayed b n count) = ⊥

abbrev pub ArePlain : List Use → Type 0
ArePlain us = AllByRecursion IsPlainUse us

both : (us vs : List Use) → ArePlain us → ArePlain vs → ArePlain (us ++ vs)
both us vs h k = all-both IsPlainUse us vs h k

called-plain : (n : Name) → ArePlain (called_uses n)
called-plain n = by (bytes_eq n.word (codes "malloc"))
  where
    by : (b : Bool) → ArePlain (if b then Starred base.Char 1 ∷ [] else [])
    by true = (tt, tt)
    by false = tt

mutual
  term-plain : (e : Term) → ArePlain (term_uses e)
  term-plain (Constant at n) = tt
  term-plain (Character at b) = tt
  term-plain (Text at bytes) = (tt, tt)
  term-plain (Null at) = (tt, tt)
  term-plain (Eof at) = tt
  term-plain (Named n) = tt
  term-plain (Called n args) = both (called_uses n) (terms_uses args) (called-plain n) (terms-plain args)
  term-plain (Parenthesised at a) = term-plain a
  term-plain (SizeOf at t) = (tt, tt)
  term-plain (RuleValue at w) = tt
  term-plain (OldSymbol at n) = tt
  term-plain (NewObject at f) = tt
  term-plain (Transformed at a) = tt
  term-plain (Element a i) = both (term_uses a) (term_uses i) (term-plain a) (term-plain i)
  term-plain (Member a f) = term-plain a
  term-plain (Pointed a f) = term-plain a
  term-plain (Stepped a op) = term-plain a
  term-plain (Prefixed at op a) = term-plain a
  term-plain (Converted at t a) = (tt, term-plain a)
  term-plain (Operated op a b) = both (term_uses a) (term_uses b) (term-plain a) (term-plain b)
  term-plain (Chosen c a b) = both (term_uses c) (term_uses a ++ term_uses b) (term-plain c) (both (term_uses a) (term_uses b) (term-plain a) (term-plain b))
  term-plain (Assigned op a b) = both (term_uses a) (term_uses b) (term-plain a) (term-plain b)

  terms-plain : (es : Terms) → ArePlain (terms_uses es)
  terms-plain Nothing = tt
  terms-plain (More a rest) = both (term_uses a) (terms_uses rest) (term-plain a) (terms-plain rest)

if-plain : (e : Option Term) → ArePlain (where_there term_uses e)
if-plain None = tt
if-plain (Some e) = term-plain e

locals-plain : (b : Base) (ls : List Local) → ArePlain (flat_map (local_uses b) ls)
locals-plain b [] = tt
locals-plain b (l ∷ ls) = both (local_uses b l) (flat_map (local_uses b) ls) (tt, if-plain l.initial) (locals-plain b ls)

start-plain : (x : Start) → ArePlain (start_uses x)
start-plain NoStart = tt
start-plain (Declares x) = locals-plain x.base x.locals
start-plain (Evaluates e) = term-plain e

mutual
  statement-plain : (s : Statement) → ArePlain (statement_uses s)
  statement-plain (Declared x) = locals-plain x.base x.locals
  statement-plain (Compound block) = statements-plain block
  statement-plain Empty = tt
  statement-plain (Evaluated e) = term-plain e
  statement-plain (Returned at e) = if-plain e
  statement-plain (Broken at) = tt
  statement-plain (Continued at) = tt
  statement-plain (Conditional c s) = both (term_uses c) (statement_uses s) (term-plain c) (statement-plain s)
  statement-plain (Alternative c s t) =
      both (term_uses c) (statement_uses s ++ statement_uses t) (term-plain c) (both (statement_uses s) (statement_uses t) (statement-plain s) (statement-plain t))
  statement-plain (Looped c s) = both (term_uses c) (statement_uses s) (term-plain c) (statement-plain s)
  statement-plain (Repeated s c) = both (statement_uses s) (term_uses c) (statement-plain s) (term-plain c)
  statement-plain (Counted start test step s) =
      both (start_uses start) (where_there term_uses test ++ (where_there term_uses step ++ statement_uses s)) (start-plain start)
      (both (where_there term_uses test) (where_there term_uses step ++ statement_uses s) (if-plain test)
      (both (where_there term_uses step) (statement_uses s) (if-plain step) (statement-plain s)))

  statements-plain : (ss : Statements) → ArePlain (statements_uses ss)
  statements-plain NoStatements = tt
  statements-plain (Then s rest) = both (statement_uses s) (statements_uses rest) (statement-plain s) (statements-plain rest)

pub globals-plain : (b : Base) (gs : List GlobalDeclarator) → ArePlain (flat_map (global_uses b) gs)
globals-plain b [] = tt
globals-plain b (g ∷ gs) = (tt, globals-plain b gs)

parameters-plain : (ps : List Parameter) → ArePlain (flat_map parameter_uses ps)
parameters-plain [] = tt
parameters-plain (p ∷ ps) = (tt, parameters-plain ps)

result-plain : (b : Option Base) (n : ℕ) → ArePlain (result_uses b n)
result-plain None n = tt
result-plain (Some b) n = (tt, tt)

body-plain : (b : Option Definition) → ArePlain (where_there (λ d. statements_uses d.entries) b)
body-plain None = tt
body-plain (Some b) = statements-plain b.entries

pub routine-plain : (r : Routine) → ArePlain (head_uses r ++ body_uses r)
routine-plain r =
    both (head_uses r) (body_uses r)
    (both (result_uses r.result (result_stars r.stars)) (flat_map parameter_uses r.parameters) (result-plain r.result (result_stars r.stars)) (parameters-plain r.parameters))
    (body-plain r.body)
