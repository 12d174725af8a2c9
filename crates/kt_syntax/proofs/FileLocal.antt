-- Texts with a common front are read as C files alike, up to the end of that front.
use Rattle.std.proofs.Common.{◌≡◌, ℕ, zero, suc, Bool, true, false, List, [], ◌∷◌, ◌++◌, length, drop, Option, Some, None, refl, inl, le_refl, arith, length-drop}
use Rattle.std.specs.Prelude.{if◌then◌else◌}
use Rattle.kt_grammar.specs.declared.keyword.Keyword.{Keyword}
use Rattle.kt_grammar.specs.declared.keyword.Keyword.TheVariants as keywords
use Rattle.kt_grammar.specs.declared.operator.Dialect.TheVariants.{C}
use Rattle.kt_grammar.specs.declared.sign.Sign.{Sign}
use Rattle.kt_grammar.specs.declared.sign.Sign.TheVariants as signs
use Rattle.kt_grammar.specs.declared.symbol.Symbol.{Symbol}
use Rattle.kt_grammar.specs.declared.symbol.Symbol.TheVariants as symbol
use Rattle.kt_grammar.specs.declared.tree.Base.{Base}
use Rattle.kt_grammar.specs.declared.tree.Base.TheVariants as base
use Rattle.kt_grammar.specs.declared.tree.Name.{Name}
use Rattle.kt_grammar.specs.Tree.{Term}
use Rattle.kt_grammar.specs.Signs.{same_sign}
use Rattle.kt_grammar.specs.Cursor.{◌>>=◌, Outcome, begins_sign, behind, name_at, count_sign, listed_at}
use Rattle.kt_grammar.specs.Reading.{bare_base_at}
use Rattle.kt_grammar.specs.Laws.{ExprIsLocal}
use Rattle.kt_grammar.specs.Local.{Alike, IsLocal}
use Rattle.kt_grammar.specs.LocalLaws.{IsLocalFrom, IsFirst, then_local, gives_local, unexpected_local, taken, untaken, by_first, dropped, either_from, if_local, or_first, below_more, begins_sign-first, behind_local, name_at-local, counted_local, within_drop, IsTaking, IsTakingFrom, then_taking, then_takes, takes_it, leaves_it, either_takes, taking_by_first, if_taking, behind_taking, bare_base_at-taking, base_at-taking, begins_base-first, begins_expr-first, refused_local, listed_local, until_local, refuses_alike}
use Rattle.kt_syntax.specs.declared.tree.Stars.{Stars}
use Rattle.kt_syntax.specs.declared.tree.Extent.TheVariants as extent
use Rattle.kt_syntax.specs.declared.tree.Pointer.{Pointer}
use Rattle.kt_syntax.specs.declared.tree.Constant.TheVariants as constant
use Rattle.kt_syntax.specs.declared.tree.GlobalDeclarator.{GlobalDeclarator}
use Rattle.kt_syntax.specs.Tree.{NoStart, Declares, Evaluates, Statement, Declared, Compound, Empty, Evaluated, Returned, Broken, Continued, Conditional, Alternative, Looped, Repeated, Counted, statements_of, External, StructMentioned, StructDefined, GlobalsDeclared, FunctionDeclared}
use Rattle.kt_syntax.specs.Reading.{stars_at, extent_name_at, extent_at, pointer_behind, pointer_at, count_behind, count_at, declarator_behind, declarator_at, negative_at, constant_at, initial_at, global_behind, global_at, parameter_at, fields_at, value_at, local_at, declaration_at, begins_keyword, begins_statement, Blocks, deep_expr_at, condition_at, part_at, block_behind, ended_at, behind_else, behind_while, else_at, if_behind, while_behind, do_behind, start_at, for_behind, evaluated_at, worded_at, signed_at, statement_at, entry_at, entries_at, blocks, count_leading, parameters_behind, definition_behind, body_at, function_behind, globals_behind, bare_stars, named_behind, declared_behind, void_behind, typed_at, struct_behind, struct_at, external_at, file_at}
use Rattle.kt_syntax.specs.Local.{FileIsLocal}

-- ---- declarators

-- the stars at the front, and then another reader
stars_local : {A : Type 0} (next : Option Stars → List Symbol → Outcome A) → ((s : Option Stars) → IsLocal (next s)) → IsLocal (λ symbols. next (stars_at symbols).0 (stars_at symbols).1)
unfolding stars_at
stars_local {A} next l = by_first ((l None).within []) some
  where
    each : (b : Bool) (at : ℕ) (s : Sign) → IsLocalFrom (symbol.Sign at s)
        (λ rest. let p : Option Stars × List Symbol = if b then (let n = count_sign signs.Star rest in (Some (record { at = at; count = suc n }), drop n rest)) else (None, symbol.Sign at s ∷ rest) in next p.0 p.1)
    each true at s = taken (counted_local signs.Star (λ n. next (Some (record { at = at; count = suc n }))) (λ n. l (Some (record { at = at; count = suc n }))))
    each false at s = untaken (l None)

    some : (s : Symbol) → IsLocalFrom s (λ symbols. next (stars_at (s ∷ symbols)).0 (stars_at (s ∷ symbols)).1)
    some (symbol.Sign at s) = each (same_sign s signs.Star) at s
    some _ = untaken (l None)

extent_name_at-local : IsLocal extent_name_at
unfolding extent_name_at
extent_name_at-local = by_first (le_refl 0) some
  where
    some : (s : Symbol) → IsLocalFrom s (λ symbols. extent_name_at (s ∷ symbols))
    some (symbol.Name at word) = taken (gives_local (extent.Name (record { at = at; word = word })))
    some (symbol.Number at n) = taken (gives_local (extent.Number at n))
    some _ = untaken unexpected_local

extent_at-local : IsLocal extent_at
unfolding extent_at
extent_at-local = by_first (le_refl 0) some
  where
    some : (s : Symbol) → IsLocalFrom s (λ symbols. extent_at (s ∷ symbols))
    some (symbol.Keyword at keywords.PointerArray) = taken (then_local _ (behind_local signs.OpenParenthesis (then_local _ extent_name_at-local (λ e. behind_local signs.CloseParenthesis (gives_local e)))) (λ e. gives_local (Some e)))
    some _ = untaken (gives_local None)

pointer_behind-local : (s : Option Stars) → IsLocal (pointer_behind s)
unfolding pointer_behind
pointer_behind-local None = gives_local None
pointer_behind-local (Some s) = then_local _ extent_at-local (λ e. gives_local (Some (record { stars = s; extent = e })))

pointer_at-local : IsLocal pointer_at
pointer_at-local = stars_local pointer_behind pointer_behind-local

count_behind-local : IsLocal count_behind
unfolding count_behind
count_behind-local = by_first (le_refl 0) some
  where
    some : (s : Symbol) → IsLocalFrom s (λ symbols. count_behind (s ∷ symbols))
    some (symbol.Number at n) = taken (behind_local signs.CloseBracket (gives_local n))
    some _ = untaken unexpected_local

count_at-local : IsLocal count_at
unfolding count_at
count_at-local = if_local (begins_sign-first signs.OpenBracket) (dropped (then_local _ count_behind-local (λ n. gives_local (Some n)))) (gives_local None)

declarator_behind-local : (p : Option Pointer) (n : Name) → IsLocal (declarator_behind p n)
declarator_behind-local p n = then_local _ count_at-local (λ c. gives_local (record { pointer = p; name = n; count = c }))

declarator_at-local : IsLocal declarator_at
unfolding declarator_at
declarator_at-local = then_local _ pointer_at-local (λ p. then_local _ name_at-local (λ n. declarator_behind-local p n))

negative_at-local : IsLocal negative_at
unfolding negative_at
negative_at-local = by_first (le_refl 0) some
  where
    some : (s : Symbol) → IsLocalFrom s (λ symbols. negative_at (s ∷ symbols))
    some (symbol.Number at n) = taken (gives_local (constant.Negative n))
    some _ = untaken unexpected_local

constant_at-local : IsLocal constant_at
unfolding constant_at
constant_at-local = by_first (le_refl 0) some
  where
    some : (s : Symbol) → IsLocalFrom s (λ symbols. constant_at (s ∷ symbols))
    some (symbol.Number at n) = taken (gives_local (constant.Number n))
    some (symbol.Sign at s) = either_from (same_sign s signs.Minus) (taken negative_at-local) (untaken unexpected_local)
    some (symbol.Character at b) = taken (gives_local (constant.Character b))
    some (symbol.Text at bytes) = taken (gives_local (constant.Text at bytes))
    some (symbol.Keyword at keywords.Null) = taken (gives_local constant.Null)
    some (symbol.Keyword at keywords.Eof) = taken (gives_local constant.Eof)
    some (symbol.Keyword at keywords.MutexInitializer) = taken (gives_local constant.MutexInitializer)
    some _ = untaken unexpected_local

initial_at-local : IsLocal initial_at
unfolding initial_at
initial_at-local = if_local (begins_sign-first signs.Assign) (dropped (then_local _ constant_at-local (λ c. gives_local (Some c)))) (gives_local None)

global_behind-local : (p : Option Pointer) (n : Name) → IsLocal (global_behind p n)
unfolding global_behind
global_behind-local p n = then_local _ (declarator_behind-local p n) (λ d. then_local _ initial_at-local (λ i. gives_local (record { declarator = d; initial = i })))

global_at-local : IsLocal global_at
unfolding global_at
global_at-local = then_local _ pointer_at-local (λ p. then_local _ name_at-local (λ n. global_behind-local p n))

parameter_at-local : IsLocal parameter_at
unfolding parameter_at
parameter_at-local = then_local _ base_at-taking.local (λ b. then_local _ pointer_at-local (λ p. then_local _ name_at-local (λ n. gives_local (record { base = b; pointer = p; name = n }))))

fields_at-taking : IsTaking fields_at
unfolding fields_at
fields_at-taking = then_taking _ base_at-taking (λ b. then_local _ (listed_local (λ n. n) (λ n. le_refl n) declarator_at-local [])
    (λ ds. behind_local signs.Semicolon (gives_local (record { base = b; declarators = ds }))))

-- ---- statements

begins_keyword-first : IsFirst begins_keyword
unfolding begins_keyword
begins_keyword-first = record { same = same }
  where
    same : (s : Symbol) (rest other : List Symbol) → begins_keyword (s ∷ rest) ≡ begins_keyword (s ∷ other)
    same (symbol.Keyword at k) rest other = refl
    same _ rest other = refl

begins_statement-first : IsFirst begins_statement
begins_statement-first = or_first (or_first (or_first (begins_sign-first signs.OpenBrace) (begins_sign-first signs.Semicolon)) begins_keyword-first) (begins_expr-first C)

-- a keyword `while`, and then another reader
behind_while-local : {A : Type 0} {next : List Symbol → Outcome A} → IsLocal next → IsLocal (λ symbols. behind_while symbols >>= next)
unfolding behind_while
behind_while-local {next = next} l = by_first (le_refl 0) some
  where
    some : (s : Symbol) → IsLocalFrom s (λ symbols. behind_while (s ∷ symbols) >>= next)
    some (symbol.Keyword at keywords.While) = taken l
    some _ = untaken unexpected_local

record AreLocalBlocks (b : Blocks) : Type 0 where
  statement : IsLocal b.statement
  entries : IsLocal b.entries

abbrev AreLocal : Option Blocks → Type 0
AreLocal None = Unit {0}
AreLocal (Some b) = AreLocalBlocks b

-- `static` and `const` at the front are dropped
leading_taking : {A : Type 0} {next : List Symbol → Outcome A} → IsTaking next → IsTaking (λ symbols. next (drop (count_leading symbols) symbols))
unfolding count_leading
leading_taking {next = next} l = record {
  local = record {
    within = λ symbols. within_drop (count_leading symbols) symbols (next (drop (count_leading symbols) symbols)) (l.local.within (drop (count_leading symbols) symbols));
    alike = alike;
  };
  takes = λ symbols. let n = count_leading symbols in below_more (length (drop n symbols)) (length symbols) (next (drop n symbols)) (omega (arith, length-drop n symbols)) (l.takes (drop n symbols));
}
  where
    behind_word : (t : Symbol) (rest other : List Symbol) → Alike t rest other (next (drop (count_leading rest) rest)) (next (drop (count_leading other) other))
    behind_word t rest other = inl (within_drop (count_leading rest) rest (next (drop (count_leading rest) rest)) (l.local.within (drop (count_leading rest) rest)))

    alike : (t : Symbol) (rest other front : List Symbol)
        → Alike t rest other (next (drop (count_leading (front ++ t ∷ rest)) (front ++ t ∷ rest))) (next (drop (count_leading (front ++ t ∷ other)) (front ++ t ∷ other)))
    alike (symbol.Keyword at keywords.Static) rest other [] = behind_word (symbol.Keyword at keywords.Static) rest other
    alike (symbol.Keyword at keywords.Const) rest other [] = behind_word (symbol.Keyword at keywords.Const) rest other
    alike t rest other [] = l.local.alike t rest other []
    alike t rest other (symbol.Keyword at keywords.Static ∷ front) = alike t rest other front
    alike t rest other (symbol.Keyword at keywords.Const ∷ front) = alike t rest other front
    alike t rest other (s ∷ front) = l.local.alike t rest other (s ∷ front)

module _ (e : ExprIsLocal) where
  value_at-local : (n : ℕ) → IsLocal (value_at n)
  unfolding value_at
  value_at-local n = if_local (begins_sign-first signs.Assign) (dropped (then_local _ (e C n) (λ x. gives_local (Some x)))) (gives_local None)

  local_at-local : (n : ℕ) → IsLocal (local_at n)
  unfolding local_at
  local_at-local n = then_local _ pointer_at-local (λ p. then_local _ name_at-local (λ x. then_local _ (value_at-local n) (λ v. gives_local (record { pointer = p; name = x; initial = v }))))

  declaration_at-taking : (n : ℕ) → IsTaking (declaration_at n)
  unfolding declaration_at
  declaration_at-taking n = then_taking _ base_at-taking (λ b. then_local _ (listed_local (λ n. n) (λ n. le_refl n) (local_at-local n) []) (λ ls. gives_local (record { base = b; locals = ls })))

  deep_expr_at-local : (n : ℕ) → IsLocal (deep_expr_at n)
  deep_expr_at-local zero = refused_local (begins_expr-first C)
  deep_expr_at-local (suc n) = e C n

  condition_at-local : (n : ℕ) → IsLocal (condition_at n)
  unfolding condition_at
  condition_at-local n = behind_local signs.OpenParenthesis (then_local _ (deep_expr_at-local n) (λ c. behind_local signs.CloseParenthesis (gives_local c)))

  ended_at-local : (n : ℕ) (s : Sign) → IsLocal (ended_at n s)
  unfolding ended_at
  ended_at-local n s = if_local (begins_sign-first s) (dropped (gives_local None)) (then_local _ (e C n) (λ x. behind_local s (gives_local (Some x))))

  start_at-local : (n : ℕ) → IsLocal (start_at n)
  unfolding start_at
  start_at-local n = if_local (begins_sign-first signs.Semicolon) (dropped (gives_local NoStart))
      (if_local begins_base-first (then_local _ (declaration_at-taking n).local (λ x. behind_local signs.Semicolon (gives_local (Declares x))))
      (then_local _ (e C n) (λ x. behind_local signs.Semicolon (gives_local (Evaluates x)))))

  evaluated_at-taking : (n : ℕ) → IsTaking (evaluated_at n)
  unfolding evaluated_at
  evaluated_at-taking n = then_takes _ (e C n) (λ x. behind_taking signs.Semicolon (gives_local (Evaluated x)))

  part_at-local : (b : Option Blocks) → AreLocal b → IsLocal (part_at b)
  unfolding part_at
  part_at-local None l = refused_local begins_statement-first
  part_at-local (Some b) l = l.statement

  block_behind-local : (b : Option Blocks) → AreLocal b → IsLocal (block_behind b)
  unfolding block_behind
  block_behind-local None l = if_local (begins_sign-first signs.CloseBrace) (dropped (gives_local [])) (refused_local (or_first begins_base-first begins_statement-first))
  block_behind-local (Some b) l = l.entries

  module _ (n : ℕ) (b : Option Blocks) (l : AreLocal b) where
    else_at-local : (c : Term) (s : Statement) → IsLocal (else_at b c s)
    unfolding else_at behind_else
    else_at-local c s = by_first (le_refl 0) some
      where
        some : (t : Symbol) → IsLocalFrom t (λ symbols. else_at b c s (t ∷ symbols))
        some (symbol.Keyword at keywords.Else) = taken (then_local _ (part_at-local b l) (λ t. gives_local (Alternative c s t)))
        some _ = untaken (gives_local (Conditional c s))

    if_behind-local : IsLocal (if_behind n b)
    unfolding if_behind
    if_behind-local = then_local _ (condition_at-local n) (λ c. then_local _ (part_at-local b l) (λ s. else_at-local c s))

    while_behind-local : IsLocal (while_behind n b)
    unfolding while_behind
    while_behind-local = then_local _ (condition_at-local n) (λ c. then_local _ (part_at-local b l) (λ s. gives_local (Looped c s)))

    do_behind-local : IsLocal (do_behind n b)
    unfolding do_behind
    do_behind-local = then_local _ (part_at-local b l) (λ s. behind_while-local (then_local _ (condition_at-local n) (λ c. behind_local signs.Semicolon (gives_local (Repeated s c)))))

    for_behind-local : IsLocal (for_behind n b)
    unfolding for_behind
    for_behind-local = behind_local signs.OpenParenthesis (then_local _ (start_at-local n) (λ start. then_local _ (ended_at-local n signs.Semicolon)
        (λ test. then_local _ (ended_at-local n signs.CloseParenthesis) (λ step. then_local _ (part_at-local b l) (λ s. gives_local (Counted start test step s))))))

    worded_at-taking : (at : ℕ) (k : Keyword) → IsTakingFrom (symbol.Keyword at k) (λ rest. worded_at n b at k (symbol.Keyword at k ∷ rest) rest)
    unfolding worded_at
    worded_at-taking at keywords.Return = takes_it (then_local _ (ended_at-local n signs.Semicolon) (λ x. gives_local (Returned at x)))
    worded_at-taking at keywords.Break = takes_it (behind_local signs.Semicolon (gives_local (Broken at)))
    worded_at-taking at keywords.Continue = takes_it (behind_local signs.Semicolon (gives_local (Continued at)))
    worded_at-taking at keywords.If = takes_it if_behind-local
    worded_at-taking at keywords.While = takes_it while_behind-local
    worded_at-taking at keywords.Do = takes_it do_behind-local
    worded_at-taking at keywords.For = takes_it for_behind-local
    worded_at-taking at _ = leaves_it (evaluated_at-taking n)

    signed_at-taking : (at : ℕ) (s : Sign) → IsTakingFrom (symbol.Sign at s) (λ rest. signed_at n b s (symbol.Sign at s ∷ rest) rest)
    unfolding signed_at
    signed_at-taking at s = either_takes (same_sign s signs.OpenBrace) (takes_it (then_local _ (block_behind-local b l) (λ block. gives_local (Compound (statements_of block)))))
        (either_takes (same_sign s signs.Semicolon) (takes_it (gives_local Empty)) (leaves_it (evaluated_at-taking n)))

    statement_at-taking : IsTaking (statement_at n b)
    unfolding statement_at
    statement_at-taking = taking_by_first (le_refl 0) tt some
      where
        some : (s : Symbol) → IsTakingFrom s (λ symbols. statement_at n b (s ∷ symbols))
        some (symbol.Keyword at k) = worded_at-taking at k
        some (symbol.Sign at s) = signed_at-taking at s
        some _ = leaves_it (evaluated_at-taking n)

    entry_at-taking : IsTaking (entry_at n b)
    unfolding entry_at
    entry_at-taking = if_taking begins_base-first (then_taking _ (declaration_at-taking n) (λ x. behind_local signs.Semicolon (gives_local (Declared x)))) statement_at-taking

    entries_at-local : IsLocal (entries_at n b)
    unfolding entries_at
    entries_at-local = then_local _ (until_local (begins_sign-first signs.CloseBrace) entry_at-taking []) (λ es. dropped (gives_local es))

  blocks-local : (n : ℕ) → AreLocal (blocks n)
  unfolding blocks
  blocks-local zero = tt
  blocks-local (suc n) = let l = blocks-local n in record { statement = (statement_at-taking n (blocks n) l).local; entries = entries_at-local n (blocks n) l }

  -- ---- external declarations

  parameters_behind-local : IsLocal parameters_behind
  unfolding parameters_behind begins_sign
  parameters_behind-local = by_first (le_refl 0) some
    where
      some : (s : Symbol) → IsLocalFrom s (λ symbols. parameters_behind (s ∷ symbols))
      some (symbol.Keyword at keywords.Void) = taken (behind_local signs.CloseParenthesis (gives_local []))
      some _ = untaken (if_local (begins_sign-first signs.CloseParenthesis) (dropped (gives_local []))
          (then_local _ (listed_local (λ n. n) (λ n. le_refl n) parameter_at-local []) (λ ps. behind_local signs.CloseParenthesis (gives_local ps))))

  definition_behind-local : (n : ℕ) (noted : Bool) → IsLocal (definition_behind n noted)
  unfolding definition_behind
  definition_behind-local n noted = then_local _ (block_behind-local (blocks n) (blocks-local n)) (λ es. gives_local (Some (record { noted = noted; entries = statements_of es })))

  body_at-local : (n : ℕ) → IsLocal (body_at n)
  unfolding body_at begins_sign behind
  body_at-local n = by_first (le_refl 0) some
    where
      some : (s : Symbol) → IsLocalFrom s (λ symbols. body_at n (s ∷ symbols))
      some (symbol.Keyword at keywords.NoteLocals) = taken (behind_local signs.OpenBrace (definition_behind-local n true))
      some _ = untaken (if_local (begins_sign-first signs.Semicolon) (dropped (gives_local None)) (behind_local signs.OpenBrace (definition_behind-local n false)))

  function_behind-local : (n : ℕ) (result : Option Base) (stars : Option Stars) (name : Name) → IsLocal (function_behind n result stars name)
  unfolding function_behind
  function_behind-local n result stars name = then_local _ parameters_behind-local
      (λ ps. then_local _ (body_at-local n) (λ b. gives_local (FunctionDeclared (record { result = result; stars = stars; name = name; parameters = ps; body = b }))))

  globals_behind-local : (base : Base) (first : GlobalDeclarator) → IsLocal (globals_behind base first)
  unfolding globals_behind
  globals_behind-local base first = then_local _ (if_local (begins_sign-first signs.Comma) others (gives_local (first ∷ []))) (λ gs. behind_local signs.Semicolon (gives_local (GlobalsDeclared base gs)))
    where
      others : IsLocal (λ symbols. listed_at global_at (length symbols) (first ∷ []) (drop 1 symbols))
      others = by_first (le_refl 0) (λ s. taken (listed_local (λ n. suc n) (λ n. omega arith) global_at-local (first ∷ [])))

  named_behind-local : (n : ℕ) (base : Base) (p : Option Pointer) (name : Name) → IsLocal (named_behind n base p name)
  unfolding named_behind
  named_behind-local n base p name = each (bare_stars p)
    where
      globals : IsLocal (λ symbols. global_behind p name symbols >>= λ g. globals_behind base g.0 g.1)
      globals = then_local _ (global_behind-local p name) (λ g. globals_behind-local base g)

      each : (o : Option (Option Stars)) → IsLocal (λ symbols. elim o as (λ _. Outcome External) [
        | None ↦ global_behind p name symbols >>= λ g. globals_behind base g.0 g.1
        | (Some stars) ↦ if begins_sign signs.OpenParenthesis symbols then function_behind n (Some base) stars name (drop 1 symbols) else (global_behind p name symbols >>= λ g. globals_behind base g.0 g.1)
      ])
      each None = globals
      each (Some stars) = if_local (begins_sign-first signs.OpenParenthesis) (dropped (function_behind-local n (Some base) stars name)) globals

  declared_behind-local : (n : ℕ) (base : Base) → IsLocal (declared_behind n base)
  unfolding declared_behind
  declared_behind-local n base = then_local _ pointer_at-local (λ p. then_local _ name_at-local (λ x. named_behind-local n base p x))

  void_behind-local : (n : ℕ) → IsLocal (void_behind n)
  unfolding void_behind
  void_behind-local n = stars_local (λ s symbols. name_at symbols >>= λ x. behind signs.OpenParenthesis x.1 >>= λ inner. function_behind n None s x.0 inner)
      (λ s. then_local _ name_at-local (λ x. behind_local signs.OpenParenthesis (function_behind-local n None s x)))

  typed_at-taking : (n : ℕ) → IsTaking (typed_at n)
  unfolding typed_at bare_base_at
  typed_at-taking n = taking_by_first (le_refl 0) tt some
    where
      some : (s : Symbol) → IsTakingFrom s (λ symbols. typed_at n (s ∷ symbols))
      some (symbol.Keyword at keywords.Void) = takes_it (void_behind-local n)
      some _ = leaves_it (then_taking (λ b. declared_behind n b.0 b.1) bare_base_at-taking (λ b. declared_behind-local n b))

  struct_behind-local : (name : Name) → IsLocal (struct_behind name)
  unfolding struct_behind
  struct_behind-local name = then_local _ fields_at-taking.local (λ f. then_local _ (until_local (begins_sign-first signs.CloseBrace) fields_at-taking (f ∷ []))
      (λ fs. dropped (behind_local signs.Semicolon (gives_local (StructDefined name fs)))))

  struct_at-local : (n : ℕ) → IsLocal (struct_at n)
  unfolding struct_at
  struct_at-local n = then_local _ name_at-local (λ x. if_local (begins_sign-first signs.Semicolon) (dropped (gives_local (StructMentioned x)))
      (if_local (begins_sign-first signs.OpenBrace) (dropped (struct_behind-local x)) (declared_behind-local n (base.Struct x))))

  external_at-taking : (n : ℕ) → IsTaking (external_at n)
  unfolding external_at count_leading typed_at bare_base_at
  external_at-taking n = taking_by_first (le_refl 0) tt some
    where
      some : (s : Symbol) → IsTakingFrom s (λ symbols. external_at n (s ∷ symbols))
      some (symbol.Keyword at keywords.Struct) = takes_it (struct_at-local n)
      some _ = leaves_it (leading_taking (typed_at-taking n))

  file_at-local : (n : ℕ) → IsLocal (file_at n)
  unfolding file_at
  file_at-local n = until_local (record { same = λ s rest other. refl }) (external_at-taking n) []

pub file_is_local : ExprIsLocal → FileIsLocal
file_is_local e n = refuses_alike (file_at-local e n)
