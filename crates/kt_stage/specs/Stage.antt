-- Which requests a tree asks, and which versions run so far: those with one thread; and which of them may be updated.
use Rattle.std.specs.Prelude.{Bool, true, false, not, ◌&&◌, ◌||◌, Option, None, Some}
use Rattle.std.specs.List.{list_all, list_any}
use Rattle.kt_tree.specs.declared.expr.Request.{Request}
use Rattle.kt_tree.specs.declared.expr.Request.TheVariants as request
use Rattle.kt_tree.specs.Tree.{Expression, Constant', LocalRead, LocalSet, LocalSwapped, Operated, Requested, Modified, Both, Either, Chosen, Called, Expressions, NoMore, More, Statement, Evaluated, Undefined, Compound, Conditional, Looped, Repeated, Returned, Broken, Continued, Statements, Done, Then, Function}
use Rattle.kt_tree.specs.Version.{Program}
use Rattle.kt_lone.specs.Update.{is_int}

-- some request in the expression is one of these; what `x op= e` does with memory is no request
abbrev mutual
  pub expression_asks : (Request → Bool) → Expression → Bool
  expression_asks these (Constant' c t) = false
  expression_asks these (LocalRead n) = false
  expression_asks these (LocalSet n e) = expression_asks these e
  expression_asks these (LocalSwapped n e) = expression_asks these e
  expression_asks these (Operated op t es) = expressions_ask these es
  expression_asks these (Requested r t es) = these r || expressions_ask these es
  expression_asks these (Modified op own t old p e) = expression_asks these p || expression_asks these e
  expression_asks these (Both a b) = expression_asks these a || expression_asks these b
  expression_asks these (Either a b) = expression_asks these a || expression_asks these b
  expression_asks these (Chosen c t a b) = expression_asks these c || (expression_asks these a || expression_asks these b)
  expression_asks these (Called g es) = expressions_ask these es

  pub expressions_ask : (Request → Bool) → Expressions → Bool
  expressions_ask these NoMore = false
  expressions_ask these (More e es) = expression_asks these e || expressions_ask these es

abbrev pub optional_asks : (Request → Bool) → Option Expression → Bool
optional_asks these None = false
optional_asks these (Some e) = expression_asks these e

-- some request in the statement is one of these
abbrev mutual
  pub statement_asks : (Request → Bool) → Statement → Bool
  statement_asks these (Evaluated e) = expression_asks these e
  statement_asks these (Undefined n) = false
  statement_asks these (Compound block) = statements_ask these block
  statement_asks these (Conditional c a b) = expression_asks these c || (statement_asks these a || statement_asks these b)
  statement_asks these (Looped test step body) = optional_asks these test || (optional_asks these step || statement_asks these body)
  statement_asks these (Repeated body c) = statement_asks these body || expression_asks these c
  statement_asks these (Returned e) = optional_asks these e
  statement_asks these Broken = false
  statement_asks these Continued = false

  pub statements_ask : (Request → Bool) → Statements → Bool
  statements_ask these Done = false
  statements_ask these (Then a block) = statement_asks these a || statements_ask these block

abbrev pub function_asks : (Request → Bool) → Function → Bool
function_asks these f = statement_asks these f.body

-- some request in the program is one of these
abbrev pub program_asks : (Request → Bool) → Program → Bool
program_asks these p = list_any (function_asks these) p.functions

-- a request for another thread, or for a lock
abbrev pub is_threaded : Request → Bool
is_threaded (request.Create f) = true
is_threaded request.Join = true
is_threaded request.Lock = true
is_threaded request.Unlock = true
is_threaded request.InitMutex = true
is_threaded _ = false

-- the program asks for no other thread and no lock
abbrev pub runs_alone : Program → Bool
runs_alone p = not (program_asks is_threaded p)

-- each global is one that an update keeps, of type `int` and no array, and no function is written with `E_NOTELOCALS`
abbrev pub keeps_only_ints : Program → Bool
keeps_only_ints p = list_all is_int p.globals && not (list_any (λ f. f.noted) p.functions)

-- the program may be updated, and may come of an update
abbrev pub runs_updated : Program → Bool
runs_updated p = runs_alone p && keeps_only_ints p
