-- A measure that each quiet step of a thread lowers: how much of its work is left up to the next tick. A loop's test comes
-- after a tick or at most once before one, and a call begins with one.
use Rattle.std.specs.Prelude.{ℕ, ◌+◌, List, [], ◌∷◌, Option, None, Some}
use Rattle.kt_tree.specs.Tree.{Expression, Constant', LocalRead, LocalSet, LocalSwapped, Operated, Requested, Modified, Both, Either, Chosen, Called, Expressions, NoMore, More, Statement, Evaluated, Undefined, Compound, Conditional, Looped, Repeated, Returned, Broken, Continued, Statements, Done, Then}
use Rattle.kt_meaning.specs.Steps.{settle_by}
use Rattle.kt_meaning.specs.Thread.{Waiting, Drops, Sets, Swaps, Awaits, Fetches, Changes, AndThen, OrElse, Truths, Picks, Branches, Loops, Repeats, Returns, Part, Eval, Have, Wait, Do, Run, Next, Again, Work, Frame, Thread}
use Rattle.kt_meaning.specs.TreeSteps.{Version, step}

abbrev mutual
  pub expression_weight : Expression → ℕ
  expression_weight (Constant' c t) = 2
  expression_weight (LocalRead n) = 2
  expression_weight (LocalSet n e) = expression_weight e + 2
  expression_weight (LocalSwapped n e) = expression_weight e + 2
  expression_weight (Operated op t es) = expressions_weight es + 1
  expression_weight (Requested r t es) = expressions_weight es + 1
  expression_weight (Modified op own t old p e) = expression_weight p + 2
  expression_weight (Both a b) = expression_weight a + expression_weight b + 2
  expression_weight (Either a b) = expression_weight a + expression_weight b + 2
  expression_weight (Chosen c t a b) = expression_weight c + expression_weight a + expression_weight b + 2
  expression_weight (Called g es) = expressions_weight es + 1

  pub expressions_weight : Expressions → ℕ
  expressions_weight NoMore = 1
  expressions_weight (More e es) = expression_weight e + expressions_weight es

abbrev pub optional_weight : Option Expression → ℕ
optional_weight None = 0
optional_weight (Some e) = expression_weight e

abbrev mutual
  pub statement_weight : Statement → ℕ
  statement_weight (Evaluated e) = expression_weight e + 2
  statement_weight (Undefined n) = 1
  statement_weight (Compound block) = block_weight block + 1
  statement_weight (Conditional c a b) = expression_weight c + statement_weight a + statement_weight b + 2
  statement_weight (Looped test step body) = optional_weight test + 2
  statement_weight (Repeated body c) = 1
  statement_weight (Returned e) = optional_weight e + 2
  statement_weight Broken = 1
  statement_weight Continued = 1

  pub block_weight : Statements → ℕ
  block_weight Done = 1
  block_weight (Then a block) = statement_weight a + block_weight block + 1

abbrev pub waiting_weight : Waiting → ℕ
waiting_weight Drops = 1
waiting_weight (Sets n) = 1
waiting_weight (Swaps n) = 1
waiting_weight (Awaits purpose vs es) = expressions_weight es
waiting_weight (Fetches op own t old e) = 1
waiting_weight (Changes op own t old p v) = 1
waiting_weight (AndThen b) = expression_weight b + 1
waiting_weight (OrElse b) = expression_weight b + 1
waiting_weight Truths = 1
waiting_weight (Picks a b) = expression_weight a + expression_weight b
waiting_weight (Branches a b) = statement_weight a + statement_weight b
waiting_weight (Loops test step body) = 1
waiting_weight (Repeats body c) = 1
waiting_weight Returns = 1

abbrev pub part_weight : Part → ℕ
part_weight (Eval e) = expression_weight e
part_weight (Have v) = 1
part_weight (Wait k) = waiting_weight k
part_weight (Do a) = statement_weight a
part_weight (Run block) = block_weight block
part_weight (Next test step body) = optional_weight step + optional_weight test + 4
part_weight (Again body c) = expression_weight c + 2

abbrev pub work_weight : Work → ℕ
work_weight [] = 0
work_weight (p ∷ w) = part_weight p + work_weight w

abbrev pub frames_weight : List Frame → ℕ
frames_weight [] = 0
frames_weight (f ∷ below) = work_weight f.work + frames_weight below + 2

abbrev pub thread_weight : Thread → ℕ
thread_weight t = frames_weight t.frames

-- settling: the thread after all quiet steps up to its next act, trap or end
unfoldable pub settle : Version → Thread → Thread
settle s = settle_by (step s) thread_weight
