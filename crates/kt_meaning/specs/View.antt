-- What the code's threads are as plain data.
use Rattle.std.specs.Prelude.{map}
use Rattle.std.specs.Option.{option_map}
use Rattle.kt_tree.specs.Tree.{expression_of, expressions_of, statement_of, statements_of}
use Rattle.kt_meaning.specs.declared.part.Part as rust-part
use Rattle.kt_meaning.specs.declared.part.Part.TheVariants as part
use Rattle.kt_meaning.specs.declared.part.Use as rust-use
use Rattle.kt_meaning.specs.declared.part.Use.TheVariants as purpose
use Rattle.kt_meaning.specs.declared.part.Waiting as rust-waiting
use Rattle.kt_meaning.specs.declared.part.Waiting.TheVariants as waiting
use Rattle.kt_meaning.specs.declared.thread.TreeFrame.{TreeFrame}
use Rattle.kt_meaning.specs.declared.thread.TreeThread.{TreeThread}
use Rattle.kt_meaning.specs.Thread.{Use, Operates, Asks, Enters, Waiting, Drops, Sets, Swaps, Awaits, Fetches, Changes, AndThen, OrElse, Truths, Picks, Branches, Loops, Repeats, Returns, Part, Eval, Have, Wait, Do, Run, Next, Again, Frame, Thread}

abbrev pub use_of : rust-use.Use → Use
use_of (purpose.Operates op t) = Operates op t
use_of (purpose.Asks r t) = Asks r t
use_of (purpose.Enters g) = Enters g

abbrev pub waiting_of : rust-waiting.Waiting → Waiting
waiting_of waiting.Drops = Drops
waiting_of (waiting.Sets n) = Sets n
waiting_of (waiting.Swaps n) = Swaps n
waiting_of (waiting.Awaits u vs es) = Awaits (use_of u) vs (expressions_of es)
waiting_of (waiting.Fetches op own t old e) = Fetches op own t old (expression_of e)
waiting_of (waiting.Changes op own t old p v) = Changes op own t old p v
waiting_of (waiting.AndThen e) = AndThen (expression_of e)
waiting_of (waiting.OrElse e) = OrElse (expression_of e)
waiting_of waiting.Truths = Truths
waiting_of (waiting.Picks a b) = Picks (expression_of a) (expression_of b)
waiting_of (waiting.Branches a b) = Branches (statement_of a) (statement_of b)
waiting_of (waiting.Loops test step body) = Loops (option_map expression_of test) (option_map expression_of step) (statement_of body)
waiting_of (waiting.Repeats body c) = Repeats (statement_of body) (expression_of c)
waiting_of waiting.Returns = Returns

abbrev pub part_of : rust-part.Part → Part
part_of (part.Eval e) = Eval (expression_of e)
part_of (part.Have v) = Have v
part_of (part.Wait q) = Wait (waiting_of q)
part_of (part.Do a) = Do (statement_of a)
part_of (part.Run block) = Run (statements_of block)
part_of (part.Next test step body) = Next (option_map expression_of test) (option_map expression_of step) (statement_of body)
part_of (part.Again body c) = Again (statement_of body) (expression_of c)

abbrev pub frame_of : TreeFrame → Frame
frame_of f = record { function = f.function; locals = f.locals; work = map part_of f.work }

abbrev pub thread_of : TreeThread → Thread
thread_of t = record { frames = map frame_of t.frames; restart = record { mode = t.mode; kept = t.locals } }
