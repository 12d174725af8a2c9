use Rattle.std.proofs.Common.{map}
use Rattle.std.specs.Option.{option_map}
use Rattle.kt_grammar.specs.Tree.{term_of}
use Rattle.kt_syntax.specs.Tree.{start_of}
use Rattle.kt_tree.specs.Tree.{statement_of}
use Rattle.kt_names.specs.declared.head.Head.{Head}
use Rattle.kt_names.specs.Statements.{start}
use Rattle.kt_names.specs.Scopes.{state_of, body_of, head_of}
use Rattle.kt_names.proofs.Parts.{judges-follows}
use Rattle.kt_check.proofs.Entries.{head_then, head-is}
use Rattle.kt_check.proofs.statement.head.Goals as goal

pub returns-in-Ok-clause-judged : goal.returns-in-Ok-clause-judged
returns-in-Ok-clause-judged c =
    let body = body_of c.args.body.now in
    let st = state_of c.start.new.scopes in
    let test = option_map term_of c.args.tested.now in
    let step = option_map term_of c.args.stepped.now in
    let fs = map statement_of c.in-Ok.first in
    judges-follows (λ (h : Head). (head_of h, st)) c.head_behind.result (start body (state_of c.args.scopes.now) (start_of c.args.first.now)) (head_then body test step) (fs, st)
    c.in-Ok.ensures.judged (head-is body fs st test step c.head_behind.result c.head_behind.ensures)
