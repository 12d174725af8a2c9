use Rattle.std.proofs.Common.{◌++◌, not, ◌&&◌, is_some, ap, ◌∙◌}
use Rattle.kt_typing.specs.Calls.{builtin_named}
use Rattle.kt_program.specs.Scopes.{contains}
use Rattle.kt_declarations.specs.Met.{kept, routine_names}
use Rattle.kt_declarations.proofs.Declared.{free-is}
use Rattle.kt_declarations.proofs.globals.Globals.declare_one.Goals as goal

pub returns-clause-fault : goal.returns-clause-fault
returns-clause-fault c b are same =
    c.global_fault-fault.ensures (b.globals ++ routine_names b.functions) b.cells
    (free-is c.args.self.now.names b.globals (routine_names b.functions) c.args.functions.now c.args.g.now.declarator.name.word (is_some (builtin_named c.args.g.now.declarator.name.word)) c.in_ok-is_new.is_new c.is_free-free.result are.same same (c.in_ok-is_new.ensures.is_new ∙ ap (λ n. not (contains c.args.self.now.names n)) c.as_bytes-name.ensures.bytes) (c.is_free-free.ensures ∙ ap (λ n. c.in_ok-is_new.is_new && not (is_some (builtin_named n)) && not (is_some (kept c.args.functions.now n))) c.as_bytes-name.ensures.bytes))
    are.count
