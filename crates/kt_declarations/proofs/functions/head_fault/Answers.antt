use Rattle.std.proofs.Common.{◌&&◌, ◌||◌, not, is_some, ap, ◌∙◌}
use Rattle.kt_syntax.specs.Tree.{routine_of}
use Rattle.kt_typing.specs.declared.fault.Kind.TheVariants as kind
use Rattle.kt_typing.specs.Calls.{builtin_named}
use Rattle.kt_typing.specs.Faults.{fault_at, bad_type}
use Rattle.kt_operands.specs.Views.{environment_of}
use Rattle.kt_program.specs.Declarators.{where_not}
use Rattle.kt_program.specs.Functions.{result_complete, is_result, result_place}
use Rattle.kt_program.specs.Scopes.{contains}
use Rattle.kt_declarations.specs.Met.{was_defined}
use Rattle.kt_declarations.proofs.Behind.{bodied, together, head-judged}
use Rattle.kt_declarations.proofs.functions.head_fault.Goals as goal

pub returns : goal.returns
returns c w gs rs same told named =
    let env = environment_of c.args.env.now in
    let r = routine_of c.args.f.now in
    together c.result_complete.result c.where_not-result.result c.where_not-twice.result c.where_not-other.result c.earlier.result c.earlier-2.result c.earlier-3.result
    (result_complete env r.result r) (where_not (is_result env r.result r.stars) (bad_type (result_place r.stars r)))
    (where_not (not c.is_twice-twice.result) (fault_at kind.Twice r.name.at)) (where_not (not c.had_other-mixed.result) (bad_type r.name.at))
    c.earlier-3.ensures c.earlier-2.ensures c.earlier.ensures c.result_complete.ensures
    (c.where_not-result.ensures ∙ (λ i. where_not (c.is_result.ensures i) (bad_type (c.result_place.ensures i))))
    c.where_not-twice.ensures c.where_not-other.ensures
    ∙ head-judged env w gs c.args.globals.now rs r c.args.before same told named c.is_twice-twice.result c.had_other-mixed.result
    (c.is_twice-twice.ensures ∙ ap (λ b. (is_some (builtin_named c.args.f.now.name.word) || contains c.args.globals.now c.args.f.now.name.word) || (b && was_defined c.args.before)) (bodied c.args.f.now.body)) c.had_other-mixed.ensures
