use Rattle.std.proofs.Common.{◌==◌, ◌+◌, map, drop, ◌∙◌, sym, subst}
use Rattle.kt_syntax.specs.declared.tree.GlobalDeclarator.{GlobalDeclarator}
use Rattle.kt_operands.specs.Views.{environment_of}
use Rattle.kt_program.specs.Mentioned.{stars_of}
use Rattle.kt_declarations.proofs.Declared.{Reached, begins, goes-on, front, any-map}
use Rattle.kt_declarations.proofs.globals.Globals.declare.Goals as goal

pub loop-g-init : goal.loop-g-init
loop-g-init c =
    let gs = c.args.declarators.now in
    begins (environment_of c.args.env.now) c.args.base.now gs c.args.self.now c.args.functions.now c.base_fault-fault.result
    (c.base_fault-fault.ensures (map (λ (g : GlobalDeclarator). stars_of g.declarator.pointer) gs)
    (any-map (λ (g : GlobalDeclarator). stars_of g.declarator.pointer) (λ n. n == 0) gs ∙ sym c.has_value-by_value.ensures))

pub loop-g-preserved : goal.loop-g-preserved
loop-g-preserved c =
    let env = environment_of c.args.env.now in
    let gs = c.args.declarators.now in
    let i = c.loop-g.g-index in
    goes-on env c.args.base.now gs c.args.self.now c.args.functions.now c.loop-g.self c.declare_one.new.self c.loop-g.fault c.in_ok-broken.broken c.earlier-fault.result
    c.g-item.result (drop (i + 1) gs) c.earlier-fault.ensures
    (subst (λ xs. Reached env c.args.base.now gs c.args.self.now c.loop-g.self c.args.functions.now c.loop-g.fault xs) (front gs i c.g-item.result c.loop-g-test.true c.g-item.is) c.loop-g.invariant)
    c.in_ok-broken.ensures.fault c.in_ok-broken.ensures.behind
