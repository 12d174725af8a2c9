use Rattle.std.proofs.Common.{◌≡◌, ◌+◌, arith, [], ◌∷◌, map, drop, reverse, Err, sym, subst}
use Rattle.kt_operands.specs.Judged.{Follows, found}
use Rattle.std.proofs.lemmas.List.{map-append}
use Rattle.kt_operands.specs.Views.{scope_of, operand_of, value_of}
use Rattle.kt_typing.specs.Calls.{converted_all}
use Rattle.kt_calls.specs.Arguments.{joined, operands_of, values_of}
use Rattle.kt_calls.proofs.Converted.{goes-on, stops, lacks, is-nil}
use Rattle.kt_calls.proofs.values.converted_all.Goals as goal

pub returns-in-Err : goal.returns-in-Err
returns-in-Err c =
    stops (scope_of c.args.env.now) c.args.at (values_of c.loop-ty.values) c.args.parameters.now c.loop-ty.ty-index c.loop-ty.arguments.items (converted_all (scope_of c.args.env.now) c.args.parameters.now (operands_of c.args.arguments))
    c.loop-ty-test.true c.loop-ty.invariant c.pop.new.self.items c.in-Some.x c.in-Some.ensures.items value_of values_of c.in-Err.e c.in-Err.ensures

pub returns-in-None : goal.returns-in-None
returns-in-None c =
    let whole = converted_all (scope_of c.args.env.now) c.args.parameters.now (operands_of c.args.arguments) in
    subst (λ e. Follows values_of (found c.args.at whole) (Err e)) (sym c.bad_type.ensures)
    (lacks (scope_of c.args.env.now) c.args.at (values_of c.loop-ty.values) c.args.parameters.now c.loop-ty.ty-index c.loop-ty.arguments.items whole
    values_of c.loop-ty-test.true c.loop-ty.invariant (is-nil c.loop-ty.arguments.items (grind (arith, c.in-None.ensures.cases.0))))

pub loop-ty-preserved : goal.loop-ty-preserved
loop-ty-preserved c =
    subst (λ vs. joined (map value_of vs) (converted_all (scope_of c.args.env.now) (drop (c.loop-ty.ty-index + 1) c.args.parameters.now) (map operand_of (reverse c.pop.new.self.items))) ≡ converted_all (scope_of c.args.env.now) c.args.parameters.now (operands_of c.args.arguments))
    (sym c.in_ok-push-in-Ok.ensures.items)
    (subst (λ vs. joined vs (converted_all (scope_of c.args.env.now) (drop (c.loop-ty.ty-index + 1) c.args.parameters.now) (map operand_of (reverse c.pop.new.self.items))) ≡ converted_all (scope_of c.args.env.now) c.args.parameters.now (operands_of c.args.arguments))
    (sym (map-append value_of c.loop-ty.values.items (c.in-Ok.value ∷ [])))
    (goes-on (scope_of c.args.env.now) c.args.at (values_of c.loop-ty.values) c.args.parameters.now c.loop-ty.ty-index c.loop-ty.arguments.items (converted_all (scope_of c.args.env.now) c.args.parameters.now (operands_of c.args.arguments))
    c.loop-ty-test.true c.loop-ty.invariant c.pop.new.self.items c.in-Some.x c.in-Some.ensures.items (value_of c.in-Ok.value) c.in-Ok.ensures))
