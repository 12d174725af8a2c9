use Rattle.std.proofs.Common.{Ok}
use Rattle.kt_names.specs.Checked.{Checked}
use Rattle.kt_names.specs.Operands.{Operand, Value}
use Rattle.kt_names.specs.Views.{environment_of, operand_of}
use Rattle.kt_terms.specs.Specials.{counted_of, counted_type, elements}
use Rattle.kt_names.proofs.Parts.{after_typed, after_fault}
use Rattle.kt_terms.proofs.memory.allocated_at.Goals as goal

pub returns-in-Ok : goal.returns-in-Ok
returns-in-Ok c s h =
    let env = environment_of c.args.env.now in
    let k : Value × Unit {0} → Checked Operand = λ x. Ok (elements env c.args.t c.args.zeros x.0) in
    after_typed counted_of operand_of c.counted_type.result c.in-Ok.parts c.elements.result k c.in-Ok.is c.elements.ensures (counted_type env c.args.place c.args.t s) (c.counted_type.ensures s h)

pub returns-in-Err : goal.returns-in-Err
returns-in-Err c s h =
    let env = environment_of c.args.env.now in
    let k : Value × Unit {0} → Checked Operand = λ x. Ok (elements env c.args.t c.args.zeros x.0) in
    after_fault counted_of c.counted_type.result c.in-Err.fault k c.in-Err.is (counted_type env c.args.place c.args.t s) (c.counted_type.ensures s h)
