use Rattle.std.proofs.Common.{ℕ, List, Option, Bor, sym, subst}
use Rattle.std.specs.Option.{option_map}
use Rattle.kt_typing.specs.Calls.{printed, format_in}
use Rattle.kt_operands.specs.Views.{environment_of, operand_of}
use Rattle.kt_operators.specs.Judged.{Judges}
use Rattle.kt_calls.proofs.Calls.{print-nothing, print-some}
use Rattle.kt_calls.proofs.call.print_form.Goals as goal

pub returns-then-count-eq0 : goal.returns-then-count-eq0
returns-then-count-eq0 c ps h =
    print-nothing (environment_of c.args.env.now) c.args.at c.args.count c.faulty.result (option_map (λ (t : Bor (List ℕ)). t.now) c.args.text) ps c.args.arguments c.if-count-eq0.true h c.faulty.ensures

pub returns-in-Some : goal.returns-in-Some
returns-in-Some c ps h =
    let env = environment_of c.args.env.now in
    print-some env c.args.at c.args.count c.printed.result (option_map (λ (t : Bor (List ℕ)). t.now) c.args.text) ps c.args.arguments c.if-count-eq0.false h
    (λ qs k. subst (λ (o : Option (Bor (List ℕ))). Judges operand_of (printed env c.args.at c.args.count qs (format_in (option_map (λ (t : Bor (List ℕ)). t.now) o))) c.printed.result) (sym c.in-Some.is) (c.printed.ensures qs k))

pub returns-in-None : goal.returns-in-None
returns-in-None c ps h =
    let env = environment_of c.args.env.now in
    print-some env c.args.at c.args.count c.ruled.result (option_map (λ (t : Bor (List ℕ)). t.now) c.args.text) ps c.args.arguments c.if-count-eq0.false h
    (λ qs k. subst (λ (o : Option (Bor (List ℕ))). Judges operand_of (printed env c.args.at c.args.count qs (format_in (option_map (λ (t : Bor (List ℕ)). t.now) o))) c.ruled.result) (sym c.in-None.is) (c.ruled.ensures qs k))
