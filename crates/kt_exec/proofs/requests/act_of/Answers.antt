use Rattle.std.proofs.Common.{◌≡◌, sym, subst}
use Rattle.std.specs.Prelude.{IfOk}
use Rattle.kt_exec.proofs.Asked.{act_of-single}
use Rattle.kt_exec.proofs.requests.act_of.Goals as goal

pub returns-in-len1 : goal.returns-in-len1
returns-in-len1 c =
    let same = act_of-single c.args.function c.args.request.now c.operand-item.result c.args.values.now c.in_default.not-Print
    c.in-len1.len_at_least c.in-len1.len_below c.operand-item.is in
    let told = rw c.value.ensures at c.act_with.ensures in
    subst (λ r. IfOk c.act_with.result (λ told. told ≡ r)) (sym same) told
