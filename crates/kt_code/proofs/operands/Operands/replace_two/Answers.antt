use Rattle.std.proofs.Common.{◌≡◌, ◌-◌, suc, length, arith}
use Rattle.std.proofs.lemmas.List.{length-reverse}
use Rattle.kt_code.proofs.Turned.{reverse-set_below}
use Rattle.kt_code.proofs.operands.Operands.replace_two.Goals as goal

pub returns : goal.returns
returns c =
    let items = c.self.inside.items.items in
    let left = c.take_last.new.self in
    let n : length c.args.self.now ≡ length items = rw (← c.self.view_is) (length-reverse items) in
    let all = c.self.inside.items.ok.0 in
    let rest = left.ok.0 in
    let h : suc (c.len-last.result - 1) ≡ length left.items = omega arith in
    rw (← c.self.view_is) (reverse-set_below items left.items (c.len-last.result - 1) c.take_last.result c.args.value c.take_last.ensures.items h)
