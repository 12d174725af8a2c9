use Rattle.std.proofs.Common.{◌≡◌, ◌≤◌, ◌∙◌, sym, length, arith}
use Rattle.std.proofs.lemmas.List.{length-reverse, take_rest}
use Rattle.kt_code.proofs.Turned.{reverse-take}
use Rattle.kt_code.proofs.operands.Operands.last.Goals as goal

pub returns : goal.returns
returns c =
    let n : length c.args.self.now ≡ length c.self.inside.items.items = rw (← c.self.view_is) (length-reverse c.self.inside.items.items) in
    let h : c.args.count ≤ length c.self.inside.items.items = omega arith in
    rw (c.as_slice-items.ensures.value, ← c.self.view_is)
    (take_rest c.self.inside.items.items _ ∙ sym (reverse-take c.args.count c.self.inside.items.items h))
