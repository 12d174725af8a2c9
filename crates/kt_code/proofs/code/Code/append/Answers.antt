use Rattle.std.proofs.Common.{◌≡◌, ◌++◌, length, refl, sym, subst, arith}
use Rattle.std.proofs.lemmas.List.{length-append}
use Rattle.kt_code.specs.Settling.{HasJumps, HasPlaces}
use Rattle.kt_code.proofs.code.Code.append.Goals as goal

pub invariant_of-self-2 : goal.invariant_of-self-2
invariant_of-self-2 c =
    let before = c.args.self.now.instrs in
    let e : c.append.new.self ≡ before ++ c.args.more.items = rw (c.in_ok-append.ensures.ok, ← c.self.view_is) in
    let l = length-append before c.args.more.items in
    let here : length before ≡ length c.as_slice.result.now = rw (c.as_slice.ensures, ← c.self.view_is) refl in
    let many = c.args.more.ok.0 in
    let within : HasPlaces before = rw (← c.self.view_is) c.self.invariant.1 in
    let places : HasPlaces (before ++ c.args.more.items) = omega (arith, l, here, many, within) in
    (subst HasJumps (sym e) c.requires, subst HasPlaces (sym e) places)
