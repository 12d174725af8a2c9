use Rattle.std.proofs.Common.{◌≡◌, take, length, refl, sym, ap, subst, ◌∙◌, arith, rules, List, ℕ}
use Rattle.kt_statements.specs.Scopes.{Placed}
use Rattle.kt_statements.proofs.Latest.{placed-less}
use Rattle.kt_statements.proofs.Shown.{seen, length-visible, left-is, take-whole}
use Rattle.kt_statements.proofs.scopes.Scopes.leave.Goals as goal

pub loop-self-init : goal.loop-self-init
loop-self-init c =
    let xs = c.args.self.now.locals.items in
    let count = c.requires.count in
    let is = length-visible xs in
    (omega arith, sym (take-whole xs), c.requires.fits.shown, refl, refl)

pub returns-clause-place : goal.returns-clause-place
returns-clause-place c =
    let m = c.args.mark in
    let xs = c.args.self.now.locals.items in
    let ys = c.loop-self.self.locals.items in
    let count = c.requires.count in
    let all = length-visible xs in
    let least = c.loop-self.invariant.0 in
    let most = c.loop-self-test.false in
    let len : c.len.result ≡ length ys = search rules in
    let is : length ys ≡ m.count = omega arith in
    ap (λ n. seen ys m.start n m.in_loop) c.loop-self.invariant.3
    ∙ left-is m xs ys c.args.self.now.start c.args.self.now.next c.args.self.now.in_loop c.requires.start (omega arith) (c.loop-self.invariant.1 ∙ ap (λ n. take n xs) is)

pub returns-clause-fits : goal.returns-clause-fits
returns-clause-fits c =
    let m = c.args.mark in
    let xs = c.args.self.now.locals.items in
    let ys = c.loop-self.self.locals.items in
    let least = c.loop-self.invariant.0 in
    let start = c.requires.start in
    let places = c.loop-self.invariant.4 in
    record {
      start = omega arith;
      count = c.requires.fits.count;
      shown = c.loop-self.invariant.2;
      placed = subst (Placed ys) (sym places) (placed-less xs ys c.args.self.now.places.items (length ys) c.requires.fits.placed c.loop-self.invariant.1);
      told = ap (λ (ps : List ℕ). length ps) places ∙ c.requires.fits.told ∙ sym c.loop-self.invariant.3;
    }
