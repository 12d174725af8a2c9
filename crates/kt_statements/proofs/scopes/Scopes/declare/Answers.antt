use Rattle.std.proofs.Common.{◌∷◌, [], length, ap, refl, arith, length-append, List, ℕ, ◌+◌, sym, rules, ◌∙◌}
use Rattle.kt_statements.specs.declared.scopes.Local.{Local}
use Rattle.kt_statements.specs.Scopes.{body_of, meaning_in, latest_first}
use Rattle.kt_statements.proofs.Latest.{placed-more}
use Rattle.kt_statements.proofs.Shown.{shows-more, one-shown, declared-is}
use Rattle.kt_statements.proofs.scopes.Scopes.declare.Goals as goal

pub returns-clause-fits : goal.returns-clause-fits
returns-clause-fits c =
    let env = (body_of c.args.body.now).environment in
    let s = c.args.self.now in
    let l : Local = record { name = c.args.name; number = s.next; hides = c.in_ok-hides.hides } in
    let grows = c.in_ok-push-2.ensures.items in
    let count = length-append s.locals.items (l ∷ []) in
    let is = ap length grows in
    let start = c.requires.fits.start in
    record {
      start = omega arith;
      count = c.requires.fits.count;
      placed = placed-more s.locals.items c.push-2.new.self.items s.places.items c.push.new.self.items l c.len-place.result c.requires.fits.placed grows c.in_ok-push.ensures.items (search rules) (sym c.requires.fits.told);
      told = ap (λ (ps : List ℕ). length ps) c.in_ok-push.ensures.items ∙ length-append s.places.items (c.len-place.result ∷ []) ∙ ap (λ n. n + 1) c.requires.fits.told;
      shown = one-shown env.scope.locals env.name (meaning_in c.hide.new.names.entries) c.push-2.new.self.items s.locals.items l grows
          (shows-more env.scope.locals env.name (meaning_in s.names.entries) (meaning_in c.hide.new.names.entries) l (latest_first s.locals.items) c.local_type-ty.result
          c.requires.fits.shown c.local_type-ty.ensures c.in_ok-hides.ensures.before c.in_ok-hides.ensures.ok);
    }

pub returns-clause-place : goal.returns-clause-place
returns-clause-place c =
    let s = c.args.self.now in
    let l : Local = record { name = c.args.name; number = s.next; hides = c.in_ok-hides.hides } in
    declared-is s.locals.items c.push-2.new.self.items l s.start s.next s.in_loop c.requires.fits.start c.in_ok-push-2.ensures.items refl
