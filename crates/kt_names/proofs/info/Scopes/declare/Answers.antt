use Rattle.std.proofs.Common.{[], ◌∷◌, refl, arith, rules}
use Rattle.kt_names.proofs.Visibles.{declared-by}
use Rattle.kt_names.proofs.info.Scopes.declare.Goals as goal

pub returns-in_ok-push-in-Some-clause-declared : goal.returns-in_ok-push-in-Some-clause-declared
returns-in_ok-push-in-Some-clause-declared c =
    let s = c.args.self.now in
    let p = c.in_ok-push-in-Some.ensures.pushed in
    declared-by s.visible c.push.new.self s.start s.next c.in-Some.next p.0 c.args.name.now p.1 (search rules) p.3 p.2 (search rules)

pub returns-in_ok-push-in-Some-clause-grown : goal.returns-in_ok-push-in-Some-clause-grown
returns-in_ok-push-in-Some-clause-grown c =
    let p = c.in_ok-push-in-Some.ensures.pushed in
    (p.0 ∷ [], p.1, refl)
