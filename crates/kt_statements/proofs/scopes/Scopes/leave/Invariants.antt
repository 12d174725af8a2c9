use Rattle.std.proofs.Common.{◌≡◌, ◌≤◌, length, take}
use Rattle.kt_statements.specs.Scopes.{Shown}
use Rattle.kt_statements.proofs.scopes.Scopes.leave.Given as goal

abbrev pub decreases-loop-self : goal.decreases-loop-self
decreases-loop-self l = length l.self.locals.items

abbrev pub invariant-loop-self : goal.invariant-loop-self
invariant-loop-self l =
    (l.mark.count ≤ length l.self.locals.items) × (l.self.locals.items ≡ take (length l.self.locals.items) l.initial.self.locals.items)
    × Shown l.body l.self × (l.self.next ≡ l.initial.self.next) × (l.self.places.items ≡ l.initial.self.places.items)
