use Rattle.std.proofs.Common.{◌≡◌, ◌↔◌, ℕ, Option, Some, subst}
use Rattle.std.specs.Borrow.{Bor}
use Rattle.std.specs.Option.{option_map, option_copied}
use Rattle.kt_heap.specs.declared.keyed.Entry.{Entry}
use Rattle.kt_heap.specs.Keyed.{IsObjectAt}
use Rattle.kt_heap.proofs.keyed.Keyed.at_key.Goals as goal

pub returns-in-None : goal.returns-in-None
returns-in-None c =
    subst (λ (r : Option (Bor Entry)). (a : ℕ) → (option_map (λ (e : Entry). e.address) (option_copied r) ≡ Some a) ↔ IsObjectAt c.args.self.now c.args.key a) c.in-None.is c.entry.ensures.own

pub returns-in-Some : goal.returns-in-Some
returns-in-Some c =
    subst (λ (r : Option (Bor Entry)). (a : ℕ) → (option_map (λ (e : Entry). e.address) (option_copied r) ≡ Some a) ↔ IsObjectAt c.args.self.now c.args.key a) c.in-Some.is c.entry.ensures.own
