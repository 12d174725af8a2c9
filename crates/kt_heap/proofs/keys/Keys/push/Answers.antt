use Rattle.std.proofs.Common.{◌≡◌, ℕ, [], ◌∷◌, ◌++◌, map, length, subst, arith, inr, Some}
use Rattle.std.proofs.lemmas.List.{length-map, length_push}
use Rattle.kt_heap.specs.declared.keys.Key.TheVariants.{Used}
use Rattle.kt_heap.specs.Keys.{IsKeyPut}
use Rattle.kt_heap.specs.Chain.{place_of}
use Rattle.kt_heap.proofs.Chains.{place_past, put_push, chained_push}
use Rattle.kt_heap.proofs.keys.Keys.push.Goals as goal

pub invariant_of-self-2 : goal.invariant_of-self-2
invariant_of-self-2 c =
    let keys = c.self.inside.items.items in
    rw c.in_ok-push.ensures.items (chained_push keys c.self.inside.first c.args.place c.self.invariant.0, omega (arith, length_push keys (Used c.args.place)))

pub returns-clause-free : goal.returns-clause-free
returns-clause-free c =
    let keys = c.self.inside.items.items in
    rw (← c.self.view_is) (place_past keys c.len-key.result (omega arith))

pub returns-clause-used : goal.returns-clause-used
returns-clause-used c =
    let keys = c.self.inside.items.items in
    let end : length keys ≡ c.len-key.result = omega arith in
    rw (← c.self.view_is, c.in_ok-push.ensures.items) (subst (λ (k : ℕ). IsKeyPut (map place_of keys) (map place_of (keys ++ Used c.args.place ∷ [])) k (Some c.args.place)) end (put_push keys (Used c.args.place)))

pub returns-clause-taken : goal.returns-clause-taken
returns-clause-taken c =
    let keys = c.self.inside.items.items in
    let used = rw (← c.self.view_is) at c.requires in
    rw (← c.self.view_is, c.in_ok-push.ensures.items) (inr (omega (arith, length-map keys place_of), omega (arith, length-map keys place_of, length_push keys (Used c.args.place), length-map (keys ++ Used c.args.place ∷ []) place_of), used))
