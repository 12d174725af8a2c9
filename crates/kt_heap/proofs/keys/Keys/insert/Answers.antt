use Rattle.std.proofs.Common.{◌≡◌, List, set, ◌∙◌, ap, subst, arith, inl}
use Rattle.std.specs.Prelude.{slice_get}
use Rattle.std.proofs.lemmas.List.{length-map, length-set}
use Rattle.kt_heap.specs.declared.keys.Key.{Key}
use Rattle.kt_heap.specs.declared.keys.Key.TheVariants.{Used, Free}
use Rattle.kt_heap.specs.Chain.{place_of, link_of, IsChained}
use Rattle.kt_heap.proofs.Chains.{get_within, place_there, put_set, chained_use, first_is_free, all_used}
use Rattle.kt_heap.proofs.keys.Keys.insert.Goals as goal

pub index_mut-requires : goal.index_mut-requires
index_mut-requires c =
    let keys = c.self.inside.items.items in
    let there = first_is_free keys c.in-Some.key (subst (IsChained keys) c.in-Some.is c.self.invariant.0) in
    omega (arith, get_within keys c.in-Some.key (Free there.0) there.1)

pub invariant_of-self : goal.invariant_of-self
invariant_of-self c =
    let keys = c.self.inside.items.items in
    let key = c.in-Some.key in
    let next : c.link-self-inside.result ≡ link_of (slice_get keys key) = c.link-self-inside.ensures ∙ ap (λ (ks : List Key). link_of (slice_get ks key)) c.as_slice.ensures.value in
    (chained_use keys key c.args.place (subst (IsChained keys) c.in-Some.is c.self.invariant.0) c.link-self-inside.result next, omega (arith, length-set keys key (Used c.args.place), c.self.invariant.1))

pub returns-in-Some-clause-narrow : goal.returns-in-Some-clause-narrow
returns-in-Some-clause-narrow c =
    let keys = c.self.inside.items.items in
    let there = first_is_free keys c.in-Some.key (subst (IsChained keys) c.in-Some.is c.self.invariant.0) in
    omega (arith, c.self.invariant.1, get_within keys c.in-Some.key (Free there.0) there.1)

pub returns-in-Some-clause-free : goal.returns-in-Some-clause-free
returns-in-Some-clause-free c =
    let keys = c.self.inside.items.items in
    let there = first_is_free keys c.in-Some.key (subst (IsChained keys) c.in-Some.is c.self.invariant.0) in
    rw (← c.self.view_is) (place_there keys c.in-Some.key (Free there.0) there.1)

pub returns-in-Some-clause-used : goal.returns-in-Some-clause-used
returns-in-Some-clause-used c =
    let keys = c.self.inside.items.items in
    let there = first_is_free keys c.in-Some.key (subst (IsChained keys) c.in-Some.is c.self.invariant.0) in
    rw (← c.self.view_is) (put_set keys c.in-Some.key (Used c.args.place) (get_within keys c.in-Some.key (Free there.0) there.1))

pub returns-in-Some-clause-taken : goal.returns-in-Some-clause-taken
returns-in-Some-clause-taken c =
    let keys = c.self.inside.items.items in
    let key = c.in-Some.key in
    let there = first_is_free keys key (subst (IsChained keys) c.in-Some.is c.self.invariant.0) in
    let within = get_within keys key (Free there.0) there.1 in
    rw (← c.self.view_is) (inl (omega (arith, within, length-map keys place_of), omega (arith, length-map keys place_of, length-map (set keys key (Used c.args.place)) place_of, length-set keys key (Used c.args.place))))

pub push-requires : goal.push-requires
push-requires c =
    let keys = c.self.inside.items.items in
    rw (← c.self.view_is) (all_used keys (subst (IsChained keys) c.in-None.is c.self.invariant.0))
