use Rattle.std.proofs.Common.{◌≡◌, ◌≢◌, ℕ, ◌+◌, ◌*◌, List, Option, None, Some, sym, ◌∙◌, ap, subst, arith}
use Rattle.std.specs.Prelude.{slice_index_or}
use Rattle.slab.specs.Slab.{Slab}
use Rattle.kt_heap.specs.declared.keyed.Entry.{Entry}
use Rattle.kt_heap.specs.Keys.{place_at, key_of, IsKeyTaken}
use Rattle.kt_heap.specs.Keyed.{Keyed}
use Rattle.kt_heap.proofs.Inserts.{inserted_put, inserted_keyed, unused_at, stays_used}
use Rattle.kt_heap.proofs.KeyedLaws.{all_have_objects}
use Rattle.kt_heap.proofs.Addresses.{key_of_address, generation_of_address}
use Rattle.kt_heap.proofs.keyed.Keyed.insert.Goals as goal

-- what the insertion makes of the slab, by the place that the key has
module _ (old reserved new : Slab Entry) (place result : ℕ) (e : Entry) (kept : reserved ≡ record old { capacity = reserved.capacity }) (same : result ≡ place) where
  slots_same : reserved.slots ≡ old.slots
  slots_same = ap (λ (x : Slab Entry). x.slots) kept

  vacant : slice_index_or reserved.slots place None ≡ None → slice_index_or old.slots place None ≡ None
  vacant h = subst (λ (xs : List (Option Entry)). slice_index_or xs place None ≡ None) slots_same h

  there : slice_index_or new.slots result None ≡ Some e → slice_index_or new.slots place None ≡ Some e
  there h = subst (λ (p : ℕ). slice_index_or new.slots p None ≡ Some e) same h

  others : ((p : ℕ) → p ≢ result → slice_index_or new.slots p None ≡ slice_index_or reserved.slots p None) → (p : ℕ) → p ≢ place → slice_index_or new.slots p None ≡ slice_index_or old.slots p None
  others h p ne = h p (λ is. ne (is ∙ same)) ∙ ap (λ (xs : List (Option Entry)). slice_index_or xs p None) slots_same

pub invariant_of-self-2 : goal.invariant_of-self-2
invariant_of-self-2 c =
    let slab = c.self.inside.slab in
    let a = c.from.result + 4294967296 * c.args.generation in
    let e : Entry = record { address = a; obj = c.args.obj } in
    let place = c.vacant_key.result in
    let same = c.insert_reserved.ensures.key ∙ sym c.vacant_key.ensures.value in
    let own : key_of a ≡ c.in_ok-key.key = key_of_address c.from.result c.args.generation (omega (arith, c.in_ok-key.ensures.narrow, c.from.ensures)) ∙ c.from.ensures in
    inserted_keyed (record { slots = slab.slots; keys = c.self.inside.keys }) c.insert_reserved.new.self.slots c.insert.new.self c.in_ok-key.key place e c.self.invariant c.in_ok-key.ensures.free (vacant slab c.reserve.new.self c.insert_reserved.new.self place c.insert_reserved.result e c.reserve.ensures.rest_kept same c.vacant_key.ensures.vacant) (there slab c.reserve.new.self c.insert_reserved.new.self place c.insert_reserved.result e c.reserve.ensures.rest_kept same c.insert_reserved.ensures.updates.changed) (others slab c.reserve.new.self c.insert_reserved.new.self place c.insert_reserved.result e c.reserve.ensures.rest_kept same c.insert_reserved.ensures.updates.others) c.in_ok-key.ensures.used own

pub returns-clause-put : goal.returns-clause-put
returns-clause-put c =
    let slab = c.self.inside.slab in
    let a = c.from.result + 4294967296 * c.args.generation in
    let e : Entry = record { address = a; obj = c.args.obj } in
    let place = c.vacant_key.result in
    let same = c.insert_reserved.ensures.key ∙ sym c.vacant_key.ensures.value in
    let own : key_of a ≡ c.in_ok-key.key = key_of_address c.from.result c.args.generation (omega (arith, c.in_ok-key.ensures.narrow, c.from.ensures)) ∙ c.from.ensures in
    rw (← c.self.view_is) (inserted_put (record { slots = slab.slots; keys = c.self.inside.keys }) c.insert_reserved.new.self.slots c.insert.new.self c.in_ok-key.key place e c.self.invariant c.in_ok-key.ensures.free (vacant slab c.reserve.new.self c.insert_reserved.new.self place c.insert_reserved.result e c.reserve.ensures.rest_kept same c.vacant_key.ensures.vacant) (there slab c.reserve.new.self c.insert_reserved.new.self place c.insert_reserved.result e c.reserve.ensures.rest_kept same c.insert_reserved.ensures.updates.changed) (others slab c.reserve.new.self c.insert_reserved.new.self place c.insert_reserved.result e c.reserve.ensures.rest_kept same c.insert_reserved.ensures.updates.others) c.in_ok-key.ensures.used own)

pub returns-clause-unused : goal.returns-clause-unused
returns-clause-unused c =
    let a = c.from.result + 4294967296 * c.args.generation in
    let own : key_of a ≡ c.in_ok-key.key = key_of_address c.from.result c.args.generation (omega (arith, c.in_ok-key.ensures.narrow, c.from.ensures)) ∙ c.from.ensures in
    let h : Keyed = record { slots = c.self.inside.slab.slots; keys = c.self.inside.keys } in
    rw (← c.self.view_is) (unused_at h a (ap (place_at c.self.inside.keys) own ∙ c.in_ok-key.ensures.free))

pub returns-clause-generation : goal.returns-clause-generation
returns-clause-generation c =
    generation_of_address c.from.result c.args.generation (omega (arith, c.in_ok-key.ensures.narrow, c.from.ensures))

pub returns-clause-free : goal.returns-clause-free
returns-clause-free c =
    let a = c.from.result + 4294967296 * c.args.generation in
    let own : key_of a ≡ c.in_ok-key.key = key_of_address c.from.result c.args.generation (omega (arith, c.in_ok-key.ensures.narrow, c.from.ensures)) ∙ c.from.ensures in
    rw (← c.self.view_is) (ap (place_at c.self.inside.keys) own ∙ c.in_ok-key.ensures.free)

pub returns-clause-taken : goal.returns-clause-taken
returns-clause-taken c =
    let a = c.from.result + 4294967296 * c.args.generation in
    let own : key_of a ≡ c.in_ok-key.key = key_of_address c.from.result c.args.generation (omega (arith, c.in_ok-key.ensures.narrow, c.from.ensures)) ∙ c.from.ensures in
    rw (← c.self.view_is) (subst (λ (k : ℕ). IsKeyTaken c.self.inside.keys c.insert.new.self k) (sym own) c.in_ok-key.ensures.taken)

pub returns-clause-all_used : goal.returns-clause-all_used
returns-clause-all_used c =
    rw (← c.self.view_is) (stays_used c.self.inside.keys c.insert.new.self c.in_ok-key.key c.vacant_key.result c.in_ok-key.ensures.used c.in_ok-key.ensures.taken)

pub returns-clause-objects : goal.returns-clause-objects
returns-clause-objects c =
    rw (← c.self.view_is) (all_have_objects (record { slots = c.self.inside.slab.slots; keys = c.self.inside.keys }) c.self.invariant)
