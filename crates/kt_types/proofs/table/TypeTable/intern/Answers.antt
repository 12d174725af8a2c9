use Rattle.std.proofs.Common.{◌≡◌, ℕ, ◌++◌, ◌∷◌, [], Some, slice_get, sym, ap, ◌∙◌, refl}
use Rattle.indexmap.proofs.CallerLemmas.{insert_entry-new}
use Rattle.indexmap.specs.IndexMap.{keys}
use Rattle.kt_types.specs.Table.{Table}
use Rattle.kt_types.specs.declared.kinds.Ty.{Ty}
use Rattle.kt_types.specs.contracts.kinds.TyPartialEq.TheImpl.{eq-value}
use Rattle.kt_types.proofs.Added.{type-table, type-kept, type-place, type-only}
use Rattle.kt_types.proofs.Complete.{is_none}
use Rattle.kt_types.proofs.Keyed.{key-at, key-only, key-absent}
use Rattle.kt_types.proofs.SameType.{same-type, type-same}
use Rattle.kt_types.proofs.table.TypeTable.intern.Goals as goal

-- the place that the look-up found is that of the type
found : (c : goal.In-Some) → slice_get c.args.self.now.types c.in-Some.place ≡ Some c.args.ty
found c =
    let (k, at, same) = key-at (λ (ty : Ty). ty) eq-value.it same-type type-same (keys c.self.inside.types) c.args.ty c.in-Some.place c.in-Some.ensures.index in
    ap (λ (u : Table). slice_get u.types c.in-Some.place) (sym c.self.view_is) ∙ at ∙ ap Some same

pub returns-in-Some-clause-place : goal.returns-in-Some-clause-place
returns-in-Some-clause-place c = found c

pub returns-in-Some-clause-only : goal.returns-in-Some-clause-only
returns-in-Some-clause-only c q at =
    let here = ap (λ (u : Table). slice_get u.types q) c.self.view_is ∙ at in
    let there = ap (λ (u : Table). slice_get u.types c.in-Some.place) c.self.view_is ∙ found c in
    key-only (λ (ty : Ty). ty) eq-value.it same-type type-same (keys c.self.inside.types) c.in-Some.ensures.unique q c.in-Some.place c.args.ty c.args.ty here there refl

pub returns-in-Some-clause-new : goal.returns-in-Some-clause-new
returns-in-Some-clause-new c lacks = absurd (lacks (c.in-Some.place, found c))

-- the look-up found no place, and there is none
absent : (c : goal.In_ok-insert) → (q : ℕ) → slice_get (keys c.self.inside.types) q ≡ Some c.args.ty → ⊥
absent c q at = key-absent (λ (ty : Ty). ty) eq-value.it same-type type-same c.self.inside.types.entries c.args.ty c.in_default.ensures.found q c.args.ty at refl

added : (c : goal.In_ok-insert) → c.insert.new.self.entries ≡ c.self.inside.types.entries ++ (c.args.ty, c.count_of-cells.result) ∷ []
added c = c.in_ok-insert.ensures.entries ∙ insert_entry-new eq-value.it c.self.inside.types c.args.ty c.count_of-cells.result (is_none _ c.in_default.ensures.found)

pub invariant_of-self-2 : goal.invariant_of-self-2
invariant_of-self-2 c = type-kept c.self.inside c.args.self.now c.self.view_is c.args.ty c.count_of-cells.result c.insert.new.self.entries (added c) c.self.invariant c.requires.room c.count_of-cells.ensures

pub returns-clause-place : goal.returns-clause-place
returns-clause-place c =
    ap (slice_get (keys c.insert.new.self)) c.len-place.ensures.len ∙ type-place c.self.inside c.args.self.now c.self.view_is c.args.ty c.count_of-cells.result c.insert.new.self.entries (added c)

pub returns-clause-only : goal.returns-clause-only
returns-clause-only c q at =
    type-only c.self.inside c.args.self.now c.self.view_is c.args.ty c.count_of-cells.result c.insert.new.self.entries (added c) (absent c) q at ∙ sym c.len-place.ensures.len

pub returns-clause-known : goal.returns-clause-known
returns-clause-known c has = absurd (absent c has.0 (ap (λ (u : Table). slice_get u.types has.0) c.self.view_is ∙ has.1))

pub returns-clause-new : goal.returns-clause-new
returns-clause-new c lacks = type-table c.self.inside c.args.self.now c.self.view_is c.args.ty c.count_of-cells.result c.insert.new.self.entries (added c)
