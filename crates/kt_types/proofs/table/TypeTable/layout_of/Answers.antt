use Rattle.std.proofs.Common.{◌≡◌, Some, sym, ap, ◌∙◌, subst, arith}
use Rattle.std.proofs.lemmas.Option.{same_Some, slice_get_within, slice_get-get_or}
use Rattle.kt_types.specs.Kept.{IsLaidOut, IsNumbered}
use Rattle.kt_types.proofs.Views.{struct-at, layout-at}
use Rattle.kt_types.proofs.table.TypeTable.layout_of.Goals as goal

pub index-requires : goal.index-requires
index-requires c =
    let entry = struct-at c.self.inside _ c.self.view_is c.self.invariant c.args.s c.in-Some.field-0-0.now c.in-Some.place.now c.in-Some.ensures.entry in
    let numbered : IsNumbered c.args.self.now c.self.inside.defined.items c.args.s (Some c.in-Some-place.i) = subst (IsNumbered c.args.self.now c.self.inside.defined.items c.args.s) c.in-Some-place.is entry in
    omega (arith, slice_get_within c.self.inside.defined.items c.in-Some-place.i numbered.0 numbered.1)

pub returns-in-Some-place : goal.returns-in-Some-place
returns-in-Some-place c =
    let entry = struct-at c.self.inside _ c.self.view_is c.self.invariant c.args.s c.in-Some.field-0-0.now c.in-Some.place.now c.in-Some.ensures.entry in
    let numbered : IsNumbered c.args.self.now c.self.inside.defined.items c.args.s (Some c.in-Some-place.i) = subst (IsNumbered c.args.self.now c.self.inside.defined.items c.args.s) c.in-Some-place.is entry in
    let within = slice_get_within c.self.inside.defined.items c.in-Some-place.i numbered.0 numbered.1 in
    let same : numbered.0 ≡ c.index.result.now = same_Some _ _ (sym numbered.1 ∙ slice_get-get_or c.self.inside.defined.items c.in-Some-place.i c.index.result.now within ∙ ap Some (sym c.index.ensures)) in
    subst (λ d. IsLaidOut c.args.self.now d × (d.number ≡ c.args.s)) same (layout-at c.self.inside _ c.self.view_is c.self.invariant c.in-Some-place.i numbered.0 numbered.1, numbered.2)

pub returns-in-None-place : goal.returns-in-None-place
returns-in-None-place c =
    let entry = struct-at c.self.inside _ c.self.view_is c.self.invariant c.args.s c.in-Some.field-0-0.now c.in-Some.place.now c.in-Some.ensures.entry in
    subst (IsNumbered c.args.self.now c.self.inside.defined.items c.args.s) c.in-None-place.is entry
