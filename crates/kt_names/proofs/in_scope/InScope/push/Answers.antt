use Rattle.std.proofs.Common.{refl, ap, sym, arith, rules, List, [], ◌∷◌, ◌++◌, ◌∙◌}
use Rattle.kt_names.specs.declared.info.Visible.{Visible}
use Rattle.kt_names.specs.Latest.{latest_first, place_of}
use Rattle.kt_names.proofs.Latest.{kept-same, kept-push}
use Rattle.kt_names.proofs.in_scope.InScope.push.Goals as goal

pub invariant_of-self : goal.invariant_of-self
invariant_of-self c = kept-same c.self.inside.places.entries c.admit.new.places.entries c.self.inside.names.items c.self.invariant c.admit.ensures.same

pub invariant_of-self-in_err-copy : goal.invariant_of-self-in_err-copy
invariant_of-self-in_err-copy c = kept-same c.self.inside.places.entries c.admit.new.places.entries c.self.inside.names.items c.self.invariant c.admit.ensures.same

pub invariant_of-self-in_err-push : goal.invariant_of-self-in_err-push
invariant_of-self-in_err-push c = rw c.in_err-push.ensures.items (kept-same c.self.inside.places.entries c.admit.new.places.entries c.self.inside.names.items c.self.invariant c.admit.ensures.same)

pub invariant_of-self-2 : goal.invariant_of-self-2
invariant_of-self-2 c =
    let vs = c.self.inside.names.items in
    let es = c.admit.new.places.entries in
    let v : Visible = record { name = c.in_ok-copy.copy; local = c.args.local; hides = c.place_of-hides.result } in
    kept-push es c.keep.new.places.entries vs c.push.new.self.items v c.args.name.now c.len-place.result
    (kept-same c.self.inside.places.entries es vs c.self.invariant c.admit.ensures.same)
    (search rules) c.in_ok-copy.ensures.items
    (c.place_of-hides.ensures ∙ ap (λ (xs : List Visible). place_of (latest_first xs) c.args.name.now) (sym c.self.view_is))
    (search rules) c.keep.ensures

pub returns-clause-pushed : goal.returns-clause-pushed
returns-clause-pushed c =
    let v : Visible = record { name = c.in_ok-copy.copy; local = c.args.local; hides = c.place_of-hides.result } in
    (v, c.in_ok-push.ensures.items ∙ ap (λ (xs : List Visible). xs ++ v ∷ []) c.self.view_is, c.in_ok-copy.ensures.items, refl)
