use Rattle.std.proofs.Common.{◌≡◌, ℕ, List, Some, slice_get, sym, ap, ◌∙◌, true≢false}
use Rattle.std.specs.Str.{bytes_eq}
use Rattle.kt_statements.specs.declared.scopes.Local.{Local}
use Rattle.kt_statements.proofs.scopes.Scopes.place_at.Goals as goal

pub returns-then-is_named-clause-there : goal.returns-then-is_named-clause-there
returns-then-is_named-clause-there c =
    (c.in_ok-local.local.now, ap (λ (ls : List Local). slice_get ls c.in_ok-place.field-0.now) (sym c.as_slice-2.ensures.value) ∙ sym c.in_ok-local.ensures, sym c.is_named.ensures ∙ c.if-is_named.true)

pub returns-then-is_named-clause-placed : goal.returns-then-is_named-clause-placed
returns-then-is_named-clause-placed c = ap (λ (ps : List ℕ). slice_get ps c.args.x) (sym c.as_slice.ensures.value) ∙ sym c.in_ok-place.ensures

pub returns-else-is_named-clause-missing : goal.returns-else-is_named-clause-missing
returns-else-is_named-clause-missing c u p l at there n =
    let place : Some p ≡ Some c.in_ok-place.field-0.now = sym at ∙ ap (λ (ps : List ℕ). slice_get ps c.args.x) (sym c.as_slice.ensures.value) ∙ sym c.in_ok-place.ensures in
    let same : p ≡ c.in_ok-place.field-0.now = cc in
    let local : Some l ≡ Some c.in_ok-local.local.now =
    sym there ∙ ap (slice_get c.args.self.now.locals.items) same ∙ ap (λ (ls : List Local). slice_get ls c.in_ok-place.field-0.now) (sym c.as_slice-2.ensures.value) ∙ sym c.in_ok-local.ensures in
    let one : l ≡ c.in_ok-local.local.now = cc in
    true≢false (sym n ∙ ap (λ (k : Local). bytes_eq k.name.now c.args.name.now) one ∙ sym c.is_named.ensures ∙ c.if-is_named.false)
