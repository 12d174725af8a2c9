use Rattle.std.proofs.Common.{ap, ◌∙◌, sym}
use Rattle.kt_operands.specs.Views.{environment_of}
use Rattle.kt_program.specs.Declarators.{extent_of}
use Rattle.kt_program.specs.Mentioned.{stars_of}
use Rattle.kt_program.specs.Views.{view_by}
use Rattle.kt_declarations.specs.Fields.{named_by}
use Rattle.kt_declarations.proofs.Right.{view-right}
use Rattle.kt_declarations.proofs.Within.{view_at, view-is, outer-extent, places-among}
use Rattle.kt_declarations.proofs.view.field_view.Goals as goal

pub view_of-requires : goal.view_of-requires
view_of-requires c =
    let (fields, are, right) = c.requires.extent in
    let e = extent_of c.args.x.declarator.now.pointer in
    outer-extent (environment_of c.args.env.now) fields e (sym (places-among c.args.names.now fields are (named_by e)) ∙ sym c.in-None.ensures) right

pub returns-in-None : goal.returns-in-None
returns-in-None c w fields tells are =
    let p = c.args.x.declarator.now.pointer in
    let (known, of, right) = c.requires.extent in
    let b = c.args.x.base.now in
    let none = sym (places-among c.args.names.now fields are (named_by (extent_of p))) ∙ sym c.in-None.ensures in
    let outer = outer-extent (environment_of c.args.env.now) known (extent_of p) (sym (places-among c.args.names.now known of (named_by (extent_of p))) ∙ sym c.in-None.ensures) right in
    c.view_of.ensures ∙ view-right w (environment_of c.args.env.now) tells b (stars_of p) (extent_of p) outer
    ∙ sym (view-is w.globals fields b (stars_of p) (extent_of p) ∙ ap (view_at (view_by w.globals b (stars_of p) (extent_of p))) none)

pub returns-in-Some : goal.returns-in-Some
returns-in-Some c w fields tells are =
    let p = c.args.x.declarator.now.pointer in
    let b = c.args.x.base.now in
    let some = sym (places-among c.args.names.now fields are (named_by (extent_of p))) ∙ sym c.in-Some.ensures in
    sym (view-is w.globals fields b (stars_of p) (extent_of p) ∙ ap (view_at (view_by w.globals b (stars_of p) (extent_of p))) some)
