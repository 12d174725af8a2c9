use Rattle.std.proofs.Common.{◌≡◌, ◌+◌, ◌*◌, ◌&&◌, not, nat_le, ap, ◌∙◌, subst}
use Rattle.kt_names.specs.declared.fault.CheckFault.TheVariants.{Twice, TooBig}
use Rattle.kt_names.specs.Checked.{holds}
use Rattle.kt_names.specs.Environment.{cells_of}
use Rattle.kt_names.specs.Judges.{Judges}
use Rattle.kt_names.specs.Statements.{contains}
use Rattle.kt_check.specs.Files.{outside, is_array_count, count_of, field_cells}
use Rattle.kt_check.specs.Shapes.{one_field, within_of}
use Rattle.kt_check.specs.Stages.{frame_seen, sofar_of, right}
use Rattle.kt_names.proofs.Parts.{judges-pair}
use Rattle.kt_check.proofs.within.size_parts.Goals as goal

pub returns : goal.returns
returns c =
    let f = frame_seen c.args.frame.now in
    let s = sofar_of c.args.sofar.now in
    let w = within_of c.args.within.now in
    let x = one_field c.args.x in
    let d = x.declarator in
    let known : c.has_field-is_new.result ≡ contains w.names d.name.word = c.has_field-is_new.ensures ∙ ap (contains w.names) c.as_bytes.ensures.bytes in
    let cells = c.cells_of-cells.ensures ∙ ap (cells_of (outside f s)) c.declared_type.ensures in
    let fits : c.field_fits-fits.result ≡ (is_array_count d.count && nat_le (w.cells + field_cells f s x) 65536) =
    c.field_fits-fits.ensures ∙ ap (λ n. is_array_count d.count && nat_le (w.cells + count_of d.count * n) 65536) cells in
    judges-pair right right c.holds.result c.holds-2.result c.both.result _ _ c.both.ensures
    (subst (λ b. Judges right c.holds.result (holds (not b) (Twice d.name.at))) known c.holds.ensures)
    (subst (λ b. Judges right c.holds-2.result (holds b (TooBig d.name.at))) fits c.holds-2.ensures)
