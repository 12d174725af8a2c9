use Rattle.std.proofs.Common.{◌≡◌, ◌+◌, ◌*◌, ◌&&◌, nat_le, is_some, rules, subst}
use Rattle.kt_names.specs.declared.fault.CheckFault.TheVariants.{TooBig}
use Rattle.kt_names.specs.Checked.{holds}
use Rattle.kt_names.specs.Environment.{cells_of}
use Rattle.kt_names.specs.Judges.{Judges}
use Rattle.kt_names.specs.Statements.{declarator_place}
use Rattle.kt_names.specs.Tables.{declared_type}
use Rattle.kt_check.specs.Files.{outside, is_array_count, count_of, initial_of}
use Rattle.kt_check.specs.Stages.{frame_seen, sofar_of, right}
use Rattle.kt_names.proofs.Parts.{judges-pair}
use Rattle.kt_check.proofs.global.init_parts.Goals as goal

pub returns : goal.returns
returns c =
    let f = frame_seen c.args.frame.now in
    let s = sofar_of c.args.sofar.now in
    let d = c.args.g.now.declarator in
    let t = declared_type f.names c.args.base.now d.pointer in
    let cells : c.cells_of-cells.result ≡ cells_of (outside f s) t = search rules in
    let fits : c.global_fits-fits.result ≡ (is_array_count d.count && nat_le (count_of d.count * cells_of (outside f s) t) 65536 && nat_le (s.cells + count_of d.count * cells_of (outside f s) t) 1048576) =
    search rules in
    let size : Judges right c.holds.result (holds (is_array_count d.count && nat_le (count_of d.count * cells_of (outside f s) t) 65536 && nat_le (s.cells + count_of d.count * cells_of (outside f s) t) 1048576) (TooBig d.name.at)) =
    search rules in
    let init : Judges (λ x. x) c.initial_of.result (initial_of f t (is_some d.count) (declarator_place d.pointer d.name) c.args.g.now.initial) =
    subst (λ u. Judges (λ x. x) c.initial_of.result (initial_of f u (is_some d.count) (declarator_place d.pointer d.name) c.args.g.now.initial)) c.declared_type-t.ensures
    (subst (λ a. Judges (λ x. x) c.initial_of.result (initial_of f c.declared_type-t.result a (declarator_place d.pointer d.name) c.args.g.now.initial)) c.is_some-array.ensures
    (subst (λ p. Judges (λ x. x) c.initial_of.result (initial_of f c.declared_type-t.result c.is_some-array.result p c.args.g.now.initial)) c.declarator_place-at.ensures c.initial_of.ensures)) in
    judges-pair right (λ x. x) c.holds.result c.initial_of.result c.both.result _ _ c.both.ensures size init
