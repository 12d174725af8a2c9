use Rattle.std.proofs.Common.{◌≡◌, not, is_some, ap, ◌∙◌, subst}
use Rattle.kt_names.specs.declared.fault.CheckFault.TheVariants.{Twice}
use Rattle.kt_names.specs.Checked.{holds}
use Rattle.kt_names.specs.Environment.{struct_numbered}
use Rattle.kt_names.specs.Types.{number_of_struct}
use Rattle.kt_names.specs.Judges.{Judges}
use Rattle.kt_check.specs.Shapes.{within_of}
use Rattle.kt_check.specs.Stages.{frame_seen, sofar_of, right}
use Rattle.kt_names.proofs.Parts.{judges-pair}
use Rattle.kt_check.proofs.structure.struct_parts.Goals as goal

pub returns-clause-parts : goal.returns-clause-parts
returns-clause-parts c =
    let f = frame_seen c.args.frame.now in
    let s = sofar_of c.args.sofar.now in
    let n = c.args.name.now in
    let known : c.is_defined-is_new.result ≡ is_some (struct_numbered s.structs (number_of_struct f.names n.word)) =
    c.is_defined-is_new.ensures ∙ ap (λ k. is_some (struct_numbered s.structs k)) (c.number_of_struct-number.ensures ∙ ap (number_of_struct f.names) c.as_bytes.ensures.bytes) in
    judges-pair right within_of c.holds-once.result c.fields_of.result c.both.result _ _ c.both.ensures
    (subst (λ b. Judges right c.holds-once.result (holds (not b) (Twice n.at))) known c.holds-once.ensures)
    c.fields_of.ensures.within
