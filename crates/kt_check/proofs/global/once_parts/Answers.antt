use Rattle.std.proofs.Common.{◌≡◌, subst, not, ◌||◌}
use Rattle.kt_names.specs.declared.fault.CheckFault.TheVariants.{Twice}
use Rattle.kt_names.specs.Checked.{holds}
use Rattle.kt_names.specs.Judges.{Judges}
use Rattle.kt_check.specs.Files.{has_global, has_routine}
use Rattle.kt_check.specs.Stages.{frame_seen, sofar_of, right, behind_right}
use Rattle.kt_names.proofs.Parts.{judges-pair}
use Rattle.kt_check.proofs.global.once_parts.Goals as goal

pub returns : goal.returns
returns c =
    let names = (frame_seen c.args.frame.now).names in
    let s = sofar_of c.args.sofar.now in
    let n = c.args.g.now.declarator.name in
    let known : c.has_name-is_new.result ≡ (has_global s n.word || has_routine s n.word) = subst (λ w. c.has_name-is_new.result ≡ (has_global s w || has_routine s w)) c.as_bytes.ensures.bytes (c.has_name-is_new.ensures names c.requires) in
    judges-pair right (behind_right (λ x. x)) c.holds-once.result c.init_parts.result c.both.result _ _ c.both.ensures
    (subst (λ b. Judges right c.holds-once.result (holds (not b) (Twice n.at))) known c.holds-once.ensures) c.init_parts.ensures
