use Rattle.kt_play.proofs.FileLemmas.{measured_whole, measured_long, measured_number}
use Rattle.kt_play.proofs.gather.read.Goals as goal

pub returns-in-Ok-clause-whole : goal.returns-in-Ok-clause-whole
returns-in-Ok-clause-whole g c =
    measured_whole (g.F.Files.told c.args.files.now) c.args.name.now c.in-Ok.bytes (λ v. v.items) c.measured.result c.in-Ok.ensures.start c.measured.ensures.short

pub returns-in-Ok-clause-number : goal.returns-in-Ok-clause-number
returns-in-Ok-clause-number g c = measured_number _ c.args.number c.measured.result c.measured.ensures.long

pub returns-in-Ok-clause-cause : goal.returns-in-Ok-clause-cause
returns-in-Ok-clause-cause g c =
    measured_long (g.F.Files.told c.args.files.now) c.args.name.now c.in-Ok.bytes.items _ _ c.args.number c.measured.result c.in-Ok.ensures.start c.measured.ensures.long
