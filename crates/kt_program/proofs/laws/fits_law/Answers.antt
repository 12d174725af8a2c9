use Rattle.std.proofs.Common.{◌≡◌, Some, refl, subst}
use Rattle.kt_program.specs.Functions.{body_of, body_judged}
use Rattle.kt_program.specs.Judgments.{made}
use Rattle.kt_program.specs.Outside.{whole}
use Rattle.kt_program.proofs.BodyFits.{body-fits}
use Rattle.kt_program.proofs.FileRight.{file-right}
use Rattle.kt_program.proofs.Fits.{statement-fits}
use Rattle.kt_program.proofs.laws.fits_law.Goals as goal

pub returns-clause-fit : goal.returns-clause-fit
returns-clause-fit c b p a m right h is = statement-fits b right a p.in_loop p refl h m is

pub returns-clause-names : goal.returns-clause-names
returns-clause-names c xs defined locals noted text = file-right xs defined locals noted text

pub returns-clause-body : goal.returns-clause-body
returns-clause-body c xs defined r d m text same is =
    body-fits xs defined r text d same m (subst (λ o. made (body_judged (body_of (whole xs) defined r) r.parameters o) ≡ Some m) same is)
