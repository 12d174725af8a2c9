use Rattle.kt_meaning.specs.Laws.{numbered}
use Rattle.kt_codegen.specs.VersionCode.{version_code}
use Rattle.kt_codegen.proofs.Version.{version-acts}
use Rattle.kt_codegen.proofs.VersionFits.{version-fits}
use Rattle.kt_codegen.proofs.VersionJumps.{version-jumps}
use Rattle.kt_codegen.proofs.laws.version_code_law.Goals as goal

pub returns-clause-acts : goal.returns-clause-acts
returns-clause-acts c =
    λ n. version-acts (numbered c.args.version.now n) c.version_law.ensures.program (c.statement_law.ensures n (version_code c.args.version.now))

pub returns-clause-jumps : goal.returns-clause-jumps
returns-clause-jumps c = version-jumps c.args.version.now

pub returns-clause-fits : goal.returns-clause-fits
returns-clause-fits c =
    λ n. version-fits (numbered c.args.version.now n) c.version_law.ensures.program (c.statement_law.ensures n (version_code c.args.version.now))
