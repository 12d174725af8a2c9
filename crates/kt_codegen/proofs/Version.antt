-- A version's code does the acts of the version's trees.
use Rattle.kt_tree.specs.Version.{IsProgram}
use Rattle.kt_meaning.specs.TreeSteps.{Version}
use Rattle.kt_codegen.specs.StatementActs.{StatementsDo}
use Rattle.kt_codegen.specs.VersionCode.{version_code}
use Rattle.kt_pair.specs.VersionActs.{DoesVersion}
use Rattle.kt_codegen.proofs.Calls.{entry-acts}
use Rattle.kt_codegen.proofs.Entries.{has-entries}

pub version-acts : (s : Version) → IsProgram s.program → StatementsDo s (version_code s.program) → DoesVersion s (version_code s.program)
version-acts s program statements g f is = record {
  entry_at = (has-entries s g f is).entry_at;
  entry_is = (has-entries s g f is).entry_is;
  acts = entry-acts s (version_code s.program) program statements (has-entries s) g f is;
}
