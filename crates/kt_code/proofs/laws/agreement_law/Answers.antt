use Rattle.kt_code.specs.AgreementLaws.{same-acts}
use Rattle.kt_code.specs.Looks.{tree_threads, code_threads}
use Rattle.kt_code.specs.SameActs.{same_acts-reply}
use Rattle.kt_code.proofs.laws.agreement_law.Goals as goal

pub returns-clause-same_acts : goal.returns-clause-same_acts
returns-clause-same_acts c = λ s code. same-acts (tree_threads s) (code_threads code)

pub returns-clause-onward : goal.returns-clause-onward
returns-clause-onward c = λ s code x p y q first second.
    same_acts-reply (tree_threads s) (code_threads code) first.count second.count x p y q first.comes first.head second.comes second.head
