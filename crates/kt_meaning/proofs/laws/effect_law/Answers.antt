use Rattle.kt_meaning.proofs.EffectTypes.{effect-IsOutcomeOf}
use Rattle.kt_meaning.proofs.MemoryTypes.{effect-LeavesShared}
use Rattle.kt_meaning.proofs.Texts.{texts-are-loads}
use Rattle.kt_meaning.proofs.laws.effect_law.Goals as goal

pub returns-clause-reply : goal.returns-clause-reply
returns-clause-reply c = effect-IsOutcomeOf

pub returns-clause-typed : goal.returns-clause-typed
returns-clause-typed c = effect-LeavesShared

pub returns-clause-texts : goal.returns-clause-texts
returns-clause-texts c = texts-are-loads
