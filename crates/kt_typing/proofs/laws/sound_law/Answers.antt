use Rattle.kt_typing.proofs.SoundPlaces.{effect-sound, condition-sound, conversion-sound}
use Rattle.kt_typing.proofs.SoundTerms.{form-sound}
use Rattle.kt_typing.proofs.laws.sound_law.Goals as goal

pub returns-clause-sound : goal.returns-clause-sound
returns-clause-sound c env u e x right is = form-sound env right u e x is

pub returns-clause-statement : goal.returns-clause-statement
returns-clause-statement c env e x right is = effect-sound env right e x is

pub returns-clause-condition : goal.returns-clause-condition
returns-clause-condition c env e x right is = condition-sound env right e x is

pub returns-clause-converted : goal.returns-clause-converted
returns-clause-converted c env t at e x right is = conversion-sound env right t at e x is
