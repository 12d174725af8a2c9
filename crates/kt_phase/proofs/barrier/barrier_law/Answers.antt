use Rattle.kt_phase.proofs.Laws.{closing-due, update-over, resumed-stands, made-stands, parked-stands, refused-stands, restarted-stands, main-stands, returned-stands, ended-stands, some-unparked, some-updating, some-normal}
use Rattle.kt_phase.proofs.barrier.barrier_law.Goals as goal

pub returns-clause-closing_due : goal.returns-clause-closing_due
returns-clause-closing_due c = closing-due

pub returns-clause-update_over : goal.returns-clause-update_over
returns-clause-update_over c = update-over

pub returns-clause-resumed : goal.returns-clause-resumed
returns-clause-resumed c = resumed-stands

pub returns-clause-made : goal.returns-clause-made
returns-clause-made c = made-stands

pub returns-clause-parked : goal.returns-clause-parked
returns-clause-parked c = parked-stands

pub returns-clause-refused : goal.returns-clause-refused
returns-clause-refused c = refused-stands

pub returns-clause-restarted : goal.returns-clause-restarted
returns-clause-restarted c = restarted-stands

pub returns-clause-main : goal.returns-clause-main
returns-clause-main c = main-stands

pub returns-clause-returned : goal.returns-clause-returned
returns-clause-returned c = returned-stands

pub returns-clause-ended : goal.returns-clause-ended
returns-clause-ended c = ended-stands

pub returns-clause-someone_unparked : goal.returns-clause-someone_unparked
returns-clause-someone_unparked c = some-unparked

pub returns-clause-someone_updating : goal.returns-clause-someone_updating
returns-clause-someone_updating c = some-updating

pub returns-clause-someone_normal : goal.returns-clause-someone_normal
returns-clause-someone_normal c = some-normal
