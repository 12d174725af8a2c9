use Rattle.kt_world.specs.Rows.{join_row, join_traps, stuck_row, update_row, ended_row, refusal_row, chain_row, signal_row, wake_row, request_row}
use Rattle.kt_world.proofs.laws.rows_law.Goals as goal

pub returns : goal.returns
returns c =
    record { join = join_row; traps = join_traps; stuck = stuck_row; update = update_row; ended = ended_row; refusals = refusal_row; chain = chain_row; signal = signal_row; wake = wake_row; request = request_row }
