use Rattle.kt_exec.proofs.Renamed.{renamed-settles, renamed-head, renamed-reply, settles-among, stands-among, replies-among}
use Rattle.kt_exec.proofs.laws.rename_law.Goals as goal

pub returns-clause-settled : goal.returns-clause-settled
returns-clause-settled c ps p once old = renamed-settles ps once c.args.code.now p old

pub returns-clause-head : goal.returns-clause-head
returns-clause-head c ps p once old = renamed-head ps once c.args.code.now p old

pub returns-clause-reply : goal.returns-clause-reply
returns-clause-reply c ps p r once old told = renamed-reply ps once c.args.code.now p r old told

pub returns-clause-settled_among : goal.returns-clause-settled_among
returns-clause-settled_among c ps p once old = settles-among ps once c.args.code.now p old

pub returns-clause-head_among : goal.returns-clause-head_among
returns-clause-head_among c ps p once old = stands-among ps once c.args.code.now p old

pub returns-clause-reply_among : goal.returns-clause-reply_among
returns-clause-reply_among c ps p r once old told = replies-among ps once c.args.code.now p old r told
