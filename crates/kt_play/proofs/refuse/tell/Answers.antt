use Rattle.kt_play.proofs.refuse.tell.Goals as goal

pub returns-in-Words-clause-told : goal.returns-in-Words-clause-told
returns-in-Words-clause-told g c = rw c.in-Words.is c.write_line.ensures

pub returns-in-Read-clause-told : goal.returns-in-Read-clause-told
returns-in-Read-clause-told g c = rw c.in-Read.is c.tell_unread.ensures.told

pub returns-in-Long-clause-told : goal.returns-in-Long-clause-told
returns-in-Long-clause-told g c = rw c.in-Long.is c.tell_long.ensures.told
