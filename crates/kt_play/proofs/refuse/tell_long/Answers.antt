use Rattle.kt_play.proofs.refuse.tell_long.Goals as goal

pub returns-in-File-clause-told : goal.returns-in-File-clause-told
returns-in-File-clause-told g c = rw c.in-File.is c.tell_long_file.ensures.told

pub returns-in-Input-clause-told : goal.returns-in-Input-clause-told
returns-in-Input-clause-told g c = rw c.in-Input.is c.write_line.ensures
