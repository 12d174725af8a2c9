-- What the answers of `play` are: the end of a run, or a refusal with its log line.
use Rattle.std.specs.Prelude.{ℕ, List, ◌++◌, Result, Ok, Err, codes}
use Rattle.std.specs.Fmt.{decimal}
use Rattle.kt_lone.specs.declared.mark.End.{End}
use Rattle.kt_lone.specs.declared.mark.End.TheVariants as end
use Rattle.kt_play.specs.declared.refusal.Refusal.{Refusal}
use Rattle.kt_play.specs.declared.refusal.Refusal.TheVariants as refusal
use Rattle.kt_play.specs.declared.report.RunFault.{RunFault}
use Rattle.kt_play.specs.declared.report.RunFault.TheVariants as fault
use Rattle.kt_play.specs.declared.status.Which.{Which}
use Rattle.kt_play.specs.declared.status.Which.TheVariants.{File, Input}
use Rattle.kt_play.specs.declared.status.Cause.{Cause}
use Rattle.kt_play.specs.declared.status.Cause.TheVariants.{Byte, Unclosed, Literal, Directive, Syntax, TooDeep, Unknown, Twice, BadType, Incomplete, TooBig, Entry, Note, NoMain, Later}
use Rattle.kt_play.specs.declared.status.Status.{Status}
use Rattle.kt_play.specs.declared.status.Status.TheVariants.{Main, Trap, Budget, Stuck, Words, ReadFault, TooLong, Refused, WriteFault, NoMemory}

-- the answer at the end of a run
abbrev pub status_of : End → Status
status_of (end.Main v) = Main v
status_of (end.Trap t cause) = Trap t cause
status_of end.Budget = Budget
status_of end.Stuck = Stuck

-- the answer where a run isn't written whole
abbrev pub fault_answer : RunFault → Status
fault_answer fault.Write = WriteFault
fault_answer fault.NoMemory = NoMemory

-- the answer of a run
abbrev pub run_answer : Result End RunFault → Status
run_answer (Ok how) = status_of how
run_answer (Err fault) = fault_answer fault

-- the answer to a refusal
abbrev pub refusal_answer : Refusal → Status
refusal_answer refusal.Words = Words
refusal_answer (refusal.Read which) = ReadFault which
refusal_answer (refusal.Long which) = TooLong which
refusal_answer (refusal.File n cause) = Refused n cause

-- the name of a cause in the log, and the place
abbrev pub cause_name : Cause → List ℕ
cause_name (Byte at) = codes "byte"
cause_name (Unclosed at) = codes "unclosed"
cause_name (Literal at) = codes "literal"
cause_name (Directive at) = codes "directive"
cause_name (Syntax at) = codes "syntax"
cause_name (TooDeep at) = codes "too_deep"
cause_name (Unknown at) = codes "unknown"
cause_name (Twice at) = codes "twice"
cause_name (BadType at) = codes "bad_type"
cause_name (Incomplete at) = codes "incomplete"
cause_name (TooBig at) = codes "too_big"
cause_name (Entry at) = codes "entry"
cause_name (Note at) = codes "note"
cause_name (NoMain at) = codes "no_main"
cause_name (Later at) = codes "later"

abbrev pub cause_place : Cause → ℕ
cause_place (Byte at) = at
cause_place (Unclosed at) = at
cause_place (Literal at) = at
cause_place (Directive at) = at
cause_place (Syntax at) = at
cause_place (TooDeep at) = at
cause_place (Unknown at) = at
cause_place (Twice at) = at
cause_place (BadType at) = at
cause_place (Incomplete at) = at
cause_place (TooBig at) = at
cause_place (Entry at) = at
cause_place (Note at) = at
cause_place (NoMain at) = at
cause_place (Later at) = at

-- the name in the log of what was to be read
abbrev pub which_name : Which → List ℕ
which_name (File n) = decimal n
which_name Input = codes "input"

-- the line that a refusal writes into the log
abbrev pub refusal_line : Refusal → List ℕ
refusal_line refusal.Words = codes "refuse words\n"
refusal_line (refusal.Read which) = codes "refuse read " ++ (which_name which ++ codes "\n")
refusal_line (refusal.Long which) = codes "refuse long " ++ (which_name which ++ codes "\n")
refusal_line (refusal.File n cause) =
    codes "refuse " ++ (decimal n ++ (codes " " ++ (cause_name cause ++ (codes " " ++ (decimal (cause_place cause) ++ codes "\n")))))

-- the exit status of a program that answers so
abbrev pub exit_of : Status → ℕ
exit_of (Main v) = 0
exit_of (Trap t cause) = 10
exit_of Budget = 11
exit_of Stuck = 12
exit_of Words = 2
exit_of (ReadFault which) = 3
exit_of (TooLong which) = 6
exit_of (Refused file cause) = 4
exit_of WriteFault = 5
exit_of NoMemory = 7
