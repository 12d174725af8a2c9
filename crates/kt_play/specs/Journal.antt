-- The journal: the text of a list of turns and of the marks between them.
use Rattle.std.specs.Prelude.{ℕ, ◌+◌, ◌-◌, ◌==◌, List, [], ◌∷◌, ◌++◌, codes, take, drop, if◌then◌else◌}
use Rattle.std.specs.Fmt.{decimal, signed_decimal}
use Rattle.kt_mem.specs.declared.steps.Trap.{Trap}
use Rattle.kt_mem.specs.declared.steps.Trap.TheVariants as trap
use Rattle.kt_lone.specs.declared.mark.Closed.{Closed}
use Rattle.kt_lone.specs.declared.mark.Closed.TheVariants as closed
use Rattle.kt_lone.specs.declared.mark.End.{End}
use Rattle.kt_lone.specs.declared.mark.End.TheVariants as end
use Rattle.kt_lone.specs.declared.mark.Mark.{Mark}
use Rattle.kt_lone.specs.declared.mark.Mark.TheVariants as mark

-- some turns of one thread in a row
pub record Stretch : Type 0 where
  pub thread : ℕ
  pub count : ℕ

-- one turn more, in front
abbrev pub with_turn : ℕ → List Stretch → List Stretch
with_turn t [] = record { thread = t; count = 1 } ∷ []
with_turn t (s ∷ rest) =
    if s.thread == t then record s { count = s.count + 1 } ∷ rest
    else (record { thread = t; count = 1 } ∷ (s ∷ rest))

-- the turns as stretches, equal neighbours joined
abbrev pub stretches_of : List ℕ → List Stretch
stretches_of [] = []
stretches_of (t ∷ turns) = with_turn t (stretches_of turns)

abbrev pub stretch_lines : List Stretch → List ℕ
stretch_lines [] = []
stretch_lines (s ∷ rest) =
    codes "turn " ++ (decimal s.thread ++ (codes " " ++ (decimal s.count ++ (codes "\n" ++ stretch_lines rest))))

abbrev pub turn_lines : List ℕ → List ℕ
turn_lines turns = stretch_lines (stretches_of turns)

abbrev pub closed_line : Closed → List ℕ
closed_line (closed.Ok images) = codes " ok " ++ (decimal images ++ codes "\n")
closed_line (closed.Point thread) = codes " refused point " ++ (decimal thread ++ codes "\n")

-- the name of a trap
abbrev pub trap_name : Trap → List ℕ
trap_name trap.Overflow = codes "overflow"
trap_name trap.Zero = codes "zero"
trap_name trap.Range = codes "range"
trap_name trap.Null = codes "null"
trap_name trap.Dead = codes "dead"
trap_name trap.Bounds = codes "bounds"
trap_name trap.Uninit = codes "uninit"
trap_name trap.Literal = codes "literal"
trap_name trap.Free = codes "free"
trap_name trap.Mutex = codes "mutex"
trap_name trap.Thread = codes "thread"
trap_name trap.Threads = codes "threads"
trap_name trap.Size = codes "size"
trap_name trap.Heap = codes "heap"
trap_name trap.Depth = codes "depth"
trap_name trap.Output = codes "output"

abbrev pub end_line : End → List ℕ
end_line (end.Main v) = codes "end main " ++ (signed_decimal v ++ codes "\n")
end_line (end.Trap t cause) = codes "end trap " ++ (decimal t ++ (codes " " ++ (trap_name cause ++ codes "\n")))
end_line end.Stuck = codes "end stuck\n"
end_line end.Budget = codes "end budget\n"

abbrev pub mark_line : Mark → List ℕ
mark_line (mark.Ask turn k) = codes "ask " ++ (decimal k ++ codes "\n")
mark_line (mark.Close turn k closed) = codes "close " ++ (decimal k ++ closed_line closed)
mark_line (mark.MainThere turn k) = codes "main " ++ (decimal k ++ codes "\n")
mark_line (mark.Back turn k) = codes "back " ++ (decimal k ++ codes "\n")
mark_line (mark.End turn how) = end_line how

-- the turns that were made before a mark
abbrev pub turn_of : Mark → ℕ
turn_of (mark.Ask turn k) = turn
turn_of (mark.Close turn k closed) = turn
turn_of (mark.MainThere turn k) = turn
turn_of (mark.Back turn k) = turn
turn_of (mark.End turn how) = turn

-- the lines of these turns, before which so many were made, with the marks among them
abbrev pub lines_from : ℕ → List ℕ → List Mark → List ℕ
lines_from made turns [] = turn_lines turns
lines_from made turns (m ∷ marks) =
    turn_lines (take (turn_of m - made) turns)
    ++ (mark_line m ++ lines_from (turn_of m) (drop (turn_of m - made) turns) marks)

abbrev pub journal_of : List ℕ → List Mark → List ℕ
journal_of turns marks = codes "kit 1\n" ++ lines_from 0 turns marks
