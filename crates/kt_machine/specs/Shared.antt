-- What threads share, as the machine keeps it.
use Rattle.std.specs.Prelude.{ℕ, List, Option}
use Rattle.kt_mem.specs.declared.memory.Value.{Value}
use Rattle.kt_lone.specs.declared.mark.End.{End}
use Rattle.kt_lone.specs.declared.mark.Mark.{Mark}
use Rattle.kt_lone.specs.declared.mark.Phase.{Phase}
use Rattle.kt_lone.specs.World as world
use Rattle.kt_machine.specs.Outside.{Outside, shown}

pub record Shared : Type 0 where
  pub version : ℕ
  pub outside : Outside
  pub kept : List (Option Value)
  pub phase : Phase
  pub after : List ℕ
  pub requests : ℕ
  pub turns : ℕ
  pub marks : List Mark
  pub ended : Option End

-- as a world has it
abbrev pub shared_of : Shared → world.Shared
shared_of s = record {
  version = s.version;
  memory = (shown s.outside).memory;
  kept = s.kept;
  phase = s.phase;
  after = s.after;
  requests = s.requests;
  input = s.outside.input;
  output = s.outside.output;
  turns = s.turns;
  marks = s.marks;
  ended = s.ended;
}
