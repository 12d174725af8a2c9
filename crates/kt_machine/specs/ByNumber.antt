-- What the machine holds by address, as a world has it: by heap number. Memories are compared by number; private states,
-- acts and replies hold addresses, each of which was given out.
use Rattle.std.specs.Prelude.{◌≡◌, ℕ}
use Rattle.kt_mem.specs.declared.steps.Reply.{Reply}
use Rattle.kt_code.specs.declared.private.Head.{Head}
use Rattle.kt_code.specs.declared.private.Head.TheVariants as head
use Rattle.kt_code.specs.declared.private.Private.{Private}
use Rattle.kt_mem.specs.Renaming.{Pairs, renamed}
use Rattle.kt_exec.specs.Renaming.{IsOld, rename_act, rename_private, rename_reply}

abbrev pub private_by : Pairs → Private → Private
private_by pairs x = rename_private (renamed pairs) x

abbrev pub reply_by : Pairs → Reply → Reply
reply_by pairs r = rename_reply (renamed pairs) r

abbrev pub head_by : Pairs → Head → Head
head_by pairs (head.Act a) = head.Act (rename_act (renamed pairs) a)
head_by pairs (head.Trap t) = head.Trap t

-- where more was given out, what was given out before has its number
pub record Grows (old new : Pairs) : Type 0 where
  pub number : (a : ℕ) → IsOld old a → renamed new a ≡ renamed old a
  pub given : (a : ℕ) → IsOld old a → IsOld new a
