use Rattle.kt_mem.proofs.MemoryLaws.{alloc_takes_next, numbers_never_return}
use Rattle.kt_mem.proofs.ShapeLaws.{alloc_keeps_others, stays_numbered, numbers_are_below}
use Rattle.kt_mem.proofs.laws.heap_number_law.Goals as goal

pub returns : goal.returns
returns c =
    record {
      taken = alloc_takes_next;
      others = alloc_keeps_others;
      never_again = numbers_never_return;
      own = stays_numbered;
      below = numbers_are_below;
    }
