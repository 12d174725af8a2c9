use Rattle.kt_mem.proofs.CauseLaws.{loads_answer, stores_answer, allocs_answer, releases_answer, locks_answer, unlocks_answer, inits_answer}
use Rattle.kt_mem.proofs.laws.answers_law.Goals as goal

pub returns : goal.returns
returns c =
    record {
      load = loads_answer;
      store = stores_answer;
      alloc = allocs_answer;
      release = releases_answer;
      lock = locks_answer;
      unlock = unlocks_answer;
      init = inits_answer;
    }
