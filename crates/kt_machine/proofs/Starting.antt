-- A machine's start is the world's.
use Rattle.std.specs.Prelude.{◌≡◌, ℕ, List, [], ◌∷◌, Option, None, Some, slice_get}
use Rattle.std.proofs.Common.{sym, ap, ◌∙◌}
use Rattle.kt_mem.specs.Memory.{Memory}
use Rattle.kt_mem.specs.declared.thread.Mode.TheVariants.{Normal}
use Rattle.kt_code.specs.Settling as settling
use Rattle.kt_code.specs.declared.private.Head.{Head}
use Rattle.kt_code.specs.declared.private.Private.{Private}
use Rattle.kt_heap.specs.Heap as heap
use Rattle.kt_pair.specs.Pair.{Pair}
use Rattle.kt_lone.specs.declared.mark.Phase.TheVariants.{Run}
use Rattle.kt_lone.specs.Job.{Job, version_at}
use Rattle.kt_lone.specs.Turn.{memory_if, start}
use Rattle.kt_lone.specs.Update.{first_memory}
use Rattle.kt_lone.specs.World.{Live, Shared, World}
use Rattle.kt_machine.specs.declared.machine.Standing.TheVariants as standing
use Rattle.kt_machine.specs.Engine.{code_engine, code_entry, code_settle, world_of, AreCodesOf}
use Rattle.kt_mem.specs.Renaming.{Pairs}
use Rattle.kt_heap.specs.ByNumber.{by_number}
use Rattle.kt_machine.specs.ByNumber.{private_by}
use Rattle.kt_machine.specs.Outside.{Outside, pairs_in}
use Rattle.kt_machine.specs.Shared as machine
use Rattle.kt_machine.specs.Shared.{shared_of}
use Rattle.kt_machine.proofs.Codes.{version-in}
use Rattle.kt_machine.proofs.Entries.{private-same}

-- before anything is tried, with this memory, these requests and this input
abbrev at_first : Memory → List ℕ → List ℕ → Shared
at_first m after input = record {
  version = 0;
  memory = m;
  kept = [];
  phase = Run;
  after = after;
  requests = 0;
  input = input;
  output = [];
  turns = 0;
  marks = [];
  ended = None;
}

abbrev alone : Shared → Private → World Private
alone s x = record { shared = s; threads = record { state = x; standing = Live } ∷ [] }

-- what the machine shares then
abbrev pub shares : Outside → List ℕ → machine.Shared
shares o after = record {
  version = 0;
  outside = o;
  kept = [];
  phase = Run;
  after = after;
  requests = 0;
  turns = 0;
  marks = [];
  ended = None;
}

pub started : (codes : List Pair) (job : Job) → AreCodesOf job codes → (c : Pair) (h : heap.State) (after input : List ℕ) (o : Outside) (s : machine.Shared)
    (x : Private) (at : Head) → slice_get codes 0 ≡ Some c → heap.given h ≡ [] → by_number (heap.given h) (heap.memory h) ≡ first_memory 0 c.program 0 → after ≡ job.after → input ≡ job.input →
    o ≡ record { heap = h; input = input; output = [] } → s ≡ shares o after → x ≡ settling.settle c.code (code_entry 0 Normal (Some c)) →
    world_of (record { shared = s; private = x; head = at; standing = standing.Live }) ≡ start (code_engine codes) job
started codes job are c h after input o s x at first none memory after_is input_is o_is s_is x_is =
    ap (λ (s : machine.Shared). alone (shared_of s) (private_by (pairs_in s.outside) x)) s_is
    ∙ ap (λ (o : Outside). alone (shared_of (shares o after)) (private_by (pairs_in o) x)) o_is
    ∙ ap (λ (y : Private). alone (at_first (by_number (heap.given h) (heap.memory h)) after input) y)
    (ap (λ (ps : Pairs). private_by ps x) none ∙ private-same x)
    ∙ ap (λ (m : Memory). alone (at_first m after input) x) (memory ∙ sym (ap memory_if (version-in job codes are 0 c first)))
    ∙ ap (λ (l : List ℕ). alone (at_first (memory_if (version_at job 0)) l input) x) after_is
    ∙ ap (λ (l : List ℕ). alone (at_first (memory_if (version_at job 0)) job.after l) x) input_is
    ∙ ap (λ (x : Private). alone (at_first (memory_if (version_at job 0)) job.after job.input) x)
    (x_is ∙ sym (ap (λ (o : Option Pair). code_settle o (code_entry 0 Normal o)) first))
