use Rattle.std.proofs.Common.{ap, refl, slice_get, sym, subst, ◌∙◌}
use Rattle.kt_mem.specs.declared.thread.Mode.TheVariants.{Normal}
use Rattle.kt_mem.specs.Renaming.{Pairs}
use Rattle.kt_exec.specs.Renaming.{IsOld, PrivateIn}
use Rattle.kt_tree.specs.Version.{Program}
use Rattle.kt_lone.specs.Plain.{job_of}
use Rattle.kt_lone.specs.Update.{first_memory}
use Rattle.kt_machine.specs.declared.machine.Machine.{Machine}
use Rattle.kt_machine.specs.declared.machine.Standing.TheVariants as standing
use Rattle.kt_machine.specs.Outside.{Outside, pairs_in}
use Rattle.kt_machine.specs.Shared.{Shared}
use Rattle.kt_machine.proofs.Entries.{entered-names}
use Rattle.kt_machine.proofs.Starting.{started}
use Rattle.kt_machine.proofs.Threads.{settled-live}
use Rattle.kt_machine.proofs.machine.start.Goals as goal

pub returns-clause-world : goal.returns-clause-world
returns-clause-world c =
    let compiled = c.in_force-first.result.now in
    let made = c.in_ok-private.ensures in
    let stands = rw made.0 at c.settled_main.ensures.stands in
    let memory = rw made.1 at c.first_heap.ensures.memory in
    let none = rw made.1 at c.first_heap.ensures.given in
    started c.args.codes.now (job_of c.args.job.now) c.requires.codes compiled c.in_ok-private.heap c.in_ok-after.after.items c.in_ok-input.input.items
    c.new.result c.new-2.result c.in_ok-private.private c.in_ok-private.head c.in_force-first.ensures
    none (memory ∙ ap (λ (p : Program). first_memory 0 p 0) c.version.ensures)
    (c.in_ok-after.ensures.items ∙ c.as_slice.ensures) (c.in_ok-input.ensures.items ∙ c.as_bytes.ensures) c.new.ensures c.new-2.ensures stands

pub returns-clause-settled : goal.returns-clause-settled
returns-clause-settled c =
    let codes = c.args.codes.now in
    let p = c.in_force-first.result.now in
    let x = c.in_ok-private.private in
    let made = c.in_ok-private.ensures in
    let stands = rw made.0 at c.settled_main.ensures.stands in
    let head = rw made.0 at c.settled_main.ensures.head in
    let fits = rw made.0 at c.settled_main.ensures.fits in
    let none = rw made.1 at c.first_heap.ensures.given in
    let pairs = ap (λ (s : Shared). pairs_in s.outside) c.new-2.ensures ∙ ap (λ (o : Outside). pairs_in o) c.new.ensures ∙ none in
    let n : Machine = record { shared = c.new-2.result; private = x; head = c.in_ok-private.head; standing = standing.Live } in
    settled-live codes n p refl (ap (λ (s : Shared). slice_get codes s.version) c.new-2.ensures ∙ c.in_force-first.ensures) head fits
    (subst (λ (ps : Pairs). PrivateIn (IsOld ps) x) (sym pairs) (entered-names 0 Normal p x stands))
