use Rattle.std.proofs.Common.{◌<◌, ◌+◌, Some, arith, refl, sym, subst, ap, ◌∙◌, slice_get}
use Rattle.kt_mem.specs.declared.thread.Mode.TheVariants.{Updating}
use Rattle.kt_tree.specs.Version.{Program}
use Rattle.kt_code.specs.Settling.{settle}
use Rattle.kt_lone.specs.Plain.{job_of}
use Rattle.kt_lone.specs.World.{Shared}
use Rattle.kt_mem.specs.Renaming.{Pairs}
use Rattle.kt_exec.specs.Renaming.{IsOld, PrivateIn}
use Rattle.kt_machine.specs.declared.machine.Machine.{Machine}
use Rattle.kt_machine.specs.declared.machine.Standing.TheVariants as standing
use Rattle.kt_machine.specs.Engine.{code_entry, world_of, IsSettled}
use Rattle.kt_machine.proofs.Closings.{restart-world}
use Rattle.kt_machine.proofs.Codes.{code-within, same-program}
use Rattle.kt_machine.proofs.Entries.{entered-names}
use Rattle.kt_machine.proofs.Threads.{settled-live}
use Rattle.kt_machine.proofs.machine.Machine.restart.Goals as goal

pub in_force-compiled-requires : goal.in_force-compiled-requires
in_force-compiled-requires c =
    let next = ap (λ (s : Shared). s.version) (c.in_ok-update.ensures.shared c.args.codes.now) in
    let within = code-within (job_of c.args.job.now) c.args.codes.now c.requires.codes (c.args.self.now.shared.version + 1) c.args.new.now c.requires.new in
    let told = c.version-version.ensures in
    omega arith

pub settled_main-requires : goal.settled_main-requires
settled_main-requires c =
    let next = ap (λ (s : Shared). s.version) (c.in_ok-update.ensures.shared c.args.codes.now) in
    let v = c.args.self.now.shared.version + 1 in
    let at = ap (slice_get c.args.codes.now) (sym (c.version-version.ensures ∙ next)) ∙ c.in_force-compiled.ensures in
    let same = same-program (job_of c.args.job.now) c.args.codes.now c.requires.codes v c.in_force-compiled.result.now c.args.new.now at c.requires.new in
    record { mode = subst (λ (p : Program). c.args.point < p.points.updates) (sym same) c.requires.point }

pub returns-clause-world : goal.returns-clause-world
returns-clause-world c =
    let next = ap (λ (s : Shared). s.version) (c.in_ok-update.ensures.shared c.args.codes.now) in
    let v = c.args.self.now.shared.version + 1 in
    let compiled = c.in_force-compiled.result.now in
    let at = ap (slice_get c.args.codes.now) (sym (c.version-version.ensures ∙ next)) ∙ c.in_force-compiled.ensures in
    ap world_of c.begin.ensures
    ∙ restart-world c.args.codes.now c.args.old.now c.args.new.now c.args.self.now c.args.self.now c.update.new.self.shared
    c.in_ok-private.private c.in_ok-private.head c.args.point compiled c.in_ok-update.ensures.pairs (c.in_ok-update.ensures.shared c.args.codes.now) at
    (c.in_ok-private.ensures.stands ∙ ap (λ v. settle compiled.code (code_entry v (Updating c.args.point) (Some compiled))) (c.version-version.ensures ∙ next))

pub returns-clause-version : goal.returns-clause-version
returns-clause-version c =
    let next = ap (λ (s : Shared). s.version) (c.in_ok-update.ensures.shared c.args.codes.now) in
    let within = code-within (job_of c.args.job.now) c.args.codes.now c.requires.codes (c.args.self.now.shared.version + 1) c.args.new.now c.requires.new in
    let kept = ap (λ (m : Machine). m.shared.version) c.begin.ensures in
    omega arith

pub returns-clause-settled : goal.returns-clause-settled
returns-clause-settled c =
    let codes = c.args.codes.now in
    let p = c.in_force-compiled.result.now in
    let x = c.in_ok-private.private in
    let n : Machine = record { shared = c.update.new.self.shared; private = x; head = c.in_ok-private.head; standing = standing.Live } in
    subst (λ (m : Machine). IsSettled codes m) (sym c.begin.ensures)
    (settled-live codes n p refl (ap (slice_get codes) (sym c.version-version.ensures) ∙ c.in_force-compiled.ensures) c.in_ok-private.ensures.head
    c.in_ok-private.ensures.fits
    (subst (λ (ps : Pairs). PrivateIn (IsOld ps) x) (sym c.in_ok-update.ensures.pairs)
    (entered-names c.version-version.result (Updating c.args.point) p x c.in_ok-private.ensures.stands)))
