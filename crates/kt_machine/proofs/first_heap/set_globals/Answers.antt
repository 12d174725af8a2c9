use Rattle.std.proofs.Common.{◌≡◌, ◌*◌, ◌≤◌, length, refl, sym, ◌∙◌, ap, subst, arith}
use Rattle.kt_types.specs.Layout.{cells, IsComplete}
use Rattle.kt_types.specs.Table.{Table}
use Rattle.kt_mem.specs.declared.memory.Name.TheVariants.{Glob}
use Rattle.kt_mem.specs.Memory.{Memory, Object}
use Rattle.kt_heap.specs.Heap.{memory, with_object}
use Rattle.kt_lone.specs.Update.{global_object}
use Rattle.kt_machine.proofs.FirstMemory.{globals-more, globals-all, global-is, item-at}
use Rattle.kt_machine.proofs.first_heap.set_globals.Goals as goal

pub loop-i-init : goal.loop-i-init
loop-i-init c = record { memory = c.requires; given = refl }

pub global_object-requires : goal.global_object-requires
global_object-requires c =
    let p = c.args.version.now in
    let g = c.global-item.result in
    let at = item-at c.globals-global-items.result.now p.globals c.loop-i.i g c.globals-global-items.ensures c.loop-i-test.true c.global-item.is in
    let is = global-is p c.version_law.ensures.program c.loop-i.i g at in
    record {
      complete = subst (λ (t : Table). IsComplete t g.ty) (sym c.types.ensures) is.complete;
      within = subst (λ (t : Table). g.count * length (cells t g.ty) ≤ 65536) (sym c.types.ensures) is.within;
    }

pub loop-i-preserved : goal.loop-i-preserved
loop-i-preserved c =
    let p = c.args.version.now in
    let g = c.global-item.result in
    let i = c.loop-i.i in
    let at = item-at c.globals-global-items.result.now p.globals i g c.globals-global-items.ensures c.loop-i-test.true c.global-item.is in
    record {
      memory = c.in_ok-set_global.ensures.set
          ∙ ap (λ (o : Object). with_object (memory c.loop-i.heap) (Glob i) o) c.in_ok-object.ensures
          ∙ ap (λ (t : Table). with_object (memory c.loop-i.heap) (Glob i) (global_object c.args.v t g)) c.types.ensures
          ∙ ap (λ (m : Memory). with_object m (Glob i) (global_object c.args.v p.types g)) c.loop-i.invariant.memory
          ∙ globals-more c.args.v p (memory c.args.heap.now).next i g at;
      given = c.set_global.ensures.pairs ∙ c.loop-i.invariant.given;
    }

pub returns : goal.returns
returns c =
    let p = c.args.version.now in
    let all : c.loop-i.i ≡ length p.globals = omega (arith, ap length c.globals-global-items.ensures) in
    record {
      memory = c.loop-i.invariant.memory ∙ globals-all c.args.v p (memory c.args.heap.now).next c.loop-i.i all;
      given = c.loop-i.invariant.given;
    }
