use Rattle.std.proofs.Common.{◌≡◌, ℕ, List, length, refl, ◌∙◌, ap, arith}
use Rattle.kt_mem.specs.declared.memory.Name.TheVariants.{Lit}
use Rattle.kt_mem.specs.Memory.{Memory, Object}
use Rattle.kt_heap.specs.Heap.{memory, with_object}
use Rattle.kt_lone.specs.Update.{literal_object}
use Rattle.kt_machine.proofs.FirstMemory.{literals-more, literals-all, item-at}
use Rattle.kt_machine.proofs.first_heap.set_literals.Goals as goal

pub loop-i-init : goal.loop-i-init
loop-i-init c = record { memory = c.requires; given = refl }

pub loop-i-preserved : goal.loop-i-preserved
loop-i-preserved c =
    let p = c.args.version.now in
    let bytes = c.literal-item.result in
    let i = c.loop-i.i in
    let v = c.args.v in
    let at = item-at c.literals-literal-items.result.now p.literals i bytes c.literals-literal-items.ensures c.loop-i-test.true c.literal-item.is in
    record {
      memory = c.in_ok-set_literal.ensures.set
          ∙ ap (λ (o : Object). with_object (memory c.loop-i.heap) (Lit v i) o) c.in_ok-object.ensures
          ∙ ap (λ (b : List ℕ). with_object (memory c.loop-i.heap) (Lit v i) (literal_object b)) c.as_bytes.ensures
          ∙ ap (λ (m : Memory). with_object m (Lit v i) (literal_object bytes)) c.loop-i.invariant.memory
          ∙ literals-more v p (memory c.args.heap.now).next i bytes at;
      given = c.set_literal.ensures.pairs ∙ c.loop-i.invariant.given;
    }

pub returns : goal.returns
returns c =
    let p = c.args.version.now in
    let all : c.loop-i.i ≡ length p.literals = omega (arith, ap length c.literals-literal-items.ensures) in
    record {
      memory = c.loop-i.invariant.memory ∙ literals-all c.args.v p (memory c.args.heap.now).next c.loop-i.i all;
      given = c.loop-i.invariant.given;
    }
