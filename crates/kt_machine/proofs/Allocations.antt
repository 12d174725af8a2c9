-- What an allocation answers.
use Rattle.std.proofs.Common.{◌≡◌, ℕ, ℤ, pos, Bool, List, [], ◌∷◌, ◌++◌, length, None, Result, Ok, Err, sym, subst, ◌∙◌, ap}
use Rattle.kt_types.specs.declared.kinds.Ty.{Ty}
use Rattle.kt_mem.specs.declared.memory.Name.TheVariants.{Heap}
use Rattle.kt_mem.specs.declared.memory.Value.TheVariants.{Ptr}
use Rattle.kt_mem.specs.declared.steps.Reply.TheVariants.{Got, Trapped}
use Rattle.kt_mem.specs.declared.steps.Trap.{Trap}
use Rattle.kt_mem.specs.Memory.{Memory, alloc, alloc_fault, fresh_object, made, next_pointer, unless_fault}
use Rattle.kt_meaning.specs.Effects.{Shared, Replies, makes}
use Rattle.kt_mem.specs.Renaming.{Pairs, renamed}
use Rattle.kt_heap.specs.ByNumber.{HoldsGiven}
use Rattle.kt_heap.specs.Heap.{IsNew}
use Rattle.kt_heap.proofs.GivenLaws.{allocs_given}
use Rattle.kt_machine.specs.ByNumber.{reply_by}
use Rattle.kt_machine.proofs.Names.{number-last}

pub failed-makes : (s : Shared) (m : Memory) (r : Result Memory Trap) (t : Trap) → r ≡ Err t →
    makes (record s { memory = m }) r ≡ Replies (Trapped t) (record s { memory = m })
failed-makes s m r t e = ap (makes (record s { memory = m })) e

pub made-makes : (s : Shared) (m new : Memory) (ty : ℕ) (types : List Ty) (count : ℤ) (n a : ℕ) (qs : Pairs) (zeros : Bool) →
    count ≡ pos n → alloc_fault m (length types) n ≡ None → renamed qs a ≡ m.next → new ≡ made m m.next (fresh_object m.next ty types n zeros) →
    makes (record s { memory = m }) (alloc m ty types count zeros) ≡ Replies (reply_by qs (Got (Ptr (Heap a) 0))) (record s { memory = new })
made-makes s m new ty types count n a qs zeros number fault next is =
    let object = fresh_object m.next ty types n zeros in
    let there : alloc m ty types count zeros ≡ Ok (made m m.next object) =
    ap (λ z. alloc m ty types z zeros) number ∙ ap (λ f. unless_fault f (made m m.next object)) fault in
    ap (makes (record s { memory = m })) there
    ∙ ap (λ x. Replies (Got (next_pointer m)) (record s { memory = x })) (sym is)
    ∙ ap (λ k. Replies (Got (Ptr (Heap k) 0)) (record s { memory = new })) (sym next)

pub numbered-made : (ps qs : Pairs) (m : Memory) (a : ℕ) → IsNew ps a → qs ≡ ps ++ (a, m.next) ∷ [] → renamed qs a ≡ m.next
numbered-made ps qs m a fresh e = ap (λ (rs : Pairs). renamed rs a) e ∙ number-last ps a m.next fresh

pub given-after : (ps qs : Pairs) (m new : Memory) (a place count : ℕ) (types : List Ty) (zeros : Bool) → HoldsGiven ps m →
    new ≡ made m a (fresh_object m.next place types count zeros) → qs ≡ ps ++ (a, m.next) ∷ [] → HoldsGiven qs new
given-after ps qs m new a place count types zeros holds is pair =
    subst (λ (rs : Pairs). HoldsGiven rs new) (sym pair)
    (subst (λ (x : Memory). HoldsGiven (ps ++ (a, m.next) ∷ []) x) (sym is) (allocs_given ps m a place count types zeros holds))
