use Rattle.std.proofs.Common.{◌≡◌, ℕ, zero, suc, ◌+◌, List, [], ◌∷◌, ◌++◌, map, take, slice_get, Some, sym, ◌∙◌, ap, arith}
use Rattle.std.proofs.lemmas.Option.{none-some, same_Some}
use Rattle.kt_types.specs.declared.kinds.Ty.{Ty}
use Rattle.kt_types.specs.Layout.{cells}
use Rattle.kt_mem.specs.Memory.{Cell}
use Rattle.kt_lone.specs.Update.{initial_cell}
use Rattle.kt_machine.proofs.first_objects.first_cells.Goals as goal

-- one cell more
next : (f : Ty → Cell) (ts : List Ty) (i : ℕ) (t : Ty) → slice_get ts i ≡ Some t → map f (take i ts) ++ f t ∷ [] ≡ map f (take (suc i) ts)
next f [] i t at = absurd (none-some t at)
next f (u ∷ ts) zero t at = ap (λ x. f x ∷ []) (sym (same_Some u t at))
next f (u ∷ ts) (suc i) t at = ap (λ cs. f u ∷ cs) (next f ts i t at)

more : (f : Ty → Cell) (ts : List Ty) (i : ℕ) (t : Ty) (before : List Cell) → slice_get ts i ≡ Some t → before ≡ map f (take i ts) →
    before ++ f t ∷ [] ≡ map f (take (i + 1) ts)
more f ts i t before at is =
    let e : suc i ≡ i + 1 = omega arith in
    ap (λ cs. cs ++ f t ∷ []) is ∙ next f ts i t at ∙ ap (λ n. map f (take n ts)) e

pub loop-i-preserved : goal.loop-i-preserved
loop-i-preserved c =
    c.in_ok-push.ensures.items
    ∙ ap (λ (x : Cell). c.loop-i.element.items ++ x ∷ []) c.initial_cell.ensures
    ∙ more (initial_cell c.args.v c.args.global.now.init) (cells c.args.types.now c.args.global.now.ty) c.loop-i.i c.cell_type.result c.loop-i.element.items
    c.cell_type.ensures c.loop-i.invariant
