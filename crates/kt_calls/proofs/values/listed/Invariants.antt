use Rattle.std.proofs.Common.{◌≡◌, ◌++◌, map, length, reverse}
use Rattle.kt_calls.proofs.values.listed.Given as goal

abbrev pub decreases-loop-value : goal.decreases-loop-value
decreases-loop-value l = length l.values.items

abbrev pub invariant-loop-value : goal.invariant-loop-value
invariant-loop-value l =
    (l.types.items ++ map (λ v. v.ty) (reverse l.values.items) ≡ map (λ v. v.ty) l.fn.values.items)
    × (l.trees ++ map (λ v. v.tree) (reverse l.values.items) ≡ map (λ v. v.tree) l.fn.values.items)
