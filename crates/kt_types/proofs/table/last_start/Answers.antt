use Rattle.std.proofs.Common.{◌≡◌, true, false, leb, rules}
use Rattle.std.specs.List.Sorted.{IsPartitionPoint}
use Rattle.std.proofs.lemmas.List.Sorted.{IsPartitionPoint-from_clause, IsPartitionedBy-leb}
use Rattle.kt_types.proofs.Starts.{start_before, start_from, start_to}
use Rattle.kt_types.proofs.table.last_start.Goals as goal

-- where the starts after the cell begin
point : (c : goal.After-partition_point) → IsPartitionPoint (λ y. leb y c.args.cell ≡ true) (λ y. leb y c.args.cell ≡ false) c.args.starts.now c.partition_point.result
point c =
    IsPartitionPoint-from_clause (λ y. leb y c.args.cell) _ _ c.partition_point.ensures.partitioned (IsPartitionedBy-leb (λ y. y) _ c.args.cell c.requires.sorted) (λ a r q k. search rules)

pub overflow_sub-result : goal.overflow_sub-result
overflow_sub-result c = start_before _ _ _ (point c) c.requires.some_start c.requires.from

pub returns-clause-from : goal.returns-clause-from
returns-clause-from c = start_from _ _ _ (point c) c.requires.some_start c.requires.from

pub returns-clause-to : goal.returns-clause-to
returns-clause-to c = start_to _ _ _ (point c) c.requires.some_start c.requires.from
