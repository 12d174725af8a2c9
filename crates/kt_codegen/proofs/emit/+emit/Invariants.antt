use Rattle.std.proofs.Common.{drop}
use Rattle.kt_tree.specs.Tree.{statements_of}
use Rattle.kt_codegen.specs.Emitting.{PutsAll}
use Rattle.kt_codegen.proofs.emit.+emit.Given as goal

abbrev pub invariant-emit_block-loop-place : goal.invariant-emit_block-loop-place
invariant-emit_block-loop-place l = PutsAll l.version (statements_of (drop l.place l.block)) l.next l.exit l.fn.out.items l.out.items
