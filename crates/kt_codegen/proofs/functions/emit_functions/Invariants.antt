use Rattle.std.proofs.Common.{◌≡◌, map, take}
use Rattle.kt_tree.specs.Tree.{function_of}
use Rattle.kt_codegen.specs.Emitting.{functions_in, entries_in}
use Rattle.kt_codegen.proofs.functions.emit_functions.Given as goal

abbrev pub invariant-loop-function : goal.invariant-loop-function
invariant-loop-function l = record {
  instrs : l.instrs.items ≡ functions_in l.version (map function_of (take l.function-index l.function-items));
  entries : l.entries.items ≡ entries_in l.version (map function_of (take l.function-index l.function-items));
}
