use Rattle.std.proofs.Common.{◌≡◌, ◌++◌, map, drop}
use Rattle.kt_names.specs.Tables.{declared_type}
use Rattle.kt_names.proofs.outer.parameter_types.Given as goal

abbrev pub invariant-loop-parameter : goal.invariant-loop-parameter
invariant-loop-parameter l = l.types.items ++ map (λ p. declared_type (map (λ n. n.items) l.structs.keys) p.base p.pointer) (drop l.parameter-index l.parameters) ≡ map (λ p. declared_type (map (λ n. n.items) l.structs.keys) p.base p.pointer) l.parameters
