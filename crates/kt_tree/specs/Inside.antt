-- What a version keeps inside.
use Rattle.std.specs.Prelude.{◌≡◌, map, take}
use Rattle.kt_tree.specs.Tree.{function_of}
use Rattle.kt_tree.specs.Version.{Program, IsProgram, IsNumbered, global_names, function_names, update_points}
use Rattle.kt_tree.specs.declared.version.Version.TheInside.{Inside}

abbrev pub program_of : Inside → Program
program_of a = record { types = a.types; globals = a.globals; literals = a.literals; functions = map function_of a.functions; points = a.points }

-- the parts are those of a program, and the tables hold its names
pub record KeepsProgram (a : Inside) : Type 0 where
  pub program : IsProgram (program_of a)
  pub numbered : IsNumbered (program_of a)
  pub global_names : a.global_names ≡ global_names (program_of a)
  pub function_names : a.function_names ≡ function_names (program_of a)
  pub point_names : a.point_names ≡ update_points (program_of a)
