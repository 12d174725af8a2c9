-- The parts of a typed file as its version.
use Rattle.std.specs.Prelude.{map}
use Rattle.kt_tree.specs.Tree.{function_of}
use Rattle.kt_tree.specs.Version.{Program}
use Rattle.kt_names.specs.declared.tables.Named.{Named}
use Rattle.kt_names.specs.declared.tables.Texts.{Texts}
use Rattle.kt_check.specs.declared.assembly.Assembly.{Assembly}
use Rattle.kt_check.specs.Built.{definition_seen}
use Rattle.kt_names.specs.Views.{latest_first}

abbrev pub program_seen : Named → Texts → Assembly → Program
program_seen named texts parts = record {
  types = record {
    types = named.types.types.keys;
    structs = map (λ n. n.items) named.structs.keys;
    defined = map definition_seen (latest_first parts.defined.items);
  };
  globals = parts.globals.items;
  literals = texts.literals.items;
  functions = map function_of parts.functions.items;
  points = record { names = map (λ n. n.items) texts.points.keys; updates = texts.updates };
}
