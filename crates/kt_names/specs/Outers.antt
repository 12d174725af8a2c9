-- What the code's lists of globals and functions, and its table of the names of a file, stand for.
use Rattle.std.specs.Prelude.{ℕ, List, Option, map}
use Rattle.std.specs.Option.{option_map}
use Rattle.std.specs.Map.{lookup}
use Rattle.std.specs.Str.{bytes_eq}
use Rattle.std.specs.Global.{Vec}
use Rattle.kt_syntax.specs.Tree.{Routine}
use Rattle.kt_names.specs.declared.info.Outer.{Outer as OuterCode}
use Rattle.kt_names.specs.declared.outer.DeclaredGlobal.{DeclaredGlobal}
use Rattle.kt_names.specs.Environment.{Outer, Function, Declared}
use Rattle.kt_names.specs.Tables.{OuterGlobal, first_by, parameter_types, result_type}
use Rattle.kt_names.specs.Views.{outer_of}

abbrev pub global_of : DeclaredGlobal → OuterGlobal
global_of g = record { base = g.base.now; declarator = g.declarator.now }

-- what the table has under a name
abbrev pub outer_in : List (Vec ℕ × OuterCode) → List ℕ → Option Outer
outer_in es name = option_map outer_of (lookup (λ k. bytes_eq name k.items) es)

-- a function as it is declared, with this number
abbrev pub signature_of : List (List ℕ) → Option ℕ → Routine → Declared
signature_of t number f = record { parameters = parameter_types t f; result = result_type t f; number = number }

-- a function as its first declaration among these has it, with this number
abbrev pub first_function : List (List ℕ) → Option ℕ → List Routine → List ℕ → Option Outer
first_function t number fs name = option_map Function (option_map (signature_of t number) (first_by (λ f. bytes_eq f.name.word name) fs))
