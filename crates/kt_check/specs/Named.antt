-- What a parsed file keeps: its names are identifiers.
use Rattle.std.specs.Prelude.{◌≡◌, ◌&&◌, Bool, true, Option, Some, None}
use Rattle.std.specs.List.{list_all}
use Rattle.kt_syntax.specs.declared.tree.Declarator.{Declarator}
use Rattle.kt_syntax.specs.declared.tree.Fields.{Fields}
use Rattle.kt_syntax.specs.declared.tree.GlobalDeclarator.{GlobalDeclarator}
use Rattle.kt_syntax.specs.declared.tree.Parameter.{Parameter}
use Rattle.kt_syntax.specs.Tree.{Tree, Local, Declaration, Start, NoStart, Declares, Evaluates, Statement, Declared, Compound, Conditional, Alternative, Looped, Repeated, Counted, Statements, Nothing as NoStatements, More as Then, Definition, Routine, External, StructMentioned, StructDefined, GlobalsDeclared, FunctionDeclared}
use Rattle.kt_tree.specs.Names.{is_identifier}
use Rattle.kt_names.specs.Tables.{struct_names}

abbrev pub is_named_field : Declarator → Bool
is_named_field d = is_identifier d.name.word

abbrev pub are_named_fields : Fields → Bool
are_named_fields f = list_all is_named_field f.declarators

abbrev pub is_named_global : GlobalDeclarator → Bool
is_named_global g = is_identifier g.declarator.name.word

abbrev pub is_named_parameter : Parameter → Bool
is_named_parameter p = is_identifier p.name.word

-- ---- locals

abbrev pub is_named_local : Local → Bool
is_named_local l = is_identifier l.name.word

abbrev pub are_named_locals : Declaration → Bool
are_named_locals x = list_all is_named_local x.locals

abbrev pub is_named_start : Start → Bool
is_named_start NoStart = true
is_named_start (Declares x) = are_named_locals x
is_named_start (Evaluates e) = true

-- the locals of a statement, and of all in it
abbrev mutual
  pub is_named_statement : Statement → Bool
  is_named_statement (Declared x) = are_named_locals x
  is_named_statement (Compound block) = are_named_statements block
  is_named_statement (Conditional c s) = is_named_statement s
  is_named_statement (Alternative c s t) = is_named_statement s && is_named_statement t
  is_named_statement (Looped c s) = is_named_statement s
  is_named_statement (Repeated s c) = is_named_statement s
  is_named_statement (Counted start test step s) = is_named_start start && is_named_statement s
  is_named_statement _ = true

  pub are_named_statements : Statements → Bool
  are_named_statements NoStatements = true
  are_named_statements (Then s rest) = is_named_statement s && are_named_statements rest

-- ---- the file

abbrev pub is_named_body : Option Definition → Bool
is_named_body None = true
is_named_body (Some b) = are_named_statements b.entries

abbrev pub is_named_routine : Routine → Bool
is_named_routine r = is_identifier r.name.word && list_all is_named_parameter r.parameters && is_named_body r.body

abbrev pub is_named : External → Bool
is_named (StructMentioned n) = true
is_named (StructDefined n fs) = list_all are_named_fields fs
is_named (GlobalsDeclared b gs) = list_all is_named_global gs
is_named (FunctionDeclared r) = is_named_routine r

pub record AreNamed (t : Tree) : Type 0 where
  pub structs : list_all is_identifier (struct_names t.externals) ≡ true
  pub externals : list_all is_named t.externals ≡ true
