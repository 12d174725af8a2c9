-- The names of fields, globals, functions and locals, part by part.
use Rattle.std.proofs.Common.{◌≡◌, ℕ, ◌&&◌, Bool, true, List, [], ◌∷◌, ◌++◌, map, Option, Some, None, refl}
use Rattle.std.specs.List.{list_all, AllByRecursion}
use Rattle.std.proofs.lemmas.Bool.{and_parts}
use Rattle.kt_grammar.specs.declared.tree.Base.{Base}
use Rattle.kt_syntax.specs.declared.tree.Declarator.{Declarator}
use Rattle.kt_syntax.specs.declared.tree.Fields.{Fields}
use Rattle.kt_syntax.specs.declared.tree.GlobalDeclarator.{GlobalDeclarator}
use Rattle.kt_syntax.specs.declared.tree.Parameter.{Parameter}
use Rattle.kt_syntax.specs.Tree.{Local, Declaration, Start, NoStart, Declares, Evaluates, Statement, Declared, Compound, Empty, Evaluated, Returned, Broken, Continued, Conditional, Alternative, Looped, Repeated, Counted, Statements, Nothing as NoStatements, More as Then, Definition, Routine, External, StructMentioned, StructDefined, GlobalsDeclared, FunctionDeclared}
use Rattle.kt_tree.specs.Names.{is_identifier}
use Rattle.kt_names.specs.Uses.{where_there}
use Rattle.kt_names.specs.Tables.{DeclaredLocal, declared_type, parameter_local, locals_in, start_locals, statement_locals, block_locals, locals_of}
use Rattle.kt_check.specs.Files.{OneField, fields_in}
use Rattle.kt_check.specs.Named.{is_named_field, are_named_fields, is_named_global, is_named_parameter, is_named_local, are_named_locals, is_named_start, is_named_statement, are_named_statements, is_named_body, is_named_routine, is_named}
use Rattle.kt_check.proofs.FieldCells.{all-both}

-- a declarator of a field or global
abbrev pub IsNamedDeclarator : Declarator → Type 0
IsNamedDeclarator d = is_identifier d.name.word ≡ true

-- a parameter or local
abbrev pub IsNamedLocal : DeclaredLocal → Type 0
IsNamedLocal l = is_identifier l.name ≡ true

-- a function and all its locals
abbrev pub IsNamedRoutine : List (List ℕ) → Routine → Type 0
IsNamedRoutine structs r = (is_identifier r.name.word ≡ true) × AllByRecursion IsNamedLocal (locals_of structs r)

abbrev pub IsNamed : List (List ℕ) → External → Type 0
IsNamed structs (StructMentioned n) = Unit {0}
IsNamed structs (StructDefined n fs) = AllByRecursion (λ x. IsNamedDeclarator x.declarator) (fields_in fs)
IsNamed structs (GlobalsDeclared b gs) = AllByRecursion (λ g. IsNamedDeclarator g.declarator) gs
IsNamed structs (FunctionDeclared r) = IsNamedRoutine structs r

fields-base : (b : Base) (ds : List Declarator) → list_all is_named_field ds ≡ true → AllByRecursion (λ (x : OneField). IsNamedDeclarator x.declarator) (map (λ d. record { base = b; declarator = d }) ds)
fields-base b [] h = tt
fields-base b (d ∷ ds) h = let (here, rest) = and_parts (is_named_field d) (list_all is_named_field ds) h in (here, fields-base b ds rest)

fields-all : (fs : List Fields) → list_all are_named_fields fs ≡ true → AllByRecursion (λ x. IsNamedDeclarator x.declarator) (fields_in fs)
fields-all [] h = tt
fields-all (f ∷ fs) h =
    let (here, rest) = and_parts (are_named_fields f) (list_all are_named_fields fs) h in
    all-both (λ (x : OneField). IsNamedDeclarator x.declarator) (map (λ d. record { base = f.base; declarator = d }) f.declarators) (fields_in fs) (fields-base f.base f.declarators here) (fields-all fs rest)

globals-all : (gs : List GlobalDeclarator) → list_all is_named_global gs ≡ true → AllByRecursion (λ g. IsNamedDeclarator g.declarator) gs
globals-all [] h = tt
globals-all (g ∷ gs) h = let (here, rest) = and_parts (is_named_global g) (list_all is_named_global gs) h in (here, globals-all gs rest)

module _ (structs : List (List ℕ)) where
  parameters-all : (ps : List Parameter) → list_all is_named_parameter ps ≡ true → AllByRecursion IsNamedLocal (map (parameter_local structs) ps)
  parameters-all [] h = tt
  parameters-all (p ∷ ps) h = let (here, rest) = and_parts (is_named_parameter p) (list_all is_named_parameter ps) h in (here, parameters-all ps rest)

  abbrev declared_local : Base → Local → DeclaredLocal
  declared_local b l = record { name = l.name.word; ty = declared_type structs b l.pointer; base = b; pointer = l.pointer }

  locals-base : (b : Base) (ls : List Local) → list_all is_named_local ls ≡ true → AllByRecursion IsNamedLocal (map (declared_local b) ls)
  locals-base b [] h = tt
  locals-base b (l ∷ ls) h = let (here, rest) = and_parts (is_named_local l) (list_all is_named_local ls) h in (here, locals-base b ls rest)

  locals-all : (x : Declaration) → are_named_locals x ≡ true → AllByRecursion IsNamedLocal (locals_in structs x)
  locals-all x h = locals-base x.base x.locals h

  start-all : (x : Start) → is_named_start x ≡ true → AllByRecursion IsNamedLocal (start_locals structs x)
  start-all NoStart h = tt
  start-all (Declares x) h = locals-all x h
  start-all (Evaluates e) h = tt

  mutual
    statement-all : (s : Statement) → is_named_statement s ≡ true → AllByRecursion IsNamedLocal (statement_locals structs s)
    statement-all (Declared x) h = locals-all x h
    statement-all (Compound block) h = block-all block h
    statement-all Empty h = tt
    statement-all (Evaluated e) h = tt
    statement-all (Returned at e) h = tt
    statement-all (Broken at) h = tt
    statement-all (Continued at) h = tt
    statement-all (Conditional c s) h = statement-all s h
    statement-all (Alternative c s t) h =
        let (first, second) = and_parts (is_named_statement s) (is_named_statement t) h in
        all-both IsNamedLocal (statement_locals structs s) (statement_locals structs t) (statement-all s first) (statement-all t second)
    statement-all (Looped c s) h = statement-all s h
    statement-all (Repeated s c) h = statement-all s h
    statement-all (Counted start test step s) h =
        let (first, second) = and_parts (is_named_start start) (is_named_statement s) h in
        all-both IsNamedLocal (start_locals structs start) (statement_locals structs s) (start-all start first) (statement-all s second)

    block-all : (b : Statements) → are_named_statements b ≡ true → AllByRecursion IsNamedLocal (block_locals structs b)
    block-all NoStatements h = tt
    block-all (Then s rest) h =
        let (first, second) = and_parts (is_named_statement s) (are_named_statements rest) h in
        all-both IsNamedLocal (statement_locals structs s) (block_locals structs rest) (statement-all s first) (block-all rest second)

  body-all : (b : Option Definition) → is_named_body b ≡ true → AllByRecursion IsNamedLocal (where_there (λ d. block_locals structs d.entries) b)
  body-all None h = tt
  body-all (Some b) h = block-all b.entries h

  routine-all : (r : Routine) → is_named_routine r ≡ true → IsNamedRoutine structs r
  routine-all r h =
      let (front, body) = and_parts (is_identifier r.name.word && list_all is_named_parameter r.parameters) (is_named_body r.body) h in
      let (name, parameters) = and_parts (is_identifier r.name.word) (list_all is_named_parameter r.parameters) front in (
        name,
        all-both IsNamedLocal (map (parameter_local structs) r.parameters) (where_there (λ d. block_locals structs d.entries) r.body) (parameters-all r.parameters parameters) (body-all r.body body),
      )

  external-all : (x : External) → is_named x ≡ true → IsNamed structs x
  external-all (StructMentioned n) h = tt
  external-all (StructDefined n fs) h = fields-all fs h
  external-all (GlobalsDeclared b gs) h = globals-all gs h
  external-all (FunctionDeclared r) h = routine-all r h

  -- each external declaration's names are identifiers
  pub externals-all : (xs : List External) → list_all is_named xs ≡ true → AllByRecursion (IsNamed structs) xs
  externals-all [] h = tt
  externals-all (x ∷ xs) h = let (here, rest) = and_parts (is_named x) (list_all is_named xs) h in (external-all x here, externals-all xs rest)
