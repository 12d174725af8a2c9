-- From the parts of a typed file to its version.
use Rattle.std.proofs.Common.{◌≡◌, ℕ, true, List, [], ◌∷◌, ◌++◌, map, take, length, Ok, refl, sym, ap, ◌∙◌, subst}
use Rattle.std.specs.List.{list_all}
use Rattle.kt_types.specs.Table.{Table, Definition}
use Rattle.kt_types.specs.PointNames.{PointNames}
use Rattle.kt_tree.specs.Names.{is_identifier}
use Rattle.kt_tree.specs.Tree.{function_of}
use Rattle.kt_tree.specs.Version.{Program, IsProgram, AreDistinct, program}
use Rattle.kt_syntax.specs.Tree.{Tree, External}
use Rattle.kt_check.specs.declared.sofar.Defined.{Defined}
use Rattle.kt_check.specs.declared.sofar.Sofar.{Sofar as SofarCode}
use Rattle.kt_names.specs.declared.tables.Named.{Named}
use Rattle.kt_names.specs.declared.tables.Texts.{Texts}
use Rattle.kt_check.specs.declared.assembly.Assembly.{Assembly}
use Rattle.kt_check.specs.Assembly.{program_seen}
use Rattle.kt_check.specs.Built.{definition_seen, reversed_onto, built, CanBuild}
use Rattle.kt_names.specs.Checked.{first, and_then}
use Rattle.kt_check.specs.Files.{Sofar, frame_of, program_of, typed_file, version_of}
use Rattle.kt_check.specs.Named.{AreNamed, is_named}
use Rattle.kt_check.specs.Stages.{sofar_of, typed_from}
use Rattle.kt_names.specs.Tables.{struct_names, types_of, written_of, literals_in, point_names, update_names}
use Rattle.kt_names.specs.Types.{scalars}
use Rattle.kt_names.specs.Uses.{structs_of}
use Rattle.kt_names.specs.Views.{latest_first}
use Rattle.kt_check.proofs.Builds.{file-builds}
use Rattle.kt_check.proofs.ExternalTypes.{types-begin}
use Rattle.kt_check.proofs.NameTables.{names-distinct, none-distinct}
use Rattle.kt_check.proofs.Sound.{version-run, version-sound}
use Rattle.kt_check.proofs.Whole.{typed-is}

-- ---- definitions, the latest first

twice : (xs ys : List Definition) → reversed_onto (reversed_onto xs ys) [] ≡ reversed_onto ys xs
twice [] ys = refl
twice (x ∷ xs) ys = twice xs (x ∷ ys)

onto-behind : (xs : List Definition) (x : Definition) (ys : List Definition) → reversed_onto (xs ++ x ∷ []) ys ≡ x ∷ reversed_onto xs ys
onto-behind [] x ys = refl
onto-behind (y ∷ xs) x ys = onto-behind xs x (y ∷ ys)

seen-behind : (ds : List Defined) (d : Defined) → map definition_seen (ds ++ d ∷ []) ≡ map definition_seen ds ++ definition_seen d ∷ []
seen-behind [] d = refl
seen-behind (e ∷ ds) d = ap (λ l. definition_seen e ∷ l) (seen-behind ds d)

onto-latest : (ds : List Defined) → reversed_onto (map definition_seen (latest_first ds)) [] ≡ map definition_seen ds
onto-latest [] = refl
onto-latest (d ∷ ds) =
    ap (λ l. reversed_onto l []) (seen-behind (latest_first ds) d)
    ∙ onto-behind (map definition_seen (latest_first ds)) (definition_seen d) []
    ∙ ap (λ l. definition_seen d ∷ l) (onto-latest ds)

latest-onto : (ds : List Defined) → reversed_onto (map definition_seen ds) [] ≡ map definition_seen (latest_first ds)
latest-onto ds = ap (λ l. reversed_onto l []) (sym (onto-latest ds)) ∙ twice (map definition_seen (latest_first ds)) []

-- ---- what typing gives

pub program-is : (t : Tree) (named : Named) (texts : Texts) (parts : Assembly) (sofar : SofarCode)
    → map (λ n. n.items) named.structs.keys ≡ struct_names t.externals → named.types.types.keys ≡ types_of t.externals
    → texts.literals.items ≡ literals_in (written_of t.externals) → map (λ n. n.items) texts.points.keys ≡ point_names t.externals
    → texts.updates ≡ length (update_names t.externals) → parts.defined ≡ sofar.defined → parts.globals ≡ sofar.globals → parts.functions ≡ sofar.functions
    → typed_from (frame_of t.externals) t.length ≡ Ok (sofar_of sofar) → typed_file t ≡ Ok (program_seen named texts parts)
program-is t named texts parts sofar structs types literals points updates defined globals functions typed =
    typed-is t ∙ ap (λ c. and_then c (λ s. Ok (program_of (frame_of t.externals) s))) typed
    ∙ (λ i. Ok (record {
      types = record { types = sym types i; structs = sym structs i; defined = map definition_seen (latest_first (sym defined i).items) };
      globals = (sym globals i).items;
      literals = sym literals i;
      functions = map function_of (sym functions i).items;
      points = record { names = sym points i; updates = sym updates i };
    }))

-- ---- the table and the version

module _ (t : Tree) (named : Named) (texts : Texts) (parts : Assembly) (typed : typed_file t ≡ Ok (program_seen named texts parts)) where
  abbrev pub p : Program
  p = program_seen named texts parts

  is-version : version_of t ≡ Ok p
  is-version = ap first typed

  same-structs : struct_names t.externals ≡ p.types.structs
  same-structs = let run = version-run t p is-version in ap (λ q. q.types.structs) run.3

  same-types : types_of t.externals ≡ p.types.types
  same-types = let run = version-run t p is-version in ap (λ q. q.types.types) run.3

  pub are-distinct : AreDistinct (map (λ n. n.items) named.structs.keys)
  are-distinct = subst AreDistinct same-structs (names-distinct [] (structs_of t.externals) none-distinct)

  pub begins : take 4 named.types.types.keys ≡ scalars
  begins = ap (take 4) (sym same-types) ∙ ap (take 4) (types-begin t.externals).1

  pub can-build : CanBuild named.types.types.keys (map (λ n. n.items) named.structs.keys) 4 [] (map definition_seen parts.defined.items)
  can-build =
      let (z, run, main, is) = version-run t p is-version in
      let (rest, rev, can) = file-builds t.externals z run in
      let defs : rest ≡ map definition_seen parts.defined.items =
      sym (twice rest []) ∙ ap (λ l. reversed_onto l []) (rev ∙ ap (λ q. q.types.defined) is) ∙ onto-latest parts.defined.items in
      subst (λ l. CanBuild named.types.types.keys (map (λ n. n.items) named.structs.keys) 4 [] l) defs
      (subst (λ ns. CanBuild named.types.types.keys ns 4 [] rest) same-structs
      (subst (λ ts. CanBuild ts (struct_names t.externals) 4 [] rest) same-types can))

  pub is-program : list_all is_identifier (map (λ n. n.items) named.structs.keys) ≡ true → list_all is_named t.externals ≡ true → IsProgram p
  is-program structs externals =
      version-sound t p is-version (record { structs = subst (λ ns. list_all is_identifier ns ≡ true) (sym same-structs) structs; externals = externals })

  pub assembled-is : (table : Table) (points : PointNames) → table ≡ built named.types.types.keys (map (λ n. n.items) named.structs.keys) (map definition_seen parts.defined.items)
      → points.names ≡ map (λ n. n.items) texts.points.keys → points.updates ≡ texts.updates
      → program table parts.globals.items texts.literals.items (map function_of parts.functions.items) points ≡ p
  assembled-is table points table-is names updates i = record {
    types = (table-is ∙ ap (λ l. record { types = named.types.types.keys; structs = map (λ n. n.items) named.structs.keys; defined = l }) (latest-onto parts.defined.items)) i;
    globals = parts.globals.items;
    literals = texts.literals.items;
    functions = map function_of parts.functions.items;
    points = record { names = names i; updates = updates i };
  }
