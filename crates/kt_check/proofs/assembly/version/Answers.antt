use Rattle.std.proofs.Common.{◌∙◌, sym, ap, subst, map, IfOk, ◌≡◌, []}
use Rattle.std.specs.List.{list_all}
use Rattle.kt_types.specs.Table.{Definition}
use Rattle.kt_tree.specs.Version.{IsProgram, Program}
use Rattle.kt_syntax.specs.Tree.{tree_of, external_of}
use Rattle.kt_check.specs.Named.{is_named}
use Rattle.kt_check.specs.Built.{definition_seen, built, CanBuild}
use Rattle.kt_check.proofs.Assembled.{are-distinct, begins, can-build, is-program, assembled-is}
use Rattle.kt_check.proofs.assembly.version.Goals as goal

pub table-requires-clause-distinct : goal.table-requires-clause-distinct
table-requires-clause-distinct c = are-distinct (tree_of c.args.file.now) c.args.named.now c.args.texts c.args.parts c.requires.typed

pub table-requires-clause-begins : goal.table-requires-clause-begins
table-requires-clause-begins c = begins (tree_of c.args.file.now) c.args.named.now c.args.texts c.args.parts c.requires.typed

pub table-requires-clause-fit : goal.table-requires-clause-fit
table-requires-clause-fit c =
    subst (λ ds. CanBuild c.args.named.now.types.types.keys (map (λ n. n.items) c.args.named.now.structs.keys) 4 [] (map definition_seen ds)) (sym c.as_slice-2.ensures.value)
    (can-build (tree_of c.args.file.now) c.args.named.now c.args.texts c.args.parts c.requires.typed)

pub assembled-requires-clause-program : goal.assembled-requires-clause-program
assembled-requires-clause-program c =
    let t = tree_of c.args.file.now in
    let made = c.in_ok-table.ensures ∙ ap (λ ds. built c.args.named.now.types.types.keys (map (λ n. n.items) c.args.named.now.structs.keys) (map definition_seen ds)) c.as_slice-2.ensures.value in
    subst IsProgram (sym (assembled-is t c.args.named.now c.args.texts c.args.parts c.requires.typed _ _ made c.in_ok-points.ensures.names c.in_ok-points.ensures.updates))
    (is-program t c.args.named.now c.args.texts c.args.parts c.requires.typed c.requires.identifiers (ap (λ items. list_all is_named (map external_of items)) (sym c.as_slice.ensures) ∙ c.names.ensures))

pub returns : goal.returns
returns c =
    let t = tree_of c.args.file.now in
    let made = c.in_ok-table.ensures ∙ ap (λ ds. built c.args.named.now.types.types.keys (map (λ n. n.items) c.args.named.now.structs.keys) (map definition_seen ds)) c.as_slice-2.ensures.value in
    subst (λ (p : Program). IfOk c.assembled.result (λ v. v ≡ p)) (assembled-is t c.args.named.now c.args.texts c.args.parts c.requires.typed _ _ made c.in_ok-points.ensures.names c.in_ok-points.ensures.updates) c.assembled.ensures
