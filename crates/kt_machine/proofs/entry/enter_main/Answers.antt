use Rattle.std.proofs.Common.{◌≡◌, [], Some, slice_get, sym, ◌∙◌, ap, subst}
use Rattle.kt_tree.specs.Tree.{function_of}
use Rattle.kt_tree.specs.Version.{Program, IsProgram}
use Rattle.kt_pair.specs.VersionActs.{entry_state}
use Rattle.kt_lone.specs.Turn.{main_of, restart_in}
use Rattle.kt_machine.specs.Engine.{code_entry}
use Rattle.kt_machine.proofs.MainEntry.{entry-fits, entry-is, main-entry, main-there, ok-fits, ok-is}
use Rattle.kt_machine.proofs.entry.enter_main.Goals as goal

pub returns-clause-entry : goal.returns-clause-entry
returns-clause-entry c =
    let p = c.args.compiled.now in
    let f = function_of c.in-Some.function.now in
    let found : main_of p.program ≡ Some (c.in-Some.number, f) = sym (c.in-Some.ensures ∙ ap main_of c.version-2.ensures) in
    let at : slice_get p.code.entries c.in-Some.number ≡ Some c.in-Some-entry.at = sym c.in-Some-entry.ensures in
    ok-is (entry_state c.args.v c.in-Some-entry.at c.in-Some.number f [] (restart_in c.args.mode)) (code_entry c.args.v c.args.mode (Some p)) c.entry_state.result
    c.entry_state.ensures
    (sym (entry-is c.args.v c.args.mode p.code (main_of p.program) c.in-Some.number f (Some c.in-Some-entry.at) found at))

pub returns-clause-fits : goal.returns-clause-fits
returns-clause-fits c =
    let p = c.args.compiled.now in
    let program = subst (λ (q : Program). IsProgram q) c.version.ensures c.version_law.ensures.program in
    ok-fits p.code (code_entry c.args.v c.args.mode (Some p)) c.entry_state.result (returns-clause-entry c)
    (entry-fits p program c.compiled_law.ensures.acts c.compiled_law.ensures.fits c.args.v c.args.mode c.requires.mode)

pub unreachable-requires : goal.unreachable-requires
unreachable-requires c =
    let p = c.args.compiled.now in
    let program = subst (λ (q : Program). IsProgram q) c.version.ensures c.version_law.ensures.program in
    let told = rw c.in_default.is at c.main_of.ensures in
    main-there p.program program (sym (told ∙ ap main_of c.version-2.ensures))

pub unreachable-requires-in-None : goal.unreachable-requires-in-None
unreachable-requires-in-None c =
    let p = c.args.compiled.now in
    let f = function_of c.in-Some.function.now in
    let program = subst (λ (q : Program). IsProgram q) c.version.ensures c.version_law.ensures.program in
    let found : main_of p.program ≡ Some (c.in-Some.number, f) = sym (c.in-Some.ensures ∙ ap main_of c.version-2.ensures) in
    main-entry p program c.compiled_law.ensures.acts c.args.v c.in-Some.number f found (sym c.in-None.ensures)
