use Rattle.std.proofs.Common.{◌<◌, ◌≤◌, ◌++◌, List, length, map, get_or, subst, ap, ◌∙◌}
use Rattle.kt_syntax.specs.declared.tree.LocalDeclarator.{LocalDeclarator}
use Rattle.kt_names.specs.Tables.{DeclaredLocal}
use Rattle.kt_names.specs.Views.{environment_of}
use Rattle.kt_names.specs.Scopes.{declared_as}
use Rattle.kt_check.proofs.FunctionLocals.{local_as, one-more, all-of, locals-are}
use Rattle.kt_check.proofs.function_locals.add_declaration.Goals as goal

pub loop-declarator-preserved : goal.loop-declarator-preserved
loop-declarator-preserved c =
    let i = c.loop-declarator.declarator-index in
    let d = c.declarator-item.result in
    one-more (local_as (environment_of c.args.env.now).names c.args.d.now.base) c.args.d.now.declarators i d
    (map declared_as c.args.all.now.items) (map declared_as c.loop-declarator.all.items) (map declared_as c.add.new.all.items)
    c.loop-declarator.invariant c.in_ok-add.ensures.added
    (subst (λ (xs : List LocalDeclarator). i < length xs) c.as_slice-declarator-items.ensures c.loop-declarator-test.true)
    (c.declarator-item.is ∙ ap (λ (xs : List LocalDeclarator). get_or xs i d) c.as_slice-declarator-items.ensures)

pub returns-clause-added : goal.returns-clause-added
returns-clause-added c =
    let names = (environment_of c.args.env.now).names in
    let i = c.loop-declarator.declarator-index in
    all-of (local_as names c.args.d.now.base) c.args.d.now.declarators i (map declared_as c.args.all.now.items) (map declared_as c.loop-declarator.all.items)
    (subst (λ (xs : List LocalDeclarator). length xs ≤ i) c.as_slice-declarator-items.ensures c.loop-declarator-test.false) c.loop-declarator.invariant
    ∙ ap (λ (ls : List DeclaredLocal). map declared_as c.args.all.now.items ++ ls) (locals-are names c.args.d.now.base c.args.d.now.declarators)
