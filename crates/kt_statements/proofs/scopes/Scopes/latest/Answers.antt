use Rattle.std.proofs.Common.{◌≡◌, sym, ap, ◌∙◌}
use Rattle.kt_tree.specs.Tree.{Constant', LocalRead}
use Rattle.kt_typing.specs.declared.standing.Standing.TheVariants as standing
use Rattle.kt_typing.specs.Environment.{Missing, Barred, Stands, Routine}
use Rattle.kt_operands.specs.Views.{meaning_of}
use Rattle.kt_statements.specs.Scopes.{body_of, meaning_in}
use Rattle.kt_statements.proofs.Latest.{latest-by, latest-other}
use Rattle.kt_statements.proofs.scopes.Scopes.latest.Goals as goal

pub returns-in-Local : goal.returns-in-Local
returns-in-Local c =
    let s = c.args.self.now in
    let env = (body_of c.args.body.now).environment in
    let now = meaning_in s.names.entries in
    latest-by s.locals.items s.places.items c.requires.placed env.scope.locals env.name now c.args.name.now c.requires.shown c.place_at.result c.in-Local.x c.in-Local.field-1
    (sym c.meaning.ensures ∙ ap meaning_of c.in-Local.is) c.place_at.ensures.there c.place_at.ensures.placed c.place_at.ensures.missing

pub returns-in-Missing : goal.returns-in-Missing
returns-in-Missing c =
    let s = c.args.self.now in
    let env = (body_of c.args.body.now).environment in
    let now = meaning_in s.names.entries in
    latest-other s.locals.items s.places.items c.requires.placed env.scope.locals env.name now c.args.name.now c.requires.shown (meaning_of c.meaning.result)
    (sym c.meaning.ensures) (λ n t e. (let h : Missing ≡ Stands (standing.Local n) t (LocalRead n) = sym (ap meaning_of c.in-Missing.is) ∙ e in cc))

pub returns-in-Barred : goal.returns-in-Barred
returns-in-Barred c =
    let s = c.args.self.now in
    let env = (body_of c.args.body.now).environment in
    let now = meaning_in s.names.entries in
    latest-other s.locals.items s.places.items c.requires.placed env.scope.locals env.name now c.args.name.now c.requires.shown (meaning_of c.meaning.result)
    (sym c.meaning.ensures) (λ n t e. (let h : Barred ≡ Stands (standing.Local n) t (LocalRead n) = sym (ap meaning_of c.in-Barred.is) ∙ e in cc))

pub returns-in-Fixed : goal.returns-in-Fixed
returns-in-Fixed c =
    let s = c.args.self.now in
    let env = (body_of c.args.body.now).environment in
    let now = meaning_in s.names.entries in
    latest-other s.locals.items s.places.items c.requires.placed env.scope.locals env.name now c.args.name.now c.requires.shown (meaning_of c.meaning.result)
    (sym c.meaning.ensures) (λ n t e. (let h : Stands c.in-Fixed.field-0 c.in-Fixed.field-1 (Constant' c.in-Fixed.field-2 c.in-Fixed.field-1) ≡ Stands (standing.Local n) t (LocalRead n) = sym (ap meaning_of c.in-Fixed.is) ∙ e in cc))

pub returns-in-Routine : goal.returns-in-Routine
returns-in-Routine c =
    let s = c.args.self.now in
    let env = (body_of c.args.body.now).environment in
    let now = meaning_in s.names.entries in
    latest-other s.locals.items s.places.items c.requires.placed env.scope.locals env.name now c.args.name.now c.requires.shown (meaning_of c.meaning.result)
    (sym c.meaning.ensures) (λ n t e. (let h : Routine c.in-Routine.field-0 ≡ Stands (standing.Local n) t (LocalRead n) = sym (ap meaning_of c.in-Routine.is) ∙ e in cc))
