use Rattle.std.proofs.Common.{◌≡◌, sym, subst}
use Rattle.kt_words.specs.Form.{texts}
use Rattle.kt_words.specs.Reading.{told, Grows, HasNoForm}
use Rattle.kt_words.specs.declared.fault.WordFault.TheVariants.{Words}
use Rattle.kt_words.proofs.Continuing.{grows-on, texts-front, unformed, whole}
use Rattle.kt_words.proofs.Passing.{passed, texts-empty}
use Rattle.kt_words.proofs.form.gather.Goals as goal

pub returns-in_err-rest-clause-err : goal.returns-in_err-rest-clause-err
returns-in_err-rest-clause-err c h =
    let front = texts-front c.loop-rest.rest.now c.word-item.result c.word-item.is c.in-len1-up.len_at_least in
    let fault : c.in_err-rest.field-0.0 ≡ Words = passed _ _ c.from_residual.ensures.1 h in
    let refused = c.in_err-rest.ensures.err (cc) in
    unformed c.args.program (texts c.args.words.now) (texts c.loop-rest.rest.now) (told c.loop-rest.given.values.items) (texts c.loop-rest.given.files.items) c.loop-rest.invariant
    (subst (λ words. HasNoForm c.args.program words) (sym front) refused)

pub loop-rest-preserved : goal.loop-rest-preserved
loop-rest-preserved c =
    let front = texts-front c.loop-rest.rest.now c.word-item.result c.word-item.is c.in-len1-up.len_at_least in
    let old_values = told c.loop-rest.given.values.items in
    let old_files = texts c.loop-rest.given.files.items in
    let new_values = told c.take.new.self.values.items in
    let new_files = texts c.take.new.self.files.items in
    grows-on c.args.program (texts c.args.words.now) (texts c.loop-rest.rest.now) (texts c.in_ok-rest.rest.now) old_values new_values old_files new_files c.loop-rest.invariant
    (subst (λ words. Grows c.args.program words old_values old_files new_values new_files (texts c.in_ok-rest.rest.now)) (sym front) c.in_ok-rest.ensures.ok)

pub returns-clause-ok : goal.returns-clause-ok
returns-clause-ok c =
    whole c.args.program (texts c.args.words.now) (texts c.loop-rest.rest.now) (told c.loop-rest.given.values.items) (texts c.loop-rest.given.files.items) c.loop-rest.invariant
    (texts-empty c.loop-rest.rest.now c.in_default.len_below)
