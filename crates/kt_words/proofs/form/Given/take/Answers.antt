use Rattle.std.proofs.Common.{◌≡◌, ◌∙◌, ◌++◌, ◌∷◌, [], true, sym, subst, ap, string_bytes}
use Rattle.kt_words.specs.Form.{File, IsFormed, is_option, texts}
use Rattle.kt_words.specs.Reading.{told, BeginsNothing, HasNoForm}
use Rattle.kt_words.specs.declared.fault.WordFault.TheVariants.{Words}
use Rattle.kt_words.proofs.Continuing.{grows-joined, grows-apart, grows-file, grows-end, other-no-form, alone-no-form, end-no-form}
use Rattle.kt_words.proofs.Passing.{passed, told-append, texts-append}
use Rattle.kt_words.proofs.form.Given.take.Goals as goal

pub returns-in_err-text-in-Name-clause-err : goal.returns-in_err-text-in-Name-clause-err
returns-in_err-text-in-Name-clause-err c h =
    let known = subst (λ word. is_option c.args.program word ≡ true) c.as_str.ensures.value c.in-Name.ensures in
    let none = rw c.in_err-text-in-Name.ensures.ok_part at c.apart.ensures.none in
    alone-no-form c.args.program (string_bytes c.args.word.now) (texts c.args.more.now) known none

pub returns-in_err-take_names-in-End-clause-err : goal.returns-in_err-take_names-in-End-clause-err
returns-in_err-take_names-in-End-clause-err c h =
    let word = sym c.as_str.ensures.value ∙ c.in-End.ensures in
    let fault : c.in_err-take_names-in-End.field-0.0 ≡ Words = passed _ _ c.from_residual-in_err-take_names-in-End.ensures.1 h in
    let unnamed = c.in_err-take_names-in-End.ensures.err (cc) in
    subst (λ first. HasNoForm c.args.program (first ∷ texts c.args.more.now)) (sym word) (end-no-form c.args.program (texts c.args.more.now) unnamed)

pub returns-in_ok-push-in-Joined-clause-ok : goal.returns-in_ok-push-in-Joined-clause-ok
returns-in_ok-push-in-Joined-clause-ok c =
    grows-joined c.args.program (string_bytes c.args.word.now) (texts c.args.more.now) (told c.args.self.now.values.items) (told c.push.new.self.items) (texts c.args.self.now.files.items)
    c.in-Joined.name.now c.in-Joined.text.now (sym c.as_str.ensures.value ∙ c.in-Joined.ensures.0) c.in-Joined.ensures.1
    (ap told c.in_ok-push-in-Joined.ensures.items ∙ told-append c.args.self.now.values.items _)

pub returns-in_ok-push-in-Name-clause-ok : goal.returns-in_ok-push-in-Name-clause-ok
returns-in_ok-push-in-Name-clause-ok c =
    let known = subst (λ word. is_option c.args.program word ≡ true) c.as_str.ensures.value c.in-Name.ensures in
    let found = rw c.in_ok-text-in-Name.ensures.ok_part at c.apart.ensures.value in
    let old = told c.args.self.now.values.items in
    grows-apart c.args.program (string_bytes c.args.word.now) (texts c.args.more.now) (texts c.in_ok-text-in-Name.rest.now) old (told c.push-in-Name.new.self.items) (texts c.args.self.now.files.items)
    c.in_ok-text-in-Name.text.now known found.0 found.1
    (ap told c.in_ok-push-in-Name.ensures.items ∙ told-append c.args.self.now.values.items _ ∙ ap (λ name. old ++ (name, c.in_ok-text-in-Name.text.now) ∷ []) c.as_str-name.ensures.value)

pub returns-in_ok-push-in-File-clause-ok : goal.returns-in_ok-push-in-File-clause-ok
returns-in_ok-push-in-File-clause-ok c =
    let formed = subst (λ word. IsFormed c.args.program (File word)) c.as_str.ensures.value c.in-File.ensures in
    let old = texts c.args.self.now.files.items in
    grows-file c.args.program (string_bytes c.args.word.now) (texts c.args.more.now) (told c.args.self.now.values.items) old (texts c.push-in-File.new.self.items) formed
    (ap texts c.in_ok-push-in-File.ensures.items ∙ texts-append c.args.self.now.files.items _ ∙ ap (λ word. old ++ word ∷ []) c.in_ok-clone-in-File.ensures.cases)

pub returns-in_ok-take_names-in-End-clause-ok : goal.returns-in_ok-take_names-in-End-clause-ok
returns-in_ok-take_names-in-End-clause-ok c =
    grows-end c.args.program (string_bytes c.args.word.now) (texts c.args.more.now) (told c.args.self.now.values.items) (texts c.args.self.now.files.items) (texts c.take_names.new.files.items)
    (sym c.as_str.ensures.value ∙ c.in-End.ensures) c.in_ok-take_names-in-End.ensures.named c.in_ok-take_names-in-End.ensures.ok

pub returns-in-Other-clause-err : goal.returns-in-Other-clause-err
returns-in-Other-clause-err c h =
    other-no-form c.args.program (string_bytes c.args.word.now) (texts c.args.more.now) (subst (λ word. BeginsNothing c.args.program word) c.as_str.ensures.value c.in-Other.ensures)
