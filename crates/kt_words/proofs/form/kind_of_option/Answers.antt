use Rattle.std.proofs.Common.{◌≡◌, ◌∙◌, false, true, length, sym, lit<, eqb-true, arith}
use Rattle.std.proofs.lemmas.Str.Pattern.{split_parts}
use Rattle.kt_words.proofs.Keys.{other-alone, other-joined}
use Rattle.kt_words.proofs.form.kind_of_option.Goals as goal
use Rattle.kt_words.proofs.form.kind_of_option.Goals.{else-not-is_empty-via-then-not-is_empty+else-is_option-2, else-not-is_empty-via-else-not-is_empty}

pub returns-else-is_option : goal.returns-else-is_option
returns-else-is_option c =
    let parts = split_parts 61 c.args.word.now c.split_once.result c.split_once.ensures.cases (lit< tt) in
    let lacks = rw c.in-None.is at parts in
    other-alone c.args.program c.args.word.now lacks c.requires.hyphen c.requires.no_end (sym c.is_option.ensures ∙ c.if-is_option.false)

pub returns-else-not-is_empty : goal.returns-else-not-is_empty
returns-else-not-is_empty c =
    let parts = split_parts 61 c.args.word.now c.split_once.result c.split_once.ensures.cases (lit< tt) in
    let cut = rw c.in-Some.is at parts in
    other-joined c.args.program c.args.word.now c.in-Some.name.now c.in-Some.value.now cut.0 cut.1 c.requires.hyphen c.requires.no_end
    (λ known some. elim c.else-not-is_empty.branch [
      | else-not-is_empty-via-then-not-is_empty+else-is_option-2 w ↦
          let both : true ≡ false = sym known ∙ sym w.is_option-then-not-is_empty.ensures ∙ w.if-is_option-2.false in
          cc
      | else-not-is_empty-via-else-not-is_empty w ↦
          let none : length c.in-Some.value.now ≡ 0 = eqb-true _ 0 (sym c.is_empty.ensures ∙ w.if-not-is_empty.false) in
          omega (arith, some, none)
    ])
