use Rattle.std.proofs.Common.{◌+◌, ◌<◌, ◌≤◌, length, sym, ◌∙◌, refl, arith}
use Rattle.kt_journal.specs.Journal.{most_turns}
use Rattle.kt_journal.proofs.Entries.{none-cut, none-many, none-other, takes-turns, takes-mark}
use Rattle.kt_journal.proofs.line.take_entry.Goals as goal

pub returns-in-None-clause-taken : goal.returns-in-None-clause-taken
returns-in-None-clause-taken c = (none-cut c.args.kit c.args.turns.now.items c.args.text.now c.in-None.ensures, refl)

pub returns-then-count-len-clause-taken : goal.returns-then-count-len-clause-taken
returns-then-count-len-clause-taken c =
    let many : most_turns < length c.args.turns.now.items + c.in-Some-stretch.count = omega (arith, c.len.ensures) in (
      none-many c.args.kit c.args.turns.now.items c.args.text.now c.in-Some.line.now c.in-Some.behind.now c.in-Some-stretch.thread c.in-Some-stretch.count
          c.in-Some.ensures.1 c.in-Some.ensures.0 (sym c.stretch.ensures ∙ c.in-Some-stretch.is) many,
      refl,
    )

pub returns-in_ok-push_all-in-Some-stretch-clause-taken : goal.returns-in_ok-push_all-in-Some-stretch-clause-taken
returns-in_ok-push_all-in-Some-stretch-clause-taken c =
    let few : length c.args.turns.now.items + c.in-Some-stretch.count ≤ most_turns = omega (arith, c.len.ensures, c.requires) in
    takes-turns c.args.kit c.args.turns.now.items c.push_all.new.turns.items c.args.text.now c.in-Some.line.now c.in-Some.behind.now c.in-Some-stretch.thread
    c.in-Some-stretch.count c.in-Some.ensures.0 (sym c.stretch.ensures ∙ c.in-Some-stretch.is) c.in_ok-push_all-in-Some-stretch.ensures few

pub returns-then-is_mark-clause-taken : goal.returns-then-is_mark-clause-taken
returns-then-is_mark-clause-taken c =
    takes-mark c.args.kit c.args.turns.now.items c.args.turns.now.items c.args.text.now c.in-Some.line.now c.in-Some.behind.now c.in-Some.ensures.0
    (sym c.is_mark.ensures ∙ c.if-is_mark.true) refl c.requires

pub returns-else-is_mark-clause-taken : goal.returns-else-is_mark-clause-taken
returns-else-is_mark-clause-taken c = (
  none-other c.args.kit c.args.turns.now.items c.args.text.now c.in-Some.line.now c.in-Some.behind.now c.in-Some.ensures.1 c.in-Some.ensures.0
      (sym c.stretch.ensures ∙ c.in-None-stretch.is) (sym c.is_mark.ensures ∙ c.if-is_mark.false),
  refl,
)
