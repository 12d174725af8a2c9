use Rattle.std.proofs.Common.{◌≡◌}
use Rattle.kt_journal.specs.Reading.{TakesEntry, TakesNone}
use Rattle.kt_journal.proofs.SoFar.{read-more, some-found}
use Rattle.kt_journal.proofs.reader.read_entries.Goals as goal

pub loop-behind-preserved : goal.loop-behind-preserved
loop-behind-preserved c =
    let before = c.loop-behind.turns.items in
    let after = c.take_entry.new.turns.items in
    let rest = c.loop-behind.rest.now in
    read-more c.args.kit c.args.text.now rest c.in-Some.behind.now before after c.loop-behind.invariant
    (some-found (TakesNone c.args.kit before rest × (after ≡ before)) (λ behind. TakesEntry c.args.kit before after rest behind.now) c.in_ok-behind.field-0 c.in-Some.behind c.in-Some.is c.in_ok-behind.ensures.taken)
