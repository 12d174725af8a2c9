use Rattle.std.proofs.Common.{◌≡◌, ◌++◌, codes}
use Rattle.kt_text.specs.Lines.{line_of}
use Rattle.kt_journal.specs.Journal.{StandsAt, kit_words}
use Rattle.kt_journal.specs.declared.kit.Kit.{Kit}
use Rattle.kt_journal.specs.declared.kit.Kit.TheVariants.{First, Second}
use Rattle.kt_journal.proofs.SoFar.{front-found, front-none, kits, none-first}
use Rattle.kt_journal.proofs.reader.first_line.Goals as goal

pub returns-in-Some : goal.returns-in-Some
unfolding line_of
returns-in-Some c = front-found c.args.bytes.now c.in-Some.rest.now (codes "kit 1\n") c.in-Some.ensures.cases.0 c.in-Some.ensures.cases.1

pub returns-in-None : goal.returns-in-None
unfolding line_of
returns-in-None c =
    let first = λ (stands : StandsAt (kit_words First) c.args.bytes.now). front-none c.args.bytes.now stands.0 (codes "kit 1\n") c.in-None.ensures.cases stands.1 in
    none-first (StandsAt (kit_words Second) c.args.bytes.now → ⊥) ((kit : Kit) → StandsAt (kit_words kit) c.args.bytes.now → ⊥)
    (λ found. c.args.bytes.now ≡ line_of (kit_words found.0) ++ found.1.now) c.second_line.result (kits c.args.bytes.now first) c.second_line.ensures
