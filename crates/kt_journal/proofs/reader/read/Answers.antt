use Rattle.std.proofs.Common.{◌≡◌, ℕ, ◌-◌, length, ap, subst, inl, arith, IsErrOf, Err, Vec, Global}
use Rattle.kt_journal.specs.declared.fault.JournalFault.TheVariants.{Line}
use Rattle.kt_journal.specs.Journal.{LeavesAt, AtStart, Says}
use Rattle.kt_journal.proofs.Once.{says-once, says-never-leaves, leaves-once}
use Rattle.kt_journal.proofs.SoFar.{read-end, read-behind, read-breaks}
use Rattle.kt_journal.proofs.reader.read.Goals as goal
use Rattle.kt_journal.proofs.reader.read.Goals.{in-Some-take_end, in-None}

-- the place that an answer tells
told : (n at : ℕ) → IsErrOf {T = Vec ℕ Global} (Err (Line n)) (Line at) → n ≡ at
told n at is = cc

-- the first line is none
pub returns-in_default-clause-line : goal.returns-in_default-clause-line
returns-in_default-clause-line c = λ at is. subst (LeavesAt c.args.bytes.now) (told 0 at is) (AtStart c.in_default.ensures)

pub returns-in_default-clause-says : goal.returns-in_default-clause-says
returns-in_default-clause-says c = λ turns says. absurd (says-never-leaves c.args.bytes.now turns 0 says (AtStart c.in_default.ensures))

pub returns-in_default-clause-leaves : goal.returns-in_default-clause-leaves
returns-in_default-clause-leaves c = λ at leaves. inl (ap Line (leaves-once c.args.bytes.now 0 at (AtStart c.in_default.ensures) leaves))

-- the text is a journal
says_so : (c : goal.In-Some-empty) → Says c.args.bytes.now c.read_entries.new.turns.items
says_so c = read-end c.in-Some.kit c.args.bytes.now c.in-Some.lines.now c.in_ok-rest.rest.now c.read_entries.new.turns.items c.in-Some.ensures c.in_ok-rest.ensures c.in-Some-empty.field-0.now c.in-Some-empty.ensures (omega (arith, c.in-Some-empty.len_below))

pub returns-in-Some-empty-clause-turns : goal.returns-in-Some-empty-clause-turns
returns-in-Some-empty-clause-turns c = says_so c

pub returns-in-Some-empty-clause-says : goal.returns-in-Some-empty-clause-says
returns-in-Some-empty-clause-says c = λ turns says. says-once c.args.bytes.now c.read_entries.new.turns.items turns (says_so c) says

pub returns-in-Some-empty-clause-leaves : goal.returns-in-Some-empty-clause-leaves
returns-in-Some-empty-clause-leaves c = λ at leaves. says-never-leaves c.args.bytes.now c.read_entries.new.turns.items at (says_so c) leaves

-- the text leaves the grammar
leaves_there : (c : goal.After-drop-turns-2) → LeavesAt c.args.bytes.now (length c.args.bytes.now - c.match-take_end.left)
leaves_there c =
    let bytes = c.args.bytes.now in
    let lines = c.in-Some.lines.now in
    let rest = c.in_ok-rest.rest.now in
    let turns = c.read_entries.new.turns.items in
    elim c.match-take_end.branch [
      | in-Some-take_end w ↦
          let behind = w.in-Some-take_end.behind.now in
          read-behind c.in-Some.kit bytes lines rest turns c.in-Some.ensures c.in_ok-rest.ensures behind (length bytes - c.match-take_end.left) w.in-Some-take_end.ensures
          (omega (arith, w.in-Some-take_end.len_at_least)) (ap (λ n. length bytes - n) w.left-is)
      | in-None w ↦ read-breaks c.in-Some.kit bytes lines rest turns c.in-Some.ensures c.in_ok-rest.ensures (length bytes - c.match-take_end.left) w.in-None.ensures (ap (λ n. length bytes - n) w.left-is)
    ]

pub returns-clause-line : goal.returns-clause-line
returns-clause-line c = λ at is. subst (LeavesAt c.args.bytes.now) (told (length c.args.bytes.now - c.match-take_end.left) at is) (leaves_there c)

pub returns-clause-says : goal.returns-clause-says
returns-clause-says c = λ turns says. absurd (says-never-leaves c.args.bytes.now turns (length c.args.bytes.now - c.match-take_end.left) says (leaves_there c))

pub returns-clause-leaves : goal.returns-clause-leaves
returns-clause-leaves c = λ at leaves. inl (ap Line (leaves-once c.args.bytes.now (length c.args.bytes.now - c.match-take_end.left) at (leaves_there c) leaves))
