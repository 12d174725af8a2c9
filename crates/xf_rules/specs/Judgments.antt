-- What is judged of a rule file: expressions, each in its environment, and conditions. What comes of them where none is wrong,
-- and the set of all faults.
use Rattle.std.specs.Prelude.{◌≡◌, ◌⊎◌, List, [], ◌∷◌, Option, Some, None}
use Rattle.kt_typing.specs.declared.fault.Fault.{Fault}
use Rattle.kt_typing.specs.First.{earlier, first_fault}
use Rattle.kt_typing.specs.Forms.{Form, typed, IsFault}
use Rattle.kt_typing.specs.Operands.{Operand}
use Rattle.xf_rules.specs.Made.{Made, Tree}

mutual
  pub data Judgment : Type 0 where
    -- an expression, of which its tree comes
    Expressed : Form → Judgment
    -- the faults of conditions that are broken, the judgments of parts, and what comes of what these give
    Held : List Fault → Judgments → (List Made → Made) → Judgment

  pub data Judgments : Type 0 where
    NoMore : Judgments
    And : Judgment → Judgments → Judgments

-- ---- what comes of it, where nothing is wrong

abbrev pub tree_made : Option Operand → Option Made
tree_made None = None
tree_made (Some x) = Some (Tree x.tree)

abbrev pub both_made : Option Made → Option (List Made) → Option (List Made)
both_made (Some x) (Some xs) = Some (x ∷ xs)
both_made _ _ = None

abbrev pub made_of : List Fault → (List Made → Made) → Option (List Made) → Option Made
made_of [] how (Some xs) = Some (how xs)
made_of _ how _ = None

abbrev mutual
  pub made : Judgment → Option Made
  made (Expressed e) = tree_made (typed e)
  made (Held broken parts how) = made_of broken how (all_made parts)

  pub all_made : Judgments → Option (List Made)
  all_made NoMore = Some []
  all_made (And j rest) = both_made (made j) (all_made rest)

-- ---- the faults: those of all expressions, and those of all conditions

abbrev pub IsAmong : List Fault → Fault → Type 0
IsAmong [] f = ⊥
IsAmong (g ∷ rest) f = (Some g ≡ Some f) ⊎ IsAmong rest f

abbrev mutual
  pub IsWrong : Judgment → Fault → Type 0
  IsWrong (Expressed e) f = IsFault e f
  IsWrong (Held broken parts how) f = IsAmong broken f ⊎ IsWrongAmong parts f

  pub IsWrongAmong : Judgments → Fault → Type 0
  IsWrongAmong NoMore f = ⊥
  IsWrongAmong (And j rest) f = IsWrong j f ⊎ IsWrongAmong rest f

-- ---- the first of them, found part by part

abbrev pub first_of : List Fault → Option Fault
first_of [] = None
first_of (g ∷ rest) = earlier (Some g) (first_of rest)

abbrev mutual
  pub first_wrong : Judgment → Option Fault
  first_wrong (Expressed e) = first_fault e
  first_wrong (Held broken parts how) = earlier (first_of broken) (first_among parts)

  pub first_among : Judgments → Option Fault
  first_among NoMore = None
  first_among (And j rest) = earlier (first_wrong j) (first_among rest)
