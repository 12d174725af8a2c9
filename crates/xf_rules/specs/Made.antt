-- What comes of parts of a rule file that are right: trees of rule code, and rules with numbers for names.
use Rattle.std.specs.Prelude.{ℕ, List, [], ◌∷◌, ◌++◌, Option}
use Rattle.kt_tree.specs.Tree.{Expression}
use Rattle.xf_plan.specs.Bodies.{Given, Action, Actions, Done, Then, Compound}

-- A rule whose names are numbers: of the old version where something comes from, of the new one where it goes to.
pub data TypedRule : Type 0 where
  -- an old struct and a new one
  Paired : ℕ → ℕ → TypedRule
  -- a new struct, its field, and the old field, if any; the body, if any
  FieldRuled : ℕ → ℕ → Option ℕ → Option Actions → TypedRule
  -- a new global, and the old global, if any; the body, if any
  GlobalRuled : ℕ → Option ℕ → Option Actions → TypedRule
  -- a new function and its local, an old function and its local; the body, if any
  LocalRuled : ℕ → ℕ → ℕ → ℕ → Option Actions → TypedRule

pub data Made : Type 0 where
  Nothing : Made
  Tree : Expression → Made
  Gives : Given → Made
  Does : Action → Made
  Rules : List TypedRule → Made

-- ---- what a part gives, where it gives such a thing

abbrev pub actions_of : List Made → Actions
actions_of [] = Done
actions_of (Does a ∷ rest) = Then a (actions_of rest)
actions_of (m ∷ rest) = actions_of rest

abbrev pub rules_in : Made → List TypedRule
rules_in (Rules rs) = rs
rules_in m = []

abbrev pub all_rules : List Made → List TypedRule
all_rules [] = []
all_rules (m ∷ rest) = rules_in m ++ all_rules rest

-- what does nothing
abbrev pub idle : Action
idle = Compound Done

abbrev pub nothing : List Made → Made
nothing ms = Nothing

abbrev pub block : List Made → Made
block ms = Does (Compound (actions_of ms))

abbrev pub together : List Made → Made
together ms = Rules (all_rules ms)
