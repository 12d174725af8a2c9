-- What is judged of a whole rule file.
use Rattle.std.specs.Prelude.{List, [], ◌∷◌, ◌++◌, flat_map}
use Rattle.kt_tree.specs.Version.{Program}
use Rattle.xf_syntax.specs.declared.tree.Target.TheVariants as target
use Rattle.xf_syntax.specs.declared.tree.Side.{Side}
use Rattle.xf_syntax.specs.declared.tree.Side.TheVariants as side
use Rattle.xf_syntax.specs.Tree.{Rule, StructsPaired, Started, Moved}
use Rattle.xf_rules.specs.Judgments.{Judgment, Held, Judgments, NoMore, And}
use Rattle.xf_rules.specs.Made.{together}
use Rattle.xf_rules.specs.Pairs.{related}
use Rattle.xf_rules.specs.Rules.{Versions, rule}
use Rattle.xf_rules.specs.Things.{Naming, struct_naming, target_naming, side_naming, twice}

-- what stands as a right side or as the target of an `INIT`
abbrev pub goals_in : Rule → List Naming
goals_in (StructsPaired a b) = struct_naming b ∷ []
goals_in (Started t b) = target_naming t ∷ []
goals_in (Moved a t b) = side_naming t ∷ []

-- the globals and structs that stand as a source
abbrev pub taken_from : Side → List Naming
taken_from (side.Target (target.Global n)) = target_naming (target.Global n) ∷ []
taken_from (side.Target (target.Field s f)) = []
taken_from (side.Local f x) = []

abbrev pub sources_in : Rule → List Naming
sources_in (StructsPaired a b) = struct_naming a ∷ []
sources_in (Started t b) = []
sources_in (Moved a t b) = taken_from a

abbrev pub rules_judged : Versions → List Rule → Judgments
rules_judged v [] = NoMore
rules_judged v (r ∷ rest) = And (rule v r) (rules_judged v rest)

abbrev pub versions : Program → Program → List Rule → Versions
versions old new rules = record { old = old; new = new; related = related old new rules }

-- each thing stands once as a goal, each global and struct once as a source; and what is judged of each rule
abbrev pub file : Program → Program → List Rule → Judgment
file old new rules =
    Held (twice (flat_map goals_in rules) ++ twice (flat_map sources_in rules)) (rules_judged (versions old new rules) rules) together
