-- Which structs of two versions correspond, by a whole rule file and by default.
use Rattle.std.specs.Prelude.{ℕ, suc, ◌&&◌, not, Bool, false, List, [], ◌∷◌, ◌++◌, map, flat_map, Option, None, Some, if◌then◌else◌}
use Rattle.std.specs.List.{list_any}
use Rattle.std.specs.Str.{bytes_eq}
use Rattle.kt_tree.specs.Version.{Program}
use Rattle.xf_plan.specs.Plan.{Plan}
use Rattle.xf_syntax.specs.Tree.{Rule, StructsPaired}
use Rattle.xf_rules.specs.Names.{struct_named, is_defined}
use Rattle.xf_rules.specs.Types.{rule_types}

-- one where it is there
abbrev pub listed : {A : Type 0} → Option A → List A
listed None = []
listed (Some x) = x ∷ []

-- a `struct` rule has the old struct of this name on its left side
abbrev pub is_left : List ℕ → Rule → Bool
is_left n (StructsPaired a b) = bytes_eq a.name.word n
is_left n _ = false

-- and the new one of this name on its right side
abbrev pub is_right : List ℕ → Rule → Bool
is_right n (StructsPaired a b) = bytes_eq b.name.word n
is_right n _ = false

-- the old struct that a `struct` rule gives to the new one of this name
abbrev pub given_by : Program → List ℕ → Rule → List ℕ
given_by old n (StructsPaired a b) = if bytes_eq b.name.word n then listed (struct_named old a.name.word) else []
given_by old n _ = []

-- an old struct that has a definition doesn't correspond by default to a new one that has none
abbrev pub may_correspond : Program → Program → ℕ → ℕ → Bool
may_correspond old new s r = not (is_defined old s && not (is_defined new r))

abbrev pub same_name : Program → Program → ℕ → Option ℕ → List ℕ
same_name old new r None = []
same_name old new r (Some s) = if may_correspond old new s r then s ∷ [] else []

-- the old struct of its name, where no `struct` rule names the new one or takes the old one
abbrev pub by_default : Program → Program → List Rule → ℕ → List ℕ → List ℕ
by_default old new rules r n =
    if not (list_any (is_right n) rules) && not (list_any (is_left n) rules) then same_name old new r (struct_named old n) else []

-- the old structs that correspond to the new one of this number and name (where the file is right, one at most)
abbrev pub partners : Program → Program → List Rule → ℕ → List ℕ → List ℕ
partners old new rules r n = flat_map (given_by old n) rules ++ by_default old new rules r n

-- those of all new structs, from this number on, in the order of their declarations
abbrev pub pairs_from : Program → Program → List Rule → ℕ → List (List ℕ) → List (ℕ × ℕ)
pairs_from old new rules r [] = []
pairs_from old new rules r (n ∷ rest) = map (λ s. (s, r)) (partners old new rules r n) ++ pairs_from old new rules (suc r) rest

abbrev pub pairs : Program → Program → List Rule → List (ℕ × ℕ)
pairs old new rules = pairs_from old new rules 0 new.types.structs

-- the types of both versions and the structs that correspond, which say which types correspond and which convert by default
abbrev pub related : Program → Program → List Rule → Plan
related old new rules = record {
  old = rule_types old;
  new = new.types;
  structs = pairs old new rules;
  globals = [];
  fields = [];
  locals = [];
}
