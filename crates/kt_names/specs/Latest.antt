-- Where the latest of the names in scope are.
use Rattle.std.specs.Prelude.{ℕ, ◌≡◌, List, [], ◌∷◌, ◌++◌, length, Option, Some, None, if◌then◌else◌}
use Rattle.std.specs.Option.{option_flatten}
use Rattle.std.specs.Map.{lookup}
use Rattle.std.specs.Str.{bytes_eq}
use Rattle.std.specs.Global.{Vec}
use Rattle.kt_names.specs.declared.info.Visible.{Visible}

-- what came last, first
abbrev pub latest_first : {A : Type 0} → List A → List A
latest_first [] = []
latest_first (x ∷ xs) = latest_first xs ++ x ∷ []

-- the place of the first of these that has the name; the last of them has the place 0
abbrev pub place_of : List Visible → List ℕ → Option ℕ
place_of [] name = None
place_of (v ∷ rest) name = if bytes_eq v.name.items name then Some (length rest) else place_of rest name

-- the place that is kept under a name
abbrev pub kept_under : List (Vec ℕ × Option ℕ) → List ℕ → Option ℕ
kept_under es name = option_flatten (lookup (λ k. bytes_eq name k.items) es)

-- each of these tells the place of the one that it hides, which stands behind it
abbrev pub TellHidden : List Visible → Type 0
TellHidden [] = Unit {0}
TellHidden (v ∷ rest) = (v.hides ≡ place_of rest v.name.items) × TellHidden rest

-- the place of the latest of each name is kept, and each tells which it hides
pub record Keeps (es : List (Vec ℕ × Option ℕ)) (vs : List Visible) : Type 0 where
  pub places : (name : List ℕ) → kept_under es name ≡ place_of (latest_first vs) name
  pub hidden : TellHidden (latest_first vs)
