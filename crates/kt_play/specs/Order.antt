-- The order of a list of words: the names of one file or of three.
use Rattle.std.specs.Prelude.{ℕ, List, [], ◌∷◌, Option, Some, None, option_map, String, string_bytes, map, ◌==◌, if◌then◌else◌}
use Rattle.std.specs.declared.alloc.Global.{Global}

-- the words as bytes
abbrev pub texts : List (String Global) → List (List ℕ)
texts words = map (λ (word : String Global). string_bytes word) words

-- the file that a word names: it isn't empty and doesn't begin with `-`
abbrev pub file_name : List ℕ → Option (List ℕ)
file_name [] = None
file_name (c ∷ rest) = if c == 45 then None else Some (c ∷ rest)

-- a name before others, where there are both
abbrev pub before : Option (List ℕ) → Option (List (List ℕ)) → Option (List (List ℕ))
before None names = None
before (Some name) names = option_map (λ rest. name ∷ rest) names

-- the files that the words name, where they are an order: a version, or a version, the rules and the next version
abbrev pub order_of : List (List ℕ) → Option (List (List ℕ))
order_of [] = None
order_of (a ∷ []) = before (file_name a) (Some [])
order_of (a ∷ (b ∷ [])) = None
order_of (a ∷ (b ∷ (c ∷ []))) = before (file_name a) (before (file_name b) (before (file_name c) (Some [])))
order_of (a ∷ (b ∷ (c ∷ (d ∷ more)))) = None
