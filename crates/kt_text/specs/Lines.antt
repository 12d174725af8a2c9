-- Lines of words.
use Rattle.std.specs.Prelude.{ℕ, List, [], ◌∷◌, ◌++◌}
use Rattle.std.specs.List.{join_with_byte}

abbrev pub space : ℕ
space = 32

abbrev pub newline : ℕ
newline = 10

-- the words with a space between each two, and a newline
unfoldable pub line_of : List (List ℕ) → List ℕ
line_of words = join_with_byte space words ++ newline ∷ []
