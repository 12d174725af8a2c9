-- The threads that may take the next turn.
use Rattle.std.specs.Prelude.{ℕ, suc, Bool, List, [], ◌∷◌, if◌then◌else◌}

-- the numbers of the threads whose flags are set, in rising order, where the first flag is that of thread n
abbrev pub enabled_from : ℕ → List Bool → List ℕ
enabled_from n [] = []
enabled_from n (is_enabled ∷ flags) = if is_enabled then n ∷ enabled_from (suc n) flags else enabled_from (suc n) flags

-- the numbers of the enabled threads, in rising order
unfoldable pub enabled_threads : List Bool → List ℕ
enabled_threads flags = enabled_from 0 flags
