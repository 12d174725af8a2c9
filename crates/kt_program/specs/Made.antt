-- What comes of parts of a file that are right: trees of expressions, and statements one behind another.
use Rattle.std.specs.Prelude.{List, [], ◌∷◌, ◌++◌}
use Rattle.kt_tree.specs.Tree.{Expression, Statement, Compound, Statements, Done, Then}

pub data Made : Type 0 where
  Value : Expression → Made
  Lines : List Statement → Made

abbrev pub lines_of : Made → List Statement
lines_of (Lines xs) = xs
lines_of (Value e) = []

abbrev pub all_lines : List Made → List Statement
all_lines [] = []
all_lines (m ∷ rest) = lines_of m ++ all_lines rest

abbrev pub block_of : List Statement → Statements
block_of [] = Done
block_of (s ∷ rest) = Then s (block_of rest)

-- several lines as one statement
abbrev pub as_one : List Statement → Statement
as_one (s ∷ []) = s
as_one xs = Compound (block_of xs)

abbrev pub joined : List Made → Made
joined ms = Lines (all_lines ms)

abbrev pub block : List Made → Made
block ms = Lines (Compound (block_of (all_lines ms)) ∷ [])

-- what a single part gives
abbrev pub the_one : List Made → Made
the_one (m ∷ []) = m
the_one ms = Lines []
