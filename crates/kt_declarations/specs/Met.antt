-- What the code keeps of what stands before a place of a file.
use Rattle.std.specs.Prelude.{◌≡◌, ℕ, ◌-◌, ◌^◌, min, Bool, true, false, ◌&&◌, ◌||◌, not, List, map, flat_map, Option, Some, None, is_some}
use Rattle.std.specs.List.{list_any, list_all}
use Rattle.std.specs.Map.{lookup}
use Rattle.std.specs.Str.{bytes_eq}
use Rattle.kt_syntax.specs.declared.tree.Function.{Function}
use Rattle.kt_syntax.specs.Tree.{Routine, routine_of}
use Rattle.kt_program.specs.Gathered.{same_function}
use Rattle.kt_program.specs.Mentioned.{use_structs, head_spellings}
use Rattle.kt_program.specs.Scopes.{contains}
use Rattle.kt_declarations.specs.declared.functions.Functions.{Functions as FunctionsCode}
use Rattle.kt_declarations.specs.declared.functions.Met.{Met}
use Rattle.kt_declarations.specs.Heads.{same_head}
use Rattle.kt_declarations.specs.declared.globals.Globals.{Globals as GlobalsCode}

-- the same names are in two lists
abbrev pub SameNames : List (List ℕ) → List (List ℕ) → Type 0
SameNames as' bs = (n : List ℕ) → contains as' n ≡ contains bs n

abbrev pub routine_names : List Routine → List (List ℕ)
routine_names rs = map (λ r. r.name.word) rs

-- ---- globals

-- a number, but for those that no `u64` holds
abbrev pub capped : ℕ → ℕ
capped n = min n (2 ^ 64 - 1)

-- these are globals of these names, which have so many cells
pub record AreGlobals (g : GlobalsCode) (names : List (List ℕ)) (cells : ℕ) : Type 0 where
  pub same : SameNames g.names names
  pub count : capped cells ≡ g.cells

-- ---- functions

-- the structs that a function's head names are among these
abbrev pub HasStructs : List (List ℕ) → Routine → Type 0
HasStructs structs r = list_all (contains structs) (flat_map use_structs (head_spellings r)) ≡ true

-- what is kept of the declarations of a name tells whether one of these is a definition, and which types are another than one of
-- these has
pub record IsMet (structs : List (List ℕ)) (before : List Routine) (name : List ℕ) (m : Met) : Type 0 where
  pub defined : list_any (λ e. is_some e.body && bytes_eq e.name.word name) before ≡ m.defined
  pub other : (r : Routine) → list_any (λ e. bytes_eq e.name.word name && not (same_function structs e r)) before ≡ (m.mixed || not (same_function structs (routine_of m.first.now) r))
  pub structs_named : HasStructs structs (routine_of m.first.now)

-- what is kept of a name, of which there may be no declaration among these
abbrev pub Tells : List (List ℕ) → List Routine → List ℕ → Option Met → Type 0
Tells structs before name None = contains (routine_names before) name ≡ false
Tells structs before name (Some m) = (contains (routine_names before) name ≡ true) × IsMet structs before name m

-- the first declaration, before or here
abbrev pub first_of : Option Met → Function → Function
first_of None f = f
first_of (Some m) f = m.first.now

abbrev pub was_defined : Option Met → Bool
was_defined None = false
was_defined (Some m) = m.defined

-- a declaration of another type than that of a head stands among those of which this is kept
abbrev pub had_other : Option Met → Routine → Bool
had_other None r = false
had_other (Some m) r = m.mixed || not (same_head (routine_of m.first.now) r)

abbrev pub kept : FunctionsCode → List ℕ → Option Met
kept f n = lookup (λ k. bytes_eq n k.items) f.met.entries

-- these are functions of these names
abbrev pub AreNamed : FunctionsCode → List (List ℕ) → Type 0
AreNamed f names = (n : List ℕ) → is_some (kept f n) ≡ contains names n

-- these are functions with these declarations, the latest first
abbrev pub AreFunctions : FunctionsCode → List (List ℕ) → List Routine → Type 0
AreFunctions f structs before = (n : List ℕ) → Tells structs before n (kept f n)
