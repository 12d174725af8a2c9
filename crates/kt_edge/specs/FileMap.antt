-- Files by name, as far as they are told: `None` is told of files whose content nobody knows.
use Rattle.std.specs.Prelude.{◌≡◌, ℕ, List, Option, Some, None, IfSome, IsSomeAnd, option_map, find, take, bytes_eq}

-- names and bytes; where a name stands twice, the first one counts
abbrev pub FileMap : Type 0
FileMap = List (List ℕ × List ℕ)

-- the bytes of the first file of that name
abbrev pub bytes_of : FileMap → List ℕ → Option (List ℕ)
bytes_of files name = option_map (λ (file : List ℕ × List ℕ). file.1) (find (λ (file : List ℕ × List ℕ). bytes_eq file.0 name) files)

-- the file has these bytes, where files are told
abbrev pub Holds : Option FileMap → List ℕ → List ℕ → Type 0
Holds told name bytes = IfSome told (λ files. bytes_of files name ≡ Some bytes)

-- files are told, and this one has these bytes
abbrev pub Tells : Option FileMap → List ℕ → List ℕ → Type 0
Tells told name bytes = IsSomeAnd told (λ files. bytes_of files name ≡ Some bytes)

-- files are told, and none has that name
abbrev pub Lacks : Option FileMap → List ℕ → Type 0
Lacks told name = IsSomeAnd told (λ files. bytes_of files name ≡ None)

-- the first bytes of the file, at most so many, or all where it has fewer
abbrev pub StartsFile : Option FileMap → List ℕ → ℕ → List ℕ → Type 0
StartsFile told name most start = (bytes : List ℕ) × Holds told name bytes × (start ≡ take most bytes)
