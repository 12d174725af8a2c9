-- Lemmas on the entries of files in memory.
use Rattle.std.proofs.Common.{◌≡◌, ℕ, List, [], ◌∷◌, Bool, true, false, String, Vec, Option, None, Some, cond, option_map, refl, sym, ap, ◌∙◌}
use Rattle.std.specs.Prelude.{bytes_eq, find, option_copied, string_bytes}
use Rattle.std.specs.Borrow.{Bor}
use Rattle.std.specs.declared.alloc.Global.{Global}
use Rattle.kt_edge.specs.FileMap.{bytes_of}
use Rattle.kt_edge.specs.Memory.{file_map}

abbrev pub Entry : Type 0
Entry = String Global × Vec ℕ Global

-- the bytes of a name are those of its first entry
pub bytes_of-file_map : (entries : List Entry) (name : List ℕ) → bytes_of (file_map entries) name ≡ option_map (λ (entry : Entry). entry.1.items) (find (λ (entry : Entry). bytes_eq (string_bytes entry.0) name) entries)
bytes_of-file_map [] name = refl
bytes_of-file_map (entry ∷ entries) name =
    elim (bytes_eq (string_bytes entry.0) name) as (λ (found : Bool). option_map (λ (file : List ℕ × List ℕ). file.1) (cond found (Some (string_bytes entry.0, entry.1.items)) (find (λ (file : List ℕ × List ℕ). bytes_eq file.0 name) (file_map entries))) ≡ option_map (λ (e : Entry). e.1.items) (cond found (Some entry) (find (λ (e : Entry). bytes_eq (string_bytes e.0) name) entries))) [ true ↦ refl | false ↦ bytes_of-file_map entries name ]

bytes_behind : (found : Option (Bor Entry)) → option_map (λ (entry : Bor Entry). entry.now.1.items) found ≡ option_map (λ (entry : Entry). entry.1.items) (option_copied found)
bytes_behind None = refl
bytes_behind (Some entry) = refl

-- the same of a reference to that entry
pub bytes_of-first_entry : (entries : List Entry) (name : List ℕ) (found : Option (Bor Entry)) → option_copied found ≡ find (λ (entry : Entry). bytes_eq (string_bytes entry.0) name) entries → option_map (λ (entry : Bor Entry). entry.now.1.items) found ≡ bytes_of (file_map entries) name
bytes_of-first_entry entries name found e = bytes_behind found ∙ ap (option_map (λ (entry : Entry). entry.1.items)) e ∙ sym (bytes_of-file_map entries name)
