-- Where the first of the locals of each name are.
use Rattle.std.specs.Prelude.{ℕ, ◌≡◌, List, Option}
use Rattle.std.specs.List.{position_from}
use Rattle.std.specs.Map.{lookup}
use Rattle.std.specs.Str.{bytes_eq}
use Rattle.std.specs.Global.{Vec}
use Rattle.kt_names.specs.declared.info.LocalInfo.{LocalInfo}

-- the place of the first of these locals that has the name
abbrev pub first_place : List LocalInfo → List ℕ → Option ℕ
first_place ls name = position_from (λ l. bytes_eq l.name.now name) 0 ls

-- under each name is the place of its first local
abbrev pub AreFirst : List (Vec ℕ × ℕ) → List LocalInfo → Type 0
AreFirst es ls = (name : List ℕ) → lookup (λ k. bytes_eq name k.items) es ≡ first_place ls name
