-- Faults, and the first of a set of them.
use Rattle.std.specs.Prelude.{◌≡◌, ℕ, Bool, false, nat_lt, ◌==◌, ◌&&◌, ◌||◌}
use Rattle.kt_typing.specs.declared.fault.Kind.{Kind}
use Rattle.kt_typing.specs.declared.fault.Kind.TheVariants as kind
use Rattle.kt_typing.specs.declared.fault.Fault.{Fault}

abbrev pub fault_at : Kind → ℕ → Fault
fault_at k at = record { at = at; kind = k }

abbrev pub unknown : ℕ → Fault
unknown at = fault_at kind.Unknown at

abbrev pub bad_type : ℕ → Fault
bad_type at = fault_at kind.BadType at

abbrev pub incomplete : ℕ → Fault
incomplete at = fault_at kind.Incomplete at

-- the order in which kinds at one place are told
abbrev pub rank : Kind → ℕ
rank kind.Unknown = 0
rank kind.Twice = 1
rank kind.BadType = 2
rank kind.WritesIn = 3
rank kind.Incomplete = 4
rank kind.TooBig = 5
rank kind.Entry = 6
rank kind.Note = 7
rank kind.NoMain = 8

-- at a lesser place, or at one place of an earlier kind
abbrev pub is_before : Fault → Fault → Bool
is_before f g = nat_lt f.at g.at || ((f.at == g.at) && nat_lt (rank f.kind) (rank g.kind))

-- the fault is one of the set, and none of the set is before it
pub record IsFirst (P : Fault → Type 0) (f : Fault) : Type 0 where
  pub among : P f
  pub first : (g : Fault) → P g → is_before g f ≡ false
