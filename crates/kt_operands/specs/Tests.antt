-- Kinds of operands that several operations or requests take.
use Rattle.std.specs.Prelude.{ℕ, ◌==◌, ◌&&◌, not, Bool, false, List, [], ◌∷◌, Option, Some, None, if◌then◌else◌}
use Rattle.kt_tree.specs.declared.expr.Part.{Part}
use Rattle.kt_tree.specs.declared.expr.Part.TheVariants as part
use Rattle.kt_tree.specs.Kinds.{Scope, is_integer, is_comparable, points_to, common, char_type, int_type, long_type}

-- two integers, which together have the type
abbrev pub is_sum : Scope → ℕ → List ℕ → Bool
is_sum s t (a ∷ b ∷ []) = is_integer s a && is_integer s b && (common a b == t)
is_sum s t _ = false

-- two operands that are compared
abbrev pub is_comparison : Scope → ℕ → List ℕ → Bool
is_comparison s t (a ∷ b ∷ []) = is_comparable s a b && (t == int_type)
is_comparison s t _ = false

-- it gives an `int` and takes nothing, an integer, a pointer to a type

abbrev pub asks_nothing : Option ℕ → List ℕ → Bool
asks_nothing (Some t) [] = t == int_type
asks_nothing _ _ = false

abbrev pub asks_integer : Scope → Option ℕ → List ℕ → Bool
asks_integer s (Some t) (e ∷ []) = is_integer s e && (t == int_type)
asks_integer s _ _ = false

abbrev pub asks_pointer : Scope → ℕ → Option ℕ → List ℕ → Bool
asks_pointer s e (Some t) (p ∷ []) = points_to s p e && (t == int_type)
asks_pointer s e _ _ = false

-- the operands that a part of a format leaves; none where it doesn't take the first
abbrev pub behind : Scope → Part → List ℕ → Option (List ℕ)
behind s (part.Bytes bytes) ts = Some ts
behind s part.Number (t ∷ rest) = if is_integer s t then Some rest else None
behind s part.Byte (t ∷ rest) = if is_integer s t && not (t == long_type) then Some rest else None
behind s part.Text (t ∷ rest) = if points_to s t char_type then Some rest else None
behind s _ _ = None
