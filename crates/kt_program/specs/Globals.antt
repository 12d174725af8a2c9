-- What is judged of globals and of their initial values (ISO/IEC 9899:2011, 6.7.9).
use Rattle.std.specs.Prelude.{ℕ, zero, suc, ℤ, pos, negsuc, ◌+◌, ◌*◌, ◌==◌, Bool, true, false, ◌&&◌, ◌||◌, not, nat_le, List, [], ◌∷◌, map, Option, Some, None, option_and_then}
use Rattle.std.specs.Option.{is_some}
use Rattle.kt_grammar.specs.declared.tree.Base.{Base}
use Rattle.kt_syntax.specs.declared.tree.Constant.{Constant}
use Rattle.kt_syntax.specs.declared.tree.Constant.TheVariants as written
use Rattle.kt_syntax.specs.declared.tree.GlobalDeclarator.{GlobalDeclarator}
use Rattle.kt_types.specs.declared.kinds.Ty.{Ty}
use Rattle.kt_types.specs.declared.kinds.Ty.TheVariants as ty
use Rattle.kt_tree.specs.Kinds.{fits_in, type_at}
use Rattle.kt_typing.specs.declared.fault.Kind.TheVariants as kind
use Rattle.kt_typing.specs.Calls.{builtin_named}
use Rattle.kt_typing.specs.Environment.{Environment}
use Rattle.kt_typing.specs.Faults.{fault_at, bad_type}
use Rattle.kt_program.specs.Declarators.{where_not, declarator_place, declared_type, base_fault, extent_fault, extent_of}
use Rattle.kt_program.specs.Judgments.{Judgment, Held, Judgments, NoMore, And}
use Rattle.kt_program.specs.Mentioned.{stars_of}
use Rattle.kt_program.specs.Made.{joined}
use Rattle.kt_program.specs.Scopes.{contains}
use Rattle.kt_program.specs.Statements.{under, absent}
use Rattle.kt_program.specs.Structs.{is_array_count, count_of, cells_of}

abbrev pub negative : ℕ → ℤ
negative zero = pos 0
negative (suc n) = negsuc n

-- the constant is an integer of a type with so many bits beside the sign
abbrev pub is_integer_of : ℕ → Constant → Bool
is_integer_of bits (written.Number n) = fits_in bits (pos n.value)
is_integer_of bits (written.Negative n) = fits_in bits (negative n.value)
is_integer_of bits (written.Character b) = fits_in bits (pos b)
is_integer_of bits written.Eof = fits_in bits (negsuc 0)
is_integer_of bits _ = false

-- it is one of a pointer to a type: a string where that is `char`, `NULL` or the literal `0`
abbrev pub is_pointer_of : ℕ → Constant → Bool
is_pointer_of t written.Null = true
is_pointer_of t (written.Number n) = (n.value == 0) && not n.long && not n.hexadecimal
is_pointer_of t (written.Text at bytes) = t == 0
is_pointer_of t _ = false

abbrev pub is_mutex_of : Constant → Bool
is_mutex_of written.MutexInitializer = true
is_mutex_of _ = false

abbrev pub is_constant_of : Option Ty → Constant → Bool
is_constant_of (Some ty.Char) c = is_integer_of 7 c
is_constant_of (Some ty.Int) c = is_integer_of 31 c
is_constant_of (Some ty.Long) c = is_integer_of 63 c
is_constant_of (Some ty.Mutex) c = is_mutex_of c
is_constant_of (Some (ty.Ptr t)) c = is_pointer_of t c
is_constant_of _ c = false

-- a global array or struct has no initial value
abbrev pub is_initial : Environment → Option ℕ → Bool → Option Constant → Bool
is_initial env t array None = true
is_initial env t array (Some c) = not array && is_constant_of (option_and_then (type_at env.scope) t) c

abbrev pub global_cells : Environment → Base → GlobalDeclarator → ℕ
global_cells env b g = count_of g.declarator.count * cells_of env.scope (declared_type env b g.declarator.pointer)

abbrev pub is_small : Environment → ℕ → Base → GlobalDeclarator → Bool
is_small env cells b g =
    is_array_count g.declarator.count && nat_le (global_cells env b g) 65536 && nat_le (cells + global_cells env b g) 1048576

-- a global behind globals and functions of these names and globals of so many cells
abbrev pub global : Environment → List (List ℕ) → ℕ → Base → GlobalDeclarator → Judgment
global env names cells b g =
    under (extent_fault env (extent_of g.declarator.pointer))
    (under (where_not (not (is_some (builtin_named g.declarator.name.word) || contains names g.declarator.name.word)) (fault_at kind.Twice g.declarator.name.at))
    (under (where_not (is_small env cells b g) (fault_at kind.TooBig g.declarator.name.at))
    (under (where_not (is_initial env (declared_type env b g.declarator.pointer) (is_some g.declarator.count) g.initial)
    (bad_type (declarator_place g.declarator.pointer g.declarator.name))) absent)))

abbrev pub each : Environment → List (List ℕ) → ℕ → Base → List GlobalDeclarator → Judgments
each env names cells b [] = NoMore
each env names cells b (g ∷ rest) = And (global env names cells b g) (each env (g.declarator.name.word ∷ names) (cells + global_cells env b g) b rest)

-- globals of one base
abbrev pub globals : Environment → List (List ℕ) → ℕ → Base → List GlobalDeclarator → Judgment
globals env names cells b gs = Held (base_fault env b (map (λ g. stars_of g.declarator.pointer) gs)) (each env names cells b gs) joined
