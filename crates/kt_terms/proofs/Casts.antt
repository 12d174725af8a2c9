-- A cast of a pointer, by the type of its operand.
use Rattle.std.proofs.Common.{◌≡◌, ℕ, ◌&&◌, Bool, true, false, Ok, if◌then◌else◌, refl, rules}
use Rattle.kt_names.specs.declared.ctype.CType.{CType}
use Rattle.kt_names.specs.declared.fault.CheckFault.TheVariants.{BadType}
use Rattle.kt_names.specs.Checked.{Checked, and_then, fault}
use Rattle.kt_names.specs.Environment.{Environment}
use Rattle.kt_names.specs.Types.{int, pointer_to, is_pointer, same_ctype}
use Rattle.kt_tree.specs.Tree.{LocalRead}
use Rattle.kt_names.specs.Operands.{Operand, Valued, Zero, Null, LocalPlace, CellPlace, ArrayPlace, WholePlace, NoResult, Value, value_of_type, zero, load, value, value_type, tested, pointer}

module _ (at : ℕ) (t : CType) (a : Operand) where
  abbrev pub kept : CType → Checked Operand
  kept own = if is_pointer own && same_ctype own t then Ok a else fault (BadType at)

  by-type : (v : Value) → and_then (tested is_pointer at v) (λ w. if same_ctype w.ty t then Ok a else fault (BadType at)) ≡ kept v.ty
  by-type v = by (is_pointer v.ty) refl
    where
      by : (b : Bool) → is_pointer v.ty ≡ b → and_then (tested is_pointer at v) (λ w. if same_ctype w.ty t then Ok a else fault (BadType at)) ≡ kept v.ty
      by true e = rw e refl
      by false e = rw e refl

pub by_types : (env : Environment) (at inner : ℕ) (t : CType) (whole a : Operand)
    → and_then (pointer env inner at a) (λ v. if same_ctype v.ty t then Ok whole else fault (BadType at)) ≡ and_then (value_type inner at a) (kept at t whole)
by_types env at inner t whole (Valued s e) = by-type at t whole (value_of_type s e)
by_types env at inner t whole Zero = by-type at t whole (value_of_type int (zero env))
by_types env at inner t whole Null = refl
by_types env at inner t whole (LocalPlace x s) = by-type at t whole (value_of_type s (LocalRead x))
by_types env at inner t whole (CellPlace s p) = by-type at t whole (value_of_type s (load env s p))
by_types env at inner t whole (ArrayPlace s p) = by-type at t whole (value_of_type (pointer_to s) p)
by_types env at inner t whole (WholePlace s p) = refl
by_types env at inner t whole (NoResult e) = refl

pub second : {A : Type 0} (b c : Bool) (x y z : A) → b ≡ false → c ≡ true → (if b then x else (if c then y else z)) ≡ y
second true c x y z e f = absurd cc
second false true x y z e f = refl
second false false x y z e f = absurd cc
