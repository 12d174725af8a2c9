-- The count that is kept with a type.
use Rattle.std.proofs.Common.{◌≡◌, ℕ, zero, suc, ◌<◌, ◌≤◌, ◌*◌, length, sym, ap, ◌∙◌, subst, arith}
use Rattle.std.proofs.Math.Nat.{mul-le-mul, zero-mul}
use Rattle.kt_types.proofs.Complete.{some-of, value-of}
use Rattle.kt_types.proofs.Growth.{layout-grows-type}
use Rattle.kt_types.proofs.Laws.{layout-new_array}
use Rattle.kt_types.proofs.Parts.{cells-is}
use Rattle.kt_types.specs.Kept.{IsCounted}
use Rattle.kt_types.specs.Layout.{IsFitting, NamesPlaces, cells, layout}
use Rattle.kt_types.specs.Table.{Table, with_type}
use Rattle.kt_types.specs.declared.kinds.Ty.{Ty}
use Rattle.kt_types.specs.declared.kinds.Ty.TheVariants.{Char, Int, Long, Mutex, Struct, Array, Ptr}

pub counted-array : (t : Table) (e k n : ℕ) → NamesPlaces t (Array e k) → IsFitting t (Array e k) → n ≡ length (cells t e) → 1 ≤ n
    → IsCounted (with_type t (Array e k)) (length t.types) (Array e k) (k * n)
counted-array t e k n within fits count some =
    let (cs, has) = value-of (layout t e) fits.0 in
    let its : n ≡ length cs = count ∙ ap length (cells-is t e cs has) in
    (cs, within, layout-grows-type t (Array e k) e cs has, layout-new_array t e k cs has, ap (λ m. k * m) its, mul-le-mul fits.1 some, subst (λ m. k * m ≤ 65536) (sym count) fits.2)

-- what a type of the table names is of the table
pub counted-places : (t : Table) (p : ℕ) (ty : Ty) (n : ℕ) → p < length t.types → IsCounted t p ty n → NamesPlaces t ty
counted-places t p Char n lt h = tt
counted-places t p Int n lt h = tt
counted-places t p Long n lt h = tt
counted-places t p Mutex n lt h = tt
counted-places t p (Ptr q) n lt h = h.0
counted-places t p (Struct s) n lt h = h
counted-places t p (Array e k) n lt h = omega (arith, h.1)

-- and an array of it has a complete element, and no more cells than the limit
pub counted-fits : (t : Table) (p : ℕ) (ty : Ty) (n : ℕ) → IsCounted t p ty n → IsFitting t ty
counted-fits t p Char n h = tt
counted-fits t p Int n h = tt
counted-fits t p Long n h = tt
counted-fits t p Mutex n h = tt
counted-fits t p (Ptr q) n h = tt
counted-fits t p (Struct s) n h = tt
counted-fits t p (Array e k) n h =
    (some-of _ h.0 h.2, positive k h.4, subst (λ l. k * length l ≤ 65536) (sym (cells-is t e h.0 h.2)) (subst (λ m. m ≤ 65536) h.4 h.6))
  where
    positive : (k : ℕ) → n ≡ k * length h.0 → 1 ≤ k
    positive zero z = absurd (omega (arith, z, zero-mul (length h.0), h.5))
    positive (suc k) z = omega arith
