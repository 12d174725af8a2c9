-- Instructions at a place: the front of a list and what is behind it.
use Rattle.std.proofs.Common.{◌≡◌, ℕ, suc, ◌+◌, List, [], ◌∷◌, ◌++◌, length, subst, arith}
use Rattle.kt_code.specs.declared.instr.Instr.{Instr}
use Rattle.kt_genexpr.specs.Generates.{HasAt}

pub has-front : (instrs : List Instr) (p : ℕ) (a b : List Instr) → HasAt instrs p (a ++ b) → HasAt instrs p a
has-front instrs p [] b h = tt
has-front instrs p (i ∷ a) b h = (h.0, has-front instrs (suc p) a b h.1)

pub has-back : (instrs : List Instr) (p : ℕ) (a b : List Instr) → HasAt instrs p (a ++ b) → HasAt instrs (p + length a) b
has-back instrs p [] b h = let e : p ≡ p + 0 = omega arith in subst (λ n. HasAt instrs n b) e h
has-back instrs p (i ∷ a) b h =
    let e : suc p + length a ≡ p + suc (length a) = omega arith in
    subst (λ n. HasAt instrs n b) e (has-back instrs (suc p) a b h.1)
