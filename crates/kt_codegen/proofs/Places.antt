-- Where instructions stand: in front of others, behind them, and where a loop's parts stand.
use Rattle.std.proofs.Common.{◌≡◌, ℕ, suc, ◌+◌, ◌<◌, List, [], ◌∷◌, ◌++◌, length, Some, ap, ◌∙◌, subst, arith, append_assoc, length-append}
use Rattle.std.specs.Prelude.{slice_get}
use Rattle.std.proofs.Math.Seq.{get_or-append_seam}
use Rattle.std.proofs.lemmas.Option.{slice_get-get_or}
use Rattle.kt_code.specs.declared.instr.Instr.{Instr}
use Rattle.kt_code.specs.declared.instr.Instr.TheVariants as instr
use Rattle.kt_genexpr.specs.Generates.{HasAt}
use Rattle.kt_genexpr.proofs.Places.{has-front, has-back}
use Rattle.kt_codegen.specs.StatementCode.{choice_code, turn_code}

-- a list's instructions stand in it
has-all : (is front : List Instr) → HasAt (front ++ is) (length front) is
has-all [] front = tt
has-all (i ∷ is) front =
    let within : length front < length (front ++ i ∷ is) = omega (arith, length-append front (i ∷ is)) in
    let here = slice_get-get_or (front ++ i ∷ is) (length front) i within ∙ ap Some (get_or-append_seam front i is i) in
    let n : length (front ++ i ∷ []) ≡ suc (length front) = omega (arith, length-append front (i ∷ [])) in
    let rest = has-all is (front ++ i ∷ []) in
    let rest' = subst (λ l. HasAt l (length (front ++ i ∷ [])) is) (append_assoc front (i ∷ []) is) rest in
    (here, subst (λ m. HasAt (front ++ i ∷ is) m is) n rest')

pub has-itself : (is : List Instr) → HasAt is 0 is
has-itself is = has-all is []

-- ---- two lists and what stands behind the first

pub record AreAround (instrs : List Instr) (p : ℕ) (a : List Instr) (i : Instr) (b : List Instr) : Type 0 where
  pub front : HasAt instrs p a
  pub middle : slice_get instrs (p + length a) ≡ Some i
  pub back : HasAt instrs (suc (p + length a)) b

pub around : (instrs : List Instr) (p : ℕ) (a : List Instr) (i : Instr) (b : List Instr) → HasAt instrs p (a ++ i ∷ b) → AreAround instrs p a i b
around instrs p a i b h =
    let back = has-back instrs p a (i ∷ b) h in
    record { front = has-front instrs p a (i ∷ b) h; middle = back.0; back = back.1 }

-- ---- the parts of a turn

pub record IsTurn (instrs : List Instr) (p : ℕ) (body behind : List Instr) (back : ℕ → Instr) : Type 0 where
  pub tick : slice_get instrs p ≡ Some instr.Tick
  pub inside : HasAt instrs (suc p) body
  pub after : HasAt instrs (suc p + length body) behind
  pub jump : slice_get instrs (suc p + length body + length behind) ≡ Some (back (suc (suc (length body + length behind))))

pub turn : (instrs : List Instr) (p : ℕ) (body behind : List Instr) (back : ℕ → Instr) → HasAt instrs p (turn_code body behind back) → IsTurn instrs p body behind back
turn instrs p body behind back h =
    let last = back (suc (suc (length body + length behind))) ∷ [] in
    let rest = has-back instrs (suc p) body (behind ++ last) (h.1) in
    record {
      tick = h.0;
      inside = has-front instrs (suc p) body (behind ++ last) (h.1);
      after = has-front instrs (suc p + length body) behind last rest;
      jump = (has-back instrs (suc p + length body) behind last rest).0;
    }

-- how many instructions a turn has, and a choice
pub turn-length : (body behind : List Instr) (back : ℕ → Instr) → length (turn_code body behind back) ≡ suc (suc (length body + length behind))
turn-length body behind back =
    let i = back (suc (suc (length body + length behind))) in
    omega (arith, length-append body (behind ++ i ∷ []), length-append behind (i ∷ []))

pub choice-length : (test first second : List Instr) → length (choice_code test first second) ≡ suc (suc (length test + length first + length second))
choice-length test first second =
    omega (arith, length-append test (instr.SkipIfZero (suc (length first)) ∷ (first ++ (instr.Skip (length second) ∷ second))), length-append first (instr.Skip (length second) ∷ second))
