-- Each jump of an expression's code stays within the code that it stands in.
use Rattle.std.proofs.Common.{◌≡◌, ℕ, zero, suc, ◌+◌, ◌-◌, ◌≤◌, ◌==◌, Bool, true, false, List, [], ◌∷◌, ◌++◌, length, slice_get, Option, Some, refl, subst, arith, length-append}
use Rattle.std.proofs.lemmas.Option.{none-some, same_Some}
use Rattle.kt_types.specs.declared.kinds.Ty.{Ty}
use Rattle.kt_types.specs.Table.{Table}
use Rattle.kt_tree.specs.declared.expr.Constant.{Constant}
use Rattle.kt_tree.specs.declared.expr.Constant.TheVariants as constant
use Rattle.kt_tree.specs.declared.expr.Operation.{Operation}
use Rattle.kt_tree.specs.declared.expr.Operation.TheVariants as operation
use Rattle.kt_tree.specs.declared.expr.Request.{Request}
use Rattle.kt_tree.specs.declared.expr.Request.TheVariants as request
use Rattle.kt_tree.specs.Tree.{Expression, Constant', LocalRead, LocalSet, LocalSwapped, Operated, Requested, Modified, Both, Either, Chosen, Called, Expressions, NoMore, More, Function}
use Rattle.kt_code.specs.Settling.{IsJump, HasJumps}
use Rattle.kt_code.specs.declared.instr.Instr.{Instr}
use Rattle.kt_code.specs.declared.instr.Instr.TheVariants as instr
use Rattle.kt_genexpr.specs.ExpressionCode.{type_at, locals_of, count, constant_code, operation_code, request_code, kept_code, conversion_code, storing_code, modified_code, expression_code, expressions_code}

-- ---- lengths

pub one-more-length : (a : List Instr) (i : Instr) → length (a ++ i ∷ []) ≡ suc (length a)
one-more-length a i = omega (arith, length-append a (i ∷ []))

choice-length : (test first second : List Instr) →
    length (test ++ (instr.SkipIfZero (suc (length first)) ∷ (first ++ (instr.Skip (length second) ∷ second)))) ≡ suc (suc (length test + length first + length second))
choice-length test first second =
    omega (arith, length-append test (instr.SkipIfZero (suc (length first)) ∷ (first ++ (instr.Skip (length second) ∷ second))), length-append first (instr.Skip (length second) ∷ second))

-- the instructions that stand at this place are such jumps
abbrev pub AreJumps : List Instr → ℕ → List Instr → Type 0
AreJumps instrs p [] = Unit {0}
AreJumps instrs p (i ∷ is) = IsJump instrs (suc p) i × AreJumps instrs (suc p) is

pub jumps-append : (instrs : List Instr) (p : ℕ) (a b : List Instr) → AreJumps instrs p a → AreJumps instrs (p + length a) b → AreJumps instrs p (a ++ b)
jumps-append instrs p [] b h k = let same : p + 0 ≡ p = omega arith in subst (λ i. AreJumps instrs i b) same k
jumps-append instrs p (i ∷ a) b h k =
    let same : p + suc (length a) ≡ suc p + length a = omega arith in
    (h.0, jumps-append instrs (suc p) a b (h.1) (subst (λ i. AreJumps instrs i b) same k))

-- with one more instruction behind them
pub jumps-one : (instrs : List Instr) (p : ℕ) (a : List Instr) (i : Instr) → AreJumps instrs p a → IsJump instrs (suc (p + length a)) i → AreJumps instrs p (a ++ i ∷ [])
jumps-one instrs p a i h k = jumps-append instrs p a (i ∷ []) h (k, tt)

-- with more instructions around one
pub jumps-around : (instrs : List Instr) (p : ℕ) (a : List Instr) (i : Instr) (b : List Instr) → AreJumps instrs p a → IsJump instrs (suc (p + length a)) i →
    AreJumps instrs (suc (p + length a)) b → AreJumps instrs p (a ++ i ∷ b)
jumps-around instrs p a i b h k l = jumps-append instrs p a (i ∷ b) h (k, l)

pub jump-at : (instrs : List Instr) (p : ℕ) (is : List Instr) (k : ℕ) (i : Instr) → AreJumps instrs p is → slice_get is k ≡ Some i → IsJump instrs (suc (p + k)) i
jump-at instrs p [] k i h e = absurd (none-some i e)
jump-at instrs p (j ∷ is) zero i h e =
    let same : p ≡ p + 0 = omega arith in
    subst (λ x. IsJump instrs (suc (p + 0)) x) (same_Some j i e) (subst (λ x. IsJump instrs (suc x) j) same (h.0))
jump-at instrs p (j ∷ is) (suc k) i h e =
    let same : suc p + k ≡ p + suc k = omega arith in
    subst (λ x. IsJump instrs (suc x) i) same (jump-at instrs (suc p) is k i (h.1) e)

-- ---- single instructions

constant-jump : (instrs : List Instr) (p : ℕ) (c : Constant) → IsJump instrs p (constant_code c)
constant-jump instrs p (constant.Number n) = tt
constant-jump instrs p constant.Null = tt
constant-jump instrs p (constant.Global g) = tt
constant-jump instrs p (constant.Literal n) = tt

operation-jump : (instrs : List Instr) (p : ℕ) (types : Table) (op : Operation) (t : ℕ) → IsJump instrs p (operation_code types op t)
operation-jump instrs p types operation.Add t = tt
operation-jump instrs p types operation.Subtract t = tt
operation-jump instrs p types operation.Multiply t = tt
operation-jump instrs p types operation.Divide t = tt
operation-jump instrs p types operation.Remainder t = tt
operation-jump instrs p types operation.Less t = tt
operation-jump instrs p types operation.Greater t = tt
operation-jump instrs p types operation.LessEqual t = tt
operation-jump instrs p types operation.GreaterEqual t = tt
operation-jump instrs p types operation.Equal t = tt
operation-jump instrs p types operation.NotEqual t = tt
operation-jump instrs p types operation.Not t = tt
operation-jump instrs p types operation.Convert t = tt
operation-jump instrs p types (operation.ElementAfter e) t = tt
operation-jump instrs p types (operation.ElementBefore e) t = tt
operation-jump instrs p types (operation.ElementsBetween e) t = tt
operation-jump instrs p types (operation.Field number index) t = tt

request-jump : (instrs : List Instr) (p : ℕ) (types : Table) (r : Request) (t : Option ℕ) → IsJump instrs p (request_code types r t)
request-jump instrs p types request.Load t = tt
request-jump instrs p types r t = tt

-- ---- expressions

module _ (instrs : List Instr) (types : Table) (functions : List Function) where
  abbrev code_of : Expression → List Instr
  code_of e = expression_code types functions e

  abbrev codes_of : Expressions → List Instr
  codes_of es = expressions_code types functions es

  kept-jumps : (p : ℕ) (old : Bool) → AreJumps instrs p (kept_code old)
  kept-jumps p true = (tt, tt)
  kept-jumps p false = tt

  conversion-jumps : (p : ℕ) (same : Bool) (u : Ty) → AreJumps instrs p (conversion_code same u)
  conversion-jumps p true u = tt
  conversion-jumps p false u = (tt, tt)

  storing-jump : (p : ℕ) (old : Bool) (u : Ty) → IsJump instrs p (storing_code old u)
  storing-jump p true u = tt
  storing-jump p false u = tt

  modified-jumps : (op : Operation) (own t : ℕ) (old : Bool) (operand : List Instr) (p : ℕ) → ((q : ℕ) → q + length operand ≤ p + length (modified_code types op own t old operand) → AreJumps instrs q operand) →
      AreJumps instrs p (modified_code types op own t old operand)
  modified-jumps op own t old operand p h =
      let u = type_at types t in
      let last = conversion_code (own == t) u ++ storing_code old u ∷ [] in
      let rest = operation_code types op own ∷ last in
      let long = length-append (kept_code old) (operand ++ rest) in
      let long' = length-append operand rest in (
        tt,
        jumps-append instrs (suc p) (kept_code old) (operand ++ rest) (kept-jumps (suc p) old)
            (jumps-around instrs (suc p + length (kept_code old)) operand (operation_code types op own) last (h (suc p + length (kept_code old)) (omega arith))
            (operation-jump instrs (suc (suc p + length (kept_code old) + length operand)) types op own)
            (jumps-one instrs (suc (suc p + length (kept_code old) + length operand)) (conversion_code (own == t) u) (storing_code old u)
            (conversion-jumps (suc (suc p + length (kept_code old) + length operand)) (own == t) u)
            (storing-jump (suc (suc (suc p + length (kept_code old) + length operand) + length (conversion_code (own == t) u))) old u))),
      )

  mutual
    pub expression-jumps : (e : Expression) (p : ℕ) → p + length (code_of e) ≤ length instrs → AreJumps instrs p (code_of e)
    expression-jumps (Constant' c t) p h = (constant-jump instrs (suc p) c, tt)
    expression-jumps (LocalRead n) p h = (tt, tt)
    expression-jumps (LocalSet n e) p h =
        jumps-one instrs p (code_of e) (instr.Set n) (expression-jumps e p (omega (arith, one-more-length (code_of e) (instr.Set n)))) tt
    expression-jumps (LocalSwapped n e) p h =
        jumps-one instrs p (code_of e) (instr.Swap n) (expression-jumps e p (omega (arith, one-more-length (code_of e) (instr.Swap n)))) tt
    expression-jumps (Operated op t es) p h =
        let i = operation_code types op t in
        jumps-one instrs p (codes_of es) i (expressions-jumps es p (omega (arith, one-more-length (codes_of es) i))) (operation-jump instrs (suc (p + length (codes_of es))) types op t)
    expression-jumps (Requested r t es) p h =
        let i = request_code types r t in
        jumps-one instrs p (codes_of es) i (expressions-jumps es p (omega (arith, one-more-length (codes_of es) i))) (request-jump instrs (suc (p + length (codes_of es))) types r t)
    expression-jumps (Modified op own t old a e) p h =
        let back = modified_code types op own t old (code_of e) in
        let long = length-append (code_of a) back in
        jumps-append instrs p (code_of a) back (expression-jumps a p (omega arith))
        (modified-jumps op own t old (code_of e) (p + length (code_of a)) (λ q le. expression-jumps e q (omega arith)))
    expression-jumps (Both a b) p h =
        let i = instr.And (suc (length (code_of b))) in
        let long = length-append (code_of a) (i ∷ (code_of b ++ instr.Truth ∷ [])) in
        let long' = one-more-length (code_of b) instr.Truth in
        let q = p + length (code_of a) in
        jumps-around instrs p (code_of a) i (code_of b ++ instr.Truth ∷ []) (expression-jumps a p (omega arith)) (omega arith)
        (jumps-one instrs (suc q) (code_of b) instr.Truth (expression-jumps b (suc q) (omega arith)) tt)
    expression-jumps (Either a b) p h =
        let i = instr.Or (suc (length (code_of b))) in
        let long = length-append (code_of a) (i ∷ (code_of b ++ instr.Truth ∷ [])) in
        let long' = one-more-length (code_of b) instr.Truth in
        let q = p + length (code_of a) in
        jumps-around instrs p (code_of a) i (code_of b ++ instr.Truth ∷ []) (expression-jumps a p (omega arith)) (omega arith)
        (jumps-one instrs (suc q) (code_of b) instr.Truth (expression-jumps b (suc q) (omega arith)) tt)
    expression-jumps (Chosen c t a b) p h =
        let long = choice-length (code_of c) (code_of a) (code_of b) in
        let q = p + length (code_of c) in
        jumps-around instrs p (code_of c) (instr.SkipIfZero (suc (length (code_of a)))) (code_of a ++ (instr.Skip (length (code_of b)) ∷ code_of b)) (expression-jumps c p (omega arith)) (omega arith)
        (jumps-around instrs (suc q) (code_of a) (instr.Skip (length (code_of b))) (code_of b) (expression-jumps a (suc q) (omega arith)) (omega arith)
        (expression-jumps b (suc (suc q + length (code_of a))) (omega arith)))
    expression-jumps (Called g es) p h =
        let i = instr.Call g (count es) (locals_of (slice_get functions g)) in
        jumps-one instrs p (codes_of es) i (expressions-jumps es p (omega (arith, one-more-length (codes_of es) i))) tt

    pub expressions-jumps : (es : Expressions) (p : ℕ) → p + length (codes_of es) ≤ length instrs → AreJumps instrs p (codes_of es)
    expressions-jumps NoMore p h = tt
    expressions-jumps (More e es) p h =
        let long = length-append (code_of e) (codes_of es) in
        jumps-append instrs p (code_of e) (codes_of es) (expression-jumps e p (omega arith)) (expressions-jumps es (p + length (code_of e)) (omega arith))

-- ---- code that grows

pub all-jump : (instrs : List Instr) → AreJumps instrs 0 instrs → HasJumps instrs
all-jump instrs h p i e =
    let same : 0 + p ≡ p = omega arith in
    subst (λ k. IsJump instrs (suc k) i) same (jump-at instrs 0 instrs p i h e)

from-places : (instrs : List Instr) (p : ℕ) (is : List Instr) → ((k : ℕ) (i : Instr) → slice_get is k ≡ Some i → IsJump instrs (suc (p + k)) i) → AreJumps instrs p is
from-places instrs p [] h = tt
from-places instrs p (j ∷ is) h =
    let here : p + 0 ≡ p = omega arith in
    let next = λ (k : ℕ). let e : p + suc k ≡ suc p + k = omega arith in e in
    (subst (λ n. IsJump instrs (suc n) j) here (h 0 j refl), from-places instrs (suc p) is (λ k i e. subst (λ n. IsJump instrs (suc n) i) (next k) (h (suc k) i e)))

get-wider : (old more : List Instr) (k : ℕ) (i : Instr) → slice_get old k ≡ Some i → slice_get (old ++ more) k ≡ Some i
get-wider [] more k i h = absurd (none-some i h)
get-wider (j ∷ old) more zero i h = h
get-wider (j ∷ old) more (suc k) i h = get-wider old more k i h

-- a jump stays one, with more instructions behind
jump-wider : (old more : List Instr) (next : ℕ) (i : Instr) → IsJump old next i → IsJump (old ++ more) next i
jump-wider old more next (instr.Skip n) h = omega (arith, length-append old more)
jump-wider old more next (instr.SkipIfZero n) h = omega (arith, length-append old more)
jump-wider old more next (instr.And n) h = omega (arith, length-append old more)
jump-wider old more next (instr.Or n) h = omega (arith, length-append old more)
jump-wider old more next (instr.Back n) h = (h.0, get-wider old more (next - n) instr.Tick (h.1))
jump-wider old more next (instr.BackIfNotZero n) h = (h.0, get-wider old more (next - n) instr.Tick (h.1))
jump-wider old more next i h = tt

-- code with the code of an expression behind it
pub added-jumps : (old : List Instr) (types : Table) (functions : List Function) (e : Expression) → HasJumps old → HasJumps (old ++ expression_code types functions e)
added-jumps old types functions e h =
    let code = expression_code types functions e in
    let all = old ++ code in
    let long = length-append old code in
    let front = from-places all 0 old (λ k i is. let same : k ≡ 0 + k = omega arith in subst (λ n. IsJump all (suc n) i) same (jump-wider old code (suc k) i (h k i is))) in
    all-jump all (jumps-append all 0 old code front (expression-jumps all types functions e (0 + length old) (omega arith)))
