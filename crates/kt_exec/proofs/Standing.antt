-- Where a thread stands: acts, ends and the traps of calls are no quiet steps.
use Rattle.std.specs.Prelude.{◌≡◌, ℕ, nat_le, suc, Bool, true, false, List, [], ◌∷◌, length, Option, None, Some, Result, Ok, Err, slice_get, if◌then◌else◌}
use Rattle.std.proofs.Common.{sym, subst, ap, ◌∙◌}
use Rattle.std.proofs.lemmas.Option.{same_Some}
use Rattle.kt_types.specs.declared.kinds.Ty.{Ty}
use Rattle.kt_mem.specs.declared.memory.Value.{Value}
use Rattle.kt_mem.specs.declared.memory.Value.TheVariants.{Num}
use Rattle.kt_mem.specs.declared.steps.Act.{Act}
use Rattle.kt_mem.specs.declared.steps.Trap.{Trap}
use Rattle.kt_tree.specs.declared.expr.Request.{Request}
use Rattle.kt_meaning.specs.Requests.{act_of}
use Rattle.kt_meaning.specs.Steps.{Step, IsHead}
use Rattle.kt_code.specs.Machine.{Here, on_top, on_two, on_list, asks, calls, main_returns, returns, do_one}
use Rattle.kt_code.specs.Requests.{operand_count, untyped}
use Rattle.kt_code.specs.declared.instr.Instr.{Instr}
use Rattle.kt_code.specs.declared.instr.Instr.TheVariants as instr
use Rattle.kt_code.specs.declared.private.Private.{Private}

top-stands : (f : Value → List Value → Step Private) (ops : List Value) → ((v : Value) (rest : List Value) → IsHead (f v rest)) → IsHead (on_top f ops)
top-stands f [] h = tt
top-stands f (v ∷ ops) h = h v ops

two-stands : (f : Value → Value → List Value → Step Private) (ops : List Value) → ((a b : Value) (rest : List Value) → IsHead (f a b rest)) →
    IsHead (on_two f ops)
two-stands f [] h = tt
two-stands f (b ∷ []) h = tt
two-stands f (b ∷ a ∷ ops) h = h a b ops

choice-stands : (b : Bool) (s u : Step Private) → IsHead s → IsHead u → IsHead (if b then s else u)
choice-stands true s u h k = h
choice-stands false s u h k = k

list-stands : (n : ℕ) (f : List Value → List Value → Step Private) (ops : List Value) → ((vs rest : List Value) → IsHead (f vs rest)) →
    IsHead (on_list n f ops)
list-stands n f ops h = choice-stands (nat_le n (length ops)) _ _ (h _ _) tt

asks-stands : (x : Here) (ops : List Value) (q : Request) (vs : List Value) (r : Result Act Trap) → IsHead (asks x ops q vs r)
asks-stands x ops q vs (Ok a) = tt
asks-stands x ops q vs (Err t) = tt

calls-stands : (x : Here) (g locals : ℕ) (at : Option ℕ) (vs ops : List Value) → IsHead (calls x g locals at vs ops)
calls-stands x g locals None vs ops = tt
calls-stands x g locals (Some at) vs ops = choice-stands (nat_le 200 (suc (length x.below))) _ _ tt tt

pub main_returns_stands : (v : Value) → IsHead (main_returns v)
main_returns_stands (Num n) = tt
main_returns_stands v = tt

-- what stands at an instruction stands there too where it is this one
module _ (entries : List ℕ) (i : Instr) (x : Here) (ops : List Value) where
  same : (j : Instr) → i ≡ j → IsHead (do_one entries j x ops) → IsHead (do_one entries i x ops)
  same j e h = subst (λ (k : Instr). IsHead (do_one entries k x ops)) (sym e) h

  pub load_stands : (t : Ty) → i ≡ instr.Load t → IsHead (do_one entries i x ops)
  load_stands t e = same (instr.Load t) e (top-stands _ ops (λ v rest. tt))

  pub fetch_stands : (t : Ty) → i ≡ instr.Fetch t → IsHead (do_one entries i x ops)
  fetch_stands t e = same (instr.Fetch t) e (top-stands _ ops (λ v rest. tt))

  pub store_stands : (t : Ty) → i ≡ instr.Store t → IsHead (do_one entries i x ops)
  store_stands t e = same (instr.Store t) e (two-stands _ ops (λ a b rest. tt))

  pub store_old_stands : (t : Ty) → i ≡ instr.StoreOld t → IsHead (do_one entries i x ops)
  store_old_stands t e = same (instr.StoreOld t) e (top-stands _ ops (λ v more. two-stands _ more (λ a b rest. tt)))

  pub ask_stands : (q : Request) → i ≡ instr.Ask q → IsHead (do_one entries i x ops)
  ask_stands q e = same (instr.Ask q) e (list-stands (operand_count q) _ ops (λ vs rest. asks-stands x rest q vs (act_of untyped x.function q None vs)))

  pub tick_stands : i ≡ instr.Tick → IsHead (do_one entries i x ops)
  tick_stands e = same instr.Tick e tt

  pub call_stands : (g arguments locals : ℕ) → i ≡ instr.Call g arguments locals → IsHead (do_one entries i x ops)
  call_stands g arguments locals e =
      same (instr.Call g arguments locals) e (list-stands arguments _ ops (λ vs rest. calls-stands x g locals (slice_get entries g) vs rest))

-- the return of the last frame
pub returned : (x : Here) (ops : List Value) (v : Value) → x.below ≡ [] → slice_get ops 0 ≡ Some v → do_one [] instr.Return x ops ≡ main_returns v
returned x [] v e h = absurd cc
returned x (w ∷ ops) v e h = ap (returns x w ops) e ∙ ap main_returns (same_Some w v h)
