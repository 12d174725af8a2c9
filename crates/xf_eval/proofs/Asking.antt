-- What is asked for, and its parts.
use Rattle.std.specs.Prelude.{IsSome, IfSome, option_and_then}
use Rattle.std.proofs.Common.{◌≡◌, ℕ, ◌<◌, List, length, slice_get, Option, None, Some, Result, refl, ap, sym, subst}
use Rattle.std.proofs.lemmas.Bool.{false≢true}
use Rattle.std.proofs.lemmas.Option.{slice_get_within}
use Rattle.kt_types.specs.declared.kinds.Ty.{Ty}
use Rattle.kt_types.proofs.Complete.{value-of}
use Rattle.kt_mem.specs.declared.memory.Name.{Name}
use Rattle.kt_mem.specs.declared.steps.Trap.{Trap}
use Rattle.kt_mem.specs.Memory.{Memory}
use Rattle.xf_plan.specs.Plan.{Plan}
use Rattle.xf_plan.specs.PreValues.{pre_value}
use Rattle.xf_plan.specs.Sources.{Source}
use Rattle.xf_plan.specs.declared.value.PreValue.{PreValue}
use Rattle.xf_eval.specs.declared.faults.PreFault.{PreFault}
use Rattle.xf_eval.specs.Asked.{Answers, cell_of}

pub through : {A B : Type 0} (f : A → Option B) (o : Option A) (x : A) → o ≡ Some x → option_and_then f o ≡ f x
through f o x is = ap (option_and_then f) is

pub nothing-there : {A B : Type 0} (f : A → Option B) (o : Option A) → o ≡ None → IsSome (option_and_then f o) → ⊥
nothing-there {A} {B} f o is h = false≢true (subst (λ (x : Option A). IsSome (option_and_then f x)) is h)

pub there-on : {A B : Type 0} (f : A → Option B) (o : Option A) (x : A) → o ≡ Some x → IsSome (option_and_then f o) → IsSome (f x)
there-on {A} {B} f o x is h = subst (λ (y : Option A). IsSome (option_and_then f y)) is h

-- a cell that has a pre-value has a type and a source
pub has-type : (p : Plan) (m : Memory) (n : Name) (t : Option Ty) (s : Option Source) → IsSome (cell_of p m n t s) → IsSome t
has-type p m n None s h = absurd (false≢true h)
has-type p m n (Some u) s h = refl

pub has-source : (p : Plan) (m : Memory) (n : Name) (t : Option Ty) (s : Option Source) → IsSome (cell_of p m n t s) → IsSome s
has-source p m n None s h = absurd (false≢true h)
has-source p m n (Some u) None h = absurd (false≢true h)
has-source p m n (Some u) (Some s) h = refl

-- and that is its pre-value
pub cell-told : (p : Plan) (m : Memory) (n : Name) (t : Option Ty) (u : Ty) (s : Option Source) (v : Source) (r : Result PreValue Trap) →
    t ≡ Some u → s ≡ Some v → r ≡ pre_value p m n u v → cell_of p m n t s ≡ Some r
cell-told p m n t u s v r is is' told = rw (is, is', told) refl

pub answered : (o : Option (Result PreValue Trap)) (told : Result PreValue Trap) (r : Result PreValue PreFault) → o ≡ Some told → Answers r told → IfSome o (Answers r)
answered o told r is h = subst (λ (x : Option (Result PreValue Trap)). IfSome x (Answers r)) (sym is) h

pub in-list : {A : Type 0} (xs : List A) (i : ℕ) → IsSome (slice_get xs i) → i < length xs
in-list xs i h = let (x, is) = value-of (slice_get xs i) h in slice_get_within xs i x is
