-- Every step of a thread of a version leaves one.
use mathlib.Core.List.{reverse, reverse_aux}
use Rattle.std.specs.List.{AllByRecursion}
use Rattle.std.proofs.Common.{◌≡◌, ℕ, zero, suc, ℤ, pos, negsuc, ◌-◌, ◌^◌, ◌<◌, ◌≤◌, ◌⊎◌, inl, inr, ◌==◌, ◌&&◌, ◌||◌, ◌∙◌, sym, ap, subst, true, false, Bool, cond, if◌then◌else◌, nat_le, nat_lt, List, [], ◌∷◌, ◌++◌, length, take, replicate, slice_get, Option, Some, None, Result, Ok, Err, refl, arith}
use Rattle.std.proofs.lemmas.Bool.{false≢true, and_parts, or_cases, or_parts, eqb-true, eqb-false}
use Rattle.std.proofs.lemmas.Bool.Decides.{nat_tests}
use Rattle.std.proofs.lemmas.Option.{none-some, same_Some}
use Rattle.kt_types.specs.declared.kinds.FieldDecl.{FieldDecl}
use Rattle.kt_types.specs.declared.kinds.Ty.{Ty}
use Rattle.kt_types.specs.declared.kinds.Ty.TheVariants as ty
use Rattle.kt_types.specs.Table.{Table}
use Rattle.kt_mem.specs.declared.memory.Value.{Value}
use Rattle.kt_mem.specs.declared.memory.Value.TheVariants.{Num, Null, Ptr, Undef}
use Rattle.kt_mem.specs.declared.steps.Act.TheVariants as act
use Rattle.kt_mem.specs.declared.steps.Reply.{Reply}
use Rattle.kt_mem.specs.declared.steps.Reply.TheVariants.{Done, Got, Trapped}
use Rattle.kt_mem.specs.declared.steps.Trap.{Trap}
use Rattle.kt_mem.specs.declared.steps.Trap.TheVariants as trap
use Rattle.kt_mem.specs.Values.{truth}
use Rattle.kt_mem.specs.Comparisons.{zero_test}
use Rattle.kt_tree.specs.declared.expr.Constant.{Constant}
use Rattle.kt_tree.specs.declared.expr.Constant.TheVariants as constant
use Rattle.kt_tree.specs.declared.expr.Operation.{Operation}
use Rattle.kt_tree.specs.declared.expr.Request.{Request}
use Rattle.std.specs.Option.{is_some, option_map}
use Rattle.kt_mem.specs.declared.memory.Name.TheVariants.{Glob, Lit}
use Rattle.kt_mem.specs.Arithmetic.{fits as holds}
use Rattle.kt_tree.specs.Kinds.{is_integer_type, pointee_of, long_type, Scope, Head, int_type, is_integer, is_scalar, is_pointer, points_to, common, is_operation, is_request, is_constant, is_number_of, fits_in}
use Rattle.kt_tree.specs.Tree.{Expression, Constant', LocalRead, LocalSet, LocalSwapped, Operated, Requested, Modified, Both, Either, Chosen, Called, Expressions, NoMore, More, Statement, Evaluated, Undefined, Compound, Conditional, Looped, Repeated, Returned, Broken, Continued, Done as Finished, Then, Function}
use Rattle.kt_tree.specs.Typed.{Kind, NoValue, Of, kind_of, kind, types, value_type, if_so, both_there, same_types, set_kind, is_choice, choice_kind, logical_kind, call_kind, operation_kind, request_kind, is_modified, modified_kind, is_scalar_kind, is_condition, all_of, is_result, fits_return, fits, all_fit}
use Rattle.kt_tree.specs.Version.{Program, IsProgram, IsFunction, head_of, scope_of}
use Rattle.kt_meaning.specs.Steps.{Step, Acts, Traps, Comes}
use Rattle.kt_meaning.specs.Laws.{EntriesAreThreads}
use Rattle.kt_meaning.specs.Weights.{settle}
use Rattle.kt_meaning.proofs.TreeSettling.{settle-settles}
use Rattle.kt_meaning.specs.Values.{is_of, IsOf, IsAt, AreAt, AreIn, IsKind}
use Rattle.kt_meaning.specs.Operations.{apply_operation, changed}
use Rattle.kt_meaning.proofs.OperationTypes.{scalars-HasScalars, number-of, at-the-type, and-true, pointer-of, HasScalars, truth-IsAt, operation-typed, changed-typed}
use Rattle.kt_meaning.specs.Requests.{load_act, store_act, Tells, told}
use Rattle.kt_meaning.specs.Thread.{Use, Operates, Asks, Enters, Waiting, Drops, Sets, Swaps, Awaits, Fetches, Changes, AndThen, OrElse, Truths, Picks, Branches, Loops, Repeats, Returns, Eval, Have, Wait, Do, Run, Next, Again, Work, to_loop, after_loop, Frame, Restart, Thread, Context, at, open_frames, local_value, with_local}
use Rattle.kt_meaning.specs.TreeSteps.{Version, goes, gives, ticks, tested, enter, call_step, use_step, operands_step, constant_value, eval_step, loop_step, next_step, begin_step, swap_step, fetch_step, store_step, change_step, take_step, have_step, work_step, frames_step, step, return_step}
use Rattle.kt_meaning.specs.ThreadTypes.{Accepts, in_loop, use_kind, Widens, HasType, IsChange, IsCondition, AreConditions, Takes, Stands, types_of, AreFrames, IsRestart, IsThread}
use Rattle.kt_meaning.proofs.StepTypes.{AreIn-get, IsContext, at-IsThread, set-IsContext, get-map, return-Keeps, end-Keeps, Keeps}
use Rattle.kt_meaning.proofs.RequestTypes.{request-Keeps}

-- ---- entries

undefined-AreIn : (types : Table) (ls : List FieldDecl) (k : ℕ) → k ≡ length ls → AreIn types (types_of ls) (replicate k Undef)
undefined-AreIn types [] zero e = tt
undefined-AreIn types [] (suc k) e = absurd (omega arith)
undefined-AreIn types (l ∷ ls) zero e = absurd (omega arith)
undefined-AreIn types (l ∷ ls) (suc k) e = (inl refl, undefined-AreIn types ls k (omega arith))

-- the locals at the entry of a function
entry-AreIn : (types : Table) (ls : List FieldDecl) (n : ℕ) (vs : List Value) → AreAt types (types_of (take n ls)) vs →
    AreIn types (types_of ls) (vs ++ replicate (length ls - length vs) Undef)
entry-AreIn types [] zero [] a = tt
entry-AreIn types [] zero (v ∷ vs) a = absurd a
entry-AreIn types [] (suc n) [] a = tt
entry-AreIn types [] (suc n) (v ∷ vs) a = absurd a
entry-AreIn types (l ∷ ls) zero [] a = undefined-AreIn types (l ∷ ls) (length (l ∷ ls) - 0) (omega arith)
entry-AreIn types (l ∷ ls) zero (v ∷ vs) a = absurd a
entry-AreIn types (l ∷ ls) (suc n) [] a = absurd a
entry-AreIn types (l ∷ ls) (suc n) (v ∷ vs) a =
    let same : length ls - length vs ≡ suc (length ls) - suc (length vs) = omega arith in
    (inr (a.0), subst (λ k. AreIn types (types_of ls) (vs ++ replicate k Undef)) same (entry-AreIn types ls n vs (a.1)))

all-at : (P : Function → Type 0) (fs : List Function) (n : ℕ) (f : Function) → AllByRecursion P fs → slice_get fs n ≡ Some f → P f
all-at P [] n f a e = absurd (none-some f e)
all-at P (g ∷ fs) zero f a e = subst P (same_Some g f e) (a.0)
all-at P (g ∷ fs) (suc n) f a e = all-at P fs n f (a.1) e

same-types : (ts us : List ℕ) → same_types ts us ≡ true → ts ≡ us
same-types [] [] h = refl
same-types [] (u ∷ us) h = absurd (false≢true h)
same-types (t ∷ ts) [] h = absurd (false≢true h)
same-types (t ∷ ts) (u ∷ us) h =
    let parts = and_parts (t == u) (same_types ts us) h in
    λ i. eqb-true t u (parts.0) i ∷ same-types ts us (parts.1) i

-- ---- tests in kinds

pub record IfSo (b : Bool) {A : Type 0} (x y : A) : Type 0 where
  pub test : b ≡ true
  pub is : x ≡ y

if-so : {A : Type 0} (b : Bool) (x y : A) → if_so b x ≡ Some y → IfSo b x y
if-so true x y h = record { test = refl; is = same_Some x y h }
if-so false x y h = absurd (none-some y h)

-- what is known of the parts of a kind
value-kind : (o : Option Kind) (t : ℕ) → value_type o ≡ Some t → o ≡ Some (Of t)
value-kind (Some (Of u)) t h = ap (λ n. Some (Of n)) (same_Some u t h)
value-kind (Some NoValue) t h = absurd (none-some t h)
value-kind None t h = absurd (none-some t h)

record AreBoth (o : Option ℕ) (p : Option (List ℕ)) (ts : List ℕ) : Type 0 where
  first : ℕ
  rest : List ℕ
  first_is : o ≡ Some first
  rest_is : p ≡ Some rest
  is : first ∷ rest ≡ ts

both-there : (o : Option ℕ) (p : Option (List ℕ)) (ts : List ℕ) → both_there o p ≡ Some ts → AreBoth o p ts
both-there (Some t) (Some us) ts h = record { first = t; rest = us; first_is = refl; rest_is = refl; is = same_Some (t ∷ us) ts h }
both-there (Some t) None ts h = absurd (none-some ts h)
both-there None p ts h = absurd (none-some ts h)

-- a local takes a value of its type
record IsSet (o p : Option ℕ) (k : Kind) : Type 0 where
  type : ℕ
  local_is : o ≡ Some type
  value_is : p ≡ Some type
  is : Of type ≡ k

set-kind : (o p : Option ℕ) (k : Kind) → set_kind o p ≡ Some k → IsSet o p k
set-kind (Some t) (Some v) k h =
    let so = if-so (v == t) (Of t) k h in
    record { type = t; local_is = refl; value_is = ap Some (eqb-true v t so.test); is = so.is }
set-kind (Some t) None k h = absurd (none-some k h)
set-kind None p k h = absurd (none-some k h)

record AreLogical (s : Scope) (o p : Option ℕ) (k : Kind) : Type 0 where
  first : ℕ
  second : ℕ
  first_is : o ≡ Some first
  second_is : p ≡ Some second
  conditions : AreConditions s first second
  is : Of 1 ≡ k

logical-kind : (s : Scope) (o p : Option ℕ) (k : Kind) → logical_kind s o p ≡ Some k → AreLogical s o p k
logical-kind s (Some a) (Some b) k h =
    let so = if-so (is_scalar s a && is_scalar s b) (Of 1) k h in
    record { first = a; second = b; first_is = refl; second_is = refl; conditions = and_parts (is_scalar s a) (is_scalar s b) so.test; is = so.is }
logical-kind s (Some a) None k h = absurd (none-some k h)
logical-kind s None p k h = absurd (none-some k h)

record AreChosen (s : Scope) (t : ℕ) (o p q : Option ℕ) (k : Kind) : Type 0 where
  test : ℕ
  first : ℕ
  second : ℕ
  test_is : o ≡ Some test
  first_is : p ≡ Some first
  second_is : q ≡ Some second
  condition : IsCondition s test
  choice : is_choice s t first second ≡ true
  is : Of t ≡ k

choice-kind : (s : Scope) (t : ℕ) (o p q : Option ℕ) (k : Kind) → choice_kind s t o p q ≡ Some k → AreChosen s t o p q k
choice-kind s t (Some c) (Some a) (Some b) k h =
    let so = if-so (is_scalar s c && is_choice s t a b) (Of t) k h in
    let parts = and_parts (is_scalar s c) (is_choice s t a b) so.test in
    record { test = c; first = a; second = b; test_is = refl; first_is = refl; second_is = refl; condition = parts.0; choice = parts.1; is = so.is }
choice-kind s t (Some c) (Some a) None k h = absurd (none-some k h)
choice-kind s t (Some c) None q k h = absurd (none-some k h)
choice-kind s t None p q k h = absurd (none-some k h)

record AreModified (s : Scope) (own t : ℕ) (takes : List ℕ → Bool) (o p : Option ℕ) (k : Kind) : Type 0 where
  pointer : ℕ
  operand : ℕ
  pointer_is : o ≡ Some pointer
  operand_is : p ≡ Some operand
  change : IsChange s own t takes pointer operand
  is : Of t ≡ k

modified-kind : (s : Scope) (own t : ℕ) (takes : List ℕ → Bool) (o p : Option ℕ) (k : Kind) → modified_kind s own t takes o p ≡ Some k → AreModified s own t takes o p k
modified-kind s own t takes (Some a) (Some b) k h =
    let so = if-so (is_modified s own t takes a b) (Of t) k h in
    record { pointer = a; operand = b; pointer_is = refl; operand_is = refl; change = so.test; is = so.is }
modified-kind s own t takes (Some a) None k h = absurd (none-some k h)
modified-kind s own t takes None p k h = absurd (none-some k h)

-- the operands of an operation, a request and a call, by their use
record AreUsed (s : Scope) (u : Use) (o : Option (List ℕ)) (k : Kind) : Type 0 where
  operands : List ℕ
  operands_are : o ≡ Some operands
  whole : use_kind s u operands ≡ Some k

operation-used : (s : Scope) (op : Operation) (t : ℕ) (o : Option (List ℕ)) (k : Kind) → operation_kind s t (is_operation s op t) o ≡ Some k → AreUsed s (Operates op t) o k
operation-used s op t (Some ts) k h = record { operands = ts; operands_are = refl; whole = h }
operation-used s op t None k h = absurd (none-some k h)

request-used : (s : Scope) (r : Request) (t : Option ℕ) (o : Option (List ℕ)) (k : Kind) → request_kind t (is_request s r t) o ≡ Some k → AreUsed s (Asks r t) o k
request-used s r t (Some ts) k h = record { operands = ts; operands_are = refl; whole = h }
request-used s r t None k h = absurd (none-some k h)

call-used : (s : Scope) (g : ℕ) (o : Option (List ℕ)) (k : Kind) → call_kind (slice_get s.functions g) o ≡ Some k → AreUsed s (Enters g) o k
call-used s g (Some ts) k h = record { operands = ts; operands_are = refl; whole = h }
call-used s g None k h = by_head (slice_get s.functions g) h
  where
    by_head : (o : Option Head) → call_kind o None ≡ Some k → AreUsed s (Enters g) None k
    by_head None h = absurd (none-some k h)
    by_head (Some head) h = absurd (none-some k h)

-- ---- constants

number-fits : (n : ℤ) (bits : ℕ) → fits_in bits n ≡ holds (2 ^ bits) n
number-fits (pos n) bits = refl
number-fits (negsuc n) bits = refl

number-IsAt : (types : Table) → HasScalars types → (n : ℤ) (t : ℕ) → is_number_of n t ≡ true → IsAt types t (Num n)
number-IsAt types h n t i = by_case (or_cases ((t == int_type) && fits_in 31 n) ((t == long_type) && fits_in 63 n) i)
  where
    by_case : (((t == int_type) && fits_in 31 n) ≡ true) ⊎ (((t == long_type) && fits_in 63 n) ≡ true) → IsAt types t (Num n)
    by_case (inl e) =
        let parts = and_parts (t == int_type) (fits_in 31 n) e in
        subst (λ m. IsAt types m (Num n)) (sym (eqb-true t 1 (parts.0)))
        (at-the-type types 1 ty.Int (Num n) h.int_is (and-true (holds (2 ^ 31) n) ∙ sym (number-fits n 31) ∙ parts.1))
    by_case (inr e) =
        let parts = and_parts (t == long_type) (fits_in 63 n) e in
        subst (λ m. IsAt types m (Num n)) (sym (eqb-true t 2 (parts.0)))
        (at-the-type types 2 ty.Long (Num n) h.long_is (and-true (holds (2 ^ 63) n) ∙ sym (number-fits n 63) ∙ parts.1))

some-pointer : (types : Table) (t : ℕ) (v : Value) → is_some (pointee_of (slice_get types.types t)) ≡ true → ((u : ℕ) → is_of (ty.Ptr u) v ≡ true) → IsAt types t v
some-pointer types t v h p = by_type (slice_get types.types t) h
  where
    by_type : (o : Option Ty) → is_some (pointee_of o) ≡ true → IsOf o v
    by_type (Some (ty.Ptr u)) h = p u
    by_type None h = absurd (false≢true h)
    by_type (Some _) h = absurd (false≢true h)

-- a constant is of its type
constant-IsAt : (s : Scope) → HasScalars s.types → (version : ℕ) (c : Constant) (t : ℕ) → is_constant s c t ≡ true → IsAt s.types t (constant_value version c)
constant-IsAt s h version (constant.Number n) t i = number-IsAt s.types h n t i
constant-IsAt s h version constant.Null t i = some-pointer s.types t Null i (λ u. refl)
constant-IsAt s h version (constant.Global g) t i = by_global (slice_get s.globals g) i
  where
    by_global : (o : Option ℕ) → elim o as (λ _. Bool) [ None ↦ false | (Some e) ↦ points_to s t e ] ≡ true → IsAt s.types t (Ptr (Glob g) 0)
    by_global None i = absurd (false≢true i)
    by_global (Some e) i =
        let p = pointer-of (slice_get s.types.types t) e i in
        at-the-type s.types t (ty.Ptr p.to) (Ptr (Glob g) 0) p.is refl
constant-IsAt s h version (constant.Literal n) t i =
    let p = pointer-of (slice_get s.types.types t) 0 ((and_parts (nat_lt n s.literals) (points_to s t 0) i).1) in
    at-the-type s.types t (ty.Ptr p.to) (Ptr (Lit version n) 0) p.is refl

-- ---- arms of `?:`

-- a number that fits few bits fits more
more-bits : (few many : ℕ) (z : ℤ) → few ≤ many → holds few z ≡ true → holds many z ≡ true
more-bits few many (pos n) h t = grind (arith, nat_tests, h, t)
more-bits few many (negsuc n) h t = grind (arith, nat_tests, h, t)

and-true-left : (b : Bool) → (b && true) ≡ true → b ≡ true
and-true-left b h = (and_parts b true h).0

wide-number : (few many : ℕ) (z : ℤ) → few ≤ many → (holds few z && true) ≡ true → (holds many z && true) ≡ true
wide-number few many z h t = and-true (holds many z) ∙ more-bits few many z h (and-true-left (holds few z) t)

-- a value of an integer type is a `long`; of one that is no `long`, an `int`
long-IsOf : (o : Option Ty) (v : Value) → is_integer_type o ≡ true → IsOf o v → is_of ty.Long v ≡ true
long-IsOf o v i h = let n = number-of o v i h in subst (λ x. is_of ty.Long x ≡ true) (sym n.is) (by_type o n.value i (subst (IsOf o) n.is h))
  where
    by_type : (o : Option Ty) (z : ℤ) → is_integer_type o ≡ true → IsOf o (Num z) → is_of ty.Long (Num z) ≡ true
    by_type None z i h = absurd h
    by_type (Some ty.Char) z i h = wide-number (2 ^ 7) (2 ^ 63) z (omega arith) h
    by_type (Some ty.Int) z i h = wide-number (2 ^ 31) (2 ^ 63) z (omega arith) h
    by_type (Some ty.Long) z i h = h
    by_type (Some _) z i h = absurd (false≢true i)

int-IsOf : (o : Option Ty) (v : Value) → (o ≡ Some ty.Long → ⊥) → is_integer_type o ≡ true → IsOf o v → is_of ty.Int v ≡ true
int-IsOf o v other i h = let n = number-of o v i h in subst (λ x. is_of ty.Int x ≡ true) (sym n.is) (by_type o n.value other i (subst (IsOf o) n.is h))
  where
    by_type : (o : Option Ty) (z : ℤ) → (o ≡ Some ty.Long → ⊥) → is_integer_type o ≡ true → IsOf o (Num z) → is_of ty.Int (Num z) ≡ true
    by_type None z other i h = absurd h
    by_type (Some ty.Char) z other i h = wide-number (2 ^ 7) (2 ^ 31) z (omega arith) h
    by_type (Some ty.Int) z other i h = h
    by_type (Some ty.Long) z other i h = absurd (other refl)
    by_type (Some _) z other i h = absurd (false≢true i)

-- a value of an integer type is one of the common type with another
common-IsAt : (s : Scope) → HasScalars s.types → (a b t n : ℕ) (v : Value) → (n ≡ a) ⊎ (n ≡ b) → is_integer s n ≡ true → (common a b == t) ≡ true →
    IsAt s.types n v → IsAt s.types t v
common-IsAt s h a b t n v one i e va = by_test ((a == long_type) || (b == long_type)) refl e
  where
    no-long : (n ≡ a) ⊎ (n ≡ b) → (a == long_type) ≡ false → (b == long_type) ≡ false → n ≡ 2 → ⊥
    no-long (inl x) p q y = eqb-false a 2 p (sym x ∙ y)
    no-long (inr x) p q y = eqb-false b 2 q (sym x ∙ y)

    by_test : (c : Bool) → ((a == long_type) || (b == long_type)) ≡ c → (cond c 2 1 == t) ≡ true → IsAt s.types t v
    by_test true c e =
        subst (λ m. IsAt s.types m v) (eqb-true 2 t e) (at-the-type s.types 2 ty.Long v h.long_is (long-IsOf (slice_get s.types.types n) v i va))
    by_test false c e =
        let parts = or_parts (a == long_type) (b == long_type) c in
        subst (λ m. IsAt s.types m v) (eqb-true 1 t e)
        (at-the-type s.types 1 ty.Int v h.int_is (int-IsOf (slice_get s.types.types n) v (λ is. no-long one (parts.0) (parts.1) (h.long_place n is)) i va))

-- an arm of `?:` gives a value of the type of the whole
choice-Widens : (s : Scope) → HasScalars s.types → (t a b n : ℕ) → is_choice s t a b ≡ true → (n ≡ a) ⊎ (n ≡ b) → Widens s (Of n) (Of t)
choice-Widens s h t a b n c one v va =
    by_case (or_cases (is_integer s a && is_integer s b && (common a b == t)) (is_pointer s t && (a == t) && (b == t)) c)
  where
    integer : (n ≡ a) ⊎ (n ≡ b) → is_integer s a ≡ true → is_integer s b ≡ true → is_integer s n ≡ true
    integer (inl x) i j = subst (λ m. is_integer s m ≡ true) (sym x) i
    integer (inr x) i j = subst (λ m. is_integer s m ≡ true) (sym x) j

    same : (n ≡ a) ⊎ (n ≡ b) → a ≡ t → b ≡ t → n ≡ t
    same (inl x) p q = x ∙ p
    same (inr x) p q = x ∙ q

    by_case : ((is_integer s a && is_integer s b && (common a b == t)) ≡ true) ⊎ ((is_pointer s t && (a == t) && (b == t)) ≡ true) → IsAt s.types t v
    by_case (inl e) =
        let parts = and_parts (is_integer s a && is_integer s b) (common a b == t) e in
        let both = and_parts (is_integer s a) (is_integer s b) (parts.0) in
        common-IsAt s h a b t n v one (integer one (both.0) (both.1)) (parts.1) va
    by_case (inr e) =
        let parts = and_parts (is_pointer s t && (a == t)) (b == t) e in
        let both = and_parts (is_pointer s t) (a == t) (parts.0) in
        subst (λ m. IsAt s.types m v) (same one (eqb-true a t (both.1)) (eqb-true b t (parts.1))) va

-- ---- quiet steps

module _ (s : Version) (program : IsProgram s.program) (scalars : HasScalars s.program.types) (x : Context) (f : Function) (c : IsContext s.program x f) where
  abbrev scope : Scope
  scope = scope_of s.program f

  goes-Keeps : (w : Work) → Stands scope f.result w → Keeps s.program (goes x w)
  goes-Keeps w h = at-IsThread s.program x f w c h

  ticks-Keeps : (w : Work) → Stands scope f.result w → Keeps s.program (ticks x w)
  ticks-Keeps w h = (tt, λ reply tells. at-IsThread s.program x f w c h)

  gives-Keeps : (k : Kind) (w : Work) (r : Result Value Trap) → ((v : Value) → r ≡ Ok v → IsKind s.program.types k v) → Accepts scope f.result k w →
      Keeps s.program (gives x w r)
  gives-Keeps k w (Ok v) h t = goes-Keeps (Have v ∷ w) (t.0, t.1 v (h v refl), t.2)
  gives-Keeps k w (Err e) h t = tt

  tested-Keeps : (r : Result Bool Trap) (a b : Step Thread) → Keeps s.program a → Keeps s.program b → Keeps s.program (tested r a b)
  tested-Keeps (Ok true) a b h k = h
  tested-Keeps (Ok false) a b h k = k
  tested-Keeps (Err t) a b h k = tt

  -- ---- calls

  enter-IsThread : (g : ℕ) (fn : Function) (vs : List Value) (w : Work) → slice_get s.program.functions g ≡ Some fn →
      AreAt s.program.types (head_of fn).parameters vs → Accepts scope f.result (kind_of fn.result) w → IsThread s.program (enter g fn vs x w)
  enter-IsThread g fn vs w e a t =
      record {
        frames = (
          fn,
          record { function = e; locals = entry-AreIn s.program.types fn.locals fn.params vs a },
          ((all-at (IsFunction s.program) s.program.functions g fn program.functions e).body, tt),
          (f, c.call, t, c.below),
        );
        restart = c.restart;
      }

  call-Keeps : (g : ℕ) (o : Option Function) (ts : List ℕ) (vs : List Value) (w : Work) (k : Kind) → slice_get s.program.functions g ≡ o →
      AreAt s.program.types ts vs → call_kind (slice_get scope.functions g) (Some ts) ≡ Some k → Accepts scope f.result k w → Keeps s.program (call_step g o vs x w)
  call-Keeps g None ts vs w k e a h t = tt
  call-Keeps g (Some fn) ts vs w k e a h t = by_depth (nat_le 200 (open_frames x))
    where
      call : IfSo (same_types (head_of fn).parameters ts) (kind_of fn.result) k
      call = if-so (same_types (head_of fn).parameters ts) (kind_of fn.result) k
          (subst (λ o. call_kind o (Some ts) ≡ Some k) (get-map head_of s.program.functions g fn e) h)

      by_depth : (b : Bool) → Keeps s.program (cond b (Traps trap.Depth) (Acts act.Tick (λ reply. enter g fn vs x w)))
      by_depth true = tt
      by_depth false = (
        tt,
        λ reply tells. enter-IsThread g fn vs w e
            (subst (λ us. AreAt s.program.types us vs) (sym (same-types (head_of fn).parameters ts call.test)) a)
            (subst (λ m. Accepts scope f.result m w) (sym call.is) t),
      )

  -- ---- operands

  use-Keeps : (u : Use) (ts : List ℕ) (vs : List Value) (w : Work) (k : Kind) → AreAt s.program.types ts vs → use_kind scope u ts ≡ Some k →
      Accepts scope f.result k w → Keeps s.program (use_step s u vs x w)
  use-Keeps (Operates op t) ts vs w k a h n =
      let so = if-so (is_operation scope op t ts) (Of t) k h in
      gives-Keeps k w (apply_operation s.program.types op t vs)
      (λ v e. subst (λ m. IsKind s.program.types m v) so.is (operation-typed scope scalars t ts vs v a op so.test e)) n
  use-Keeps (Asks r t) ts vs w k a h n =
      let so = if-so (is_request scope r t ts) (kind_of t) k h in
      request-Keeps s scalars x f c w ts vs a r t so.test (subst (λ m. Accepts scope f.result m w) (sym so.is) n)
  use-Keeps (Enters g) ts vs w k a h n = call-Keeps g (slice_get s.program.functions g) ts vs w k refl a h n

  -- values and types, both the latest first
  onto-AreAt : (ts us : List ℕ) (vs ws : List Value) → AreAt s.program.types ts vs → AreAt s.program.types us ws →
      AreAt s.program.types (reverse_aux ts us) (reverse_aux vs ws)
  onto-AreAt [] us [] ws a b = b
  onto-AreAt [] us (v ∷ vs) ws a b = absurd a
  onto-AreAt (t ∷ ts) us [] ws a b = absurd a
  onto-AreAt (t ∷ ts) us (v ∷ vs) ws a b = onto-AreAt ts (t ∷ us) vs (v ∷ ws) (a.1) (a.0, b)

  same-kind : (k : Kind) (w : Work) → Takes scope f.result k w → Accepts scope f.result k w
  same-kind k w t = (k, λ v h. h, t)

  -- an expression of a type, where work takes its value
  eval-Stands : (e : Expression) (t : ℕ) (w : Work) → HasType scope e t → Accepts scope f.result (Of t) w → Stands scope f.result (Eval e ∷ w)
  eval-Stands e t w h a = (Of t, value-kind (kind scope e) t h, a)

  operands-Keeps : (u : Use) (before rest : List ℕ) (vs : List Value) (es : Expressions) (w : Work) (k : Kind) → AreAt s.program.types before vs →
      types scope es ≡ Some rest → use_kind scope u (reverse_aux before rest) ≡ Some k → Accepts scope f.result k w → Keeps s.program (operands_step s u vs es x w)
  operands-Keeps u before rest vs NoMore w k a e h n =
      use-Keeps u (reverse before) (reverse vs) w k (onto-AreAt before [] vs [] a tt)
      (subst (λ ts. use_kind scope u (reverse_aux before ts) ≡ Some k) (sym (same_Some [] rest e)) h) n
  operands-Keeps u before rest vs (More e es) w k a t h n =
      let both = both-there (value_type (kind scope e)) (types scope es) rest t in
      let whole : use_kind scope u (reverse_aux before (both.first ∷ both.rest)) ≡ Some k = subst (λ ts. use_kind scope u (reverse_aux before ts) ≡ Some k) (sym both.is) h in
      goes-Keeps (Eval e ∷ Wait (Awaits u vs es) ∷ w)
      (eval-Stands e both.first (Wait (Awaits u vs es) ∷ w) both.first_is
      (same-kind (Of both.first) (Wait (Awaits u vs es) ∷ w)
      (k, record { before = before; rest = both.rest; values = a; operands = both.rest_is; whole = whole }, n)))

  used-Keeps : (u : Use) (es : Expressions) (w : Work) (k : Kind) → AreUsed scope u (types scope es) k → Accepts scope f.result k w → Keeps s.program (operands_step s u [] es x w)
  used-Keeps u es w k a n = operands-Keeps u [] a.operands [] es w k tt a.operands_are a.whole n

  accepts : (k m : Kind) (w : Work) → k ≡ m → Accepts scope f.result m w → Accepts scope f.result k w
  accepts k m w e a = subst (λ n. Accepts scope f.result n w) (sym e) a

  -- ---- expressions

  local-Keeps : (n : ℕ) (o : Option ℕ) (k : Kind) (w : Work) → slice_get scope.locals n ≡ o → option_map Of o ≡ Some k → Accepts scope f.result k w →
      Keeps s.program (gives x w (local_value x n))
  local-Keeps n None k w e h a = absurd (none-some k h)
  local-Keeps n (Some t) k w e h a =
      gives-Keeps (Of t) w (local_value x n)
      (λ v g. AreIn-get s.program.types (types_of f.locals) x.locals n t v c.call.locals e g)
      (accepts (Of t) k w (same_Some (Of t) k h) a)

  pub eval-Keeps : (e : Expression) (k : Kind) (w : Work) → kind scope e ≡ Some k → Accepts scope f.result k w → Keeps s.program (eval_step s e x w)
  eval-Keeps (Constant' cst t) k w h a =
      let so = if-so (is_constant scope cst t) (Of t) k h in
      let b = accepts (Of t) k w so.is a in
      goes-Keeps (Have (constant_value s.number cst) ∷ w) (b.0, b.1 (constant_value s.number cst) (constant-IsAt scope scalars s.number cst t so.test), b.2)
  eval-Keeps (LocalRead n) k w h a = local-Keeps n (slice_get scope.locals n) k w refl h a
  eval-Keeps (LocalSet n e) k w h a =
      let i = set-kind (slice_get scope.locals n) (value_type (kind scope e)) k h in
      goes-Keeps (Eval e ∷ Wait (Sets n) ∷ w)
      (eval-Stands e i.type (Wait (Sets n) ∷ w) i.value_is (same-kind (Of i.type) (Wait (Sets n) ∷ w) (i.local_is, accepts (Of i.type) k w i.is a)))
  eval-Keeps (LocalSwapped n e) k w h a =
      let i = set-kind (slice_get scope.locals n) (value_type (kind scope e)) k h in
      goes-Keeps (Eval e ∷ Wait (Swaps n) ∷ w)
      (eval-Stands e i.type (Wait (Swaps n) ∷ w) i.value_is (same-kind (Of i.type) (Wait (Swaps n) ∷ w) (i.local_is, accepts (Of i.type) k w i.is a)))
  eval-Keeps (Operated op t es) k w h a = used-Keeps (Operates op t) es w k (operation-used scope op t (types scope es) k h) a
  eval-Keeps (Requested r t es) k w h a = used-Keeps (Asks r t) es w k (request-used scope r t (types scope es) k h) a
  eval-Keeps (Modified op own t old p e) k w h a =
      let i = modified-kind scope own t (is_operation scope op own) (value_type (kind scope p)) (value_type (kind scope e)) k h in
      goes-Keeps (Eval p ∷ Wait (Fetches op own t old e) ∷ w)
      (eval-Stands p i.pointer (Wait (Fetches op own t old e) ∷ w) i.pointer_is
      (same-kind (Of i.pointer) (Wait (Fetches op own t old e) ∷ w) (i.operand, i.operand_is, i.change, accepts (Of t) k w i.is a)))
  eval-Keeps (Both d e) k w h a =
      let i = logical-kind scope (value_type (kind scope d)) (value_type (kind scope e)) k h in
      goes-Keeps (Eval d ∷ Wait (AndThen e) ∷ w)
      (eval-Stands d i.first (Wait (AndThen e) ∷ w) i.first_is
      (same-kind (Of i.first) (Wait (AndThen e) ∷ w) (i.second, i.second_is, i.conditions, accepts (Of 1) k w i.is a)))
  eval-Keeps (Either d e) k w h a =
      let i = logical-kind scope (value_type (kind scope d)) (value_type (kind scope e)) k h in
      goes-Keeps (Eval d ∷ Wait (OrElse e) ∷ w)
      (eval-Stands d i.first (Wait (OrElse e) ∷ w) i.first_is
      (same-kind (Of i.first) (Wait (OrElse e) ∷ w) (i.second, i.second_is, i.conditions, accepts (Of 1) k w i.is a)))
  eval-Keeps (Chosen test t d e) k w h a =
      let i = choice-kind scope t (value_type (kind scope test)) (value_type (kind scope d)) (value_type (kind scope e)) k h in
      goes-Keeps (Eval test ∷ Wait (Picks d e) ∷ w)
      (eval-Stands test i.test (Wait (Picks d e) ∷ w) i.test_is
      (same-kind (Of i.test) (Wait (Picks d e) ∷ w) (i.condition, t, i.first, i.second, i.first_is, i.second_is, i.choice, accepts (Of t) k w i.is a)))
  eval-Keeps (Called g es) k w h a = used-Keeps (Enters g) es w k (call-used scope g (types scope es) k h) a

-- ---- loops

-- the end of the innermost loop's body, and the work behind it
record Found (s : Scope) (r : Option ℕ) (to after : Work) : Type 0 where
  to_stands : Stands s r to
  after_stands : Stands s r after

mutual
  found-Stands : (s : Scope) (r : Option ℕ) (w : Work) → in_loop w ≡ true → Stands s r w → Found s r (to_loop w) (after_loop w)
  found-Stands s r [] h st = absurd (false≢true h)
  found-Stands s r (Eval e ∷ w) h st = found-Takes s r (st.2.0) w h (st.2.2)
  found-Stands s r (Have v ∷ w) h st = found-Takes s r (st.0) w h (st.2)
  found-Stands s r (Wait q ∷ w) h st = absurd st
  found-Stands s r (Do a ∷ w) h st = found-Stands s r w h (st.1)
  found-Stands s r (Run block ∷ w) h st = found-Stands s r w h (st.1)
  found-Stands s r (Next test step body ∷ w) h st = record { to_stands = st; after_stands = st.1 }
  found-Stands s r (Again body c ∷ w) h st = record { to_stands = st; after_stands = st.1 }

  found-Takes : (s : Scope) (r : Option ℕ) (k : Kind) (w : Work) → in_loop w ≡ true → Takes s r k w → Found s r (to_loop w) (after_loop w)
  found-Takes s r k [] h t = absurd t
  found-Takes s r k (Eval e ∷ w) h t = absurd t
  found-Takes s r k (Have v ∷ w) h t = absurd t
  found-Takes s r k (Do a ∷ w) h t = absurd t
  found-Takes s r k (Run block ∷ w) h t = absurd t
  found-Takes s r k (Next test step body ∷ w) h t = absurd t
  found-Takes s r k (Again body c ∷ w) h t = absurd t
  found-Takes s r k (Wait Drops ∷ w) h t = found-Stands s r w h t
  found-Takes s r (Of n) (Wait (Sets l) ∷ w) h t = found-Takes s r (t.1.0) w h (t.1.2)
  found-Takes s r (Of n) (Wait (Swaps l) ∷ w) h t = found-Takes s r (t.1.0) w h (t.1.2)
  found-Takes s r (Of n) (Wait (Awaits u vs es) ∷ w) h t = found-Takes s r (t.2.0) w h (t.2.2)
  found-Takes s r (Of n) (Wait (Fetches op own u old e) ∷ w) h t = found-Takes s r (t.3.0) w h (t.3.2)
  found-Takes s r (Of n) (Wait (Changes op own u old p v) ∷ w) h t = found-Takes s r (t.4.0) w h (t.4.2)
  found-Takes s r (Of n) (Wait (AndThen e) ∷ w) h t = found-Takes s r (t.3.0) w h (t.3.2)
  found-Takes s r (Of n) (Wait (OrElse e) ∷ w) h t = found-Takes s r (t.3.0) w h (t.3.2)
  found-Takes s r (Of n) (Wait Truths ∷ w) h t = found-Takes s r (t.1.0) w h (t.1.2)
  found-Takes s r (Of n) (Wait (Picks d e) ∷ w) h t = found-Takes s r (t.7.0) w h (t.7.2)
  found-Takes s r (Of n) (Wait (Branches a b) ∷ w) h t = found-Stands s r w h (t.3)
  found-Takes s r (Of n) (Wait (Loops test step body) ∷ w) h t = found-Stands s r w h (t.2)
  found-Takes s r (Of n) (Wait (Repeats body c) ∷ w) h t = found-Stands s r w h (t.2)
  found-Takes s r (Of n) (Wait Returns ∷ w) h t = found-Stands s r w h (t.1)
  found-Takes s r NoValue (Wait _ ∷ w) h t = absurd t

-- ---- statements

-- a condition has a type that is tested
record IsTested (s : Scope) (o : Option ℕ) : Type 0 where
  type : ℕ
  type_is : o ≡ Some type
  condition : IsCondition s type

tested-kind : (s : Scope) (o : Option ℕ) → is_scalar_kind s o ≡ true → IsTested s o
tested-kind s (Some t) h = record { type = t; type_is = refl; condition = h }
tested-kind s None h = absurd (false≢true h)

-- an expression that gives something, or nothing
record HasKind (o : Option Kind) : Type 0 where
  the : Kind
  is : o ≡ Some the

some-kind : (o : Option Kind) → is_some o ≡ true → HasKind o
some-kind (Some k) h = record { the = k; is = refl }
some-kind None h = absurd (false≢true h)

-- a number below the length has an element
record HasAt (ts : List ℕ) (n : ℕ) : Type 0 where
  type : ℕ
  is : slice_get ts n ≡ Some type

has-at : (ts : List ℕ) (n : ℕ) → n < length ts → HasAt ts n
has-at [] n h = absurd (omega arith)
has-at (t ∷ ts) zero h = record { type = t; is = refl }
has-at (t ∷ ts) (suc n) h = let later = has-at ts n (omega (arith, h)) in record { type = later.type; is = later.is }

module _ (s : Version) (program : IsProgram s.program) (scalars : HasScalars s.program.types) (x : Context) (f : Function) (c : IsContext s.program x f) where
  abbrev scope' : Scope
  scope' = scope_of s.program f

  quiet : (w : Work) → Stands scope' f.result w → Keeps s.program (goes x w)
  quiet w h = goes-Keeps s program scalars x f c w h

  ticking : (w : Work) → Stands scope' f.result w → Keeps s.program (ticks x w)
  ticking w h = ticks-Keeps s program scalars x f c w h

  -- a condition, which something waits for
  testing : (e : Expression) (q : Waiting) (w : Work) → is_condition scope' e ≡ true →
      ((t : ℕ) → IsCondition scope' t → Takes scope' f.result (Of t) (Wait q ∷ w)) → Keeps s.program (goes x (Eval e ∷ Wait q ∷ w))
  testing e q w h k =
      let i = tested-kind scope' (value_type (kind scope' e)) h in
      quiet (Eval e ∷ Wait q ∷ w) (Of i.type, value-kind (kind scope' e) i.type i.type_is, (Of i.type, λ v j. j, k i.type i.condition))

  -- an expression whose value is dropped
  dropping : (e : Expression) (w : Work) → is_some (kind scope' e) ≡ true → Stands scope' f.result w → Stands scope' f.result (Eval e ∷ Wait Drops ∷ w)
  dropping e w h st = let k = some-kind (kind scope' e) h in (k.the, k.is, (k.the, λ v j. j, st))

  loop-Keeps : (test step : Option Expression) (body : Statement) (w : Work) → fits scope' f.result (in_loop w) (Looped test step body) ≡ true →
      Stands scope' f.result w → Keeps s.program (loop_step test step body x w)
  loop-Keeps None step body w h st =
      let parts = and_parts (all_of (λ e. is_some (kind scope' e)) step) (fits scope' f.result true body) h in
      ticking (Do body ∷ Next None step body ∷ w) (parts.1, (h, st))
  loop-Keeps (Some e) step body w h st =
      let parts = and_parts (is_condition scope' e && all_of (λ e. is_some (kind scope' e)) step) (fits scope' f.result true body) h in
      let parts' = and_parts (is_condition scope' e) (all_of (λ e. is_some (kind scope' e)) step) (parts.0) in
      testing e (Loops (Some e) step body) w (parts'.0) (λ t i. (i, h, st))

  next-Keeps : (test step : Option Expression) (body : Statement) (w : Work) → fits scope' f.result (in_loop w) (Looped test step body) ≡ true →
      Stands scope' f.result w → Keeps s.program (next_step test step body x w)
  next-Keeps test None body w h st = quiet (Do (Looped test None body) ∷ w) (h, st)
  next-Keeps test (Some e) body w h st =
      let parts = and_parts (all_of (is_condition scope') test && is_some (kind scope' e)) (fits scope' f.result true body) h in
      let parts' = and_parts (all_of (is_condition scope') test) (is_some (kind scope' e)) (parts.0) in
      quiet (Eval e ∷ Wait Drops ∷ Do (Looped test (Some e) body) ∷ w) (dropping e (Do (Looped test (Some e) body) ∷ w) (parts'.1) (h, st))

  void-Keeps : (r : Option ℕ) → f.result ≡ r → fits_return scope' r None ≡ true → Keeps s.program (return_step s x Undef)
  void-Keeps None e h = return-Keeps s x f Undef c (subst (λ r. IsKind s.program.types (kind_of r) Undef) (sym e) tt)
  void-Keeps (Some t) e h = absurd (false≢true h)

  returned-Keeps : (e : Expression) (o : Option ℕ) (w : Work) → value_type (kind scope' e) ≡ o → is_result f.result o ≡ true → Stands scope' f.result w →
      Keeps s.program (goes x (Eval e ∷ Wait Returns ∷ w))
  returned-Keeps e (Some t) w h r st =
      quiet (Eval e ∷ Wait Returns ∷ w) (Of t, value-kind (kind scope' e) t h, (Of t, λ v j. j, (r, st)))
  returned-Keeps e None w h r st = no-result f.result r
    where
      no-result : (r : Option ℕ) → is_result r None ≡ true → Keeps s.program (goes x (Eval e ∷ Wait Returns ∷ w))
      no-result None r = absurd (false≢true r)
      no-result (Some t) r = absurd (false≢true r)

  pub begin-Keeps : (a : Statement) (w : Work) → fits scope' f.result (in_loop w) a ≡ true → Stands scope' f.result w → Keeps s.program (begin_step s a x w)
  begin-Keeps (Evaluated e) w h st = quiet (Eval e ∷ Wait Drops ∷ w) (dropping e w h st)
  begin-Keeps (Undefined n) w h st =
      let there = has-at scope'.locals n (grind (arith, nat_tests, h)) in
      at-IsThread s.program (with_local x n Undef) f w (set-IsContext s.program x f n there.type Undef c there.is (inl refl)) st
  begin-Keeps (Compound block) w h st = quiet (Run block ∷ w) (h, st)
  begin-Keeps (Conditional e a b) w h st =
      let parts = and_parts (is_condition scope' e && fits scope' f.result (in_loop w) a) (fits scope' f.result (in_loop w) b) h in
      let parts' = and_parts (is_condition scope' e) (fits scope' f.result (in_loop w) a) (parts.0) in
      testing e (Branches a b) w (parts'.0) (λ t i. (i, parts'.1, parts.1, st))
  begin-Keeps (Looped test step body) w h st = loop-Keeps test step body w h st
  begin-Keeps (Repeated body e) w h st =
      let parts = and_parts (fits scope' f.result true body) (is_condition scope' e) h in
      ticking (Do body ∷ Again body e ∷ w) (parts.0, (h, st))
  begin-Keeps (Returned None) w h st = void-Keeps f.result refl h
  begin-Keeps (Returned (Some e)) w h st = returned-Keeps e (value_type (kind scope' e)) w refl (result-of f.result h) st
    where
      result-of : (r : Option ℕ) → fits_return scope' r (Some e) ≡ true → is_result r (value_type (kind scope' e)) ≡ true
      result-of None h = h
      result-of (Some t) h = h
  begin-Keeps Broken w h st = quiet (after_loop w) (found-Stands scope' f.result w h st).after_stands
  begin-Keeps Continued w h st = quiet (to_loop w) (found-Stands scope' f.result w h st).to_stands

  -- ---- values

  have' : (k : Kind) (v : Value) (w : Work) → IsKind s.program.types k v → Accepts scope' f.result k w → Keeps s.program (goes x (Have v ∷ w))
  have' k v w i a = quiet (Have v ∷ w) (a.0, a.1 v i, a.2)

  have-truth : (b : Bool) (w : Work) → Accepts scope' f.result (Of int_type) w → Keeps s.program (goes x (Have (truth b) ∷ w))
  have-truth b w a = have' (Of int_type) (truth b) w (truth-IsAt s.program.types scalars b) a

  swap-Keeps : (n t : ℕ) (v : Value) (w : Work) (r : Result Value Trap) → local_value x n ≡ r → slice_get scope'.locals n ≡ Some t → IsAt s.program.types t v →
      Accepts scope' f.result (Of t) w → Keeps s.program (swap_step x n v w r)
  swap-Keeps n t v w (Ok old) e l i a =
      at-IsThread s.program (with_local x n v) f (Have old ∷ w) (set-IsContext s.program x f n t v c l (inr i))
      (a.0, a.1 old (AreIn-get s.program.types (types_of f.locals) x.locals n t old c.call.locals l e), a.2)
  swap-Keeps n t v w (Err u) e l i a = tt

  fetch-Keeps : (op : Operation) (own t : ℕ) (old : Bool) (e : Expression) (pointer b : ℕ) (p : Value) (w : Work) (o : Option Ty) → slice_get s.program.types.types t ≡ o →
      HasType scope' e b → IsChange scope' own t (is_operation scope' op own) pointer b → IsAt s.program.types pointer p → Accepts scope' f.result (Of t) w →
      Keeps s.program (fetch_step op own t old e p x w (load_act o p))
  fetch-Keeps op own t old e pointer b p w None eq h change i a = tt
  fetch-Keeps op own t old e pointer b p w (Some u) eq h change i a = (tt, λ reply tells. loaded reply tells)
    where
      loaded : (reply : Reply) → Tells (Some u) reply → IsThread s.program (at x (Eval e ∷ Wait (Changes op own t old p (told reply)) ∷ w))
      loaded Done g = absurd g
      loaded (Got v) g =
          at-IsThread s.program x f (Eval e ∷ Wait (Changes op own t old p v) ∷ w) c
          (Of b, value-kind (kind scope' e) b h, (Of b, λ y j. j, (pointer, i, subst (λ q. IsOf q v) (sym eq) g, change, a)))
      loaded (Trapped e') g = absurd g

  store-Keeps : (t : ℕ) (p new given : Value) (w : Work) (o : Option Ty) → slice_get s.program.types.types t ≡ o → IsAt s.program.types t new → IsAt s.program.types t given →
      Accepts scope' f.result (Of t) w → Keeps s.program (store_step given x w (store_act o p new))
  store-Keeps t p new given w None e i j a = tt
  store-Keeps t p new given w (Some u) e i j a =
      (subst (λ q. IsOf q new) e i, λ reply tells. at-IsThread s.program x f (Have given ∷ w) c (a.0, a.1 given j, a.2))

  old-or-new : (old : Bool) (t : ℕ) (before new : Value) → IsAt s.program.types t before → IsAt s.program.types t new → IsAt s.program.types t (if old then before else new)
  old-or-new true t before new i j = i
  old-or-new false t before new i j = j

  change-Keeps : (op : Operation) (own t pointer b : ℕ) (old : Bool) (p before v : Value) (w : Work) (r : Result Value Trap) → changed s.program.types op own t before v ≡ r →
      IsChange scope' own t (is_operation scope' op own) pointer b → IsAt s.program.types t before → IsAt s.program.types b v → Accepts scope' f.result (Of t) w →
      Keeps s.program (change_step s t old p before x w r)
  change-Keeps op own t pointer b old p before v w (Ok new) e change i j a =
      let typed = changed-typed scope' scalars op own t pointer b before v new change i j e in
      store-Keeps t p new (if old then before else new) w (slice_get s.program.types.types t) refl typed (old-or-new old t before new i typed) a
  change-Keeps op own t pointer b old p before v w (Err u) e change i j a = tt

  result-Keeps : (t : ℕ) (v : Value) → is_result f.result (Some t) ≡ true → IsAt s.program.types t v → Keeps s.program (return_step s x v)
  result-Keeps t v h i = return-Keeps s x f v c (by_result f.result h)
    where
      by_result : (r : Option ℕ) → is_result r (Some t) ≡ true → IsKind s.program.types (kind_of r) v
      by_result None h = absurd (false≢true h)
      by_result (Some u) h = subst (λ n. IsAt s.program.types n v) (sym (eqb-true u t h)) i

  arm : (d : Expression) (t a b n : ℕ) (w : Work) → HasType scope' d n → is_choice scope' t a b ≡ true → (n ≡ a) ⊎ (n ≡ b) → Accepts scope' f.result (Of t) w →
      Keeps s.program (goes x (Eval d ∷ w))
  arm d t a b n w h choice one k =
      quiet (Eval d ∷ w) (Of n, value-kind (kind scope' d) n h, (k.0, λ v j. k.1 v (choice-Widens scope' scalars t a b n choice one v j), k.2))

  second : (e : Expression) (b : ℕ) (w : Work) → HasType scope' e b → IsCondition scope' b → Accepts scope' f.result (Of int_type) w →
      Keeps s.program (goes x (Eval e ∷ Wait Truths ∷ w))
  second e b w h i a = quiet (Eval e ∷ Wait Truths ∷ w) (Of b, value-kind (kind scope' e) b h, (Of b, λ v j. j, (i, a)))

  testing-Keeps : (v : Value) (a b : Step Thread) → Keeps s.program a → Keeps s.program b → Keeps s.program (tested (zero_test v) a b)
  testing-Keeps v a b h k = tested-Keeps s program scalars x f c (zero_test v) a b h k

  take-Keeps : (k : Kind) (q : Waiting) (v : Value) (w : Work) → Takes scope' f.result k (Wait q ∷ w) → IsKind s.program.types k v → Keeps s.program (take_step s q v x w)
  take-Keeps k Drops v w t i = quiet w t
  take-Keeps (Of n) (Sets l) v w t i =
      at-IsThread s.program (with_local x l v) f (Have v ∷ w) (set-IsContext s.program x f l n v c (t.0) (inr i)) (t.1.0, t.1.1 v i, t.1.2)
  take-Keeps (Of n) (Swaps l) v w t i = swap-Keeps l n v w (local_value x l) refl (t.0) i (t.1)
  take-Keeps (Of n) (Awaits u vs es) v w t i =
      let o = t.1 in
      operands-Keeps s program scalars x f c u (n ∷ o.before) o.rest (v ∷ vs) es w (t.0) (i, o.values) o.operands o.whole (t.2)
  take-Keeps (Of n) (Fetches op own u old e) v w t i = fetch-Keeps op own u old e n (t.0) v w (slice_get s.program.types.types u) refl (t.1) (t.2) i (t.3)
  take-Keeps (Of n) (Changes op own u old p before) v w t i = change-Keeps op own u (t.0) n old p before v w (changed s.program.types op own u before v) refl (t.3) (t.2) i (t.4)
  take-Keeps (Of n) (AndThen e) v w t i = testing-Keeps v _ _ (have-truth false w (t.3)) (second e (t.0) w (t.1) (t.2.1) (t.3))
  take-Keeps (Of n) (OrElse e) v w t i = testing-Keeps v _ _ (second e (t.0) w (t.1) (t.2.1) (t.3)) (have-truth true w (t.3))
  take-Keeps (Of n) Truths v w t i = testing-Keeps v _ _ (have-truth false w (t.1)) (have-truth true w (t.1))
  take-Keeps (Of n) (Picks d e) v w t i =
      testing-Keeps v _ _ (arm e (t.1) (t.2) (t.3) (t.3) w (t.5) (t.6) (inr refl) (t.7)) (arm d (t.1) (t.2) (t.3) (t.2) w (t.4) (t.6) (inl refl) (t.7))
  take-Keeps (Of n) (Branches a b) v w t i = testing-Keeps v _ _ (quiet (Do b ∷ w) (t.2, t.3)) (quiet (Do a ∷ w) (t.1, t.3))
  take-Keeps (Of n) (Loops test step body) v w t i =
      let parts = and_parts (all_of (is_condition scope') test && all_of (λ e. is_some (kind scope' e)) step) (fits scope' f.result true body) (t.1) in
      testing-Keeps v _ _ (quiet w (t.2)) (ticking (Do body ∷ Next test step body ∷ w) (parts.1, (t.1, t.2)))
  take-Keeps (Of n) (Repeats body e) v w t i = testing-Keeps v _ _ (quiet w (t.2)) (quiet (Do (Repeated body e) ∷ w) (t.1, t.2))
  take-Keeps (Of n) Returns v w t i = result-Keeps n v (t.0) i
  take-Keeps NoValue (Sets l) v w t i = absurd t
  take-Keeps NoValue (Swaps l) v w t i = absurd t
  take-Keeps NoValue (Awaits u vs es) v w t i = absurd t
  take-Keeps NoValue (Fetches op own u old e) v w t i = absurd t
  take-Keeps NoValue (Changes op own u old p before) v w t i = absurd t
  take-Keeps NoValue (AndThen e) v w t i = absurd t
  take-Keeps NoValue (OrElse e) v w t i = absurd t
  take-Keeps NoValue Truths v w t i = absurd t
  take-Keeps NoValue (Picks d e) v w t i = absurd t
  take-Keeps NoValue (Branches a b) v w t i = absurd t
  take-Keeps NoValue (Loops test step body) v w t i = absurd t
  take-Keeps NoValue (Repeats body e) v w t i = absurd t
  take-Keeps NoValue Returns v w t i = absurd t

  have-Keeps : (k : Kind) (v : Value) (w : Work) → Takes scope' f.result k w → IsKind s.program.types k v → Keeps s.program (have_step s v x w)
  have-Keeps k v [] t i = absurd t
  have-Keeps k v (Eval e ∷ w) t i = absurd t
  have-Keeps k v (Have u ∷ w) t i = absurd t
  have-Keeps k v (Wait q ∷ w) t i = take-Keeps k q v w t i
  have-Keeps k v (Do a ∷ w) t i = absurd t
  have-Keeps k v (Run block ∷ w) t i = absurd t
  have-Keeps k v (Next test step body ∷ w) t i = absurd t
  have-Keeps k v (Again body e ∷ w) t i = absurd t

  -- ---- work

  pub work-Keeps : (w : Work) → Stands scope' f.result w → Keeps s.program (work_step s x w)
  work-Keeps [] st = end-Keeps s program scalars x f c
  work-Keeps (Eval e ∷ w) st = eval-Keeps s program scalars x f c e (st.0) w (st.1) (st.2)
  work-Keeps (Have v ∷ w) st = have-Keeps (st.0) v w (st.2) (st.1)
  work-Keeps (Wait q ∷ w) st = absurd st
  work-Keeps (Do a ∷ w) st = begin-Keeps a w (st.0) (st.1)
  work-Keeps (Run Finished ∷ w) st = quiet w (st.1)
  work-Keeps (Run (Then a block) ∷ w) st =
      let parts = and_parts (fits scope' f.result (in_loop w) a) (all_fit scope' f.result (in_loop w) block) (st.0) in
      quiet (Do a ∷ Run block ∷ w) (parts.0, (parts.1, st.1))
  work-Keeps (Next test step body ∷ w) st = next-Keeps test step body w (st.0) (st.1)
  work-Keeps (Again body e ∷ w) st =
      let parts = and_parts (fits scope' f.result true body) (is_condition scope' e) (st.0) in
      testing e (Repeats body e) w (parts.1) (λ t i. (i, st.0, st.1))

-- ---- threads

frames-Keeps : (s : Version) → IsProgram s.program → (fs : List Frame) (r : Restart) → AreFrames s.program fs → IsRestart s.program r → Keeps s.program (frames_step s fs r)
frames-Keeps s h [] r a i = absurd a
frames-Keeps s h (g ∷ below) r a i =
    work-Keeps s h (scalars-HasScalars s.program.types h.scalars h.places) (record { function = g.function; locals = g.locals; below = below; restart = r }) (a.0)
    (record { call = a.1; below = a.3; restart = i }) g.work (a.2)

-- a thread at the entry of a function is one of the version
pub entry-IsThread : (p : Program) → IsProgram p → EntriesAreThreads p
entry-IsThread p h g f arguments r e a i =
    record {
      frames = (
        f,
        record { function = e; locals = entry-AreIn p.types f.locals f.params arguments a },
        ((all-at (IsFunction p) p.functions g f h.functions e).body, tt),
        tt,
      );
      restart = i;
    }

-- each step of a thread of a version leaves one
pub step-Keeps : (s : Version) → IsProgram s.program → (t : Thread) → IsThread s.program t → Keeps s.program (step s t)
step-Keeps s h t i = frames-Keeps s h t.frames t.restart i.frames i.restart

-- and so do quiet steps, and settling
pub Comes-IsThread : (s : Version) → IsProgram s.program → (k : ℕ) (t u : Thread) → IsThread s.program t → Comes (step s) k t u → IsThread s.program u
Comes-IsThread s h zero t u i e = subst (IsThread s.program) e i
Comes-IsThread s h (suc k) t u i e =
    Comes-IsThread s h k (e.0) u (subst (Keeps s.program) (e.1) (step-Keeps s h t i)) (e.2)

pub settle-IsThread : (s : Version) → IsProgram s.program → (t : Thread) → IsThread s.program t → IsThread s.program (settle s t)
settle-IsThread s h t i = let r = settle-settles s t in Comes-IsThread s h r.count t (settle s t) i r.comes
