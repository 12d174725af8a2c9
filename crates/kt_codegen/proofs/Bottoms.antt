-- The function at the bottom of a thread stays the same, and what it returns at last is nothing or an `int`.
use Rattle.std.specs.Prelude.{◌≡◌, ℕ, pos, negsuc, ◌^◌, nat_le, Bool, true, false, IsTrue, List, [], ◌∷◌, reverse, slice_get, Option, None, Some, Result, Ok, Err, if◌then◌else◌}
use Rattle.std.proofs.Common.{inl, inr, ◌∙◌, refl, sym, ap, subst, ℤ}
use Rattle.std.proofs.lemmas.Bool.{false≢true, and_parts, eqb-true}
use Rattle.std.proofs.lemmas.Option.{none-some, same_Some}
use Rattle.kt_types.specs.declared.kinds.Ty.TheVariants as ty
use Rattle.kt_types.specs.Table.{Table}
use Rattle.kt_mem.specs.declared.memory.Value.{Value}
use Rattle.kt_mem.specs.declared.memory.Value.TheVariants.{Num, Null, Ptr, Free, Held, Undef}
use Rattle.kt_mem.specs.declared.steps.Act.{Act}
use Rattle.kt_mem.specs.declared.steps.Reply.{Reply}
use Rattle.kt_mem.specs.declared.steps.Trap.{Trap}
use Rattle.kt_mem.specs.Arithmetic.{fits as holds}
use Rattle.kt_mem.specs.Comparisons.{zero_test}
use Rattle.kt_tree.specs.declared.expr.Operation.{Operation}
use Rattle.kt_tree.specs.declared.expr.Request.{Request}
use Rattle.kt_tree.specs.Kinds.{fits_in}
use Rattle.kt_tree.specs.Tree.{Expression, Constant', LocalRead, LocalSet, LocalSwapped, Operated, Requested, Modified, Both, Either, Chosen, Called, Expressions, NoMore, More, Statement, Evaluated, Undefined, Compound, Conditional, Looped, Repeated, Returned, Broken, Continued, Done, Then, Function}
use Rattle.kt_tree.specs.Typed.{Kind, NoValue, Of, kind_of, is_result, fits}
use Rattle.kt_tree.specs.Version.{IsProgram, scope_of}
use Rattle.kt_meaning.specs.Steps.{Step, Quiet, Acts, Traps, Ends}
use Rattle.kt_meaning.specs.Operations.{apply_operation, changed}
use Rattle.kt_meaning.specs.Requests.{act_of, load_act, store_act}
use Rattle.kt_meaning.specs.Values.{IsOf, IsAt, IsKind}
use Rattle.kt_meaning.specs.Thread.{Use, Operates, Asks, Enters, Waiting, Drops, Sets, Swaps, Awaits, Fetches, Changes, AndThen, OrElse, Truths, Picks, Branches, Loops, Repeats, Returns, Eval, Have, Wait, Do, Run, Next, Again, Work, Frame, Restart, Thread, Context, open_frames, local_value}
use Rattle.kt_meaning.specs.ThreadTypes.{in_loop, Takes, Stands, AreFrames, IsThread}
use Rattle.kt_meaning.specs.TreeSteps.{Version, gives, tested, function_at, last_value, last_step, return_to, return_step, is_main, end_value, returns_if, end_step, call_step, asks, use_step, operands_step, eval_step, loop_step, next_step, begin_step, swap_step, fetch_step, store_step, change_step, take_step, have_step, work_step, frames_step, step}
use Rattle.kt_meaning.proofs.OperationTypes.{HasScalars, scalars-HasScalars, truth-IsAt}
use Rattle.kt_code.specs.Settling.{is_last}
use Rattle.kt_pair.specs.VersionActs.{IsLastResult}
use Rattle.kt_codegen.proofs.Mains.{main-result}
use Rattle.kt_codegen.proofs.StatementTypes.{void-return}

-- the function of the last of these frames, the first one's being this
abbrev bottom : ℕ → List Frame → ℕ
bottom g [] = g
bottom g (f ∷ below) = bottom f.function below

-- the frames stand on one of this function
abbrev pub StandOn : ℕ → List Frame → Type 0
StandOn b [] = Unit {0}
StandOn b (f ∷ below) = bottom f.function below ≡ b

-- the step leaves frames that do, and what it ends with is nothing or an `int`
abbrev pub StaysOn : ℕ → Step Thread → Type 0
StaysOn b (Quiet t) = StandOn b t.frames
StaysOn b (Acts a go) = (reply : Reply) → StandOn b (go reply).frames
StaysOn b (Traps t) = Unit {0}
StaysOn b (Ends a) = IsTrue (is_last a)

-- a number of the last result's type is an `int`
number-fits : (n : ℤ) (bits : ℕ) → fits_in bits n ≡ holds (2 ^ bits) n
number-fits (pos n) bits = refl
number-fits (negsuc n) bits = refl

last-is-int : (types : Table) → HasScalars types → (t : ℕ) (n : ℤ) → IsLastResult (Some t) → IsAt types t (Num n) → fits_in 31 n ≡ true
last-is-int types scalars t n (inl e) i = absurd (none-some t (sym e))
last-is-int types scalars t n (inr e) i =
    let there : IsAt types 1 (Num n) = subst (λ u. IsAt types u (Num n)) (same_Some t 1 e) i in
    let within : IsOf (Some ty.Int) (Num n) = subst (λ o. IsOf o (Num n)) scalars.int_is there in
    number-fits n 31 ∙ (and_parts (holds (2 ^ 31) n) true within).0

module _ (s : Version) (b : ℕ) where
  gives-stays : (x : Context) (w : Work) (r : Result Value Trap) → bottom x.function x.below ≡ b → StaysOn b (gives x w r)
  gives-stays x w (Ok v) h = h
  gives-stays x w (Err t) h = tt

  tested-stays : (r : Result Bool Trap) (l m : Step Thread) → StaysOn b l → StaysOn b m → StaysOn b (tested r l m)
  tested-stays (Ok true) l m h k = h
  tested-stays (Ok false) l m h k = k
  tested-stays (Err t) l m h k = tt

  choice-stays : (deep : Bool) (l m : Step Thread) → StaysOn b l → StaysOn b m → StaysOn b (if deep then l else m)
  choice-stays true l m h k = h
  choice-stays false l m h k = k

  call-stays : (g : ℕ) (f : Option Function) (vs : List Value) (x : Context) (w : Work) → bottom x.function x.below ≡ b → StaysOn b (call_step g f vs x w)
  call-stays g None vs x w h = tt
  call-stays g (Some f) vs x w h = choice-stays (nat_le 200 (open_frames x)) _ _ tt (λ reply. h)

  asks-stays : (x : Context) (w : Work) (r : Request) (vs : List Value) (a : Result Act Trap) → bottom x.function x.below ≡ b → StaysOn b (asks x w r vs a)
  asks-stays x w r vs (Ok a) h = λ reply. h
  asks-stays x w r vs (Err t) h = tt

  use-stays : (u : Use) (vs : List Value) (x : Context) (w : Work) → bottom x.function x.below ≡ b → StaysOn b (use_step s u vs x w)
  use-stays (Operates op t) vs x w h = gives-stays x w (apply_operation s.program.types op t vs) h
  use-stays (Asks r t) vs x w h = asks-stays x w r vs (act_of s.program.types x.function r t vs) h
  use-stays (Enters g) vs x w h = call-stays g (function_at s g) vs x w h

  operands-stays : (u : Use) (vs : List Value) (es : Expressions) (x : Context) (w : Work) → bottom x.function x.below ≡ b → StaysOn b (operands_step s u vs es x w)
  operands-stays u vs NoMore x w h = use-stays u (reverse vs) x w h
  operands-stays u vs (More e es) x w h = h

  eval-stays : (e : Expression) (x : Context) (w : Work) → bottom x.function x.below ≡ b → StaysOn b (eval_step s e x w)
  eval-stays (Constant' c t) x w h = h
  eval-stays (LocalRead n) x w h = gives-stays x w (local_value x n) h
  eval-stays (LocalSet n e) x w h = h
  eval-stays (LocalSwapped n e) x w h = h
  eval-stays (Operated op t es) x w h = operands-stays (Operates op t) [] es x w h
  eval-stays (Requested r t es) x w h = operands-stays (Asks r t) [] es x w h
  eval-stays (Modified op own t old p e) x w h = h
  eval-stays (Both l m) x w h = h
  eval-stays (Either l m) x w h = h
  eval-stays (Chosen c t l m) x w h = h
  eval-stays (Called g es) x w h = operands-stays (Enters g) [] es x w h

  loop-stays : (test e : Option Expression) (body : Statement) (x : Context) (w : Work) → bottom x.function x.below ≡ b → StaysOn b (loop_step test e body x w)
  loop-stays None e body x w h = λ reply. h
  loop-stays (Some c) e body x w h = h

  next-stays : (test e : Option Expression) (body : Statement) (x : Context) (w : Work) → bottom x.function x.below ≡ b → StaysOn b (next_step test e body x w)
  next-stays test None body x w h = h
  next-stays test (Some e) body x w h = h

  swap-stays : (x : Context) (n : ℕ) (v : Value) (w : Work) (r : Result Value Trap) → bottom x.function x.below ≡ b → StaysOn b (swap_step x n v w r)
  swap-stays x n v w (Ok old) h = h
  swap-stays x n v w (Err t) h = tt

  fetch-stays : (op : Operation) (own t : ℕ) (old : Bool) (e : Expression) (p : Value) (x : Context) (w : Work) (a : Result Act Trap) → bottom x.function x.below ≡ b →
      StaysOn b (fetch_step op own t old e p x w a)
  fetch-stays op own t old e p x w (Ok a) h = λ reply. h
  fetch-stays op own t old e p x w (Err u) h = tt

  store-stays : (v : Value) (x : Context) (w : Work) (a : Result Act Trap) → bottom x.function x.below ≡ b → StaysOn b (store_step v x w a)
  store-stays v x w (Ok a) h = λ reply. h
  store-stays v x w (Err u) h = tt

  change-stays : (t : ℕ) (old : Bool) (p before : Value) (x : Context) (w : Work) (r : Result Value Trap) → bottom x.function x.below ≡ b → StaysOn b (change_step s t old p before x w r)
  change-stays t old p before x w (Ok v) h = store-stays (if old then before else v) x w (store_act (slice_get s.program.types.types t) p v) h
  change-stays t old p before x w (Err e) h = tt

  -- ---- what is returned

  -- the bottom function gives nothing or an `int`
  last-value-stays : HasScalars s.program.types → (o : Option ℕ) (v : Value) → IsLastResult o → IsKind s.program.types (kind_of o) v → StaysOn b (last_value o v)
  last-value-stays scalars None v last i = refl
  last-value-stays scalars (Some t) (Num z) last i = last-is-int s.program.types scalars t z last i
  last-value-stays scalars (Some t) Null last i = tt
  last-value-stays scalars (Some t) (Ptr n k) last i = tt
  last-value-stays scalars (Some t) Free last i = tt
  last-value-stays scalars (Some t) (Held k) last i = tt
  last-value-stays scalars (Some t) Undef last i = tt

module _ (s : Version) (program : IsProgram s.program) (b : ℕ) (k : Function) (bottom_is : function_at s b ≡ Some k) (last : IsLastResult k.result) where
  -- a value of the function's result type, or any where it has none
  abbrev IsGiven : ℕ → Value → Type 0
  IsGiven g v = (f : Function) → function_at s g ≡ Some f → IsKind s.program.types (kind_of f.result) v

  return-to-stays : (g : ℕ) (below : List Frame) (r : Restart) (v : Value) → bottom g below ≡ b → IsGiven g v → StaysOn b (return_to s g below r v)
  return-to-stays g [] r v h i =
      let there = ap (function_at s) h ∙ bottom_is in
      subst (λ o. StaysOn b (last_step o v)) (sym there)
      (last-value-stays s b (scalars-HasScalars s.program.types program.scalars program.places) k.result v last (i k there))
  return-to-stays g (f ∷ below) r v h i = h

  return-stays : (x : Context) (v : Value) → bottom x.function x.below ≡ b → IsGiven x.function v → StaysOn b (return_step s x v)
  return-stays x v h i = return-to-stays x.function x.below x.restart v h i

  -- the function of a context is this one
  module _ (x : Context) (f : Function) (is : function_at s x.function ≡ Some f) (h : bottom x.function x.below ≡ b) where
    given : (v : Value) → IsKind s.program.types (kind_of f.result) v → IsGiven x.function v
    given v i g e = subst (λ (m : Function). IsKind s.program.types (kind_of m.result) v) (same_Some f g (sym is ∙ e)) i

    void-stays : f.result ≡ None → StaysOn b (return_step s x Undef)
    void-stays e = return-stays x Undef h (given Undef (subst (λ o. IsKind s.program.types (kind_of o) Undef) (sym e) tt))

    value-stays : (t : ℕ) (v : Value) → is_result f.result (Some t) ≡ true → IsAt s.program.types t v → StaysOn b (return_step s x v)
    value-stays t v r i = return-stays x v h (given v (by_result f.result r))
      where
        by_result : (o : Option ℕ) → is_result o (Some t) ≡ true → IsKind s.program.types (kind_of o) v
        by_result None r = absurd (false≢true r)
        by_result (Some u) r = subst (λ n. IsAt s.program.types n v) (sym (eqb-true u t r)) i

    end-stays : StaysOn b (end_step s x (function_at s x.function))
    end-stays = subst (λ o. StaysOn b (end_step s x o)) (sym is) (by_test (is_main f) f.result refl refl)
      where
        by_test : (m : Bool) (r : Option ℕ) → is_main f ≡ m → f.result ≡ r → StaysOn b (returns_if s x (end_value m r))
        by_test true r m e =
            let scalars = scalars-HasScalars s.program.types program.scalars program.places in
            return-stays x (Num (pos 0)) h (given (Num (pos 0))
            (subst (λ o. IsKind s.program.types (kind_of o) (Num (pos 0))) (sym (main-result s.program program x.function f is m)) (truth-IsAt s.program.types scalars false)))
        by_test false None m e = void-stays e
        by_test false (Some t) m e = tt

    -- ---- work

    begin-stays : (l : Bool) (a : Statement) (w : Work) → fits (scope_of s.program f) f.result l a ≡ true → StaysOn b (begin_step s a x w)
    begin-stays l (Evaluated e) w fit = h
    begin-stays l (Undefined n) w fit = h
    begin-stays l (Compound block) w fit = h
    begin-stays l (Conditional e a c) w fit = h
    begin-stays l (Looped test e body) w fit = loop-stays s b test e body x w h
    begin-stays l (Repeated body e) w fit = λ reply. h
    begin-stays l (Returned None) w fit = void-stays (void-return (scope_of s.program f) f.result fit)
    begin-stays l (Returned (Some e)) w fit = h
    begin-stays l Broken w fit = h
    begin-stays l Continued w fit = h

    take-stays : (d : Kind) (q : Waiting) (v : Value) (w : Work) → Takes (scope_of s.program f) f.result d (Wait q ∷ w) → IsKind s.program.types d v → StaysOn b (take_step s q v x w)
    take-stays d Drops v w t i = h
    take-stays d (Sets n) v w t i = h
    take-stays d (Swaps n) v w t i = swap-stays s b x n v w (local_value x n) h
    take-stays d (Awaits u vs es) v w t i = operands-stays s b u (v ∷ vs) es x w h
    take-stays d (Fetches op own u old e) v w t i = fetch-stays s b op own u old e v x w (load_act (slice_get s.program.types.types u) v) h
    take-stays d (Changes op own u old p before) v w t i = change-stays s b u old p before x w (changed s.program.types op own u before v) h
    take-stays d (AndThen e) v w t i = tested-stays s b (zero_test v) _ _ h h
    take-stays d (OrElse e) v w t i = tested-stays s b (zero_test v) _ _ h h
    take-stays d Truths v w t i = tested-stays s b (zero_test v) _ _ h h
    take-stays d (Picks a c) v w t i = tested-stays s b (zero_test v) _ _ h h
    take-stays d (Branches a c) v w t i = tested-stays s b (zero_test v) _ _ h h
    take-stays d (Loops test e body) v w t i = tested-stays s b (zero_test v) _ _ h (λ reply. h)
    take-stays d (Repeats body e) v w t i = tested-stays s b (zero_test v) _ _ h h
    take-stays (Of u) Returns v w t i = value-stays u v (t.0) i
    take-stays NoValue Returns v w t i = absurd t

    have-stays : (d : Kind) (v : Value) (w : Work) → Takes (scope_of s.program f) f.result d w → IsKind s.program.types d v → StaysOn b (have_step s v x w)
    have-stays d v [] t i = absurd t
    have-stays d v (Eval e ∷ w) t i = absurd t
    have-stays d v (Have u ∷ w) t i = absurd t
    have-stays d v (Wait q ∷ w) t i = take-stays d q v w t i
    have-stays d v (Do a ∷ w) t i = absurd t
    have-stays d v (Run block ∷ w) t i = absurd t
    have-stays d v (Next test e body ∷ w) t i = absurd t
    have-stays d v (Again body e ∷ w) t i = absurd t

    work-stays : (w : Work) → Stands (scope_of s.program f) f.result w → StaysOn b (work_step s x w)
    work-stays [] st = end-stays
    work-stays (Eval e ∷ w) st = eval-stays s b e x w h
    work-stays (Have v ∷ w) st = have-stays (st.0) v w (st.2) (st.1)
    work-stays (Wait q ∷ w) st = absurd st
    work-stays (Do a ∷ w) st = begin-stays (in_loop w) a w (st.0)
    work-stays (Run Done ∷ w) st = h
    work-stays (Run (Then a block) ∷ w) st = h
    work-stays (Next test e body ∷ w) st = next-stays s b test e body x w h
    work-stays (Again body e ∷ w) st = h

  frames-stay : (fs : List Frame) (r : Restart) → AreFrames s.program fs → StandOn b fs → StaysOn b (frames_step s fs r)
  frames-stay [] r a h = tt
  frames-stay (g ∷ below) r a h =
      work-stays (record { function = g.function; locals = g.locals; below = below; restart = r }) (a.0) (a.1).function h g.work (a.2)

  -- each step of a thread of the version stays on the bottom function
  pub step-stays : (t : Thread) → IsThread s.program t → StandOn b t.frames → StaysOn b (step s t)
  step-stays t i h = frames-stay t.frames t.restart i.frames h
