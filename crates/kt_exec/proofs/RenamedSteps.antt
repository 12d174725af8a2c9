-- The step of a renamed thread is its renamed step, and it settles to the renamed settled thread.
use Rattle.std.specs.Prelude.{◌≡◌, ℕ, zero, suc, pos, ◌+◌, ◌-◌, nat_le, Bool, true, false, List, [], ◌∷◌, ◌++◌, length, reverse, take, drop, replicate, map, slice_get, Option, None, Some, Result, Ok, Err, if◌then◌else◌, refl}
use Rattle.std.proofs.Common.{sym, ap, subst, ◌∙◌}
use Rattle.std.proofs.lemmas.List.{map-set, map-append, length-map, take-map, drop-map, reverse-append}
use Rattle.kt_mem.specs.declared.memory.Value.{Value}
use Rattle.kt_mem.specs.declared.memory.Value.TheVariants.{Num, Null, Ptr, Free, Held, Undef}
use Rattle.kt_mem.specs.declared.steps.Act.{Act}
use Rattle.kt_mem.specs.declared.steps.Act.TheVariants as act
use Rattle.kt_mem.specs.declared.steps.Reply.{Reply}
use Rattle.kt_mem.specs.declared.steps.Reply.TheVariants.{Done, Got, Trapped}
use Rattle.kt_mem.specs.declared.steps.Trap.{Trap}
use Rattle.kt_mem.specs.declared.steps.Trap.TheVariants as trap
use Rattle.kt_mem.specs.Arithmetic.{moved, sum_of, difference_of, product_of, quotient_of, remainder_of, narrowed}
use Rattle.kt_mem.specs.Comparisons.{zero_test, equal_value, not_equal_value, not_value, less_value, greater_value, less_equal_value, greater_equal_value}
use Rattle.kt_mem.specs.Elements.{element_before, elements_between}
use Rattle.kt_mem.specs.Values.{truth}
use Rattle.std.specs.Prelude.{int_lt, int_le}
use Rattle.kt_tree.specs.declared.expr.Request.{Request}
use Rattle.kt_meaning.specs.Operations.{element_sum}
use Rattle.kt_meaning.specs.Requests.{act_of, request_value, told}
use Rattle.kt_meaning.specs.Steps.{Step, Quiet, Acts, Traps, Ends, or_rest, settle_within, after_reply}
use Rattle.kt_meaning.specs.Thread.{defined_if}
use Rattle.kt_code.specs.Code.{Code}
use Rattle.kt_code.specs.Machine.{Here, stands, passes, goes_back, with_local, changed_by, goes, gives, tested, stuck, on_top, on_two, on_list, unary, binary, swaps, asks, entry_frame, enters, calls, main_returns, returns, leaves, do_one, instr_step, here, frames_step, step}
use Rattle.kt_code.specs.Requests.{operand_count, untyped}
use Rattle.kt_code.specs.Settling.{room, rooms, weight, settle, head_of}
use Rattle.kt_code.specs.declared.frame.Frame.{Frame}
use Rattle.kt_code.specs.declared.private.Private.{Private}
use Rattle.kt_code.specs.declared.private.Head.TheVariants as head
use Rattle.kt_code.specs.declared.instr.Instr.{Instr}
use Rattle.kt_code.specs.declared.instr.Instr.TheVariants as instr
use Rattle.kt_mem.specs.Renaming.{rename_value, rename_values}
use Rattle.kt_exec.specs.Renaming.{rename_frame, rename_frames, rename_private, rename_act, rename_reply, rename_head}
use Rattle.kt_exec.proofs.RenamedOperations.{Keeps, rename_result, zero_test-same, moved-renamed, sum-renamed, difference-renamed, product-renamed, quotient-renamed, remainder-renamed, narrowed-renamed, not-renamed, equal-renamed, not_equal-renamed, compared-renamed, before-renamed, element_sum-renamed, elements-renamed, local-renamed}
use Rattle.kt_exec.proofs.RenamedRequests.{rename_act_result, rename_here, act_of-renamed, changed_by-renamed, told-renamed, request_value-renamed}

-- the second step is the first one, renamed
abbrev pub IsRenamed : (ℕ → ℕ) → Step Private → Step Private → Type 0
IsRenamed f (Quiet p) (Quiet q) = q ≡ rename_private f p
IsRenamed f (Acts a go) (Acts b on) = (b ≡ rename_act f a) × ((r : Reply) → on (rename_reply f r) ≡ rename_private f (go r))
IsRenamed f (Traps t) (Traps u) = u ≡ t
IsRenamed f (Ends a) (Ends b) = b ≡ rename_act f a
IsRenamed f _ _ = ⊥

-- ---- lists

map-reverse : {X Y : Type 0} (g : X → Y) (xs : List X) → map g (reverse xs) ≡ reverse (map g xs)
map-reverse g [] = refl
map-reverse g (x ∷ xs) =
    ap (map g) (reverse-append (x ∷ []) xs)
    ∙ map-append g (reverse xs) (x ∷ [])
    ∙ ap (λ l. l ++ g x ∷ []) (map-reverse g xs)
    ∙ sym (reverse-append (g x ∷ []) (map g xs))

map-replicate : {X Y : Type 0} (g : X → Y) (n : ℕ) (x : X) → map g (replicate n x) ≡ replicate n (g x)
map-replicate g zero x = refl
map-replicate g (suc n) x = ap (λ l. g x ∷ l) (map-replicate g n x)

-- ---- the parts of a step

goes-renamed : (f : ℕ → ℕ) (x : Here) (ops : List Value) → IsRenamed f (goes x ops) (goes (rename_here f x) (rename_values f ops))
goes-renamed f x ops = refl

set-renamed : (f : ℕ → ℕ) (x : Here) (n : ℕ) (v : Value) (ops : List Value) →
    IsRenamed f (goes (with_local x n v) ops) (goes (with_local (rename_here f x) n (rename_value f v)) (rename_values f ops))
set-renamed f x n v ops =
    ap (λ vs. stands (record (rename_here f x) { locals = vs }) (rename_values f ops)) (sym (map-set (rename_value f) x.locals n v))

given-renamed : (f : ℕ → ℕ) (x : Here) (ops : List Value) (r : Result Value Trap) →
    IsRenamed f (gives x ops r) (gives (rename_here f x) (rename_values f ops) (rename_result f r))
given-renamed f x ops (Ok v) = refl
given-renamed f x ops (Err t) = refl

gives-renamed : (f : ℕ → ℕ) (x : Here) (ops : List Value) (r s : Result Value Trap) → s ≡ rename_result f r →
    IsRenamed f (gives x ops r) (gives (rename_here f x) (rename_values f ops) s)
gives-renamed f x ops r s e =
    subst (λ t. IsRenamed f (gives x ops r) (gives (rename_here f x) (rename_values f ops) t)) (sym e) (given-renamed f x ops r)

swapped-renamed : (f : ℕ → ℕ) (x : Here) (n : ℕ) (v : Value) (ops : List Value) (r : Result Value Trap) →
    IsRenamed f (swaps x n v ops r) (swaps (rename_here f x) n (rename_value f v) (rename_values f ops) (rename_result f r))
swapped-renamed f x n v ops (Ok old) = set-renamed f x n v (old ∷ ops)
swapped-renamed f x n v ops (Err t) = refl

swaps-renamed : (f : ℕ → ℕ) (x : Here) (n : ℕ) (v : Value) (ops : List Value) →
    IsRenamed f (swaps x n v ops (defined_if (slice_get x.locals n)))
    (swaps (rename_here f x) n (rename_value f v) (rename_values f ops) (defined_if (slice_get (rename_values f x.locals) n)))
swaps-renamed f x n v ops =
    subst (λ t. IsRenamed f (swaps x n v ops (defined_if (slice_get x.locals n))) (swaps (rename_here f x) n (rename_value f v) (rename_values f ops) t))
    (sym (local-renamed f x.locals n)) (swapped-renamed f x n v ops (defined_if (slice_get x.locals n)))

tested-same : (f : ℕ → ℕ) (r : Result Bool Trap) (a b c d : Step Private) → IsRenamed f a c → IsRenamed f b d →
    IsRenamed f (tested r a b) (tested r c d)
tested-same f (Ok true) a b c d h k = h
tested-same f (Ok false) a b c d h k = k
tested-same f (Err t) a b c d h k = refl

tested-renamed : (f : ℕ → ℕ) (v : Value) (a b c d : Step Private) → IsRenamed f a c → IsRenamed f b d →
    IsRenamed f (tested (zero_test v) a b) (tested (zero_test (rename_value f v)) c d)
tested-renamed f v a b c d h k =
    subst (λ t. IsRenamed f (tested (zero_test v) a b) (tested t c d)) (sym (zero_test-same f v)) (tested-same f (zero_test v) a b c d h k)

on_top-renamed : (f : ℕ → ℕ) (g h : Value → List Value → Step Private) (ops : List Value) →
    ((v : Value) (rest : List Value) → IsRenamed f (g v rest) (h (rename_value f v) (rename_values f rest))) →
    IsRenamed f (on_top g ops) (on_top h (rename_values f ops))
on_top-renamed f g h [] e = refl
on_top-renamed f g h (v ∷ ops) e = e v ops

on_two-renamed : (f : ℕ → ℕ) (g h : Value → Value → List Value → Step Private) (ops : List Value) →
    ((a b : Value) (rest : List Value) → IsRenamed f (g a b rest) (h (rename_value f a) (rename_value f b) (rename_values f rest))) →
    IsRenamed f (on_two g ops) (on_two h (rename_values f ops))
on_two-renamed f g h [] e = refl
on_two-renamed f g h (b ∷ []) e = refl
on_two-renamed f g h (b ∷ a ∷ ops) e = e a b ops

choice-renamed : (f : ℕ → ℕ) (b : Bool) (s u s' u' : Step Private) → IsRenamed f s s' → IsRenamed f u u' →
    IsRenamed f (if b then s else u) (if b then s' else u')
choice-renamed f true s u s' u' h k = h
choice-renamed f false s u s' u' h k = k

on_list-renamed : (f : ℕ → ℕ) (n : ℕ) (g h : List Value → List Value → Step Private) (ops : List Value) →
    ((vs rest : List Value) → IsRenamed f (g vs rest) (h (rename_values f vs) (rename_values f rest))) →
    IsRenamed f (on_list n g ops) (on_list n h (rename_values f ops))
on_list-renamed f n g h ops e =
    let r : Value → Value = rename_value f in
    let s : Step Private = g (reverse (take n ops)) (drop n ops) in
    let first = e (reverse (take n ops)) (drop n ops) in
    let vs : map r (reverse (take n ops)) ≡ reverse (take n (map r ops)) = map-reverse r (take n ops) ∙ ap reverse (sym (take-map r n ops)) in
    let second = subst (λ l. IsRenamed f s (h l (map r (drop n ops)))) vs first in
    let third = subst (λ l. IsRenamed f s (h (reverse (take n (map r ops))) l)) (sym (drop-map r n ops)) second in
    subst (λ k. IsRenamed f (on_list n g ops) (if nat_le n k then h (reverse (take n (map r ops))) (drop n (map r ops)) else stuck))
    (sym (length-map ops r))
    (choice-renamed f (nat_le n (length ops)) s stuck (h (reverse (take n (map r ops))) (drop n (map r ops))) stuck third refl)

unary-renamed : (f : ℕ → ℕ) (g : Value → Result Value Trap) (x : Here) (ops : List Value) →
    ((a : Value) → g (rename_value f a) ≡ rename_result f (g a)) → IsRenamed f (unary g x ops) (unary g (rename_here f x) (rename_values f ops))
unary-renamed f g x ops e =
    on_top-renamed f (λ a rest. gives x rest (g a)) (λ a rest. gives (rename_here f x) rest (g a)) ops
    (λ a rest. gives-renamed f x rest (g a) (g (rename_value f a)) (e a))

binary-renamed : (f : ℕ → ℕ) (g : Value → Value → Result Value Trap) (x : Here) (ops : List Value) →
    ((a b : Value) → g (rename_value f a) (rename_value f b) ≡ rename_result f (g a b)) →
    IsRenamed f (binary g x ops) (binary g (rename_here f x) (rename_values f ops))
binary-renamed f g x ops e =
    on_two-renamed f (λ a b rest. gives x rest (g a b)) (λ a b rest. gives (rename_here f x) rest (g a b)) ops
    (λ a b rest. gives-renamed f x rest (g a b) (g (rename_value f a) (rename_value f b)) (e a b))

tests-renamed : (f : ℕ → ℕ) (g h g' h' : List Value → Step Private) (ops : List Value) →
    ((rest : List Value) → IsRenamed f (g rest) (g' (rename_values f rest))) →
    ((rest : List Value) → IsRenamed f (h rest) (h' (rename_values f rest))) →
    IsRenamed f (on_top (λ v rest. tested (zero_test v) (g rest) (h rest)) ops)
    (on_top (λ v rest. tested (zero_test v) (g' rest) (h' rest)) (rename_values f ops))
tests-renamed f g h g' h' ops e k =
    on_top-renamed f (λ v rest. tested (zero_test v) (g rest) (h rest)) (λ v rest. tested (zero_test v) (g' rest) (h' rest)) ops
    (λ v rest. tested-renamed f v (g rest) (h rest) (g' (rename_values f rest)) (h' (rename_values f rest)) (e rest) (k rest))

-- ---- requests, calls and returns

asked-renamed : (f : ℕ → ℕ) (x : Here) (ops : List Value) (q : Request) (vs : List Value) (r : Result Act Trap) →
    IsRenamed f (asks x ops q vs r) (asks (rename_here f x) (rename_values f ops) q (rename_values f vs) (rename_act_result f r))
asked-renamed f x ops q vs (Ok a) = (
  refl,
  λ reply.
      ap (λ y. stands y (request_value x.function (rename_here f x).restart q (rename_values f vs) (told (rename_reply f reply)) ∷ rename_values f ops))
      (changed_by-renamed f a x)
      ∙ ap (λ v. stands (rename_here f (changed_by a x)) (v ∷ rename_values f ops))
      (ap (request_value x.function (rename_here f x).restart q (rename_values f vs)) (told-renamed f reply)
      ∙ request_value-renamed f x.function x.restart q vs (told reply)),
)
asked-renamed f x ops q vs (Err t) = refl

asks-renamed : (f : ℕ → ℕ) (x : Here) (ops : List Value) (q : Request) (vs : List Value) →
    IsRenamed f (asks x ops q vs (act_of untyped x.function q None vs))
    (asks (rename_here f x) (rename_values f ops) q (rename_values f vs) (act_of untyped x.function q None (rename_values f vs)))
asks-renamed f x ops q vs =
    subst (λ t. IsRenamed f (asks x ops q vs (act_of untyped x.function q None vs)) (asks (rename_here f x) (rename_values f ops) q (rename_values f vs) t))
    (sym (act_of-renamed f x.function q vs)) (asked-renamed f x ops q vs (act_of untyped x.function q None vs))

first-locals : (f : ℕ → ℕ) (locals : ℕ) (vs : List Value) →
    rename_values f vs ++ replicate (locals - length (rename_values f vs)) Undef ≡ rename_values f (vs ++ replicate (locals - length vs) Undef)
first-locals f locals vs =
    ap (λ k. rename_values f vs ++ replicate (locals - k) Undef) (length-map vs (rename_value f))
    ∙ ap (λ l. rename_values f vs ++ l) (sym (map-replicate (rename_value f) (locals - length vs) Undef))
    ∙ sym (map-append (rename_value f) vs (replicate (locals - length vs) Undef))

calls-renamed : (f : ℕ → ℕ) (x : Here) (g locals : ℕ) (at : Option ℕ) (vs ops : List Value) →
    IsRenamed f (calls x g locals at vs ops) (calls (rename_here f x) g locals at (rename_values f vs) (rename_values f ops))
calls-renamed f x g locals None vs ops = refl
calls-renamed f x g locals (Some at) vs ops =
    subst
    (λ k. IsRenamed f (calls x g locals (Some at) vs ops)
    (if nat_le 200 (suc k) then Traps trap.Depth
    else Acts act.Tick (λ reply. enters (rename_here f x) (rename_values f ops) (entry_frame g at locals (rename_values f vs)))))
    (sym (length-map x.below (rename_frame f)))
    (choice-renamed f (nat_le 200 (suc (length x.below))) (Traps trap.Depth) (Acts act.Tick (λ reply. enters x ops (entry_frame g at locals vs)))
    (Traps trap.Depth) (Acts act.Tick (λ reply. enters (rename_here f x) (rename_values f ops) (entry_frame g at locals (rename_values f vs))))
    refl
    (refl, λ reply. ap (λ l. enters (rename_here f x) (rename_values f ops) (record { function = g; at = at; locals = l })) (first-locals f locals vs)))

main_returns-renamed : (f : ℕ → ℕ) (v : Value) → IsRenamed f (main_returns v) (main_returns (rename_value f v))
main_returns-renamed f (Num n) = refl
main_returns-renamed f Null = refl
main_returns-renamed f (Ptr n k) = refl
main_returns-renamed f Free = refl
main_returns-renamed f (Held thread) = refl
main_returns-renamed f Undef = refl

returns-renamed : (f : ℕ → ℕ) (x : Here) (v : Value) (ops : List Value) (below : List Frame) →
    IsRenamed f (returns x v ops below) (returns (rename_here f x) (rename_value f v) (rename_values f ops) (rename_frames f below))
returns-renamed f x v ops [] = main_returns-renamed f v
returns-renamed f x v ops (y ∷ below) = refl

leaves-renamed : (f : ℕ → ℕ) (x : Here) (ops : List Value) (below : List Frame) →
    IsRenamed f (leaves x ops below) (leaves (rename_here f x) (rename_values f ops) (rename_frames f below))
leaves-renamed f x ops [] = refl
leaves-renamed f x ops (y ∷ below) = refl

-- ---- instructions

do_one-renamed : (f : ℕ → ℕ) → Keeps f → (entries : List ℕ) (i : Instr) (x : Here) (ops : List Value) →
    IsRenamed f (do_one entries i x ops) (do_one entries i (rename_here f x) (rename_values f ops))
do_one-renamed f k entries (instr.Number n) x ops = refl
do_one-renamed f k entries instr.Null x ops = refl
do_one-renamed f k entries (instr.Global g) x ops = refl
do_one-renamed f k entries (instr.Literal n) x ops = refl
do_one-renamed f k entries (instr.Read n) x ops = gives-renamed f x ops (defined_if (slice_get x.locals n)) (defined_if (slice_get (rename_values f x.locals) n)) (local-renamed f x.locals n)
do_one-renamed f k entries (instr.Set n) x ops =
    on_top-renamed f (λ v rest. goes (with_local x n v) (v ∷ rest)) (λ v rest. goes (with_local (rename_here f x) n v) (v ∷ rest)) ops
    (λ v rest. set-renamed f x n v (v ∷ rest))
do_one-renamed f k entries (instr.Swap n) x ops =
    on_top-renamed f (λ v rest. swaps x n v rest (defined_if (slice_get x.locals n)))
    (λ v rest. swaps (rename_here f x) n v rest (defined_if (slice_get (rename_values f x.locals) n))) ops
    (λ v rest. swaps-renamed f x n v rest)
do_one-renamed f k entries (instr.Undefine n) x ops = set-renamed f x n Undef ops
do_one-renamed f k entries instr.Discard x ops = on_top-renamed f (λ v rest. goes x rest) (λ v rest. goes (rename_here f x) rest) ops (λ v rest. refl)
do_one-renamed f k entries instr.Duplicate x ops =
    on_top-renamed f (λ v rest. goes x (v ∷ v ∷ rest)) (λ v rest. goes (rename_here f x) (v ∷ v ∷ rest)) ops (λ v rest. refl)
do_one-renamed f k entries (instr.Add t) x ops = binary-renamed f (sum_of t) x ops (sum-renamed f t)
do_one-renamed f k entries (instr.Subtract t) x ops = binary-renamed f (difference_of t) x ops (difference-renamed f k t)
do_one-renamed f k entries (instr.Multiply t) x ops = binary-renamed f (product_of t) x ops (product-renamed f t)
do_one-renamed f k entries (instr.Divide t) x ops = binary-renamed f (quotient_of t) x ops (quotient-renamed f t)
do_one-renamed f k entries (instr.Remainder t) x ops = binary-renamed f (remainder_of t) x ops (remainder-renamed f t)
do_one-renamed f k entries (instr.Convert t) x ops = unary-renamed f (narrowed t) x ops (narrowed-renamed f t)
do_one-renamed f k entries instr.Less x ops = binary-renamed f less_value x ops (compared-renamed f k int_lt)
do_one-renamed f k entries instr.Greater x ops = binary-renamed f greater_value x ops (compared-renamed f k (λ x y. int_lt y x))
do_one-renamed f k entries instr.LessEqual x ops = binary-renamed f less_equal_value x ops (compared-renamed f k int_le)
do_one-renamed f k entries instr.GreaterEqual x ops = binary-renamed f greater_equal_value x ops (compared-renamed f k (λ x y. int_le y x))
do_one-renamed f k entries instr.Equal x ops = binary-renamed f equal_value x ops (equal-renamed f k)
do_one-renamed f k entries instr.NotEqual x ops = binary-renamed f not_equal_value x ops (not_equal-renamed f k)
do_one-renamed f k entries instr.Not x ops = unary-renamed f not_value x ops (not-renamed f)
do_one-renamed f k entries (instr.ElementAfter w) x ops = binary-renamed f (element_sum w) x ops (element_sum-renamed f w)
do_one-renamed f k entries (instr.ElementBefore w) x ops = binary-renamed f (λ p i. element_before p i w) x ops (λ p i. before-renamed f p i w)
do_one-renamed f k entries (instr.ElementsBetween w) x ops = binary-renamed f (λ p q. elements_between p q w) x ops (λ p q. elements-renamed f k p q w)
do_one-renamed f k entries (instr.Field n) x ops = unary-renamed f (λ p. moved p (pos n)) x ops (λ p. moved-renamed f p (pos n))
do_one-renamed f k entries (instr.Load t) x ops =
    on_top-renamed f (λ p rest. Acts (act.Load p t) (λ reply. stands x (told reply ∷ rest)))
    (λ p rest. Acts (act.Load p t) (λ reply. stands (rename_here f x) (told reply ∷ rest))) ops
    (λ p rest. (refl, λ reply. ap (λ v. stands (rename_here f x) (v ∷ rename_values f rest)) (told-renamed f reply)))
do_one-renamed f k entries (instr.Fetch t) x ops =
    on_top-renamed f (λ p rest. Acts (act.Load p t) (λ reply. stands x (told reply ∷ p ∷ rest)))
    (λ p rest. Acts (act.Load p t) (λ reply. stands (rename_here f x) (told reply ∷ p ∷ rest))) ops
    (λ p rest. (refl, λ reply. ap (λ v. stands (rename_here f x) (v ∷ rename_value f p ∷ rename_values f rest)) (told-renamed f reply)))
do_one-renamed f k entries (instr.Store t) x ops =
    on_two-renamed f (λ p v rest. Acts (act.Store p t v) (λ reply. stands x (v ∷ rest)))
    (λ p v rest. Acts (act.Store p t v) (λ reply. stands (rename_here f x) (v ∷ rest))) ops
    (λ p v rest. (refl, λ reply. refl))
do_one-renamed f k entries (instr.StoreOld t) x ops =
    on_top-renamed f (λ v more. on_two (λ p old rest. Acts (act.Store p t v) (λ reply. stands x (old ∷ rest))) more)
    (λ v more. on_two (λ p old rest. Acts (act.Store p t v) (λ reply. stands (rename_here f x) (old ∷ rest))) more) ops
    (λ v more.
    on_two-renamed f (λ p old rest. Acts (act.Store p t v) (λ reply. stands x (old ∷ rest)))
    (λ p old rest. Acts (act.Store p t (rename_value f v)) (λ reply. stands (rename_here f x) (old ∷ rest))) more
    (λ p old rest. (refl, λ reply. refl)))
do_one-renamed f k entries (instr.Ask q) x ops =
    on_list-renamed f (operand_count q) (λ vs rest. asks x rest q vs (act_of untyped x.function q None vs))
    (λ vs rest. asks (rename_here f x) rest q vs (act_of untyped x.function q None vs)) ops
    (λ vs rest. asks-renamed f x rest q vs)
do_one-renamed f k entries instr.Tick x ops = (refl, λ reply. refl)
do_one-renamed f k entries (instr.Call g arguments locals) x ops =
    on_list-renamed f arguments (λ vs rest. calls x g locals (slice_get entries g) vs rest)
    (λ vs rest. calls (rename_here f x) g locals (slice_get entries g) vs rest) ops
    (λ vs rest. calls-renamed f x g locals (slice_get entries g) vs rest)
do_one-renamed f k entries (instr.Skip n) x ops = refl
do_one-renamed f k entries (instr.SkipIfZero n) x ops =
    tests-renamed f (λ rest. goes (passes n x) rest) (λ rest. goes x rest)
    (λ rest. goes (passes n (rename_here f x)) rest) (λ rest. goes (rename_here f x) rest) ops (λ rest. refl) (λ rest. refl)
do_one-renamed f k entries (instr.And n) x ops =
    tests-renamed f (λ rest. goes (passes n x) (truth false ∷ rest)) (λ rest. goes x rest)
    (λ rest. goes (passes n (rename_here f x)) (truth false ∷ rest)) (λ rest. goes (rename_here f x) rest) ops (λ rest. refl) (λ rest. refl)
do_one-renamed f k entries (instr.Or n) x ops =
    tests-renamed f (λ rest. goes x rest) (λ rest. goes (passes n x) (truth true ∷ rest))
    (λ rest. goes (rename_here f x) rest) (λ rest. goes (passes n (rename_here f x)) (truth true ∷ rest)) ops (λ rest. refl) (λ rest. refl)
do_one-renamed f k entries instr.Truth x ops =
    tests-renamed f (λ rest. goes x (truth false ∷ rest)) (λ rest. goes x (truth true ∷ rest))
    (λ rest. goes (rename_here f x) (truth false ∷ rest)) (λ rest. goes (rename_here f x) (truth true ∷ rest)) ops (λ rest. refl) (λ rest. refl)
do_one-renamed f k entries (instr.Back n) x ops = refl
do_one-renamed f k entries (instr.BackIfNotZero n) x ops =
    tests-renamed f (λ rest. goes x rest) (λ rest. goes (goes_back n x) rest)
    (λ rest. goes (rename_here f x) rest) (λ rest. goes (goes_back n (rename_here f x)) rest) ops (λ rest. refl) (λ rest. refl)
do_one-renamed f k entries instr.Return x ops =
    on_top-renamed f (λ v rest. returns x v rest x.below) (λ v rest. returns (rename_here f x) v rest (rename_frames f x.below)) ops
    (λ v rest. returns-renamed f x v rest x.below)
do_one-renamed f k entries instr.Leave x ops = leaves-renamed f x ops x.below
do_one-renamed f k entries instr.NoValue x ops = refl

instr-renamed : (f : ℕ → ℕ) → Keeps f → (entries : List ℕ) (o : Option Instr) (x : Here) (ops : List Value) →
    IsRenamed f (instr_step entries o x ops) (instr_step entries o (rename_here f x) (rename_values f ops))
instr-renamed f k entries None x ops = refl
instr-renamed f k entries (Some i) x ops = do_one-renamed f k entries i x ops

frames-renamed : (f : ℕ → ℕ) → Keeps f → (instrs : List Instr) (entries : List ℕ) (p : Private) (xs : List Frame) →
    IsRenamed f (frames_step instrs entries p xs) (frames_step instrs entries (rename_private f p) (rename_frames f xs))
frames-renamed f k instrs entries p [] = refl
frames-renamed f k instrs entries p (x ∷ below) = instr-renamed f k entries (slice_get instrs x.at) (here p x below) p.operands

pub step-renamed : (f : ℕ → ℕ) → Keeps f → (c : Code) (p : Private) → IsRenamed f (step c p) (step c (rename_private f p))
step-renamed f k c p = frames-renamed f k c.instrs c.entries p p.frames

-- ---- settling

rooms-renamed : (f : ℕ → ℕ) (instrs : List Instr) (xs : List Frame) → rooms instrs (rename_frames f xs) ≡ rooms instrs xs
rooms-renamed f instrs [] = refl
rooms-renamed f instrs (x ∷ xs) = ap (λ n. room instrs x.at + n) (rooms-renamed f instrs xs)

rest-renamed : (f : ℕ → ℕ) (later : Private → Private) → ((y : Private) → later (rename_private f y) ≡ rename_private f (later y)) →
    (p : Private) (s u : Step Private) → IsRenamed f s u → or_rest later (rename_private f p) u ≡ rename_private f (or_rest later p s)
rest-renamed f later h p (Quiet y) (Quiet z) e = ap later e ∙ h y
rest-renamed f later h p (Quiet y) (Acts b on) e = absurd e
rest-renamed f later h p (Quiet y) (Traps u) e = absurd e
rest-renamed f later h p (Quiet y) (Ends b) e = absurd e
rest-renamed f later h p (Acts a go) (Quiet z) e = absurd e
rest-renamed f later h p (Acts a go) (Acts b on) e = refl
rest-renamed f later h p (Acts a go) (Traps u) e = absurd e
rest-renamed f later h p (Acts a go) (Ends b) e = absurd e
rest-renamed f later h p (Traps t) (Quiet z) e = absurd e
rest-renamed f later h p (Traps t) (Acts b on) e = absurd e
rest-renamed f later h p (Traps t) (Traps u) e = refl
rest-renamed f later h p (Traps t) (Ends b) e = absurd e
rest-renamed f later h p (Ends a) (Quiet z) e = absurd e
rest-renamed f later h p (Ends a) (Acts b on) e = absurd e
rest-renamed f later h p (Ends a) (Traps u) e = absurd e
rest-renamed f later h p (Ends a) (Ends b) e = refl

within-renamed : (f : ℕ → ℕ) → Keeps f → (c : Code) (n : ℕ) (p : Private) →
    settle_within (step c) n (rename_private f p) ≡ rename_private f (settle_within (step c) n p)
within-renamed f k c zero p = refl
within-renamed f k c (suc n) p =
    rest-renamed f (settle_within (step c) n) (λ y. within-renamed f k c n y) p (step c p) (step c (rename_private f p)) (step-renamed f k c p)

pub settle-renamed : (f : ℕ → ℕ) → Keeps f → (c : Code) (p : Private) → settle c (rename_private f p) ≡ rename_private f (settle c p)
unfolding settle
settle-renamed f k c p =
    ap (λ n. settle_within (step c) n (rename_private f p)) (rooms-renamed f c.instrs p.frames) ∙ within-renamed f k c (weight c p) p

-- ---- heads and replies

heads-renamed : (f : ℕ → ℕ) (s u : Step Private) → IsRenamed f s u → head_of u ≡ rename_head f (head_of s)
heads-renamed f (Quiet y) (Quiet z) e = refl
heads-renamed f (Quiet y) (Acts b on) e = absurd e
heads-renamed f (Quiet y) (Traps u) e = absurd e
heads-renamed f (Quiet y) (Ends b) e = absurd e
heads-renamed f (Acts a go) (Quiet z) e = absurd e
heads-renamed f (Acts a go) (Acts b on) e = ap (λ a. Some (head.Act a)) (e.0)
heads-renamed f (Acts a go) (Traps u) e = absurd e
heads-renamed f (Acts a go) (Ends b) e = absurd e
heads-renamed f (Traps t) (Quiet z) e = absurd e
heads-renamed f (Traps t) (Acts b on) e = absurd e
heads-renamed f (Traps t) (Traps u) e = ap (λ t. Some (head.Trap t)) e
heads-renamed f (Traps t) (Ends b) e = absurd e
heads-renamed f (Ends a) (Quiet z) e = absurd e
heads-renamed f (Ends a) (Acts b on) e = absurd e
heads-renamed f (Ends a) (Traps u) e = absurd e
heads-renamed f (Ends a) (Ends b) e = ap (λ a. Some (head.Act a)) e

pub head-renamed : (f : ℕ → ℕ) → Keeps f → (c : Code) (p : Private) →
    head_of (step c (rename_private f p)) ≡ rename_head f (head_of (step c p))
head-renamed f k c p = heads-renamed f (step c p) (step c (rename_private f p)) (step-renamed f k c p)

replies-renamed : (f : ℕ → ℕ) (p : Private) (r : Reply) (s u : Step Private) → IsRenamed f s u →
    after_reply (rename_private f p) u (rename_reply f r) ≡ rename_private f (after_reply p s r)
replies-renamed f p r (Quiet y) (Quiet z) e = refl
replies-renamed f p r (Quiet y) (Acts b on) e = absurd e
replies-renamed f p r (Quiet y) (Traps u) e = absurd e
replies-renamed f p r (Quiet y) (Ends b) e = absurd e
replies-renamed f p r (Acts a go) (Quiet z) e = absurd e
replies-renamed f p Done (Acts a go) (Acts b on) e = e.1 Done
replies-renamed f p (Got v) (Acts a go) (Acts b on) e = e.1 (Got v)
replies-renamed f p (Trapped t) (Acts a go) (Acts b on) e = refl
replies-renamed f p r (Acts a go) (Traps u) e = absurd e
replies-renamed f p r (Acts a go) (Ends b) e = absurd e
replies-renamed f p r (Traps t) (Quiet z) e = absurd e
replies-renamed f p r (Traps t) (Acts b on) e = absurd e
replies-renamed f p r (Traps t) (Traps u) e = refl
replies-renamed f p r (Traps t) (Ends b) e = absurd e
replies-renamed f p r (Ends a) (Quiet z) e = absurd e
replies-renamed f p r (Ends a) (Acts b on) e = absurd e
replies-renamed f p r (Ends a) (Traps u) e = absurd e
replies-renamed f p r (Ends a) (Ends b) e = refl

pub reply-renamed : (f : ℕ → ℕ) → Keeps f → (c : Code) (p : Private) (r : Reply) →
    after_reply (rename_private f p) (step c (rename_private f p)) (rename_reply f r) ≡ rename_private f (after_reply p (step c p) r)
reply-renamed f k c p r = replies-renamed f p r (step c p) (step c (rename_private f p)) (step-renamed f k c p)
