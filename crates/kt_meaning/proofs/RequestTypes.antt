-- Requests of a thread of a version keep it one: the act's value is of the type that the typed tree tells.
use Rattle.std.proofs.Common.{◌≡◌, ℕ, ℤ, pos, negsuc, ◌-◌, ◌%◌, ◌^◌, ◌<◌, ◌==◌, ◌&&◌, ◌∙◌, sym, subst, true, false, Bool, not, nat_lt, mod-lt, List, [], ◌∷◌, length, slice_get, Option, Some, None, Result, Ok, Err, refl, arith}
use Rattle.std.specs.Option.{is_some}
use Rattle.std.proofs.lemmas.Bool.{false≢true, and_parts, eqb-true}
use Rattle.std.proofs.lemmas.Bool.Decides.{nat_tests}
use Rattle.kt_types.specs.declared.kinds.Ty.{Ty}
use Rattle.kt_types.specs.declared.kinds.Ty.TheVariants as ty
use Rattle.kt_types.specs.Table.{Table}
use Rattle.kt_mem.specs.declared.memory.Value.{Value}
use Rattle.kt_mem.specs.declared.memory.Value.TheVariants.{Num, Null, Ptr, Free, Held, Undef}
use Rattle.kt_mem.specs.declared.steps.Act.{Act}
use Rattle.kt_mem.specs.declared.steps.Act.TheVariants as act
use Rattle.kt_mem.specs.declared.steps.Piece.{Piece}
use Rattle.kt_mem.specs.declared.steps.Piece.TheVariants as piece
use Rattle.kt_mem.specs.declared.steps.Reply.{Reply}
use Rattle.kt_mem.specs.declared.steps.Reply.TheVariants.{Done, Got, Trapped}
use Rattle.kt_mem.specs.declared.steps.Trap.{Trap}
use Rattle.kt_mem.specs.Values.{truth}
use Rattle.kt_tree.specs.declared.expr.Part.{Part as Format}
use Rattle.kt_tree.specs.declared.expr.Request.{Request}
use Rattle.kt_tree.specs.declared.expr.Request.TheVariants as request
use Rattle.kt_tree.specs.Kinds.{Scope, int_type, is_integer, is_scalar, points_to, is_complete, is_array_type, type_at, is_request, is_entry, takes}
use Rattle.kt_tree.specs.Tree.{Function}
use Rattle.kt_tree.specs.Typed.{Kind, NoValue, Of, kind_of}
use Rattle.kt_tree.specs.Version.{head_of, scope_of}
use Rattle.kt_meaning.specs.Values.{is_of, IsOf, IsAt, AreAt, IsKind}
use Rattle.kt_meaning.proofs.OperationTypes.{HasScalars, and-true, IsUnary, IsBinary, IsPointer, pointer-of, number-at, truth-IsAt}
use Rattle.kt_meaning.specs.Requests.{byte_of, pieces, printed, load_act, store_act, act_of, given_type, Tells, told, no_error, request_value}
use Rattle.kt_meaning.specs.Thread.{Context, Work, is_updating, is_updating_from, kept_value, context_after}
use Rattle.kt_meaning.specs.TreeSteps.{Version, asks}
use Rattle.kt_meaning.specs.ThreadTypes.{Accepts, IsEntry, IsTypedAct}
use Rattle.kt_meaning.proofs.StepTypes.{IsContext, at-IsThread, IsOwn, context_after-IsContext, get-map, get-map-none, Keeps}

-- ---- operands

never : (b : Bool) → b ≡ false → b ≡ true → ⊥
never b n h = false≢true (sym n ∙ h)

no-operand : (types : Table) (ts : List ℕ) (vs : List Value) (takes : List ℕ → Bool) (P : List Value → Type 0) →
    ((a : ℕ) (ts : List ℕ) → takes (a ∷ ts) ≡ false) → takes ts ≡ true → AreAt types ts vs → P [] → P vs
no-operand types [] [] takes P more h r p = p
no-operand types [] (v ∷ vs) takes P more h r p = absurd r
no-operand types (a ∷ ts) vs takes P more h r p = absurd (never _ (more a ts) h)

one-operand : (types : Table) (ts : List ℕ) (vs : List Value) (takes : List ℕ → Bool) (P : List Value → Type 0) → IsUnary takes →
    takes ts ≡ true → AreAt types ts vs → ((a : ℕ) (x : Value) → takes (a ∷ []) ≡ true → IsAt types a x → P (x ∷ [])) → P vs
one-operand types [] vs takes P u h r k = absurd (never _ u.none h)
one-operand types (a ∷ b ∷ ts) vs takes P u h r k = absurd (never _ (u.more a b ts) h)
one-operand types (a ∷ []) [] takes P u h r k = absurd r
one-operand types (a ∷ []) (x ∷ []) takes P u h r k = k a x h (r.0)
one-operand types (a ∷ []) (x ∷ y ∷ vs) takes P u h r k = absurd (r.1)

two-operands : (types : Table) (ts : List ℕ) (vs : List Value) (takes : List ℕ → Bool) (P : List Value → Type 0) → IsBinary takes →
    takes ts ≡ true → AreAt types ts vs →
    ((a b : ℕ) (x y : Value) → takes (a ∷ b ∷ []) ≡ true → IsAt types a x → IsAt types b y → P (x ∷ y ∷ [])) → P vs
two-operands types [] vs takes P u h r k = absurd (never _ u.none h)
two-operands types (a ∷ []) vs takes P u h r k = absurd (never _ (u.one a) h)
two-operands types (a ∷ b ∷ c ∷ ts) vs takes P u h r k = absurd (never _ (u.more a b c ts) h)
two-operands types (a ∷ b ∷ []) [] takes P u h r k = absurd r
two-operands types (a ∷ b ∷ []) (x ∷ []) takes P u h r k = absurd (r.1)
two-operands types (a ∷ b ∷ []) (x ∷ y ∷ []) takes P u h r k = k a b x y h (r.0) (r.1.0)
two-operands types (a ∷ b ∷ []) (x ∷ y ∷ z ∷ vs) takes P u h r k = absurd (r.1.1)

-- ---- values

-- a pointer is one of every pointer type
any-pointer : (e u : ℕ) (v : Value) → is_of (ty.Ptr e) v ≡ true → is_of (ty.Ptr u) v ≡ true
any-pointer e u (Num z) h = h
any-pointer e u Null h = h
any-pointer e u (Ptr n k) h = h
any-pointer e u Free h = h
any-pointer e u (Held k) h = h
any-pointer e u Undef h = h

pub small-int : (m : ℕ) → m < 256 → is_of ty.Int (Num (pos m)) ≡ true
small-int m h = let small : nat_lt m (2 ^ 31) ≡ true = grind (arith, nat_tests, h) in and-true (nat_lt m (2 ^ 31)) ∙ small

byte-small : (z : ℤ) → is_of ty.Int (Num (pos (byte_of z))) ≡ true
byte-small (pos n) = small-int (n % 256) (mod-lt n (omega arith))
byte-small (negsuc n) = small-int (255 - n % 256) (omega arith)

module _ (s : Version) (scalars : HasScalars s.program.types) (x : Context) (f : Function) (c : IsContext s.program x f) (w : Work) where
  abbrev types : Table
  types = s.program.types

  abbrev scope : Scope
  scope = scope_of s.program f

  -- an act whose value is of this kind
  asked-Keeps : (k : Kind) (a : Act) (r : Request) (vs : List Value) → IsTypedAct s.program a → IsOwn x.function a →
      ((reply : Reply) → Tells (given_type a) reply → IsKind types k (request_value x.function x.restart r vs (told reply))) →
      Accepts scope f.result k w → Keeps s.program (asks x w r vs (Ok a))
  asked-Keeps k a r vs typed own value t =
      (typed, λ reply tells. at-IsThread s.program (context_after a x) f _ (context_after-IsContext s.program x f a c own) (t.0, t.1 (request_value x.function x.restart r vs (told reply)) (value reply tells), t.2))

  module _ (ts : List ℕ) (vs : List Value) (are : AreAt types ts vs) where
    abbrev Kept : Request → Option ℕ → List Value → Type 0
    Kept r t vs = Keeps s.program (asks x w r vs (act_of types x.function r t vs))

    int-at : (t : ℕ) (v : Value) → (t == int_type) ≡ true → IsAt types 1 v → IsAt types t v
    int-at t v e h = subst (λ n. IsAt types n v) (sym (eqb-true t 1 e)) h

    -- what is loaded is of the cell's type
    load-Keeps : (t : ℕ) → is_request scope request.Load (Some t) ts ≡ true → Accepts scope f.result (Of t) w → Kept request.Load (Some t) vs
    load-Keeps t h k =
        one-operand types ts vs (is_request scope request.Load (Some t)) (Kept request.Load (Some t)) (record { none = refl; more = λ a b ts. refl }) h are
        (λ a p i r. by_type p (slice_get types.types t) refl)
      where
        by_type : (p : Value) (o : Option Ty) → slice_get types.types t ≡ o → Keeps s.program (asks x w request.Load (p ∷ []) (load_act o p))
        by_type p None e = tt
        by_type p (Some u) e = asked-Keeps (Of t) (act.Load p u) request.Load (p ∷ []) tt tt (λ reply tells. loaded reply tells) k
          where
            loaded : (reply : Reply) → Tells (Some u) reply → IsAt types t (told reply)
            loaded Done h = absurd h
            loaded (Got v) h = subst (λ o. IsOf o v) (sym e) h
            loaded (Trapped t) h = absurd h

    -- what is stored is of the cell's type, and is the value of the whole
    store-Keeps : (t : ℕ) → is_request scope request.Store (Some t) ts ≡ true → Accepts scope f.result (Of t) w → Kept request.Store (Some t) vs
    store-Keeps t h k =
        two-operands types ts vs (is_request scope request.Store (Some t)) (Kept request.Store (Some t)) (record { none = refl; one = λ a. refl; more = λ a b c ts. refl }) h are
        (λ a b p v i pa vb.
        let parts = and_parts (points_to scope a t && is_scalar scope t) (b == t) i in
        let there : IsAt types t v = subst (λ n. IsAt types n v) (eqb-true b t (parts.1)) vb in
        by_type p v there (slice_get types.types t) refl)
      where
        by_type : (p v : Value) → IsAt types t v → (o : Option Ty) → slice_get types.types t ≡ o → Keeps s.program (asks x w request.Store (p ∷ v ∷ []) (store_act o p v))
        by_type p v there None e = tt
        by_type p v there (Some u) e =
            asked-Keeps (Of t) (act.Store p u v) request.Store (p ∷ v ∷ []) (subst (λ o. IsOf o v) e there) tt (λ reply tells. there) k

    -- a new object's pointer
    allocate-Keeps : (e : ℕ) (zeros : Bool) (t : ℕ) → is_request scope (request.Allocate e zeros) (Some t) ts ≡ true → Accepts scope f.result (Of t) w →
        Kept (request.Allocate e zeros) (Some t) vs
    allocate-Keeps e zeros t h k =
        one-operand types ts vs (is_request scope (request.Allocate e zeros) (Some t)) (Kept (request.Allocate e zeros) (Some t)) (record { none = refl; more = λ a b ts. refl }) h are
        (λ a n i r.
        let parts = and_parts (is_integer scope a && points_to scope t e && is_complete scope e) (not (is_array_type (type_at scope e))) i in
        let parts' = and_parts (is_integer scope a && points_to scope t e) (is_complete scope e) (parts.0) in
        let parts'' = and_parts (is_integer scope a) (points_to scope t e) (parts'.0) in
        let number = number-at scope a n (parts''.0) r in
        subst (λ v. Kept (request.Allocate e zeros) (Some t) (v ∷ [])) (sym number.is) (at_number number.value (pointer-of (slice_get types.types t) e (parts''.1)) (parts'.1)))
      where
        at_number : (n : ℤ) → IsPointer (slice_get types.types t) → is_complete scope e ≡ true → Kept (request.Allocate e zeros) (Some t) (Num n ∷ [])
        at_number n p complete = asked-Keeps (Of t) (act.Allocate e n zeros) (request.Allocate e zeros) (Num n ∷ []) complete tt given k
          where
            given : (reply : Reply) → Tells (Some (ty.Ptr e)) reply → IsAt types t (told reply)
            given Done h = absurd h
            given (Got v) h = subst (λ o. IsOf o v) (sym p.is) (any-pointer e p.to v h)
            given (Trapped t) h = absurd h

    -- an act on one pointer that gives nothing, or an `int`
    release-Keeps : is_request scope request.Release None ts ≡ true → Accepts scope f.result NoValue w → Kept request.Release None vs
    release-Keeps h k =
        one-operand types ts vs (is_request scope request.Release None) (Kept request.Release None) (record { none = refl; more = λ a b ts. refl }) h are
        (λ a p i r. asked-Keeps NoValue (act.Release p) request.Release (p ∷ []) tt tt (λ reply tells. tt) k)

    zero-at : (t : ℕ) → (t == int_type) ≡ true → IsAt types t no_error
    zero-at t e = int-at t no_error e (truth-IsAt types scalars false)

    lock-Keeps : (t : ℕ) → is_request scope request.Lock (Some t) ts ≡ true → Accepts scope f.result (Of t) w → Kept request.Lock (Some t) vs
    lock-Keeps t h k =
        one-operand types ts vs (is_request scope request.Lock (Some t)) (Kept request.Lock (Some t)) (record { none = refl; more = λ a b ts. refl }) h are
        (λ a p i r. asked-Keeps (Of t) (act.Lock p) request.Lock (p ∷ []) tt tt (λ reply tells. zero-at t ((and_parts (points_to scope a 3) (t == int_type) i).1)) k)

    unlock-Keeps : (t : ℕ) → is_request scope request.Unlock (Some t) ts ≡ true → Accepts scope f.result (Of t) w → Kept request.Unlock (Some t) vs
    unlock-Keeps t h k =
        one-operand types ts vs (is_request scope request.Unlock (Some t)) (Kept request.Unlock (Some t)) (record { none = refl; more = λ a b ts. refl }) h are
        (λ a p i r. asked-Keeps (Of t) (act.Unlock p) request.Unlock (p ∷ []) tt tt (λ reply tells. zero-at t ((and_parts (points_to scope a 3) (t == int_type) i).1)) k)

    init-Keeps : (t : ℕ) → is_request scope request.InitMutex (Some t) ts ≡ true → Accepts scope f.result (Of t) w → Kept request.InitMutex (Some t) vs
    init-Keeps t h k =
        one-operand types ts vs (is_request scope request.InitMutex (Some t)) (Kept request.InitMutex (Some t)) (record { none = refl; more = λ a b ts. refl }) h are
        (λ a p i r. asked-Keeps (Of t) (act.InitMutex p) request.InitMutex (p ∷ []) tt tt (λ reply tells. zero-at t ((and_parts (points_to scope a 3) (t == int_type) i).1)) k)

    -- input and output: an `int` that the reply tells
    told-int : (t : ℕ) → (t == int_type) ≡ true → (reply : Reply) → Tells (Some ty.Int) reply → IsAt types t (told reply)
    told-int t e Done h = absurd h
    told-int t e (Got v) h = int-at t v e (subst (λ o. IsOf o v) (sym scalars.int_is) h)
    told-int t e (Trapped u) h = absurd h

    getchar-Keeps : (t : ℕ) → is_request scope request.GetChar (Some t) ts ≡ true → Accepts scope f.result (Of t) w → Kept request.GetChar (Some t) vs
    getchar-Keeps t h k =
        no-operand types ts vs (is_request scope request.GetChar (Some t)) (Kept request.GetChar (Some t)) (λ a ts. refl) h are
        (asked-Keeps (Of t) act.GetChar request.GetChar [] tt tt (told-int t (empty ts h)) k)
      where
        empty : (ts : List ℕ) → is_request scope request.GetChar (Some t) ts ≡ true → (t == int_type) ≡ true
        empty [] h = h
        empty (a ∷ ts) h = absurd (false≢true h)

    putchar-Keeps : (t : ℕ) → is_request scope request.PutChar (Some t) ts ≡ true → Accepts scope f.result (Of t) w → Kept request.PutChar (Some t) vs
    putchar-Keeps t h k =
        one-operand types ts vs (is_request scope request.PutChar (Some t)) (Kept request.PutChar (Some t)) (record { none = refl; more = λ a b ts. refl }) h are
        (λ a n i r.
        let parts = and_parts (is_integer scope a) (t == int_type) i in
        let number = number-at scope a n (parts.0) r in
        subst (λ v. Kept request.PutChar (Some t) (v ∷ [])) (sym number.is)
        (asked-Keeps (Of t) (act.Print (piece.Byte (byte_of number.value) ∷ [])) request.PutChar (Num number.value ∷ []) tt tt
        (λ reply tells. int-at t (Num (pos (byte_of number.value))) (parts.1) (subst (λ o. IsOf o (Num (pos (byte_of number.value)))) (sym scalars.int_is) (byte-small number.value))) k))

    puts-Keeps : (t : ℕ) → is_request scope request.Puts (Some t) ts ≡ true → Accepts scope f.result (Of t) w → Kept request.Puts (Some t) vs
    puts-Keeps t h k =
        one-operand types ts vs (is_request scope request.Puts (Some t)) (Kept request.Puts (Some t)) (record { none = refl; more = λ a b ts. refl }) h are
        (λ a p i r. asked-Keeps (Of t) (act.Print (piece.TextAt p ∷ piece.Bytes (10 ∷ []) ∷ [])) request.Puts (p ∷ []) tt tt (λ reply tells. zero-at t ((and_parts (points_to scope a 0) (t == int_type) i).1)) k)

    print-Keeps : (parts : List Format) (t : ℕ) → is_request scope (request.Print parts) (Some t) ts ≡ true → Accepts scope f.result (Of t) w → Kept (request.Print parts) (Some t) vs
    print-Keeps parts t h k = by_pieces (pieces parts vs)
      where
        by_pieces : (r : Result (List Piece) Trap) → Keeps s.program (asks x w (request.Print parts) vs (printed r))
        by_pieces (Ok ps) = asked-Keeps (Of t) (act.Print ps) (request.Print parts) vs tt tt (told-int t ((and_parts (takes scope parts ts) (t == int_type) h).1)) k
        by_pieces (Err e) = tt

    -- threads
    create-Keeps : (g t : ℕ) → is_request scope (request.Create g) (Some t) ts ≡ true → Accepts scope f.result (Of t) w → Kept (request.Create g) (Some t) vs
    create-Keeps g t h k =
        one-operand types ts vs (is_request scope (request.Create g) (Some t)) (Kept (request.Create g) (Some t)) (record { none = refl; more = λ a b ts. refl }) h are
        (λ a v i r.
        let parts = and_parts (is_entry (slice_get scope.functions g) a) (t == int_type) i in
        asked-Keeps (Of t) (act.Create g v) (request.Create g) (v ∷ []) (an_entry a v r (parts.0)) tt (told-int t (parts.1)) k)
      where
        by_function : (a : ℕ) (v : Value) (o : Option Function) → IsAt types a v → slice_get s.program.functions g ≡ o → is_entry (slice_get scope.functions g) a ≡ true → IsEntry s.program g v
        by_function a v None r e i = absurd (false≢true (subst (λ o. is_entry o a ≡ true) (get-map-none head_of s.program.functions g e) i))
        by_function a v (Some fn) r e i =
            record { function = fn; parameter = a; function_is = e; entry = subst (λ o. is_entry o a ≡ true) (get-map head_of s.program.functions g fn e) i; value = r }

        an_entry : (a : ℕ) (v : Value) → IsAt types a v → is_entry (slice_get scope.functions g) a ≡ true → IsEntry s.program g v
        an_entry a v r i = by_function a v (slice_get s.program.functions g) r refl i

    join-Keeps : (t : ℕ) → is_request scope request.Join (Some t) ts ≡ true → Accepts scope f.result (Of t) w → Kept request.Join (Some t) vs
    join-Keeps t h k =
        one-operand types ts vs (is_request scope request.Join (Some t)) (Kept request.Join (Some t)) (record { none = refl; more = λ a b ts. refl }) h are
        (λ a n i r.
        let parts = and_parts (is_integer scope a) (t == int_type) i in
        let number = number-at scope a n (parts.0) r in
        subst (λ v. Kept request.Join (Some t) (v ∷ [])) (sym number.is)
        (asked-Keeps (Of t) (act.Join number.value) request.Join (Num number.value ∷ []) tt tt (λ reply tells. zero-at t (parts.1)) k))

    -- updates
    point-Keeps : (n : ℕ) → is_request scope (request.Point n) None ts ≡ true → Accepts scope f.result NoValue w → Kept (request.Point n) None vs
    point-Keeps n h k =
        no-operand types ts vs (is_request scope (request.Point n) None) (Kept (request.Point n) None) (λ a ts. refl) h are
        (asked-Keeps NoValue (act.Point n) (request.Point n) [] tt tt (λ reply tells. tt) k)

    automigrate-Keeps : is_request scope request.Automigrate None ts ≡ true → Accepts scope f.result NoValue w → Kept request.Automigrate None vs
    automigrate-Keeps h k =
        no-operand types ts vs (is_request scope request.Automigrate None) (Kept request.Automigrate None) (λ a ts. refl) h are
        (asked-Keeps NoValue act.Automigrate request.Automigrate [] tt tt (λ reply tells. tt) k)

    truth-at : (t : ℕ) (b : Bool) → (t == int_type) ≡ true → IsAt types t (truth b)
    truth-at t b e = int-at t (truth b) e (truth-IsAt types scalars b)

    updating-Keeps : (t : ℕ) → is_request scope request.IsUpdating (Some t) ts ≡ true → Accepts scope f.result (Of t) w → Kept request.IsUpdating (Some t) vs
    updating-Keeps t h k =
        no-operand types ts vs (is_request scope request.IsUpdating (Some t)) (Kept request.IsUpdating (Some t)) (λ a ts. refl) h are
        (asked-Keeps (Of t) (act.UpdatingTest None) request.IsUpdating [] tt tt (λ reply tells. truth-at t (is_updating x.restart.mode) (empty ts h)) k)
      where
        empty : (ts : List ℕ) → is_request scope request.IsUpdating (Some t) ts ≡ true → (t == int_type) ≡ true
        empty [] h = h
        empty (a ∷ ts) h = absurd (false≢true h)

    updating-from-Keeps : (n t : ℕ) → is_request scope (request.IsUpdatingFrom n) (Some t) ts ≡ true → Accepts scope f.result (Of t) w → Kept (request.IsUpdatingFrom n) (Some t) vs
    updating-from-Keeps n t h k =
        no-operand types ts vs (is_request scope (request.IsUpdatingFrom n) (Some t)) (Kept (request.IsUpdatingFrom n) (Some t)) (λ a ts. refl) h are
        (asked-Keeps (Of t) (act.UpdatingTest (Some n)) (request.IsUpdatingFrom n) [] tt tt (λ reply tells. truth-at t (is_updating_from n x.restart.mode) (empty ts h)) k)
      where
        empty : (ts : List ℕ) → is_request scope (request.IsUpdatingFrom n) (Some t) ts ≡ true → (t == int_type) ≡ true
        empty [] h = (and_parts (nat_lt n scope.names) (t == int_type) h).1
        empty (a ∷ ts) h = absurd (false≢true h)

    migrate-Keeps : (n t : ℕ) → is_request scope (request.MigrateLocal n) (Some t) ts ≡ true → Accepts scope f.result (Of t) w → Kept (request.MigrateLocal n) (Some t) vs
    migrate-Keeps n t h k =
        no-operand types ts vs (is_request scope (request.MigrateLocal n) (Some t)) (Kept (request.MigrateLocal n) (Some t)) (λ a ts. refl) h are
        (asked-Keeps (Of t) (act.MigrateLocal x.function n) (request.MigrateLocal n) [] tt refl
        (λ reply tells. truth-at t (is_some (kept_value x.restart x.function n)) (empty ts h)) k)
      where
        empty : (ts : List ℕ) → is_request scope (request.MigrateLocal n) (Some t) ts ≡ true → (t == int_type) ≡ true
        empty [] h = (and_parts (scope.noted && nat_lt n (length scope.locals)) (t == int_type) h).1
        empty (a ∷ ts) h = absurd (false≢true h)

    -- every request
    pub request-Keeps : (r : Request) (t : Option ℕ) → is_request scope r t ts ≡ true → Accepts scope f.result (kind_of t) w → Kept r t vs
    request-Keeps request.Load (Some t) h k = load-Keeps t h k
    request-Keeps request.Load None h k = absurd (false≢true h)
    request-Keeps request.Store (Some t) h k = store-Keeps t h k
    request-Keeps request.Store None h k = absurd (false≢true h)
    request-Keeps (request.Allocate e zeros) (Some t) h k = allocate-Keeps e zeros t h k
    request-Keeps (request.Allocate e zeros) None h k = absurd (false≢true h)
    request-Keeps request.Release None h k = release-Keeps h k
    request-Keeps request.Release (Some t) h k = absurd (false≢true h)
    request-Keeps request.Lock (Some t) h k = lock-Keeps t h k
    request-Keeps request.Lock None h k = absurd (false≢true h)
    request-Keeps request.Unlock (Some t) h k = unlock-Keeps t h k
    request-Keeps request.Unlock None h k = absurd (false≢true h)
    request-Keeps request.InitMutex (Some t) h k = init-Keeps t h k
    request-Keeps request.InitMutex None h k = absurd (false≢true h)
    request-Keeps request.GetChar (Some t) h k = getchar-Keeps t h k
    request-Keeps request.GetChar None h k = absurd (false≢true h)
    request-Keeps request.PutChar (Some t) h k = putchar-Keeps t h k
    request-Keeps request.PutChar None h k = absurd (false≢true h)
    request-Keeps request.Puts (Some t) h k = puts-Keeps t h k
    request-Keeps request.Puts None h k = absurd (false≢true h)
    request-Keeps (request.Print parts) (Some t) h k = print-Keeps parts t h k
    request-Keeps (request.Print parts) None h k = absurd (false≢true h)
    request-Keeps (request.Create g) (Some t) h k = create-Keeps g t h k
    request-Keeps (request.Create g) None h k = absurd (false≢true h)
    request-Keeps request.Join (Some t) h k = join-Keeps t h k
    request-Keeps request.Join None h k = absurd (false≢true h)
    request-Keeps (request.Point n) None h k = point-Keeps n h k
    request-Keeps (request.Point n) (Some t) h k = absurd (false≢true h)
    request-Keeps request.IsUpdating (Some t) h k = updating-Keeps t h k
    request-Keeps request.IsUpdating None h k = absurd (false≢true h)
    request-Keeps (request.IsUpdatingFrom n) (Some t) h k = updating-from-Keeps n t h k
    request-Keeps (request.IsUpdatingFrom n) None h k = absurd (false≢true h)
    request-Keeps request.Automigrate None h k = automigrate-Keeps h k
    request-Keeps request.Automigrate (Some t) h k = absurd (false≢true h)
    request-Keeps (request.MigrateLocal n) (Some t) h k = migrate-Keeps n t h k
    request-Keeps (request.MigrateLocal n) None h k = absurd (false≢true h)
