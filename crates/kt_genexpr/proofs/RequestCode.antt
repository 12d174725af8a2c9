-- A request's instruction asks what the request asks, for as many operands as typing says.
use Rattle.std.proofs.Common.{◌≡◌, ℕ, suc, ◌==◌, ◌&&◌, true, not, nat_le, if◌then◌else◌, List, [], ◌∷◌, ◌++◌, length, reverse, take, drop, slice_get, Option, Some, None, refl, sym, ap, ◌∙◌, arith, length-append}
use Rattle.std.specs.Option.{is_some}
use Rattle.std.proofs.Math.Seq.{take-append_seam, drop-append_seam}
use Rattle.std.proofs.lemmas.Bool.{false≢true, and_parts}
use Rattle.std.proofs.lemmas.Bool.Decides.{nat_tests}
use Rattle.kt_types.specs.declared.kinds.Ty.{Ty}
use Rattle.kt_types.specs.Table.{Table}
use Rattle.kt_mem.specs.declared.memory.Value.{Value}
use Rattle.kt_mem.specs.declared.memory.Value.TheVariants.{Num}
use Rattle.kt_mem.specs.declared.steps.Act.TheVariants as act
use Rattle.kt_tree.specs.declared.expr.Part.{Part}
use Rattle.kt_tree.specs.declared.expr.Part.TheVariants as part
use Rattle.kt_tree.specs.declared.expr.Request.{Request}
use Rattle.kt_tree.specs.declared.expr.Request.TheVariants as request
use Rattle.kt_tree.specs.Kinds.{Scope, char_type, int_type, long_type, is_integer, is_scalar, points_to, takes, is_request}
use Rattle.kt_meaning.specs.Steps.{Step, Acts}
use Rattle.kt_meaning.specs.Requests.{load_act, store_act, act_of, told}
use Rattle.kt_code.specs.Machine.{Here, stands, stuck, on_list, asks, do_one}
use Rattle.kt_code.specs.Requests.{untyped, part_count, operand_count}
use Rattle.kt_code.specs.declared.private.Private.{Private}
use Rattle.kt_genexpr.specs.ExpressionCode.{or_char, request_code}
use Rattle.kt_genexpr.proofs.OperationCode.{scalar-there}

-- ---- so many operands

-- operands that are as many as the instruction takes are its operands
pub on-all : (f : List Value → List Value → Step Private) (n : ℕ) (us rest : List Value) → n ≡ length us → on_list n f (us ++ rest) ≡ f (reverse us) rest
on-all f n us rest e =
    let long = length-append us rest in
    let enough : nat_le n (length (us ++ rest)) ≡ true = grind (arith, nat_tests, long) in
    ap (λ b. if b then f (reverse (take n (us ++ rest))) (drop n (us ++ rest)) else stuck) enough
    ∙ ap (λ k. f (reverse (take k (us ++ rest))) (drop k (us ++ rest))) e
    ∙ ap (λ l. f (reverse l) (drop (length us) (us ++ rest))) (take-append_seam us rest)
    ∙ ap (λ l. f (reverse us) l) (drop-append_seam us rest)

takes-count : (s : Scope) (parts : List Part) (ts : List ℕ) → takes s parts ts ≡ true → part_count parts ≡ length ts
takes-count s [] [] h = refl
takes-count s [] (t ∷ ts) h = absurd (false≢true h)
takes-count s (part.Bytes bytes ∷ parts) ts h = takes-count s parts ts h
takes-count s (part.Number ∷ parts) (t ∷ ts) h = ap suc (takes-count s parts ts ((and_parts (is_integer s t) (takes s parts ts) h).1))
takes-count s (part.Byte ∷ parts) (t ∷ ts) h =
    ap suc (takes-count s parts ts ((and_parts (is_integer s t && not (t == long_type)) (takes s parts ts) h).1))
takes-count s (part.Text ∷ parts) (t ∷ ts) h = ap suc (takes-count s parts ts ((and_parts (points_to s t char_type) (takes s parts ts) h).1))
takes-count s (p ∷ parts) [] h = absurd (false≢true h)

-- ---- loads and stores

load-at : (x : Here) (p : Value) (rest : List Value) (o : Option Ty) → is_some o ≡ true →
    Acts (act.Load p (or_char o)) (λ reply. stands x (told reply ∷ rest)) ≡ asks x rest request.Load (p ∷ []) (load_act o p)
load-at x p rest None h = absurd (false≢true h)
load-at x p rest (Some u) h = refl

store-at : (x : Here) (p v : Value) (rest : List Value) (o : Option Ty) → is_some o ≡ true →
    Acts (act.Store p (or_char o) v) (λ reply. stands x (v ∷ rest)) ≡ asks x rest request.Store (p ∷ v ∷ []) (store_act o p v)
store-at x p v rest None h = absurd (false≢true h)
store-at x p v rest (Some u) h = refl

-- ---- requests that need no type

abbrev IsAsked : Request → Type 0
IsAsked request.Load = ⊥
IsAsked request.Store = ⊥
IsAsked r = Unit {0}

untyped-act : (types : Table) (f : ℕ) (r : Request) (t : Option ℕ) (vs : List Value) → IsAsked r → act_of untyped f r None vs ≡ act_of types f r t vs
untyped-act types f request.Load t vs is = absurd is
untyped-act types f request.Store t vs is = absurd is
untyped-act types f (request.Allocate e zeros) t (Num n ∷ []) is = refl
untyped-act types f request.Release t (p ∷ []) is = refl
untyped-act types f request.Lock t (p ∷ []) is = refl
untyped-act types f request.Unlock t (p ∷ []) is = refl
untyped-act types f request.InitMutex t (p ∷ []) is = refl
untyped-act types f request.GetChar t [] is = refl
untyped-act types f request.PutChar t (Num n ∷ []) is = refl
untyped-act types f request.Puts t (p ∷ []) is = refl
untyped-act types f (request.Print parts) t vs is = refl
untyped-act types f (request.Create g) t (v ∷ []) is = refl
untyped-act types f request.Join t (Num n ∷ []) is = refl
untyped-act types f (request.Point n) t [] is = refl
untyped-act types f request.IsUpdating t [] is = refl
untyped-act types f (request.IsUpdatingFrom n) t [] is = refl
untyped-act types f request.Automigrate t [] is = refl
untyped-act types f (request.MigrateLocal n) t [] is = refl
untyped-act types f r t vs is = refl

asked-count : (s : Scope) (r : Request) (t : Option ℕ) (ts : List ℕ) → IsAsked r → is_request s r t ts ≡ true → operand_count r ≡ length ts
asked-count s request.Load t ts is h = absurd is
asked-count s request.Store t ts is h = absurd is
asked-count s (request.Allocate e zeros) (Some t) (n ∷ []) is h = refl
asked-count s request.Release None (p ∷ []) is h = refl
asked-count s request.Lock (Some t) (p ∷ []) is h = refl
asked-count s request.Unlock (Some t) (p ∷ []) is h = refl
asked-count s request.InitMutex (Some t) (p ∷ []) is h = refl
asked-count s request.GetChar (Some t) [] is h = refl
asked-count s request.PutChar (Some t) (e ∷ []) is h = refl
asked-count s request.Puts (Some t) (p ∷ []) is h = refl
asked-count s (request.Print parts) (Some t) ts is h = takes-count s parts ts ((and_parts (takes s parts ts) (t == int_type) h).0)
asked-count s (request.Create f) (Some t) (e ∷ []) is h = refl
asked-count s request.Join (Some t) (e ∷ []) is h = refl
asked-count s (request.Point n) None [] is h = refl
asked-count s request.IsUpdating (Some t) [] is h = refl
asked-count s (request.IsUpdatingFrom n) (Some t) [] is h = refl
asked-count s request.Automigrate None [] is h = refl
asked-count s (request.MigrateLocal x) (Some t) [] is h = refl
asked-count s r t ts is h = absurd (false≢true h)

-- ---- each request

module _ (s : Scope) (entries : List ℕ) (x : Here) (rest : List Value) where
  -- the instruction, and what the request asks
  abbrev Does : Request → Option ℕ → List Value → Type 0
  Does r t us = do_one entries (request_code s.types r t) x (us ++ rest) ≡ asks x rest r (reverse us) (act_of s.types x.function r t (reverse us))

  load-does : (t : Option ℕ) (ts : List ℕ) (us : List Value) → is_request s request.Load t ts ≡ true → length us ≡ length ts → Does request.Load t us
  load-does (Some t) (a ∷ []) (p ∷ []) h n =
      load-at x p rest (slice_get s.types.types t) (scalar-there s t ((and_parts (points_to s a t) (is_scalar s t) h).1))
  load-does (Some t) (a ∷ []) us h n = absurd (omega arith)
  load-does t ts us h n = absurd (false≢true h)

  store-does : (t : Option ℕ) (ts : List ℕ) (us : List Value) → is_request s request.Store t ts ≡ true → length us ≡ length ts → Does request.Store t us
  store-does (Some t) (a ∷ b ∷ []) (v ∷ p ∷ []) h n =
      let scalar = (and_parts (points_to s a t) (is_scalar s t) ((and_parts (points_to s a t && is_scalar s t) (b == t) h).0)).1 in
      store-at x p v rest (slice_get s.types.types t) (scalar-there s t scalar)
  store-does (Some t) (a ∷ b ∷ []) us h n = absurd (omega arith)
  store-does t ts us h n = absurd (false≢true h)

  asked-does : (r : Request) (t : Option ℕ) (ts : List ℕ) (us : List Value) → IsAsked r → is_request s r t ts ≡ true → length us ≡ length ts →
      on_list (operand_count r) (λ vs more. asks x more r vs (act_of untyped x.function r None vs)) (us ++ rest)
      ≡ asks x rest r (reverse us) (act_of s.types x.function r t (reverse us))
  asked-does r t ts us is h n =
      on-all (λ vs more. asks x more r vs (act_of untyped x.function r None vs)) (operand_count r) us rest (asked-count s r t ts is h ∙ sym n)
      ∙ ap (asks x rest r (reverse us)) (untyped-act s.types x.function r t (reverse us) is)

  pub request-does : (r : Request) (t : Option ℕ) (ts : List ℕ) (us : List Value) → is_request s r t ts ≡ true → length us ≡ length ts → Does r t us
  request-does request.Load t ts us h n = load-does t ts us h n
  request-does request.Store t ts us h n = store-does t ts us h n
  request-does (request.Allocate e zeros) t ts us h n = asked-does (request.Allocate e zeros) t ts us tt h n
  request-does request.Release t ts us h n = asked-does request.Release t ts us tt h n
  request-does request.Lock t ts us h n = asked-does request.Lock t ts us tt h n
  request-does request.Unlock t ts us h n = asked-does request.Unlock t ts us tt h n
  request-does request.InitMutex t ts us h n = asked-does request.InitMutex t ts us tt h n
  request-does request.GetChar t ts us h n = asked-does request.GetChar t ts us tt h n
  request-does request.PutChar t ts us h n = asked-does request.PutChar t ts us tt h n
  request-does request.Puts t ts us h n = asked-does request.Puts t ts us tt h n
  request-does (request.Print parts) t ts us h n = asked-does (request.Print parts) t ts us tt h n
  request-does (request.Create f) t ts us h n = asked-does (request.Create f) t ts us tt h n
  request-does request.Join t ts us h n = asked-does request.Join t ts us tt h n
  request-does (request.Point m) t ts us h n = asked-does (request.Point m) t ts us tt h n
  request-does request.IsUpdating t ts us h n = asked-does request.IsUpdating t ts us tt h n
  request-does (request.IsUpdatingFrom m) t ts us h n = asked-does (request.IsUpdatingFrom m) t ts us tt h n
  request-does request.Automigrate t ts us h n = asked-does request.Automigrate t ts us tt h n
  request-does (request.MigrateLocal m) t ts us h n = asked-does (request.MigrateLocal m) t ts us tt h n
