-- Names, casts, allocations and calls: what each gives has the type that typing says.
use Rattle.std.proofs.Common.{◌≡◌, ℕ, zero, suc, ◌<◌, ◌==◌, ◌&&◌, not, Bool, true, false, List, [], ◌∷◌, ◌++◌, map, slice_get, Option, Some, None, Ok, if◌then◌else◌, refl, sym, ap, ◌∙◌, subst, codes, lt-ltb, add-one, inl, inr}
use Rattle.std.proofs.lemmas.Bool.{and_from, or_cases, true≢false, cond_both}
use Rattle.std.specs.Option.{is_some, option_map}
use Rattle.std.specs.List.{AllByRecursion}
use Rattle.std.specs.Str.{bytes_eq}
use Rattle.kt_grammar.specs.declared.tree.Name.{Name}
use Rattle.kt_grammar.specs.declared.tree.TypeName.{TypeName}
use Rattle.kt_grammar.specs.Tree.{Term, Text, Called, Terms, Nothing, More}
use Rattle.kt_tree.specs.declared.expr.Constant.TheVariants as constant
use Rattle.kt_tree.specs.declared.expr.Request.TheVariants as request
use Rattle.kt_tree.specs.Kinds as kinds
use Rattle.kt_tree.specs.Kinds.{Scope, is_array_type, is_constant, type_at}
use Rattle.kt_tree.specs.Typed as typed
use Rattle.kt_tree.specs.Typed.{kind, types, kind_of, NoValue, Of}
use Rattle.kt_tree.specs.Tree.{Requested, Called as CalledExpression, Expressions, More as MoreExpressions}
use Rattle.kt_names.specs.declared.ctype.Root.{Root}
use Rattle.kt_names.specs.declared.ctype.Root.TheVariants as root
use Rattle.kt_names.specs.declared.ctype.CType.{CType}
use Rattle.kt_names.specs.declared.builtin.Builtin.{Builtin}
use Rattle.kt_names.specs.declared.builtin.Builtin.TheVariants as builtin
use Rattle.kt_names.specs.declared.fault.CheckFault.TheVariants.{Unknown, BadType, Incomplete}
use Rattle.kt_names.specs.Checked.{Checked, fault, and_then, both, holds}
use Rattle.kt_names.specs.Types.{char, int, mutex, pointer_to, is_integer, is_pointer, same_ctype, root_type}
use Rattle.kt_names.specs.Uses.{Use, term_uses, named_uses}
use Rattle.kt_names.specs.Environment.{Environment, Outer, Global, Function, Declared, local_named, is_complete}
use Rattle.kt_names.specs.Rules.{place_at}
use Rattle.kt_names.specs.Operands.{Operand, Valued, ArrayPlace, NoResult, Value, scalar, integer, pointer, convert, converted_to}
use Rattle.kt_names.specs.Builtins.{update_builtin, thread_builtin, builtin_named, Argument, one_of}
use Rattle.kt_names.specs.Tables.{Written, term_written, terms_written, first_written}
use Rattle.kt_names.specs.Terms.{global_address, global_place, local_place, outer_place, outer_name, named, string, named_type, cast, struct_place, of_elements, allocated, counted, bytes_allocated, result_of, passed, called_function, callable_outer, callable, plain_builtin}
use Rattle.kt_terms.proofs.Agrees.{Agrees, Has, Holds, ResultHolds, HasUse, HasNumber, Known}
use Rattle.kt_terms.proofs.Gives.{Gives, given, faulty, if-test, by-test, afterwards, pair, when-held}
use Rattle.kt_terms.proofs.SoundTypes.{number-itself, integer-of, integer-there, at-pointer, at-root, int-place, char-place, mutex-place, points, is-pointer-there, pointer-scalar, holds-integer, of_int}
use Rattle.kt_terms.proofs.SoundOperands.{ValueOf, PointerAt, IsOperand, IsValue, IsInteger, IsPointer, scalar-sound, integer-sound, pointer-sound, converted-value, convert-sound}
use Rattle.kt_terms.proofs.SoundPlaces.{place_at-sound}
use Rattle.kt_terms.proofs.SoundBuiltins.{IsArgument, of-operand, asks-pointer-sound, asks-integer-sound}

-- ---- parts of what is known

all-split : {A : Type 0} (P : A → Type 0) (xs ys : List A) → AllByRecursion P (xs ++ ys) → AllByRecursion P xs × AllByRecursion P ys
all-split P [] ys h = (tt, h)
all-split P (x ∷ xs) ys h = let (front, back) = all-split P xs ys h.1 in ((h.0, front), back)

pub known-parts : (env : Environment) (s : Scope) (us vs : List Use) (ws xs : List Written) → Known env s (us ++ vs) (ws ++ xs) → Known env s us ws × Known env s vs xs
known-parts env s us vs ws xs k =
    let (u, v) = all-split (HasUse env.names s.types.types) us vs k.uses in
    let (w, x) = all-split (HasNumber env s) ws xs k.written in
    (record { uses = u; written = w }, record { uses = v; written = x })

-- what is known of two expressions
pub known-two : (env : Environment) (s : Scope) (a b : Term) → Known env s (term_uses a ++ term_uses b) (term_written a ++ term_written b)
    → Known env s (term_uses a) (term_written a) × Known env s (term_uses b) (term_written b)
known-two env s a b k = known-parts env s (term_uses a) (term_uses b) (term_written a) (term_written b) k

same-types-itself : (ts : List ℕ) → typed.same_types ts ts ≡ true
same-types-itself [] = refl
same-types-itself (t ∷ ts) = and_from (t == t) (typed.same_types ts ts) (number-itself t) (same-types-itself ts)

-- what a call writes
abbrev pub call_written : Option Builtin → Terms → List Written
call_written o (More (Text at bytes) rest) = first_written o at bytes ++ terms_written rest
call_written o args = terms_written args

pub written-of-call : (n : Name) (args : Terms) → term_written (Called n args) ≡ call_written (builtin_named n.word) args
written-of-call n Nothing = refl
written-of-call n (More (Text at bytes) rest) = refl
written-of-call n (More a rest) = refl

-- ---- the name of malloc

abbrev is_malloc : Option Builtin → Bool
is_malloc (Some builtin.Malloc) = true
is_malloc _ = false

record Other (o : Option Builtin) : Type 0 where
  apart : is_malloc o ≡ false

other-name : (b : Bool) (x y : Option Builtin) → Other x → Other y → Other (if b then x else y)
other-name true x y e f = e
other-name false x y e f = f

another : (b : Builtin) → is_malloc (Some b) ≡ false → Other (Some b)
another b e = record { apart = e }

pub malloc-named : (n : List ℕ) → builtin_named n ≡ Some builtin.Malloc → bytes_eq n (codes "malloc") ≡ true
unfolding builtin_named thread_builtin update_builtin
malloc-named n e = by (bytes_eq n (codes "malloc")) _ refl e
    (other-name (bytes_eq n (codes "calloc")) (Some builtin.Calloc) _ (another builtin.Calloc refl)
    (other-name (bytes_eq n (codes "free")) (Some builtin.Free) _ (another builtin.Free refl)
    (other-name (bytes_eq n (codes "getchar")) (Some builtin.GetChar) _ (another builtin.GetChar refl)
    (other-name (bytes_eq n (codes "putchar")) (Some builtin.PutChar) _ (another builtin.PutChar refl)
    (other-name (bytes_eq n (codes "puts")) (Some builtin.Puts) _ (another builtin.Puts refl)
    (other-name (bytes_eq n (codes "printf")) (Some builtin.Printf) _ (another builtin.Printf refl)
    (other-name (bytes_eq n (codes "pthread_mutex_lock")) (Some builtin.Lock) _ (another builtin.Lock refl)
    (other-name (bytes_eq n (codes "pthread_mutex_unlock")) (Some builtin.Unlock) _ (another builtin.Unlock refl)
    (other-name (bytes_eq n (codes "pthread_mutex_init")) (Some builtin.InitMutex) _ (another builtin.InitMutex refl)
    (other-name (bytes_eq n (codes "ktthread_create")) (Some builtin.Create) _ (another builtin.Create refl)
    (other-name (bytes_eq n (codes "ktthread_join")) (Some builtin.Join) _ (another builtin.Join refl)
    (other-name (bytes_eq n (codes "kitsune_update")) (Some builtin.Update) _ (another builtin.Update refl)
    (other-name (bytes_eq n (codes "kitsune_is_updating")) (Some builtin.IsUpdating) _ (another builtin.IsUpdating refl)
    (other-name (bytes_eq n (codes "kitsune_is_updating_from")) (Some builtin.IsUpdatingFrom) _ (another builtin.IsUpdatingFrom refl)
    (other-name (bytes_eq n (codes "kitsune_do_automigrate")) (Some builtin.Automigrate) _ (another builtin.Automigrate refl)
    (other-name (bytes_eq n (codes "MIGRATE_LOCAL")) (Some builtin.MigrateLocal) _ (another builtin.MigrateLocal refl)
    (record { apart = refl })))))))))))))))))
  where
    by : (b : Bool) (other : Option Builtin) → bytes_eq n (codes "malloc") ≡ b → (if b then Some builtin.Malloc else other) ≡ Some builtin.Malloc → Other other → b ≡ true
    by true other t is miss = refl
    by false other t is miss = absurd (true≢false (sym (ap is_malloc is) ∙ miss.apart))

module _ (env : Environment) (s : Scope) (agrees : Agrees env s) where
  -- ---- names

  global-constant : (g t e : ℕ) → slice_get s.globals g ≡ Some e → kinds.points_to s t e ≡ true → is_constant s (constant.Global g) t ≡ true
  global-constant g t e at h = subst (λ o. elim o as (λ _. Bool) [ None ↦ false | (Some k) ↦ kinds.points_to s t k ] ≡ true) (sym at) h

  global-pointer : (name : List ℕ) (g : ℕ) (t : CType) (array : Bool) → env.outer name ≡ Some (Global g t array) → PointerAt env s t (global_address env g t)
  global-pointer name g t array e =
      let (at, has) = agrees.globals name g t array e in
      (rw (global-constant g (env.place (pointer_to t)) (env.place t) at (points env s agrees t has)) refl, has)

  global-sound : (name : List ℕ) (g : ℕ) (t : CType) (array : Bool) → env.outer name ≡ Some (Global g t array) → IsOperand env s (global_place env g t array)
  global-sound name g t array e =
      let pointer = global-pointer name g t array e in
      cond_both array (ArrayPlace t (global_address env g t)) (place_at t (global_address env g t)) (IsOperand env s) (λ is. pointer) (λ not. place_at-sound env s agrees t (global_address env g t) pointer)

  local-sound : (name : List ℕ) (x : ℕ) → local_named env.visible name ≡ Some x → IsOperand env s (local_place x (slice_get env.locals x))
  local-sound name x is =
      let (t, at, scalar) = agrees.visible name x is in
      let (there, has) = agrees.locals x t at in
      subst (λ o. IsOperand env s (local_place x o)) (sym at) (there, (has, scalar))

  outer-sound : (name : List ℕ) (at : ℕ) (o : Option Outer) → env.outer name ≡ o → Gives (IsOperand env s) (outer_place env at o)
  outer-sound name at None e = faulty _ _
  outer-sound name at (Some (Global g t array)) e = given _ _ (global-sound name g t array e)
  outer-sound name at (Some (Function d)) e = by-test (IsOperand env s) (is_some d.number) _ _ (λ is. faulty _ _) (λ not. faulty _ _)

  named-by : (n : Name) (l : Option ℕ) → local_named env.visible n.word ≡ l
      → Gives (IsOperand env s) (elim l as (λ _. Checked Operand) [ None ↦ outer_name env n | (Some x) ↦ Ok (local_place x (slice_get env.locals x)) ])
  named-by n None e = by-test (IsOperand env s) (is_some (builtin_named n.word)) _ _ (λ is. faulty _ _) (λ not. outer-sound n.word n.at (env.outer n.word) refl)
  named-by n (Some x) e = given _ _ (local-sound n.word x e)

  pub named-sound : (n : Name) → Gives (IsOperand env s) (named env n)
  named-sound n = named-by n (local_named env.visible n.word) refl

  -- ---- literals, casts

  pub string-sound : (at : ℕ) → env.literal at < s.literals → Has s.types.types (pointer_to char) → IsOperand env s (string env at)
  string-sound at below has =
      let points-char : kinds.points_to s (env.place (pointer_to char)) kinds.char_type ≡ true = rw (char-place env s agrees) at (points env s agrees char has) in
      (rw (lt-ltb (env.literal at) s.literals below, points-char) refl, (has, pointer-scalar char))

  pub cast-sound : (at inner : ℕ) (t : TypeName) (allocates : Bool) (a : Operand) → IsOperand env s a → Gives (IsOperand env s) (cast env at inner t allocates a)
  cast-sound at inner t allocates a h =
      by-test (IsOperand env s) (is_integer (named_type env t)) _ _
      (λ is. afterwards (IsInteger env s) (IsOperand env s) (integer env inner at a) (λ v. Ok (Valued (named_type env t) (converted_to env (named_type env t) v))) (integer-sound env s agrees inner at a h)
      (λ v k. given (IsOperand env s) _ (converted-value env s agrees (named_type env t) v k is)))
      (λ other. if-test (IsOperand env s) allocates _ _
      (λ is. afterwards (IsPointer env s) (IsOperand env s) (pointer env inner at a) (λ v. if same_ctype v.ty (named_type env t) then Ok a else fault (BadType at)) (pointer-sound env s agrees inner at a h)
      (λ v k. if-test (IsOperand env s) (same_ctype v.ty (named_type env t)) (Ok a) (BadType at) (λ same. given (IsOperand env s) a h))))

  -- ---- allocations

  root-fits : (r : Root) → is_array_type (Some (root_type r)) ≡ false
  root-fits root.Char = refl
  root-fits root.Int = refl
  root-fits root.Long = refl
  root-fits root.Mutex = refl
  root-fits (root.Struct n) = refl

  no-array : (t : CType) → Has s.types.types t → is_array_type (type_at s (env.place t)) ≡ false
  no-array t has = by t.root t.stars has
    where
      by : (r : Root) (n : ℕ) → Has s.types.types (record { root = r; stars = n }) → is_array_type (type_at s (env.place (record { root = r; stars = n }))) ≡ false
      by r zero h = rw (at-root env s agrees r h) (root-fits r)
      by r (suc n) h = rw (at-pointer env s agrees (record { root = r; stars = n }) h) refl

  allocation : (t : CType) (zeros : Bool) (v : Value) → Has s.types.types (pointer_to t) → is_complete env t ≡ true → IsInteger env s v
      → ValueOf env s (pointer_to t) (Requested (request.Allocate (env.place t) zeros) (Some (env.place (pointer_to t))) (one_of v.expression))
  allocation t zeros v has complete h = (
    of-operand s (request.Allocate (env.place t) zeros) (env.place (pointer_to t)) (env.place v.ty) v.expression h.0.0
        (rw (integer-there env s agrees (integer-of v.ty h.1), points env s agrees t has, agrees.complete t has.1 complete, no-array t has.1) refl),
    (has, pointer-scalar t),
  )

  pub counted-sound : (own up : ℕ) (x : Checked Operand) → Gives (IsOperand env s) x → Gives (IsInteger env s) (counted env own up x)
  counted-sound own up x h = afterwards (IsOperand env s) (IsInteger env s) x (integer env own up) h (λ o k. integer-sound env s agrees own up o k)

  -- a type name that is used has a pointer to it in the table
  pub used-name : (t : TypeName) → AllByRecursion (HasUse env.names s.types.types) (named_uses t) → Has s.types.types (pointer_to (named_type env t))
  used-name t h = rw add-one at h.0

  pub allocated-sound : (at : ℕ) (t : TypeName) (zeros : Bool) (count : Checked Value) → Has s.types.types (pointer_to (named_type env t)) → Gives (IsInteger env s) count
      → Gives (IsOperand env s) (allocated env at t zeros count)
  allocated-sound at t zeros count has h =
      afterwards (λ x. IsInteger env s x.0 × (is_complete env (named_type env t) ≡ true)) (IsOperand env s)
      (both count (holds (is_complete env (named_type env t)) (Incomplete (struct_place t.base at)))) (λ x. Ok (of_elements env t zeros x.0))
      (pair (IsInteger env s) (λ _. is_complete env (named_type env t) ≡ true) count _ h (when-held (is_complete env (named_type env t)) (Incomplete (struct_place t.base at))))
      (λ x k. given (IsOperand env s) _ (allocation (named_type env t) zeros x.0 has k.1 k.0))

  pub bytes-sound : (x : Checked Value) → Has s.types.types (pointer_to char) → Gives (IsInteger env s) x → Gives (IsOperand env s) (and_then x (λ v. Ok (bytes_allocated env v)))
  bytes-sound x has h =
      afterwards (IsInteger env s) (IsOperand env s) x (λ v. Ok (bytes_allocated env v)) h (λ v k. given (IsOperand env s) _ (allocation char false v has refl k))

  -- ---- calls of functions

  abbrev ArePassed : List CType → Expressions → Type 0
  ArePassed ps es = types s es ≡ Some (map env.place ps)

  passed-sound : (up : ℕ) (ps : List CType) (args : List Argument) → AllByRecursion (Holds s.types.types) ps → AllByRecursion (IsArgument env s agrees) args → Gives (ArePassed ps) (passed env up ps args)
  passed-sound up [] [] g h = given _ _ refl
  passed-sound up (p ∷ ps) (x ∷ rest) g h =
      afterwards (λ y. ValueOf env s p y.0 × ArePassed ps y.1) (ArePassed (p ∷ ps)) (both (and_then x.typed (convert env p x.at up)) (passed env up ps rest)) (λ y. Ok (MoreExpressions y.0 y.1))
      (pair (ValueOf env s p) (ArePassed ps) _ _
      (afterwards (IsOperand env s) (ValueOf env s p) x.typed (convert env p x.at up) h.0 (λ o k. convert-sound env s agrees p x.at up o g.0.0 k))
      (passed-sound up ps rest g.1 h.1))
      (λ y k. given (ArePassed (p ∷ ps)) _ (rw (k.0.0, k.1) refl))
  passed-sound up [] (x ∷ rest) g h = faulty _ _
  passed-sound up (p ∷ ps) [] g h = faulty _ _

  result-by : (f : ℕ) (es : Expressions) (r : Option CType) → ResultHolds s.types.types r → kind s (CalledExpression f es) ≡ Some (kind_of (option_map env.place r)) → IsOperand env s (result_of f r es)
  result-by f es None holds k = k
  result-by f es (Some t) holds k = (k, holds)

  called-by : (name : List ℕ) (up : ℕ) (d : Declared) (o : Option ℕ) (args : List Argument) → d.number ≡ o → env.outer name ≡ Some (Function d) → AllByRecursion (IsArgument env s agrees) args
      → Gives (IsOperand env s) (elim o as (λ _. Checked Operand) [ None ↦ fault (Unknown up) | (Some f) ↦ and_then (passed env up d.parameters args) (λ es. Ok (result_of f d.result es)) ])
  called-by name up d None args e outer h = faulty _ _
  called-by name up d (Some f) args e outer h =
      let (head, parameters, result) = agrees.functions name d f outer e in
      afterwards (ArePassed d.parameters) (IsOperand env s) (passed env up d.parameters args) (λ es. Ok (result_of f d.result es)) (passed-sound up d.parameters args parameters h)
      (λ es k. given (IsOperand env s) _ (result-by f es d.result result (rw (head, k, same-types-itself (map env.place d.parameters)) refl)))

  callable-by : (at : ℕ) (o : Option Outer) → Gives (λ d. o ≡ Some (Function d)) (callable_outer at o)
  callable-by at None = faulty _ _
  callable-by at (Some (Global g t array)) = faulty _ _
  callable-by at (Some (Function d)) = if-test (λ c. ◌≡◌ {A = Option Outer} (Some (Function d)) (Some (Function c))) (is_some d.number) _ _ (λ is. given _ d refl)

  callable-sound : (n : Name) (l : Option ℕ)
      → Gives (λ d. env.outer n.word ≡ Some (Function d)) (elim l as (λ _. Checked Declared) [ (Some x) ↦ fault (BadType n.at) | None ↦ callable_outer n.at (env.outer n.word) ])
  callable-sound n None = callable-by n.at (env.outer n.word)
  callable-sound n (Some x) = faulty _ _

  pub function-sound : (n : Name) (args : List Argument) → AllByRecursion (IsArgument env s agrees) args → Gives (IsOperand env s) (and_then (callable env n) (λ d. called_function env n.at d args))
  function-sound n args h =
      afterwards (λ d. env.outer n.word ≡ Some (Function d)) (IsOperand env s) (callable env n) (λ d. called_function env n.at d args) (callable-sound n (local_named env.visible n.word))
      (λ d e. called-by n.word n.at d d.number args refl e h)

  -- ---- built-in calls

  released : (v : Value) → IsValue env s v → is_integer v.ty ≡ false → kind s (Requested request.Release None (one_of v.expression)) ≡ Some NoValue
  released v h not =
      let is : is_pointer v.ty ≡ true = elim (or_cases (is_integer v.ty) (is_pointer v.ty) h.1.1) as (λ _. is_pointer v.ty ≡ true) [ inl i ↦ absurd (true≢false (sym i ∙ not)) | inr p ↦ p ] in
      rw (h.0, is-pointer-there env s agrees v.ty h.1.0 is) refl

  free-sound : (up : ℕ) (x : Argument) → IsArgument env s agrees x
      → Gives (IsOperand env s) (and_then (and_then x.typed (scalar env x.at up)) (λ v. if is_integer v.ty then fault (BadType up) else Ok (NoResult (Requested request.Release None (one_of v.expression)))))
  free-sound up x h =
      afterwards (IsValue env s) (IsOperand env s) (and_then x.typed (scalar env x.at up)) _
      (afterwards (IsOperand env s) (IsValue env s) x.typed (scalar env x.at up) h (λ o k. scalar-sound env s agrees x.at up o k))
      (λ v k. by-test (IsOperand env s) (is_integer v.ty) (fault (BadType up)) (Ok (NoResult (Requested request.Release None (one_of v.expression))))
      (λ is. faulty (IsOperand env s) _) (λ not. given (IsOperand env s) _ (released v k not)))

  pub mutex-request : Has s.types.types (pointer_to mutex) → (kinds.points_to s (env.place (pointer_to mutex)) kinds.mutex_type && (env.place int == kinds.int_type)) ≡ true
  mutex-request has =
      let to-mutex : kinds.points_to s (env.place (pointer_to mutex)) kinds.mutex_type ≡ true = rw (mutex-place env s agrees) at (points env s agrees mutex has) in
      and_from _ _ to-mutex (rw (int-place env s agrees) refl)

  text-request : Has s.types.types (pointer_to char) → (kinds.points_to s (env.place (pointer_to char)) kinds.char_type && (env.place int == kinds.int_type)) ≡ true
  text-request has =
      let to-char : kinds.points_to s (env.place (pointer_to char)) kinds.char_type ≡ true = rw (char-place env s agrees) at (points env s agrees char has) in
      and_from _ _ to-char (rw (int-place env s agrees) refl)

  pub plain-sound : (up : ℕ) (b : Builtin) (args : List Argument) → AllByRecursion (IsArgument env s agrees) args → Gives (IsOperand env s) (plain_builtin env up b args)
  plain-sound up builtin.Free (x ∷ []) h = free-sound up x h.0
  plain-sound up builtin.GetChar [] h = given _ _ (rw (int-place env s agrees) refl, holds-integer env s agrees of_int)
  plain-sound up builtin.PutChar (x ∷ []) h = asks-integer-sound env s agrees up request.PutChar x (λ i is. rw (is, int-place env s agrees) refl) h.0
  plain-sound up builtin.Puts (x ∷ []) h = asks-pointer-sound env s agrees up request.Puts char x text-request h.0
  plain-sound up builtin.Lock (x ∷ []) h = asks-pointer-sound env s agrees up request.Lock mutex x mutex-request h.0
  plain-sound up builtin.Unlock (x ∷ []) h = asks-pointer-sound env s agrees up request.Unlock mutex x mutex-request h.0
  plain-sound up builtin.Join (x ∷ []) h = asks-integer-sound env s agrees up request.Join x (λ i is. rw (is, int-place env s agrees) refl) h.0
  plain-sound up builtin.IsUpdating [] h = given _ _ (rw (int-place env s agrees) refl, holds-integer env s agrees of_int)
  plain-sound up builtin.Automigrate [] h = given _ _ refl
  plain-sound up _ args h = faulty _ _
