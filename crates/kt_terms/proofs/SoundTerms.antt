-- Expressions: what typing gives has the type that it says.
use Rattle.std.proofs.Common.{◌≡◌, ℕ, ◌^◌, nat_lt, pos, negsuc, true, false, List, [], ◌++◌, Option, Some, None, Ok, refl, sym, subst, arith, lt-ltb, ltb-true}
use Rattle.std.specs.List.{AllByRecursion}
use Rattle.kt_grammar.specs.declared.operator.BinaryOperator.TheVariants as binary
use Rattle.kt_grammar.specs.declared.tree.Name.{Name}
use Rattle.kt_grammar.specs.Tree.{Term, Constant, Character, Text, Null as NullTerm, Eof, Named, Called, Parenthesised, SizeOf, RuleValue, OldSymbol, Transformed, NewObject, Element, Member, Pointed, Stepped, Prefixed, Converted, Operated, Chosen, Assigned, Terms, Nothing, More}
use Rattle.kt_tree.specs.declared.expr.Request.TheVariants as request
use Rattle.kt_tree.specs.Kinds.{Scope}
use Rattle.kt_names.specs.declared.builtin.Builtin.{Builtin}
use Rattle.kt_names.specs.declared.builtin.Builtin.TheVariants as builtin
use Rattle.kt_names.specs.declared.fault.CheckFault.TheVariants.{BadType}
use Rattle.kt_names.specs.Checked.{Checked, fault, and_then, both}
use Rattle.kt_names.specs.Types.{char, mutex, pointer_to}
use Rattle.kt_names.specs.Uses.{term_uses, terms_uses, called_uses, named_uses}
use Rattle.kt_names.specs.Environment.{Environment, local_named}
use Rattle.kt_names.specs.Operands.{Operand}
use Rattle.kt_names.specs.Rules.{element, member, pointed, operator, choice, assignment, changed, unary, step_operator, one}
use Rattle.kt_names.specs.Builtins.{builtin_named, Argument}
use Rattle.kt_names.specs.Tables.{term_written, terms_written, first_written, literal}
use Rattle.kt_names.specs.Terms.{first_token, character, is_allocation, cast, counted, bytes_allocated, called_function, callable, plain_builtin, argument, typing, typing_all, builtin_call}
use Rattle.kt_terms.proofs.Agrees.{Agrees, Has, HasUse, Known}
use Rattle.kt_terms.proofs.Gives.{Gives, given, faulty, if-test, afterwards, pair}
use Rattle.kt_terms.proofs.SoundOperands.{IsOperand, IsInteger, int-number}
use Rattle.kt_terms.proofs.SoundPlaces.{element-sound, member-sound, pointed-sound}
use Rattle.kt_terms.proofs.SoundArithmetic.{number-sound}
use Rattle.kt_terms.proofs.SoundRules.{operator-sound, choice-sound, changed-sound, assignment-sound, unary-sound, one-value}
use Rattle.kt_terms.proofs.SoundBuiltins.{IsArgument, asks-pointer-sound, printed-sound, updated-sound, updating-sound, created-sound, migrated-sound}
use Rattle.kt_terms.proofs.SoundCalls.{known-parts, known-two, call_written, written-of-call, malloc-named, named-sound, string-sound, cast-sound, used-name, allocated-sound, bytes-sound, counted-sound, function-sound, plain-sound, mutex-request}

-- built-in calls of typed arguments alone
abbrev pub IsPlain : Builtin → Type 0
IsPlain builtin.Malloc = ⊥
IsPlain builtin.Calloc = ⊥
IsPlain builtin.Printf = ⊥
IsPlain builtin.InitMutex = ⊥
IsPlain builtin.Create = ⊥
IsPlain builtin.Update = ⊥
IsPlain builtin.IsUpdatingFrom = ⊥
IsPlain builtin.MigrateLocal = ⊥
IsPlain _ = Unit {0}

module _ (env : Environment) (up : ℕ) (values : List Argument) where
  pub plain-same : (b : Builtin) → IsPlain b → (args : Terms) → builtin_call env up b values args ≡ plain_builtin env up b values
  plain-same builtin.Free p Nothing = refl
  plain-same builtin.Free p (More a rest) = refl
  plain-same builtin.GetChar p Nothing = refl
  plain-same builtin.GetChar p (More a rest) = refl
  plain-same builtin.PutChar p Nothing = refl
  plain-same builtin.PutChar p (More a rest) = refl
  plain-same builtin.Puts p Nothing = refl
  plain-same builtin.Puts p (More a rest) = refl
  plain-same builtin.Lock p Nothing = refl
  plain-same builtin.Lock p (More a rest) = refl
  plain-same builtin.Unlock p Nothing = refl
  plain-same builtin.Unlock p (More a rest) = refl
  plain-same builtin.Join p Nothing = refl
  plain-same builtin.Join p (More a rest) = refl
  plain-same builtin.IsUpdating p Nothing = refl
  plain-same builtin.IsUpdating p (More a rest) = refl
  plain-same builtin.Automigrate p Nothing = refl
  plain-same builtin.Automigrate p (More a rest) = refl
  plain-same builtin.Malloc p args = absurd p
  plain-same builtin.Calloc p args = absurd p
  plain-same builtin.Printf p args = absurd p
  plain-same builtin.InitMutex p args = absurd p
  plain-same builtin.Create p args = absurd p
  plain-same builtin.Update p args = absurd p
  plain-same builtin.IsUpdatingFrom p args = absurd p
  plain-same builtin.MigrateLocal p args = absurd p

plain-written : (b : Builtin) → IsPlain b → (at : ℕ) (bytes : List ℕ) → first_written (Some b) at bytes ≡ literal at bytes
plain-written builtin.Printf p at bytes = absurd p
plain-written builtin.Update p at bytes = absurd p
plain-written builtin.IsUpdatingFrom p at bytes = absurd p
plain-written _ p at bytes = refl

module _ (env : Environment) (s : Scope) (agrees : Agrees env s) where
  -- where all is known of it, typing gives what it says
  abbrev Ready : Term → Type 0
  Ready e = Known env s (term_uses e) (term_written e) → Gives (IsOperand env s) (typing env e)

  -- and so of what stands below an operator
  abbrev Below : Term → Type 0
  Below (Operated op a b) = Ready a × Ready b
  Below _ = Unit {0}

  abbrev AllReady : Terms → Type 0
  AllReady Nothing = Unit {0}
  AllReady (More a rest) = Ready a × Below a × AllReady rest

  abbrev TermsKnown : Terms → Type 0
  TermsKnown args = Known env s (terms_uses args) (terms_written args)

  abbrev CallKnown : Option Builtin → Terms → Type 0
  CallKnown o args = Known env s (terms_uses args) (call_written o args)

  known-first : (a : Term) (rest : Terms) → TermsKnown (More a rest) → Known env s (term_uses a) (term_written a) × TermsKnown rest
  known-first a rest k = known-parts env s (term_uses a) (terms_uses rest) (term_written a) (terms_written rest) k

  arguments-sound : (args : Terms) → AllReady args → TermsKnown args → AllByRecursion (IsArgument env s agrees) (typing_all env args)
  arguments-sound Nothing r k = tt
  arguments-sound (More a rest) r k = let (here, later) = known-first a rest k in (r.0 here, arguments-sound rest r.2 later)

  literals-known : (o : Option Builtin) → ((at : ℕ) (bytes : List ℕ) → first_written o at bytes ≡ literal at bytes) → (args : Terms) → CallKnown o args → TermsKnown args
  literals-known o is Nothing k = k
  literals-known o is (More (Text at bytes) rest) k = rw (is at bytes) at k
  literals-known o is (More a rest) k = k

  plain-call : (up : ℕ) (b : Builtin) → IsPlain b → (args : Terms) → AllReady args → CallKnown (Some b) args → Gives (IsOperand env s) (builtin_call env up b (typing_all env args) args)
  plain-call up b p args r k =
      subst (Gives (IsOperand env s)) (sym (plain-same env up (typing_all env args) b p args))
      (plain-sound env s agrees up b (typing_all env args) (arguments-sound args r (literals-known (Some b) (plain-written b p) args k)))

  -- ---- allocations

  one-counts : Gives (IsInteger env s) (Ok (one env))
  one-counts = given (IsInteger env s) (one env) (one-value env s agrees, refl)

  counted-argument : (up : ℕ) (e : Term) → Gives (IsOperand env s) (typing env e) → Gives (IsInteger env s) (counted env (first_token e) up (typing env e))
  counted-argument up e h = counted-sound env s agrees (first_token e) up (typing env e) h

  bytes-call : (up : ℕ) (e : Term) → Has s.types.types (pointer_to char) → Ready e → TermsKnown (More e Nothing)
      → Gives (IsOperand env s) (and_then (counted env (first_token e) up (typing env e)) (λ v. Ok (bytes_allocated env v)))
  bytes-call up e has r k = bytes-sound env s agrees (counted env (first_token e) up (typing env e)) has (counted-argument up e (r (known-first e Nothing k).0))

  malloc-call : (up : ℕ) (args : Terms) → Has s.types.types (pointer_to char) → AllReady args → CallKnown (Some builtin.Malloc) args
      → Gives (IsOperand env s) (builtin_call env up builtin.Malloc (typing_all env args) args)
  malloc-call up (More (SizeOf at t) Nothing) has r k = allocated-sound env s agrees at t false (Ok (one env)) (used-name env s agrees t k.uses) one-counts
  malloc-call up (More (Operated binary.Multiply e (SizeOf at t)) Nothing) has r k =
      let (ke, kt) = known-two env s e (SizeOf at t) (known-first (Operated binary.Multiply e (SizeOf at t)) Nothing k).0 in
      allocated-sound env s agrees at t false (counted env (first_token e) up (typing env e)) (used-name env s agrees t kt.uses) (counted-argument up e (r.1.0 ke))
  malloc-call up (More (Operated binary.Multiply (SizeOf at t) e) Nothing) has r k =
      let (kt, ke) = known-two env s (SizeOf at t) e (known-first (Operated binary.Multiply (SizeOf at t) e) Nothing k).0 in
      allocated-sound env s agrees at t false (counted env (first_token e) up (typing env e)) (used-name env s agrees t kt.uses) (counted-argument up e (r.1.1 ke))
  malloc-call up (More e Nothing) has r k = bytes-call up e has r.0 k
  malloc-call up args has r k = faulty _ _

  calloc-call : (up : ℕ) (args : Terms) → AllReady args → TermsKnown args → Gives (IsOperand env s) (builtin_call env up builtin.Calloc (typing_all env args) args)
  calloc-call up (More e (More (SizeOf at t) Nothing)) r k =
      let (ke, rest) = known-first e (More (SizeOf at t) Nothing) k in
      allocated-sound env s agrees at t true (counted env (first_token e) up (typing env e)) (used-name env s agrees t rest.uses) (counted-argument up e (r.0 ke))
  calloc-call up args r k = faulty _ _

  -- ---- calls that look at how their arguments are written

  printf-call : (up : ℕ) (args : Terms) → AllReady args → CallKnown (Some builtin.Printf) args → Gives (IsOperand env s) (builtin_call env up builtin.Printf (typing_all env args) args)
  printf-call up (More (Text at bytes) args) r k =
      printed-sound env s agrees up bytes (typing_all env args) (arguments-sound args r.2 (record { uses = k.uses.1; written = k.written }))
  printf-call up args r k = faulty _ _

  init-call : (up : ℕ) (args : Terms) → AllReady args → TermsKnown args → Gives (IsOperand env s) (builtin_call env up builtin.InitMutex (typing_all env args) args)
  init-call up (More p (More (NullTerm at) Nothing)) r k =
      asks-pointer-sound env s agrees up request.InitMutex mutex (argument p (typing env p)) (mutex-request env s agrees) (r.0 (known-first p (More (NullTerm at) Nothing) k).0)
  init-call up args r k = faulty _ _

  create-call : (up : ℕ) (args : Terms) → AllReady args → TermsKnown args → Gives (IsOperand env s) (builtin_call env up builtin.Create (typing_all env args) args)
  create-call up (More (Named f) (More e Nothing)) r k = created-sound env s agrees up f (argument e (typing env e)) (r.2.0 (known-first e Nothing k).0)
  create-call up args r k = faulty _ _

  update-call : (up : ℕ) (args : Terms) → CallKnown (Some builtin.Update) args → Gives (IsOperand env s) (builtin_call env up builtin.Update (typing_all env args) args)
  update-call up (More (Text at bytes) Nothing) k = updated-sound env s agrees up bytes k.written.0
  update-call up args k = faulty _ _

  updating-call : (up : ℕ) (args : Terms) → CallKnown (Some builtin.IsUpdatingFrom) args → Gives (IsOperand env s) (builtin_call env up builtin.IsUpdatingFrom (typing_all env args) args)
  updating-call up (More (Text at bytes) Nothing) k = updating-sound env s agrees up bytes k.written.0
  updating-call up args k = faulty _ _

  migrate-call : (up : ℕ) (args : Terms) → Gives (IsOperand env s) (builtin_call env up builtin.MigrateLocal (typing_all env args) args)
  migrate-call up (More (Named n) Nothing) = migrated-sound env s agrees up n
  migrate-call up (More e Nothing) = faulty _ _
  migrate-call up args = faulty _ _

  builtin-sound : (up : ℕ) (b : Builtin) (args : Terms) → (b ≡ builtin.Malloc → Has s.types.types (pointer_to char)) → AllReady args → CallKnown (Some b) args
      → Gives (IsOperand env s) (builtin_call env up b (typing_all env args) args)
  builtin-sound up builtin.Malloc args m r k = malloc-call up args (m refl) r k
  builtin-sound up builtin.Calloc args m r k = calloc-call up args r (literals-known (Some builtin.Calloc) (λ at bytes. refl) args k)
  builtin-sound up builtin.Printf args m r k = printf-call up args r k
  builtin-sound up builtin.InitMutex args m r k = init-call up args r (literals-known (Some builtin.InitMutex) (λ at bytes. refl) args k)
  builtin-sound up builtin.Create args m r k = create-call up args r (literals-known (Some builtin.Create) (λ at bytes. refl) args k)
  builtin-sound up builtin.Update args m r k = update-call up args k
  builtin-sound up builtin.IsUpdatingFrom args m r k = updating-call up args k
  builtin-sound up builtin.MigrateLocal args m r k = migrate-call up args
  builtin-sound up builtin.Free args m r k = plain-call up builtin.Free tt args r k
  builtin-sound up builtin.GetChar args m r k = plain-call up builtin.GetChar tt args r k
  builtin-sound up builtin.PutChar args m r k = plain-call up builtin.PutChar tt args r k
  builtin-sound up builtin.Puts args m r k = plain-call up builtin.Puts tt args r k
  builtin-sound up builtin.Lock args m r k = plain-call up builtin.Lock tt args r k
  builtin-sound up builtin.Unlock args m r k = plain-call up builtin.Unlock tt args r k
  builtin-sound up builtin.Join args m r k = plain-call up builtin.Join tt args r k
  builtin-sound up builtin.IsUpdating args m r k = plain-call up builtin.IsUpdating tt args r k
  builtin-sound up builtin.Automigrate args m r k = plain-call up builtin.Automigrate tt args r k

  -- ---- calls

  bytes-there : (n : Name) → AllByRecursion (HasUse env.names s.types.types) (called_uses n) → builtin_named n.word ≡ Some builtin.Malloc → Has s.types.types (pointer_to char)
  bytes-there n h e = (rw (malloc-named n.word e) at h).0

  call-by : (n : Name) (args : Terms) (o : Option Builtin) → builtin_named n.word ≡ o → AllReady args → AllByRecursion (HasUse env.names s.types.types) (called_uses n) → CallKnown o args
      → Gives (IsOperand env s) (elim o as (λ _. Checked Operand) [
        | None ↦ and_then (callable env n) (λ d. called_function env n.at d (typing_all env args))
        | (Some b) ↦ builtin_call env n.at b (typing_all env args) args
      ])
  call-by n args None e r u k = function-sound env s agrees n (typing_all env args) (arguments-sound args r (literals-known None (λ at bytes. refl) args k))
  call-by n args (Some b) e r u k = builtin-sound n.at b args (λ is. bytes-there n u (subst (λ c. builtin_named n.word ≡ Some c) is e)) r k

  unhidden-by : (n : Name) (args : Terms) (l : Option ℕ) → AllReady args → AllByRecursion (HasUse env.names s.types.types) (called_uses n) → CallKnown (builtin_named n.word) args
      → Gives (IsOperand env s) (elim l as (λ _. Checked Operand) [
        | (Some x) ↦ fault (BadType n.at)
        | None ↦ elim (builtin_named n.word) as (λ _. Checked Operand) [
          | None ↦ and_then (callable env n) (λ d. called_function env n.at d (typing_all env args))
          | (Some b) ↦ builtin_call env n.at b (typing_all env args) args
        ]
      ])
  unhidden-by n args None r u k = call-by n args (builtin_named n.word) refl r u k
  unhidden-by n args (Some x) r u k = faulty _ _

  call-sound : (n : Name) (args : Terms) → AllReady args → Ready (Called n args)
  call-sound n args r k =
      let (u, known) = known-parts env s (called_uses n) (terms_uses args) [] (call_written (builtin_named n.word) args) (rw (written-of-call n args) at k) in
      unhidden-by n args (local_named env.visible n.word) r u.uses known

  -- ---- expressions

  two-sound : {B : Type 0} (P : B → Type 0) (a b : Term) (k : Operand × Operand → Checked B) → Gives (IsOperand env s) (typing env a) → Gives (IsOperand env s) (typing env b)
      → ((x y : Operand) → IsOperand env s x → IsOperand env s y → Gives P (k (x, y))) → Gives P (and_then (both (typing env a) (typing env b)) k)
  two-sound P a b k h g then =
      afterwards (λ x. IsOperand env s x.0 × IsOperand env s x.1) P (both (typing env a) (typing env b)) k (pair (IsOperand env s) (IsOperand env s) _ _ h g) (λ x p. then x.0 x.1 p.0 p.1)

  one-sound : (a : Term) (k : Operand → Checked Operand) → Gives (IsOperand env s) (typing env a) → ((x : Operand) → IsOperand env s x → Gives (IsOperand env s) (k x))
      → Gives (IsOperand env s) (and_then (typing env a) k)
  one-sound a k h then = afterwards (IsOperand env s) (IsOperand env s) (typing env a) k h then

  choice-ready : (c a b : Term) → Ready c → Ready a → Ready b → Ready (Chosen c a b)
  choice-ready c a b f g h k =
      let (kc, arms) = known-parts env s (term_uses c) (term_uses a ++ term_uses b) (term_written c) (term_written a ++ term_written b) k in
      let (ka, kb) = known-two env s a b arms in
      afterwards (λ x. IsOperand env s x.0 × (IsOperand env s x.1.0 × IsOperand env s x.1.1)) (IsOperand env s) (both (typing env c) (both (typing env a) (typing env b)))
      (λ x. choice env (first_token c) (first_token a) (first_token b) x.0 x.1.0 x.1.1)
      (pair (IsOperand env s) (λ y. IsOperand env s y.0 × IsOperand env s y.1) _ _ (f kc) (pair (IsOperand env s) (IsOperand env s) _ _ (g ka) (h kb)))
      (λ x p. choice-sound env s agrees (first_token c) (first_token a) (first_token b) x.0 x.1.0 x.1.1 p.0 p.1.0 p.1.1)

  byte-small : (b : ℕ) → nat_lt b 256 ≡ true → nat_lt b (2 ^ 31) ≡ true
  byte-small b e = let lt = ltb-true b 256 e in lt-ltb b (2 ^ 31) (omega arith)

  character-sound : (at b : ℕ) → Gives (IsOperand env s) (character env at b)
  character-sound at b = if-test (IsOperand env s) (nat_lt b 256) _ _ (λ is. given (IsOperand env s) _ (int-number env s agrees (pos b) (byte-small b is)))

  mutual
    pub typing-sound : (e : Term) → Ready e
    typing-sound (Constant at n) k = number-sound env s agrees at n
    typing-sound (Character at b) k = character-sound at b
    typing-sound (Text at bytes) k = given _ _ (string-sound env s agrees at k.written.0 k.uses.0)
    typing-sound (NullTerm at) k = given _ _ k.uses.0
    typing-sound (Eof at) k = given _ _ (int-number env s agrees (negsuc 0) refl)
    typing-sound (Named n) k = named-sound env s agrees n
    typing-sound (Called n args) k = call-sound n args (all-ready args) k
    typing-sound (Parenthesised at a) k = typing-sound a k
    typing-sound (SizeOf at t) k = faulty _ _
    typing-sound (RuleValue at w) k = faulty _ _
    typing-sound (OldSymbol at n) k = faulty _ _
    typing-sound (NewObject at f) k = faulty _ _
    typing-sound (Transformed at a) k = faulty _ _
    typing-sound (Element a i) k =
        let (ka, ki) = known-two env s a i k in
        two-sound (IsOperand env s) a i (λ x. element env (first_token a) (first_token i) x.0 x.1) (typing-sound a ka) (typing-sound i ki) (λ x y. element-sound env s agrees (first_token a) (first_token i) x y)
    typing-sound (Member a f) k = one-sound a (λ x. member env (first_token a) x f) (typing-sound a k) (λ x h. member-sound env s agrees (first_token a) x f h)
    typing-sound (Pointed a f) k = one-sound a (λ x. pointed env (first_token a) x f) (typing-sound a k) (λ x h. pointed-sound env s agrees (first_token a) x f h)
    typing-sound (Stepped a op) k =
        one-sound a (λ x. changed env (first_token a) true (step_operator op) x (one env)) (typing-sound a k)
        (λ x h. changed-sound env s agrees (first_token a) true (step_operator op) x (one env) h (one-value env s agrees))
    typing-sound (Prefixed at op a) k = one-sound a (λ x. unary env at (first_token a) op x) (typing-sound a k) (λ x h. unary-sound env s agrees at (first_token a) op x h)
    typing-sound (Converted at t a) k =
        let (kt, ka) = known-parts env s (named_uses t) (term_uses a) [] (term_written a) k in
        one-sound a (λ x. cast env at (first_token a) t (is_allocation a) x) (typing-sound a ka) (λ x h. cast-sound env s agrees at (first_token a) t (is_allocation a) x h)
    typing-sound (Operated op a b) k =
        let (ka, kb) = known-two env s a b k in
        two-sound (IsOperand env s) a b (λ x. operator env (first_token a) (first_token b) op x.0 x.1) (typing-sound a ka) (typing-sound b kb)
        (λ x y. operator-sound env s agrees (first_token a) (first_token b) op x y)
    typing-sound (Chosen c a b) k = choice-ready c a b (typing-sound c) (typing-sound a) (typing-sound b) k
    typing-sound (Assigned op a b) k =
        let (ka, kb) = known-two env s a b k in
        two-sound (IsOperand env s) a b (λ x. assignment env (first_token a) (first_token b) op x.0 x.1) (typing-sound a ka) (typing-sound b kb)
        (λ x y. assignment-sound env s agrees (first_token a) (first_token b) op x y)

    below : (e : Term) → Below e
    below (Operated op a b) = (typing-sound a, typing-sound b)
    below _ = tt

    all-ready : (args : Terms) → AllReady args
    all-ready Nothing = tt
    all-ready (More a rest) = (typing-sound a, below a, all-ready rest)
