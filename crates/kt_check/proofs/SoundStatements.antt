-- Statements and blocks: what typing gives fits where it stands.
use Rattle.std.proofs.Common.{◌≡◌, ℕ, suc, ◌<◌, ◌&&◌, ◌||◌, not, Bool, true, false, List, [], ◌∷◌, ◌++◌, flat_map, map, take, length, slice_get, Option, Some, None, Ok, if◌then◌else◌, refl, sym, ap, ◌∙◌, subst, lt-ltb}
use Rattle.std.proofs.lemmas.Bool.{and_from, true≢false}
use Rattle.std.proofs.lemmas.Option.{slice_get_within}
use Rattle.std.specs.Option.{is_some, option_map}
use Rattle.std.specs.List.{AllByRecursion}
use Rattle.std.specs.Str.{bytes_eq}
use Rattle.kt_grammar.specs.declared.tree.Base.{Base}
use Rattle.kt_grammar.specs.declared.tree.Name.{Name}
use Rattle.kt_grammar.specs.Tree.{Term}
use Rattle.kt_syntax.specs.Tree.{Local, Declaration, Start, NoStart, Declares, Evaluates, Statement as Syntax, Declared, Compound as Block, Empty, Evaluated as Expr, Returned as Return, Broken as Break, Continued as Continue, Conditional as If, Alternative as IfElse, Looped as While, Repeated as Do, Counted as For, Statements as Entries, Nothing as NoEntries, More as Entry}
use Rattle.kt_tree.specs.Kinds.{Scope}
use Rattle.kt_tree.specs.Typed.{kind, is_condition, all_of, fits, all_fit}
use Rattle.kt_tree.specs.Tree.{Expression, LocalSet, Statement, Evaluated, Undefined, Compound, Conditional, Looped, Repeated, Returned, Broken, Continued, Statements, Done, Then}
use Rattle.kt_names.specs.declared.ctype.CType.{CType}
use Rattle.kt_names.specs.declared.fault.CheckFault.TheVariants.{BadType}
use Rattle.kt_names.specs.Checked.{Checked, fault, and_then, holds}
use Rattle.kt_names.specs.Environment.{local_named}
use Rattle.kt_names.specs.Operands.{Operand, NoResult, scalar, convert}
use Rattle.kt_names.specs.Builtins.{builtin_named}
use Rattle.kt_names.specs.Terms.{typing, first_token}
use Rattle.kt_names.specs.Types.{is_scalar, ctype}
use Rattle.kt_names.specs.Uses.{Use, stars_of, where_there, term_uses, local_uses, declaration_uses, start_uses, statement_uses, statements_uses}
use Rattle.kt_names.specs.Tables.{Written, DeclaredLocal, locals_in, start_locals, statement_locals, block_locals, term_written, declaration_written, start_written, statement_written, block_written}
use Rattle.kt_names.specs.Statements.{Body, State, here, entered, contains, declared, declarator_place, base_for, held, pointer_outside, new_name, initial, local, locals_from, locals, before, effect, effect_of, condition, perhaps, returned, start, statement, entries}
use Rattle.kt_terms.proofs.Agrees.{Agrees, ResultHolds, Known}
use Rattle.kt_terms.proofs.Gives.{Gives, given, faulty, if-test, by-test, afterwards, pair, when-held, anything}
use Rattle.kt_terms.proofs.SoundTypes.{number-itself, scalar-there}
use Rattle.kt_terms.proofs.SoundOperands.{ValueOf, IsOperand, IsValue, scalar-sound, convert-sound}
use Rattle.kt_terms.proofs.SoundCalls.{known-parts}
use Rattle.kt_terms.proofs.SoundTerms.{typing-sound}

-- ---- locals, each with its number

-- P of each, with the numbers from n
abbrev pub Each : (ℕ → DeclaredLocal → Type 0) → ℕ → List DeclaredLocal → Type 0
Each P n [] = Unit {0}
Each P n (l ∷ ls) = P n l × Each P (suc n) ls

-- the number behind all of them
abbrev pub after : ℕ → List DeclaredLocal → ℕ
after n [] = n
after n (l ∷ ls) = after (suc n) ls

module _ (P : ℕ → DeclaredLocal → Type 0) where
  pub each-first : (n : ℕ) (xs ys : List DeclaredLocal) → Each P n (xs ++ ys) → Each P n xs
  each-first n [] ys h = tt
  each-first n (x ∷ xs) ys h = (h.0, each-first (suc n) xs ys h.1)

  pub each-second : (n : ℕ) (xs ys : List DeclaredLocal) → Each P n (xs ++ ys) → Each P (after n xs) ys
  each-second n [] ys h = h
  each-second n (x ∷ xs) ys h = each-second (suc n) xs ys h.1

  pub each-both : (n : ℕ) (xs ys : List DeclaredLocal) → Each P n xs → Each P (after n xs) ys → Each P n (xs ++ ys)
  each-both n [] ys h k = k
  each-both n (x ∷ xs) ys h k = (h.0, each-both (suc n) xs ys h.1 k)

pub after-both : (n : ℕ) (xs ys : List DeclaredLocal) → after n (xs ++ ys) ≡ after (after n xs) ys
after-both n [] ys = refl
after-both n (x ∷ xs) ys = after-both (suc n) xs ys

module _ (body : Body) (s : Scope) (agrees : Agrees body.environment s) (gives : ResultHolds s.types.types body.result) where
  -- a local stands in the list of all at its number
  abbrev pub Stands : ℕ → DeclaredLocal → Type 0
  Stands n l = slice_get body.environment.locals n ≡ Some l.ty

  -- a local is an integer or a pointer; in a function with `E_NOTELOCALS` none before it has its name
  abbrev pub IsNew : ℕ → DeclaredLocal → Type 0
  IsNew n l = (is_scalar l.ty ≡ true) × (body.environment.noted ≡ true → contains (take n body.names) l.name ≡ false)

  -- each local in scope is an integer or a pointer
  abbrev pub Sees : State → Type 0
  Sees st = (n : List ℕ) (x : ℕ) → local_named st.visible n ≡ Some x → (t : CType) × (slice_get body.environment.locals x ≡ Some t) × (is_scalar t ≡ true)

  here-agrees : (st : State) → Sees st → Agrees (here body st) s
  here-agrees st sees = record {
    place = agrees.place;
    scalars = agrees.scalars;
    complete = agrees.complete;
    fields = agrees.fields;
    globals = agrees.globals;
    functions = agrees.functions;
    locals = agrees.locals;
    count = agrees.count;
    visible = sees;
    noted = agrees.noted;
  }

  abbrev pub KnownIn : List Use → List Written → Type 0
  KnownIn us ws = Known body.environment s us ws

  here-known : (st : State) (us : List Use) (ws : List Written) → KnownIn us ws → Known (here body st) s us ws
  here-known st us ws k = record { uses = k.uses; written = k.written }

  abbrev KnownTerm : Term → Type 0
  KnownTerm e = KnownIn (term_uses e) (term_written e)

  abbrev KnownIf : Option Term → Type 0
  KnownIf e = KnownIn (where_there term_uses e) (where_there term_written e)

  term-sound : (st : State) (e : Term) → Sees st → KnownTerm e → Gives (IsOperand body.environment s) (typing (here body st) e)
  term-sound st e sees k = typing-sound (here body st) s (here-agrees st sees) e (here-known st (term_uses e) (term_written e) k)

  -- ---- declarations

  abbrev pub result : Option ℕ
  result = option_map body.environment.place body.result

  abbrev pub Fits : Bool → Statement → Type 0
  Fits in_loop v = fits s result in_loop v ≡ true

  pub sees-more : (st : State) (name : List ℕ) (t : CType) → Sees st → slice_get body.environment.locals st.next ≡ Some t → is_scalar t ≡ true → Sees (declared st name)
  sees-more st name t sees at is n x e = by (bytes_eq name n) refl
    where
      by : (b : Bool) → bytes_eq name n ≡ b → (u : CType) × (slice_get body.environment.locals x ≡ Some u) × (is_scalar u ≡ true)
      by true same =
          let found : Some st.next ≡ Some x = rw same at e in
          let number : st.next ≡ x = cc in
          (t, rw (← number) at, is)
      by false other = sees n x (rw other at e)

  initial-sound : (in_loop : Bool) (st : State) (x : ℕ) (t : CType) (up : ℕ) (e : Option Term) → Sees st → slice_get body.environment.locals x ≡ Some t → KnownIf e
      → Gives (Fits in_loop) (initial body st x t up e)
  initial-sound in_loop st x t up None sees at k =
      let below : x < length s.locals = rw agrees.count (slice_get_within body.environment.locals x t at) in
      given (Fits in_loop) (Undefined x) (lt-ltb x (length s.locals) below)
  initial-sound in_loop st x t up (Some e) sees at k =
      let (there, has) = agrees.locals x t at in
      afterwards (IsOperand body.environment s) (Fits in_loop) (typing (here body st) e) _ (term-sound st e sees k)
      (λ o h. afterwards (ValueOf body.environment s t) (Fits in_loop) (convert (here body st) t (first_token e) up o) (λ v. Ok (Evaluated (LocalSet x v)))
      (convert-sound (here body st) s (here-agrees st sees) t (first_token e) up o has h)
      (λ v g. given (Fits in_loop) (Evaluated (LocalSet x v)) (rw (there, g.0, number-itself (body.environment.place t)) refl)))

  not-false : (b : Bool) → not b ≡ true → b ≡ false
  not-false true e = absurd (true≢false (sym e))
  not-false false e = refl

  pub name-sound : (st : State) (n : Name) → Gives (λ _. body.environment.noted ≡ true → contains (take st.next body.names) n.word ≡ false) (new_name body st n)
  name-sound st n =
      by-test (λ _. body.environment.noted ≡ true → contains (take st.next body.names) n.word ≡ false) (is_some (builtin_named n.word) || contains st.own n.word) _ _ (λ is. faulty _ _)
      (λ other. record {
        gives = λ u e noted.
            not-false (contains (take st.next body.names) n.word)
            (rw noted at ((when-held (not (body.environment.noted && contains (take st.next body.names) n.word)) _).gives u e));
      })

  -- what comes of some of a body's text: statements that fit, locals that are new, and the scope behind
  abbrev Comes : Bool → ℕ → List DeclaredLocal → List Statement × State → Type 0
  Comes in_loop n ls y = AllByRecursion (Fits in_loop) y.0 × Sees y.1 × (y.1.next ≡ after n ls) × Each IsNew n ls

  abbrev local_in : Base → Local → DeclaredLocal
  local_in b l = record { name = l.name.word; ty = ctype body.environment.names b (stars_of l.pointer); base = b; pointer = l.pointer }

  local-sound : (in_loop : Bool) (st : State) (b : Base) (l : Local) → Sees st → Stands st.next (local_in b l) → KnownIf l.initial
      → Gives (λ y. Fits in_loop y.0 × (y.1 ≡ declared st l.name.word) × Sees y.1 × IsNew st.next (local_in b l)) (local body st b l)
  local-sound in_loop st b l sees at k =
      let t = ctype body.environment.names b (stars_of l.pointer) in
      let New : Unit {0} → Type 0 = λ _. body.environment.noted ≡ true → contains (take st.next body.names) l.name.word ≡ false in
      let First : Statement → Type 0 = λ v. is_scalar t ≡ true → Fits in_loop v in
      afterwards (λ x. (is_scalar t ≡ true) × (Unit {0} × (New x.1.1.0 × First x.1.1.1)))
      (λ y. Fits in_loop y.0 × (y.1 ≡ declared st l.name.word) × Sees y.1 × IsNew st.next (local_in b l)) _ (λ x. Ok (x.1.1.1, declared st l.name.word))
      (pair (λ _. is_scalar t ≡ true) (λ x. Unit {0} × (New x.1.0 × First x.1.1)) (held (here body st) b l.pointer l.name) _ (when-held (is_scalar t) _)
      (pair (λ _. Unit {0}) (λ x. New x.0 × First x.1) (pointer_outside (here body st) l.pointer) _ (anything _)
      (pair New First (new_name body st l.name) (initial body (declared st l.name.word) st.next t (declarator_place l.pointer l.name) l.initial) (name-sound st l.name)
      (record {
        gives = λ v e is.
            (initial-sound in_loop (declared st l.name.word) st.next t (declarator_place l.pointer l.name) l.initial (sees-more st l.name.word t sees at is) at k).gives v e;
      }))))
      (λ x h. given (λ y. Fits in_loop y.0 × (y.1 ≡ declared st l.name.word) × Sees y.1 × IsNew st.next (local_in b l)) (x.1.1.1, declared st l.name.word)
      (h.1.1.1 h.0, refl, sees-more st l.name.word t sees at h.0, (h.0, h.1.1.0)))

  locals-known : (b : Base) (l : Local) (rest : List Local)
      → KnownIn (flat_map (local_uses b) (l ∷ rest)) (flat_map (λ l. where_there term_written l.initial) (l ∷ rest))
      → KnownIf l.initial × KnownIn (flat_map (local_uses b) rest) (flat_map (λ l. where_there term_written l.initial) rest)
  locals-known b l rest k =
      let (one, more) = known-parts body.environment s (local_uses b l) (flat_map (local_uses b) rest) (where_there term_written l.initial) (flat_map (λ l. where_there term_written l.initial) rest) k in
      (record { uses = one.uses.1; written = one.written }, more)

  locals-from-sound : (in_loop : Bool) (st : State) (b : Base) (ls : List Local) → Sees st → Each Stands st.next (map (local_in b) ls)
      → KnownIn (flat_map (local_uses b) ls) (flat_map (λ l. where_there term_written l.initial) ls)
      → Gives (Comes in_loop st.next (map (local_in b) ls)) (locals_from body st b ls)
  locals-from-sound in_loop st b [] sees at k = given (Comes in_loop st.next []) ([], st) (tt, sees, refl, tt)
  locals-from-sound in_loop st b (l ∷ rest) sees at k =
      let (first, more) = locals-known b l rest k in
      afterwards (λ y. Fits in_loop y.0 × (y.1 ≡ declared st l.name.word) × Sees y.1 × IsNew st.next (local_in b l)) (Comes in_loop st.next (map (local_in b) (l ∷ rest))) (local body st b l) _
      (local-sound in_loop st b l sees at.0 first)
      (λ x h. let next : suc st.next ≡ x.1.next = ap (λ (z : State). z.next) (sym h.1) in
      afterwards (Comes in_loop x.1.next (map (local_in b) rest)) (Comes in_loop st.next (map (local_in b) (l ∷ rest))) (locals_from body x.1 b rest) (λ y. Ok (x.0 ∷ y.0, y.1))
      (locals-from-sound in_loop x.1 b rest h.2 (subst (λ n. Each Stands n (map (local_in b) rest)) next at.1) more)
      (λ y g. given (Comes in_loop st.next (map (local_in b) (l ∷ rest))) (x.0 ∷ y.0, y.1)
      ((h.0, g.0), g.1, g.2 ∙ ap (λ n. after n (map (local_in b) rest)) (sym next), (h.3, subst (λ n. Each IsNew n (map (local_in b) rest)) (sym next) g.3))))

  locals-sound : (in_loop : Bool) (st : State) (d : Declaration) → Sees st → Each Stands st.next (locals_in body.environment.names d) → KnownIn (declaration_uses d) (declaration_written d)
      → Gives (Comes in_loop st.next (locals_in body.environment.names d)) (locals body st d)
  locals-sound in_loop st d sees at k =
      afterwards (λ _. Unit {0}) (Comes in_loop st.next (locals_in body.environment.names d)) (base_for (here body st) d.base (map (λ l. stars_of l.pointer) d.locals)) (λ x. locals_from body st d.base d.locals)
      (anything _) (λ x u. locals-from-sound in_loop st d.base d.locals sees at k)

  -- ---- expressions as parts of statements

  effect-sound : (st : State) (at : ℕ) (o : Operand) → Sees st → IsOperand body.environment s o → Gives (λ e. is_some (kind s e) ≡ true) (effect (here body st) at o)
  effect-sound st at (NoResult e) sees h = given _ _ (rw h refl)
  effect-sound st at o sees h = effect-value st at o sees h
    where
      effect-value : (st : State) (at : ℕ) (o : Operand) → Sees st → IsOperand body.environment s o → Gives (λ e. is_some (kind s e) ≡ true) (and_then (scalar (here body st) at at o) (λ v. Ok v.expression))
      effect-value st at o sees h =
          afterwards (IsValue body.environment s) (λ e. is_some (kind s e) ≡ true) (scalar (here body st) at at o) (λ v. Ok v.expression) (scalar-sound (here body st) s (here-agrees st sees) at at o h)
          (λ v k. given (λ e. is_some (kind s e) ≡ true) v.expression (rw (k.0) refl))

  effect-of-sound : (st : State) (e : Term) → Sees st → KnownTerm e → Gives (λ v. is_some (kind s v) ≡ true) (effect_of (here body st) e)
  effect-of-sound st e sees k =
      afterwards (IsOperand body.environment s) (λ v. is_some (kind s v) ≡ true) (typing (here body st) e) (effect (here body st) (first_token e)) (term-sound st e sees k)
      (λ o h. effect-sound st (first_token e) o sees h)

  condition-sound : (st : State) (e : Term) → Sees st → KnownTerm e → Gives (λ v. is_condition s v ≡ true) (condition (here body st) e)
  condition-sound st e sees k =
      afterwards (IsOperand body.environment s) (λ v. is_condition s v ≡ true) (typing (here body st) e) _ (term-sound st e sees k)
      (λ o h. afterwards (IsValue body.environment s) (λ v. is_condition s v ≡ true) (scalar (here body st) (first_token e) (first_token e) o) (λ v. Ok v.expression)
      (scalar-sound (here body st) s (here-agrees st sees) (first_token e) (first_token e) o h)
      (λ v g. given (λ v. is_condition s v ≡ true) v.expression (rw (g.0) (scalar-there body.environment s agrees v.ty g.1))))

  perhaps-sound : (test : Expression → Bool) (f : Term → Checked Expression) (e : Option Term) → ((x : Term) → KnownTerm x → Gives (λ v. test v ≡ true) (f x)) → KnownIf e
      → Gives (λ o. all_of test o ≡ true) (perhaps f e)
  perhaps-sound test f None h k = given (λ o. all_of test o ≡ true) None refl
  perhaps-sound test f (Some x) h k =
      afterwards (λ v. test v ≡ true) (λ o. all_of test o ≡ true) (f x) (λ y. Ok (Some y)) (h x k) (λ v g. given (λ o. all_of test o ≡ true) (Some v) g)

  -- ---- what is returned

  nothing-returned : (in_loop : Bool) (at : ℕ) (r : Option CType) → Gives (λ v. fits s (option_map body.environment.place r) in_loop v ≡ true) (if is_some r then fault (BadType at) else Ok (Returned None))
  nothing-returned in_loop at None = given _ _ refl
  nothing-returned in_loop at (Some t) = faulty _ _

  value-returned : (in_loop : Bool) (st : State) (at : ℕ) (e : Term) (r : Option CType) → Sees st → KnownTerm e → ResultHolds s.types.types r
      → Gives (λ v. fits s (option_map body.environment.place r) in_loop v ≡ true) (elim r as (λ _. Checked Statement) [
        | None ↦ fault (BadType at)
        | (Some t) ↦ and_then (typing (here body st) e) (λ o. and_then (convert (here body st) t (first_token e) (first_token e) o) (λ v. Ok (Returned (Some v))))
      ])
  value-returned in_loop st at e None sees k holds = faulty _ _
  value-returned in_loop st at e (Some t) sees k holds =
      afterwards (IsOperand body.environment s) (λ v. fits s (Some (body.environment.place t)) in_loop v ≡ true) (typing (here body st) e) _ (term-sound st e sees k)
      (λ o h. afterwards (ValueOf body.environment s t) (λ v. fits s (Some (body.environment.place t)) in_loop v ≡ true) (convert (here body st) t (first_token e) (first_token e) o) (λ v. Ok (Returned (Some v)))
      (convert-sound (here body st) s (here-agrees st sees) t (first_token e) (first_token e) o holds.0 h)
      (λ v g. given (λ v. fits s (Some (body.environment.place t)) in_loop v ≡ true) (Returned (Some v)) (rw (g.0) (number-itself (body.environment.place t)))))

  returned-sound : (in_loop : Bool) (st : State) (at : ℕ) (e : Option Term) → Sees st → KnownIf e → Gives (Fits in_loop) (returned body st at e)
  returned-sound in_loop st at None sees k = nothing-returned in_loop at body.result
  returned-sound in_loop st at (Some e) sees k = value-returned in_loop st at e body.result sees k gives

  -- ---- what stands first in a `for`

  start-sound : (in_loop : Bool) (st : State) (x : Start) → Sees st → Each Stands st.next (start_locals body.environment.names x) → KnownIn (start_uses x) (start_written x)
      → Gives (Comes in_loop st.next (start_locals body.environment.names x)) (start body st x)
  start-sound in_loop st NoStart sees at k = given _ _ (tt, sees, refl, tt)
  start-sound in_loop st (Declares x) sees at k = locals-sound in_loop st x sees at k
  start-sound in_loop st (Evaluates e) sees at k =
      afterwards (λ v. is_some (kind s v) ≡ true) (Comes in_loop st.next []) (effect_of (here body st) e) (λ v. Ok (Evaluated v ∷ [], st)) (effect-of-sound st e sees k)
      (λ v h. given (Comes in_loop st.next []) (Evaluated v ∷ [], st) ((h, tt), sees, refl, tt))

  -- ---- statements

  -- a statement that fits, and how many locals are declared behind it
  abbrev pub IsPiece : Bool → ℕ → List DeclaredLocal → Statement × ℕ → Type 0
  IsPiece in_loop n ls x = Fits in_loop x.0 × (x.1 ≡ after n ls) × Each IsNew n ls

  abbrev pub IsBlock : Bool → ℕ → List DeclaredLocal → Statements × ℕ → Type 0
  IsBlock in_loop n ls x = (all_fit s result in_loop x.0 ≡ true) × (x.1 ≡ after n ls) × Each IsNew n ls

  abbrev names : List (List ℕ)
  names = body.environment.names

  abbrev pub IsSound : Syntax → Type 0
  IsSound a = (in_loop : Bool) (st : State) → Sees st → Each Stands st.next (statement_locals names a) → KnownIn (statement_uses a) (statement_written a)
      → Gives (IsPiece in_loop st.next (statement_locals names a)) (statement body in_loop st a)

  abbrev pub AreSound : Entries → Type 0
  AreSound es = (in_loop : Bool) (st : State) → Sees st → Each Stands st.next (block_locals names es) → KnownIn (statements_uses es) (block_written es)
      → Gives (IsBlock in_loop st.next (block_locals names es)) (entries body in_loop st es)

  before-fits : (in_loop : Bool) (ss : List Statement) (rest : Statements) → AllByRecursion (Fits in_loop) ss → all_fit s result in_loop rest ≡ true → all_fit s result in_loop (before ss rest) ≡ true
  before-fits in_loop [] rest h k = k
  before-fits in_loop (x ∷ ss) rest h k = and_from (fits s result in_loop x) (all_fit s result in_loop (before ss rest)) h.0 (before-fits in_loop ss rest h.1 k)

  declared-ready : (x : Declaration) → IsSound (Declared x)
  declared-ready x in_loop st sees at k =
      afterwards (Comes in_loop st.next (locals_in names x)) (IsPiece in_loop st.next (locals_in names x)) (locals body (entered st) x) (λ d. Ok (Compound (before d.0 Done), d.1.next))
      (locals-sound in_loop (entered st) x sees at k)
      (λ d h. given (IsPiece in_loop st.next (locals_in names x)) _ (before-fits in_loop d.0 Done h.0 refl, h.2, h.3))

  block-ready : (es : Entries) → AreSound es → IsSound (Block es)
  block-ready es ready in_loop st sees at k =
      afterwards (IsBlock in_loop st.next (block_locals names es)) (IsPiece in_loop st.next (block_locals names es)) (entries body in_loop (entered st) es) (λ x. Ok (Compound x.0, x.1))
      (ready in_loop (entered st) sees at k)
      (λ x h. given (IsPiece in_loop st.next (block_locals names es)) (Compound x.0, x.1) h)

  effect-ready : (e : Term) → IsSound (Expr e)
  effect-ready e in_loop st sees at k =
      afterwards (λ v. is_some (kind s v) ≡ true) (IsPiece in_loop st.next []) (effect_of (here body st) e) (λ v. Ok (Evaluated v, st.next)) (effect-of-sound st e sees k)
      (λ v h. given (IsPiece in_loop st.next []) (Evaluated v, st.next) (h, refl, tt))

  return-ready : (at : ℕ) (e : Option Term) → IsSound (Return at e)
  return-ready at e in_loop st sees stands k =
      afterwards (Fits in_loop) (IsPiece in_loop st.next []) (returned body st at e) (λ r. Ok (r, st.next)) (returned-sound in_loop st at e sees k)
      (λ r h. given (IsPiece in_loop st.next []) (r, st.next) (h, refl, tt))

  known-both : (us vs : List Use) (ws xs : List Written) → KnownIn (us ++ vs) (ws ++ xs) → KnownIn us ws × KnownIn vs xs
  known-both us vs ws xs k = known-parts body.environment s us vs ws xs k

  if-ready : (c : Term) (a : Syntax) → IsSound a → IsSound (If c a)
  if-ready c a ready in_loop st sees at k =
      let (kc, ka) = known-both (term_uses c) (statement_uses a) (term_written c) (statement_written a) k in
      let P = IsPiece in_loop st.next (statement_locals names a) in
      afterwards (λ v. is_condition s v ≡ true) P (condition (here body st) c) (λ v. and_then (statement body in_loop st a) (λ x. Ok (Conditional v x.0 (Compound Done), x.1))) (condition-sound st c sees kc)
      (λ v h. afterwards P P (statement body in_loop st a) (λ x. Ok (Conditional v x.0 (Compound Done), x.1)) (ready in_loop st sees at ka)
      (λ x g. given P (Conditional v x.0 (Compound Done), x.1) (and_from _ _ (and_from (is_condition s v) (fits s result in_loop x.0) h g.0) refl, g.1, g.2)))

  alternative-ready : (c : Term) (a b : Syntax) → IsSound a → IsSound b → IsSound (IfElse c a b)
  alternative-ready c a b ready other in_loop st sees at k =
      let (kc, rest) = known-both (term_uses c) (statement_uses a ++ statement_uses b) (term_written c) (statement_written a ++ statement_written b) k in
      let (ka, kb) = known-both (statement_uses a) (statement_uses b) (statement_written a) (statement_written b) rest in
      let la = statement_locals names a in
      let lb = statement_locals names b in
      let P = IsPiece in_loop st.next (la ++ lb) in
      afterwards (λ v. is_condition s v ≡ true) P (condition (here body st) c) _ (condition-sound st c sees kc)
      (λ v h. afterwards (IsPiece in_loop st.next la) P (statement body in_loop st a) _ (ready in_loop st sees (each-first Stands st.next la lb at) ka)
      (λ x g. afterwards (IsPiece in_loop x.1 lb) P (statement body in_loop (record st { next = x.1 }) b) (λ y. Ok (Conditional v x.0 y.0, y.1))
      (other in_loop (record st { next = x.1 }) sees (subst (λ n. Each Stands n lb) (sym g.1) (each-second Stands st.next la lb at)) kb)
      (λ y f. given P (Conditional v x.0 y.0, y.1) (
        and_from _ _ (and_from (is_condition s v) (fits s result in_loop x.0) h g.0) f.0,
        f.1 ∙ ap (λ n. after n lb) g.1 ∙ sym (after-both st.next la lb),
        each-both IsNew st.next la lb g.2 (subst (λ n. Each IsNew n lb) g.1 f.2),
      ))))

  while-ready : (c : Term) (a : Syntax) → IsSound a → IsSound (While c a)
  while-ready c a ready in_loop st sees at k =
      let (kc, ka) = known-both (term_uses c) (statement_uses a) (term_written c) (statement_written a) k in
      let P = IsPiece in_loop st.next (statement_locals names a) in
      afterwards (λ v. is_condition s v ≡ true) P (condition (here body st) c) (λ v. and_then (statement body true st a) (λ x. Ok (Looped (Some v) None x.0, x.1))) (condition-sound st c sees kc)
      (λ v h. afterwards (IsPiece true st.next (statement_locals names a)) P (statement body true st a) (λ x. Ok (Looped (Some v) None x.0, x.1)) (ready true st sees at ka)
      (λ x g. given P (Looped (Some v) None x.0, x.1) (and_from _ _ (and_from (is_condition s v) true h refl) g.0, g.1, g.2)))

  do-ready : (a : Syntax) (c : Term) → IsSound a → IsSound (Do a c)
  do-ready a c ready in_loop st sees at k =
      let (ka, kc) = known-both (statement_uses a) (term_uses c) (statement_written a) (term_written c) k in
      let P = IsPiece in_loop st.next (statement_locals names a) in
      afterwards (IsPiece true st.next (statement_locals names a)) P (statement body true st a) (λ x. and_then (condition (here body st) c) (λ v. Ok (Repeated x.0 v, x.1))) (ready true st sees at ka)
      (λ x g. afterwards (λ v. is_condition s v ≡ true) P (condition (here body st) c) (λ v. Ok (Repeated x.0 v, x.1)) (condition-sound st c sees kc)
      (λ v h. given P (Repeated x.0 v, x.1) (and_from (fits s result true x.0) (is_condition s v) g.0 h, g.1, g.2)))

  loop-fits : (t u : Option Expression) (x : Statement) → all_of (is_condition s) t ≡ true → all_of (λ e. is_some (kind s e)) u ≡ true → fits s result true x ≡ true → (in_loop : Bool) → Fits in_loop (Looped t u x)
  loop-fits t u x a b c in_loop = and_from _ _ (and_from (all_of (is_condition s) t) (all_of (λ e. is_some (kind s e)) u) a b) c

  for-ready : (first : Start) (test step : Option Term) (a : Syntax) → IsSound a → IsSound (For first test step a)
  for-ready first test step a ready in_loop st sees at k =
      let (kf, k1) = known-both (start_uses first) (where_there term_uses test ++ (where_there term_uses step ++ statement_uses a))
      (start_written first) (where_there term_written test ++ (where_there term_written step ++ statement_written a)) k in
      let (kt, k2) = known-both (where_there term_uses test) (where_there term_uses step ++ statement_uses a) (where_there term_written test) (where_there term_written step ++ statement_written a) k1 in
      let (ku, ka) = known-both (where_there term_uses step) (statement_uses a) (where_there term_written step) (statement_written a) k2 in
      let lf = start_locals names first in
      let la = statement_locals names a in
      let P = IsPiece in_loop st.next (lf ++ la) in
      afterwards (Comes in_loop st.next lf) P (start body (entered st) first) _ (start-sound in_loop (entered st) first sees (each-first Stands st.next lf la at) kf)
      (λ f h. afterwards (λ t. all_of (is_condition s) t ≡ true) P (perhaps (condition (here body f.1)) test) _
      (perhaps-sound (is_condition s) (condition (here body f.1)) test (λ x kx. condition-sound f.1 x h.1 kx) kt)
      (λ t ht. afterwards (λ u. all_of (λ e. is_some (kind s e)) u ≡ true) P (perhaps (effect_of (here body f.1)) step) _
      (perhaps-sound (λ e. is_some (kind s e)) (effect_of (here body f.1)) step (λ x kx. effect-of-sound f.1 x h.1 kx) ku)
      (λ u hu. afterwards (IsPiece true f.1.next la) P (statement body true f.1 a) (λ x. Ok (Compound (before f.0 (Then (Looped t u x.0) Done)), x.1))
      (ready true f.1 h.1 (subst (λ n. Each Stands n la) (sym h.2) (each-second Stands st.next lf la at)) ka)
      (λ x g. given P (Compound (before f.0 (Then (Looped t u x.0) Done)), x.1) (
        before-fits in_loop f.0 (Then (Looped t u x.0) Done) h.0 (and_from _ _ (loop-fits t u x.0 ht hu g.0 in_loop) refl),
        g.1 ∙ ap (λ n. after n la) h.2 ∙ sym (after-both st.next lf la),
        each-both IsNew st.next lf la h.3 (subst (λ n. Each IsNew n la) h.2 g.2),
      )))))

  -- ---- entries of blocks

  declaration-entry : (x : Declaration) (rest : Entries) → AreSound rest → AreSound (Entry (Declared x) rest)
  declaration-entry x rest ready in_loop st sees at k =
      let (kx, kr) = known-both (declaration_uses x) (statements_uses rest) (declaration_written x) (block_written rest) k in
      let lx = locals_in names x in
      let lr = block_locals names rest in
      let P = IsBlock in_loop st.next (lx ++ lr) in
      afterwards (Comes in_loop st.next lx) P (locals body st x) (λ d. and_then (entries body in_loop d.1 rest) (λ y. Ok (before d.0 y.0, y.1)))
      (locals-sound in_loop st x sees (each-first Stands st.next lx lr at) kx)
      (λ d h. afterwards (IsBlock in_loop d.1.next lr) P (entries body in_loop d.1 rest) (λ y. Ok (before d.0 y.0, y.1))
      (ready in_loop d.1 h.1 (subst (λ n. Each Stands n lr) (sym h.2) (each-second Stands st.next lx lr at)) kr)
      (λ y g. given P (before d.0 y.0, y.1) (
        before-fits in_loop d.0 y.0 h.0 g.0,
        g.1 ∙ ap (λ n. after n lr) h.2 ∙ sym (after-both st.next lx lr),
        each-both IsNew st.next lx lr h.3 (subst (λ n. Each IsNew n lr) h.2 g.2),
      )))

  entry-ready : (e : Syntax) (rest : Entries)
      → ((in_loop : Bool) (st : State) → entries body in_loop st (Entry e rest) ≡ and_then (statement body in_loop st e) (λ x. and_then (entries body in_loop (record st { next = x.1 }) rest) (λ y. Ok (Then x.0 y.0, y.1))))
      → IsSound e → AreSound rest → AreSound (Entry e rest)
  entry-ready e rest same ready others in_loop st sees at k =
      let (ke, kr) = known-both (statement_uses e) (statements_uses rest) (statement_written e) (block_written rest) k in
      let le = statement_locals names e in
      let lr = block_locals names rest in
      let P = IsBlock in_loop st.next (le ++ lr) in
      rw (same in_loop st)
      (afterwards (IsPiece in_loop st.next le) P (statement body in_loop st e) (λ x. and_then (entries body in_loop (record st { next = x.1 }) rest) (λ y. Ok (Then x.0 y.0, y.1)))
      (ready in_loop st sees (each-first Stands st.next le lr at) ke)
      (λ x g. afterwards (IsBlock in_loop x.1 lr) P (entries body in_loop (record st { next = x.1 }) rest) (λ y. Ok (Then x.0 y.0, y.1))
      (others in_loop (record st { next = x.1 }) sees (subst (λ n. Each Stands n lr) (sym g.1) (each-second Stands st.next le lr at)) kr)
      (λ y f. given P (Then x.0 y.0, y.1) (
        and_from (fits s result in_loop x.0) (all_fit s result in_loop y.0) g.0 f.0,
        f.1 ∙ ap (λ n. after n lr) g.1 ∙ sym (after-both st.next le lr),
        each-both IsNew st.next le lr g.2 (subst (λ n. Each IsNew n lr) g.1 f.2),
      ))))

  mutual
    pub statement-sound : (a : Syntax) → IsSound a
    statement-sound (Declared x) = declared-ready x
    statement-sound (Block es) = block-ready es (entries-sound es)
    statement-sound Empty = λ in_loop st sees at k. given _ _ (refl, refl, tt)
    statement-sound (Expr e) = effect-ready e
    statement-sound (Return at e) = return-ready at e
    statement-sound (Break at) = λ in_loop st sees stands k. if-test (IsPiece in_loop st.next []) in_loop (Ok (Broken, st.next)) (BadType at) (λ is. given (IsPiece in_loop st.next []) _ (is, refl, tt))
    statement-sound (Continue at) = λ in_loop st sees stands k. if-test (IsPiece in_loop st.next []) in_loop (Ok (Continued, st.next)) (BadType at) (λ is. given (IsPiece in_loop st.next []) _ (is, refl, tt))
    statement-sound (If c a) = if-ready c a (statement-sound a)
    statement-sound (IfElse c a b) = alternative-ready c a b (statement-sound a) (statement-sound b)
    statement-sound (While c a) = while-ready c a (statement-sound a)
    statement-sound (Do a c) = do-ready a c (statement-sound a)
    statement-sound (For first test step a) = for-ready first test step a (statement-sound a)

    pub entries-sound : (es : Entries) → AreSound es
    entries-sound NoEntries = λ in_loop st sees at k. given _ _ (refl, refl, tt)
    entries-sound (Entry (Declared x) rest) = declaration-entry x rest (entries-sound rest)
    entries-sound (Entry e rest) = entry-ready e rest (λ in_loop st. refl) (statement-sound e) (entries-sound rest)
