-- A typed expression names points by names of points alone.
use Rattle.std.proofs.Common.{◌≡◌, ℕ, Bool, true, false, List, [], ◌∷◌, ◌++◌, Option, Some, None, Ok, if◌then◌else◌, refl, sym, ◌∙◌, subst}
use Rattle.std.specs.List.{AllByRecursion}
use Rattle.kt_grammar.specs.declared.operator.BinaryOperator.TheVariants as binary
use Rattle.kt_grammar.specs.declared.tree.Name.{Name}
use Rattle.kt_grammar.specs.declared.tree.TypeName.{TypeName}
use Rattle.kt_grammar.specs.Tree.{Term, Constant, Character, Text, Null as NullTerm, Eof, Named, Called, Parenthesised, SizeOf, RuleValue, OldSymbol, Transformed, NewObject, Element, Member, Pointed, Stepped, Prefixed, Converted, Operated, Chosen, Assigned, Terms, Nothing, More}
use Rattle.kt_tree.specs.Names.{is_point_name}
use Rattle.kt_tree.specs.Tree.{More as MoreExpressions}
use Rattle.kt_names.specs.declared.ctype.CType.{CType}
use Rattle.kt_names.specs.declared.builtin.Builtin.{Builtin}
use Rattle.kt_names.specs.declared.builtin.Builtin.TheVariants as builtin
use Rattle.kt_names.specs.declared.fault.CheckFault.TheVariants.{Unknown, BadType, Incomplete}
use Rattle.kt_names.specs.declared.fault.CheckFault.{CheckFault}
use Rattle.kt_names.specs.Checked.{Checked, fault, and_then, both, found, holds}
use Rattle.kt_names.specs.Types.{char, mutex}
use Rattle.kt_names.specs.Environment.{Environment, Declared, local_named, is_complete}
use Rattle.kt_names.specs.declared.format.Conversion.{Conversion}
use Rattle.kt_names.specs.declared.format.Conversion.TheVariants.{Plain, Decimal, LongDecimal, Byte, Text as TextPiece}
use Rattle.kt_names.specs.Formats.{format_of}
use Rattle.kt_names.specs.Operands.{Operand, Value, scalar, integer, pointer, convert}
use Rattle.kt_names.specs.Builtins.{builtin_named, takes, format_values, entry_of, outer_unhidden, no_entry, integer_argument, points_to}
use Rattle.kt_names.specs.Tables.{Written, term_written, terms_written, first_written, literal}
use Rattle.kt_names.specs.Terms.{first_token, is_allocation, cast, bytes_allocated, counted, allocated, named_type, struct_place, result_of, passed, called_function, callable, plain_builtin, argument, typing, typing_all, builtin_call}
use Rattle.kt_check.proofs.FieldCells.{not-ok, then-parts, both-parts, all-both}
use Rattle.kt_names.specs.Rules.{element, member, pointed, operator, choice, assignment, changed, unary, step_operator, one}
use Rattle.kt_check.proofs.PointWords.{IsPointWord}
use Rattle.kt_terms.proofs.SoundCalls.{call_written, written-of-call}
use Rattle.kt_terms.proofs.SoundTerms.{IsPlain, plain-same}

abbrev pub Words : List Written → Type 0
Words ws = AllByRecursion IsPointWord ws

-- W holds where this is typed
abbrev pub If : {A : Type 0} → Checked A → Type 0 → Type 0
If {A} c W = (x : A) → c ≡ Ok x → W

module _ (env : Environment) where
  abbrev Ready : Term → Type 0
  Ready e = If (typing env e) (Words (term_written e))

  abbrev Below : Term → Type 0
  Below (Operated op a b) = Ready a × Ready b
  Below _ = Unit {0}

  abbrev AllReady : Terms → Type 0
  AllReady Nothing = Unit {0}
  AllReady (More a rest) = Ready a × Below a × AllReady rest

  both-words : (us vs : List Written) → Words us → Words vs → Words (us ++ vs)
  both-words us vs h k = all-both IsPointWord us vs h k

  -- ---- the arguments of a function

  passed-words : (up : ℕ) (ps : List CType) (args : Terms) → AllReady args → If (passed env up ps (typing_all env args)) (Words (terms_written args))
  passed-words up [] Nothing r x e = tt
  passed-words up [] (More a rest) r x e = absurd (not-ok _ x e)
  passed-words up (p ∷ ps) Nothing r x e = absurd (not-ok _ x e)
  passed-words up (p ∷ ps) (More a rest) r x e =
      let (y, parts, is) = then-parts (both (and_then (typing env a) (convert env p (first_token a) up)) (passed env up ps (typing_all env rest))) _ x e in
      let (one, more) = both-parts (and_then (typing env a) (convert env p (first_token a) up)) (passed env up ps (typing_all env rest)) y parts in
      let (o, typed, made) = then-parts (typing env a) (convert env p (first_token a) up) y.0 one in
      both-words (term_written a) (terms_written rest) (r.0 o typed) (passed-words up ps rest r.2 y.1 more)

  function-words : (up : ℕ) (d : Declared) (o : Option ℕ) (args : Terms) → d.number ≡ o → AllReady args → If (called_function env up d (typing_all env args)) (Words (terms_written args))
  function-words up d None args is r x e = absurd (not-ok _ x (sym (chosen is) ∙ e))
    where
      chosen : d.number ≡ None → called_function env up d (typing_all env args) ≡ fault (Unknown up)
      chosen h = rw (called_function, h) refl
  function-words up d (Some k) args is r x e =
      let (es, parts, made) = then-parts (passed env up d.parameters (typing_all env args)) (λ es. Ok (result_of k d.result es)) x (sym (chosen is) ∙ e) in
      passed-words up d.parameters args r es parts
    where
      chosen : d.number ≡ Some k → called_function env up d (typing_all env args) ≡ and_then (passed env up d.parameters (typing_all env args)) (λ es. Ok (result_of k d.result es))
      chosen h = rw (called_function, h) refl

  -- ---- built-in calls of typed arguments alone

  one-words : (a : Term) → If (typing env a) (Words (term_written a)) → If (typing env a) (Words (term_written a ++ []))
  one-words a h x e = both-words (term_written a) [] (h x e) tt

  integer-words : (up : ℕ) (a : Term) → Ready a → {B : Type 0} (k : Value → Checked B) → If (and_then (integer_argument env up (argument a (typing env a))) k) (Words (term_written a ++ []))
  integer-words up a r k x e =
      let (v, one, rest) = then-parts (integer_argument env up (argument a (typing env a))) k x e in
      let (o, typed, made) = then-parts (typing env a) (integer env (first_token a) up) v one in
      one-words a r o typed

  pointer-words : (up : ℕ) (a : Term) (t : CType) → Ready a → {B : Type 0} (k : Value → Checked B) → If (and_then (points_to env up (argument a (typing env a)) t) k) (Words (term_written a ++ []))
  pointer-words up a t r k x e =
      let (v, one, rest) = then-parts (points_to env up (argument a (typing env a)) t) k x e in
      let (p, two, made) = then-parts (and_then (typing env a) (pointer env (first_token a) up)) _ v one in
      let (o, typed, made') = then-parts (typing env a) (pointer env (first_token a) up) p two in
      one-words a r o typed

  plain-words : (up : ℕ) (b : Builtin) (args : Terms) → AllReady args → If (plain_builtin env up b (typing_all env args)) (Words (terms_written args))
  plain-words up builtin.Free (More a Nothing) r x e =
      let (v, one, rest) = then-parts (and_then (typing env a) (scalar env (first_token a) up)) _ x e in
      let (o, typed, made) = then-parts (typing env a) (scalar env (first_token a) up) v one in
      one-words a r.0 o typed
  plain-words up builtin.GetChar Nothing r x e = tt
  plain-words up builtin.PutChar (More a Nothing) r x e = integer-words up a r.0 _ x e
  plain-words up builtin.Puts (More a Nothing) r x e = pointer-words up a char r.0 _ x e
  plain-words up builtin.Lock (More a Nothing) r x e = pointer-words up a mutex r.0 _ x e
  plain-words up builtin.Unlock (More a Nothing) r x e = pointer-words up a mutex r.0 _ x e
  plain-words up builtin.Join (More a Nothing) r x e = integer-words up a r.0 _ x e
  plain-words up builtin.IsUpdating Nothing r x e = tt
  plain-words up builtin.Automigrate Nothing r x e = tt
  plain-words up b args r x e = absurd (not-ok _ x e)

  -- ---- built-in calls that look at how their arguments are written

  counted-words : {W : Type 0} (own up : ℕ) (a : Term) → If (typing env a) W → If (counted env own up (typing env a)) W
  counted-words {W} own up a h v e = let (o, typed, made) = then-parts (typing env a) (integer env own up) v e in h o typed

  allocated-words : {W : Type 0} (at : ℕ) (t : TypeName) (zeros : Bool) (own up : ℕ) (a : Term) → If (typing env a) W → If (allocated env at t zeros (counted env own up (typing env a))) W
  allocated-words {W} at t zeros own up a h x e =
      let (y, parts, is) = then-parts (both (counted env own up (typing env a)) (holds (is_complete env (named_type env t)) (Incomplete (struct_place t.base at)))) _ x e in
      let (one, two) = both-parts (counted env own up (typing env a)) (holds (is_complete env (named_type env t)) (Incomplete (struct_place t.base at))) y parts in
      counted-words own up a h y.0 one

  malloc-words : (up : ℕ) (args : Terms) → AllReady args → If (builtin_call env up builtin.Malloc (typing_all env args) args) (Words (terms_written args))
  malloc-words up (More (SizeOf at t) Nothing) r x e = tt
  malloc-words up (More (Operated binary.Multiply a (SizeOf at t)) Nothing) r x e =
      both-words (term_written a ++ []) [] (both-words (term_written a) [] (allocated-words at t false (first_token a) up a r.1.0 x e) tt) tt
  malloc-words up (More (Operated binary.Multiply (SizeOf at t) a) Nothing) r x e =
      both-words (term_written a) [] (allocated-words at t false (first_token a) up a r.1.1 x e) tt
  malloc-words up (More a Nothing) r x e =
      let (v, one, rest) = then-parts (counted env (first_token a) up (typing env a)) (λ v. Ok (bytes_allocated env v)) x e in
      both-words (term_written a) [] (counted-words (first_token a) up a r.0 v one) tt
  malloc-words up args r x e = absurd (not-ok _ x e)

  calloc-words : (up : ℕ) (args : Terms) → AllReady args → If (builtin_call env up builtin.Calloc (typing_all env args) args) (Words (terms_written args))
  calloc-words up (More a (More (SizeOf at t) Nothing)) r x e = both-words (term_written a) [] (allocated-words at t true (first_token a) up a r.0 x e) tt
  calloc-words up args r x e = absurd (not-ok _ x e)

  whole-words : (up : ℕ) (a : Term) → Ready a → {B : Type 0} (k : Value → Checked B) → If (and_then (integer_argument env up (argument a (typing env a))) k) (Words (term_written a))
  whole-words up a r k x e =
      let (v, one, rest) = then-parts (integer_argument env up (argument a (typing env a))) k x e in
      let (o, typed, made) = then-parts (typing env a) (integer env (first_token a) up) v one in
      r o typed

  points-words : (up : ℕ) (a : Term) (t : CType) → Ready a → If (points_to env up (argument a (typing env a)) t) (Words (term_written a))
  points-words up a t r x e =
      let (p, two, made) = then-parts (and_then (typing env a) (pointer env (first_token a) up)) _ x e in
      let (o, typed, made') = then-parts (typing env a) (pointer env (first_token a) up) p two in
      r o typed

  takes-words : (up : ℕ) (c : Conversion) (a : Term) → Ready a → If (takes env up c (argument a (typing env a))) (Words (term_written a))
  takes-words up LongDecimal a r x e = whole-words up a r _ x e
  takes-words up TextPiece a r x e = points-words up a char r x e
  takes-words up Decimal a r x e = whole-words up a r _ x e
  takes-words up Byte a r x e = whole-words up a r _ x e
  takes-words up (Plain b) a r x e = whole-words up a r _ x e

  taken-words : (up : ℕ) (c : Conversion) (cs : List Conversion) (a : Term) (rest : Terms) → Ready a → If (format_values env up cs (typing_all env rest)) (Words (terms_written rest))
      → If (and_then (both (takes env up c (argument a (typing env a))) (format_values env up cs (typing_all env rest))) (λ y. Ok (MoreExpressions y.0.expression y.1))) (Words (term_written a ++ terms_written rest))
  taken-words up c cs a rest r h x e =
      let (y, parts, is) = then-parts (both (takes env up c (argument a (typing env a))) (format_values env up cs (typing_all env rest))) _ x e in
      let (one, more) = both-parts (takes env up c (argument a (typing env a))) (format_values env up cs (typing_all env rest)) y parts in
      both-words (term_written a) (terms_written rest) (takes-words up c a r y.0 one) (h y.1 more)

  format-words : (up : ℕ) (cs : List Conversion) (args : Terms) → AllReady args → If (format_values env up cs (typing_all env args)) (Words (terms_written args))
  format-words up [] Nothing r x e = tt
  format-words up [] (More a rest) r x e = absurd (not-ok _ x e)
  format-words up (Plain b ∷ cs) args r x e = format-words up cs args r x e
  format-words up (Decimal ∷ cs) Nothing r x e = absurd (not-ok _ x e)
  format-words up (LongDecimal ∷ cs) Nothing r x e = absurd (not-ok _ x e)
  format-words up (Byte ∷ cs) Nothing r x e = absurd (not-ok _ x e)
  format-words up (TextPiece ∷ cs) Nothing r x e = absurd (not-ok _ x e)
  format-words up (Decimal ∷ cs) (More a rest) r x e = taken-words up Decimal cs a rest r.0 (format-words up cs rest r.2) x e
  format-words up (LongDecimal ∷ cs) (More a rest) r x e = taken-words up LongDecimal cs a rest r.0 (format-words up cs rest r.2) x e
  format-words up (Byte ∷ cs) (More a rest) r x e = taken-words up Byte cs a rest r.0 (format-words up cs rest r.2) x e
  format-words up (TextPiece ∷ cs) (More a rest) r x e = taken-words up TextPiece cs a rest r.0 (format-words up cs rest r.2) x e

  abbrev CallWords : Option Builtin → Terms → Type 0
  CallWords o args = Words (call_written o args)

  printf-words : (up : ℕ) (args : Terms) → AllReady args → If (builtin_call env up builtin.Printf (typing_all env args) args) (CallWords (Some builtin.Printf) args)
  printf-words up (More (Text at bytes) args) r x e =
      let (cs, found', rest) = then-parts (found (format_of bytes) (BadType up)) _ x e in
      let (es, values, is) = then-parts (format_values env up cs (typing_all env args)) _ x rest in
      format-words up cs args r.2 es values
  printf-words up args r x e = absurd (not-ok _ x e)

  init-words : (up : ℕ) (args : Terms) → AllReady args → If (builtin_call env up builtin.InitMutex (typing_all env args) args) (Words (terms_written args))
  init-words up (More p (More (NullTerm at) Nothing)) r x e = pointer-words up p mutex r.0 _ x e
  init-words up args r x e = absurd (not-ok _ x e)

  create-words : (up : ℕ) (args : Terms) → AllReady args → If (builtin_call env up builtin.Create (typing_all env args) args) (Words (terms_written args))
  create-words up (More (Named g) (More a Nothing)) r x e =
      let (entry, there, rest) = then-parts (found (entry_of (outer_unhidden env g.word)) (no_entry env g)) _ x e in
      let (v, one, is) = then-parts (and_then (typing env a) (convert env entry.1 (first_token a) up)) _ x rest in
      let (o, typed, made) = then-parts (typing env a) (convert env entry.1 (first_token a) up) v one in
      one-words a r.2.0 o typed
  create-words up args r x e = absurd (not-ok _ x e)

  tested-name : {A : Type 0} (b : Bool) (c : Checked A) (f : CheckFault) (x : A) → (if b then c else fault f) ≡ Ok x → b ≡ true
  tested-name true c f x e = refl
  tested-name false c f x e = absurd (not-ok _ x e)

  update-words : (up : ℕ) (args : Terms) → If (builtin_call env up builtin.Update (typing_all env args) args) (CallWords (Some builtin.Update) args)
  update-words up (More (Text at bytes) Nothing) x e = (tested-name (is_point_name bytes) _ (BadType up) x e, tt)
  update-words up args x e = absurd (not-ok _ x e)

  updating-words : (up : ℕ) (args : Terms) → If (builtin_call env up builtin.IsUpdatingFrom (typing_all env args) args) (CallWords (Some builtin.IsUpdatingFrom) args)
  updating-words up (More (Text at bytes) Nothing) x e = (tested-name (is_point_name bytes) _ (BadType up) x e, tt)
  updating-words up args x e = absurd (not-ok _ x e)

  migrate-words : (up : ℕ) (args : Terms) → If (builtin_call env up builtin.MigrateLocal (typing_all env args) args) (CallWords (Some builtin.MigrateLocal) args)
  migrate-words up (More (Named n) Nothing) x e = tt
  migrate-words up (More a Nothing) x e = absurd (not-ok _ x e)
  migrate-words up args x e = absurd (not-ok _ x e)

  literals-words : (o : Option Builtin) → ((at : ℕ) (bytes : List ℕ) → first_written o at bytes ≡ literal at bytes) → (args : Terms) → Words (terms_written args) → CallWords o args
  literals-words o is Nothing h = h
  literals-words o is (More (Text at bytes) rest) h = rw (is at bytes) h
  literals-words o is (More a rest) h = h

  plain-call : (up : ℕ) (b : Builtin) (p : IsPlain b) (args : Terms) → ((at : ℕ) (bytes : List ℕ) → first_written (Some b) at bytes ≡ literal at bytes) → AllReady args
      → If (builtin_call env up b (typing_all env args) args) (CallWords (Some b) args)
  plain-call up b p args is r x e = literals-words (Some b) is args (plain-words up b args r x (sym (plain-same env up (typing_all env args) b p args) ∙ e))

  builtin-words : (up : ℕ) (b : Builtin) (args : Terms) → AllReady args → If (builtin_call env up b (typing_all env args) args) (CallWords (Some b) args)
  builtin-words up builtin.Malloc args r x e = literals-words (Some builtin.Malloc) (λ at bytes. refl) args (malloc-words up args r x e)
  builtin-words up builtin.Calloc args r x e = literals-words (Some builtin.Calloc) (λ at bytes. refl) args (calloc-words up args r x e)
  builtin-words up builtin.Printf args r x e = printf-words up args r x e
  builtin-words up builtin.InitMutex args r x e = literals-words (Some builtin.InitMutex) (λ at bytes. refl) args (init-words up args r x e)
  builtin-words up builtin.Create args r x e = literals-words (Some builtin.Create) (λ at bytes. refl) args (create-words up args r x e)
  builtin-words up builtin.Update args r x e = update-words up args x e
  builtin-words up builtin.IsUpdatingFrom args r x e = updating-words up args x e
  builtin-words up builtin.MigrateLocal args r x e = migrate-words up args x e
  builtin-words up builtin.Free args r x e = plain-call up builtin.Free tt args (λ at bytes. refl) r x e
  builtin-words up builtin.GetChar args r x e = plain-call up builtin.GetChar tt args (λ at bytes. refl) r x e
  builtin-words up builtin.PutChar args r x e = plain-call up builtin.PutChar tt args (λ at bytes. refl) r x e
  builtin-words up builtin.Puts args r x e = plain-call up builtin.Puts tt args (λ at bytes. refl) r x e
  builtin-words up builtin.Lock args r x e = plain-call up builtin.Lock tt args (λ at bytes. refl) r x e
  builtin-words up builtin.Unlock args r x e = plain-call up builtin.Unlock tt args (λ at bytes. refl) r x e
  builtin-words up builtin.Join args r x e = plain-call up builtin.Join tt args (λ at bytes. refl) r x e
  builtin-words up builtin.IsUpdating args r x e = plain-call up builtin.IsUpdating tt args (λ at bytes. refl) r x e
  builtin-words up builtin.Automigrate args r x e = plain-call up builtin.Automigrate tt args (λ at bytes. refl) r x e

  -- ---- calls

  call-by : (n : Name) (args : Terms) (o : Option Builtin) → AllReady args
      → If (elim o as (λ _. Checked Operand) [
        | None ↦ and_then (callable env n) (λ d. called_function env n.at d (typing_all env args))
        | (Some b) ↦ builtin_call env n.at b (typing_all env args) args
      ]) (CallWords o args)
  call-by n args None r x e =
      let (d, there, rest) = then-parts (callable env n) (λ d. called_function env n.at d (typing_all env args)) x e in
      literals-words None (λ at bytes. refl) args (function-words n.at d d.number args refl r x rest)
  call-by n args (Some b) r x e = builtin-words n.at b args r x e

  unhidden-by : (n : Name) (args : Terms) (l : Option ℕ) → AllReady args
      → If (elim l as (λ _. Checked Operand) [
        | (Some x) ↦ fault (BadType n.at)
        | None ↦ elim (builtin_named n.word) as (λ _. Checked Operand) [
          | None ↦ and_then (callable env n) (λ d. called_function env n.at d (typing_all env args))
          | (Some b) ↦ builtin_call env n.at b (typing_all env args) args
        ]
      ]) (CallWords (builtin_named n.word) args)
  unhidden-by n args None r x e = call-by n args (builtin_named n.word) r x e
  unhidden-by n args (Some l) r x e = absurd (not-ok _ x e)

  call-words : (n : Name) (args : Terms) → AllReady args → Ready (Called n args)
  call-words n args r x e = subst Words (sym (written-of-call n args)) (unhidden-by n args (local_named env.visible n.word) r x e)

  -- ---- expressions

  two-words : {B : Type 0} (a b : Term) (k : Operand × Operand → Checked B) → Ready a → Ready b → If (and_then (both (typing env a) (typing env b)) k) (Words (term_written a ++ term_written b))
  two-words a b k h g x e =
      let (y, parts, rest) = then-parts (both (typing env a) (typing env b)) k x e in
      let (p, q) = both-parts (typing env a) (typing env b) y parts in
      both-words (term_written a) (term_written b) (h y.0 p) (g y.1 q)

  one-keeps : {B : Type 0} {W : Type 0} (a : Term) (k : Operand → Checked B) → If (typing env a) W → If (and_then (typing env a) k) W
  one-keeps a k h x e = let (o, typed, rest) = then-parts (typing env a) k x e in h o typed

  choice-words : (c a b : Term) → Ready c → Ready a → Ready b → Ready (Chosen c a b)
  choice-words c a b f g h x e =
      let (y, parts, rest) = then-parts (both (typing env c) (both (typing env a) (typing env b))) (λ y. choice env (first_token c) (first_token a) (first_token b) y.0 y.1.0 y.1.1) x e in
      let (p, arms) = both-parts (typing env c) (both (typing env a) (typing env b)) y parts in
      let (q, r) = both-parts (typing env a) (typing env b) y.1 arms in
      both-words (term_written c) (term_written a ++ term_written b) (f y.0 p) (both-words (term_written a) (term_written b) (g y.1.0 q) (h y.1.1 r))

  mutual
    pub term-words : (e : Term) → Ready e
    term-words (Constant at n) x e = tt
    term-words (Character at b) x e = tt
    term-words (Text at bytes) x e = (tt, tt)
    term-words (NullTerm at) x e = tt
    term-words (Eof at) x e = tt
    term-words (Named n) x e = tt
    term-words (Called n args) x e = call-words n args (all-ready args) x e
    term-words (Parenthesised at a) x e = term-words a x e
    term-words (SizeOf at t) x e = tt
    term-words (RuleValue at w) x e = tt
    term-words (OldSymbol at n) x e = tt
    term-words (NewObject at f) x e = tt
    term-words (Transformed at a) x e = absurd (not-ok _ x e)
    term-words (Element a i) x e = two-words a i (λ x. element env (first_token a) (first_token i) x.0 x.1) (term-words a) (term-words i) x e
    term-words (Member a f) x e = one-keeps a (λ x. member env (first_token a) x f) (term-words a) x e
    term-words (Pointed a f) x e = one-keeps a (λ x. pointed env (first_token a) x f) (term-words a) x e
    term-words (Stepped a op) x e = one-keeps a (λ x. changed env (first_token a) true (step_operator op) x (one env)) (term-words a) x e
    term-words (Prefixed at op a) x e = one-keeps a (λ x. unary env at (first_token a) op x) (term-words a) x e
    term-words (Converted at t a) x e = one-keeps a (λ x. cast env at (first_token a) t (is_allocation a) x) (term-words a) x e
    term-words (Operated op a b) x e = two-words a b (λ x. operator env (first_token a) (first_token b) op x.0 x.1) (term-words a) (term-words b) x e
    term-words (Chosen c a b) x e = choice-words c a b (term-words c) (term-words a) (term-words b) x e
    term-words (Assigned op a b) x e = two-words a b (λ x. assignment env (first_token a) (first_token b) op x.0 x.1) (term-words a) (term-words b) x e

    below : (e : Term) → Below e
    below (Operated op a b) = (term-words a, term-words b)
    below _ = tt

    all-ready : (args : Terms) → AllReady args
    all-ready Nothing = tt
    all-ready (More a rest) = (term-words a, below a, all-ready rest)
