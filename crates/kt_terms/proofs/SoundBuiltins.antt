-- Built-in calls: each request takes its operands, and gives the type that typing says.
use Rattle.std.proofs.Common.{◌≡◌, ℕ, ◌<◌, ◌==◌, ◌&&◌, not, Bool, true, false, List, [], ◌∷◌, ◌++◌, map, length, slice_get, Option, Some, None, Ok, if◌then◌else◌, refl, sym, ap, ◌∙◌, subst, lt-ltb}
use Rattle.std.proofs.lemmas.Bool.{and_from, false≢true}
use Rattle.std.proofs.lemmas.Option.{slice_get_within}
use Rattle.std.specs.Option.{option_map}
use Rattle.std.specs.List.{AllByRecursion}
use Rattle.kt_grammar.specs.declared.tree.Name.{Name}
use Rattle.kt_tree.specs.declared.expr.Part.{Part}
use Rattle.kt_tree.specs.declared.expr.Part.TheVariants as part
use Rattle.kt_tree.specs.declared.expr.Request.{Request}
use Rattle.kt_tree.specs.declared.expr.Request.TheVariants as request
use Rattle.kt_tree.specs.Kinds as kinds
use Rattle.kt_tree.specs.Kinds.{Scope, is_request, is_entry, is_entry_head, char_type, long_type}
use Rattle.kt_tree.specs.Typed.{kind, types, Of}
use Rattle.kt_tree.specs.Tree.{Expression, Requested, Expressions, NoMore, More}
use Rattle.kt_names.specs.declared.ctype.CType.{CType}
use Rattle.kt_names.specs.declared.fault.CheckFault.TheVariants.{BadType, Note}
use Rattle.kt_names.specs.Checked.{Checked, fault, and_then, both, found}
use Rattle.kt_names.specs.Types.{char, int, long, pointer_to, is_integer, same_ctype}
use Rattle.kt_names.specs.Environment.{Environment, Outer, Global, Function, Declared, local_named}
use Rattle.kt_names.specs.Operands.{Value, integer, pointer, convert}
use Rattle.kt_names.specs.declared.format.Conversion.{Conversion}
use Rattle.kt_names.specs.declared.format.Conversion.TheVariants.{Plain, Decimal, LongDecimal, Byte, Text}
use Rattle.kt_names.specs.Formats.{format_of}
use Rattle.kt_names.specs.Tables.{Asks, Updates}
use Rattle.kt_names.specs.Builtins.{Argument, integer_argument, one_of, gives, points_to, asks_pointer, asks_integer, takes, format_values, with_bytes, parts_of, printed, point_number, updated, updating_from, entry_in, entry_of, outer_unhidden, no_entry, created, migrated}
use Rattle.kt_terms.proofs.Agrees.{Agrees, Has, Holds, HasNumber}
use Rattle.kt_terms.proofs.Gives.{Gives, given, faulty, if-test, by-test, afterwards, pair, when-found, weaken}
use Rattle.kt_terms.proofs.SoundTypes.{same-ctypes, number-itself, Integer, of_char, of_int, of_long, integer-of, integer-there, int-place, char-place, holds-integer}
use Rattle.kt_terms.proofs.SoundTypes as places
use Rattle.kt_terms.proofs.SoundOperands.{ValueOf, PointerAt, IsOperand, IsValue, IsInteger, IsPointer, integer-sound, pointer-sound, convert-sound}

-- a request of one operand
pub of-operand : (s : Scope) (r : Request) (t pa : ℕ) (a : Expression) → kind s a ≡ Some (Of pa) → is_request s r (Some t) (pa ∷ []) ≡ true → kind s (Requested r (Some t) (one_of a)) ≡ Some (Of t)
of-operand s r t pa a e ok = rw (e, ok) refl

-- ---- formats

-- a piece of a format takes an operand of a type
abbrev piece : Scope → Conversion → ℕ → Bool
piece s (Plain b) t = true
piece s Decimal t = kinds.is_integer s t
piece s LongDecimal t = kinds.is_integer s t
piece s Byte t = kinds.is_integer s t && not (t == long_type)
piece s Text t = kinds.points_to s t char_type

with-bytes : (s : Scope) (plain : List ℕ) (parts : List Part) (ts : List ℕ) → kinds.takes s (with_bytes plain parts) ts ≡ kinds.takes s parts ts
with-bytes s [] parts ts = refl
with-bytes s (b ∷ plain) parts ts = refl

-- operands that the parts of a format take
abbrev Formatted : Scope → List Conversion → Expressions → Type 0
Formatted s cs es = (ts : List ℕ) × (types s es ≡ Some ts) × ((plain : List ℕ) → kinds.takes s (parts_of plain cs) ts ≡ true)

no-more : (s : Scope) → Formatted s [] NoMore
no-more s = ([], refl, λ plain. with-bytes s plain [] [])

one-more : (s : Scope) (c : Conversion) (cs : List Conversion) (t : ℕ) (e : Expression) (es : Expressions)
    → ((plain : List ℕ) (ts : List ℕ) → kinds.takes s (parts_of plain (c ∷ cs)) (t ∷ ts) ≡ (piece s c t && kinds.takes s (parts_of [] cs) ts))
    → kind s e ≡ Some (Of t) → piece s c t ≡ true → Formatted s cs es → Formatted s (c ∷ cs) (More e es)
one-more s c cs t e es step k ok f =
    let (ts, typed, takes) = f in
    (t ∷ ts, rw (k, typed) refl, λ plain. step plain ts ∙ and_from (piece s c t) (kinds.takes s (parts_of [] cs) ts) ok (takes []))

module _ (env : Environment) (s : Scope) (agrees : Agrees env s) where
  abbrev pub IsArgument : Argument → Type 0
  IsArgument x = Gives (IsOperand env s) x.typed

  integer-argument : (up : ℕ) (x : Argument) → IsArgument x → Gives (IsInteger env s) (integer_argument env up x)
  integer-argument up x h = afterwards (IsOperand env s) (IsInteger env s) x.typed (integer env x.at up) h (λ o k. integer-sound env s agrees x.at up o k)

  pub points-sound : (up : ℕ) (x : Argument) (e : CType) → IsArgument x → Gives (λ p. PointerAt env s e p.expression × (p.ty ≡ pointer_to e)) (points_to env up x e)
  points-sound up x e h =
      afterwards (IsPointer env s) (λ p. PointerAt env s e p.expression × (p.ty ≡ pointer_to e)) (and_then x.typed (pointer env x.at up)) _
      (afterwards (IsOperand env s) (IsPointer env s) x.typed (pointer env x.at up) h (λ o k. pointer-sound env s agrees x.at up o k))
      (λ p k. if-test (λ p. PointerAt env s e p.expression × (p.ty ≡ pointer_to e)) (same_ctype p.ty (pointer_to e)) (Ok p) (BadType up)
      (λ is. let same = same-ctypes p.ty (pointer_to e) is in
      given (λ p. PointerAt env s e p.expression × (p.ty ≡ pointer_to e)) p
      ((rw (← same) k.0.0, subst (λ t. Has s.types.types t) same k.0.1.0), same)))

  pub asks-pointer-sound : (up : ℕ) (r : Request) (e : CType) (x : Argument) → (Has s.types.types (pointer_to e) → is_request s r (Some (env.place int)) (env.place (pointer_to e) ∷ []) ≡ true)
      → IsArgument x → Gives (IsOperand env s) (asks_pointer env up r e x)
  asks-pointer-sound up r e x ok h =
      afterwards (λ p. PointerAt env s e p.expression × (p.ty ≡ pointer_to e)) (IsOperand env s) (points_to env up x e) (λ p. Ok (gives env r int (one_of p.expression))) (points-sound up x e h)
      (λ p k. given (IsOperand env s) _ (of-operand s r (env.place int) (env.place (pointer_to e)) p.expression k.0.0 (ok k.0.1), holds-integer env s agrees of_int))

  pub asks-integer-sound : (up : ℕ) (r : Request) (x : Argument) → ((i : ℕ) → kinds.is_integer s i ≡ true → is_request s r (Some (env.place int)) (i ∷ []) ≡ true)
      → IsArgument x → Gives (IsOperand env s) (asks_integer env up r x)
  asks-integer-sound up r x ok h =
      afterwards (IsInteger env s) (IsOperand env s) (integer_argument env up x) (λ v. Ok (gives env r int (one_of v.expression))) (integer-argument up x h)
      (λ v k. given (IsOperand env s) _
      (of-operand s r (env.place int) (env.place v.ty) v.expression k.0.0 (ok (env.place v.ty) (integer-there env s agrees (integer-of v.ty k.1))), holds-integer env s agrees of_int))

  -- ---- printf

  abbrev IsPiece : Conversion → Value → Type 0
  IsPiece c v = IsValue env s v × (piece s c (env.place v.ty) ≡ true)

  no-long : {t : CType} → Integer t → same_ctype t long ≡ false → (kinds.is_integer s (env.place t) && not (env.place t == long_type)) ≡ true
  no-long of_char e = and_from _ _ (integer-there env s agrees of_char) (rw (char-place env s agrees) refl)
  no-long of_int e = and_from _ _ (integer-there env s agrees of_int) (rw (int-place env s agrees) refl)
  no-long of_long e = absurd (false≢true (sym e))

  short-piece : (c : Conversion) (up : ℕ) (x : Argument) → ((t : CType) → is_integer t ≡ true → same_ctype t long ≡ false → piece s c (env.place t) ≡ true) → IsArgument x
      → Gives (IsPiece c) (and_then (integer_argument env up x) (λ v. if same_ctype v.ty long then fault (BadType up) else Ok v))
  short-piece c up x ok h =
      afterwards (IsInteger env s) (IsPiece c) (integer_argument env up x) _ (integer-argument up x h)
      (λ v k. by-test (IsPiece c) (same_ctype v.ty long) _ _ (λ is. faulty (IsPiece c) _) (λ not. given (IsPiece c) _ (k.0, ok v.ty k.1 not)))

  takes-sound : (up : ℕ) (c : Conversion) (x : Argument) → IsArgument x → Gives (IsPiece c) (takes env up c x)
  takes-sound up LongDecimal x h =
      afterwards (IsInteger env s) (IsPiece LongDecimal) (integer_argument env up x) _ (integer-argument up x h)
      (λ v k. if-test (IsPiece LongDecimal) (same_ctype v.ty long) (Ok v) (BadType up) (λ is. given (IsPiece LongDecimal) v (k.0, integer-there env s agrees (integer-of v.ty k.1))))
  takes-sound up Text x h =
      weaken (IsPiece Text) (λ p. PointerAt env s char p.expression × (p.ty ≡ pointer_to char)) (points_to env up x char) (points-sound up x char h)
      (λ p k. (
        rw (k.1) (k.0.0, (k.0.1, places.pointer-scalar char)),
        rw (k.1) (rw (char-place env s agrees) at (places.points env s agrees char k.0.1)),
      ))
  takes-sound up (Plain b) x h = short-piece (Plain b) up x (λ t is not. refl) h
  takes-sound up Decimal x h = short-piece Decimal up x (λ t is not. integer-there env s agrees (integer-of t is)) h
  takes-sound up Byte x h = short-piece Byte up x (λ t is not. no-long (integer-of t is) not) h

  more-values : (up : ℕ) (c : Conversion) (cs : List Conversion) (x : Argument) (rest : Checked Expressions)
      → ((t : ℕ) (plain : List ℕ) (ts : List ℕ) → kinds.takes s (parts_of plain (c ∷ cs)) (t ∷ ts) ≡ (piece s c t && kinds.takes s (parts_of [] cs) ts))
      → IsArgument x → Gives (Formatted s cs) rest → Gives (Formatted s (c ∷ cs)) (and_then (both (takes env up c x) rest) (λ y. Ok (More y.0.expression y.1)))
  more-values up c cs x rest step h k =
      afterwards (λ y. IsPiece c y.0 × Formatted s cs y.1) (Formatted s (c ∷ cs)) (both (takes env up c x) rest) (λ y. Ok (More y.0.expression y.1))
      (pair (IsPiece c) (Formatted s cs) (takes env up c x) rest (takes-sound up c x h) k)
      (λ y p. given (Formatted s (c ∷ cs)) _ (one-more s c cs (env.place y.0.ty) y.0.expression y.1 (step (env.place y.0.ty)) p.0.0.0 p.0.1 p.1))

  format-sound : (up : ℕ) (cs : List Conversion) (args : List Argument) → AllByRecursion IsArgument args → Gives (Formatted s cs) (format_values env up cs args)
  format-sound up [] [] h = given _ _ (no-more s)
  format-sound up [] (x ∷ rest) h = faulty _ _
  format-sound up (Plain b ∷ cs) args h =
      weaken (Formatted s (Plain b ∷ cs)) (Formatted s cs) (format_values env up cs args) (format-sound up cs args h)
      (λ es f. let (ts, typed, takes) = f in (ts, typed, λ plain. takes (plain ++ b ∷ [])))
  format-sound up (Decimal ∷ cs) [] h = faulty _ _
  format-sound up (LongDecimal ∷ cs) [] h = faulty _ _
  format-sound up (Byte ∷ cs) [] h = faulty _ _
  format-sound up (Text ∷ cs) [] h = faulty _ _
  format-sound up (Decimal ∷ cs) (x ∷ rest) h =
      more-values up Decimal cs x (format_values env up cs rest) (λ t plain ts. with-bytes s plain (part.Number ∷ parts_of [] cs) (t ∷ ts)) h.0 (format-sound up cs rest h.1)
  format-sound up (LongDecimal ∷ cs) (x ∷ rest) h =
      more-values up LongDecimal cs x (format_values env up cs rest) (λ t plain ts. with-bytes s plain (part.Number ∷ parts_of [] cs) (t ∷ ts)) h.0 (format-sound up cs rest h.1)
  format-sound up (Byte ∷ cs) (x ∷ rest) h =
      more-values up Byte cs x (format_values env up cs rest) (λ t plain ts. with-bytes s plain (part.Byte ∷ parts_of [] cs) (t ∷ ts)) h.0 (format-sound up cs rest h.1)
  format-sound up (Text ∷ cs) (x ∷ rest) h =
      more-values up Text cs x (format_values env up cs rest) (λ t plain ts. with-bytes s plain (part.Text ∷ parts_of [] cs) (t ∷ ts)) h.0 (format-sound up cs rest h.1)

  print-value : (cs : List Conversion) (es : Expressions) → Formatted s cs es → ValueOf env s int (Requested (request.Print (parts_of [] cs)) (Some (env.place int)) es)
  print-value cs es f =
      let (ts, typed, takes) = f in
      (rw (typed, takes [], int-place env s agrees) refl, holds-integer env s agrees of_int)

  pub printed-sound : (up : ℕ) (format : List ℕ) (args : List Argument) → AllByRecursion IsArgument args → Gives (IsOperand env s) (printed env up format args)
  printed-sound up format args h =
      afterwards (λ cs. format_of format ≡ Some cs) (IsOperand env s) (found (format_of format) (BadType up)) _ (when-found (format_of format) (BadType up))
      (λ cs is. afterwards (Formatted s cs) (IsOperand env s) (format_values env up cs args) (λ es. Ok (gives env (request.Print (parts_of [] cs)) int es)) (format-sound up cs args h)
      (λ es f. given (IsOperand env s) _ (print-value cs es f)))

  -- ---- points, threads, noted locals

  pub updated-sound : (up : ℕ) (name : List ℕ) → HasNumber env s (Updates name) → Gives (IsOperand env s) (updated env up name)
  updated-sound up name h = if-test (IsOperand env s) _ _ _ (λ is. given (IsOperand env s) _ (rw (lt-ltb (point_number env.points name) s.updates h) refl))

  pub updating-sound : (up : ℕ) (name : List ℕ) → HasNumber env s (Asks name) → Gives (IsOperand env s) (updating_from env up name)
  updating-sound up name h =
      if-test (IsOperand env s) _ _ _
      (λ is. given (IsOperand env s) _ (rw (lt-ltb (point_number env.points name) s.names h, int-place env s agrees) refl, holds-integer env s agrees of_int))

  abbrev IsEntry : Outer → ℕ × CType → Type 0
  IsEntry o e = (d : Declared) × (o ≡ Function d) × (d.result ≡ None) × (d.parameters ≡ e.1 ∷ []) × (d.number ≡ Some e.0)

  entry-in : (result : Option CType) (ps : List CType) (number : Option ℕ) (e : ℕ × CType) → entry_in result ps number ≡ Some e → (result ≡ None) × (ps ≡ e.1 ∷ []) × (number ≡ Some e.0)
  entry-in None (p ∷ []) (Some n) e is =
      let same : ◌≡◌ {A = ℕ × CType} (n, p) e = cc in
      (refl, ap (λ (x : ℕ × CType). x.1 ∷ []) same, ap (λ (x : ℕ × CType). Some x.0) same)
  entry-in _ _ _ e is = absurd cc

  entry-is : (o : Option Outer) (e : ℕ × CType) → entry_of o ≡ Some e → (d : Declared) × (o ≡ Some (Function d)) × (d.result ≡ None) × (d.parameters ≡ e.1 ∷ []) × (d.number ≡ Some e.0)
  entry-is (Some (Function d)) e is = let parts = entry-in d.result d.parameters d.number e is in (d, refl, parts.0, parts.1, parts.2)
  entry-is (Some (Global g t array)) e is = absurd cc
  entry-is None e is = absurd cc

  unhidden : (name : List ℕ) (o : Outer) (l : Option ℕ) → (elim l as (λ _. Option Outer) [ None ↦ env.outer name | (Some x) ↦ None ]) ≡ Some o → env.outer name ≡ Some o
  unhidden name o None e = e
  unhidden name o (Some x) e = absurd cc

  created-value : (f : Name) (e : ℕ × CType) (v : Expression) → entry_of (outer_unhidden env f.word) ≡ Some e → ValueOf env s e.1 v
      → ValueOf env s int (Requested (request.Create e.0) (Some (env.place int)) (one_of v))
  created-value f e v is h =
      let (d, named, result, parameters, number) = entry-is (outer_unhidden env f.word) e is in
      let outer = unhidden f.word (Function d) (local_named env.visible f.word) named in
      let head = agrees.functions f.word d e.0 outer number in
      let entry : is_entry (slice_get s.functions e.0) (env.place e.1) ≡ true =
      rw (head.0) (subst (λ r. is_entry_head (option_map env.place r) (map env.place d.parameters) (env.place e.1) ≡ true) (sym result)
      (subst (λ ps. is_entry_head None (map env.place ps) (env.place e.1) ≡ true) (sym parameters) (number-itself (env.place e.1)))) in
      (of-operand s (request.Create e.0) (env.place int) (env.place e.1) v h.0 (rw (entry, int-place env s agrees) refl), holds-integer env s agrees of_int)

  entry-has : (f : Name) (e : ℕ × CType) → entry_of (outer_unhidden env f.word) ≡ Some e → Has s.types.types e.1
  entry-has f e is =
      let (d, named, result, parameters, number) = entry-is (outer_unhidden env f.word) e is in
      let outer = unhidden f.word (Function d) (local_named env.visible f.word) named in
      let head = agrees.functions f.word d e.0 outer number in
      (subst (λ ps. AllByRecursion (Holds s.types.types) ps) parameters head.1).0.0

  pub created-sound : (up : ℕ) (f : Name) (x : Argument) → IsArgument x → Gives (IsOperand env s) (created env up f x)
  created-sound up f x h =
      afterwards (λ e. entry_of (outer_unhidden env f.word) ≡ Some e) (IsOperand env s) (found (entry_of (outer_unhidden env f.word)) (no_entry env f)) _
      (when-found (entry_of (outer_unhidden env f.word)) (no_entry env f))
      (λ e is. afterwards (ValueOf env s e.1) (IsOperand env s) (and_then x.typed (convert env e.1 x.at up)) (λ v. Ok (gives env (request.Create e.0) int (one_of v)))
      (afterwards (IsOperand env s) (ValueOf env s e.1) x.typed (convert env e.1 x.at up) h (λ o k. convert-sound env s agrees e.1 x.at up o (entry-has f e is) k))
      (λ v k. given (IsOperand env s) _ (created-value f e v is k)))

  pub migrated-sound : (up : ℕ) (n : Name) → Gives (IsOperand env s) (migrated env up n)
  migrated-sound up n =
      if-test (IsOperand env s) env.noted _ _
      (λ noted. afterwards (λ x. local_named env.visible n.word ≡ Some x) (IsOperand env s) (found (local_named env.visible n.word) (Note up)) (λ x. Ok (gives env (request.MigrateLocal x) int NoMore))
      (when-found (local_named env.visible n.word) (Note up))
      (λ x is. let (t, at, scalar) = agrees.visible n.word x is in
      let below : x < length s.locals = rw agrees.count (slice_get_within env.locals x t at) in
      given (IsOperand env s) _ (rw (agrees.noted, noted, lt-ltb x (length s.locals) below, int-place env s agrees) refl, holds-integer env s agrees of_int)))
