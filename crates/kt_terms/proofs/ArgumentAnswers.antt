-- Answers to arguments, and to lists of them.
use Rattle.std.proofs.Common.{zero, suc, ◌≡◌, ℕ, ◌<◌, ◌≤◌, List, [], ◌∷◌, ◌++◌, length, drop, map, Option, None, Some, slice_get, Result, Ok, Err, inl, refl, sym, ap, ◌∙◌, subst, arith, append_assoc, append-nil, length-append, add-one}
use Rattle.std.specs.Prelude.{reverse, IfOk, IfErr, MatchOption}
use Rattle.std.specs.Global.{Vec}
use Rattle.std.proofs.lemmas.List.{reverse-append}
use Rattle.kt_tree.specs.declared.expr.Expr.{Expr}
use Rattle.kt_tree.specs.Tree.{Expression, Expressions, More, expression_of}
use Rattle.kt_names.specs.declared.ctype.CType.{CType}
use Rattle.kt_names.specs.declared.fault.CheckFault.{CheckFault}
use Rattle.kt_names.specs.declared.fault.CheckFault.TheVariants.{NoMemory, BadType}
use Rattle.kt_terms.specs.declared.argument.Argument.{Argument as ArgumentCode}
use Rattle.kt_terms.specs.declared.argument.Wanted.{Wanted}
use Rattle.kt_terms.specs.declared.argument.Wanted.TheVariants.{Parameter, Piece}
use Rattle.kt_names.specs.declared.format.Conversion.{Conversion}
use Rattle.kt_names.specs.declared.format.Conversion.TheVariants.{Plain, Decimal, LongDecimal, Byte, Text}
use Rattle.kt_names.specs.Checked.{Checked, fault, and_then, both}
use Rattle.kt_names.specs.Environment.{Environment}
use Rattle.kt_names.specs.Operands.{Operand, Value}
use Rattle.kt_names.specs.Builtins.{Argument, takes, format_values}
use Rattle.kt_names.specs.Judges.{Judges, Fails, both_of}
use Rattle.kt_names.specs.Views.{operand_of, expressions_of}
use Rattle.kt_names.specs.declared.builtin.Builtin.{Builtin}
use Rattle.kt_names.specs.declared.builtin.Builtin.TheVariants as builtin
use Rattle.kt_names.specs.declared.operand.Operand.{Operand as OperandCode}
use Rattle.kt_names.specs.Terms.{passed, plain_builtin}
use Rattle.kt_terms.specs.Arguments.{argument_at, JudgesArgument, AreJudged, wanted_value, all_wanted, with_wanted, none_left, wanted_by, last_first}
use Rattle.kt_names.proofs.Parts.{after_typed, after_fault, judges-pair}

-- ---- one argument

module _ {B C M Y : Type 0} (x : ArgumentCode) (mid : M → B) (whole : Y → C) (r : Result M CheckFault) (f : Argument → Checked B) (l : B → Checked C) where
  pub argument_typed : (v : M) (y : Result Y CheckFault) → JudgesArgument x mid r f → r ≡ Ok v → Judges whole y (l (mid v)) → JudgesArgument x whole y (λ a. and_then (f a) l)
  argument_typed v y h e k s j = after_typed mid whole r v y l e k (f (argument_at x s)) (h s j)

  pub argument_fault : (g : CheckFault) → JudgesArgument x mid r f → r ≡ Err g → (s : Checked Operand) → Judges operand_of x.typed s → Fails g (and_then (f (argument_at x s)) l)
  argument_fault g h e s j = after_fault mid r g l e (f (argument_at x s)) (h s j)

-- ---- what is wanted

-- parameters want their types
pub passed-wanted : (env : Environment) (up : ℕ) (ps : List CType) (xs : List Argument) → all_wanted env up (map Parameter ps) xs ≡ passed env up ps xs
passed-wanted env up [] [] = refl
passed-wanted env up [] (x ∷ xs) = refl
passed-wanted env up (p ∷ ps) [] = refl
passed-wanted env up (p ∷ ps) (x ∷ xs) =
    ap (λ (rest : Checked Expressions). and_then (both (wanted_value env up (Parameter p) x) rest) (λ y. Ok (More y.0 y.1))) (passed-wanted env up ps xs)

-- a piece's value is its expression
value-first : (t : Checked Value) (rest : Checked Expressions)
    → and_then (both (and_then t (λ v. Ok v.expression)) rest) (λ y. Ok (More y.0 y.1)) ≡ and_then (both t rest) (λ y. Ok (More y.0.expression y.1))
unfolding both
value-first (Ok v) (Ok es) = refl
value-first (Ok v) (Err g) = refl
value-first (Err f) (Ok es) = refl
value-first (Err f) (Err g) = refl

module _ (env : Environment) (up : ℕ) where
  piece-wanted : (c : Conversion) (x : Argument) (more rest : Checked Expressions) → more ≡ rest
      → and_then (both (wanted_value env up (Piece c) x) more) (λ y. Ok (More y.0 y.1)) ≡ and_then (both (takes env up c x) rest) (λ y. Ok (More y.0.expression y.1))
  piece-wanted c x more rest e =
      ap (λ (r : Checked Expressions). and_then (both (wanted_value env up (Piece c) x) r) (λ y. Ok (More y.0 y.1))) e ∙ value-first (takes env up c x) rest

  -- pieces of a format want their values
  pub format-wanted : (cs : List Conversion) (xs : List Argument) → all_wanted env up (wanted_by cs) xs ≡ format_values env up cs xs
  format-wanted [] [] = refl
  format-wanted [] (x ∷ xs) = refl
  format-wanted (Plain b ∷ cs) [] = format-wanted cs []
  format-wanted (Plain b ∷ cs) (x ∷ xs) = format-wanted cs (x ∷ xs)
  format-wanted (Decimal ∷ cs) [] = refl
  format-wanted (Decimal ∷ cs) (x ∷ xs) = piece-wanted Decimal x _ _ (format-wanted cs xs)
  format-wanted (LongDecimal ∷ cs) [] = refl
  format-wanted (LongDecimal ∷ cs) (x ∷ xs) = piece-wanted LongDecimal x _ _ (format-wanted cs xs)
  format-wanted (Byte ∷ cs) [] = refl
  format-wanted (Byte ∷ cs) (x ∷ xs) = piece-wanted Byte x _ _ (format-wanted cs xs)
  format-wanted (Text ∷ cs) [] = refl
  format-wanted (Text ∷ cs) (x ∷ xs) = piece-wanted Text x _ _ (format-wanted cs xs)

  -- ---- from the last argument to the first

  -- what is wanted from a place on, of an argument and those behind it
  pub wanted-from : (ws : List Wanted) (i : ℕ) (s : Argument) (back : List Argument)
      → with_wanted env up (slice_get ws i) s (all_wanted env up (drop (suc i) ws) back) ≡ all_wanted env up (drop i ws) (s ∷ back)
  wanted-from [] zero s back = refl
  wanted-from [] (suc i) s back = refl
  wanted-from (w ∷ ws) zero s back = refl
  wanted-from (w ∷ ws) (suc i) s back = wanted-from ws i s back

  pub wanted-none : (ws : List Wanted) (i : ℕ) → all_wanted env up (drop i ws) [] ≡ none_left up (slice_get ws i)
  wanted-none [] zero = refl
  wanted-none [] (suc i) = refl
  wanted-none (w ∷ ws) zero = refl
  wanted-none (w ∷ ws) (suc i) = wanted-none ws i

-- the arguments before the last, and the last
abbrev pub Split : List ArgumentCode → ArgumentCode → List Argument → Type 0
Split xs x specs = (front : List Argument) × (s : Checked Operand) × (specs ≡ front ++ argument_at x s ∷ []) × AreJudged xs front × Judges operand_of x.typed s

pub split : (xs : List ArgumentCode) (x : ArgumentCode) (specs : List Argument) → AreJudged (xs ++ x ∷ []) specs → Split xs x specs
split [] x [] h = absurd h
split [] x (s ∷ []) h = ([], s.typed, ap (λ a. a ∷ []) h.0, tt, h.1)
split [] x (s ∷ t ∷ rest) h = absurd h.2
split (y ∷ xs) x [] h = absurd h
split (y ∷ xs) x (s ∷ rest) h =
    let (front, t, e, are, last) = split xs x rest h.2 in
    (s ∷ front, t, ap (λ r. s ∷ r) e, (h.0, h.1, are), last)

-- an operand more at the end of those of which the last comes first
pub last-push : (es : List Expr) (e : Expr) → expressions_of (map expression_of (reverse (es ++ e ∷ []))) ≡ More (expression_of e) (expressions_of (map expression_of (reverse es)))
last-push es e = ap (λ (xs : List Expr). expressions_of (map expression_of xs)) (reverse-append es (e ∷ []))

pub pushed_judged : (y : Result (Vec Expr) CheckFault) (es : Vec Expr) (e : Expr) → IfOk y (λ v. v.items ≡ es.items ++ e ∷ []) → IfErr y (λ f. f ≡ NoMemory)
    → Judges last_first y (Ok (More (expression_of e) (last_first es)))
pushed_judged (Ok v) es e h k =
    ap (λ (x : Expressions). Ok x) (sym (ap (λ (xs : List Expr). expressions_of (map expression_of (reverse xs))) h ∙ last-push es.items e))
pushed_judged (Err f) es e h k = inl k

abbrev more_of : Expression × Expressions → Checked Expressions
more_of y = Ok (More y.0 y.1)

abbrev parts_view : Expr × Vec Expr → Expression × Expressions
parts_view x = (expression_of x.0, last_first x.1)

module _ (operand : Result Expr CheckFault) (rest : Result (Vec Expr) CheckFault) (b : Result (Expr × Vec Expr) CheckFault) (is : b ≡ both_of operand rest)
    (a : Checked Expression) (r : Checked Expressions) (h : Judges expression_of operand a) (k : Judges last_first rest r) where
  pub operand_typed : (parts : Expr × Vec Expr) (y : Result (Vec Expr) CheckFault) → b ≡ Ok parts → IfOk y (λ v. v.items ≡ parts.1.items ++ parts.0 ∷ []) → IfErr y (λ f. f ≡ NoMemory)
      → Judges last_first y (and_then (both a r) more_of)
  operand_typed parts y e ok err =
      after_typed parts_view last_first b parts y more_of e (pushed_judged y parts.1 parts.0 ok err) (both a r) (judges-pair expression_of last_first operand rest b a r is h k)

  pub operand_fault : (f : CheckFault) → b ≡ Err f → Fails f (and_then (both a r) more_of)
  operand_fault f e = after_fault parts_view b f more_of e (both a r) (judges-pair expression_of last_first operand rest b a r is h k)

-- ---- the loop

-- some of the arguments are left, and those behind them are judged
abbrev pub Left : Environment → ℕ → List Wanted → List ArgumentCode → Result (Vec Expr) CheckFault → List Argument → Type 0
Left env up ws xs operands specs =
    (front : List Argument) × (back : List Argument) × (specs ≡ front ++ back) × AreJudged xs front × Judges last_first operands (all_wanted env up (drop (length xs) ws) back)

pub left-first : (env : Environment) (up : ℕ) (ws : List Wanted) (xs : List ArgumentCode) (operands : Result (Vec Expr) CheckFault) (specs : List Argument)
    → Judges last_first operands (none_left up (slice_get ws (length xs))) → AreJudged xs specs → Left env up ws xs operands specs
left-first env up ws xs operands specs h are =
    let P : Checked Expressions → Type 0 = λ r. Judges last_first operands r in
    (specs, [], sym (append-nil specs), are, subst P (sym (wanted-none env up ws (length xs))) h)

module _ (env : Environment) (up : ℕ) (ws : List Wanted) (xs : List ArgumentCode) (x : ArgumentCode) (operands after : Result (Vec Expr) CheckFault) (specs : List Argument) where
  pub left-next : (all : List ArgumentCode) → all ≡ xs ++ x ∷ []
      → ((s : Checked Operand) → (r : Checked Expressions) → Judges operand_of x.typed s → Judges last_first operands r → Judges last_first after (with_wanted env up (slice_get ws (length xs)) (argument_at x s) r))
      → Left env up ws all operands specs → Left env up ws xs after specs
  left-next all e step (front, back, is, are, judged) =
      let (rest, s, at, others, typed) = split xs x front (subst (λ (ys : List ArgumentCode). AreJudged ys front) e are) in
      let n : length all ≡ suc (length xs) = ap length e ∙ length-append xs (x ∷ []) ∙ add-one (length xs) in
      let P : ℕ → Type 0 = λ k. Judges last_first operands (all_wanted env up (drop k ws) back) in
      let Q : Checked Expressions → Type 0 = λ r. Judges last_first after r in (
        rest,
        argument_at x s ∷ back,
        is ∙ ap (λ (ys : List Argument). ys ++ back) at ∙ append_assoc rest (argument_at x s ∷ []) back,
        others,
        subst Q (wanted-from env up ws (length xs) (argument_at x s) back) (step s (all_wanted env up (drop (suc (length xs)) ws) back) typed (subst P n judged)),
      )

pub left-none : (env : Environment) (up : ℕ) (ws : List Wanted) (operands : Result (Vec Expr) CheckFault) (specs : List Argument) → Left env up ws [] operands specs → Judges last_first operands (all_wanted env up ws specs)
left-none env up ws operands specs ([], back, is, are, judged) =
    let P : List Argument → Type 0 = λ xs. Judges last_first operands (all_wanted env up ws xs) in
    subst P (sym is) judged
left-none env up ws operands specs (s ∷ front, back, is, are, judged) = absurd are

-- ---- built-in calls of values

many : (env : Environment) (up : ℕ) (b : Builtin) (x y : Argument) (rest : List Argument) → plain_builtin env up b (x ∷ y ∷ rest) ≡ fault (BadType up)
many env up builtin.Malloc x y rest = refl
many env up builtin.Calloc x y rest = refl
many env up builtin.Free x y rest = refl
many env up builtin.GetChar x y rest = refl
many env up builtin.PutChar x y rest = refl
many env up builtin.Puts x y rest = refl
many env up builtin.Printf x y rest = refl
many env up builtin.Lock x y rest = refl
many env up builtin.Unlock x y rest = refl
many env up builtin.InitMutex x y rest = refl
many env up builtin.Create x y rest = refl
many env up builtin.Join x y rest = refl
many env up builtin.Update x y rest = refl
many env up builtin.IsUpdating x y rest = refl
many env up builtin.IsUpdatingFrom x y rest = refl
many env up builtin.Automigrate x y rest = refl
many env up builtin.MigrateLocal x y rest = refl

module _ (env : Environment) (up : ℕ) (b : Builtin) where
  pub plain-many : (xs : List ArgumentCode) (specs : List Argument) → 1 < length xs → AreJudged xs specs → plain_builtin env up b specs ≡ fault (BadType up)
  plain-many [] specs h are = absurd (omega arith)
  plain-many (x ∷ []) specs h are = absurd (omega arith)
  plain-many (x ∷ y ∷ xs) [] h are = absurd are
  plain-many (x ∷ y ∷ xs) (s ∷ []) h are = absurd are.2
  plain-many (x ∷ y ∷ xs) (s ∷ t ∷ rest) h are = many env up b s t rest

  pub plain-none : (r : Result OperandCode CheckFault) (specs : List Argument) → AreJudged [] specs → Judges operand_of r (plain_builtin env up b []) → Judges operand_of r (plain_builtin env up b specs)
  plain-none r [] are h = h
  plain-none r (s ∷ rest) are h = absurd are

  pub plain-one : (r : Result OperandCode CheckFault) (xs : List ArgumentCode) (x : ArgumentCode) (specs : List Argument) → length (xs ++ x ∷ []) ≤ 1 → AreJudged (xs ++ x ∷ []) specs
      → JudgesArgument x operand_of r (λ a. plain_builtin env up b (a ∷ [])) → Judges operand_of r (plain_builtin env up b specs)
  plain-one r [] x [] n are h = absurd are
  plain-one r [] x (s ∷ []) n are h =
      let P : Argument → Type 0 = λ a. Judges operand_of r (plain_builtin env up b (a ∷ [])) in
      subst P (sym are.0) (h s.typed are.1)
  plain-one r [] x (s ∷ t ∷ rest) n are h = absurd are.2
  plain-one r (y ∷ xs) x specs n are h = absurd (omega (arith, length-append xs (x ∷ [])))

-- nothing is left where nothing came
pub pop-none : (o : Option ArgumentCode) (old new : List ArgumentCode) → MatchOption o ((old ≡ []) × (new ≡ [])) (λ last. old ≡ new ++ last ∷ []) → ((x : ArgumentCode) → o ≡ Some x → ⊥) → old ≡ []
pop-none None old new h n = h.0
pop-none (Some x) old new h n = absurd (n x refl)
