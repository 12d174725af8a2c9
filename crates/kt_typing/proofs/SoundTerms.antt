-- Expressions are sound: each has the type that the judgment of typed trees gives its tree.
use Rattle.std.proofs.Common.{◌≡◌, ℕ, pos, negsuc, ◌+◌, ◌==◌, Bool, true, false, List, [], ◌∷◌, length, slice_get, Option, Some, None, Result, Err, if◌then◌else◌, refl}
use Rattle.std.specs.List.{AllByRecursion}
use Rattle.kt_grammar.specs.declared.tree.Name.{Name}
use Rattle.kt_grammar.specs.Tree.{Term, Constant, Character, Text, Null, Eof, Named, Called, Parenthesised, SizeOf, RuleValue, OldSymbol, Transformed, NewObject, Element, Member, Pointed, Stepped, Prefixed, Converted, Operated, Chosen, Assigned, Terms, Nothing, More}
use Rattle.kt_tree.specs.declared.expr.Constant.TheVariants as constant
use Rattle.kt_tree.specs.declared.expr.Request.TheVariants as request
use Rattle.kt_tree.specs.Kinds.{Head, int_type}
use Rattle.kt_typing.specs.declared.builtin.Builtin.{Builtin}
use Rattle.kt_typing.specs.declared.fault.Fault.{Fault}
use Rattle.kt_typing.specs.declared.format.Conversion.{Conversion}
use Rattle.kt_typing.specs.declared.standing.Use.{Use}
use Rattle.kt_typing.specs.declared.standing.Use.TheVariants as use_as
use Rattle.kt_typing.specs.Calls.{Row, Asks, Allocates, AllocatesZeros, Prints, Begins, Reaches, AsksFrom, Keeps, builtin_named, row, leaf, behind, behind_word, converted_all, function_called, meaning_called, argument_values, plain_values, printed, entry, with_entry, format_in, print_form, row_called, miscounted}
use Rattle.kt_typing.specs.Environment.{Environment, Meaning, Missing, Barred, Stands, Routine, type_named}
use Rattle.kt_typing.specs.Faults.{bad_type, unknown}
use Rattle.kt_typing.specs.Formats.{taken_by}
use Rattle.kt_typing.specs.Forms.{Form, Ruled, Parts, NoPart, Part, typed, operands}
use Rattle.kt_typing.specs.Operands.{Operand}
use Rattle.kt_typing.specs.Rules.{wrong, null_at, element, member, pointed, operator, choice, changed, step_operator, one, unary, cast, assignment}
use Rattle.kt_typing.specs.Sound.{IsSound, IsRight}
use Rattle.kt_typing.specs.Terms.{first_token, first_text, first_name, argument_count, struct_place, is_allocation, factor_use, operand_use, on_one, on_two, on_three, called, argument_uses, form, parts}
use Rattle.kt_typing.proofs.SoundCalls.{called-with-sound, asked-sound, written-sound, allocation-sound, zeroed-sound, begun-sound, pointed-at-sound, entry-sound, kept-name-sound, converted-all-sound, plain-values-sound, argument-values-sound}
use Rattle.kt_typing.proofs.SoundChoices.{choice-sound}
use Rattle.kt_typing.proofs.SoundForms.{ruled-sound, no-part-sound, part-sound, leaf-sound, one-sound, two-sound, three-sound}
use Rattle.kt_typing.proofs.SoundOperands.{Sound, sound-err, sound-ok}
use Rattle.kt_typing.proofs.SoundOperators.{constant-sound, number-sound, null-sound, meant-sound, size-sound, element-sound, pointed-sound, member-sound, operator-sound, changed-sound, one-is, assignment-sound, unary-sound, cast-sound}

module _ (env : Environment) where
  abbrev FormSound : Form → Type 0
  FormSound e = (x : Operand) → typed e ≡ Some x → IsSound env.scope x

  abbrev PartsSound : Parts → Type 0
  PartsSound ps = (xs : List Operand) → operands ps ≡ Some xs → AllByRecursion (IsSound env.scope) xs

  -- ---- calls

  function-sound : (at f count : ℕ) (ps : Parts) (o : Option Head) → slice_get env.scope.functions f ≡ o → PartsSound ps → FormSound (function_called env at f count ps o)
  function-sound at f count ps None is h = ruled-sound env.scope (Some (unknown at)) ps (λ xs. Err (unknown at)) h (λ xs all. sound-err env.scope (unknown at))
  function-sound at f count ps (Some d) is h = ruled-sound env.scope (miscounted at (length d.parameters) count) ps _ h
      (λ xs all. called-with-sound env at f d is (converted_all env.scope d.parameters xs) (converted-all-sound env.scope d.parameters xs all))

  meaning-sound : (at count : ℕ) (ps : Parts) (m : Meaning) → PartsSound ps → FormSound (meaning_called env at count ps m)
  meaning-sound at count ps Missing h = ruled-sound env.scope (Some (unknown at)) ps (λ xs. Err (unknown at)) h (λ xs all. sound-err env.scope (unknown at))
  meaning-sound at count ps Barred h = ruled-sound env.scope (Some (bad_type at)) ps (λ xs. Err (bad_type at)) h (λ xs all. sound-err env.scope (bad_type at))
  meaning-sound at count ps (Stands what t e) h = ruled-sound env.scope (Some (bad_type at)) ps (λ xs. Err (bad_type at)) h (λ xs all. sound-err env.scope (bad_type at))
  meaning-sound at count ps (Routine f) h = function-sound at f count ps (slice_get env.scope.functions f) refl h

  word-sound : {A : Type 0} (o : Option A) (ps : Parts) → PartsSound ps → PartsSound (behind ps) → PartsSound (behind_word o ps)
  word-sound None ps h k = h
  word-sound (Some w) ps h k = k

  printed-sound : (at count : ℕ) (ps : Parts) (o : Option (List Conversion)) → PartsSound ps → FormSound (printed env at count ps o)
  printed-sound at count ps None h = ruled-sound env.scope None ps (λ xs. Err (bad_type at)) h (λ xs all. sound-err env.scope (bad_type at))
  printed-sound at count ps (Some cs) h = ruled-sound env.scope (miscounted at (1 + taken_by cs) count) ps _ h
      (λ xs all. written-sound env at cs (plain_values env.scope xs) (plain-values-sound env.scope xs all))

  print-sound : (at count : ℕ) (text : Option (List ℕ)) (ps : Parts) → PartsSound ps → PartsSound (behind ps) → FormSound (print_form env at count text ps)
  print-sound at count text ps h k = by (count == 0)
    where
      by : (b : Bool) → FormSound (if b then Ruled (Some (bad_type at)) ps (λ xs. Err (bad_type at)) else printed env at count (behind_word text ps) (format_in text))
      by true = ruled-sound env.scope (Some (bad_type at)) ps (λ xs. Err (bad_type at)) h (λ xs all. sound-err env.scope (bad_type at))
      by false = printed-sound at count (behind_word text ps) (format_in text) (word-sound text ps h k)

  with-entry-sound : (o : Option Name) (ps : Parts) → PartsSound ps → PartsSound (behind ps) → PartsSound (with_entry env o ps)
  with-entry-sound None ps h k = h
  with-entry-sound (Some n) NoPart h k = h
  with-entry-sound (Some n) (Part w e rest) h k =
      part-sound env.scope (λ x. None) (leaf (entry env n.at (env.name n.word))) rest (leaf-sound env.scope _ (entry-sound env n.at (env.name n.word))) k

  row-sound : (at count : ℕ) (text : Option (List ℕ)) (name : Option Name) (ps : Parts) (r : Row) → PartsSound ps → PartsSound (behind ps)
      → FormSound (row_called env at count text name ps r)
  row-sound at count text name ps (Asks as' r t) h k = ruled-sound env.scope (miscounted at (length as') count) ps _ h
      (λ xs all. asked-sound env at r t (argument_values env.scope as' xs) (argument-values-sound env.scope as' xs all))
  row-sound at count text name ps Allocates h k = ruled-sound env.scope (miscounted at 1 count) ps _ h (allocation-sound env at)
  row-sound at count text name ps AllocatesZeros h k = ruled-sound env.scope (miscounted at 2 count) ps _ h (zeroed-sound env at)
  row-sound at count text name ps Prints h k = print-sound at count text ps h k
  row-sound at count text name ps Begins h k = ruled-sound env.scope (miscounted at 2 count) (with_entry env name ps) _ (with-entry-sound name ps h k) (begun-sound env at)
  row-sound at count text name ps Reaches h k = ruled-sound env.scope (miscounted at 1 count) (behind_word text ps) _ (word-sound text ps h k)
      (λ xs all. pointed-at-sound env at request.Point None text)
  row-sound at count text name ps AsksFrom h k = ruled-sound env.scope (miscounted at 1 count) (behind_word text ps) _ (word-sound text ps h k)
      (λ xs all. pointed-at-sound env at request.IsUpdatingFrom (Some int_type) text)
  row-sound at count text name ps Keeps h k = ruled-sound env.scope (miscounted at 1 count) (behind_word name ps) _ (word-sound name ps h k) (λ xs all. kept-name-sound env at name)

  called-sound : (n : Name) (count : ℕ) (text : Option (List ℕ)) (name : Option Name) (ps : Parts) (b : Option Builtin) → PartsSound ps → PartsSound (behind ps)
      → FormSound (called env n count text name ps b)
  called-sound n count text name ps None h k = meaning-sound n.at count ps (env.name n.word) h
  called-sound n count text name ps (Some b) h k = row-sound n.at count text name ps (row b) h k

  -- ---- forms of one, two and three parts

  of-one-sound : (at : ℕ) (w : Operand → Option Fault) (a : Form) (rule : Operand → Result Operand Fault) → FormSound a
      → ((x : Operand) → IsSound env.scope x → Sound env.scope (rule x)) → FormSound (Ruled None (Part w a NoPart) (on_one at rule))
  of-one-sound at w a rule h k = ruled-sound env.scope None (Part w a NoPart) (on_one at rule) (part-sound env.scope w a NoPart h (no-part-sound env.scope)) (one-sound env.scope at rule k)

  of-two-sound : (at : ℕ) (w v : Operand → Option Fault) (a b : Form) (rule : Operand → Operand → Result Operand Fault) → FormSound a → FormSound b
      → ((x y : Operand) → IsSound env.scope x → IsSound env.scope y → Sound env.scope (rule x y)) → FormSound (Ruled None (Part w a (Part v b NoPart)) (on_two at rule))
  of-two-sound at w v a b rule h l k = ruled-sound env.scope None (Part w a (Part v b NoPart)) (on_two at rule)
      (part-sound env.scope w a (Part v b NoPart) h (part-sound env.scope v b NoPart l (no-part-sound env.scope))) (two-sound env.scope at rule k)

  of-three-sound : (at : ℕ) (w : Operand → Option Fault) (a b c : Form) (rule : Operand → Operand → Operand → Result Operand Fault) → FormSound a → FormSound b → FormSound c
      → ((x y z : Operand) → IsSound env.scope x → IsSound env.scope y → IsSound env.scope z → Sound env.scope (rule x y z))
      → FormSound (Ruled None (Part w a (Part w b (Part w c NoPart))) (on_three at rule))
  of-three-sound at w a b c rule h l m k = ruled-sound env.scope None (Part w a (Part w b (Part w c NoPart))) (on_three at rule)
      (part-sound env.scope w a (Part w b (Part w c NoPart)) h (part-sound env.scope w b (Part w c NoPart) l (part-sound env.scope w c NoPart m (no-part-sound env.scope))))
      (three-sound env.scope at rule k)

module _ (env : Environment) (right : IsRight env) where
  mutual
    pub form-sound : (u : Use) (t : Term) → (x : Operand) → typed (form env u t) ≡ Some x → IsSound env.scope x
    form-sound u (Constant at n) = leaf-sound env.scope _ (number-sound env at n)
    form-sound u (Character at b) = leaf-sound env.scope _ (constant-sound env at (constant.Number (pos b)) int_type)
    form-sound u (Text at bytes) = leaf-sound env.scope _ (constant-sound env at (constant.Literal (env.literal at)) env.text)
    form-sound u (Null at) = leaf-sound env.scope _ (sound-ok env.scope (null_at env at) (null-sound env right.text at))
    form-sound u (Eof at) = leaf-sound env.scope _ (constant-sound env at (constant.Number (negsuc 0)) int_type)
    form-sound u (Named n) = leaf-sound env.scope _ (meant-sound env n.at n.at (env.name n.word) (right.names n.word))
    form-sound u (Called n args) =
        called-sound env n (argument_count args) (first_text args) (first_name args) (parts env (argument_uses (builtin_named n.word)) args) (builtin_named n.word)
        (parts-sound (argument_uses (builtin_named n.word)) args) (behind-sound (argument_uses (builtin_named n.word)) args)
    form-sound u (Parenthesised at a) = form-sound u a
    form-sound u (SizeOf at t) = leaf-sound env.scope _ (size-sound env at (struct_place t.base at) t)
    form-sound u (RuleValue at w) = leaf-sound env.scope _ (meant-sound env at at (env.word w) (right.words w))
    form-sound u (OldSymbol at n) = leaf-sound env.scope _ (meant-sound env at n.at (env.old_symbol n.word) (right.symbols n.word))
    form-sound u (NewObject at f) = leaf-sound env.scope _ (sound-err env.scope (bad_type at))
    form-sound u (Transformed at a) =
        of-one-sound env at (wrong env use_as.Value) (form env use_as.Value a) (λ x. Err (bad_type at)) (form-sound use_as.Value a)
        (λ x h. sound-err env.scope (bad_type at))
    form-sound u (Element a i) =
        of-two-sound env (first_token a) (wrong env use_as.Indexed) (wrong env use_as.Value) (form env use_as.Indexed a) (form env use_as.Value i) (element env (first_token a)) (form-sound use_as.Indexed a) (form-sound use_as.Value i)
        (element-sound env (first_token a))
    form-sound u (Member a f) =
        of-one-sound env (first_token a) (wrong env use_as.Whole) (form env use_as.Whole a) (member env (first_token a) f) (form-sound use_as.Whole a) (member-sound env (first_token a) f)
    form-sound u (Pointed a f) =
        of-one-sound env (first_token a) (wrong env use_as.Value) (form env use_as.Value a) (pointed env (first_token a) f) (form-sound use_as.Value a) (pointed-sound env (first_token a) f)
    form-sound u (Stepped a op) =
        of-one-sound env (first_token a) (wrong env use_as.Value) (form env use_as.Value a) (λ x. changed env (first_token a) true (step_operator op) x one) (form-sound use_as.Value a)
        (λ x h. changed-sound env (first_token a) true (step_operator op) x one h (one-is env))
    form-sound u (Prefixed at op a) =
        of-one-sound env at (wrong env (operand_use op)) (form env (operand_use op) a) (unary env at op) (form-sound (operand_use op) a) (unary-sound env at op)
    form-sound u (Converted at t a) =
        of-one-sound env at (wrong env use_as.Value) (form env use_as.Value a) (cast env at (is_allocation a) (type_named env t)) (form-sound use_as.Value a)
        (cast-sound env at (is_allocation a) (type_named env t))
    form-sound u (Operated op a b) =
        of-two-sound env (first_token a) (wrong env (factor_use op u)) (wrong env (factor_use op u)) (form env (factor_use op u) a) (form env (factor_use op u) b) (operator env (first_token a) op) (form-sound (factor_use op u) a) (form-sound (factor_use op u) b)
        (operator-sound env right.mutex (first_token a) op)
    form-sound u (Chosen c a b) =
        of-three-sound env (first_token c) (wrong env use_as.Value) (form env use_as.Value c) (form env use_as.Value a) (form env use_as.Value b) (choice env (first_token c))
        (form-sound use_as.Value c) (form-sound use_as.Value a) (form-sound use_as.Value b) (choice-sound env (first_token c))
    form-sound u (Assigned op a b) =
        of-two-sound env (first_token a) (wrong env use_as.Value) (wrong env use_as.Value) (form env use_as.Value a) (form env use_as.Value b) (assignment env (first_token a) op) (form-sound use_as.Value a) (form-sound use_as.Value b)
        (assignment-sound env (first_token a) op)

    pub parts-sound : (us : List Use) (args : Terms) → (xs : List Operand) → operands (parts env us args) ≡ Some xs → AllByRecursion (IsSound env.scope) xs
    parts-sound us Nothing = no-part-sound env.scope
    parts-sound [] (More a rest) = part-sound env.scope (wrong env use_as.Value) (form env use_as.Value a) (parts env [] rest) (form-sound use_as.Value a) (parts-sound [] rest)
    parts-sound (u ∷ us) (More a rest) = part-sound env.scope (wrong env u) (form env u a) (parts env us rest) (form-sound u a) (parts-sound us rest)

    behind-sound : (us : List Use) (args : Terms) → (xs : List Operand) → operands (behind (parts env us args)) ≡ Some xs → AllByRecursion (IsSound env.scope) xs
    behind-sound us Nothing = no-part-sound env.scope
    behind-sound [] (More a rest) = parts-sound [] rest
    behind-sound (u ∷ us) (More a rest) = parts-sound us rest
