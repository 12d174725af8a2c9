-- Calls are sound.
use Rattle.std.proofs.Common.{◌≡◌, ℕ, Bool, true, false, List, [], ◌∷◌, slice_get, Option, Some, None, Ok, Err, if◌then◌else◌, refl, sym, ap, ◌∙◌, subst}
use Rattle.std.specs.List.{AllByRecursion}
use Rattle.kt_grammar.specs.declared.tree.Name.{Name}
use Rattle.kt_tree.specs.declared.expr.Request.{Request}
use Rattle.kt_tree.specs.declared.expr.Request.TheVariants as request
use Rattle.kt_tree.specs.Tree.{Requested, NoMore}
use Rattle.kt_tree.specs.Kinds.{Scope, Head, is_request, is_integer, char_type, int_type}
use Rattle.kt_tree.specs.Names.{is_point_name}
use Rattle.kt_tree.specs.Typed.{types, call_kind}
use Rattle.kt_typing.specs.declared.fault.Fault.{Fault}
use Rattle.kt_typing.specs.declared.format.Conversion.{Conversion}
use Rattle.kt_typing.specs.declared.standing.Standing.{Standing}
use Rattle.kt_typing.specs.declared.standing.Standing.TheVariants as standing
use Rattle.kt_typing.specs.Calls.{Argument, Plain, Nullable, NullItself, both_values, converted_all, called_with, is_null_word, argument_values, asked, allocated, allocation_of, allocation, zeroed, plain_values, written, entry_parameter, entry_of, entry, begun_at, begun, pointed_at, kept, kept_name}
use Rattle.kt_typing.specs.declared.fault.Kind.TheVariants as fault_kind
use Rattle.kt_typing.specs.Faults.{fault_at, bad_type}
use Rattle.kt_typing.specs.Environment.{Environment, Meaning, Missing, Barred, Stands, Routine}
use Rattle.kt_typing.specs.Formats.{are_taken, parts_of}
use Rattle.kt_typing.specs.Operands.{Operand, Value, valued, of_type, value, scalar, types_of, trees_of}
use Rattle.kt_typing.specs.Rules.{with_value, requested, convert, is_size}
use Rattle.kt_typing.specs.Sound.{IsSoundAs, IsSound}
use Rattle.kt_typing.proofs.SoundOperands.{IsOf, Sound, sound-err, sound-ok, sound-given, sound-if, sound-with, value-sound, scalar-sound, types-sound, requested-sound}
use Rattle.kt_typing.proofs.SoundRules.{convert-sound, sound-option}

-- ---- lists of values

module _ (s : Scope) where
  all-by : (v : Option Value) (vs : Option (List Value)) → ((w : Value) → v ≡ Some w → IsOf s w) → ((ws : List Value) → vs ≡ Some ws → AllByRecursion (IsOf s) ws)
      → (ws : List Value) → both_values v vs ≡ Some ws → AllByRecursion (IsOf s) ws
  all-by (Some v) (Some vs) h k ws e = let same : v ∷ vs ≡ ws = cc in subst (λ us. AllByRecursion (IsOf s) us) same (h v refl, k vs refl)
  all-by None None h k ws e = absurd cc
  all-by None (Some vs) h k ws e = absurd cc
  all-by (Some v) None h k ws e = absurd cc

  none-left : (ws : List Value) → Some [] ≡ Some ws → AllByRecursion (IsOf s) ws
  none-left ws e = let same : [] ≡ ws = cc in subst (λ us. AllByRecursion (IsOf s) us) same tt

  pub converted-all-sound : (ts : List ℕ) (xs : List Operand) → AllByRecursion (IsSound s) xs → (ws : List Value) → converted_all s ts xs ≡ Some ws → AllByRecursion (IsOf s) ws
  converted-all-sound [] [] all ws e = none-left ws e
  converted-all-sound (t ∷ ts) (x ∷ xs) all ws e =
      all-by (convert s t x) (converted_all s ts xs) (λ w is. (convert-sound s t x all.0 w is).0) (converted-all-sound ts xs all.1) ws e
  converted-all-sound [] (x ∷ xs) all ws e = absurd cc
  converted-all-sound (t ∷ ts) [] all ws e = absurd cc

  pub plain-values-sound : (xs : List Operand) → AllByRecursion (IsSound s) xs → (ws : List Value) → plain_values s xs ≡ Some ws → AllByRecursion (IsOf s) ws
  plain-values-sound [] all ws e = none-left ws e
  plain-values-sound (x ∷ xs) all ws e = all-by (value s x) (plain_values s xs) (value-sound s x all.0) (plain-values-sound xs all.1) ws e

  pub argument-values-sound : (as' : List Argument) (xs : List Operand) → AllByRecursion (IsSound s) xs → (ws : List Value) → argument_values s as' xs ≡ Some ws → AllByRecursion (IsOf s) ws
  argument-values-sound [] [] all ws e = none-left ws e
  argument-values-sound [] (x ∷ xs) all ws e = absurd cc
  argument-values-sound (Plain ∷ as') [] all ws e = absurd cc
  argument-values-sound (Nullable ∷ as') [] all ws e = absurd cc
  argument-values-sound (NullItself ∷ as') [] all ws e = absurd cc
  argument-values-sound (Plain ∷ as') (x ∷ xs) all ws e = all-by (value s x) (argument_values s as' xs) (value-sound s x all.0) (argument-values-sound as' xs all.1) ws e
  argument-values-sound (Nullable ∷ as') (x ∷ xs) all ws e = all-by (scalar s x) (argument_values s as' xs) (scalar-sound s x all.0) (argument-values-sound as' xs all.1) ws e
  argument-values-sound (NullItself ∷ as') (x ∷ xs) all ws e = by (is_null_word x.standing x.tree) (argument_values s as' xs) (argument-values-sound as' xs all.1) e
    where
      by : (b : Bool) (o : Option (List Value)) → ((us : List Value) → o ≡ Some us → AllByRecursion (IsOf s) us) → (if b then o else None) ≡ Some ws → AllByRecursion (IsOf s) ws
      by true o h d = h ws d
      by false o h d = absurd cc

module _ (env : Environment) where
  -- ---- rules of calls

  pub called-with-sound : (at f : ℕ) (h : Head) → slice_get env.scope.functions f ≡ Some h → (o : Option (List Value))
      → ((ws : List Value) → o ≡ Some ws → AllByRecursion (IsOf env.scope) ws) → Sound env.scope (called_with at f h o)
  called-with-sound at f h is None all = sound-err env.scope _
  called-with-sound at f h is (Some vs) all =
      sound-given env.scope at _ _ (ap (λ o. call_kind o (types env.scope (trees_of vs))) is ∙ ap (call_kind (Some h)) (types-sound env.scope vs (all vs refl)))

  pub asked-sound : (at : ℕ) (r : Request) (t : Option ℕ) (o : Option (List Value)) → ((ws : List Value) → o ≡ Some ws → AllByRecursion (IsOf env.scope) ws) → Sound env.scope (asked env at r t o)
  asked-sound at r t None all = sound-err env.scope _
  asked-sound at r t (Some vs) all = requested-sound env at r t vs (all vs refl)

  pub written-sound : (at : ℕ) (cs : List Conversion) (o : Option (List Value)) → ((ws : List Value) → o ≡ Some ws → AllByRecursion (IsOf env.scope) ws) → Sound env.scope (written env at cs o)
  written-sound at cs None all = sound-err env.scope _
  written-sound at cs (Some vs) all = sound-if env.scope (are_taken env.scope cs (types_of vs)) _ _ (λ y. requested-sound env at (request.Print (parts_of [] cs)) (Some int_type) vs (all vs refl)) (λ y. sound-err env.scope _)

  err-ok : (f : Fault) (x : Operand) → Err f ≡ Ok x → ⊥
  err-ok f x e = absurd cc

  -- a count that is no integer is refused by the request
  uncounted : (at e t : ℕ) (zeros : Bool) (n : Value) → is_integer env.scope n.ty ≡ false → requested env at (request.Allocate e zeros) (Some t) (n ∷ []) ≡ Err (bad_type at)
  uncounted at e t zeros n i = rw i refl

  request-checked : (at e t : ℕ) (zeros : Bool) (n : Value) → (is_integer env.scope n.ty ≡ true → IsOf env.scope n) → Sound env.scope (requested env at (request.Allocate e zeros) (Some t) (n ∷ []))
  request-checked at e t zeros n h = by (is_integer env.scope n.ty) refl
    where
      by : (b : Bool) → is_integer env.scope n.ty ≡ b → Sound env.scope (requested env at (request.Allocate e zeros) (Some t) (n ∷ []))
      by true i = requested-sound env at (request.Allocate e zeros) (Some t) (n ∷ []) (h i, tt)
      by false i = λ x is. absurd (err-ok (bad_type at) x (sym (uncounted at e t zeros n i) ∙ is))

  allocated-sound : (at : ℕ) (zeros : Bool) (e : ℕ) (n : Value) → (is_integer env.scope n.ty ≡ true → IsOf env.scope n) → Sound env.scope (allocated env at zeros e n)
  allocated-sound at zeros e n h = sound-option env.scope (env.pointer e) _ _ (sound-err env.scope _) (λ t d. request-checked at e t zeros n h)

  by-value : (at : ℕ) (x : Operand) → IsSound env.scope x → Sound env.scope (with_value at (value env.scope x) (allocated env at false char_type))
  by-value at x h = sound-with env.scope at (value env.scope x) _ (λ v vs. allocated-sound at false char_type v (λ i. value-sound env.scope x h v vs))

  allocation-as : (at : ℕ) (x : Operand) (what : Standing) → x.standing ≡ what → IsSound env.scope x → Sound env.scope (allocation_of env at x what)
  allocation-as at x (standing.Size p) is h = allocated-sound at false x.ty (of_type int_type x.tree) (λ i. subst (λ w. IsSoundAs env.scope w x.ty x.tree) is h)
  allocation-as at x (standing.Product e) is h = allocated-sound at false e (of_type x.ty x.tree) (subst (λ w. IsSoundAs env.scope w x.ty x.tree) is h)
  allocation-as at x standing.Value is h = by-value at x h
  allocation-as at x standing.Zero is h = by-value at x h
  allocation-as at x standing.Null is h = by-value at x h
  allocation-as at x (standing.Local n) is h = by-value at x h
  allocation-as at x standing.Cell is h = by-value at x h
  allocation-as at x standing.Whole is h = by-value at x h
  allocation-as at x standing.Elements is h = by-value at x h
  allocation-as at x standing.Nothing is h = by-value at x h
  allocation-as at x (standing.Entry f) is h = by-value at x h

  pub allocation-sound : (at : ℕ) (xs : List Operand) → AllByRecursion (IsSound env.scope) xs → Sound env.scope (allocation env at xs)
  allocation-sound at [] all = sound-err env.scope _
  allocation-sound at (x ∷ []) all = allocation-as at x x.standing refl all.0
  allocation-sound at (x ∷ y ∷ xs) all = sound-err env.scope _

  pub zeroed-sound : (at : ℕ) (xs : List Operand) → AllByRecursion (IsSound env.scope) xs → Sound env.scope (zeroed env at xs)
  zeroed-sound at [] all = sound-err env.scope _
  zeroed-sound at (x ∷ []) all = sound-err env.scope _
  zeroed-sound at (x ∷ y ∷ []) all = sound-if env.scope (is_size y.standing) _ _
      (λ z. sound-with env.scope at (value env.scope x) _ (λ v vs. allocated-sound at true y.ty v (λ i. value-sound env.scope x all.0 v vs))) (λ z. sound-err env.scope _)
  zeroed-sound at (x ∷ y ∷ z ∷ xs) all = sound-err env.scope _

  begun-as : (at : ℕ) (what : Standing) (p : ℕ) (y : Operand) → IsSound env.scope y → Sound env.scope (begun_at env at what p y)
  begun-as at (standing.Entry f) p y h = sound-with env.scope at (convert env.scope p y) _ (λ v vs. requested-sound env at (request.Create f) (Some int_type) (v ∷ []) ((convert-sound env.scope p y h v vs).0, tt))
  begun-as at standing.Value p y h = sound-err env.scope _
  begun-as at standing.Zero p y h = sound-err env.scope _
  begun-as at standing.Null p y h = sound-err env.scope _
  begun-as at (standing.Local n) p y h = sound-err env.scope _
  begun-as at standing.Cell p y h = sound-err env.scope _
  begun-as at standing.Whole p y h = sound-err env.scope _
  begun-as at standing.Elements p y h = sound-err env.scope _
  begun-as at (standing.Size q) p y h = sound-err env.scope _
  begun-as at (standing.Product c) p y h = sound-err env.scope _
  begun-as at standing.Nothing p y h = sound-err env.scope _

  pub begun-sound : (at : ℕ) (xs : List Operand) → AllByRecursion (IsSound env.scope) xs → Sound env.scope (begun env at xs)
  begun-sound at [] all = sound-err env.scope _
  begun-sound at (x ∷ []) all = sound-err env.scope _
  begun-sound at (x ∷ y ∷ []) all = begun-as at x.standing x.ty y all.1.0
  begun-sound at (x ∷ y ∷ z ∷ xs) all = sound-err env.scope _

  pub pointed-at-sound : (at : ℕ) (r : ℕ → Request) (t : Option ℕ) (o : Option (List ℕ)) → Sound env.scope (pointed_at env at r t o)
  pointed-at-sound at r t None = sound-err env.scope _
  pointed-at-sound at r t (Some name) = sound-if env.scope (is_point_name name) _ _ (λ y. requested-sound env at (r (env.point name)) t [] tt) (λ y. sound-err env.scope _)

  entry-of-sound : (at f : ℕ) (o : Option ℕ) → Sound env.scope (entry_of at f o)
  entry-of-sound at f None = sound-err env.scope _
  entry-of-sound at f (Some p) = sound-ok env.scope _ tt

  pub entry-sound : (at : ℕ) (m : Meaning) → Sound env.scope (entry env at m)
  entry-sound at Missing = sound-err env.scope _
  entry-sound at Barred = sound-err env.scope _
  entry-sound at (Stands what t e) = sound-err env.scope _
  entry-sound at (Routine f) = entry-of-sound at f (entry_parameter (slice_get env.scope.functions f))

  kept-sound : (at : ℕ) (m : Meaning) → Sound env.scope (kept env at m)
  kept-sound at (Stands (standing.Local x) t e) = by (is_request env.scope (request.MigrateLocal x) (Some int_type) []) refl
    where
      by : (b : Bool) → is_request env.scope (request.MigrateLocal x) (Some int_type) [] ≡ b
          → Sound env.scope (if b then Ok (valued at int_type (Requested (request.MigrateLocal x) (Some int_type) NoMore)) else Err (fault_at fault_kind.Note at))
      by true y = sound-ok env.scope _ (rw y refl)
      by false y = sound-err env.scope _
  kept-sound at Missing = sound-err env.scope _
  kept-sound at Barred = sound-err env.scope _
  kept-sound at (Routine f) = sound-err env.scope _
  kept-sound at (Stands standing.Value t e) = sound-err env.scope _
  kept-sound at (Stands standing.Zero t e) = sound-err env.scope _
  kept-sound at (Stands standing.Null t e) = sound-err env.scope _
  kept-sound at (Stands standing.Cell t e) = sound-err env.scope _
  kept-sound at (Stands standing.Whole t e) = sound-err env.scope _
  kept-sound at (Stands standing.Elements t e) = sound-err env.scope _
  kept-sound at (Stands (standing.Size p) t e) = sound-err env.scope _
  kept-sound at (Stands (standing.Product c) t e) = sound-err env.scope _
  kept-sound at (Stands standing.Nothing t e) = sound-err env.scope _
  kept-sound at (Stands (standing.Entry f) t e) = sound-err env.scope _

  pub kept-name-sound : (at : ℕ) (o : Option Name) → Sound env.scope (kept_name env at o)
  kept-name-sound at None = sound-err env.scope _
  kept-name-sound at (Some n) = kept-sound at (env.name n.word)
