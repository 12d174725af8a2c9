-- Rule code and pre-values by heap number are those by address.
use Rattle.std.proofs.Common.{◌≡◌, ◌∷◌, ℕ, zero, suc, ◌==◌, Bool, true, false, List, [], map, slice_get, Option, None, Some, Result, Ok, Err, refl, sym, ap, subst, ◌∙◌, inl, inr}
use Rattle.std.proofs.lemmas.Bool.{cases_Bool, eqb-true, eq-eqb, false≢true}
use Rattle.kt_types.specs.declared.kinds.Ty.{Ty}
use Rattle.kt_types.specs.declared.kinds.Ty.TheVariants as ty
use Rattle.kt_types.specs.Table.{Table, fields_of}
use Rattle.kt_mem.specs.declared.memory.Name.{Name}
use Rattle.kt_mem.specs.declared.memory.Name.TheVariants.{Glob, Lit, Heap}
use Rattle.kt_mem.specs.declared.memory.Value.{Value}
use Rattle.kt_mem.specs.declared.memory.Value.TheVariants.{Num, Null, Ptr, Free, Held, Undef}
use Rattle.kt_mem.specs.declared.steps.Trap.{Trap}
use Rattle.kt_mem.specs.declared.steps.Trap.TheVariants as trap
use Rattle.kt_mem.specs.Arithmetic.{sum_of, difference_of, product_of, quotient_of, remainder_of, narrowed, quotient, number, offsets}
use Rattle.kt_mem.specs.Comparisons.{zero_test, equality, not_value, equal_value, not_equal_value, less_value, greater_value, less_equal_value, greater_equal_value, compared_numbers}
use Rattle.kt_mem.specs.Elements.{element_before, elements_between}
use Rattle.kt_mem.specs.Memory.{Memory, load, zero_value}
use Rattle.kt_mem.specs.Values.{name_eq, truth, defined}
use Rattle.kt_tree.specs.declared.expr.Constant.{Constant}
use Rattle.kt_tree.specs.declared.expr.Constant.TheVariants as constant
use Rattle.kt_tree.specs.declared.expr.Operation.{Operation}
use Rattle.kt_tree.specs.declared.expr.Operation.TheVariants as operation
use Rattle.kt_tree.specs.declared.expr.Request.{Request}
use Rattle.kt_tree.specs.declared.expr.Request.TheVariants as request
use Rattle.kt_tree.specs.Tree.{Expression, Constant', LocalRead, LocalSet, LocalSwapped, Operated, Requested, Modified, Both, Either, Chosen, Called, Expressions, NoMore, More}
use Rattle.kt_meaning.specs.Operations.{apply_operation, arithmetic, at_type, of_one, of_two, element_sum, field_place, width}
use Rattle.kt_meaning.specs.Thread.{defined_if}
use Rattle.kt_heap.specs.Heap.{Paired, IsPairing}
use Rattle.kt_mem.specs.Renaming.{Pairs, rename_name, rename_value, renamed}
use Rattle.kt_heap.specs.ByNumber.{by_number, answer_by, WasGiven, HoldsGiven}
use Rattle.kt_heap.proofs.NumberLaws.{loads_by_number}
use Rattle.kt_heap.proofs.GivenLaws.{loads_given}
use Rattle.kt_heap.proofs.Pairs.{number_there}
use Rattle.kt_heap.proofs.Renamed.{NameGiven, name_given}
use Rattle.xf_plan.specs.Bodies as body
use Rattle.xf_plan.specs.RuleCode.{Reading, next, if_zero, constant_value, load_at, requested, truth_of, evaluate, evaluate_all, given, after_action, after_actions, body_value}
use Rattle.xf_plan.specs.declared.value.PreValue.{PreValue}
use Rattle.xf_plan.specs.declared.value.PreValue.TheVariants.{Plain, OldPointer}
use Rattle.xf_eval.specs.ByNumber.{pre_by_number}
use Rattle.xf_eval.proofs.Branches.{trapped-way, zero-way, other-way}
use Rattle.xf_eval.proofs.NumberedOperations.{Keeps, rename_result, sum-renamed, difference-renamed, product-renamed, quotient-renamed, remainder-renamed, narrowed-renamed, before-renamed, element_sum-renamed, elements-renamed, not-renamed, local-renamed, equal-renamed, not_equal-renamed, compared-renamed, moved-renamed, zero_test-same}
use Rattle.xf_eval.proofs.GivenOperations.{Given, number-given, truth_of-given, falsehood_of-given, compared-given, sum-given, difference-given, numbers-given, quotient-given, and-given, narrowed-given, before-given, element_sum-given, elements-given, field-given}
use Rattle.std.specs.Prelude.{int_lt, int_le, int_rem}
use Rattle.std.specs.Result.{result_and}

-- ---- an answer by number, which holds what was given out

abbrev pub GivenBy : {A : Type 0} → (A → Type 0) → Result A Trap → Type 0
GivenBy G (Ok x) = G x
GivenBy G (Err t) = Unit {0}

pub record Same {A : Type 0} (f : A → A) (G : A → Type 0) (r' r : Result A Trap) : Type 0 where
  pub is : r' ≡ answer_by f r
  pub given : GivenBy G r

pub same-ok : {A : Type 0} (f : A → A) (G : A → Type 0) (x : A) → G x → Same f G (Ok (f x)) (Ok x)
same-ok f G x g = record { is = refl; given = g }

pub same-err : {A : Type 0} (f : A → A) (G : A → Type 0) (t : Trap) → Same f G (Err t) (Err t)
same-err f G t = record { is = refl; given = tt }

-- what comes next
pub same-next : {A B : Type 0} (f : A → A) (G : A → Type 0) (g : B → B) (H : B → Type 0) (x' x : Result A Trap) (k' k : A → Result B Trap) →
    Same f G x' x → ((a : A) → G a → Same g H (k' (f a)) (k a)) → Same g H (next x' k') (next x k)
same-next {A} {B} f G g H x' (Ok a) k' k s each = subst (λ (y : Result A Trap). Same g H (next y k') (k a)) (sym s.is) (each a s.given)
same-next {A} {B} f G g H x' (Err t) k' k s each = subst (λ (y : Result A Trap). Same g H (next y k') (Err t)) (sym s.is) (same-err g H t)

-- by whether a value is zero
pub same-if : {A : Type 0} (pairs : Pairs) (f : A → A) (G : A → Type 0) (v' v : Result Value Trap) (x' x y' y : Result A Trap) →
    Same (rename_value (renamed pairs)) (WasGiven pairs) v' v → Same f G x' x → Same f G y' y → Same f G (if_zero v' x' y') (if_zero v x y)
same-if {A} pairs f G v' v x' x y' y s sx sy = by (next v zero_test) refl
  where
    test-same : (r : Result Value Trap) → next (answer_by (rename_value (renamed pairs)) r) zero_test ≡ next r zero_test
    test-same (Ok w) = zero_test-same pairs w
    test-same (Err t) = refl

    tests : next v' zero_test ≡ next v zero_test
    tests = ap (λ (r : Result Value Trap). next r zero_test) s.is ∙ test-same v

    both : (a' a b' b : Result A Trap) → a ≡ a' → b ≡ b' → Same f G a b → Same f G a' b'
    both a' a b' b e d h = subst (λ (z : Result A Trap). Same f G z b') e (subst (λ (z : Result A Trap). Same f G a z) d h)

    by : (q : Result Bool Trap) → next v zero_test ≡ q → Same f G (if_zero v' x' y') (if_zero v x y)
    by (Ok true) e =
        both (if_zero v' x' y') x' (if_zero v x y) x (zero-way v' v' x' y' refl x' (sym (tests ∙ e)) refl) (zero-way v v x y refl x (sym e) refl) sx
    by (Ok false) e =
        both (if_zero v' x' y') y' (if_zero v x y) y (other-way v' v' x' y' refl y' (sym (tests ∙ e)) refl) (other-way v v x y refl y (sym e) refl) sy
    by (Err t) e =
        both (if_zero v' x' y') (Err t) (if_zero v x y) (Err t) (trapped-way v' v' x' y' refl t (sym (tests ∙ e))) (trapped-way v v x y refl t (sym e)) (same-err f G t)

module _ (pairs : Pairs) (m : Memory) (kept : IsPairing pairs m) (holds : HoldsGiven pairs m) (types : Table) where
  abbrev num : Value → Value
  num v = rename_value (renamed pairs) v

  abbrev SameValue : Result Value Trap → Result Value Trap → Type 0
  SameValue r' r = Same (rename_value (renamed pairs)) (WasGiven pairs) r' r

  from-parts : (r' r : Result Value Trap) → r' ≡ rename_result pairs r → Given pairs r → SameValue r' r
  from-parts r' (Ok v) is g = record { is = is; given = g }
  from-parts r' (Err t) is g = record { is = is; given = g }

  trap-same : SameValue (Err trap.Uninit) (Err trap.Uninit)
  trap-same = same-err (rename_value (renamed pairs)) (WasGiven pairs) trap.Uninit

  -- ---- names

  heap-same : (a b n k : ℕ) → Paired pairs a n → Paired pairs b k → (n == k) ≡ (a == b)
  heap-same a b n k p q =
      elim (cases_Bool (a == b)) [
        | inl e ↦
            let one : n ≡ k = kept.numbers a n k p (subst (λ (x : ℕ). Paired pairs x k) (sym (eqb-true a b e)) q) in
            eq-eqb n k one ∙ sym e
        | inr e ↦
            elim (cases_Bool (n == k)) [
              | inl d ↦
                  let one : a ≡ b = kept.addresses a b n p (subst (λ (x : ℕ). Paired pairs b x) (sym (eqb-true n k d)) q) in
                  absurd (false≢true (sym e ∙ eq-eqb a b one))
              | inr d ↦ d ∙ sym e
            ]
      ]

  name-same : (n o : Name) → NameGiven pairs n → NameGiven pairs o → name_eq (rename_name (renamed pairs) n) (rename_name (renamed pairs) o) ≡ name_eq n o
  name-same (Glob i) (Glob j) g h = refl
  name-same (Glob i) (Lit v j) g h = refl
  name-same (Glob i) (Heap b) g h = refl
  name-same (Lit v i) (Glob j) g h = refl
  name-same (Lit v i) (Lit w j) g h = refl
  name-same (Lit v i) (Heap b) g h = refl
  name-same (Heap a) (Glob j) g h = refl
  name-same (Heap a) (Lit v j) g h = refl
  name-same (Heap a) (Heap b) g h =
      let first = number_there pairs m a g.0 kept g.1 in
      let second = number_there pairs m b h.0 kept h.1 in
      rw (first, second) (heap-same a b g.0 h.0 g.1 h.1)

  keeps : (a b : Value) → WasGiven pairs a → WasGiven pairs b → Keeps pairs a b
  keeps a b g h = record {
    same = λ n o i j e d. name-same n o (name_given pairs n i (subst (WasGiven pairs) e g)) (name_given pairs o j (subst (WasGiven pairs) d h));
  }

  -- ---- operations

  abbrev AllGiven : List Value → Type 0
  AllGiven [] = Unit {0}
  AllGiven (v ∷ vs) = WasGiven pairs v × AllGiven vs

  one : (f : Value → Result Value Trap) → ((a : Value) → WasGiven pairs a → SameValue (f (num a)) (f a)) → (vs : List Value) → AllGiven vs →
      SameValue (of_one f (map (rename_value (renamed pairs)) vs)) (of_one f vs)
  one f each [] g = trap-same
  one f each (a ∷ []) g = each a g.0
  one f each (a ∷ b ∷ vs) g = trap-same

  two : (f : Value → Value → Result Value Trap) → ((a b : Value) → WasGiven pairs a → WasGiven pairs b → SameValue (f (num a) (num b)) (f a b)) →
      (vs : List Value) → AllGiven vs → SameValue (of_two f (map (rename_value (renamed pairs)) vs)) (of_two f vs)
  two f each [] g = trap-same
  two f each (a ∷ []) g = trap-same
  two f each (a ∷ b ∷ []) g = each a b g.0 g.1.0
  two f each (a ∷ b ∷ c ∷ vs) g = trap-same

  arith-same : (f : Ty → Value → Value → Result Value Trap) →
      ((u : Ty) (a b : Value) → WasGiven pairs a → WasGiven pairs b → SameValue (f u (num a) (num b)) (f u a b)) → (t : Option Ty) (vs : List Value) → AllGiven vs →
      SameValue (arithmetic f t (map (rename_value (renamed pairs)) vs)) (arithmetic f t vs)
  arith-same f each None vs g = two (λ a b. Err trap.Uninit) (λ a b g h. trap-same) vs g
  arith-same f each (Some u) vs g = two (f u) (each u) vs g

  convert-same : (t : Option Ty) (a : Value) → SameValue (at_type (λ u. narrowed u (num a)) t) (at_type (λ u. narrowed u a) t)
  convert-same None a = trap-same
  convert-same (Some u) a = from-parts _ (narrowed u a) (narrowed-renamed pairs u a) (narrowed-given pairs u a)

  field-same : (number index : ℕ) (a : Value) → WasGiven pairs a → SameValue (field_place types (fields_of types number) index (num a)) (field_place types (fields_of types number) index a)
  field-same number index a g = by (fields_of types number)
    where
      by : (o : _) → SameValue (field_place types o index (num a)) (field_place types o index a)
      by None = trap-same
      by (Some fields) = from-parts _ (field_place types (Some fields) index a) (moved-renamed pairs a _) (field-given pairs types (Some fields) index a g)

  pub applied-same : (op : Operation) (t : ℕ) (vs : List Value) → AllGiven vs →
      SameValue (apply_operation types op t (map (rename_value (renamed pairs)) vs)) (apply_operation types op t vs)
  applied-same operation.Add t vs g = arith-same sum_of (λ u a b g h. from-parts _ (sum_of u a b) (sum-renamed pairs u a b) (sum-given pairs u a b g h)) (slice_get types.types t) vs g
  applied-same operation.Subtract t vs g =
      arith-same difference_of (λ u a b g h. from-parts _ (difference_of u a b) (difference-renamed pairs u a b (keeps a b g h)) (difference-given pairs u a b g h)) (slice_get types.types t) vs g
  applied-same operation.Multiply t vs g =
      arith-same product_of (λ u a b g h. from-parts _ (product_of u a b) (product-renamed pairs u a b) (numbers-given pairs _ (λ x y. number-given pairs u trap.Overflow _) a b)) (slice_get types.types t) vs g
  applied-same operation.Divide t vs g =
      arith-same quotient_of (λ u a b g h. from-parts _ (quotient_of u a b) (quotient-renamed pairs u a b) (numbers-given pairs (quotient u) (quotient-given pairs u) a b)) (slice_get types.types t) vs g
  applied-same operation.Remainder t vs g =
      arith-same remainder_of (λ u a b g h. from-parts _ (remainder_of u a b) (remainder-renamed pairs u a b)
      (numbers-given pairs (λ x y. result_and (quotient u x y) (number u trap.Overflow (int_rem x y))) (λ x y. and-given pairs (quotient u x y) _ (number-given pairs u trap.Overflow _)) a b)) (slice_get types.types t) vs g
  applied-same operation.Less t vs g = two less_value (λ a b g h. from-parts _ (less_value a b) (compared-renamed pairs int_lt a b (keeps a b g h)) (compared-given pairs int_lt (compared_numbers a b))) vs g
  applied-same operation.Greater t vs g =
      two greater_value (λ a b g h. from-parts _ (greater_value a b) (compared-renamed pairs (λ x y. int_lt y x) a b (keeps a b g h)) (compared-given pairs (λ x y. int_lt y x) (compared_numbers a b))) vs g
  applied-same operation.LessEqual t vs g = two less_equal_value (λ a b g h. from-parts _ (less_equal_value a b) (compared-renamed pairs int_le a b (keeps a b g h)) (compared-given pairs int_le (compared_numbers a b))) vs g
  applied-same operation.GreaterEqual t vs g =
      two greater_equal_value (λ a b g h. from-parts _ (greater_equal_value a b) (compared-renamed pairs (λ x y. int_le y x) a b (keeps a b g h)) (compared-given pairs (λ x y. int_le y x) (compared_numbers a b))) vs g
  applied-same operation.Equal t vs g = two equal_value (λ a b g h. from-parts _ (equal_value a b) (equal-renamed pairs a b (keeps a b g h)) (truth_of-given pairs (equality a b))) vs g
  applied-same operation.NotEqual t vs g = two not_equal_value (λ a b g h. from-parts _ (not_equal_value a b) (not_equal-renamed pairs a b (keeps a b g h)) (falsehood_of-given pairs (equality a b))) vs g
  applied-same operation.Not t vs g = one not_value (λ a g. from-parts _ (not_value a) (not-renamed pairs a) (truth_of-given pairs (zero_test a))) vs g
  applied-same operation.Convert t vs g = one (λ a. at_type (λ u. narrowed u a) (slice_get types.types t)) (λ a g. convert-same (slice_get types.types t) a) vs g
  applied-same (operation.ElementAfter e) t vs g =
      two (element_sum (width types e)) (λ a b g h. from-parts _ (element_sum (width types e) a b) (element_sum-renamed pairs (width types e) a b) (element_sum-given pairs (width types e) a b g h)) vs g
  applied-same (operation.ElementBefore e) t vs g =
      two (λ p i. element_before p i (width types e)) (λ a b g h. from-parts _ (element_before a b (width types e)) (before-renamed pairs a b (width types e)) (before-given pairs a b (width types e) g)) vs g
  applied-same (operation.ElementsBetween e) t vs g =
      two (λ p q. elements_between p q (width types e)) (λ a b g h. from-parts _ (elements_between a b (width types e)) (elements-renamed pairs a b (width types e) (keeps a b g h)) (elements-given pairs (width types e) (offsets a b))) vs g
  applied-same (operation.Field number index) t vs g = one (field_place types (fields_of types number) index) (λ a g. field-same number index a g) vs g

  -- ---- loads

  loaded-same : (t : Option Ty) (p : Value) → WasGiven pairs p → SameValue (load_at (by_number pairs m) t (num p)) (load_at m t p)
  loaded-same None p g = trap-same
  loaded-same (Some u) p g = by (load m p u) refl
    where
      by : (r : Result Value Trap) → load m p u ≡ r → SameValue (load (by_number pairs m) (num p) u) (load m p u)
      by (Ok v) e = record { is = loads_by_number pairs m p u kept g; given = subst (GivenBy (WasGiven pairs)) (sym e) (loads_given pairs m p v u holds e) }
      by (Err t) e = record { is = loads_by_number pairs m p u kept g; given = subst (GivenBy (WasGiven pairs)) (sym e) tt }

  module _ (locals : List Value) (all : AllGiven locals) where
    abbrev here : Reading
    here = record { types = types; memory = m; locals = locals }

    abbrev there : Reading
    there = record { types = types; memory = by_number pairs m; locals = map (rename_value (renamed pairs)) locals }

    requested-same : (q : Request) (t : Option ℕ) (vs : List Value) → AllGiven vs → SameValue (requested there q t (map (rename_value (renamed pairs)) vs)) (requested here q t vs)
    requested-same request.Load None vs g = trap-same
    requested-same request.Load (Some t) [] g = trap-same
    requested-same request.Load (Some t) (p ∷ []) g = loaded-same (slice_get types.types t) p g.0
    requested-same request.Load (Some t) (p ∷ q ∷ vs) g = trap-same
    requested-same _ t vs g = trap-same

    defined-given : (v : Value) → WasGiven pairs v → Given pairs (defined v)
    defined-given (Num z) g = tt
    defined-given Null g = tt
    defined-given (Ptr n k) g = g
    defined-given Free g = tt
    defined-given (Held w) g = tt
    defined-given Undef g = tt

    local-given : (vs : List Value) → AllGiven vs → (n : ℕ) → Given pairs (defined_if (slice_get vs n))
    local-given [] g n = tt
    local-given (v ∷ vs) g zero = defined-given v g.0
    local-given (v ∷ vs) g (suc n) = local-given vs g.1 n

    constant-same : (k : Constant) → SameValue (constant_value k) (constant_value k)
    constant-same (constant.Number n) = record { is = refl; given = tt }
    constant-same constant.Null = record { is = refl; given = tt }
    constant-same (constant.Global g) = record { is = refl; given = tt }
    constant-same (constant.Literal n) = trap-same

    truth-same : (b : Bool) → SameValue (Ok (truth b)) (Ok (truth b))
    truth-same b = record { is = refl; given = tt }

    truth_of-same : (v' v : Result Value Trap) → SameValue v' v → SameValue (truth_of v') (truth_of v)
    truth_of-same v' v s = same-if pairs (rename_value (renamed pairs)) (WasGiven pairs) v' v _ _ _ _ s (truth-same false) (truth-same true)

    abbrev nums : List Value → List Value
    nums vs = map (rename_value (renamed pairs)) vs

    mutual
      pub evaluate-same : (e : Expression) → SameValue (evaluate there e) (evaluate here e)
      evaluate-same (Constant' k t) = constant-same k
      evaluate-same (LocalRead n) = from-parts _ (defined_if (slice_get locals n)) (local-renamed pairs locals n) (local-given locals all n)
      evaluate-same (LocalSet x e) = trap-same
      evaluate-same (LocalSwapped x e) = trap-same
      evaluate-same (Operated op t es) =
          same-next (map (rename_value (renamed pairs))) AllGiven (rename_value (renamed pairs)) (WasGiven pairs) (evaluate_all there es) (evaluate_all here es) (apply_operation types op t) (apply_operation types op t)
          (evaluate_all-same es) (applied-same op t)
      evaluate-same (Requested q t es) =
          same-next (map (rename_value (renamed pairs))) AllGiven (rename_value (renamed pairs)) (WasGiven pairs) (evaluate_all there es) (evaluate_all here es) (requested there q t) (requested here q t)
          (evaluate_all-same es) (requested-same q t)
      evaluate-same (Modified op own t old a b) = trap-same
      evaluate-same (Both a b) =
          same-if pairs (rename_value (renamed pairs)) (WasGiven pairs) (evaluate there a) (evaluate here a) _ _ _ _ (evaluate-same a) (truth-same false)
          (truth_of-same (evaluate there b) (evaluate here b) (evaluate-same b))
      evaluate-same (Either a b) =
          same-if pairs (rename_value (renamed pairs)) (WasGiven pairs) (evaluate there a) (evaluate here a) _ _ _ _ (evaluate-same a)
          (truth_of-same (evaluate there b) (evaluate here b) (evaluate-same b)) (truth-same true)
      evaluate-same (Chosen k t a b) =
          same-if pairs (rename_value (renamed pairs)) (WasGiven pairs) (evaluate there k) (evaluate here k) _ _ _ _ (evaluate-same k) (evaluate-same b) (evaluate-same a)
      evaluate-same (Called f es) = trap-same

      pub evaluate_all-same : (es : Expressions) → Same (map (rename_value (renamed pairs))) AllGiven (evaluate_all there es) (evaluate_all here es)
      evaluate_all-same NoMore = record { is = refl; given = tt }
      evaluate_all-same (More e es) =
          same-next (rename_value (renamed pairs)) (WasGiven pairs) (map (rename_value (renamed pairs))) AllGiven (evaluate there e) (evaluate here e)
          (λ v. next (evaluate_all there es) (λ vs. Ok (v ∷ vs))) (λ v. next (evaluate_all here es) (λ vs. Ok (v ∷ vs))) (evaluate-same e)
          (λ v g. same-next (map (rename_value (renamed pairs))) AllGiven (map (rename_value (renamed pairs))) AllGiven (evaluate_all there es) (evaluate_all here es)
          (λ vs. Ok (rename_value (renamed pairs) v ∷ vs)) (λ vs. Ok (v ∷ vs)) (evaluate_all-same es) (λ vs h. record { is = refl; given = (g, h) }))

    -- ---- bodies

    abbrev Any : PreValue → Type 0
    Any v = Unit {0}

    abbrev SamePre : Result PreValue Trap → Result PreValue Trap → Type 0
    SamePre r' r = Same (pre_by_number pairs) Any r' r

    pub given-same : (t : Ty) (g : body.Given) → SamePre (given there t g) (given here t g)
    given-same t (body.Number e) =
        same-next (rename_value (renamed pairs)) (WasGiven pairs) (pre_by_number pairs) Any (next (evaluate there e) (narrowed t)) (next (evaluate here e) (narrowed t)) (λ v. Ok (Plain v)) (λ v. Ok (Plain v))
        (same-next (rename_value (renamed pairs)) (WasGiven pairs) (rename_value (renamed pairs)) (WasGiven pairs) (evaluate there e) (evaluate here e) (narrowed t) (narrowed t) (evaluate-same e)
        (λ v g. from-parts _ (narrowed t v) (narrowed-renamed pairs t v) (narrowed-given pairs t v)))
        (λ v g. record { is = refl; given = tt })
    given-same t body.Null = record { is = refl; given = tt }
    given-same t (body.Transformed e) =
        same-next (rename_value (renamed pairs)) (WasGiven pairs) (pre_by_number pairs) Any (evaluate there e) (evaluate here e) (λ v. Ok (OldPointer v)) (λ v. Ok (OldPointer v)) (evaluate-same e)
        (λ v g. record { is = refl; given = tt })
    given-same t (body.New u n) = record { is = refl; given = tt }
    given-same t (body.Chosen k a b) =
        same-if pairs (pre_by_number pairs) Any (evaluate there k) (evaluate here k) _ _ _ _ (evaluate-same k) (given-same t b) (given-same t a)

    mutual
      pub action-same : (t : Ty) (before : PreValue) (a : body.Action) → SamePre (after_action there t (pre_by_number pairs before) a) (after_action here t before a)
      action-same t before (body.Assigned g) = given-same t g
      action-same t before (body.Conditional k a b) =
          same-if pairs (pre_by_number pairs) Any (evaluate there k) (evaluate here k) _ _ _ _ (evaluate-same k) (action-same t before b) (action-same t before a)
      action-same t before (body.Compound acts) = actions-same t before acts

      pub actions-same : (t : Ty) (before : PreValue) (acts : body.Actions) → SamePre (after_actions there t (pre_by_number pairs before) acts) (after_actions here t before acts)
      actions-same t before body.Done = record { is = refl; given = tt }
      actions-same t before (body.Then a rest) =
          same-next (pre_by_number pairs) Any (pre_by_number pairs) Any (after_action there t (pre_by_number pairs before) a) (after_action here t before a)
          (λ v. after_actions there t v rest) (λ v. after_actions here t v rest) (action-same t before a) (λ v g. actions-same t v rest)

    zero-plain : (t : Ty) → pre_by_number pairs (Plain (zero_value t)) ≡ Plain (zero_value t)
    zero-plain ty.Char = refl
    zero-plain ty.Int = refl
    zero-plain ty.Long = refl
    zero-plain ty.Mutex = refl
    zero-plain (ty.Struct s) = refl
    zero-plain (ty.Array e n) = refl
    zero-plain (ty.Ptr u) = refl

    pub body-same : (t : Ty) (acts : body.Actions) → body_value there t acts ≡ answer_by (pre_by_number pairs) (body_value here t acts)
    body-same t acts =
        ap (λ v. after_actions there t v acts) (sym (zero-plain t)) ∙ (actions-same t (Plain (zero_value t)) acts).is
