-- Heads of functions as they are written, and the types that they spell.
use Rattle.std.proofs.Common.{◌≡◌, ℕ, ◌+◌, ◌≤◌, ◌==◌, Bool, true, false, ◌&&◌, ◌||◌, List, [], ◌∷◌, ◌++◌, map, flat_map, Option, Some, None, if◌then◌else◌, refl, sym, ap, ◌∙◌, subst, arith, true≢false}
use Rattle.std.specs.Option.{option_map}
use Rattle.std.specs.List.{list_all, position_from}
use Rattle.std.specs.Str.{bytes_eq}
use Rattle.std.proofs.lemmas.Bool.{eq-eqb}
use Rattle.std.proofs.lemmas.Bool.Decides.{Decides-eqb}
use Rattle.std.proofs.lemmas.Slice.Eq.{bytes_eq-Decides}
use Rattle.kt_grammar.specs.declared.tree.Base.{Base}
use Rattle.kt_grammar.specs.declared.tree.Base.TheVariants as base
use Rattle.kt_syntax.specs.declared.tree.Parameter.{Parameter}
use Rattle.kt_syntax.specs.Tree.{Routine}
use Rattle.kt_types.specs.declared.kinds.Ty.{Ty}
use Rattle.kt_types.specs.declared.kinds.Ty.TheVariants as ty
use Rattle.kt_program.specs.Gathered.{same_types, same_result, same_function, result_type, parameter_types}
use Rattle.kt_program.specs.Mentioned.{base_structs, use_structs, result_spellings, parameter_spellings, result_stars, stars_of}
use Rattle.kt_program.specs.Scopes.{contains}
use Rattle.kt_program.specs.Types.{Spelled, spelled, same_type, same_spelled, base_type, number_of_struct, or_first}
use Rattle.kt_declarations.specs.Heads.{same_base, same_written, same_results, same_parameters, same_head}
use Rattle.kt_declarations.specs.Met.{HasStructs}

-- ---- tests of equality

module _ {A : Type 0} (eq : A → A → Bool) (is : (a b : A) → eq a b ≡ true → a ≡ b) (itself : (a : A) → eq a a ≡ true) where
  other-way : (a b : A) → eq a b ≡ true → eq b a ≡ true
  other-way a b e = subst (λ x. eq x a ≡ true) (is a b e) (itself a)

  pub symmetric : (a b : A) → eq a b ≡ eq b a
  symmetric a b = by (eq a b) (eq b a) refl refl
    where
      by : (x y : Bool) → eq a b ≡ x → eq b a ≡ y → eq a b ≡ eq b a
      by true true p q = p ∙ sym q
      by false false p q = p ∙ sym q
      by true false p q = absurd (true≢false (sym (other-way a b p) ∙ q))
      by false true p q = absurd (true≢false (sym (other-way b a q) ∙ p))

pub and-first : (a b : Bool) → (a && b) ≡ true → a ≡ true
and-first true b e = refl
and-first false b e = e

pub and-second : (a b : Bool) → (a && b) ≡ true → b ≡ true
and-second true b e = e
and-second false b e = absurd (true≢false (sym e))

pub and-both : (a b : Bool) → a ≡ true → b ≡ true → (a && b) ≡ true
and-both a b e f = rw (e, f) refl

eq-is : (a b : ℕ) → (a == b) ≡ true → a ≡ b
eq-is a b e = (Decides-eqb a b).0 e

eq-itself : (a : ℕ) → (a == a) ≡ true
eq-itself a = eq-eqb a a refl

type-is : (t u : Ty) → same_type t u ≡ true → t ≡ u
type-is ty.Char ty.Char e = refl
type-is ty.Int ty.Int e = refl
type-is ty.Long ty.Long e = refl
type-is ty.Mutex ty.Mutex e = refl
type-is (ty.Struct s) (ty.Struct r) e = ap ty.Struct (eq-is s r e)
type-is (ty.Array f n) (ty.Array g m) e =
    ap (λ k. ty.Array k n) (eq-is f g (and-first (f == g) (n == m) e)) ∙ ap (ty.Array g) (eq-is n m (and-second (f == g) (n == m) e))
type-is (ty.Ptr f) (ty.Ptr g) e = ap ty.Ptr (eq-is f g e)
type-is t u e = absurd (true≢false (sym e))

type-itself : (t : Ty) → same_type t t ≡ true
type-itself ty.Char = refl
type-itself ty.Int = refl
type-itself ty.Long = refl
type-itself ty.Mutex = refl
type-itself (ty.Struct s) = eq-itself s
type-itself (ty.Array f n) = and-both (f == f) (n == n) (eq-itself f) (eq-itself n)
type-itself (ty.Ptr f) = eq-itself f

spelled-is : (a b : Spelled) → same_spelled a b ≡ true → a ≡ b
spelled-is a b e =
    let one = type-is a.base b.base (and-first (same_type a.base b.base) (a.stars == b.stars) e) in
    let other = eq-is a.stars b.stars (and-second (same_type a.base b.base) (a.stars == b.stars) e) in
    λ i. record { base = one i; stars = other i }

spelled-itself : (a : Spelled) → same_spelled a a ≡ true
spelled-itself a = and-both (same_type a.base a.base) (a.stars == a.stars) (type-itself a.base) (eq-itself a.stars)

types-is : (as' bs : List Spelled) → same_types as' bs ≡ true → as' ≡ bs
types-is [] [] e = refl
types-is (a ∷ as') (b ∷ bs) e =
    ap (λ x. x ∷ as') (spelled-is a b (and-first (same_spelled a b) (same_types as' bs) e)) ∙ ap (λ xs. b ∷ xs) (types-is as' bs (and-second (same_spelled a b) (same_types as' bs) e))
types-is [] (b ∷ bs) e = absurd (true≢false (sym e))
types-is (a ∷ as') [] e = absurd (true≢false (sym e))

types-itself : (as' : List Spelled) → same_types as' as' ≡ true
types-itself [] = refl
types-itself (a ∷ as') = and-both (same_spelled a a) (same_types as' as') (spelled-itself a) (types-itself as')

result-is : (a b : Option Spelled) → same_result a b ≡ true → a ≡ b
result-is None None e = refl
result-is (Some a) (Some b) e = ap Some (spelled-is a b e)
result-is None (Some b) e = absurd (true≢false (sym e))
result-is (Some a) None e = absurd (true≢false (sym e))

result-itself : (a : Option Spelled) → same_result a a ≡ true
result-itself None = refl
result-itself (Some a) = spelled-itself a

-- what functions take and give
abbrev Key : Type 0
Key = Option Spelled × List Spelled

abbrev same_key : Key → Key → Bool
same_key k l = same_result k.0 l.0 && same_types k.1 l.1

key-is : (k l : Key) → same_key k l ≡ true → k ≡ l
key-is k l e =
    let one = result-is k.0 l.0 (and-first (same_result k.0 l.0) (same_types k.1 l.1) e) in
    let other = types-is k.1 l.1 (and-second (same_result k.0 l.0) (same_types k.1 l.1) e) in
    λ i. (one i, other i)

key-itself : (k : Key) → same_key k k ≡ true
key-itself k = and-both (same_result k.0 k.0) (same_types k.1 k.1) (result-itself k.0) (types-itself k.1)

abbrev key : List (List ℕ) → Routine → Key
key t r = (result_type t r, parameter_types t r)

-- of three functions, where the first has the type of the second
pub euclid : (t : List (List ℕ)) (f r s : Routine) → same_function t f r ≡ true → same_function t s r ≡ same_function t f s
euclid t f r s e =
    ap (same_key (key t s)) (sym (key-is (key t f) (key t r) e)) ∙ symmetric same_key key-is key-itself (key t s) (key t f)

-- ---- structs by their numbers

abbrev number_from : ℕ → List (List ℕ) → List ℕ → ℕ
number_from i xs n = or_first (position_from (λ m. bytes_eq m n) i xs)

not-lower : (i : ℕ) (xs : List (List ℕ)) (n : List ℕ) → contains xs n ≡ true → i ≤ number_from i xs n
not-lower i [] n h = absurd (true≢false (sym h))
not-lower i (x ∷ xs) n h = by (bytes_eq x n) refl (not-lower (i + 1) xs n)
  where
    by : (b : Bool) → bytes_eq x n ≡ b → (contains xs n ≡ true → i + 1 ≤ number_from (i + 1) xs n) → i ≤ number_from i (x ∷ xs) n
    by true e later = subst (λ (b : Bool). i ≤ or_first (if b then Some i else position_from (λ m. bytes_eq m n) (i + 1) xs)) (sym e) (omega arith)
    by false e later =
        let more = later (subst (λ (b : Bool). (b || contains xs n) ≡ true) e h) in
        subst (λ (b : Bool). i ≤ or_first (if b then Some i else position_from (λ m. bytes_eq m n) (i + 1) xs)) (sym e) (omega arith)

one-name : (i : ℕ) (xs : List (List ℕ)) (n m : List ℕ) → contains xs n ≡ true → contains xs m ≡ true → number_from i xs n ≡ number_from i xs m → n ≡ m
one-name i [] n m h k e = absurd (true≢false (sym h))
one-name i (x ∷ xs) n m h k e = by (bytes_eq x n) (bytes_eq x m) refl refl (one-name (i + 1) xs n m)
  where
    first : (b c : Bool) → bytes_eq x n ≡ b → bytes_eq x m ≡ c
        → or_first (if b then Some i else position_from (λ q. bytes_eq q n) (i + 1) xs) ≡ or_first (if c then Some i else position_from (λ q. bytes_eq q m) (i + 1) xs)
    first b c p q = ap (λ (d : Bool). or_first (if d then Some i else position_from (λ q. bytes_eq q n) (i + 1) xs)) (sym p) ∙ e
        ∙ ap (λ (d : Bool). or_first (if d then Some i else position_from (λ q. bytes_eq q m) (i + 1) xs)) q

    by : (b c : Bool) → bytes_eq x n ≡ b → bytes_eq x m ≡ c → (contains xs n ≡ true → contains xs m ≡ true → number_from (i + 1) xs n ≡ number_from (i + 1) xs m → n ≡ m) → n ≡ m
    by true true p q later = sym ((bytes_eq-Decides x n).0 p) ∙ (bytes_eq-Decides x m).0 q
    by true false p q later =
        let same = first true false p q in
        let low = not-lower (i + 1) xs m (subst (λ (b : Bool). (b || contains xs m) ≡ true) q k) in
        absurd (omega arith)
    by false true p q later =
        let same = first false true p q in
        let low = not-lower (i + 1) xs n (subst (λ (b : Bool). (b || contains xs n) ≡ true) p h) in
        absurd (omega arith)
    by false false p q later =
        later (subst (λ (b : Bool). (b || contains xs n) ≡ true) p h) (subst (λ (b : Bool). (b || contains xs m) ≡ true) q k) (first false false p q)

module _ (t : List (List ℕ)) where
  number-same : (n m : List ℕ) → contains t n ≡ true → contains t m ≡ true → bytes_eq n m ≡ (number_of_struct t n == number_of_struct t m)
  number-same n m h k = by (bytes_eq n m) (number_of_struct t n == number_of_struct t m) refl refl
    where
      by : (b c : Bool) → bytes_eq n m ≡ b → (number_of_struct t n == number_of_struct t m) ≡ c → bytes_eq n m ≡ (number_of_struct t n == number_of_struct t m)
      by true true p q = p ∙ sym q
      by false false p q = p ∙ sym q
      by true false p q =
          absurd (true≢false (sym (eq-eqb (number_of_struct t n) (number_of_struct t m) (ap (number_of_struct t) ((bytes_eq-Decides n m).0 p))) ∙ q))
      by false true p q =
          absurd (true≢false (sym ((bytes_eq-Decides n m).1 (one-name 0 t n m h k (eq-is (number_of_struct t n) (number_of_struct t m) q))) ∙ p))

  abbrev Has : Base → Type 0
  Has b = list_all (contains t) (base_structs b) ≡ true

  base-same : (a b : Base) → Has a → Has b → same_base a b ≡ same_type (base_type t a) (base_type t b)
  base-same base.Char base.Char h k = refl
  base-same base.Char base.Int h k = refl
  base-same base.Char base.Long h k = refl
  base-same base.Char base.Mutex h k = refl
  base-same base.Char (base.Struct n) h k = refl
  base-same base.Int base.Char h k = refl
  base-same base.Int base.Int h k = refl
  base-same base.Int base.Long h k = refl
  base-same base.Int base.Mutex h k = refl
  base-same base.Int (base.Struct n) h k = refl
  base-same base.Long base.Char h k = refl
  base-same base.Long base.Int h k = refl
  base-same base.Long base.Long h k = refl
  base-same base.Long base.Mutex h k = refl
  base-same base.Long (base.Struct n) h k = refl
  base-same base.Mutex base.Char h k = refl
  base-same base.Mutex base.Int h k = refl
  base-same base.Mutex base.Long h k = refl
  base-same base.Mutex base.Mutex h k = refl
  base-same base.Mutex (base.Struct n) h k = refl
  base-same (base.Struct n) base.Char h k = refl
  base-same (base.Struct n) base.Int h k = refl
  base-same (base.Struct n) base.Long h k = refl
  base-same (base.Struct n) base.Mutex h k = refl
  base-same (base.Struct n) (base.Struct m) h k = number-same n.word m.word (and-first (contains t n.word) true h) (and-first (contains t m.word) true k)

  written-same : (a : Base) (i : ℕ) (b : Base) (j : ℕ) → Has a → Has b → same_written a i b j ≡ same_spelled (spelled t a i) (spelled t b j)
  written-same a i b j h k = ap (λ s. s && (i == j)) (base-same a b h k)

  abbrev HasAll : List Parameter → Type 0
  HasAll ps = list_all (contains t) (flat_map use_structs (flat_map parameter_spellings ps)) ≡ true

  all-append : (xs ys : List (List ℕ)) → list_all (contains t) (xs ++ ys) ≡ (list_all (contains t) xs && list_all (contains t) ys)
  all-append [] ys = refl
  all-append (x ∷ xs) ys = ap (λ b. contains t x && b) (all-append xs ys) ∙ assoc (contains t x)
    where
      assoc : (a : Bool) → (a && (list_all (contains t) xs && list_all (contains t) ys)) ≡ ((a && list_all (contains t) xs) && list_all (contains t) ys)
      assoc true = refl
      assoc false = refl

  has-one : (b : Base) (rest : List (List ℕ)) → list_all (contains t) (base_structs b ++ rest) ≡ true → Has b
  has-one b rest h = and-first (list_all (contains t) (base_structs b)) (list_all (contains t) rest) (sym (all-append (base_structs b) rest) ∙ h)

  has-rest : (b : Base) (rest : List (List ℕ)) → list_all (contains t) (base_structs b ++ rest) ≡ true → list_all (contains t) rest ≡ true
  has-rest b rest h = and-second (list_all (contains t) (base_structs b)) (list_all (contains t) rest) (sym (all-append (base_structs b) rest) ∙ h)

  abbrev behind : List Parameter → List (List ℕ)
  behind ps = flat_map use_structs (flat_map parameter_spellings ps)

  abbrev types : List Parameter → List Spelled
  types ps = map (λ p. spelled t p.base (stars_of p.pointer)) ps

  parameters-same : (ps qs : List Parameter) → HasAll ps → HasAll qs → same_parameters ps qs ≡ same_types (types ps) (types qs)
  parameters-same [] [] h k = refl
  parameters-same [] (q ∷ qs) h k = refl
  parameters-same (p ∷ ps) [] h k = refl
  parameters-same (p ∷ ps) (q ∷ qs) h k =
      ap (λ s. s && same_parameters ps qs) (written-same p.base (stars_of p.pointer) q.base (stars_of q.pointer) (has-one p.base (behind ps) h) (has-one q.base (behind qs) k))
      ∙ ap (λ s. same_spelled (spelled t p.base (stars_of p.pointer)) (spelled t q.base (stars_of q.pointer)) && s) (parameters-same ps qs (has-rest p.base (behind ps) h) (has-rest q.base (behind qs) k))

  abbrev HasHead : Option Base → ℕ → List Parameter → Type 0
  HasHead r i ps = list_all (contains t) (flat_map use_structs (result_spellings r i ++ flat_map parameter_spellings ps)) ≡ true

  heads-same : (r : Option Base) (i : ℕ) (ps : List Parameter) (s : Option Base) (j : ℕ) (qs : List Parameter) → HasHead r i ps → HasHead s j qs
      → (same_results r i s j && same_parameters ps qs) ≡ (same_result (option_map (λ b. spelled t b i) r) (option_map (λ b. spelled t b j) s) && same_types (types ps) (types qs))
  heads-same None i ps None j qs h k = parameters-same ps qs h k
  heads-same None i ps (Some b) j qs h k = refl
  heads-same (Some a) i ps None j qs h k = refl
  heads-same (Some a) i ps (Some b) j qs h k =
      ap (λ s. s && same_parameters ps qs) (written-same a i b j (has-one a (behind ps) h) (has-one b (behind qs) k))
      ∙ ap (λ s. same_spelled (spelled t a i) (spelled t b j) && s) (parameters-same ps qs (has-rest a (behind ps) h) (has-rest b (behind qs) k))

  pub head-same : (a b : Routine) → HasStructs t a → HasStructs t b → same_head a b ≡ same_function t a b
  head-same a b h k = heads-same a.result (result_stars a.stars) a.parameters b.result (result_stars b.stars) b.parameters h k
