-- The table of the names of a file against what the names stand for.
use Rattle.std.proofs.Common.{◌≡◌, ℕ, ◌≤◌, ◌==◌, Bool, true, false, cond, if◌then◌else◌, List, [], ◌∷◌, map, length, Option, None, Some, refl, sym, ap, subst, ◌∙◌, arith}
use Rattle.std.specs.Option.{option_or, option_map}
use Rattle.std.specs.List.{position_from}
use Rattle.std.specs.Map.{lookup}
use Rattle.std.specs.Global.{Vec}
use Rattle.std.specs.Str.{bytes_eq}
use Rattle.std.proofs.lemmas.Slice.Eq.{bytes_eq-Decides}
use Rattle.std.proofs.lemmas.List.{length-map}
use Rattle.kt_syntax.specs.Tree.{Routine, External}
use Rattle.kt_names.specs.Environment.{Outer, Function}
use Rattle.kt_names.specs.Types.{with_names}
use Rattle.kt_names.specs.Tables.{first_by, defined_in, functions_of, globals_of, global_from, outer_named}
use Rattle.kt_names.specs.Outers.{signature_of, first_function}
use Rattle.kt_names.proofs.Noted.{or-step, with-names-grows}

pub map-or : {A B : Type 0} (f : A → B) (o : Option A) (b : Bool) (x : A) → option_map f (option_or o (if b then Some x else None)) ≡ option_or (option_map f o) (if b then Some (f x) else None)
map-or f (Some y) b x = refl
map-or f None true x = refl
map-or f None false x = refl

module _ (t : List (List ℕ)) (numbers : List (Vec ℕ × ℕ)) where
  -- a function more
  pub function-put : (f : Routine) (fs : List Routine) (q : List ℕ) (old new : Option Outer) (info : Outer)
      → new ≡ option_or old (if bytes_eq f.name.word q then Some info else None)
      → info ≡ Function (signature_of t (lookup (λ k. bytes_eq f.name.word k.items) numbers) f)
      → option_or new (first_function t (lookup (λ k. bytes_eq q k.items) numbers) fs q) ≡ option_or old (first_function t (lookup (λ k. bytes_eq q k.items) numbers) (f ∷ fs) q)
  function-put f fs q old new info e is = by (bytes_eq f.name.word q) refl
    where
      by : (b : Bool) → bytes_eq f.name.word q ≡ b → option_or new (first_function t (lookup (λ k. bytes_eq q k.items) numbers) fs q) ≡ option_or old (first_function t (lookup (λ k. bytes_eq q k.items) numbers) (f ∷ fs) q)
      by true i =
          let named : info ≡ Function (signature_of t (lookup (λ k. bytes_eq q k.items) numbers) f) = is ∙ ap (λ n. Function (signature_of t (lookup (λ k. bytes_eq n k.items) numbers) f)) ((bytes_eq-Decides f.name.word q).0 i) in
          let put : new ≡ option_or old (Some info) = e ∙ ap (λ b. option_or old (if b then Some info else None)) i in
          ap (λ o. option_or o (first_function t (lookup (λ k. bytes_eq q k.items) numbers) fs q)) put
          ∙ or-step old true info (first_function t (lookup (λ k. bytes_eq q k.items) numbers) fs q)
          ∙ ap (λ x. option_or old (Some x)) named
          ∙ ap (λ b. option_or old (option_map Function (option_map (signature_of t (lookup (λ k. bytes_eq q k.items) numbers)) (if b then Some f else first_by (λ f. bytes_eq f.name.word q) fs)))) (sym i)
      by false i =
          let put : new ≡ option_or old None = e ∙ ap (λ b. option_or old (if b then Some info else None)) i in
          ap (λ o. option_or o (first_function t (lookup (λ k. bytes_eq q k.items) numbers) fs q)) put
          ∙ or-step old false info (first_function t (lookup (λ k. bytes_eq q k.items) numbers) fs q)
          ∙ ap (λ b. option_or old (option_map Function (option_map (signature_of t (lookup (λ k. bytes_eq q k.items) numbers)) (if b then Some f else first_by (λ f. bytes_eq f.name.word q) fs)))) (sym i)

or-elim : {A : Type 0} (o p : Option A) → option_or o p ≡ elim o as (λ _. Option A) [ (Some g) ↦ Some g | None ↦ p ]
or-elim None p = refl
or-elim (Some x) p = refl

-- globals go before functions
pub outer-is : (t : List (List ℕ)) (xs : List External) (q : List ℕ) (g m : Option Outer) (fs : List Routine) (n : Option ℕ)
    → g ≡ global_from t 0 (globals_of xs) q → fs ≡ functions_of xs → n ≡ position_from (λ f. bytes_eq f.name.word q) 0 (defined_in fs)
    → m ≡ option_or g (first_function t n fs q) → m ≡ outer_named t xs q
outer-is t xs q g m fs n a b c d =
    d
    ∙ ap (λ k. option_or g (first_function t k fs q)) c
    ∙ ap (λ hs. option_or g (first_function t (position_from (λ f. bytes_eq f.name.word q) 0 (defined_in hs)) hs q)) b
    ∙ ap (λ h. option_or h (first_function t (position_from (λ f. bytes_eq f.name.word q) 0 (defined_in (functions_of xs))) (functions_of xs) q)) a
    ∙ or-elim (global_from t 0 (globals_of xs) q) (first_function t (position_from (λ f. bytes_eq f.name.word q) 0 (defined_in (functions_of xs))) (functions_of xs) q)

-- the update points are among the points
pub points-within : (ks : List (Vec ℕ)) (ups asks : List (List ℕ)) (n : ℕ) → n ≡ length (with_names [] ups) → map (λ n. n.items) ks ≡ with_names (with_names [] ups) asks → n ≤ length ks
points-within ks ups asks n e f =
    let grows = with-names-grows (with_names [] ups) asks in
    let long : length (map (λ (k : Vec ℕ). k.items) ks) ≡ length ks = length-map ks (λ (k : Vec ℕ). k.items) in
    let all : length (map (λ (k : Vec ℕ). k.items) ks) ≡ length (with_names (with_names [] ups) asks) = ap length f in
    omega arith
