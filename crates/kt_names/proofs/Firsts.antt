-- The first of the locals of each name, looked up.
use Rattle.std.proofs.Common.{if◌then◌else◌, zero, suc, ◌≡◌, ℕ, ◌+◌, ◌≤◌, ◌<◌, nat_lt, Bool, true, false, List, [], ◌∷◌, take, Option, None, Some, refl, arith}
use Rattle.std.specs.List.{position_from}
use Rattle.std.specs.Str.{bytes_eq}
use Rattle.std.proofs.lemmas.Bool.Decides.{nat_tests}
use Rattle.kt_names.specs.declared.info.LocalInfo.{LocalInfo}
use Rattle.kt_names.specs.Firsts.{first_place}
use Rattle.kt_names.specs.Scopes.{local_names}
use Rattle.kt_names.specs.Statements.{contains}

-- a place is below a number
abbrev pub is_below : ℕ → Option ℕ → Bool
is_below n None = false
is_below n (Some p) = nat_lt p n

lt-true : (a b : ℕ) → a < b → nat_lt a b ≡ true
lt-true a b h = grind (arith, nat_tests)

lt-false : (a b : ℕ) → b ≤ a → nat_lt a b ≡ false
lt-false a b h = grind (arith, nat_tests)

module _ (name : List ℕ) where
  abbrev pub place_from : ℕ → List LocalInfo → Option ℕ
  place_from n ls = position_from (λ l. bytes_eq l.name.now name) n ls

  none-below : (ls : List LocalInfo) (m n : ℕ) → m ≤ n → is_below m (place_from n ls) ≡ false
  none-below [] m n h = refl
  none-below (l ∷ ls) m n h = by (bytes_eq l.name.now name) refl (none-below ls m (n + 1) (omega arith))
    where
      by : (b : Bool) → bytes_eq l.name.now name ≡ b → is_below m (place_from (n + 1) ls) ≡ false → is_below m (place_from n (l ∷ ls)) ≡ false
      by true e more = rw e (lt-false n m h)
      by false e more = rw e more

  among-from : (ls : List LocalInfo) (n count m : ℕ) → m ≡ n + count → is_below m (place_from n ls) ≡ contains (take count (local_names ls)) name
  among-from [] n zero m e = refl
  among-from [] n (suc count) m e = refl
  among-from (l ∷ ls) n zero m e = none-below (l ∷ ls) m n (omega arith)
  among-from (l ∷ ls) n (suc count) m e = by (bytes_eq l.name.now name) refl (among-from ls (n + 1) count m (omega arith))
    where
      by : (b : Bool) → bytes_eq l.name.now name ≡ b → is_below m (place_from (n + 1) ls) ≡ contains (take count (local_names ls)) name → is_below m (place_from n (l ∷ ls)) ≡ contains (take (suc count) (local_names (l ∷ ls))) name
      by true t more = rw t (lt-true n m (omega arith))
      by false t more = rw t more

  pub among-is : (ls : List LocalInfo) (count : ℕ) → is_below count (first_place ls name) ≡ contains (take count (local_names ls)) name
  among-is ls count = among-from ls 0 count count (omega arith)
