-- The places of names.
use Rattle.std.proofs.Common.{◌≡◌, ℕ, zero, suc, ◌+◌, Bool, true, false, not, List, [], ◌∷◌, ◌++◌, map, length, take, get_or, Option, Some, refl, sym, ap, ◌∙◌, subst, arith, slice_get, ◌==◌}
use Rattle.std.specs.Cmp.Lexicographic.{pointwise, bytes_decides}
use Rattle.std.specs.List.{list_any, position, prefix_len}
use Rattle.std.proofs.lemmas.Bool.{false_from_ne_true}
use Rattle.std.proofs.lemmas.List.{take_more, map_push, length-map}
use Rattle.std.proofs.lemmas.Option.{none-some, same_Some, slice_get_within, get_or_from_slice_get, slice_get-map}
use Rattle.kt_tree.specs.Names.{is_one_of}
use Rattle.kt_tree.specs.Version.{AreDistinct}

prefix_len-map : {X Y : Type 0} (f : X → Y) (q : Y → Bool) (xs : List X) → prefix_len (λ x. q (f x)) xs ≡ prefix_len q (map f xs)
prefix_len-map f q [] = refl
prefix_len-map f q (x ∷ xs) = rw (prefix_len-map f q xs) refl

-- the first place of what passes is the same before and after f
pub position-map : {X Y : Type 0} (f : X → Y) (p : Y → Bool) (xs : List X) → position (λ x. p (f x)) xs ≡ position p (map f xs)
position-map f p xs = rw (prefix_len-map f (λ y. not (p y)) xs, length-map xs f) refl

pub list_any-map : {X Y : Type 0} (f : X → Y) (p : Y → Bool) (xs : List X) → list_any (λ x. p (f x)) xs ≡ list_any p (map f xs)
list_any-map f p [] = refl
list_any-map f p (x ∷ xs) = rw (list_any-map f p xs) refl

-- the name at a place is none of those before it
pub new-name : {X : Type 0} (f : X → List ℕ) (xs : List X) (k : ℕ) (x : X) → AreDistinct (map f xs) → slice_get xs k ≡ Some x → is_one_of (f x) (map f (take k xs)) ≡ false
new-name f [] k x distinct at = absurd (none-some x at)
new-name f (y ∷ xs) zero x distinct at = refl
new-name f (y ∷ xs) (suc k) x distinct at =
    let named : slice_get (map f xs) k ≡ Some (f x) = slice_get-map f xs k ∙ (rw at refl) in
    let here : pointwise ◌==◌ (f x) (f y) ≡ false =
    false_from_ne_true _ (λ same. distinct 0 (suc k) (f y) (f x) (omega arith) refl named (sym ((bytes_decides (f x) (f y)).0 same))) in
    let rest = new-name f xs k x (λ i j a b lt first second. distinct (suc i) (suc j) a b (omega arith) first second) at in
    rw (here, rest) refl

-- one more name
pub names_more : {X : Type 0} (f : X → List ℕ) (xs : List X) (k : ℕ) (x : X) → slice_get xs k ≡ Some x → map f (take k xs) ++ f x ∷ [] ≡ map f (take (k + 1) xs)
names_more f xs k x at =
    let item : get_or xs k x ≡ x = get_or_from_slice_get xs k x x at in
    let more : take (k + 1) xs ≡ take k xs ++ x ∷ [] = take_more xs k x (slice_get_within xs k x at) ∙ ap (λ y. take k xs ++ y ∷ []) item in
    sym (ap (map f) more ∙ map_push f (take k xs) x)

map-itself : {X : Type 0} (xs : List X) → map (λ x. x) xs ≡ xs
map-itself [] = refl
map-itself (x ∷ xs) = ap (λ l. x ∷ l) (map-itself xs)

-- the same among names alone
pub new-text : (names : List (List ℕ)) (k : ℕ) (name : List ℕ) → AreDistinct names → slice_get names k ≡ Some name → is_one_of name (take k names) ≡ false
new-text names k name distinct at =
    ap (is_one_of name) (sym (map-itself (take k names))) ∙ new-name (λ n. n) names k name (subst AreDistinct (sym (map-itself names)) distinct) at
