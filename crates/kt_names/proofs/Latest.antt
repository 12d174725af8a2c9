-- The latest of the names in scope, looked up.
use Rattle.std.proofs.Common.{if◌then◌else◌, zero, suc, ◌≡◌, ℕ, ◌+◌, ◌≤◌, ◌<◌, nat_le, Bool, true, false, List, [], ◌∷◌, ◌++◌, length, map, take, drop, get_or, slice_get, Option, None, Some, is_some, refl, sym, ap, subst, ◌∙◌, append_assoc, arith, true≢false}
use Rattle.std.specs.List.{position}
use Rattle.std.specs.Map.{lookup, keys_of}
use Rattle.std.specs.Str.{bytes_eq}
use Rattle.std.specs.Global.{Vec}
use Rattle.std.specs.Option.{option_map, option_flatten}
use Rattle.std.proofs.lemmas.Bool.Decides.{nat_tests}
use Rattle.std.proofs.lemmas.Slice.Eq.{bytes_eq-Decides}
use Rattle.std.proofs.lemmas.Option.{none-some}
use Rattle.std.proofs.lemmas.List.Quantifiers.{position-Some}
use Rattle.std.proofs.lemmas.List.{append-nil, length-append, length-take-le, take-append-drop}
use Rattle.indexmap.specs.IndexMap.{insert_entry, set_value_at}
use Rattle.kt_names.specs.declared.info.Visible.{Visible}
use Rattle.kt_names.specs.Environment.{local_named}
use Rattle.kt_names.specs.Statements.{contains}
use Rattle.kt_names.specs.Latest.{latest_first, place_of, kept_under, TellHidden, Keeps}
use Rattle.kt_names.specs.Scopes.{names_of}
use Rattle.kt_names.specs.Views.{visible_of}
use Rattle.kt_names.proofs.Inserted.{lookup-inserted}
use Rattle.kt_names.proofs.Visibles.{latest-push}

-- ---- lists, the latest first

length-latest : {A : Type 0} (xs : List A) → length (latest_first xs) ≡ length xs
length-latest [] = refl
length-latest (x ∷ xs) =
    let e = length-latest xs in
    omega (arith, length-append (latest_first xs) (x ∷ []))

latest-append : {A : Type 0} (xs ys : List A) → latest_first (xs ++ ys) ≡ latest_first ys ++ latest_first xs
latest-append [] ys = sym (append-nil (latest_first ys))
latest-append (x ∷ xs) ys = rw (latest-append xs ys) (append_assoc (latest_first ys) (latest_first xs) (x ∷ []))

latest-twice : {A : Type 0} (xs : List A) → latest_first (latest_first xs) ≡ xs
latest-twice [] = refl
latest-twice (x ∷ xs) = latest-push (latest_first xs) x ∙ ap (λ ys. x ∷ ys) (latest-twice xs)

-- ---- the innermost scope

le-true : (a b : ℕ) → a ≤ b → nat_le a b ≡ true
le-true a b h = grind (arith, nat_tests)

le-false : (a b : ℕ) → b < a → nat_le a b ≡ false
le-false a b h = grind (arith, nat_tests)

-- a place is at least so many
abbrev pub is_from : ℕ → Option ℕ → Bool
is_from n None = false
is_from n (Some p) = nat_le n p

none-from : (vs : List Visible) (name : List ℕ) (n : ℕ) → length vs ≤ n → is_from n (place_of vs name) ≡ false
none-from [] name n h = refl
none-from (v ∷ vs) name n h = by (bytes_eq v.name.items name) refl (none-from vs name n (omega arith))
  where
    by : (b : Bool) → bytes_eq v.name.items name ≡ b → is_from n (place_of vs name) ≡ false → is_from n (place_of (v ∷ vs) name) ≡ false
    by true e more = rw e (le-false n (length vs) (omega arith))
    by false e more = rw e more

from-front : (vs behind : List Visible) (name : List ℕ) → is_from (length behind) (place_of (vs ++ behind) name) ≡ contains (names_of vs) name
from-front [] behind name = none-from behind name (length behind) (omega arith)
from-front (v ∷ vs) behind name = by (bytes_eq v.name.items name) refl (from-front vs behind name)
  where
    by : (b : Bool) → bytes_eq v.name.items name ≡ b → is_from (length behind) (place_of (vs ++ behind) name) ≡ contains (names_of vs) name
        → is_from (length behind) (place_of ((v ∷ vs) ++ behind) name) ≡ contains (names_of (v ∷ vs)) name
    by true e more = rw e (le-true (length behind) (length (vs ++ behind)) (omega (arith, length-append vs behind)))
    by false e more = rw e more

pub own-is : (vs : List Visible) (start : ℕ) (name : List ℕ) → start ≤ length vs → is_from start (place_of (latest_first vs) name) ≡ contains (names_of (latest_first (drop start vs))) name
own-is vs start name h =
    let behind = latest_first (take start vs) in
    let front = latest_first (drop start vs) in
    let parts : latest_first vs ≡ front ++ behind = ap (λ (xs : List Visible). latest_first xs) (sym (take-append-drop start vs)) ∙ latest-append (take start vs) (drop start vs) in
    let count : length behind ≡ start = length-latest (take start vs) ∙ length-take-le start vs h in
    ap (λ (xs : List Visible). is_from start (place_of xs name)) parts
    ∙ ap (λ n. is_from n (place_of (front ++ behind) name)) (sym count)
    ∙ from-front front behind name

-- ---- the local of a name

abbrev pub local_in : List Visible → Option ℕ → Option ℕ
local_in vs None = None
local_in vs (Some p) = option_map (λ (w : Visible). w.local) (slice_get vs p)

get-last : (vs : List Visible) (v : Visible) (n : ℕ) → n ≡ length vs → slice_get (vs ++ v ∷ []) n ≡ Some v
get-last [] v n e = rw e refl
get-last (w ∷ vs) v zero e = absurd (omega arith)
get-last (w ∷ vs) v (suc n) e = get-last vs v n (omega arith)

get-before : (vs : List Visible) (v : Visible) (n : ℕ) → n < length vs → slice_get (vs ++ v ∷ []) n ≡ slice_get vs n
get-before [] v n h = absurd (omega arith)
get-before (w ∷ vs) v zero h = refl
get-before (w ∷ vs) v (suc n) h = get-before vs v n (omega arith)

place-below : (vs : List Visible) (name : List ℕ) (p : ℕ) → place_of vs name ≡ Some p → p < length vs
place-below [] name p e = absurd (none-some p e)
place-below (v ∷ vs) name p e = by (bytes_eq v.name.items name) refl (place-below vs name p)
  where
    by : (b : Bool) → bytes_eq v.name.items name ≡ b → (place_of vs name ≡ Some p → p < length vs) → p < length (v ∷ vs)
    by true t more =
        let last : Some (length vs) ≡ Some p = rw t at e in
        let is : length vs ≡ p = cc in
        omega arith
    by false t more =
        let below = more (rw t at e) in
        omega arith

local-before : (vs : List Visible) (v : Visible) (name : List ℕ) (behind : List Visible) → length behind ≡ length vs → local_in (vs ++ v ∷ []) (place_of behind name) ≡ local_in vs (place_of behind name)
local-before vs v name behind e = by (place_of behind name) refl
  where
    by : (o : Option ℕ) → place_of behind name ≡ o → local_in (vs ++ v ∷ []) o ≡ local_in vs o
    by None t = refl
    by (Some p) t =
        let below = place-below behind name p t in
        ap (option_map (λ (w : Visible). w.local)) (get-before vs v p (omega arith))

named-in : (vs : List Visible) (name : List ℕ) → local_in (latest_first vs) (place_of vs name) ≡ local_named (map visible_of vs) name
named-in [] name = refl
named-in (v ∷ vs) name = by (bytes_eq v.name.items name) refl (named-in vs name)
  where
    by : (b : Bool) → bytes_eq v.name.items name ≡ b → local_in (latest_first vs) (place_of vs name) ≡ local_named (map visible_of vs) name
        → local_in (latest_first (v ∷ vs)) (place_of (v ∷ vs) name) ≡ local_named (map visible_of (v ∷ vs)) name
    by true e more = rw e (ap (option_map (λ (w : Visible). w.local)) (get-last (latest_first vs) v (length vs) (sym (length-latest vs))))
    by false e more = rw e (local-before (latest_first vs) v name vs (sym (length-latest vs)) ∙ more)

pub named-is : (vs : List Visible) (name : List ℕ) → local_in vs (place_of (latest_first vs) name) ≡ local_named (map visible_of (latest_first vs)) name
named-is vs name = ap (λ (xs : List Visible). local_in xs (place_of (latest_first vs) name)) (sym (latest-twice vs)) ∙ named-in (latest_first vs) name

-- ---- what is kept

abbrev Places : Type 0
Places = List (Vec ℕ × Option ℕ)

abbrev found : Places → List ℕ → Option (Option ℕ)
found es name = lookup (λ k. bytes_eq name k.items) es

flatten-if : (b : Bool) (place : Option ℕ) (o : Option (Option ℕ)) → option_flatten (if b then Some place else o) ≡ (if b then place else option_flatten o)
flatten-if true place o = refl
flatten-if false place o = refl

same : (a b : List ℕ) → bytes_eq a b ≡ true → a ≡ b
same a b e = (bytes_eq-Decides a b).0 e

differs : (a b : List ℕ) → (a ≡ b → ⊥) → bytes_eq a b ≡ false
differs a b apart = by (bytes_eq a b) refl
  where
    by : (x : Bool) → bytes_eq a b ≡ x → bytes_eq a b ≡ false
    by true e = absurd (apart (same a b e))
    by false e = e

itself : (a : List ℕ) → bytes_eq a a ≡ true
itself a = (bytes_eq-Decides a a).1 refl

-- a write under the first key that is the name
module _ (name : List ℕ) (place : Option ℕ) (q : List ℕ) where
  abbrev is_name : Vec ℕ → Bool
  is_name k = bytes_eq name k.items

  abbrev written : Places → Option (Option ℕ)
  written es = if bytes_eq name q then Some place else found es q

  write-first : (x : Vec ℕ × Option ℕ) (es : Places) → is_name x.0 ≡ true → found ((x.0, place) ∷ es) q ≡ written (x ∷ es)
  write-first x es e = by (bytes_eq name q) refl
    where
      by : (b : Bool) → bytes_eq name q ≡ b → found ((x.0, place) ∷ es) q ≡ written (x ∷ es)
      by true t = rw (t, ap (λ n. bytes_eq n x.0.items) (sym (same name q t)) ∙ e) refl
      by false t = rw (t, not-same t) refl
        where
          not-same : bytes_eq name q ≡ false → bytes_eq q x.0.items ≡ false
          not-same t = differs q x.0.items (λ h. true≢false (sym ((bytes_eq-Decides name q).1 (same name x.0.items e ∙ sym h)) ∙ t))

  write-more : (x : Vec ℕ × Option ℕ) (es fs : Places) → is_name x.0 ≡ false → found fs q ≡ written es → found (x ∷ fs) q ≡ written (x ∷ es)
  write-more x es fs e h = by (bytes_eq q x.0.items) refl
    where
      by : (b : Bool) → bytes_eq q x.0.items ≡ b → found (x ∷ fs) q ≡ written (x ∷ es)
      by true t =
          let other : bytes_eq name q ≡ false = differs name q (λ i. true≢false (sym ((bytes_eq-Decides name x.0.items).1 (i ∙ same q x.0.items t)) ∙ e)) in
          rw (t, other) refl
      by false t = rw t h

  write-at : (es : Places) (i : ℕ) (d : Vec ℕ) → i < length (keys_of es) → is_name (get_or (keys_of es) i d) ≡ true → ((k : ℕ) → k < i → is_name (get_or (keys_of es) k d) ≡ false) → found (set_value_at es i place) q ≡ written es
  write-at [] i d within here before = absurd (omega arith)
  write-at (x ∷ es) zero d within here before = write-first x es here
  write-at (x ∷ es) (suc i) d within here before =
      write-more x es (set_value_at es i place) (before 0 (omega arith)) (write-at es i d (omega arith) here (λ k h. before (suc k) (omega arith)))

  write-found : (es : Places) (i : ℕ) → Some i ≡ position is_name (keys_of es) → found (set_value_at es i place) q ≡ written es
  write-found [] i e = absurd (none-some i (sym e))
  write-found (x ∷ es) i e =
      let (within, here, before) = position-Some is_name (keys_of (x ∷ es)) i x.0 (sym e) in
      write-at (x ∷ es) i x.0 within here before

pub kept-write : (es fs : Places) (name : List ℕ) (i : ℕ) (place : Option ℕ) → Some i ≡ position (λ k. bytes_eq name k.items) (keys_of es) → fs ≡ set_value_at es i place
    → (q : List ℕ) → kept_under fs q ≡ (if bytes_eq name q then place else kept_under es q)
kept-write es fs name i place e w q =
    ap (λ (xs : Places). kept_under xs q) w ∙ ap option_flatten (write-found name place q es i e) ∙ flatten-if (bytes_eq name q) place (found es q)

-- a name that is added has no place
module _ (es fs : Places) (key : Vec ℕ) (name : List ℕ) (is : key.items ≡ name) (grows : fs ≡ insert_entry (λ a b. bytes_eq a.items b.items) es key None) where
  found-added : (q : List ℕ) → found fs q ≡ (if bytes_eq q key.items then Some None else found es q)
  found-added q = ap (λ (xs : Places). found xs q) grows ∙ lookup-inserted q key None es

  pub kept-added : found es name ≡ None → (q : List ℕ) → kept_under fs q ≡ kept_under es q
  kept-added absent q = ap option_flatten (found-added q) ∙ by (bytes_eq q key.items) refl
    where
      by : (b : Bool) → bytes_eq q key.items ≡ b → option_flatten (if bytes_eq q key.items then Some None else found es q) ≡ kept_under es q
      by true t = rw t (sym (ap (λ n. kept_under es n) (same q key.items t ∙ is) ∙ ap option_flatten absent))
      by false t = rw t refl

  pub added-there : is_some (found fs name) ≡ true
  added-there = ap is_some (found-added name) ∙ rw (is, itself name) refl

-- ---- what is in scope

pub none-kept : Keeps [] []
none-kept = record { places = λ q. refl; hidden = tt }

pub kept-same : (es fs : Places) (vs : List Visible) → Keeps es vs → ((q : List ℕ) → kept_under fs q ≡ kept_under es q) → Keeps fs vs
kept-same es fs vs k h = record { places = λ q. h q ∙ k.places q; hidden = k.hidden }

-- one name more
pub kept-push : (es fs : Places) (vs ws : List Visible) (v : Visible) (name : List ℕ) (n : ℕ) → Keeps es vs → ws ≡ vs ++ v ∷ [] → v.name.items ≡ name → v.hides ≡ place_of (latest_first vs) name → n ≡ length vs
    → ((q : List ℕ) → kept_under fs q ≡ (if bytes_eq name q then Some n else kept_under es q)) → Keeps fs ws
kept-push es fs vs ws v name n k grows is hides count now =
    let last : latest_first ws ≡ v ∷ latest_first vs = ap (λ (xs : List Visible). latest_first xs) grows ∙ latest-push vs v in
    record {
      places = λ q. now q ∙ rw (k.places q, count, ← is, ← length-latest vs) refl ∙ ap (λ (xs : List Visible). place_of xs q) (sym last);
      hidden = subst TellHidden (sym last) (hides ∙ ap (place_of (latest_first vs)) (sym is), k.hidden);
    }

-- one name less
module _ (es : Places) (vs ws : List Visible) (v : Visible) (grows : ws ≡ vs ++ v ∷ []) (k : Keeps es ws) where
  latest-is : latest_first ws ≡ v ∷ latest_first vs
  latest-is = ap (λ (xs : List Visible). latest_first xs) grows ∙ latest-push vs v

  hidden-by : TellHidden (v ∷ latest_first vs)
  hidden-by = subst TellHidden latest-is k.hidden

  places-by : (q : List ℕ) → kept_under es q ≡ place_of (v ∷ latest_first vs) q
  places-by q = k.places q ∙ ap (λ (xs : List Visible). place_of xs q) latest-is

  pub last-there : is_some (found es v.name.items) ≡ true
  last-there = by (found es v.name.items) (places-by v.name.items ∙ rw (itself v.name.items) refl)
    where
      by : (o : Option (Option ℕ)) → option_flatten o ≡ Some (length (latest_first vs)) → is_some o ≡ true
      by None e = absurd (none-some (length (latest_first vs)) e)
      by (Some p) e = refl

  pub kept-pop : (fs : Places) → ((q : List ℕ) → kept_under fs q ≡ (if bytes_eq v.name.items q then v.hides else kept_under es q)) → Keeps fs vs
  kept-pop fs now = record { places = λ q. by q (bytes_eq v.name.items q) refl; hidden = hidden-by.1 }
    where
      by : (q : List ℕ) (b : Bool) → bytes_eq v.name.items q ≡ b → kept_under fs q ≡ place_of (latest_first vs) q
      by q true e = now q ∙ rw e (hidden-by.0 ∙ ap (place_of (latest_first vs)) (same v.name.items q e))
      by q false e = now q ∙ rw e (places-by q ∙ rw e refl)
