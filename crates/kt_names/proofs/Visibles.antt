-- What is in scope, as the code keeps it.
use Rattle.std.proofs.Common.{suc, ◌≡◌, ℕ, ◌+◌, ◌≤◌, List, [], ◌∷◌, ◌++◌, length, map, drop, refl, ap, ◌∙◌, arith}
use Rattle.std.proofs.lemmas.List.{drop-append-le}
use Rattle.kt_names.specs.declared.info.Visible.{Visible}
use Rattle.kt_names.specs.Statements.{State, declared}
use Rattle.kt_names.specs.Views.{latest_first, visible_of}
use Rattle.kt_names.specs.Scopes.{names_of}

pub latest-push : {A : Type 0} (xs : List A) (x : A) → latest_first (xs ++ x ∷ []) ≡ x ∷ latest_first xs
latest-push [] x = refl
latest-push (y ∷ xs) x = rw (latest-push xs x) refl

-- ---- a name that is declared

abbrev state_at : List Visible → ℕ → ℕ → State
state_at vs start next = record { visible = map visible_of (latest_first vs); own = names_of (latest_first (drop start vs)); next = next }

visible-push : (xs : List Visible) (v : Visible) → map visible_of (latest_first (xs ++ v ∷ [])) ≡ visible_of v ∷ map visible_of (latest_first xs)
visible-push xs v = ap (λ (vs : List Visible). map visible_of vs) (latest-push xs v)

own-push : (xs : List Visible) (start : ℕ) (v : Visible) → start ≤ length xs → names_of (latest_first (drop start (xs ++ v ∷ []))) ≡ v.name.items ∷ names_of (latest_first (drop start xs))
own-push xs start v h =
    ap (λ (vs : List Visible). names_of (latest_first vs)) (drop-append-le start xs (v ∷ []) h) ∙ ap (λ (vs : List Visible). names_of vs) (latest-push (drop start xs) v)

pub declared-by : (xs ys : List Visible) (start next more : ℕ) (v : Visible) (name : List ℕ) → ys ≡ xs ++ v ∷ [] → more ≡ next + 1 → v.local ≡ next → v.name.items ≡ name → start ≤ length xs
    → state_at ys start more ≡ declared (state_at xs start next) name
declared-by xs ys start next more v name e m l n h =
    let one : more ≡ suc next = omega arith in
    rw (e, visible-push xs v, own-push xs start v h, one, l, n) refl
