-- Steps of loops that judge a list, one part after the other.
use Rattle.std.proofs.Common.{◌≡◌, ℕ, ◌+◌, ◌<◌, List, ◌∷◌, length, get_or, drop, Result, Ok, Err, inl, inr, sym, ap, ◌∙◌, subst}
use Rattle.std.proofs.lemmas.List.{at_drop_more}
use Rattle.kt_names.specs.declared.fault.CheckFault.{CheckFault}
use Rattle.kt_names.specs.Checked.{Checked, and_then}
use Rattle.kt_names.specs.Judges.{Fails}

-- what is left of a list begins with the item
pub at-item : {X Y : Type 0} (F : List X → Y) (xs : List X) (i : ℕ) (x : X) → i < length xs → x ≡ get_or xs i x → F (drop i xs) ≡ F (x ∷ drop (i + 1) xs)
at-item F xs i x h is = at_drop_more F xs i x h ∙ ap (λ y. F (y ∷ drop (i + 1) xs)) (sym is)

pub ok-inj : {A E : Type 0} (x y : A) → ◌≡◌ {A = Result A E} (Ok x) (Ok y) → x ≡ y
ok-inj x y e = cc

err-inj : {A E : Type 0} (x y : E) → ◌≡◌ {A = Result A E} (Err x) (Err y) → x ≡ y
err-inj x y e = cc

-- a fault of a part is one of the whole, whatever follows
pub step-fails : {A B C : Type 0} (s : Checked A) (h : A → B) (k : A → Checked C) (x : CheckFault) → Fails x (and_then s (λ d. Ok (h d))) → Fails x (and_then s k)
step-fails s h k x (inl e) = inl e
step-fails (Ok y) h k x (inr e) = absurd cc
step-fails (Err g) h k x (inr e) = inr (ap Err (err-inj _ x e))

-- behind a part that is right comes what follows it
pub step-follows : {A B C : Type 0} (s : Checked A) (h : A → B) (k : A → Checked C) (t : B) (K : B → Checked C) → ((d : A) → k d ≡ K (h d)) → and_then s (λ d. Ok (h d)) ≡ Ok t → and_then s k ≡ K t
step-follows (Ok y) h k t K same e = same y ∙ ap K (ok-inj (h y) t e)
step-follows (Err g) h k t K same e = absurd cc

-- a fault of what is left is one of the whole list
pub fails-as : {A : Type 0} (s t : Checked A) (x : CheckFault) → s ≡ t → Fails x t → Fails x s
fails-as s t x e h = subst (Fails x) (sym e) h
