-- A list to which parts are added one after another.
use Rattle.std.proofs.Common.{◌≡◌, List, [], ◌++◌, Result, Ok, Err, OnOk, refl, sym, ap, ◌∙◌, append_assoc}

module _ {A T E : Type 0} where
  -- a part alone
  pub adds-one : (r : Result T E) (old new xs all : List A) → OnOk r (new ≡ old ++ xs) → all ≡ xs → OnOk r (new ≡ old ++ all)
  adds-one (Ok x) old new xs all h e = h ∙ ap (λ ys. old ++ ys) (sym e)
  adds-one (Err x) old new xs all h e = tt

  -- a part behind another
  pub adds-two : (r : Result T E) (old mid new xs ys all : List A) → mid ≡ old ++ xs → OnOk r (new ≡ mid ++ ys) → all ≡ xs ++ ys → OnOk r (new ≡ old ++ all)
  adds-two (Ok x) old mid new xs ys all h k e = k ∙ ap (λ zs. zs ++ ys) h ∙ append_assoc old xs ys ∙ ap (λ zs. old ++ zs) (sym e)
  adds-two (Err x) old mid new xs ys all h k e = tt

  -- a part behind two others
  pub adds-three : (r : Result T E) (old mid next new xs ys zs all : List A) → mid ≡ old ++ xs → next ≡ mid ++ ys → OnOk r (new ≡ next ++ zs) → all ≡ xs ++ (ys ++ zs) → OnOk r (new ≡ old ++ all)
  adds-three r old mid next new xs ys zs all h k l e = adds-two r old mid new xs (ys ++ zs) all h (adds-two r mid next new ys zs (ys ++ zs) k l refl) e

-- four parts, of which three are added together
pub four : {A : Type 0} (ws xs ys zs : List A) → ws ++ (xs ++ (ys ++ zs)) ≡ (ws ++ (xs ++ ys)) ++ zs
four ws xs ys zs = sym (append_assoc ws (xs ++ ys) zs ∙ ap (λ us. ws ++ us) (append_assoc xs ys zs))
