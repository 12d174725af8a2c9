-- Steps of a turn, one after another.
use Rattle.std.specs.Prelude.{◌≡◌, Result, Ok, Err, OnOk}
use Rattle.std.proofs.Common.{ap, ◌∙◌}

module _ {W A E : Type 0} (r : Result A E) where
  pub two-steps : (f g : W → W) (w a n : W) → a ≡ f w → OnOk r (n ≡ g a) → OnOk r (n ≡ g (f w))
  two-steps f g w a n d is = last r is
    where
      last : (r : Result A E) → OnOk r (n ≡ g a) → OnOk r (n ≡ g (f w))
      last (Ok u) is = is ∙ ap g d
      last (Err e) is = tt

  pub three-steps : (f g h : W → W) (w a b n : W) → a ≡ f w → b ≡ g a → OnOk r (n ≡ h b) → OnOk r (n ≡ h (g (f w)))
  three-steps f g h w a b n d e is = two-steps (λ x. g (f x)) h w b n (e ∙ ap g d) is

  pub five-steps : (f g h k l : W → W) (w a b c d n : W) → a ≡ f w → b ≡ g a → c ≡ h b → d ≡ k c → OnOk r (n ≡ l d) →
      OnOk r (n ≡ l (k (h (g (f w)))))
  five-steps f g h k l w a b c d n p q s t is = two-steps (λ x. k (h (g (f x)))) l w d n (t ∙ ap k (s ∙ ap h (q ∙ ap g p))) is
