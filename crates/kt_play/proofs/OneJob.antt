-- Texts are those of at most one job, and at most one of them is the first that is not what it has to be.
use Rattle.std.specs.Prelude.{◌≡◌, ℕ, ◌⊎◌, List, [], ◌∷◌, Bool, true, false}
use Rattle.std.proofs.Common.{inl, inr, sym, subst, ap, ◌∙◌}
use Rattle.kt_stage.specs.Stage.{runs_alone, runs_updated}
use Rattle.kt_syntax.specs.Answer.{OneAnswer}
use Rattle.kt_tree.specs.Version.{Program}
use Rattle.kt_lone.specs.Job.{Job}
use Rattle.kt_play.specs.declared.status.Cause.{Cause}
use Rattle.kt_play.specs.declared.status.Cause.TheVariants.{Later}
use Rattle.kt_play.specs.Job.{alone, updated, IsBlankText, IsJobOf, IsLaterAlone, IsLeastLater, IsLaterOfThree, IsOutside, IsOutsideOfThree}
use Rattle.kt_play.specs.Text.{IsVersionText, IsFaultOf}
use Rattle.kt_play.proofs.TextLemmas.{IsVersionText-unique, fault-none, one_fault}

true_or_false : (b : Bool) → b ≡ true → b ≡ false → ⊥
true_or_false b t f = cc

-- ---- what doesn't run so far

-- of an update that doesn't run so far one file is the least
one_least : (v : Program) (r : List ℕ) (w : Program) (m n : ℕ) → IsLeastLater v r w m → IsLeastLater v r w n → m ≡ n
one_least v r w m n (inl p) (inl q) = p.0 ∙ sym q.0
one_least v r w m n (inl p) (inr (inl q)) = absurd (true_or_false (runs_updated v) q.1 p.1)
one_least v r w m n (inl p) (inr (inr q)) = absurd (true_or_false (runs_updated v) q.1 p.1)
one_least v r w m n (inr (inl p)) (inl q) = absurd (true_or_false (runs_updated v) p.1 q.1)
one_least v r w m n (inr (inl p)) (inr (inl q)) = p.0 ∙ sym q.0
one_least v r w m n (inr (inl p)) (inr (inr q)) = absurd (p.2 q.2)
one_least v r w m n (inr (inr p)) (inl q) = absurd (true_or_false (runs_updated v) p.1 q.1)
one_least v r w m n (inr (inr p)) (inr (inl q)) = absurd (q.2 p.2)
one_least v r w m n (inr (inr p)) (inr (inr q)) = p.0 ∙ sym q.0

-- an update that runs has none
no_least : (v : Program) (r : List ℕ) (w : Program) (n : ℕ) → runs_updated v ≡ true → IsBlankText r → runs_updated w ≡ true → IsLeastLater v r w n → ⊥
no_least v r w n first blank second (inl p) = true_or_false (runs_updated v) first p.1
no_least v r w n first blank second (inr (inl p)) = p.2 blank
no_least v r w n first blank second (inr (inr p)) = true_or_false (runs_updated w) second p.3

module _ (one : OneAnswer) where
  -- what is said of the one version of a text
  of_version : (bytes : List ℕ) (v w : Program) → IsVersionText bytes v → IsVersionText bytes w → (P : Program → Type 0) → P v → P w
  of_version bytes v w s t P p = subst P (IsVersionText-unique one bytes v w s t) p

  not_later : (a : List ℕ) (v : Program) → IsVersionText a v → runs_alone v ≡ true → IsLaterAlone a → ⊥
  not_later a v text runs later =
      true_or_false (runs_alone later.0) (of_version a v later.0 text later.1 (λ (p : Program). runs_alone p ≡ true) runs) later.2

  -- the least file that doesn't run so far, of the versions that the texts have
  least_of : (a r b : List ℕ) (v w : Program) (n : ℕ) → IsVersionText a v → IsVersionText b w → IsLaterOfThree a r b n → IsLeastLater v r w n
  least_of a r b v w n first second later =
      of_version a later.0 v later.2 first (λ (p : Program). IsLeastLater p r w n)
      (of_version b later.1 w later.3 second (λ (p : Program). IsLeastLater later.0 r p n) later.4)

  -- ---- one job

  pub one_job : (files : List (List ℕ)) (input : List ℕ) (job other : Job) → IsJobOf files input job → IsJobOf files input other → job ≡ other
  one_job [] input job other s t = absurd s
  one_job (a ∷ []) input job other s t =
      let v = IsVersionText-unique one a s.0 t.0 s.1 t.1 in
      s.3 ∙ ap (λ (p : Program). alone p input) v ∙ sym t.3
  one_job (a ∷ (r ∷ [])) input job other s t = absurd s
  one_job (a ∷ (r ∷ (b ∷ []))) input job other s t =
      let v = IsVersionText-unique one a s.0 t.0 s.2 t.2 in
      let w = IsVersionText-unique one b s.1 t.1 s.3 t.3 in
      s.7 ∙ ap (λ (p : Program). updated p s.1 input) v ∙ ap (λ (p : Program). updated t.0 p input) w ∙ sym t.7
  one_job (a ∷ (r ∷ (b ∷ (c ∷ more)))) input job other s t = absurd s

  -- texts of a job are none that is refused
  pub not_outside : (files : List (List ℕ)) (input : List ℕ) (job : Job) (n : ℕ) (cause : Cause) → IsJobOf files input job → IsOutside files n cause → ⊥
  not_outside [] input job n cause s o = s
  not_outside (a ∷ []) input job n cause s o =
      elim o.1 [ inl fault ↦ fault-none one a cause fault (s.0, s.1) | inr later ↦ not_later a s.0 s.1 s.2 later.1 ]
  not_outside (a ∷ (r ∷ [])) input job n cause s o = s
  not_outside (a ∷ (r ∷ (b ∷ []))) input job n cause s o = elim o [
    | inl first ↦ fault-none one a cause first.1 (s.0, s.2)
    | inr more ↦ elim more [
      | inl second ↦ fault-none one b cause second.2 (s.1, s.3)
      | inr later ↦ no_least s.0 r s.1 n s.4 s.5 s.6 (least_of a r b s.0 s.1 n s.2 s.3 later.1)
    ]
  ]
  not_outside (a ∷ (r ∷ (b ∷ (c ∷ more)))) input job n cause s o = s

  -- ---- one file that is refused

  one_alone : (a : List ℕ) (c d : Cause) → IsFaultOf a c ⊎ ((c ≡ Later 0) × IsLaterAlone a) → IsFaultOf a d ⊎ ((d ≡ Later 0) × IsLaterAlone a) → c ≡ d
  one_alone a c d (inl p) (inl q) = one_fault one a c d p q
  one_alone a c d (inl p) (inr q) = absurd (fault-none one a c p (q.1.0, q.1.1))
  one_alone a c d (inr p) (inl q) = absurd (fault-none one a d q (p.1.0, p.1.1))
  one_alone a c d (inr p) (inr q) = p.0 ∙ sym q.0

  -- at most one of three files is the first outside, for one cause
  one_of_three : (a r b : List ℕ) (m n : ℕ) (c d : Cause) → IsOutsideOfThree a r b m c → IsOutsideOfThree a r b n d → (m ≡ n) × (c ≡ d)
  one_of_three a r b m n c d (inl p) (inl q) = (p.0 ∙ sym q.0, one_fault one a c d p.1 q.1)
  one_of_three a r b m n c d (inl p) (inr (inl q)) = absurd (fault-none one a c p.1 q.1)
  one_of_three a r b m n c d (inl p) (inr (inr q)) = absurd (fault-none one a c p.1 (q.1.0, q.1.2))
  one_of_three a r b m n c d (inr (inl p)) (inl q) = absurd (fault-none one a d q.1 p.1)
  one_of_three a r b m n c d (inr (inl p)) (inr (inl q)) = (p.0 ∙ sym q.0, one_fault one b c d p.2 q.2)
  one_of_three a r b m n c d (inr (inl p)) (inr (inr q)) = absurd (fault-none one b c p.2 (q.1.1, q.1.3))
  one_of_three a r b m n c d (inr (inr p)) (inl q) = absurd (fault-none one a d q.1 (p.1.0, p.1.2))
  one_of_three a r b m n c d (inr (inr p)) (inr (inl q)) = absurd (fault-none one b d q.2 (p.1.1, p.1.3))
  one_of_three a r b m n c d (inr (inr p)) (inr (inr q)) =
      (one_least p.1.0 r p.1.1 m n p.1.4 (least_of a r b p.1.0 p.1.1 n p.1.2 p.1.3 q.1), p.0 ∙ sym q.0)

  -- at most one file is the first outside, for one cause
  pub one_outside : (files : List (List ℕ)) (m n : ℕ) (c d : Cause) → IsOutside files m c → IsOutside files n d → (m ≡ n) × (c ≡ d)
  one_outside [] m n c d s t = absurd s
  one_outside (a ∷ []) m n c d s t = (s.0 ∙ sym t.0, one_alone a c d s.1 t.1)
  one_outside (a ∷ (r ∷ [])) m n c d s t = absurd s
  one_outside (a ∷ (r ∷ (b ∷ []))) m n c d s t = one_of_three a r b m n c d s t
  one_outside (a ∷ (r ∷ (b ∷ (x ∷ more)))) m n c d s t = absurd s
