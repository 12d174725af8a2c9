-- Versions that are no job, and a job of two versions that is ready to run.
use Rattle.std.specs.Prelude.{◌≡◌, ℕ, ◌<◌, List, [], ◌∷◌, ◌++◌}
use Rattle.std.specs.List.{AllByRecursion}
use Rattle.std.proofs.Common.{arith, sym, subst, ap, ◌∙◌, inl, inr}
use Rattle.std.proofs.lemmas.List.Elements.{All-nil, All-cons}
use Rattle.kt_tree.specs.Version.{Program, IsProgram}
use Rattle.kt_play.specs.declared.refusal.NoJob.{NoJob}
use Rattle.kt_play.specs.declared.refusal.NoJob.TheVariants.{File, NoMemory}
use Rattle.kt_play.specs.Job.{updated}
use Rattle.kt_play.specs.Judged.{IsNoJob, IsNoVersion, IsReadyJob}
use Rattle.kt_play.specs.Text.{IsVersionText}

-- a first version that is one, and a second that is none
pub no_second_version : (a r b : List ℕ) (v : Program) (no_job : NoJob) → IsVersionText a v → IsNoVersion no_job b 3 → IsNoJob no_job (a ∷ (r ∷ (b ∷ [])))
no_second_version a r b v (File n cause) text h = inr (inl (h.0, (v, text), h.1))
no_second_version a r b v NoMemory text h = tt

pub one_pushed : {X : Type 0} (a b : List X) (x : X) → a ≡ [] → b ≡ a ++ x ∷ [] → b ≡ x ∷ []
one_pushed a b x e f = f ∙ ap (λ l. l ++ x ∷ []) e

pub two_pushed : {X : Type 0} (a b c : List X) (x y : X) → a ≡ [] → b ≡ a ++ x ∷ [] → c ≡ b ++ y ∷ [] → c ≡ x ∷ (y ∷ [])
two_pushed a b c x y e f g = g ∙ ap (λ l. l ++ y ∷ []) (one_pushed a b x e f)

-- two programs, one request, the budget of a run, and bytes
pub ready_updated : (v w : Program) (versions : List Program) (after bytes input : List ℕ) → versions ≡ v ∷ (w ∷ []) → after ≡ 0 ∷ [] → IsProgram v → IsProgram w →
    AllByRecursion (λ b. b < 256) bytes → bytes ≡ input → IsReadyJob (record { versions = versions; after = after; budget = 1000000; input = input })
ready_updated v w versions after bytes input e f is are below same =
    let ready : IsReadyJob (updated v w input) = record {
      well_formed = record { some = omega arith; few = omega arith; requests = omega arith; some_turns = omega arith; few_turns = omega arith };
      typed = record {
        versions = All-cons IsProgram v (w ∷ []) is (All-cons IsProgram w [] are (All-nil IsProgram));
        input = subst (AllByRecursion (λ b. b < 256)) same below;
      };
    } in
    subst (λ (vs : List Program). IsReadyJob (record { versions = vs; after = after; budget = 1000000; input = input })) (sym e)
    (subst (λ (ns : List ℕ). IsReadyJob (record { versions = v ∷ (w ∷ []); after = ns; budget = 1000000; input = input })) (sym f) ready)
