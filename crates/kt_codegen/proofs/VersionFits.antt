-- The states at which threads of a version begin fit its code: they do the acts of threads that stay typed.
use Rattle.std.proofs.Common.{◌≡◌, ℕ, zero, suc, Some, refl, sym, ◌∙◌, subst, IsTrue}
use Rattle.std.proofs.lemmas.Option.{same_Some}
use Rattle.kt_mem.specs.declared.steps.Act.{Act}
use Rattle.kt_mem.specs.declared.steps.Reply.{Reply}
use Rattle.kt_mem.specs.declared.steps.Reply.TheVariants.{Done, Got, Trapped}
use Rattle.kt_tree.specs.Tree.{Function}
use Rattle.kt_tree.specs.Version.{IsProgram}
use Rattle.kt_meaning.specs.Steps.{Step, Acts, Traps, Ends, IsHead, Comes}
use Rattle.kt_meaning.specs.Thread.{Thread, entry}
use Rattle.kt_meaning.specs.ThreadTypes.{IsThread}
use Rattle.kt_meaning.specs.TreeSteps.{Version, function_at, step as tree_step}
use Rattle.kt_meaning.proofs.StepTypes.{Keeps}
use Rattle.kt_meaning.proofs.WorkTypes.{entry-IsThread, step-Keeps}
use Rattle.kt_code.specs.Agreement.{IsAnswer, SameHead, OnAnswers, Agree}
use Rattle.kt_code.specs.Code.{Code}
use Rattle.kt_code.specs.Looks.{tree_threads, code_threads}
use Rattle.kt_code.specs.Machine.{step as code_step}
use Rattle.kt_code.specs.Settling.{HasJumps, settle, is_last, FitsHead, FitsFor}
use Rattle.kt_code.specs.declared.private.Private.{Private}
use Rattle.kt_code.proofs.CodeSettling.{settle-settles}
use Rattle.kt_code.proofs.Fitting.{fits_for-head}
use Rattle.kt_pair.specs.VersionActs.{entry_state, IsLastResult, FitsEntries}
use Rattle.kt_codegen.specs.VersionCode.{version_code}
use Rattle.kt_codegen.specs.StatementActs.{StatementsDo}
use Rattle.kt_codegen.proofs.Calls.{entry-agrees}
use Rattle.kt_codegen.proofs.Entries.{has-entries}
use Rattle.kt_codegen.proofs.VersionJumps.{version-jumps}
use Rattle.kt_codegen.proofs.Bottoms.{StandOn, StaysOn, step-stays}

same-head-is : {X Y : Type 0} (a : Step X) (b : Step Y) → SameHead a b → IsHead b
same-head-is (Acts a f) (Acts b g) h = tt
same-head-is (Traps t) (Traps u) h = tt
same-head-is (Ends a) (Ends b) h = tt
same-head-is a b h = absurd h

module _ (s : Version) (c : Code) (program : IsProgram s.program) (jumps : HasJumps c.instrs) (b : ℕ) (k : Function) (bottom_is : function_at s b ≡ Some k) (last : IsLastResult k.result) where
  -- a thread of the version that stands on this function
  record IsGood (t : Thread) : Type 0 where
    thread : IsThread s.program t
    stands : StandOn b t.frames

  comes-good : (n : ℕ) (t u : Thread) → IsGood t → Comes (tree_step s) n t u → IsGood u
  comes-good zero t u h e = subst IsGood e h
  comes-good (suc n) t u h e =
      comes-good n (e.0) u (record {
        thread = subst (Keeps s.program) (e.1) (step-Keeps s program t h.thread);
        stands = subst (StaysOn b) (e.1) (step-stays s program b k bottom_is last t h.thread h.stands);
      }) (e.2)

  answer-good : (a : Act) (go : Reply → Thread) (r : Reply) → Keeps s.program (Acts a go) → StaysOn b (Acts a go) → IsAnswer a r → IsGood (go r)
  answer-good a go Done h stays is = record { thread = h.1 Done (is.1); stands = stays Done }
  answer-good a go (Got v) h stays is = record { thread = h.1 (Got v) (is.1); stands = stays (Got v) }
  answer-good a go (Trapped t) h stays is = absurd is

  head-fits : (n : ℕ) (x : Step Thread) (y : Step Private) → SameHead x y → OnAnswers (Agree (tree_threads s) (code_threads c) n) x y → Keeps s.program x → StaysOn b x →
      ((t : Thread) (p : Private) → Agree (tree_threads s) (code_threads c) n t p → IsGood t → FitsFor c n p) → FitsHead (FitsFor c n) y
  head-fits n (Acts a f) (Acts a' g) e on keeps stays later =
      λ r is. let answer = subst (λ i. IsAnswer i r) (sym e) is in later (f r) (g r) (on r answer) (answer-good a f r keeps stays answer)
  head-fits n (Traps t) (Traps u) e on keeps stays later = tt
  head-fits n (Ends a) (Ends a') e on keeps stays later = subst (λ i. IsTrue (is_last i)) e stays
  head-fits n x y e on keeps stays later = absurd e

  fits-for : (n : ℕ) (t : Thread) (p : Private) → Agree (tree_threads s) (code_threads c) n t p → IsGood t → FitsFor c n p
  fits-for zero t p h good = tt
  fits-for (suc n) t p h good =
      let there = comes-good h.left_count t h.left good h.left_comes in
      let same : h.right ≡ settle c p = (settle-settles c jumps p).only h.right_count h.right h.right_comes (same-head-is (tree_step s h.left) (code_step c h.right) h.head) in
      fits_for-head c jumps n p (subst (λ q. FitsHead (FitsFor c n) (code_step c q)) same
      (head-fits n (tree_step s h.left) (code_step c h.right) h.head h.onward (step-Keeps s program h.left there.thread)
      (step-stays s program b k bottom_is last h.left there.thread there.stands) (fits-for n)))

pub version-fits : (s : Version) → IsProgram s.program → StatementsDo s (version_code s.program) → FitsEntries s (version_code s.program)
version-fits s program statements g at f arguments r is entry_is last are restart n =
    let c = version_code s.program in
    let there = has-entries s g f is in
    let same : there.entry_at ≡ at = same_Some there.entry_at at (sym there.entry_is ∙ entry_is) in
    let agrees = entry-agrees s c program statements (has-entries s) g f is arguments r n in
    fits-for s c program (version-jumps s.program) g f is last n (entry g f arguments r) (entry_state s.number at g f arguments r)
    (subst (λ i. Agree (tree_threads s) (code_threads c) n (entry g f arguments r) (entry_state s.number i g f arguments r)) same agrees)
    (record { thread = entry-IsThread s.program program g f arguments r is are restart; stands = refl })
