-- The laws of threads of a version: what they come to is typed, and each reply of its kind leaves a thread of the version.
use Rattle.kt_mem.specs.declared.steps.Reply.{Reply}
use Rattle.kt_mem.specs.declared.steps.Reply.TheVariants.{Done, Got, Trapped}
use Rattle.kt_tree.specs.Version.{Program, IsProgram}
use Rattle.kt_meaning.specs.Steps.{Step, Quiet, Acts, Traps, Ends, after_reply as after_reply_to}
use Rattle.kt_meaning.specs.Laws.{IsTypedStep, IsReplyTo, after_reply}
use Rattle.kt_meaning.specs.Thread.{Thread}
use Rattle.kt_meaning.specs.ThreadTypes.{IsThread}
use Rattle.kt_meaning.proofs.StepTypes.{Keeps}
use Rattle.kt_meaning.specs.TreeSteps.{Version, step}
use Rattle.kt_meaning.specs.Weights.{settle}
use Rattle.kt_meaning.proofs.WorkTypes.{step-Keeps, settle-IsThread}

keeps-typed : (p : Program) (a : Step Thread) → Keeps p a → IsTypedStep p a
keeps-typed p (Quiet t) h = tt
keeps-typed p (Acts a go) h = h.0
keeps-typed p (Traps t) h = tt
keeps-typed p (Ends a) h = tt

answered-IsThread : (p : Program) (t : Thread) (a : Step Thread) (r : Reply) → IsThread p t → Keeps p a → IsReplyTo a r → IsThread p (after_reply_to t a r)
answered-IsThread p t (Quiet u) r i h k = absurd k
answered-IsThread p t (Acts a go) Done i h k = h.1 Done (k.1)
answered-IsThread p t (Acts a go) (Got v) i h k = h.1 (Got v) (k.1)
answered-IsThread p t (Acts a go) (Trapped e) i h k = i
answered-IsThread p t (Traps e) r i h k = absurd k
answered-IsThread p t (Ends a) r i h k = absurd k

-- what a thread of a version comes to stores and hands on values of their types
pub settled-IsTyped : (s : Version) → IsProgram s.program → (t : Thread) → IsThread s.program t → IsTypedStep s.program (step s (settle s t))
settled-IsTyped s h t i = keeps-typed s.program (step s (settle s t)) (step-Keeps s h (settle s t) (settle-IsThread s h t i))

-- each reply of the act's kind gives a thread of the version again
pub reply-IsThread : (s : Version) → IsProgram s.program → (t : Thread) (r : Reply) → IsThread s.program t → IsReplyTo (step s (settle s t)) r →
    IsThread s.program (after_reply s (settle s t) r)
reply-IsThread s h t r i k =
    let settled = settle-IsThread s h t i in
    answered-IsThread s.program (settle s t) (step s (settle s t)) r settled (step-Keeps s h (settle s t) settled) k
