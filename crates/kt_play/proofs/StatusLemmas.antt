-- The answers of `play`: each is the end of a run, or to a refusal, or to a fault of a run.
use Rattle.std.specs.Prelude.{◌≡◌, ◌⊎◌, refl}
use Rattle.std.proofs.Common.{inl, inr, ap}
use Rattle.kt_lone.specs.declared.mark.End.{End}
use Rattle.kt_lone.specs.declared.mark.End.TheVariants as end
use Rattle.kt_play.specs.declared.refusal.Refusal.{Refusal}
use Rattle.kt_play.specs.declared.refusal.Refusal.TheVariants as refusal
use Rattle.kt_play.specs.declared.report.RunFault.{RunFault}
use Rattle.kt_play.specs.declared.report.RunFault.TheVariants as fault
use Rattle.kt_play.specs.declared.status.Status.{Status}
use Rattle.kt_play.specs.declared.status.Status.TheVariants.{Main, Trap, Budget, Stuck, Words, ReadFault, TooLong, Refused, WriteFault, NoMemory}
use Rattle.kt_play.specs.Status.{status_of, fault_answer, refusal_answer}

abbrev Kind : Type 0
Kind = End ⊎ (Refusal ⊎ RunFault)

abbrev kind : Status → Kind
kind (Main v) = inl (end.Main v)
kind (Trap t cause) = inl (end.Trap t cause)
kind Budget = inl end.Budget
kind Stuck = inl end.Stuck
kind Words = inr (inl refusal.Words)
kind (ReadFault which) = inr (inl (refusal.Read which))
kind (TooLong which) = inr (inl (refusal.Long which))
kind (Refused n cause) = inr (inl (refusal.File n cause))
kind WriteFault = inr (inr fault.Write)
kind NoMemory = inr (inr fault.NoMemory)

kind-status_of : (how : End) → kind (status_of how) ≡ inl how
kind-status_of (end.Main v) = refl
kind-status_of (end.Trap t cause) = refl
kind-status_of end.Budget = refl
kind-status_of end.Stuck = refl

kind-refusal_answer : (why : Refusal) → kind (refusal_answer why) ≡ inr (inl why)
kind-refusal_answer refusal.Words = refl
kind-refusal_answer (refusal.Read which) = refl
kind-refusal_answer (refusal.Long which) = refl
kind-refusal_answer (refusal.File n cause) = refl

kind-fault_answer : (f : RunFault) → kind (fault_answer f) ≡ inr (inr f)
kind-fault_answer fault.Write = refl
kind-fault_answer fault.NoMemory = refl

pub same_end : (a b : End) → status_of a ≡ status_of b → a ≡ b
same_end a b e = let p = kind-status_of a in let q = kind-status_of b in let r = ap kind e in cc

pub same_refusal : (a b : Refusal) → refusal_answer a ≡ refusal_answer b → a ≡ b
same_refusal a b e = let p = kind-refusal_answer a in let q = kind-refusal_answer b in let r = ap kind e in cc

pub same_fault : (a b : RunFault) → fault_answer a ≡ fault_answer b → a ≡ b
same_fault a b e = let p = kind-fault_answer a in let q = kind-fault_answer b in let r = ap kind e in cc

pub end_or_refusal : (how : End) (why : Refusal) → status_of how ≡ refusal_answer why → ⊥
end_or_refusal how why e = let p = kind-status_of how in let q = kind-refusal_answer why in let r = ap kind e in cc

pub end_or_fault : (how : End) (f : RunFault) → status_of how ≡ fault_answer f → ⊥
end_or_fault how f e = let p = kind-status_of how in let q = kind-fault_answer f in let r = ap kind e in cc

pub refusal_or_fault : (why : Refusal) (f : RunFault) → refusal_answer why ≡ fault_answer f → ⊥
refusal_or_fault why f e = let p = kind-refusal_answer why in let q = kind-fault_answer f in let r = ap kind e in cc
