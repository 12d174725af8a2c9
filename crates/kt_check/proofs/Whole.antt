-- The typing of a whole file, behind that of its declarations.
use Rattle.std.proofs.Common.{◌≡◌, ◌⊎◌, Bool, true, false, Result, Ok, Err, IfOk, IfErr, refl, sym, ap, ◌∙◌, if◌then◌else◌}
use Rattle.kt_syntax.specs.Tree.{Tree}
use Rattle.kt_names.specs.declared.fault.CheckFault.{CheckFault}
use Rattle.kt_names.specs.declared.fault.CheckFault.TheVariants.{NoMain, NoMemory}
use Rattle.kt_names.specs.Checked.{Checked, and_then, fault, first}
use Rattle.kt_names.specs.Judges.{Judges}
use Rattle.kt_check.specs.Files.{Sofar, frame_of, externals, nothing_yet, has_main, program_of, typed_file}
use Rattle.kt_check.specs.Stages.{typed_from}
use Rattle.kt_check.proofs.Right.{follows-twice}

if-then : {A B : Type 0} (b : Bool) (x : A) (g : CheckFault) (m : A → Checked B) → and_then (if b then Ok x else fault g) m ≡ (if b then m x else fault g)
if-then true x g m = refl
if-then false x g m = refl

pub typed-is : (t : Tree) → typed_file t ≡ and_then (typed_from (frame_of t.externals) t.length) (λ s. Ok (program_of (frame_of t.externals) s))
typed-is t =
    let f = frame_of t.externals in
    let declared = externals f nothing_yet t.externals in
    let main = λ (s : Sofar). if has_main f s.routines then Ok s else fault (NoMain t.length) in
    let whole = λ (s : Sofar). Ok (program_of f s) in
    sym (follows-twice declared main whole ∙ (λ i. and_then declared (λ s. if-then (has_main f s.routines) s (NoMain t.length) whole i)))

pub judges-version : {A : Type 0} (r : Result A CheckFault) (s : Checked A) → Judges (λ v. v) r s → IfOk r (λ v. first s ≡ Ok v)
judges-version (Ok x) s h = ap first h
judges-version (Err f) s h = tt

pub judges-fault : {A : Type 0} (r : Result A CheckFault) (s : Checked A) → Judges (λ v. v) r s → IfErr r (λ f. (f ≡ NoMemory) ⊎ (first s ≡ Err f))
judges-fault (Ok x) s h = tt
judges-fault (Err f) s h = h
