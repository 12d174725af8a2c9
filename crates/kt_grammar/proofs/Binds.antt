-- Steps of reading one behind the other.
use Rattle.std.proofs.Common.{◌≡◌, Result, Ok, Err, refl}
use Rattle.kt_grammar.specs.declared.fault.Fault.{Fault}
use Rattle.kt_grammar.specs.declared.fault.Fault.TheVariants.{Syntax, TooDeep, NoMemory}
use Rattle.kt_grammar.specs.Cursor.{◌>>=◌, Fails}

pub bind_assoc : {A B C : Type 0} (m : Result A Fault) (f : A → Result B Fault) (h : B → Result C Fault) → ((m >>= f) >>= h) ≡ (m >>= λ x. f x >>= h)
bind_assoc (Ok x) f h = refl
bind_assoc (Err e) f h = refl

-- a step that fails makes the whole fail
pub fails_bind : {A B : Type 0} (e : Fault) (m : Result A Fault) (f : A → Result B Fault) → Fails e m → Fails e (m >>= f)
fails_bind NoMemory m f h = tt
fails_bind (Syntax n) m f h = rw h refl
fails_bind (TooDeep n) m f h = rw h refl

pub fails_err : (A B : Type 0) (e fault : Fault) → Fails {Y = A} e (Err fault) → Fails {Y = B} e (Err fault)
fails_err A B NoMemory fault h = tt
fails_err A B (Syntax n) fault h = let same : fault ≡ Syntax n = cc in rw same refl
fails_err A B (TooDeep n) fault h = let same : fault ≡ TooDeep n = cc in rw same refl
