-- States at the entry of `main` name no heap object, and where nothing was given out a state is the same by heap number.
use Rattle.std.specs.Prelude.{◌≡◌, ℕ, zero, suc, ◌-◌, List, [], ◌∷◌, length, replicate, Option, None, Some, slice_get, refl}
use Rattle.std.proofs.Common.{sym, ap, subst, ◌∙◌}
use Rattle.kt_tree.specs.Tree.{Function}
use Rattle.kt_mem.specs.declared.memory.Name.TheVariants.{Glob, Lit, Heap}
use Rattle.kt_mem.specs.declared.memory.Value.{Value}
use Rattle.kt_mem.specs.declared.memory.Value.TheVariants.{Num, Null, Ptr, Free, Held, Undef}
use Rattle.kt_mem.specs.declared.thread.KeptLocal.{KeptLocal}
use Rattle.kt_mem.specs.declared.thread.Mode.{Mode}
use Rattle.kt_code.specs.Code.{Code}
use Rattle.kt_code.specs.Settling.{settle}
use Rattle.kt_code.specs.declared.frame.Frame.{Frame}
use Rattle.kt_code.specs.declared.private.Private.{Private}
use Rattle.kt_mem.specs.Renaming.{rename_value, rename_values, renamed}
use Rattle.kt_exec.specs.Renaming.{IsOld, PrivateIn, ValuesIn, rename_frames, rename_kept}
use Rattle.kt_exec.proofs.Renamed.{settles-among}
use Rattle.kt_pair.specs.Pair.{Pair}
use Rattle.kt_lone.specs.Turn.{main_of}
use Rattle.kt_machine.specs.ByNumber.{private_by}
use Rattle.kt_machine.specs.Engine.{code_entry, entry_at, entry_of}

-- ---- nothing was given out

value-same : (v : Value) → rename_value (renamed []) v ≡ v
value-same (Num z) = refl
value-same Null = refl
value-same (Ptr (Glob i) k) = refl
value-same (Ptr (Lit v i) k) = refl
value-same (Ptr (Heap a) k) = refl
value-same Free = refl
value-same (Held t) = refl
value-same Undef = refl

values-same : (vs : List Value) → rename_values (renamed []) vs ≡ vs
values-same [] = refl
values-same (v ∷ vs) = ap (λ (w : Value). w ∷ rename_values (renamed []) vs) (value-same v) ∙ ap (λ (l : List Value). v ∷ l) (values-same vs)

frames-same : (xs : List Frame) → rename_frames (renamed []) xs ≡ xs
frames-same [] = refl
frames-same (x ∷ xs) =
    ap (λ (vs : List Value). record x { locals = vs } ∷ rename_frames (renamed []) xs) (values-same x.locals)
    ∙ ap (λ (l : List Frame). x ∷ l) (frames-same xs)

kept-same : (ks : List KeptLocal) → rename_kept (renamed []) ks ≡ ks
kept-same [] = refl
kept-same (k ∷ ks) =
    ap (λ (v : Value). record k { value = v } ∷ rename_kept (renamed []) ks) (value-same k.value)
    ∙ ap (λ (l : List KeptLocal). k ∷ l) (kept-same ks)

pub private-same : (x : Private) → private_by [] x ≡ x
private-same x =
    ap (λ (l : List Frame). record (private_by [] x) { frames = l }) (frames-same x.frames)
    ∙ ap (λ (l : List Value). record (private_by [] x) { frames = x.frames; operands = l }) (values-same x.operands)
    ∙ ap (λ (l : List KeptLocal). record x { locals = l }) (kept-same x.locals)

-- ---- the entry

undefined-among : (P : ℕ → Type 0) (n : ℕ) → ValuesIn P (replicate n Undef)
undefined-among P zero = tt
undefined-among P (suc n) = (tt, undefined-among P n)

entry_at-names : (P : ℕ → Type 0) (v : ℕ) (mode : Mode) (g : ℕ) (f : Function) (o : Option ℕ) → PrivateIn P (entry_at v mode g f o)
entry_at-names P v mode g f None = (tt, tt, tt)
entry_at-names P v mode g f (Some at) = ((undefined-among P (length f.locals - 0), tt), tt, tt)

entry_of-names : (P : ℕ → Type 0) (v : ℕ) (mode : Mode) (c : Code) (o : Option (ℕ × Function)) → PrivateIn P (entry_of v mode c o)
entry_of-names P v mode c None = (tt, tt, tt)
entry_of-names P v mode c (Some main) = entry_at-names P v mode main.0 main.1 (slice_get c.entries main.0)

-- the thread settles from the entry without a name
pub entered-names : (v : ℕ) (mode : Mode) (c : Pair) (x : Private) → x ≡ settle c.code (code_entry v mode (Some c)) → PrivateIn (IsOld []) x
entered-names v mode c x e =
    subst (λ (y : Private). PrivateIn (IsOld []) y) (sym e)
    (settles-among [] tt c.code (code_entry v mode (Some c)) (entry_of-names (IsOld []) v mode c.code (main_of c.program)))
