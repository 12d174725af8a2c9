-- In a version's code each function has an entry, where its instructions stand.
use Rattle.std.proofs.Common.{◌≡◌, ℕ, zero, suc, ◌+◌, List, [], ◌∷◌, length, Some, refl, subst}
use Rattle.std.specs.Prelude.{slice_get}
use Rattle.std.proofs.lemmas.Option.{none-some, same_Some}
use Rattle.kt_types.specs.Table.{Table}
use Rattle.kt_tree.specs.Tree.{Function}
use Rattle.kt_meaning.specs.TreeSteps.{Version}
use Rattle.kt_code.specs.declared.instr.Instr.{Instr}
use Rattle.kt_genexpr.specs.Generates.{HasAt}
use Rattle.kt_genexpr.proofs.Places.{has-front, has-back}
use Rattle.kt_codegen.specs.VersionCode.{function_code, functions_code, entries_from, version_code}
use Rattle.kt_codegen.proofs.Places.{has-itself}
use Rattle.kt_codegen.proofs.Calls.{HasEntries}

-- one of these entries is where the function's instructions stand
record IsEntry (types : Table) (functions : List Function) (instrs : List Instr) (entries : List ℕ) (g : ℕ) (f : Function) : Type 0 where
  at : ℕ
  is : slice_get entries g ≡ Some at
  stands_there : HasAt instrs at (function_code types functions f)

entry-of : (types : Table) (functions : List Function) (instrs : List Instr) (p : ℕ) (fs : List Function) → HasAt instrs p (functions_code types functions fs) →
    (g : ℕ) (f : Function) → slice_get fs g ≡ Some f → IsEntry types functions instrs (entries_from types functions p fs) g f
entry-of types functions instrs p [] h g f e = absurd (none-some f e)
entry-of types functions instrs p (k ∷ fs) h zero f e = record {
  at = p;
  is = refl;
  stands_there = subst (λ i. HasAt instrs p (function_code types functions i)) (same_Some k f e) (has-front instrs p (function_code types functions k) (functions_code types functions fs) h);
}
entry-of types functions instrs p (k ∷ fs) h (suc g) f e =
    let front = function_code types functions k in
    let later = entry-of types functions instrs (p + length front) fs (has-back instrs p front (functions_code types functions fs) h) g f e in
    record { at = later.at; is = later.is; stands_there = later.stands_there }

pub has-entries : (s : Version) → HasEntries s (version_code s.program)
has-entries s g f e =
    let all = functions_code s.program.types s.program.functions s.program.functions in
    let found = entry-of s.program.types s.program.functions all 0 s.program.functions (has-itself all) g f e in
    record { entry_at = found.at; entry_is = found.is; stands_there = found.stands_there }
