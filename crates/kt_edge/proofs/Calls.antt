-- Lemmas on the calls that write some bytes: the first one, where others write what it leaves, or where it is the last.
use Rattle.std.proofs.Common.{◌≡◌, ℕ, ◌-◌, ◌<◌, List, [], ◌∷◌, length, take, drop, Result, Ok, Err, IsErr, subst, suc-ne-zero, arith, length-drop}
use Rattle.std.proofs.lemmas.Bool.{false≢true}
use Rattle.std.proofs.lemmas.List.{take_all}
use Rattle.kt_edge.specs.Calls.{WritesByCalls, done, takes, fails}
use Rattle.kt_edge.specs.declared.ends.Failed.{Failed}

module _ {K : Type 0} (gives : K → List ℕ → Result ℕ Failed → K → Type 0) where
  -- where no byte is left
  pub by_no_call : (sink : K) (bytes : List ℕ) → length bytes ≡ 0 → WritesByCalls gives sink bytes (Ok tt) sink
  by_no_call sink [] none = done sink
  by_no_call sink (byte ∷ bytes) none = absurd (suc-ne-zero (length bytes) none)

  -- where a call took some of them
  pub by_one_more : (sink next last : K) (bytes : List ℕ) (n : ℕ) (result : Result (Unit {0}) Failed) → 0 < length bytes → gives sink bytes (Ok n) next
      → WritesByCalls gives next (take (length bytes - n) (drop n bytes)) result last → WritesByCalls gives sink bytes result last
  by_one_more sink next last bytes n result some given later =
      takes sink next last bytes n result some given (subst (λ left. WritesByCalls gives next left result last) (take_all (length bytes - n) (drop n bytes) (omega (arith, length-drop n bytes))) later)

  -- where a call failed
  pub by_failing : (sink last : K) (bytes : List ℕ) (failed : Failed) (result : Result (Unit {0}) Failed) → IsErr result → 0 < length bytes → gives sink bytes (Err failed) last → WritesByCalls gives sink bytes result last
  by_failing sink last bytes failed (Ok all) none some given = absurd (false≢true none)
  by_failing sink last bytes failed (Err end) none some given = fails sink last bytes end some given
