-- The calls of a sink that write some bytes.
use Rattle.std.specs.Prelude.{ℕ, ◌<◌, List, [], Result, Ok, Err, length, drop}

-- calls, related by what a call gives, write these bytes: each is given all bytes that are left, at least one, and one that fails is the last
pub data WritesByCalls {K E : Type 0} (gives : K → List ℕ → Result ℕ E → K → Type 0) : K → List ℕ → Result (Unit {0}) E → K → Type 0 where
  done : (sink : K) → WritesByCalls gives sink [] (Ok tt) sink
  takes : (sink next last : K) (bytes : List ℕ) (n : ℕ) (result : Result (Unit {0}) E) → 0 < length bytes → gives sink bytes (Ok n) next → WritesByCalls gives next (drop n bytes) result last → WritesByCalls gives sink bytes result last
  fails : (sink last : K) (bytes : List ℕ) (e : E) → 0 < length bytes → gives sink bytes (Err e) last → WritesByCalls gives sink bytes (Err e) last
