-- Comparisons and arms with null, by which of the two is null.
use Rattle.std.proofs.Common.{◌≡◌, ℕ, true, false, Ok, rules}
use Rattle.kt_names.specs.Checked.{and_then, both}
use Rattle.kt_names.specs.Environment.{Environment}
use Rattle.kt_names.specs.Views.{is_null}
use Rattle.kt_names.specs.Operands.{Operand, value_of_type, null_of, value, scalar, pointer}
use Rattle.kt_names.specs.Rules.{with_null, arm_values}

module _ (env : Environment) (at right : ℕ) (a b : Operand) where
  pub with-both : is_null a ≡ true → is_null b ≡ true → with_null env at right a b ≡ both (scalar env at at a) (scalar env right at b)
  unfolding with_null
  with-both e f = search rules

  pub with-first : is_null a ≡ true → is_null b ≡ false → with_null env at right a b ≡ and_then (pointer env right at b) (λ v. Ok (value_of_type v.ty (null_of env v.ty), v))
  unfolding with_null
  with-first e f = search rules

  pub with-second : is_null a ≡ false → is_null b ≡ true → with_null env at right a b ≡ and_then (pointer env at at a) (λ v. Ok (v, value_of_type v.ty (null_of env v.ty)))
  unfolding with_null
  with-second e f = search rules

  pub with-neither : is_null a ≡ false → is_null b ≡ false → with_null env at right a b ≡ both (value env at at a) (value env right at b)
  unfolding with_null
  with-neither e f = search rules

module _ (env : Environment) (at one other : ℕ) (a b : Operand) where
  pub arms-both : is_null a ≡ true → is_null b ≡ true → arm_values env at one other a b ≡ both (scalar env one at a) (scalar env other at b)
  unfolding arm_values
  arms-both e f = search rules

  pub arms-first : is_null a ≡ true → is_null b ≡ false → arm_values env at one other a b ≡ and_then (pointer env other at b) (λ v. Ok (value_of_type v.ty (null_of env v.ty), v))
  unfolding arm_values
  arms-first e f = search rules

  pub arms-second : is_null a ≡ false → is_null b ≡ true → arm_values env at one other a b ≡ and_then (pointer env one at a) (λ v. Ok (v, value_of_type v.ty (null_of env v.ty)))
  unfolding arm_values
  arms-second e f = search rules

  pub arms-neither : is_null a ≡ false → is_null b ≡ false → arm_values env at one other a b ≡ both (value env one at a) (value env other at b)
  unfolding arm_values
  arms-neither e f = search rules

pub ruleset null_arms = (arms-both, arms-first, arms-second, arms-neither)

pub ruleset nulls = (with-both, with-first, with-second, with-neither)
