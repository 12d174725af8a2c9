-- Steps to fields, as the code counts them. No public clause cites this module.
use Rattle.std.specs.Prelude.{◌≡◌, ◌⊎◌, ◌≤◌, ℕ}

-- a step of k cells leads where one of n cells does: it is the same, or both lead past every offset, which are at most 65,536
abbrev pub LeadsAsFar : ℕ → ℕ → Type 0
LeadsAsFar n k = (k ≡ n) ⊎ ((65537 ≤ n) × (65537 ≤ k))
