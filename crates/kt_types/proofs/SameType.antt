-- The comparison of types decides whether they are equal.
use Rattle.std.proofs.Common.{◌≡◌, true, rules}
use Rattle.kt_types.specs.declared.kinds.Ty.{Ty}
use Rattle.kt_types.specs.contracts.kinds.TyPartialEq.TheImpl.{eq-value}

pub same-type : (a b : Ty) → eq-value.it a b ≡ true → a ≡ b
same-type a b h = search rules

pub type-same : (a b : Ty) → a ≡ b → eq-value.it a b ≡ true
type-same a b h = search rules
