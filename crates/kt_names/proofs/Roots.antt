-- Roots of types that are alike.
use Rattle.std.proofs.Common.{◌≡◌, true, ap, refl, rules}
use Rattle.std.proofs.lemmas.Bool.Decides.{Decides-eqb}
use Rattle.kt_names.specs.declared.ctype.Root.{Root}
use Rattle.kt_names.specs.declared.ctype.Root.TheVariants as root
use Rattle.kt_names.specs.Types.{same_root}

pub same-root : (a b : Root) → same_root a b ≡ true → a ≡ b
same-root root.Char root.Char e = refl
same-root root.Int root.Int e = refl
same-root root.Long root.Long e = refl
same-root root.Mutex root.Mutex e = refl
same-root (root.Struct s) (root.Struct r) e = ap root.Struct ((Decides-eqb s r).0 e)
same-root _ _ e = search rules
