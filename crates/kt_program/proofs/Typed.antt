-- A file has a typed program exactly where nothing of it is wrong.
use Rattle.std.proofs.Common.{◌≡◌, List, Option, Some, None, refl}
use Rattle.kt_syntax.specs.Tree.{Tree, External}
use Rattle.kt_tree.specs.Version.{Program}
use Rattle.kt_typing.specs.declared.fault.Fault.{Fault}
use Rattle.kt_typing.specs.Faults.{IsFirst}
use Rattle.kt_program.specs.Files.{file}
use Rattle.kt_program.specs.Judgments.{made}
use Rattle.kt_program.specs.Made.{Made}
use Rattle.kt_program.specs.Programs.{program_of, program_made, IsTyped, IsFaultOf}
use Rattle.kt_program.proofs.Exact.{right, first-there}

some-is : {A : Type 0} (o : Option A) (a b : A) → o ≡ Some a → o ≡ Some b → a ≡ b
some-is (Some x) a b e f = cc
some-is None a b e f = absurd cc

pub one-program : (t : Tree) (p q : Program) → IsTyped t p → IsTyped t q → p ≡ q
one-program t p q a b = some-is (program_made t.externals (made (file t))) p q a b

made-there : (xs : List External) (o : Option Made) (p : Program) → program_made xs o ≡ Some p → (m : Made) × (o ≡ Some m)
made-there xs (Some m) p e = (m, refl)
made-there xs None p e = absurd cc

pub no-fault : (t : Tree) (p : Program) (f : Fault) → IsTyped t p → IsFaultOf t f → ⊥
no-fault t p f is = let (m, so) = made-there t.externals (made (file t)) p is in right (file t) m f so

none-made : (xs : List External) (o : Option Made) → ((p : Program) → program_made xs o ≡ Some p → ⊥) → o ≡ None
none-made xs None h = refl
none-made xs (Some m) h = absurd (h (program_of xs m) refl)

pub some-fault : (t : Tree) → ((p : Program) → IsTyped t p → ⊥) → (f : Fault) × IsFirst (IsFaultOf t) f
some-fault t h = first-there (file t) (none-made t.externals (made (file t)) h)
