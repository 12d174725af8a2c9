-- The first of a set of faults: there is none or one, and of two sets together it is the earlier of both.
use Rattle.std.proofs.Common.{if◌then◌else◌, ◌≡◌, ◌==◌, nat_lt, ◌&&◌, ◌||◌, ℕ, Bool, true, false, refl, sym, ap, ◌∙◌, arith}
use Rattle.std.proofs.lemmas.Bool.Decides.{nat_tests}
use Rattle.kt_typing.specs.declared.fault.Fault.{Fault}
use Rattle.kt_typing.specs.declared.fault.Kind.{Kind}
use Rattle.kt_typing.specs.declared.fault.Kind.TheVariants as kind
use Rattle.kt_typing.specs.Faults.{rank, is_before, IsFirst}

abbrev before : ℕ → ℕ → ℕ → ℕ → Bool
before p r q s = nat_lt p q || ((p == q) && nat_lt r s)

irreflexive : (p r : ℕ) → before p r p r ≡ false
irreflexive p r = grind (arith, nat_tests)

apart : (p r q s t u : ℕ) → before q s p r ≡ false → before t u q s ≡ false → before t u p r ≡ false
apart p r q s t u a b = grind (arith, nat_tests)

behind : (p r q s t u : ℕ) → before t u p r ≡ false → before q s p r ≡ true → before t u q s ≡ false
behind p r q s t u a b = grind (arith, nat_tests)

one-place : (p r q s : ℕ) → before p r q s ≡ false → before q s p r ≡ false → p ≡ q
one-place p r q s a b = grind (arith, nat_tests)

one-rank : (p r q s : ℕ) → before p r q s ≡ false → before q s p r ≡ false → r ≡ s
one-rank p r q s a b = grind (arith, nat_tests)

pub not-before-itself : (f : Fault) → is_before f f ≡ false
not-before-itself f = irreflexive f.at (rank f.kind)

pub not-before-both : (f g h : Fault) → is_before g f ≡ false → is_before h g ≡ false → is_before h f ≡ false
not-before-both f g h a b = apart f.at (rank f.kind) g.at (rank g.kind) h.at (rank h.kind) a b

pub not-before-lesser : (f g h : Fault) → is_before h f ≡ false → is_before g f ≡ true → is_before h g ≡ false
not-before-lesser f g h a b = behind f.at (rank f.kind) g.at (rank g.kind) h.at (rank h.kind) a b

-- ---- one first fault

abbrev number : ℕ → ℕ → Kind → Kind → Kind
number n m a b = if n == m then a else b

-- the kind of a rank
abbrev kind_of : ℕ → Kind
kind_of n = number n 0 kind.Unknown (number n 1 kind.Twice (number n 2 kind.BadType (number n 3 kind.WritesIn (number n 4 kind.Incomplete (number n 5 kind.TooBig (number n 6 kind.Entry (number n 7 kind.Note (kind.NoMain))))))))

kind-of-rank : (k : Kind) → kind_of (rank k) ≡ k
kind-of-rank kind.Unknown = refl
kind-of-rank kind.Twice = refl
kind-of-rank kind.BadType = refl
kind-of-rank kind.WritesIn = refl
kind-of-rank kind.Incomplete = refl
kind-of-rank kind.TooBig = refl
kind-of-rank kind.Entry = refl
kind-of-rank kind.Note = refl
kind-of-rank kind.NoMain = refl

same-kind : (j k : Kind) → rank j ≡ rank k → j ≡ k
same-kind j k e = sym (kind-of-rank j) ∙ (ap kind_of e ∙ kind-of-rank k)

-- there is one first fault at most
pub one-first : (P : Fault → Type 0) (f g : Fault) → IsFirst P f → IsFirst P g → f ≡ g
one-first P f g p q =
    let ahead = p.first g q.among in
    let behind' = q.first f p.among in
    let at = one-place f.at (rank f.kind) g.at (rank g.kind) behind' ahead in
    let kinds = same-kind f.kind g.kind (one-rank f.at (rank f.kind) g.at (rank g.kind) behind' ahead) in
    λ i. record { at = at i; kind = kinds i }
