-- First faults put together.
use Rattle.std.proofs.Common.{◌≡◌, Bool, true, false, Option, Some, None, refl, sym, ap, ◌∙◌, true≢false}
use Rattle.kt_typing.specs.declared.fault.Fault.{Fault}
use Rattle.kt_typing.specs.Faults.{is_before}
use Rattle.kt_typing.specs.First.{earlier_of, earlier}
use Rattle.kt_typing.proofs.Firsts.{not-before-both, not-before-lesser}
use Rattle.kt_program.specs.Judgments.{Judgment, first_wrong}
use Rattle.kt_program.specs.Statements.{under, absent}

pub earlier-none : (o : Option Fault) → earlier o None ≡ o
earlier-none None = refl
earlier-none (Some f) = refl

earlier-one : (f g h : Fault) → earlier_of f (earlier_of g h) ≡ earlier_of (earlier_of f g) h
earlier-one f g h = by (is_before h g) (is_before g f) (is_before h f) refl refl refl
  where
    by : (a b c : Bool) → is_before h g ≡ a → is_before g f ≡ b → is_before h f ≡ c → earlier_of f (earlier_of g h) ≡ earlier_of (earlier_of f g) h
    by true true true p q r = rw (p, q, r, p) refl
    by true true false p q r = absurd (true≢false (sym p ∙ not-before-lesser f g h r q))
    by true false c p q r = rw (p, q) refl
    by false true c p q r = rw (p, q, p) refl
    by false false true p q r = absurd (true≢false (sym r ∙ not-before-both f g h q p))
    by false false false p q r = rw (p, q, r) refl

pub earlier-assoc : (a b c : Option Fault) → earlier a (earlier b c) ≡ earlier (earlier a b) c
earlier-assoc None b c = refl
earlier-assoc (Some f) None c = refl
earlier-assoc (Some f) (Some g) None = refl
earlier-assoc (Some f) (Some g) (Some h) = ap Some (earlier-one f g h)

-- a condition, and what is judged under it
pub under-first : (broken : Option Fault) (j : Judgment) → first_wrong (under broken j) ≡ earlier broken (first_wrong j)
under-first broken j = ap (earlier broken) (earlier-none (first_wrong j))

pub last-first : (broken : Option Fault) → first_wrong (under broken absent) ≡ broken
last-first broken = under-first broken absent ∙ earlier-none broken

pub two-first : (a b : Option Fault) → first_wrong (under a (under b absent)) ≡ earlier a b
two-first a b = under-first a (under b absent) ∙ ap (earlier a) (last-first b)

pub three-first : (a b c : Option Fault) → first_wrong (under a (under b (under c absent))) ≡ earlier a (earlier b c)
three-first a b c = under-first a (under b (under c absent)) ∙ ap (earlier a) (two-first b c)

pub four-first : (a b c d : Option Fault) → first_wrong (under a (under b (under c (under d absent)))) ≡ earlier a (earlier b (earlier c d))
four-first a b c d = under-first a (under b (under c (under d absent))) ∙ ap (earlier a) (three-first b c d)
