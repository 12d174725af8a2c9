-- A rule file gives one plan, or one thing refuses it.
use Rattle.std.proofs.Common.{◌≡◌, List, Option, Some, None, Result, Ok, Err, refl, ap}
use Rattle.std.specs.Option.{option_map}
use Rattle.kt_tree.specs.Version.{Program}
use Rattle.kt_typing.specs.declared.fault.Fault.{Fault}
use Rattle.kt_typing.proofs.Firsts.{one-first}
use Rattle.xf_plan.specs.Plan.{Plan}
use Rattle.xf_syntax.specs.Tree.{Rule}
use Rattle.xf_rules.specs.Completion.{Goal, completed}
use Rattle.xf_rules.specs.Files.{file}
use Rattle.xf_rules.specs.Judgments.{made}
use Rattle.xf_rules.specs.Made.{Made, rules_in}
use Rattle.xf_rules.specs.Pairs.{related}
use Rattle.xf_rules.specs.Plans.{planned, IsPlanOf, IsFaultOf, Refusal, Faulty, NeedsRule, IsRefusedBy}
use Rattle.xf_rules.proofs.Exact.{right, first-there}

module _ (old new : Program) (rules : List Rule) where
  -- what comes of what is made
  abbrev planned-by : Option Made → Option (Result Plan Goal)
  planned-by o = option_map (completed old new (related old new rules)) (option_map rules_in o)

  made-there : (o : Option Made) (r : Result Plan Goal) → planned-by o ≡ Some r → (m : Made) × (o ≡ Some m)
  made-there (Some m) r e = (m, refl)
  made-there None r e = absurd cc

  made-none : (o : Option Made) → planned-by o ≡ None → o ≡ None
  made-none (Some m) e = absurd cc
  made-none None e = refl

  no-fault : (r : Result Plan Goal) (f : Fault) → planned old new rules ≡ Some r → IsFaultOf old new rules f → ⊥
  no-fault r f e w = let (m, is) = made-there (made (file old new rules)) r e in right (file old new rules) m f is w

some-one : {A : Type 0} (o : Option A) (x y : A) → o ≡ Some x → o ≡ Some y → x ≡ y
some-one (Some z) x y a b = cc
some-one None x y a b = absurd cc

abbrev gives : Plan → Result Plan Goal
gives p = Ok p

abbrev needs : Goal → Result Plan Goal
needs g = Err g

ok-one : (p q : Plan) → gives p ≡ gives q → p ≡ q
ok-one p q e = cc

err-one : (g h : Goal) → needs g ≡ needs h → g ≡ h
err-one g h e = cc

not-both : (p : Plan) (g : Goal) → gives p ≡ needs g → ⊥
not-both p g e = absurd cc

pub one-plan : (old new : Program) (rules : List Rule) (p q : Plan) → IsPlanOf old new rules p → IsPlanOf old new rules q → p ≡ q
one-plan old new rules p q a b = ok-one p q (some-one (planned old new rules) (Ok p) (Ok q) a b)

pub faultless : (old new : Program) (rules : List Rule) (p : Plan) (f : Fault) → IsPlanOf old new rules p → IsFaultOf old new rules f → ⊥
faultless old new rules p f a w = no-fault old new rules (Ok p) f a w

pub unrefused : (old new : Program) (rules : List Rule) (p : Plan) (r : Refusal) → IsPlanOf old new rules p → IsRefusedBy old new rules r → ⊥
unrefused old new rules p (Faulty f) a w = no-fault old new rules (Ok p) f a w.among
unrefused old new rules p (NeedsRule g) a b = not-both p g (some-one (planned old new rules) (Ok p) (Err g) a b)

pub refused : (old new : Program) (rules : List Rule) → ((p : Plan) → IsPlanOf old new rules p → ⊥) → (r : Refusal) × IsRefusedBy old new rules r
refused old new rules h = by (planned old new rules) refl
  where
    by : (o : Option (Result Plan Goal)) → planned old new rules ≡ o → (r : Refusal) × IsRefusedBy old new rules r
    by (Some (Ok p)) e = absurd (h p e)
    by (Some (Err g)) e = (NeedsRule g, e)
    by None e = let (f, is) = first-there (file old new rules) (made-none old new rules (made (file old new rules)) e) in (Faulty f, is)

pub one-refusal : (old new : Program) (rules : List Rule) (r s : Refusal) → IsRefusedBy old new rules r → IsRefusedBy old new rules s → r ≡ s
one-refusal old new rules (Faulty f) (Faulty g) a b = ap Faulty (one-first (IsFaultOf old new rules) f g a b)
one-refusal old new rules (NeedsRule g) (NeedsRule h) a b = ap NeedsRule (err-one g h (some-one (planned old new rules) (Err g) (Err h) a b))
one-refusal old new rules (Faulty f) (NeedsRule g) a b = absurd (no-fault old new rules (Err g) f b a.among)
one-refusal old new rules (NeedsRule g) (Faulty f) a b = absurd (no-fault old new rules (Err g) f a b.among)
