-- The plan that a rule file gives for two versions; its faults; the thing that needs a rule.
use Rattle.std.specs.Prelude.{◌≡◌, ℕ, List, [], ◌++◌, codes, slice_get, Option, None, Some, Result, Ok, Err}
use Rattle.std.specs.Option.{option_map}
use Rattle.kt_types.specs.declared.kinds.FieldDecl.{FieldDecl}
use Rattle.kt_tree.specs.declared.global.GlobalDecl.{GlobalDecl}
use Rattle.kt_tree.specs.Tree.{Function}
use Rattle.kt_tree.specs.Version.{Program}
use Rattle.kt_typing.specs.declared.fault.Fault.{Fault}
use Rattle.kt_typing.specs.Faults.{IsFirst}
use Rattle.xf_plan.specs.Plan.{Plan}
use Rattle.xf_syntax.specs.Tree.{Rule}
use Rattle.xf_rules.specs.Completion.{Goal, FieldGoal, GlobalGoal, LocalGoal, completed}
use Rattle.xf_rules.specs.Files.{file}
use Rattle.xf_rules.specs.Judgments.{made, IsWrong}
use Rattle.xf_rules.specs.Made.{TypedRule, rules_in}
use Rattle.xf_rules.specs.Pairs.{related}
use Rattle.xf_rules.specs.Things.{field_decl, local_decl}

-- the typed rules of a file, where it has no fault
abbrev pub typed_rules : Program → Program → List Rule → Option (List TypedRule)
typed_rules old new rules = option_map rules_in (made (file old new rules))

-- with them the plan, or the first thing that needs a rule
abbrev pub planned : Program → Program → List Rule → Option (Result Plan Goal)
planned old new rules = option_map (completed old new (related old new rules)) (typed_rules old new rules)

-- the plan is the file's
abbrev pub IsPlanOf : Program → Program → List Rule → Plan → Type 0
IsPlanOf old new rules p = planned old new rules ≡ Some (Ok p)

-- the fault is one of the file
abbrev pub IsFaultOf : Program → Program → List Rule → Fault → Type 0
IsFaultOf old new rules f = IsWrong (file old new rules) f

-- a file is refused by its first fault, or where it has none by the first thing that needs a rule
pub data Refusal : Type 0 where
  Faulty : Fault → Refusal
  NeedsRule : Goal → Refusal

abbrev pub IsRefusedBy : Program → Program → List Rule → Refusal → Type 0
IsRefusedBy old new rules (Faulty f) = IsFirst (IsFaultOf old new rules) f
IsRefusedBy old new rules (NeedsRule g) = planned old new rules ≡ Some (Err g)

-- ---- how a new thing is spelled: `g`, `struct s.f` or `f::x`

abbrev pub name_or_none : Option (List ℕ) → List ℕ
name_or_none None = []
name_or_none (Some n) = n

abbrev pub declared_name : Option FieldDecl → List ℕ
declared_name d = name_or_none (option_map (λ (e : FieldDecl). e.name) d)

abbrev pub spelled : Program → Goal → List ℕ
spelled new (FieldGoal r k) = codes "struct " ++ name_or_none (slice_get new.types.structs r) ++ codes "." ++ declared_name (field_decl new r k)
spelled new (GlobalGoal g) = name_or_none (option_map (λ (d : GlobalDecl). d.name) (slice_get new.globals g))
spelled new (LocalGoal f x) =
    name_or_none (option_map (λ (g : Function). g.name) (slice_get new.functions f)) ++ codes "::" ++ declared_name (local_decl new f x)

-- ---- worked rows

abbrev pub IsRefused : Program → Program → List Rule × Refusal → Type 0
IsRefused old new row = IsRefusedBy old new row.0 row.1

abbrev pub IsAccepted : Program → Program → List Rule → Type 0
IsAccepted old new rules = (p : Plan) × IsPlanOf old new rules p

-- the same of rows with both versions

abbrev pub IsRefusedBetween : (Program × Program) × (List Rule × Refusal) → Type 0
IsRefusedBetween row = IsRefusedBy row.0.0 row.0.1 row.1.0 row.1.1

abbrev pub IsAcceptedBetween : (Program × Program) × List Rule → Type 0
IsAcceptedBetween row = IsAccepted row.0.0 row.0.1 row.1
