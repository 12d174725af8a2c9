-- Acts and bodies that are not read break off where the fault tells.
use Rattle.std.proofs.Common.{◌≡◌, ℕ, zero, suc, ◌+◌, ◌≤◌, ◌<◌, ◌⊎◌, inl, inr, Bool, true, false, not, ◌||◌, List, [], ◌∷◌, length, Option, Some, None, Err, refl, sym, subst, arith}
use Rattle.kt_grammar.specs.declared.fault.Fault.{Fault}
use Rattle.kt_grammar.specs.declared.keyword.Keyword.TheVariants as keywords
use Rattle.kt_grammar.specs.declared.operator.Dialect.TheVariants.{Rules}
use Rattle.kt_grammar.specs.declared.sign.Sign.{Sign}
use Rattle.kt_grammar.specs.declared.sign.Sign.TheVariants as signs
use Rattle.kt_grammar.specs.declared.symbol.Symbol.{Symbol}
use Rattle.kt_grammar.specs.declared.symbol.Symbol.TheVariants as symbol
use Rattle.kt_grammar.specs.Tree.{Term}
use Rattle.kt_grammar.specs.Signs.{same_sign}
use Rattle.kt_grammar.specs.Marks.{Mark, token, sign, keyword, ◌·◌}
use Rattle.kt_grammar.specs.Spelling.{spells}
use Rattle.kt_grammar.specs.Cursor.{begins_sign, behind}
use Rattle.kt_grammar.specs.Reading.{begins_expr, expr_at}
use Rattle.kt_grammar.specs.Laws.{Stands, ExprStands, FaultStands, ExprFaultStands, ExprGoesOn}
use Rattle.kt_grammar.specs.Lists.{any}
use Rattle.kt_grammar.specs.Conditions.{condition, deep_expr_at, condition_at, behind_else}
use Rattle.kt_grammar.specs.StandsLaws.{chosen, same_sign_is, stands_as, sign_stands, keyword_stands, behind_stands}
use Rattle.kt_grammar.specs.FaultLaws.{no_fault, bind_err, unexpected_stands, fault_as, fault_before, fault_behind, behind_fault}
use Rattle.kt_grammar.proofs.ListStands.{not_true, picked}
use Rattle.kt_grammar.proofs.FaultSteps.{Blank, blank_joined, blank_as, sign_blank, rejoined, ReadFaults, any_stands, last_fault, parts_fault, GoesOn, refused_fault, until_at_fault}
use Rattle.kt_grammar.proofs.Conditions.{expr_reads, deep_expr_reads, condition_reads, behind_else_stands, before_else, goes_on_as, goes_on_with, keyword_goes, sign_goes, sign_at_front, expr_begins, expr_blank, condition_blank, expr_breaks, deep_expr_breaks, condition_breaks}
use Rattle.xf_syntax.specs.Tree.{Action, Compound, Empty, Assigned, Conditional, Alternative, Nothing, More, actions_of}
use Rattle.xf_syntax.specs.Spelling.{ends_open, action, actions, code}
use Rattle.xf_syntax.specs.Reading.{begins_if, begins_act, Blocks, part_at, block_at, else_at, if_behind, assigned_at, compound_behind, signed_at, act_at, acts_at, blocks, sign_at, code_at}
use Rattle.xf_syntax.proofs.ActStands.{ActStands, AreSound, part_reads, block_reads, actions_are, within, act_reads, blocks_sound, sign_at_stands}

-- what these do not read breaks off where the fault tells, below an act at a depth
pub record Breaks (limit d : ℕ) (b : Blocks) : Type 0 where
  pub act_breaks : ReadFaults limit (any (action (suc d))) b.act
  pub acts_break : ReadFaults limit (any (actions (suc d))) b.acts

-- none are there only at the limit
abbrev pub AreBreaking : ℕ → ℕ → Option Blocks → Type 0
AreBreaking limit d None = limit < suc d
AreBreaking limit d (Some b) = Breaks limit d b

-- ---- acts of their parts

module _ (d : ℕ) where
  assigned_of : (marks : List Mark) → (any (spells Rules d) · sign d signs.Assign · any (spells Rules (suc d)) · sign d signs.Semicolon) marks → any (action d) marks
  assigned_of m j =
      let k = j.second.second in
      (Assigned j.first.0 k.first.0, rejoined j j.first.1 (rejoined j.second j.second.first (rejoined k k.first.1 k.second)))

  conditional_of : (marks : List Mark) → (keyword d keywords.If · any (condition Rules d) · any (action (suc d))) marks → any (action d) marks
  conditional_of m j = (Conditional j.second.first.0 j.second.second.0, rejoined j j.first (rejoined j.second j.second.first.1 j.second.second.1))

  alternative_of : (c : Term) (s : Action) → not (ends_open s) ≡ true → (marks : List Mark)
      → (keyword d keywords.If · condition Rules d c · action (suc d) s · keyword d keywords.Else · any (action (suc d))) marks → any (action d) marks
  alternative_of c s closed m j = (
    Alternative c s j.second.second.second.second.0,
    (
      closed,
      rejoined j j.first (rejoined j.second j.second.first (rejoined j.second.second j.second.second.first
          (rejoined j.second.second.second j.second.second.second.first j.second.second.second.second.1))),
    ),
  )

  compound_of : (marks : List Mark) → (sign d signs.OpenBrace · any (actions (suc d)) · sign d signs.CloseBrace) marks → any (action d) marks
  compound_of m j = (Compound j.second.first.0, rejoined j j.first (rejoined j.second j.second.first.1 j.second.second))

  act_blank : Blank (any (action d))
  act_blank = blank_as (λ m s. (Empty, s)) (sign_blank d signs.Semicolon)

  actions_blank : Blank (any (actions d))
  actions_blank = ([], (Nothing, refl))

-- ---- what acts begin with

either_true : (a b : Bool) → (a || b) ≡ true → (a ≡ true) ⊎ (b ≡ true)
either_true true b e = inl refl
either_true false b e = inr e

if_begins : (d : ℕ) (s : Symbol) (rest : List Symbol) → begins_if (s ∷ rest) ≡ true → GoesOn d (any (action d)) s
unfolding begins_if
if_begins d (symbol.Keyword at keywords.If) rest e = goes_on_as (conditional_of d) (goes_on_with (keyword_goes d at keywords.If) (blank_joined (condition_blank Rules d) (act_blank (suc d))))
if_begins d _ rest e = not_true e

-- a symbol that an act may begin with begins one
act_begins : ExprGoesOn → (d : ℕ) (s : Symbol) (rest : List Symbol) → begins_act (s ∷ rest) ≡ true → GoesOn d (any (action d)) s
act_begins goes_on d s rest e =
    let symbols = s ∷ rest in
    let brace = begins_sign signs.OpenBrace symbols in
    let semicolon = begins_sign signs.Semicolon symbols in
    let worded = begins_if symbols in
    elim (either_true ((brace || semicolon) || worded) (begins_expr Rules symbols) e) [
      | inr x ↦ goes_on_as (assigned_of d)
          (goes_on_with (expr_begins goes_on Rules d s rest x) (blank_joined (sign_blank d signs.Assign) (blank_joined (expr_blank Rules (suc d)) (sign_blank d signs.Semicolon))))
      | inl x ↦ elim (either_true (brace || semicolon) worded x) [
        | inr x ↦ if_begins d s rest x
        | inl x ↦ elim (either_true brace semicolon x) [
          | inl x ↦
              let is = sign_at_front signs.OpenBrace s rest x in
              subst (GoesOn d (any (action d))) (sym is.1)
              (goes_on_as (compound_of d) (goes_on_with (sign_goes d is.0 signs.OpenBrace) (blank_joined (actions_blank (suc d)) (sign_blank d signs.CloseBrace))))
          | inr x ↦
              let is = sign_at_front signs.Semicolon s rest x in
              subst (GoesOn d (any (action d))) (sym is.1) (goes_on_as (λ m y. (Empty, y)) (sign_goes d is.0 signs.Semicolon))
        ]
      ]
    ]

no_act : begins_act [] ≡ false
unfolding begins_sign begins_if begins_expr
no_act = refl

-- ---- signs at places

-- a sign at some place
abbrev some_sign : Sign → List Mark → Type 0
some_sign s = any (λ at. token 0 (symbol.Sign at s))

code_of : (marks : List Mark) → (some_sign signs.OpenBrace · any (actions 1) · some_sign signs.CloseBrace) marks → any code marks
code_of m j =
    (record { first = j.first.0; last = j.second.second.0; actions = j.second.first.0 }, rejoined j j.first.1 (rejoined j.second j.second.first.1 j.second.second.1))

some_sign_blank : (s : Sign) → Blank (some_sign s)
some_sign_blank s = (record { symbol = symbol.Sign 0 s; depth = 0 } ∷ [], (0, refl))

sign_at_fault : (limit : ℕ) (s : Sign) → ReadFaults limit (some_sign s) (sign_at s)
unfolding sign_at
sign_at_fault limit s (symbol.Sign at t ∷ rest) fault e = elim (chosen (same_sign t s) _ _ (Err fault) e) [
  | inl c ↦ no_fault _ fault c.1
  | inr c ↦ unexpected_stands limit (some_sign s) (some_sign_blank s).0 (symbol.Sign at t ∷ rest) fault (some_sign_blank s).1 c.1
]
sign_at_fault limit s symbols fault e = unexpected_stands limit (some_sign s) (some_sign_blank s).0 symbols fault (some_sign_blank s).1 e

pub code_blank : Blank (any code)
code_blank = blank_as code_of (blank_joined (some_sign_blank signs.OpenBrace) (blank_joined (actions_blank 1) (some_sign_blank signs.CloseBrace)))

module _ (law : ExprStands) (faults : ExprFaultStands) (goes_on : ExprGoesOn) where
  -- ---- parts

  part_breaks : (limit d : ℕ) (b : Option Blocks) → AreBreaking limit d b → ReadFaults limit (any (action (suc d))) (part_at b)
  unfolding part_at
  part_breaks limit d None deep symbols fault e =
      refused_fault {A = Action × List Symbol} limit (suc d) begins_act (any (action (suc d))) deep no_act (act_blank (suc d)) (act_begins goes_on (suc d)) symbols fault e
  part_breaks limit d (Some b) breaks symbols fault e = breaks.act_breaks symbols fault e

  block_breaks : (limit d : ℕ) (b : Option Blocks) → AreBreaking limit d b → ReadFaults limit (any (actions (suc d))) (block_at b)
  unfolding block_at
  block_breaks limit d None deep symbols fault e = elim (chosen (begins_sign signs.CloseBrace symbols) _ _ (Err fault) e) [
    | inl c ↦ no_fault _ fault c.1
    | inr c ↦ refused_fault {A = List Action × List Symbol} limit (suc d) begins_act (any (actions (suc d))) deep no_act (actions_blank (suc d))
        (λ s rest t. goes_on_as (λ m j. (More j.first.0 j.second.0, rejoined j j.first.1 j.second.1)) (goes_on_with (act_begins goes_on (suc d) s rest t) (actions_blank (suc d))))
        symbols fault c.1
  ]
  block_breaks limit d (Some b) breaks symbols fault e = breaks.acts_break symbols fault e

  module _ (limit d n : ℕ) (whole : d + n ≡ limit) where
    low : d ≤ limit
    low = within law limit d n whole

    module _ (b : Option Blocks) (sound : AreSound limit d b) (breaks : AreBreaking limit d b) where
      assigned_fault : ReadFaults limit (any (action d)) (assigned_at n)
      unfolding assigned_at
      assigned_fault symbols fault e =
          let ends = sign_blank d signs.Semicolon in
          let valued = blank_joined (expr_blank Rules (suc d)) ends in
          fault_as (any (action d)) (assigned_of d)
          (parts_fault (expr_at Rules n symbols) _ fault (λ x. x.1) e (expr_breaks faults Rules limit n d whole symbols fault) (λ x r. any_stands (spells Rules d) x.0 (expr_reads law Rules limit n d whole symbols x r))
          (blank_joined (sign_blank d signs.Assign) valued)
          (λ x r w. parts_fault (behind signs.Assign x.1) _ fault (λ x. x) w (behind_fault limit d signs.Assign x.1 fault) (λ y r. behind_stands limit d signs.Assign x.1 y low r) valued
          (λ y r w. parts_fault (deep_expr_at Rules n y) _ fault (λ x. x.1) w (deep_expr_breaks faults goes_on Rules limit n d whole y fault)
          (λ v r. any_stands (spells Rules (suc d)) v.0 (deep_expr_reads law Rules limit n d whole y v r)) ends
          (λ v r w. behind_fault limit d signs.Semicolon v.1 fault (last_fault (behind signs.Semicolon v.1) _ fault w)))))

      else_fault : (at : ℕ) (c : Term) (s : Action) (symbols middle front : List Symbol) (fault : Fault) → Stands limit (condition Rules d c) symbols middle → ActStands limit (suc d) middle (s, front)
          → else_at b c s front ≡ Err fault → FaultStands limit (any (action d)) (symbol.Keyword at keywords.If ∷ symbols) fault
      unfolding else_at
      else_fault at c s symbols middle front fault first second e =
          elim (picked (behind_else front) _ _ (Err fault) e) [
            | inl none ↦ no_fault _ fault none.1
            | inr some ↦ fault_as (any (action d)) (alternative_of d c s (before_else (ends_open s) front some.0 second.no_else some.1))
                (fault_behind (keyword_stands limit d at keywords.If symbols low)
                (fault_behind first
                (fault_behind second.stands
                (fault_behind (behind_else_stands limit d front some.0 low some.1) (part_breaks limit d b breaks some.0 fault (last_fault (part_at b some.0) _ fault some.2))))))
          ]

      if_fault : (at : ℕ) (symbols : List Symbol) (fault : Fault) → if_behind n b symbols ≡ Err fault → FaultStands limit (any (action d)) (symbol.Keyword at keywords.If ∷ symbols) fault
      unfolding if_behind
      if_fault at symbols fault e =
          let led = keyword_stands limit d at keywords.If symbols low in
          elim (bind_err (condition_at Rules n symbols) _ fault e) [
            | inl w ↦ fault_as (any (action d)) (conditional_of d)
                (fault_behind led (fault_before (any (action (suc d))) (act_blank (suc d)).0 (act_blank (suc d)).1 (condition_breaks law faults goes_on Rules limit n d whole symbols fault w)))
            | inr c ↦
                let first = condition_reads law Rules limit n d whole symbols c.0 c.1 in
                elim (bind_err (part_at b c.0.1) _ fault c.2) [
                  | inl w ↦ fault_as (any (action d)) (conditional_of d) (fault_behind led (fault_behind (any_stands (condition Rules d) c.0.0 first) (part_breaks limit d b breaks c.0.1 fault w)))
                  | inr s ↦ else_fault at c.0.0 s.0.0 symbols c.0.1 s.0.1 fault first (part_reads limit d b sound c.0.1 s.0 s.1) s.2
                ]
          ]

      compound_fault : (at : ℕ) (rest : List Symbol) (fault : Fault) → compound_behind b rest ≡ Err fault → FaultStands limit (any (action d)) (symbol.Sign at signs.OpenBrace ∷ rest) fault
      unfolding compound_behind
      compound_fault at rest fault e =
          fault_as (any (action d)) (compound_of d)
          (fault_behind (sign_stands limit d at signs.OpenBrace rest low)
          (parts_fault (block_at b rest) _ fault (λ x. x.1) e (block_breaks limit d b breaks rest fault)
          (λ x r. stands_as (any (actions (suc d))) (λ m s. (actions_of x.0, s)) (block_reads limit d b sound rest x r)) (sign_blank d signs.CloseBrace)
          (λ x r w. behind_fault limit d signs.CloseBrace x.1 fault (last_fault (behind signs.CloseBrace x.1) _ fault w))))

      signed_fault : (at : ℕ) (s : Sign) (rest : List Symbol) (fault : Fault) → signed_at n b s (symbol.Sign at s ∷ rest) rest ≡ Err fault → FaultStands limit (any (action d)) (symbol.Sign at s ∷ rest) fault
      unfolding signed_at
      signed_fault at s rest fault e =
          elim (chosen (same_sign s signs.OpenBrace) _ _ (Err fault) e) [
            | inl c ↦ subst (λ (t : Sign). FaultStands limit (any (action d)) (symbol.Sign at t ∷ rest) fault) (sym (same_sign_is s signs.OpenBrace c.0)) (compound_fault at rest fault c.1)
            | inr c ↦ elim (chosen (same_sign s signs.Semicolon) _ _ (Err fault) c.1) [
              | inl c ↦ no_fault _ fault c.1
              | inr c ↦ assigned_fault (symbol.Sign at s ∷ rest) fault c.1
            ]
          ]

      act_fault : ReadFaults limit (any (action d)) (act_at n b)
      unfolding act_at
      act_fault [] fault e = unexpected_stands limit (any (action d)) (act_blank d).0 [] fault (act_blank d).1 e
      act_fault (symbol.Keyword at keywords.If ∷ rest) fault e = if_fault at rest fault e
      act_fault (symbol.Sign at s ∷ rest) fault e = signed_fault at s rest fault e
      act_fault (other ∷ rest) fault e = assigned_fault (other ∷ rest) fault e

      acts_fault : ReadFaults limit (any (actions d)) (acts_at n b)
      unfolding acts_at
      acts_fault symbols fault e =
          fault_as (any (actions d)) (λ m l. (actions_of l.0, actions_are d l.0 m l.1))
          (until_at_fault limit (begins_sign signs.CloseBrace) (action d) (act_at n b) (act_reads law limit d n whole b sound) act_fault (length symbols) [] symbols fault e)

  -- what reads one deeper breaks off where the fault tells
  blocks_break : (limit n d : ℕ) → d + n ≡ limit → AreBreaking limit d (blocks n)
  unfolding blocks
  blocks_break limit zero d whole = omega arith
  blocks_break limit (suc n) d whole =
      let deeper : suc d + n ≡ limit = omega arith in
      let sound = blocks_sound law limit n (suc d) deeper in
      let below = blocks_break limit n (suc d) deeper in
      record { act_breaks = act_fault limit (suc d) n deeper (blocks n) sound below; acts_break = acts_fault limit (suc d) n deeper (blocks n) sound below }

  -- ---- bodies

  pub code_breaks : (n : ℕ) → ReadFaults n (any code) (code_at n)
  unfolding code_at
  code_breaks n symbols fault e =
      let whole : 0 + n ≡ n = omega arith in
      let ends = some_sign_blank signs.CloseBrace in
      fault_as (any code) code_of
      (parts_fault (sign_at signs.OpenBrace symbols) _ fault (λ x. x.1) e (sign_at_fault n signs.OpenBrace symbols fault)
      (λ x r. any_stands (λ at. token 0 (symbol.Sign at signs.OpenBrace)) x.0 (sign_at_stands n signs.OpenBrace symbols x r)) (blank_joined (actions_blank 1) ends)
      (λ o r w. parts_fault (block_at (blocks n) o.1) _ fault (λ x. x.1) w (block_breaks n 0 (blocks n) (blocks_break n n 0 whole) o.1 fault)
      (λ x r. stands_as (any (actions 1)) (λ m s. (actions_of x.0, s)) (block_reads n 0 (blocks n) (blocks_sound law n n 0 whole) o.1 x r)) ends
      (λ a r w. sign_at_fault n signs.CloseBrace a.1 fault (last_fault (sign_at signs.CloseBrace a.1) _ fault w))))
