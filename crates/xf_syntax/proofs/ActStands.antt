-- Acts and bodies that are read stand there, no token of them too deep.
use Rattle.std.proofs.Common.{◌≡◌, ℕ, zero, suc, ◌+◌, ◌≤◌, inl, inr, true, false, not, List, [], ◌∷◌, length, Option, Some, None, Ok, refl, sym, ◌∙◌, subst, arith}
use Rattle.kt_grammar.specs.declared.keyword.Keyword.TheVariants as keywords
use Rattle.kt_grammar.specs.declared.operator.Dialect.TheVariants.{Rules}
use Rattle.kt_grammar.specs.declared.sign.Sign.{Sign}
use Rattle.kt_grammar.specs.declared.sign.Sign.TheVariants as signs
use Rattle.kt_grammar.specs.declared.symbol.Symbol.{Symbol}
use Rattle.kt_grammar.specs.declared.symbol.Symbol.TheVariants as symbol
use Rattle.kt_grammar.specs.Tree.{Term}
use Rattle.kt_grammar.specs.Signs.{same_sign}
use Rattle.kt_grammar.specs.Marks.{Mark, token}
use Rattle.kt_grammar.specs.Cursor.{Outcome, begins_sign, behind}
use Rattle.kt_grammar.specs.Reading.{expr_at}
use Rattle.kt_grammar.specs.Laws.{Stands, ExprStands}
use Rattle.kt_grammar.specs.Lists.{each}
use Rattle.kt_grammar.specs.Conditions.{condition, deep_expr_at, condition_at, behind_else}
use Rattle.kt_grammar.specs.StandsLaws.{no_value, by_value, bind_ok, chosen, same_sign_is, nothing_stands, token_stands, stands_joined, stands_as, stands_when, sign_stands, keyword_stands, behind_stands}
use Rattle.kt_grammar.proofs.ListStands.{ReadStands, not_true, picked, until_at_stands}
use Rattle.kt_grammar.proofs.Conditions.{refused_not, expr_reads, deep_expr_reads, condition_reads, behind_else_stands, before_else}
use Rattle.xf_syntax.specs.Tree.{Action, Compound, Empty, Assigned, Conditional, Alternative, actions_of, Code}
use Rattle.xf_syntax.specs.Spelling.{ends_open, action, actions, code}
use Rattle.xf_syntax.specs.Reading.{begins_act, Blocks, part_at, block_at, else_at, if_behind, assigned_at, compound_behind, signed_at, act_at, acts_at, blocks, sign_at, code_at}

-- an act stands there, and no `else` behind it that would belong to it
pub record ActStands (limit d : ℕ) (symbols : List Symbol) (x : Action × List Symbol) : Type 0 where
  pub stands : Stands limit (action d x.0) symbols x.1
  pub no_else : ends_open x.0 ≡ true → behind_else x.1 ≡ None

-- what these read stands there, below an act at a depth
pub record IsSound (limit d : ℕ) (b : Blocks) : Type 0 where
  pub act_is : (symbols : List Symbol) (x : Action × List Symbol) → b.act symbols ≡ Ok x → ActStands limit (suc d) symbols x
  pub acts_are : ReadStands limit (λ es. actions (suc d) (actions_of es)) b.acts

abbrev pub AreSound : ℕ → ℕ → Option Blocks → Type 0
AreSound limit d None = Unit {0}
AreSound limit d (Some b) = IsSound limit d b

-- a part of an act that is read stands there
pub part_reads : (limit d : ℕ) (b : Option Blocks) → AreSound limit d b → (symbols : List Symbol) (x : Action × List Symbol) → part_at b symbols ≡ Ok x → ActStands limit (suc d) symbols x
unfolding part_at
part_reads limit d None sound symbols x e = refused_not begins_act symbols x e
part_reads limit d (Some b) sound symbols x e = sound.act_is symbols x e

-- the acts of a block that are read stand there
pub block_reads : (limit d : ℕ) (b : Option Blocks) → AreSound limit d b → ReadStands limit (λ es. actions (suc d) (actions_of es)) (block_at b)
unfolding block_at
block_reads limit d None sound symbols x e = elim (chosen (begins_sign signs.CloseBrace symbols) _ _ (Ok x) e) [
  | inl c ↦ by_value (λ (y : List Action × List Symbol). Stands limit (actions (suc d) (actions_of y.0)) symbols y.1) ([], symbols) x c.1 (nothing_stands limit symbols)
  | inr c ↦ refused_not begins_act symbols x c.1
]
block_reads limit d (Some b) sound symbols x e = sound.acts_are symbols x e

-- acts are spelled one after the other
pub actions_are : (d : ℕ) (xs : List Action) (marks : List Mark) → each (action d) xs marks → actions d (actions_of xs) marks
actions_are d [] marks l = l
actions_are d (x ∷ xs) marks l = record { front = l.front; back = l.back; parts = l.parts; first = l.first; second = actions_are d xs l.back l.second }

module _ (law : ExprStands) (limit d n : ℕ) (whole : d + n ≡ limit) where
  pub within : d ≤ limit
  within = omega arith

  module _ (b : Option Blocks) (sound : AreSound limit d b) where
    -- an act that does not end with another
    closed_stands : (s : Action) (symbols rest : List Symbol) (x : Action × List Symbol) → ends_open s ≡ false → Stands limit (action d s) symbols rest
        → ◌≡◌ {A = Outcome Action} (Ok (s, rest)) (Ok x) → ActStands limit d symbols x
    closed_stands s symbols rest x closed stands e =
        by_value (ActStands limit d symbols) (s, rest) x e (record { stands = stands; no_else = λ o. not_true (sym closed ∙ o) })

    assigned_at_stands : (symbols : List Symbol) (x : Action × List Symbol) → assigned_at n symbols ≡ Ok x → ActStands limit d symbols x
    unfolding assigned_at
    assigned_at_stands symbols x e =
        let a = bind_ok (expr_at Rules n symbols) _ x e in
        let o = bind_ok (behind signs.Assign a.value.1) _ x a.then_gave in
        let v = bind_ok (deep_expr_at Rules n o.value) _ x o.then_gave in
        let t = bind_ok (behind signs.Semicolon v.value.1) _ x v.then_gave in
        closed_stands (Assigned a.value.0 v.value.0) symbols t.value x refl
        (stands_joined (expr_reads law Rules limit n d whole symbols a.value a.gave)
        (stands_joined (behind_stands limit d signs.Assign a.value.1 o.value within o.gave)
        (stands_joined (deep_expr_reads law Rules limit n d whole o.value v.value v.gave) (behind_stands limit d signs.Semicolon v.value.1 t.value within t.gave)))) t.then_gave

    else_at_stands : (at : ℕ) (c : Term) (s : Action) (symbols middle front : List Symbol) (x : Action × List Symbol) → Stands limit (condition Rules d c) symbols middle → ActStands limit (suc d) middle (s, front)
        → else_at b c s front ≡ Ok x → ActStands limit d (symbol.Keyword at keywords.If ∷ symbols) x
    unfolding else_at
    else_at_stands at c s symbols middle front x first second e =
        let led = keyword_stands limit d at keywords.If symbols within in
        elim (picked (behind_else front) _ _ (Ok x) e) [
          | inl none ↦ by_value (ActStands limit d (symbol.Keyword at keywords.If ∷ symbols)) (Conditional c s, front) x none.1
              (record { stands = stands_joined led (stands_joined first second.stands); no_else = λ o. none.0 })
          | inr some ↦
              let t = bind_ok (part_at b some.0) _ x some.2 in
              let last = part_reads limit d b sound some.0 t.value t.gave in
              by_value (ActStands limit d (symbol.Keyword at keywords.If ∷ symbols)) (Alternative c s t.value.0, t.value.1) x t.then_gave
              (record {
                stands = stands_when (not (ends_open s)) (before_else (ends_open s) front some.0 second.no_else some.1)
                    (stands_joined led (stands_joined first (stands_joined second.stands (stands_joined (behind_else_stands limit d front some.0 within some.1) last.stands))));
                no_else = last.no_else;
              })
        ]

    if_behind_stands : (at : ℕ) (symbols : List Symbol) (x : Action × List Symbol) → if_behind n b symbols ≡ Ok x → ActStands limit d (symbol.Keyword at keywords.If ∷ symbols) x
    unfolding if_behind
    if_behind_stands at symbols x e =
        let c = bind_ok (condition_at Rules n symbols) _ x e in
        let s = bind_ok (part_at b c.value.1) _ x c.then_gave in
        else_at_stands at c.value.0 s.value.0 symbols c.value.1 s.value.1 x (condition_reads law Rules limit n d whole symbols c.value c.gave) (part_reads limit d b sound c.value.1 s.value s.gave) s.then_gave

    compound_stands : (at : ℕ) (rest : List Symbol) (x : Action × List Symbol) → compound_behind b rest ≡ Ok x → ActStands limit d (symbol.Sign at signs.OpenBrace ∷ rest) x
    unfolding compound_behind
    compound_stands at rest x e =
        let a = bind_ok (block_at b rest) _ x e in
        let t = bind_ok (behind signs.CloseBrace a.value.1) _ x a.then_gave in
        closed_stands (Compound (actions_of a.value.0)) (symbol.Sign at signs.OpenBrace ∷ rest) t.value x refl
        (stands_joined (sign_stands limit d at signs.OpenBrace rest within)
        (stands_joined (block_reads limit d b sound rest a.value a.gave) (behind_stands limit d signs.CloseBrace a.value.1 t.value within t.gave))) t.then_gave

    signed_at_stands : (at : ℕ) (s : Sign) (rest : List Symbol) (x : Action × List Symbol) → signed_at n b s (symbol.Sign at s ∷ rest) rest ≡ Ok x → ActStands limit d (symbol.Sign at s ∷ rest) x
    unfolding signed_at
    signed_at_stands at s rest x e =
        let Found : Sign → Type 0 = λ t. ActStands limit d (symbol.Sign at t ∷ rest) x in
        elim (chosen (same_sign s signs.OpenBrace) _ _ (Ok x) e) [
          | inl c ↦ subst Found (sym (same_sign_is s signs.OpenBrace c.0)) (compound_stands at rest x c.1)
          | inr c ↦ elim (chosen (same_sign s signs.Semicolon) _ _ (Ok x) c.1) [
            | inl c ↦ subst Found (sym (same_sign_is s signs.Semicolon c.0))
                (closed_stands Empty (symbol.Sign at signs.Semicolon ∷ rest) rest x refl (sign_stands limit d at signs.Semicolon rest within) c.1)
            | inr c ↦ assigned_at_stands (symbol.Sign at s ∷ rest) x c.1
          ]
        ]

    act_at_stands : (symbols : List Symbol) (x : Action × List Symbol) → act_at n b symbols ≡ Ok x → ActStands limit d symbols x
    unfolding act_at
    act_at_stands [] x e = no_value _ x e
    act_at_stands (symbol.Keyword at keywords.If ∷ rest) x e = if_behind_stands at rest x e
    act_at_stands (symbol.Sign at s ∷ rest) x e = signed_at_stands at s rest x e
    act_at_stands (other ∷ rest) x e = assigned_at_stands (other ∷ rest) x e

    pub act_reads : ReadStands limit (action d) (act_at n b)
    act_reads symbols x e = (act_at_stands symbols x e).stands

    acts_at_stands : ReadStands limit (λ es. actions d (actions_of es)) (acts_at n b)
    unfolding acts_at
    acts_at_stands symbols x e =
        let all = until_at_stands limit (begins_sign signs.CloseBrace) (action d) (act_at n b) act_reads (length symbols) [] symbols x e in
        let found : Stands limit (each (action d) x.0) symbols x.1 = subst (λ (xs : List Action). Stands limit (each (action d) xs) symbols x.1) (sym all.is) all.stands in
        stands_as (actions d (actions_of x.0)) (actions_are d x.0) found

-- what reads one deeper reads what stands there
pub blocks_sound : ExprStands → (limit n d : ℕ) → d + n ≡ limit → AreSound limit d (blocks n)
unfolding blocks
blocks_sound law limit zero d whole = tt
blocks_sound law limit (suc n) d whole =
    let deeper : suc d + n ≡ limit = omega arith in
    let below = blocks_sound law limit n (suc d) deeper in
    record { act_is = act_at_stands law limit (suc d) n deeper (blocks n) below; acts_are = acts_at_stands law limit (suc d) n deeper (blocks n) below }

-- ---- bodies

pub sign_at_stands : (limit : ℕ) (s : Sign) → ReadStands limit (λ at. token 0 (symbol.Sign at s)) (sign_at s)
unfolding sign_at
sign_at_stands limit s (symbol.Sign at t ∷ rest) x e = elim (chosen (same_sign t s) _ _ (Ok x) e) [
  | inl c ↦ by_value (λ (y : ℕ × List Symbol). Stands limit (token 0 (symbol.Sign y.0 s)) (symbol.Sign at t ∷ rest) y.1) (at, rest) x c.1
      (subst (λ (t : Sign). Stands limit (token 0 (symbol.Sign at s)) (symbol.Sign at t ∷ rest) rest) (sym (same_sign_is t s c.0)) (token_stands limit 0 (symbol.Sign at s) rest (omega arith)))
  | inr c ↦ no_value _ x c.1
]
sign_at_stands limit s _ x e = no_value _ x e

pub code_reads : ExprStands → (n : ℕ) → ReadStands n code (code_at n)
unfolding code_at
code_reads law n symbols x e =
    let whole : 0 + n ≡ n = omega arith in
    let o = bind_ok (sign_at signs.OpenBrace symbols) _ x e in
    let a = bind_ok (block_at (blocks n) o.value.1) _ x o.then_gave in
    let t = bind_ok (sign_at signs.CloseBrace a.value.1) _ x a.then_gave in
    by_value (λ (y : Code × List Symbol). Stands n (code y.0) symbols y.1) (record { first = o.value.0; last = t.value.0; actions = actions_of a.value.0 }, t.value.1) x t.then_gave
    (stands_joined (sign_at_stands n signs.OpenBrace symbols o.value o.gave)
    (stands_joined (block_reads n 0 (blocks n) (blocks_sound law n n 0 whole) o.value.1 a.value a.gave) (sign_at_stands n signs.CloseBrace a.value.1 t.value t.gave)))
