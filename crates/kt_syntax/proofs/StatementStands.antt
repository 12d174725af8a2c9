-- Statements and blocks that are read stand there, no token of them too deep.
use Rattle.std.proofs.Common.{◌≡◌, ℕ, zero, suc, ◌+◌, ◌≤◌, inl, inr, Bool, true, false, not, List, [], ◌∷◌, length, drop, Option, Some, None, Ok, refl, sym, ◌∙◌, subst, arith}
use Rattle.std.proofs.lemmas.Option.{same_Some}
use Rattle.kt_grammar.specs.declared.keyword.Keyword.{Keyword}
use Rattle.kt_grammar.specs.declared.keyword.Keyword.TheVariants as keywords
use Rattle.kt_grammar.specs.declared.operator.Dialect.TheVariants.{C}
use Rattle.kt_grammar.specs.declared.sign.Sign.{Sign}
use Rattle.kt_grammar.specs.declared.sign.Sign.TheVariants as signs
use Rattle.kt_grammar.specs.declared.symbol.Symbol.{Symbol}
use Rattle.kt_grammar.specs.declared.symbol.Symbol.TheVariants as symbol
use Rattle.kt_grammar.specs.Tree.{Term}
use Rattle.kt_grammar.specs.Signs.{same_sign}
use Rattle.kt_grammar.specs.Marks.{Mark, sign, keyword, ◌·◌}
use Rattle.kt_grammar.specs.Spelling.{spells}
use Rattle.kt_grammar.specs.Cursor.{◌>>=◌, Outcome, begins_sign, behind, until_at}
use Rattle.kt_grammar.specs.Reading.{begins_base, begins_expr, expr_at}
use Rattle.kt_grammar.specs.Laws.{Stands, ExprStands}
use Rattle.kt_grammar.specs.StandsLaws.{no_value, by_value, bind_ok, chosen, same_sign_is, nothing_stands, token_stands, stands_joined, stands_as, stands_when, sign_stands, keyword_stands, begins_sign_stands, behind_stands}
use Rattle.kt_syntax.specs.Tree.{Start, NoStart, Declares, Evaluates, Statement, Declared, Compound, Empty, Evaluated, Returned, Broken, Continued, Conditional, Alternative, Looped, Repeated, Counted, statements_of}
use Rattle.kt_syntax.specs.Spelling.{each, maybe, ends_open, condition, for_start, statement, entries}
use Rattle.kt_syntax.specs.Reading.{declaration_at, begins_statement, begins_entry, Blocks, refused, deep_expr_at, condition_at, part_at, block_behind, ended_at, behind_else, behind_while, else_at, if_behind, while_behind, do_behind, start_at, for_behind, evaluated_at, worded_at, signed_at, statement_at, entry_at, entries_at, blocks}
use Rattle.kt_syntax.specs.ListStands.{ReadStands, not_true, none_is_some, picked, stands_then, until_at_stands}
use Rattle.kt_syntax.proofs.DeclaratorStands.{declaration_at_stands}

-- a statement stands there, and no `else` behind it that would belong to it
pub record StatementStands (limit : ℕ) (entry : Bool) (d : ℕ) (symbols : List Symbol) (x : Statement × List Symbol) : Type 0 where
  pub stands : Stands limit (statement entry d x.0) symbols x.1
  pub no_else : ends_open x.0 ≡ true → behind_else x.1 ≡ None

-- the parts that these read stand there, below a statement at a depth
pub record IsSound (limit d : ℕ) (b : Blocks) : Type 0 where
  pub statement_is : (symbols : List Symbol) (x : Statement × List Symbol) → b.statement symbols ≡ Ok x → StatementStands limit false (suc d) symbols x
  pub entries_is : ReadStands limit (λ es. entries (suc d) (statements_of es) · sign d signs.CloseBrace) b.entries

abbrev pub AreSound : ℕ → ℕ → Option Blocks → Type 0
AreSound limit d None = Unit {0}
AreSound limit d (Some b) = IsSound limit d b

-- what is refused gives nothing
pub refused_not : {A : Type 0} (begins : List Symbol → Bool) (symbols : List Symbol) (x : A) {C : Type 0} → refused begins symbols ≡ Ok x → C
refused_not begins symbols x e = elim (chosen (begins symbols) _ _ (Ok x) e) [
  | inl c ↦ no_value _ x c.1
  | inr c ↦ no_value _ x c.1
]

-- a part of a statement that is read stands there
pub part_reads : (limit d : ℕ) (b : Option Blocks) → AreSound limit d b → (symbols : List Symbol) (x : Statement × List Symbol) → part_at b symbols ≡ Ok x → StatementStands limit false (suc d) symbols x
unfolding part_at
part_reads limit d None sound symbols x e = refused_not begins_statement symbols x e
part_reads limit d (Some b) sound symbols x e = sound.statement_is symbols x e

-- the entries of a block that are read, and its closing brace, stand there
block_reads : (limit d : ℕ) → d ≤ limit → (b : Option Blocks) → AreSound limit d b → ReadStands limit (λ es. entries (suc d) (statements_of es) · sign d signs.CloseBrace) (block_behind b)
unfolding block_behind
block_reads limit d h None sound symbols x e = elim (chosen (begins_sign signs.CloseBrace symbols) _ _ (Ok x) e) [
  | inl c ↦ by_value (λ (y : List Statement × List Symbol). Stands limit (entries (suc d) (statements_of y.0) · sign d signs.CloseBrace) symbols y.1) ([], drop 1 symbols) x c.1
      (stands_joined (nothing_stands limit symbols) (begins_sign_stands limit d signs.CloseBrace symbols h c.0))
  | inr c ↦ refused_not begins_entry symbols x c.1
]
block_reads limit d h (Some b) sound symbols x e = sound.entries_is symbols x e

-- a statement behind which an `else` was taken does not end open
pub before_else : (o : Bool) (symbols rest : List Symbol) → (o ≡ true → behind_else symbols ≡ None) → behind_else symbols ≡ Some rest → not o ≡ true
before_else true symbols rest no_else e = none_is_some rest (sym (no_else refl) ∙ e)
before_else false symbols rest no_else e = refl

-- entries are spelled one after the other
pub entries_of : (d : ℕ) (xs : List Statement) (marks : List Mark) → each (statement true d) xs marks → entries d (statements_of xs) marks
entries_of d [] marks l = l
entries_of d (x ∷ xs) marks l = record { front = l.front; back = l.back; parts = l.parts; first = l.first; second = entries_of d xs l.back l.second }

pub expr_reads : ExprStands → (limit n d : ℕ) → d + n ≡ limit → ReadStands limit (spells C d) (expr_at C n)
expr_reads law limit n d whole symbols x e = subst (λ (k : ℕ). Stands k (spells C d x.0) symbols x.1) whole (law C n d symbols x.0 x.1 e)

pub deep_expr_reads : ExprStands → (limit n d : ℕ) → d + n ≡ limit → ReadStands limit (spells C (suc d)) (deep_expr_at n)
deep_expr_reads law limit zero d whole symbols x e = refused_not (begins_expr C) symbols x e
deep_expr_reads law limit (suc n) d whole symbols x e =
    let deeper : suc d + n ≡ limit = omega arith in
    expr_reads law limit n (suc d) deeper symbols x e

-- a keyword that is taken stands there
pub behind_while_stands : (limit d : ℕ) (symbols rest : List Symbol) → d ≤ limit → behind_while symbols ≡ Ok rest → Stands limit (keyword d keywords.While) symbols rest
unfolding behind_while
behind_while_stands limit d (symbol.Keyword at keywords.While ∷ rest) after h e =
    by_value (λ (r : List Symbol). Stands limit (keyword d keywords.While) (symbol.Keyword at keywords.While ∷ rest) r) rest after e (keyword_stands limit d at keywords.While rest h)
behind_while_stands limit d _ after h e = no_value _ after e

-- the keyword behind which something is read stands there
pub behind_else_stands : (limit d : ℕ) (symbols rest : List Symbol) → d ≤ limit → behind_else symbols ≡ Some rest → Stands limit (keyword d keywords.Else) symbols rest
unfolding behind_else
behind_else_stands limit d (symbol.Keyword at keywords.Else ∷ rest) after h e =
    subst (λ (r : List Symbol). Stands limit (keyword d keywords.Else) (symbol.Keyword at keywords.Else ∷ rest) r) (same_Some rest after e) (keyword_stands limit d at keywords.Else rest h)
behind_else_stands limit d _ after h e = none_is_some after e

module _ (law : ExprStands) (limit d n : ℕ) (whole : d + n ≡ limit) where
  pub within : d ≤ limit
  within = omega arith

  -- ---- expressions

  expr_stands : ReadStands limit (spells C d) (expr_at C n)
  expr_stands = expr_reads law limit n d whole

  pub condition_at_stands : ReadStands limit (condition d) (condition_at n)
  unfolding condition_at
  condition_at_stands symbols x e =
      let s = bind_ok (behind signs.OpenParenthesis symbols) _ x e in
      let c = bind_ok (deep_expr_at n s.value) _ x s.then_gave in
      let t = bind_ok (behind signs.CloseParenthesis c.value.1) _ x c.then_gave in
      by_value (λ (y : Term × List Symbol). Stands limit (condition d y.0) symbols y.1) (c.value.0, t.value) x t.then_gave
      (stands_joined (behind_stands limit d signs.OpenParenthesis symbols s.value within s.gave)
      (stands_joined (deep_expr_reads law limit n d whole s.value c.value c.gave) (behind_stands limit d signs.CloseParenthesis c.value.1 t.value within t.gave)))

  pub ended_at_stands : (s : Sign) → ReadStands limit (λ e. maybe (spells C d) e · sign d s) (ended_at n s)
  unfolding ended_at
  ended_at_stands s symbols x e =
      let Found : Option Term × List Symbol → Type 0 = λ y. Stands limit (maybe (spells C d) y.0 · sign d s) symbols y.1 in
      elim (chosen (begins_sign s symbols) _ _ (Ok x) e) [
        | inl c ↦ by_value Found (None, drop 1 symbols) x c.1 (stands_joined (nothing_stands limit symbols) (begins_sign_stands limit d s symbols within c.0))
        | inr c ↦
            let a = bind_ok (expr_at C n symbols) _ x c.1 in
            let t = bind_ok (behind s a.value.1) _ x a.then_gave in
            by_value Found (Some a.value.0, t.value) x t.then_gave
            (stands_joined (expr_stands symbols a.value a.gave) (behind_stands limit d s a.value.1 t.value within t.gave))
      ]

  pub start_at_stands : ReadStands limit (λ start. for_start d start · sign d signs.Semicolon) (start_at n)
  unfolding start_at
  start_at_stands symbols x e =
      let Found : Start × List Symbol → Type 0 = λ y. Stands limit (for_start d y.0 · sign d signs.Semicolon) symbols y.1 in
      elim (chosen (begins_sign signs.Semicolon symbols) _ _ (Ok x) e) [
        | inl c ↦ by_value Found (NoStart, drop 1 symbols) x c.1 (stands_joined (nothing_stands limit symbols) (begins_sign_stands limit d signs.Semicolon symbols within c.0))
        | inr c ↦ elim (chosen (begins_base symbols) _ _ (Ok x) c.1) [
          | inl c ↦
              let a = bind_ok (declaration_at n symbols) _ x c.1 in
              let t = bind_ok (behind signs.Semicolon a.value.1) _ x a.then_gave in
              by_value Found (Declares a.value.0, t.value) x t.then_gave
              (stands_joined (declaration_at_stands limit d within n expr_stands symbols a.value a.gave) (behind_stands limit d signs.Semicolon a.value.1 t.value within t.gave))
          | inr c ↦
              let a = bind_ok (expr_at C n symbols) _ x c.1 in
              let t = bind_ok (behind signs.Semicolon a.value.1) _ x a.then_gave in
              by_value Found (Evaluates a.value.0, t.value) x t.then_gave
              (stands_joined (expr_stands symbols a.value a.gave) (behind_stands limit d signs.Semicolon a.value.1 t.value within t.gave))
        ]
      ]

  module _ (b : Option Blocks) (sound : AreSound limit d b) where
    pub part_at_stands : (symbols : List Symbol) (x : Statement × List Symbol) → part_at b symbols ≡ Ok x → StatementStands limit false (suc d) symbols x
    part_at_stands = part_reads limit d b sound

    block_behind_stands : ReadStands limit (λ es. entries (suc d) (statements_of es) · sign d signs.CloseBrace) (block_behind b)
    block_behind_stands = block_reads limit d within b sound

    module _ (entry : Bool) where
      -- a statement that does not end with another
      closed_stands : (s : Statement) (symbols rest : List Symbol) (x : Statement × List Symbol) → ends_open s ≡ false → Stands limit (statement entry d s) symbols rest
          → ◌≡◌ {A = Outcome Statement} (Ok (s, rest)) (Ok x) → StatementStands limit entry d symbols x
      closed_stands s symbols rest x closed stands e =
          by_value (StatementStands limit entry d symbols) (s, rest) x e (record { stands = stands; no_else = λ o. not_true (sym closed ∙ o) })

      evaluated_at_stands : (symbols : List Symbol) (x : Statement × List Symbol) → evaluated_at n symbols ≡ Ok x → StatementStands limit entry d symbols x
      unfolding evaluated_at
      evaluated_at_stands symbols x e =
          let a = bind_ok (expr_at C n symbols) _ x e in
          let t = bind_ok (behind signs.Semicolon a.value.1) _ x a.then_gave in
          closed_stands (Evaluated a.value.0) symbols t.value x refl
          (stands_joined (expr_stands symbols a.value a.gave) (behind_stands limit d signs.Semicolon a.value.1 t.value within t.gave)) t.then_gave

      else_at_stands : (at : ℕ) (c : Term) (s : Statement) (symbols middle front : List Symbol) (x : Statement × List Symbol) → Stands limit (condition d c) symbols middle → StatementStands limit false (suc d) middle (s, front)
          → else_at b c s front ≡ Ok x → StatementStands limit entry d (symbol.Keyword at keywords.If ∷ symbols) x
      unfolding else_at
      else_at_stands at c s symbols middle front x first second e =
          let led = keyword_stands limit d at keywords.If symbols within in
          elim (picked (behind_else front) _ _ (Ok x) e) [
            | inl none ↦ by_value (StatementStands limit entry d (symbol.Keyword at keywords.If ∷ symbols)) (Conditional c s, front) x none.1
                (record { stands = stands_joined led (stands_joined first second.stands); no_else = λ o. none.0 })
            | inr some ↦
                let t = bind_ok (part_at b some.0) _ x some.2 in
                let last = part_at_stands some.0 t.value t.gave in
                by_value (StatementStands limit entry d (symbol.Keyword at keywords.If ∷ symbols)) (Alternative c s t.value.0, t.value.1) x t.then_gave
                (record {
                  stands = stands_when (not (ends_open s)) (before_else (ends_open s) front some.0 second.no_else some.1)
                      (stands_joined led (stands_joined first (stands_joined second.stands (stands_joined (behind_else_stands limit d front some.0 within some.1) last.stands))));
                  no_else = last.no_else;
                })
          ]

      if_behind_stands : (at : ℕ) (symbols : List Symbol) (x : Statement × List Symbol) → if_behind n b symbols ≡ Ok x → StatementStands limit entry d (symbol.Keyword at keywords.If ∷ symbols) x
      unfolding if_behind
      if_behind_stands at symbols x e =
          let c = bind_ok (condition_at n symbols) _ x e in
          let s = bind_ok (part_at b c.value.1) _ x c.then_gave in
          else_at_stands at c.value.0 s.value.0 symbols c.value.1 s.value.1 x (condition_at_stands symbols c.value c.gave) (part_at_stands c.value.1 s.value s.gave) s.then_gave

      while_behind_stands : (at : ℕ) (symbols : List Symbol) (x : Statement × List Symbol) → while_behind n b symbols ≡ Ok x → StatementStands limit entry d (symbol.Keyword at keywords.While ∷ symbols) x
      unfolding while_behind
      while_behind_stands at symbols x e =
          let c = bind_ok (condition_at n symbols) _ x e in
          let s = bind_ok (part_at b c.value.1) _ x c.then_gave in
          let last = part_at_stands c.value.1 s.value s.gave in
          by_value (StatementStands limit entry d (symbol.Keyword at keywords.While ∷ symbols)) (Looped c.value.0 s.value.0, s.value.1) x s.then_gave
          (record {
            stands = stands_joined (keyword_stands limit d at keywords.While symbols within) (stands_joined (condition_at_stands symbols c.value c.gave) last.stands);
            no_else = last.no_else;
          })

      do_behind_stands : (at : ℕ) (symbols : List Symbol) (x : Statement × List Symbol) → do_behind n b symbols ≡ Ok x → StatementStands limit entry d (symbol.Keyword at keywords.Do ∷ symbols) x
      unfolding do_behind
      do_behind_stands at symbols x e =
          let s = bind_ok (part_at b symbols) _ x e in
          let w = bind_ok (behind_while s.value.1) _ x s.then_gave in
          let c = bind_ok (condition_at n w.value) _ x w.then_gave in
          let t = bind_ok (behind signs.Semicolon c.value.1) _ x c.then_gave in
          closed_stands (Repeated s.value.0 c.value.0) (symbol.Keyword at keywords.Do ∷ symbols) t.value x refl
          (stands_joined (keyword_stands limit d at keywords.Do symbols within)
          (stands_joined (part_at_stands symbols s.value s.gave).stands
          (stands_joined (behind_while_stands limit d s.value.1 w.value within w.gave)
          (stands_joined (condition_at_stands w.value c.value c.gave) (behind_stands limit d signs.Semicolon c.value.1 t.value within t.gave))))) t.then_gave

      -- the parts of a loop `for` make one
      counted_stands : (at : ℕ) (start : Start) (test step : Option Term) (s : Statement) (s0 s1 s2 s3 s4 rest : List Symbol) → Stands limit (sign d signs.OpenParenthesis) s0 s1 → Stands limit (for_start d start · sign d signs.Semicolon) s1 s2
          → Stands limit (maybe (spells C d) test · sign d signs.Semicolon) s2 s3 → Stands limit (maybe (spells C d) step · sign d signs.CloseParenthesis) s3 s4 → StatementStands limit false (suc d) s4 (s, rest)
          → StatementStands limit entry d (symbol.Keyword at keywords.For ∷ s0) (Counted start test step s, rest)
      counted_stands at start test step s s0 s1 s2 s3 s4 rest opened first second third last = record {
        stands = stands_joined (keyword_stands limit d at keywords.For s0 within) (stands_joined opened (stands_then first (stands_then second (stands_then third last.stands))));
        no_else = last.no_else;
      }

      for_behind_stands : (at : ℕ) (symbols : List Symbol) (x : Statement × List Symbol) → for_behind n b symbols ≡ Ok x → StatementStands limit entry d (symbol.Keyword at keywords.For ∷ symbols) x
      unfolding for_behind
      for_behind_stands at symbols x e =
          let o = bind_ok (behind signs.OpenParenthesis symbols) _ x e in
          let i = bind_ok (start_at n o.value) _ x o.then_gave in
          let t = bind_ok (ended_at n signs.Semicolon i.value.1) _ x i.then_gave in
          let u = bind_ok (ended_at n signs.CloseParenthesis t.value.1) _ x t.then_gave in
          let s = bind_ok (part_at b u.value.1) _ x u.then_gave in
          by_value (StatementStands limit entry d (symbol.Keyword at keywords.For ∷ symbols)) (Counted i.value.0 t.value.0 u.value.0 s.value.0, s.value.1) x s.then_gave
          (counted_stands at i.value.0 t.value.0 u.value.0 s.value.0 symbols o.value i.value.1 t.value.1 u.value.1 s.value.1
          (behind_stands limit d signs.OpenParenthesis symbols o.value within o.gave) (start_at_stands o.value i.value i.gave)
          (ended_at_stands signs.Semicolon i.value.1 t.value t.gave) (ended_at_stands signs.CloseParenthesis t.value.1 u.value u.gave) (part_at_stands u.value.1 s.value s.gave))

      returned_stands : (at : ℕ) (symbols : List Symbol) (x : Statement × List Symbol) → (ended_at n signs.Semicolon symbols >>= λ e. Ok (Returned at e.0, e.1)) ≡ Ok x → StatementStands limit entry d (symbol.Keyword at keywords.Return ∷ symbols) x
      returned_stands at symbols x e =
          let a = bind_ok (ended_at n signs.Semicolon symbols) _ x e in
          closed_stands (Returned at a.value.0) (symbol.Keyword at keywords.Return ∷ symbols) a.value.1 x refl
          (stands_joined (token_stands limit d (symbol.Keyword at keywords.Return) symbols within) (ended_at_stands signs.Semicolon symbols a.value a.gave)) a.then_gave

      broken_stands : (at : ℕ) (symbols : List Symbol) (x : Statement × List Symbol) → (behind signs.Semicolon symbols >>= λ after. Ok (Broken at, after)) ≡ Ok x → StatementStands limit entry d (symbol.Keyword at keywords.Break ∷ symbols) x
      broken_stands at symbols x e =
          let t = bind_ok (behind signs.Semicolon symbols) _ x e in
          closed_stands (Broken at) (symbol.Keyword at keywords.Break ∷ symbols) t.value x refl
          (stands_joined (token_stands limit d (symbol.Keyword at keywords.Break) symbols within) (behind_stands limit d signs.Semicolon symbols t.value within t.gave)) t.then_gave

      continued_stands : (at : ℕ) (symbols : List Symbol) (x : Statement × List Symbol) → (behind signs.Semicolon symbols >>= λ after. Ok (Continued at, after)) ≡ Ok x → StatementStands limit entry d (symbol.Keyword at keywords.Continue ∷ symbols) x
      continued_stands at symbols x e =
          let t = bind_ok (behind signs.Semicolon symbols) _ x e in
          closed_stands (Continued at) (symbol.Keyword at keywords.Continue ∷ symbols) t.value x refl
          (stands_joined (token_stands limit d (symbol.Keyword at keywords.Continue) symbols within) (behind_stands limit d signs.Semicolon symbols t.value within t.gave)) t.then_gave

      worded_at_stands : (at : ℕ) (k : Keyword) (rest : List Symbol) (x : Statement × List Symbol) → worded_at n b at k (symbol.Keyword at k ∷ rest) rest ≡ Ok x → StatementStands limit entry d (symbol.Keyword at k ∷ rest) x
      unfolding worded_at
      worded_at_stands at keywords.Return rest x e = returned_stands at rest x e
      worded_at_stands at keywords.Break rest x e = broken_stands at rest x e
      worded_at_stands at keywords.Continue rest x e = continued_stands at rest x e
      worded_at_stands at keywords.If rest x e = if_behind_stands at rest x e
      worded_at_stands at keywords.While rest x e = while_behind_stands at rest x e
      worded_at_stands at keywords.Do rest x e = do_behind_stands at rest x e
      worded_at_stands at keywords.For rest x e = for_behind_stands at rest x e
      worded_at_stands at k rest x e = evaluated_at_stands (symbol.Keyword at k ∷ rest) x e

      compound_stands : (at : ℕ) (rest : List Symbol) (x : Statement × List Symbol) → (block_behind b rest >>= λ block. Ok (Compound (statements_of block.0), block.1)) ≡ Ok x → StatementStands limit entry d (symbol.Sign at signs.OpenBrace ∷ rest) x
      compound_stands at rest x e =
          let a = bind_ok (block_behind b rest) _ x e in
          closed_stands (Compound (statements_of a.value.0)) (symbol.Sign at signs.OpenBrace ∷ rest) a.value.1 x refl
          (stands_joined (sign_stands limit d at signs.OpenBrace rest within) (block_behind_stands rest a.value a.gave)) a.then_gave

      signed_at_stands : (at : ℕ) (s : Sign) (rest : List Symbol) (x : Statement × List Symbol) → signed_at n b s (symbol.Sign at s ∷ rest) rest ≡ Ok x → StatementStands limit entry d (symbol.Sign at s ∷ rest) x
      unfolding signed_at
      signed_at_stands at s rest x e =
          let Found : Sign → Type 0 = λ t. StatementStands limit entry d (symbol.Sign at t ∷ rest) x in
          elim (chosen (same_sign s signs.OpenBrace) _ _ (Ok x) e) [
            | inl c ↦ subst Found (sym (same_sign_is s signs.OpenBrace c.0)) (compound_stands at rest x c.1)
            | inr c ↦ elim (chosen (same_sign s signs.Semicolon) _ _ (Ok x) c.1) [
              | inl c ↦ subst Found (sym (same_sign_is s signs.Semicolon c.0))
                  (closed_stands Empty (symbol.Sign at signs.Semicolon ∷ rest) rest x refl (sign_stands limit d at signs.Semicolon rest within) c.1)
              | inr c ↦ evaluated_at_stands (symbol.Sign at s ∷ rest) x c.1
            ]
          ]

      statement_at_stands : (symbols : List Symbol) (x : Statement × List Symbol) → statement_at n b symbols ≡ Ok x → StatementStands limit entry d symbols x
      unfolding statement_at
      statement_at_stands [] x e = no_value _ x e
      statement_at_stands (symbol.Keyword at k ∷ rest) x e = worded_at_stands at k rest x e
      statement_at_stands (symbol.Sign at s ∷ rest) x e = signed_at_stands at s rest x e
      statement_at_stands (other ∷ rest) x e = evaluated_at_stands (other ∷ rest) x e

    pub entry_at_stands : ReadStands limit (statement true d) (entry_at n b)
    unfolding entry_at
    entry_at_stands symbols x e =
        elim (chosen (begins_base symbols) _ _ (Ok x) e) [
          | inl c ↦
              let a = bind_ok (declaration_at n symbols) _ x c.1 in
              let t = bind_ok (behind signs.Semicolon a.value.1) _ x a.then_gave in
              by_value (λ (y : Statement × List Symbol). Stands limit (statement true d y.0) symbols y.1) (Declared a.value.0, t.value) x t.then_gave
              (stands_when true refl (stands_joined (declaration_at_stands limit d within n expr_stands symbols a.value a.gave) (behind_stands limit d signs.Semicolon a.value.1 t.value within t.gave)))
          | inr c ↦ (statement_at_stands true symbols x c.1).stands
        ]

    entries_at_stands : (k : ℕ) → k ≤ limit → ReadStands limit (λ es. entries d (statements_of es) · sign k signs.CloseBrace) (entries_at n b)
    unfolding entries_at
    entries_at_stands k low symbols x e =
        let a = bind_ok (until_at (begins_sign signs.CloseBrace) (entry_at n b) (length symbols) [] symbols) _ x e in
        let all = until_at_stands limit (begins_sign signs.CloseBrace) (statement true d) (entry_at n b) entry_at_stands (length symbols) [] symbols a.value a.gave in
        let found : Stands limit (each (statement true d) a.value.0) symbols a.value.1 = subst (λ (xs : List Statement). Stands limit (each (statement true d) xs) symbols a.value.1) (sym all.is) all.stands in
        by_value (λ (y : List Statement × List Symbol). Stands limit (entries d (statements_of y.0) · sign k signs.CloseBrace) symbols y.1) (a.value.0, drop 1 a.value.1) x a.then_gave
        (stands_joined (stands_as (entries d (statements_of a.value.0)) (entries_of d a.value.0) found) (begins_sign_stands limit k signs.CloseBrace a.value.1 low all.stopped))

-- what reads one deeper reads what stands there
pub blocks_sound : ExprStands → (limit n d : ℕ) → d + n ≡ limit → AreSound limit d (blocks n)
unfolding blocks
blocks_sound law limit zero d whole = tt
blocks_sound law limit (suc n) d whole =
    let deeper : suc d + n ≡ limit = omega arith in
    let below = blocks_sound law limit n (suc d) deeper in
    record {
      statement_is = statement_at_stands law limit (suc d) n deeper (blocks n) below false;
      entries_is = entries_at_stands law limit (suc d) n deeper (blocks n) below d (omega arith);
    }

-- the entries of a block and its closing brace
pub body_stands : ExprStands → (limit n d : ℕ) → d + n ≡ limit → ReadStands limit (λ es. entries (suc d) (statements_of es) · sign d signs.CloseBrace) (block_behind (blocks n))
body_stands law limit n d whole = block_behind_stands law limit d n whole (blocks n) (blocks_sound law limit n d whole)
