-- Rules that are read, and so rule files, are what is spelled, no token of them too deep.
use Rattle.std.proofs.Common.{◌≡◌, ℕ, ◌≤◌, inl, inr, true, List, ◌∷◌, drop, Option, Some, None, Ok, arith}
use Rattle.kt_grammar.specs.declared.keyword.Keyword.TheVariants as keywords
use Rattle.kt_grammar.specs.declared.sign.Sign.TheVariants as signs
use Rattle.kt_grammar.specs.declared.symbol.Symbol.{Symbol}
use Rattle.kt_grammar.specs.declared.symbol.Symbol.TheVariants as symbol
use Rattle.kt_grammar.specs.declared.tree.Name.{Name}
use Rattle.kt_grammar.specs.Marks.{name}
use Rattle.kt_grammar.specs.Cursor.{◌>>=◌, begins_sign, behind, name_at}
use Rattle.kt_grammar.specs.Laws.{Stands, ExprStands}
use Rattle.kt_grammar.specs.TextLaws.{TextStands}
use Rattle.kt_grammar.specs.StandsLaws.{no_value, by_value, bind_ok, chosen, token_stands, stands_joined, keyword_stands, begins_sign_stands, behind_stands, name_at_stands}
use Rattle.kt_grammar.proofs.ListStands.{ReadStands}
use Rattle.kt_grammar.proofs.ItemTexts.{each_stands}
use Rattle.xf_syntax.specs.declared.tree.StructName.{StructName}
use Rattle.xf_syntax.specs.declared.tree.Target.{Target}
use Rattle.xf_syntax.specs.declared.tree.Target.TheVariants as target
use Rattle.xf_syntax.specs.declared.tree.Side.{Side}
use Rattle.xf_syntax.specs.declared.tree.Side.TheVariants as side
use Rattle.xf_syntax.specs.Tree.{Code, Rule, StructsPaired, Started, Moved}
use Rattle.xf_syntax.specs.Spelling.{struct_name, target_spelling, side_spelling, ending, rule, rules}
use Rattle.xf_syntax.specs.Reading.{code_at, ending_at, field_behind, field_at, target_at, named_behind, side_at, struct_name_at, moved_behind, paired_behind, struct_behind, started_behind, rule_at, rules_at}
use Rattle.xf_syntax.proofs.ActStands.{code_reads}

module _ (n : ℕ) where
  pub low : 0 ≤ n
  low = omega arith

  -- ---- sides

  -- `struct` and a name
  pub struct_stands : (at : ℕ) (rest : List Symbol) (x : Name × List Symbol) → name_at rest ≡ Ok x → Stands n (struct_name (record { at = at; name = x.0 })) (symbol.Keyword at keywords.Struct ∷ rest) x.1
  struct_stands at rest x e = stands_joined (token_stands n 0 (symbol.Keyword at keywords.Struct) rest low) (name_at_stands n 0 rest x low e)

  pub field_behind_stands : (s : StructName) (front symbols : List Symbol) (x : Target × List Symbol) → Stands n (struct_name s) front symbols → field_behind s symbols ≡ Ok x → Stands n (target_spelling x.0) front x.1
  unfolding field_behind
  field_behind_stands s front symbols x named e =
      let o = bind_ok (behind signs.Dot symbols) _ x e in
      let f = bind_ok (name_at o.value) _ x o.then_gave in
      by_value (λ (y : Target × List Symbol). Stands n (target_spelling y.0) front y.1) (target.Field s f.value.0, f.value.1) x f.then_gave
      (stands_joined named (stands_joined (behind_stands n 0 signs.Dot symbols o.value low o.gave) (name_at_stands n 0 o.value f.value low f.gave)))

  pub field_at_stands : (at : ℕ) (rest : List Symbol) (x : Target × List Symbol) → field_at at rest ≡ Ok x → Stands n (target_spelling x.0) (symbol.Keyword at keywords.Struct ∷ rest) x.1
  unfolding field_at
  field_at_stands at rest x e =
      let s = bind_ok (name_at rest) _ x e in
      field_behind_stands (record { at = at; name = s.value.0 }) (symbol.Keyword at keywords.Struct ∷ rest) s.value.1 x (struct_stands at rest s.value s.gave) s.then_gave

  global_stands : (symbols : List Symbol) (x : Target × List Symbol) → (name_at symbols >>= λ g. Ok (target.Global g.0, g.1)) ≡ Ok x → Stands n (target_spelling x.0) symbols x.1
  global_stands symbols x e =
      let g = bind_ok (name_at symbols) _ x e in
      by_value (λ (y : Target × List Symbol). Stands n (target_spelling y.0) symbols y.1) (target.Global g.value.0, g.value.1) x g.then_gave (name_at_stands n 0 symbols g.value low g.gave)

  pub target_at_stands : ReadStands n target_spelling target_at
  unfolding target_at
  target_at_stands (symbol.Keyword at keywords.Struct ∷ rest) x e = field_at_stands at rest x e
  target_at_stands symbols x e = global_stands symbols x e

  pub named_behind_stands : (i : Name) (front symbols : List Symbol) (x : Side × List Symbol) → Stands n (name 0 i) front symbols → named_behind i symbols ≡ Ok x → Stands n (side_spelling x.0) front x.1
  unfolding named_behind
  named_behind_stands i front symbols x named e =
      let Found : Side × List Symbol → Type 0 = λ y. Stands n (side_spelling y.0) front y.1 in
      elim (chosen (begins_sign signs.DoubleColon symbols) _ _ (Ok x) e) [
        | inl c ↦
            let y = bind_ok (name_at (drop 1 symbols)) _ x c.1 in
            by_value Found (side.Local i y.value.0, y.value.1) x y.then_gave
            (stands_joined named (stands_joined (begins_sign_stands n 0 signs.DoubleColon symbols low c.0) (name_at_stands n 0 (drop 1 symbols) y.value low y.gave)))
        | inr c ↦ by_value Found (side.Target (target.Global i), symbols) x c.1 named
      ]

  pub plain_side_stands : (symbols : List Symbol) (x : Side × List Symbol) → (name_at symbols >>= λ i. named_behind i.0 i.1) ≡ Ok x → Stands n (side_spelling x.0) symbols x.1
  plain_side_stands symbols x e =
      let i = bind_ok (name_at symbols) _ x e in
      named_behind_stands i.value.0 symbols i.value.1 x (name_at_stands n 0 symbols i.value low i.gave) i.then_gave

  pub side_at_stands : ReadStands n side_spelling side_at
  unfolding side_at
  side_at_stands (symbol.Keyword at keywords.Struct ∷ rest) x e =
      let t = bind_ok (field_at at rest) _ x e in
      by_value (λ (y : Side × List Symbol). Stands n (side_spelling y.0) (symbol.Keyword at keywords.Struct ∷ rest) y.1) (side.Target t.value.0, t.value.1) x t.then_gave (field_at_stands at rest t.value t.gave)
  side_at_stands symbols x e = plain_side_stands symbols x e

  pub struct_name_at_stands : ReadStands n struct_name struct_name_at
  unfolding struct_name_at
  struct_name_at_stands (symbol.Keyword at keywords.Struct ∷ rest) x e =
      let s = bind_ok (name_at rest) _ x e in
      by_value (λ (y : StructName × List Symbol). Stands n (struct_name y.0) (symbol.Keyword at keywords.Struct ∷ rest) y.1) (record { at = at; name = s.value.0 }, s.value.1) x s.then_gave (struct_stands at rest s.value s.gave)
  struct_name_at_stands _ x e = no_value _ x e

  -- ---- rules

  paired_behind_stands : (s : StructName) (front symbols : List Symbol) (x : Rule × List Symbol) → Stands n (struct_name s) front symbols → begins_sign signs.Arrow symbols ≡ true
      → paired_behind s (drop 1 symbols) ≡ Ok x → Stands n (rule x.0) front x.1
  unfolding paired_behind
  paired_behind_stands s front symbols x named arrow e =
      let t = bind_ok (struct_name_at (drop 1 symbols)) _ x e in
      let r = bind_ok (behind signs.Semicolon t.value.1) _ x t.then_gave in
      by_value (λ (y : Rule × List Symbol). Stands n (rule y.0) front y.1) (StructsPaired s t.value.0, r.value) x r.then_gave
      (stands_joined named
      (stands_joined (begins_sign_stands n 0 signs.Arrow symbols low arrow)
      (stands_joined (struct_name_at_stands (drop 1 symbols) t.value t.gave) (behind_stands n 0 signs.Semicolon t.value.1 r.value low r.gave))))

  module _ (law : ExprStands) where
    pub ending_at_stands : ReadStands n ending (ending_at n)
    unfolding ending_at
    ending_at_stands symbols x e =
        let Found : Option Code × List Symbol → Type 0 = λ y. Stands n (ending y.0) symbols y.1 in
        elim (chosen (begins_sign signs.Semicolon symbols) _ _ (Ok x) e) [
          | inl c ↦ by_value Found (None, drop 1 symbols) x c.1 (begins_sign_stands n 0 signs.Semicolon symbols low c.0)
          | inr c ↦
              let o = bind_ok (behind signs.Colon symbols) _ x c.1 in
              let b = bind_ok (code_at n o.value) _ x o.then_gave in
              by_value Found (Some b.value.0, b.value.1) x b.then_gave (stands_joined (behind_stands n 0 signs.Colon symbols o.value low o.gave) (code_reads law n o.value b.value b.gave))
        ]

    moved_behind_stands : (left : Side) (front symbols : List Symbol) (x : Rule × List Symbol) → Stands n (side_spelling left) front symbols → moved_behind n left symbols ≡ Ok x → Stands n (rule x.0) front x.1
    unfolding moved_behind
    moved_behind_stands left front symbols x first e =
        let o = bind_ok (behind signs.Arrow symbols) _ x e in
        let s = bind_ok (side_at o.value) _ x o.then_gave in
        let c = bind_ok (ending_at n s.value.1) _ x s.then_gave in
        by_value (λ (y : Rule × List Symbol). Stands n (rule y.0) front y.1) (Moved left s.value.0 c.value.0, c.value.1) x c.then_gave
        (stands_joined first
        (stands_joined (behind_stands n 0 signs.Arrow symbols o.value low o.gave)
        (stands_joined (side_at_stands o.value s.value s.gave) (ending_at_stands s.value.1 c.value c.gave))))

    struct_behind_stands : (s : StructName) (front symbols : List Symbol) (x : Rule × List Symbol) → Stands n (struct_name s) front symbols → struct_behind n s symbols ≡ Ok x → Stands n (rule x.0) front x.1
    unfolding struct_behind
    struct_behind_stands s front symbols x named e = elim (chosen (begins_sign signs.Arrow symbols) _ _ (Ok x) e) [
      | inl c ↦ paired_behind_stands s front symbols x named c.0 c.1
      | inr c ↦
          let f = bind_ok (field_behind s symbols) _ x c.1 in
          moved_behind_stands (side.Target f.value.0) front f.value.1 x (field_behind_stands s front symbols f.value named f.gave) f.then_gave
    ]

    started_behind_stands : (at : ℕ) (rest : List Symbol) (x : Rule × List Symbol) → started_behind n rest ≡ Ok x → Stands n (rule x.0) (symbol.Keyword at keywords.Init ∷ rest) x.1
    unfolding started_behind
    started_behind_stands at rest x e =
        let t = bind_ok (target_at rest) _ x e in
        let c = bind_ok (ending_at n t.value.1) _ x t.then_gave in
        by_value (λ (y : Rule × List Symbol). Stands n (rule y.0) (symbol.Keyword at keywords.Init ∷ rest) y.1) (Started t.value.0 c.value.0, c.value.1) x c.then_gave
        (stands_joined (keyword_stands n 0 at keywords.Init rest low) (stands_joined (target_at_stands rest t.value t.gave) (ending_at_stands t.value.1 c.value c.gave)))

    plain_rule_stands : (symbols : List Symbol) (x : Rule × List Symbol) → (name_at symbols >>= λ i. named_behind i.0 i.1 >>= λ left. moved_behind n left.0 left.1) ≡ Ok x → Stands n (rule x.0) symbols x.1
    plain_rule_stands symbols x e =
        let i = bind_ok (name_at symbols) _ x e in
        let l = bind_ok (named_behind i.value.0 i.value.1) _ x i.then_gave in
        moved_behind_stands l.value.0 symbols l.value.1 x (named_behind_stands i.value.0 symbols i.value.1 l.value (name_at_stands n 0 symbols i.value low i.gave) l.gave) l.then_gave

    pub rule_at_stands : ReadStands n rule (rule_at n)
    unfolding rule_at
    rule_at_stands (symbol.Keyword at keywords.Struct ∷ rest) x e =
        let s = bind_ok (name_at rest) _ x e in
        struct_behind_stands (record { at = at; name = s.value.0 }) (symbol.Keyword at keywords.Struct ∷ rest) s.value.1 x (struct_stands at rest s.value s.gave) s.then_gave
    rule_at_stands (symbol.Keyword at keywords.Init ∷ rest) x e = started_behind_stands at rest x e
    rule_at_stands symbols x e = plain_rule_stands symbols x e

-- a rule file that is read is one
pub rules_stand : ExprStands → TextStands rules rules_at
unfolding rules_at
rules_stand law n symbols xs rest e = each_stands rule (rule_at n) n (rule_at_stands n law) symbols xs rest e
