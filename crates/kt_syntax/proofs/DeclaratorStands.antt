-- Declarators that are read, of fields, globals, parameters and locals, stand there.
use Rattle.std.proofs.Common.{◌≡◌, ℕ, suc, ◌-◌, ◌≤◌, inl, inr, Bool, nat_le, List, [], ◌∷◌, length, drop, Option, Some, None, Ok, sym, subst, arith, le-leb}
use Rattle.std.specs.Prelude.{if◌then◌else◌}
use Rattle.kt_lex.specs.declared.number.Number.{Number}
use Rattle.kt_grammar.specs.declared.keyword.Keyword.TheVariants as keywords
use Rattle.kt_grammar.specs.declared.operator.Dialect.TheVariants.{C}
use Rattle.kt_grammar.specs.declared.sign.Sign.{Sign}
use Rattle.kt_grammar.specs.declared.sign.Sign.TheVariants as signs
use Rattle.kt_grammar.specs.declared.symbol.Symbol.{Symbol}
use Rattle.kt_grammar.specs.declared.symbol.Symbol.TheVariants as symbol
use Rattle.kt_grammar.specs.declared.tree.Name.{Name}
use Rattle.kt_grammar.specs.Signs.{same_sign}
use Rattle.kt_grammar.specs.Marks.{Mark, token, sign, name, ◌·◌, repeated}
use Rattle.kt_grammar.specs.Spelling.{between, spells}
use Rattle.kt_grammar.specs.Cursor.{Outcome, behind, name_at, count_sign, listed_at}
use Rattle.kt_grammar.specs.Reading.{base_at, expr_at}
use Rattle.kt_grammar.specs.Laws.{Stands}
use Rattle.kt_grammar.specs.StandsLaws.{no_value, by_value, bind_ok, either, chosen_first, same_sign_is, nothing_stands, token_stands, stands_joined, stands_as, stands_when, sign_stands, keyword_stands, behind_stands, name_at_stands, count_sign_stands, base_at_stands}
use Rattle.kt_syntax.specs.declared.tree.Stars.{Stars}
use Rattle.kt_syntax.specs.declared.tree.Extent.{Extent}
use Rattle.kt_syntax.specs.declared.tree.Extent.TheVariants as extent
use Rattle.kt_syntax.specs.declared.tree.Pointer.{Pointer}
use Rattle.kt_syntax.specs.declared.tree.Declarator.{Declarator}
use Rattle.kt_syntax.specs.declared.tree.Constant.{Constant}
use Rattle.kt_syntax.specs.declared.tree.Constant.TheVariants as constant
use Rattle.kt_syntax.specs.declared.tree.GlobalDeclarator.{GlobalDeclarator}
use Rattle.kt_syntax.specs.declared.tree.Parameter.{Parameter}
use Rattle.kt_syntax.specs.declared.tree.Fields.{Fields}
use Rattle.kt_syntax.specs.Tree.{Local, Declaration}
use Rattle.kt_syntax.specs.Spelling.{maybe, number, stars, extent_name, extent_spelling, pointer, count, declarator, constant_spelling, global, parameter, fields, local, declaration}
use Rattle.kt_syntax.specs.Reading.{stars_at, extent_name_at, extent_behind, extent_at, pointer_behind, pointer_at, count_behind, count_at, declarator_behind, declarator_at, negative_at, constant_at, initial_at, global_behind, global_at, parameter_at, fields_at, value_at, local_at, declaration_at}
use Rattle.kt_syntax.specs.ListStands.{ReadStands, led_stands, separated_stands}

module _ (limit d : ℕ) (h : d ≤ limit) where
  -- ---- stars

  counted_stars : (at : ℕ) (rest : List Symbol) → Stands limit (stars d (record { at = at; count = suc (count_sign signs.Star rest) })) (symbol.Sign at signs.Star ∷ rest) (drop (count_sign signs.Star rest) rest)
  counted_stars at rest =
      let n = count_sign signs.Star rest in
      let one_less : n ≡ suc n - 1 = omega arith in
      stands_when (nat_le 1 (suc n)) (le-leb 1 (suc n) (omega arith))
      (stands_joined (token_stands limit d (symbol.Sign at signs.Star) rest h)
      (subst (λ (k : ℕ). Stands limit (repeated d signs.Star k) rest (drop n rest)) one_less (count_sign_stands limit d signs.Star rest h)))

  pub stars_at_stands : (symbols : List Symbol) → Stands limit (maybe (stars d) (stars_at symbols).0) symbols (stars_at symbols).1
  unfolding stars_at
  stars_at_stands (symbol.Sign at s ∷ rest) =
      let Found : Bool → Type 0 =
      λ b. let r : Option Stars × List Symbol = if b then (let n = count_sign signs.Star rest in (Some (record { at = at; count = suc n }), drop n rest)) else (None, symbol.Sign at s ∷ rest) in
      Stands limit (maybe (stars d) r.0) (symbol.Sign at s ∷ rest) r.1 in
      elim (either (same_sign s signs.Star)) [
        | inl t ↦ subst Found (sym t)
            (subst (λ (s : Sign). Stands limit (stars d (record { at = at; count = suc (count_sign signs.Star rest) })) (symbol.Sign at s ∷ rest) (drop (count_sign signs.Star rest) rest))
            (sym (same_sign_is s signs.Star t)) (counted_stars at rest))
        | inr f ↦ subst Found (sym f) (nothing_stands limit (symbol.Sign at s ∷ rest))
      ]
  stars_at_stands [] = nothing_stands limit []
  stars_at_stands (other ∷ rest) = nothing_stands limit (other ∷ rest)

  -- ---- pointers

  pub extent_name_at_stands : ReadStands limit (extent_name d) extent_name_at
  unfolding extent_name_at
  extent_name_at_stands (symbol.Name at word ∷ rest) x e =
      by_value (λ (y : Extent × List Symbol). Stands limit (extent_name d y.0) (symbol.Name at word ∷ rest) y.1) (extent.Name (record { at = at; word = word }), rest) x e
      (token_stands limit d (symbol.Name at word) rest h)
  extent_name_at_stands (symbol.Number at n ∷ rest) x e =
      by_value (λ (y : Extent × List Symbol). Stands limit (extent_name d y.0) (symbol.Number at n ∷ rest) y.1) (extent.Number at n, rest) x e
      (token_stands limit d (symbol.Number at n) rest h)
  extent_name_at_stands _ x e = no_value _ x e

  pub extent_behind_stands : ReadStands limit (λ x. between d (extent_name d x)) extent_behind
  extent_behind_stands symbols x e =
      let s = bind_ok (behind signs.OpenParenthesis symbols) _ x e in
      let t = bind_ok (extent_name_at s.value) _ x s.then_gave in
      let u = bind_ok (behind signs.CloseParenthesis t.value.1) _ x t.then_gave in
      by_value (λ (y : Extent × List Symbol). Stands limit (between d (extent_name d y.0)) symbols y.1) (t.value.0, u.value) x u.then_gave
      (stands_joined (behind_stands limit d signs.OpenParenthesis symbols s.value h s.gave)
      (stands_joined (extent_name_at_stands s.value t.value t.gave) (behind_stands limit d signs.CloseParenthesis t.value.1 u.value h u.gave)))

  pub extent_at_stands : ReadStands limit (maybe (extent_spelling d)) extent_at
  unfolding extent_at
  extent_at_stands (symbol.Keyword at keywords.PointerArray ∷ rest) x e =
      let s = bind_ok (extent_behind rest) _ x e in
      by_value (λ (y : Option Extent × List Symbol). Stands limit (maybe (extent_spelling d) y.0) (symbol.Keyword at keywords.PointerArray ∷ rest) y.1) (Some s.value.0, s.value.1) x s.then_gave
      (stands_joined (keyword_stands limit d at keywords.PointerArray rest h) (extent_behind_stands rest s.value s.gave))
  extent_at_stands symbols x e = by_value (λ (y : Option Extent × List Symbol). Stands limit (maybe (extent_spelling d) y.0) symbols y.1) (None, symbols) x e (nothing_stands limit symbols)

  pointer_behind_stands : (s : Option Stars) (symbols middle : List Symbol) (x : Option Pointer × List Symbol) → Stands limit (maybe (stars d) s) symbols middle → pointer_behind s middle ≡ Ok x → Stands limit (maybe (pointer d) x.0) symbols x.1
  unfolding pointer_behind
  pointer_behind_stands None symbols middle x front e = by_value (λ (y : Option Pointer × List Symbol). Stands limit (maybe (pointer d) y.0) symbols y.1) (None, middle) x e front
  pointer_behind_stands (Some s) symbols middle x front e =
      let t = bind_ok (extent_at middle) _ x e in
      by_value (λ (y : Option Pointer × List Symbol). Stands limit (maybe (pointer d) y.0) symbols y.1) (Some (record { stars = s; extent = t.value.0 }), t.value.1) x t.then_gave
      (stands_joined front (extent_at_stands middle t.value t.gave))

  pub pointer_at_stands : ReadStands limit (maybe (pointer d)) pointer_at
  pointer_at_stands symbols x e = pointer_behind_stands (stars_at symbols).0 symbols (stars_at symbols).1 x (stars_at_stands symbols) e

  -- ---- declarators

  pub number_stands : (at : ℕ) (n : Number) (rest : List Symbol) → Stands limit (number d n) (symbol.Number at n ∷ rest) rest
  number_stands at n rest = stands_as (number d n) (λ m t. (at, t)) (token_stands limit d (symbol.Number at n) rest h)

  count_behind_stands : ReadStands limit (λ n. number d n · sign d signs.CloseBracket) count_behind
  unfolding count_behind
  count_behind_stands (symbol.Number at n ∷ rest) x e =
      let s = bind_ok (behind signs.CloseBracket rest) _ x e in
      by_value (λ (y : Number × List Symbol). Stands limit (number d y.0 · sign d signs.CloseBracket) (symbol.Number at n ∷ rest) y.1) (n, s.value) x s.then_gave
      (stands_joined (number_stands at n rest) (behind_stands limit d signs.CloseBracket rest s.value h s.gave))
  count_behind_stands _ x e = no_value _ x e

  pub count_at_stands : ReadStands limit (maybe (count d)) count_at
  unfolding count_at
  count_at_stands symbols x e = led_stands limit d signs.OpenBracket (λ n. number d n · sign d signs.CloseBracket) count_behind h count_behind_stands symbols x e

  pub declarator_behind_stands : (p : Option Pointer) (n : Name) (symbols front middle : List Symbol) (x : Declarator × List Symbol) → Stands limit (maybe (pointer d) p) symbols front → Stands limit (name d n) front middle
      → declarator_behind p n middle ≡ Ok x → Stands limit (declarator d x.0) symbols x.1
  declarator_behind_stands p n symbols front middle x first second e =
      let c = bind_ok (count_at middle) _ x e in
      by_value (λ (y : Declarator × List Symbol). Stands limit (declarator d y.0) symbols y.1) (record { pointer = p; name = n; count = c.value.0 }, c.value.1) x c.then_gave
      (stands_joined first (stands_joined second (count_at_stands middle c.value c.gave)))

  pub declarator_at_stands : ReadStands limit (declarator d) declarator_at
  unfolding declarator_at
  declarator_at_stands symbols x e =
      let p = bind_ok (pointer_at symbols) _ x e in
      let n = bind_ok (name_at p.value.1) _ x p.then_gave in
      declarator_behind_stands p.value.0 n.value.0 symbols p.value.1 n.value.1 x (pointer_at_stands symbols p.value p.gave) (name_at_stands limit d p.value.1 n.value h n.gave) n.then_gave

  -- ---- globals

  negative_at_stands : (at : ℕ) (rest : List Symbol) (x : Constant × List Symbol) → negative_at rest ≡ Ok x → Stands limit (constant_spelling d x.0) (symbol.Sign at signs.Minus ∷ rest) x.1
  unfolding negative_at
  negative_at_stands at (symbol.Number place n ∷ rest) x e =
      by_value (λ (y : Constant × List Symbol). Stands limit (constant_spelling d y.0) (symbol.Sign at signs.Minus ∷ symbol.Number place n ∷ rest) y.1) (constant.Negative n, rest) x e
      (stands_joined (sign_stands limit d at signs.Minus (symbol.Number place n ∷ rest) h) (number_stands place n rest))
  negative_at_stands at _ x e = no_value _ x e

  -- a constant of one token
  single_stands : (s : Symbol) (rest : List Symbol) (c : Constant) (x : Constant × List Symbol) → ((marks : List Mark) → token d s marks → constant_spelling d c marks) → ◌≡◌ {A = Outcome Constant} (Ok (c, rest)) (Ok x)
      → Stands limit (constant_spelling d x.0) (s ∷ rest) x.1
  single_stands s rest c x f e =
      by_value (λ (y : Constant × List Symbol). Stands limit (constant_spelling d y.0) (s ∷ rest) y.1) (c, rest) x e
      (stands_as (constant_spelling d c) f (token_stands limit d s rest h))

  constant_at_stands : ReadStands limit (constant_spelling d) constant_at
  unfolding constant_at
  constant_at_stands (symbol.Number at n ∷ rest) x e = single_stands (symbol.Number at n) rest (constant.Number n) x (λ m t. (at, t)) e
  constant_at_stands (symbol.Sign at s ∷ rest) x e =
      let c = chosen_first (same_sign s signs.Minus) (negative_at rest) _ x e in
      subst (λ (s : Sign). Stands limit (constant_spelling d x.0) (symbol.Sign at s ∷ rest) x.1) (sym (same_sign_is s signs.Minus c.0)) (negative_at_stands at rest x c.1)
  constant_at_stands (symbol.Character at b ∷ rest) x e = single_stands (symbol.Character at b) rest (constant.Character b) x (λ m t. (at, t)) e
  constant_at_stands (symbol.Text at bytes ∷ rest) x e = single_stands (symbol.Text at bytes) rest (constant.Text at bytes) x (λ m t. t) e
  constant_at_stands (symbol.Keyword at keywords.Null ∷ rest) x e = single_stands (symbol.Keyword at keywords.Null) rest constant.Null x (λ m t. (at, t)) e
  constant_at_stands (symbol.Keyword at keywords.Eof ∷ rest) x e = single_stands (symbol.Keyword at keywords.Eof) rest constant.Eof x (λ m t. (at, t)) e
  constant_at_stands (symbol.Keyword at keywords.MutexInitializer ∷ rest) x e = single_stands (symbol.Keyword at keywords.MutexInitializer) rest constant.MutexInitializer x (λ m t. (at, t)) e
  constant_at_stands _ x e = no_value _ x e

  pub initial_at_stands : ReadStands limit (maybe (λ c. sign d signs.Assign · constant_spelling d c)) initial_at
  unfolding initial_at
  initial_at_stands symbols x e = led_stands limit d signs.Assign (constant_spelling d) constant_at h constant_at_stands symbols x e

  pub global_behind_stands : (p : Option Pointer) (n : Name) (symbols front middle : List Symbol) (x : GlobalDeclarator × List Symbol) → Stands limit (maybe (pointer d) p) symbols front → Stands limit (name d n) front middle
      → global_behind p n middle ≡ Ok x → Stands limit (global d x.0) symbols x.1
  unfolding global_behind
  global_behind_stands p n symbols front middle x first second e =
      let c = bind_ok (declarator_behind p n middle) _ x e in
      let i = bind_ok (initial_at c.value.1) _ x c.then_gave in
      by_value (λ (y : GlobalDeclarator × List Symbol). Stands limit (global d y.0) symbols y.1) (record { declarator = c.value.0; initial = i.value.0 }, i.value.1) x i.then_gave
      (stands_joined (declarator_behind_stands p n symbols front middle c.value first second c.gave) (initial_at_stands c.value.1 i.value i.gave))

  pub global_at_stands : ReadStands limit (global d) global_at
  unfolding global_at
  global_at_stands symbols x e =
      let p = bind_ok (pointer_at symbols) _ x e in
      let n = bind_ok (name_at p.value.1) _ x p.then_gave in
      global_behind_stands p.value.0 n.value.0 symbols p.value.1 n.value.1 x (pointer_at_stands symbols p.value p.gave) (name_at_stands limit d p.value.1 n.value h n.gave) n.then_gave

  -- ---- parameters and fields

  pub parameter_at_stands : ReadStands limit (parameter d) parameter_at
  unfolding parameter_at
  parameter_at_stands symbols x e =
      let b = bind_ok (base_at symbols) _ x e in
      let p = bind_ok (pointer_at b.value.1) _ x b.then_gave in
      let n = bind_ok (name_at p.value.1) _ x p.then_gave in
      by_value (λ (y : Parameter × List Symbol). Stands limit (parameter d y.0) symbols y.1) (record { base = b.value.0; pointer = p.value.0; name = n.value.0 }, n.value.1) x n.then_gave
      (stands_joined (base_at_stands limit d symbols b.value h b.gave)
      (stands_joined (pointer_at_stands b.value.1 p.value p.gave) (name_at_stands limit d p.value.1 n.value h n.gave)))

  pub fields_at_stands : ReadStands limit (fields d) fields_at
  unfolding fields_at
  fields_at_stands symbols x e =
      let b = bind_ok (base_at symbols) _ x e in
      let l = bind_ok (listed_at declarator_at (length b.value.1) [] b.value.1) _ x b.then_gave in
      let s = bind_ok (behind signs.Semicolon l.value.1) _ x l.then_gave in
      by_value (λ (y : Fields × List Symbol). Stands limit (fields d y.0) symbols y.1) (record { base = b.value.0; declarators = l.value.0 }, s.value) x s.then_gave
      (stands_joined (base_at_stands limit d symbols b.value h b.gave)
      (stands_joined (separated_stands limit d (declarator d) declarator_at h declarator_at_stands (length b.value.1) b.value.1 l.value l.gave) (behind_stands limit d signs.Semicolon l.value.1 s.value h s.gave)))

  -- ---- locals

  module _ (n : ℕ) (expr_stands : ReadStands limit (spells C d) (expr_at C n)) where
    pub value_at_stands : ReadStands limit (maybe (λ e. sign d signs.Assign · spells C d e)) (value_at n)
    unfolding value_at
    value_at_stands symbols x e = led_stands limit d signs.Assign (spells C d) (expr_at C n) h expr_stands symbols x e

    pub local_at_stands : ReadStands limit (local d) (local_at n)
    unfolding local_at
    local_at_stands symbols x e =
        let p = bind_ok (pointer_at symbols) _ x e in
        let i = bind_ok (name_at p.value.1) _ x p.then_gave in
        let v = bind_ok (value_at n i.value.1) _ x i.then_gave in
        by_value (λ (y : Local × List Symbol). Stands limit (local d y.0) symbols y.1) (record { pointer = p.value.0; name = i.value.0; initial = v.value.0 }, v.value.1) x v.then_gave
        (stands_joined (pointer_at_stands symbols p.value p.gave)
        (stands_joined (name_at_stands limit d p.value.1 i.value h i.gave) (value_at_stands i.value.1 v.value v.gave)))

    pub declaration_at_stands : ReadStands limit (declaration d) (declaration_at n)
    unfolding declaration_at
    declaration_at_stands symbols x e =
        let b = bind_ok (base_at symbols) _ x e in
        let l = bind_ok (listed_at (local_at n) (length b.value.1) [] b.value.1) _ x b.then_gave in
        by_value (λ (y : Declaration × List Symbol). Stands limit (declaration d y.0) symbols y.1) (record { base = b.value.0; locals = l.value.0 }, l.value.1) x l.then_gave
        (stands_joined (base_at_stands limit d symbols b.value h b.gave) (separated_stands limit d (local d) (local_at n) h local_at_stands (length b.value.1) b.value.1 l.value l.gave))
