-- What is read as an expression is one, no token of it too deep.
use Rattle.std.proofs.Common.{◌≡◌, ℕ, zero, suc, ◌+◌, ◌-◌, ◌≤◌, Bool, true, false, not, cond, List, [], ◌∷◌, ◌++◌, length, drop, Option, Some, None, Result, Ok, refl, sym, ap, ◌∙◌, subst, inl, inr, arith, append_assoc, append-nil, nat_le, le-leb, lt-ltb, eq-eqb, ne_eqb, le_of_eq, ◌&&◌}
use Rattle.kt_grammar.specs.declared.keyword.Keyword.TheVariants as keywords
use Rattle.kt_grammar.specs.declared.keyword.RuleWord.{RuleWord}
use Rattle.kt_grammar.specs.declared.keyword.RuleWord.TheVariants as rule
use Rattle.kt_grammar.specs.declared.sign.Sign.{Sign}
use Rattle.kt_grammar.specs.declared.sign.Sign.TheVariants as sign
use Rattle.kt_grammar.specs.declared.symbol.Symbol.{Symbol}
use Rattle.kt_grammar.specs.declared.symbol.Symbol.TheVariants as symbol
use Rattle.kt_grammar.specs.declared.operator.Dialect.{Dialect}
use Rattle.kt_grammar.specs.declared.operator.PrefixOperator.{PrefixOperator}
use Rattle.kt_grammar.specs.declared.operator.StepOperator.{StepOperator}
use Rattle.kt_grammar.specs.declared.operator.BinaryOperator.{BinaryOperator}
use Rattle.kt_grammar.specs.declared.tree.Name.{Name}
use Rattle.kt_grammar.specs.Tree.{Term, Constant, Character, Text, Null, Eof, Named, Called, Parenthesised, SizeOf, RuleValue, OldSymbol, Transformed, NewObject, Element, Member, Pointed, Stepped, Prefixed, Converted, Operated, Chosen, Assigned, terms_of}
use Rattle.kt_grammar.specs.Signs.{is_c, same_sign, prefix_sign, has_prefix, step_sign, binary_sign, precedence, prefix_of, step_of}
use Rattle.kt_grammar.specs.Marks.{Mark, token, sign as sign_token, name, Joined, ◌·◌}
use Rattle.kt_grammar.specs.Spelling.{level, links, links_at, spells, arguments}
use Rattle.kt_grammar.specs.Cursor.{◌>>=◌, Outcome, begins_sign, behind, name_at, listed_at}
use Rattle.kt_grammar.specs.Reading.{Readers, begins_base, begins_expr, begins_postfix, type_at, between_at, deep, deep_level, more_at, index_at, stepped_at, postfix_at, arguments_at, named_at, old_symbol_at, fresh_at, new_object_at, transform_at, rule_at, primary_at, parenthesis_at, prefixed_at, unary_at, binary_here, assign_here, chain_at, choice_at, assignment_at, tail_at, climb_at, level_at, deeper, expr_at}
use Rattle.kt_grammar.specs.Laws.{Stands, ExprStands}
use Rattle.kt_grammar.specs.StandsLaws.{no_value, by_value, bind_ok, chosen, chosen_first, chosen_second, both_true, same_sign_is, nothing_stands, token_stands, stands_joined, stands_as, stands_when, begins_sign_stands, behind_stands, name_at_stands, type_at_stands, between_at_stands, listed, listed_at_stands}
use Rattle.kt_grammar.proofs.Operators.{picked, prefix_of-is, step_of-is, sign_is_stands, binary_here-is, assign_here-is}
use Rattle.kt_grammar.proofs.NewObjects.{fresh_at_stands}

-- what stands behind an expression and makes another of it
abbrev pub continues : Dialect → ℕ → Term → Term → List Mark → Type 0
continues g d x y marks = (before : List Mark) → spells g d x before → spells g d y (before ++ marks)

-- an expression of at least a level stands there
pub record LevelStands (g : Dialect) (limit d least : ℕ) (symbols : List Symbol) (y : Term × List Symbol) : Type 0 where
  pub stands : Stands limit (spells g d y.0) symbols y.1
  pub at_least : least ≤ level y.0

-- what makes of x an expression of at least a level stands there
pub record GoesOn (g : Dialect) (limit d least : ℕ) (x : Term) (symbols : List Symbol) (y : Term × List Symbol) : Type 0 where
  pub stands : Stands limit (continues g d x y.0) symbols y.1
  pub at_least : least ≤ level y.0

-- what these read at a depth stands there
pub record IsSound (g : Dialect) (limit d : ℕ) (r : Readers) : Type 0 where
  pub within : d ≤ limit
  pub level_is : (least : ℕ) (symbols : List Symbol) (y : Term × List Symbol) → least ≤ 8 → r.level least symbols ≡ Ok y → LevelStands g limit d least symbols y
  pub chain_is : (start l : ℕ) (x : Term) (symbols : List Symbol) (y : Term × List Symbol) → start + links_at l x ≡ d → l ≤ 7 → l ≤ level x → r.chain l x symbols ≡ Ok y → GoesOn g limit start l x symbols y
  pub postfix_is : (start : ℕ) (x : Term) (symbols : List Symbol) (y : Term × List Symbol) → start + links x ≡ d → 9 ≤ level x → r.postfix x symbols ≡ Ok y → GoesOn g limit start 9 x symbols y

abbrev pub AreSound : Dialect → ℕ → ℕ → Option Readers → Type 0
AreSound g limit d None = Unit {0}
AreSound g limit d (Some r) = IsSound g limit d r

-- ---- going on

pub goes_nowhere : (g : Dialect) (limit d least : ℕ) (x : Term) (symbols : List Symbol) → least ≤ level x → GoesOn g limit d least x symbols (x, symbols)
goes_nowhere g limit d least x symbols h = record {
  stands = stands_as (continues g d x x) (λ m n before s. subst (spells g d x) (sym (append-nil before) ∙ ap (λ (m : List Mark). before ++ m) (sym n)) s) (nothing_stands limit symbols);
  at_least = h;
}

pub goes_further : (g : Dialect) (limit d k l : ℕ) (x : Term) (symbols : List Symbol) (y z : Term × List Symbol) → GoesOn g limit d k x symbols y → GoesOn g limit d l y.0 y.1 z → GoesOn g limit d l x symbols z
goes_further g limit d k l x symbols y z a b = record {
  stands = stands_as (continues g d x z.0)
      (λ m j before s. subst (spells g d z.0) (append_assoc before j.front j.back ∙ ap (λ (m : List Mark). before ++ m) (sym j.parts)) (j.second (before ++ j.front) (j.first before s)))
      (stands_joined a.stands b.stands);
  at_least = b.at_least;
}

pub goes_behind : (g : Dialect) (limit d l : ℕ) (symbols : List Symbol) (x y : Term × List Symbol) → Stands limit (spells g d x.0) symbols x.1 → GoesOn g limit d l x.0 x.1 y → LevelStands g limit d l symbols y
goes_behind g limit d l symbols x y a b = record {
  stands = stands_as (spells g d y.0) (λ m j. subst (spells g d y.0) (sym j.parts) (j.second j.front j.first)) (stands_joined a b.stands);
  at_least = b.at_least;
}

-- one more part behind an expression
pub continued : (g : Dialect) (d : ℕ) (x y : Term) (B : List Mark → Type 0) → ((marks : List Mark) → Joined (spells g d x) B marks → spells g d y marks) → (marks : List Mark) → B marks → continues g d x y marks
continued g d x y B f marks b before a = f (before ++ marks) (record { front = before; back = marks; parts = refl; first = a; second = b })

-- one more part stands behind an expression
pub goes_once : (g : Dialect) (limit d l : ℕ) (x y : Term) (symbols rest : List Symbol) (B : List Mark → Type 0) → ((marks : List Mark) → Joined (spells g d x) B marks → spells g d y marks) → l ≤ level y → Stands limit B symbols rest
    → GoesOn g limit d l x symbols (y, rest)
goes_once g limit d l x y symbols rest B f h s = record {
  stands = stands_as (continues g d x y) (continued g d x y B f) s;
  at_least = h;
}

-- ---- one deeper

pub deep-is : {A : Type 0} (r : Option Readers) (begins : List Symbol → Bool) (read : Readers → List Symbol → Result A _) (symbols : List Symbol) (y : A) → deep r begins read symbols ≡ Ok y → (s : Readers) × (r ≡ Some s) × (read s symbols ≡ Ok y)
deep-is None begins read symbols y e = elim (chosen (begins symbols) _ _ (Ok y) e) [
  | inl c ↦ no_value _ y c.1
  | inr c ↦ no_value _ y c.1
]
deep-is (Some s) begins read symbols y e = (s, refl, e)

pub deep_level-is : (g : Dialect) (limit d : ℕ) (r : Option Readers) → AreSound g limit d r → (least : ℕ) (symbols : List Symbol) (y : Term × List Symbol) → least ≤ 8 → deep_level g r least symbols ≡ Ok y → LevelStands g limit d least symbols y
deep_level-is g limit d r sound least symbols y h e =
    let s = deep-is r (begins_expr g) (λ r. r.level least) symbols y e in
    let one : IsSound g limit d s.0 = subst (AreSound g limit d) s.1 sound in
    one.level_is least symbols y h s.2

pub more_at-is : (g : Dialect) (limit d : ℕ) (r : Option Readers) → AreSound g limit d r → (start : ℕ) (x : Term) (symbols : List Symbol) (y : Term × List Symbol) → start + links x ≡ d → 9 ≤ level x → more_at g r x symbols ≡ Ok y
    → GoesOn g limit start 9 x symbols y
more_at-is g limit d None sound start x symbols y at h e =
    let c = chosen_second (begins_postfix g symbols) (Ok (x, symbols)) _ y e in
    by_value (GoesOn g limit start 9 x symbols) (x, symbols) y c.1 (goes_nowhere g limit start 9 x symbols h)
more_at-is g limit d (Some r) sound start x symbols y at h e = sound.postfix_is start x symbols y at h e

-- ---- postfix operators

module _ (g : Dialect) (limit start : ℕ) (r : Option Readers) (x : Term) (h : 9 ≤ level x) (within : start + links x ≤ limit) (sound : AreSound g limit (suc (start + links x)) r) where
  -- a postfix operator that is read, and those behind it
  one_more : (made : Term) (rest : List Symbol) (y : Term × List Symbol) → links made ≡ suc (links x) → 9 ≤ level made → more_at g r made rest ≡ Ok y → GoesOn g limit start 9 made rest y
  one_more made rest y more high e = more_at-is g limit (suc (start + links x)) r sound start made rest y (let m : start + suc (links x) ≡ suc (start + links x) = omega arith in ap (λ k. start + k) more ∙ m) high e

  pub index_once : (symbols inner : List Symbol) (i : Term × List Symbol) (rest : List Symbol) → Stands limit (sign_token (start + links x) sign.OpenBracket) symbols inner
      → LevelStands g limit (suc (start + links x)) 0 inner i → behind sign.CloseBracket i.1 ≡ Ok rest → GoesOn g limit start 9 x symbols (Element x i.0, rest)
  index_once symbols inner i rest opened inside e = goes_once g limit start 9 x (Element x i.0) symbols rest _ (λ m j. (le-leb 9 (level x) h, j)) (omega arith)
      (stands_joined opened (stands_joined inside.stands (behind_stands limit (start + links x) sign.CloseBracket i.1 rest within e)))

  index_at-is : (symbols inner : List Symbol) (y : Term × List Symbol) → Stands limit (sign_token (start + links x) sign.OpenBracket) symbols inner → index_at g r x inner ≡ Ok y → GoesOn g limit start 9 x symbols y
  unfolding index_at
  index_at-is symbols inner y opened e =
      let i = bind_ok (deep_level g r 0 inner) _ y e in
      let t = bind_ok (behind sign.CloseBracket i.value.1) _ y i.then_gave in
      let inside = deep_level-is g limit (suc (start + links x)) r sound 0 inner i.value (omega arith) i.gave in
      goes_further g limit start 9 9 x symbols (Element x i.value.0, t.value) y (index_once symbols inner i.value t.value opened inside t.gave)
      (one_more (Element x i.value.0) t.value y refl (omega arith) t.then_gave)

  pub member_once : (symbols inner : List Symbol) (n : Name × List Symbol) → Stands limit (sign_token (start + links x) sign.Dot) symbols inner → name_at inner ≡ Ok n → GoesOn g limit start 9 x symbols (Member x n.0, n.1)
  member_once symbols inner n dot e = goes_once g limit start 9 x (Member x n.0) symbols n.1 _ (λ m j. (le-leb 9 (level x) h, j)) (omega arith)
      (stands_joined dot (name_at_stands limit (start + links x) inner n within e))

  member_at-is : (symbols inner : List Symbol) (y : Term × List Symbol) → Stands limit (sign_token (start + links x) sign.Dot) symbols inner
      → (name_at inner >>= λ n. more_at g r (Member x n.0) n.1) ≡ Ok y → GoesOn g limit start 9 x symbols y
  member_at-is symbols inner y dot e =
      let n = bind_ok (name_at inner) _ y e in
      goes_further g limit start 9 9 x symbols (Member x n.value.0, n.value.1) y (member_once symbols inner n.value dot n.gave)
      (one_more (Member x n.value.0) n.value.1 y refl (omega arith) n.then_gave)

  pub pointed_once : (symbols inner : List Symbol) (n : Name × List Symbol) → Stands limit (sign_token (start + links x) sign.Arrow) symbols inner → name_at inner ≡ Ok n → GoesOn g limit start 9 x symbols (Pointed x n.0, n.1)
  pointed_once symbols inner n arrow e = goes_once g limit start 9 x (Pointed x n.0) symbols n.1 _ (λ m j. (le-leb 9 (level x) h, j)) (omega arith)
      (stands_joined arrow (name_at_stands limit (start + links x) inner n within e))

  pointed_at-is : (symbols inner : List Symbol) (y : Term × List Symbol) → Stands limit (sign_token (start + links x) sign.Arrow) symbols inner
      → (name_at inner >>= λ n. more_at g r (Pointed x n.0) n.1) ≡ Ok y → GoesOn g limit start 9 x symbols y
  pointed_at-is symbols inner y arrow e =
      let n = bind_ok (name_at inner) _ y e in
      goes_further g limit start 9 9 x symbols (Pointed x n.value.0, n.value.1) y (pointed_once symbols inner n.value arrow n.gave)
      (one_more (Pointed x n.value.0) n.value.1 y refl (omega arith) n.then_gave)

  pub step_once : (at : ℕ) (s : Sign) (op : StepOperator) (rest : List Symbol) → step_of g s ≡ Some op → GoesOn g limit start 9 x (symbol.Sign at s ∷ rest) (Stepped x op, rest)
  step_once at s op rest e =
      let is = step_of-is g s op e in
      goes_once g limit start 9 x (Stepped x op) (symbol.Sign at s ∷ rest) rest _ (λ m j. (is.0, (le-leb 9 (level x) h, j))) (omega arith)
      (sign_is_stands limit (start + links x) at s (step_sign op) rest within is.1)

  stepped_at-is : (at : ℕ) (s : Sign) (rest : List Symbol) (y : Term × List Symbol) → stepped_at g r x s (symbol.Sign at s ∷ rest) rest ≡ Ok y → GoesOn g limit start 9 x (symbol.Sign at s ∷ rest) y
  unfolding stepped_at
  stepped_at-is at s rest y e = elim (picked (step_of g s) _ _ (Ok y) e) [
    | inl none ↦ by_value (GoesOn g limit start 9 x (symbol.Sign at s ∷ rest)) (x, symbol.Sign at s ∷ rest) y none.1 (goes_nowhere g limit start 9 x (symbol.Sign at s ∷ rest) h)
    | inr some ↦ goes_further g limit start 9 9 x (symbol.Sign at s ∷ rest) (Stepped x some.0, rest) y (step_once at s some.0 rest some.1)
        (one_more (Stepped x some.0) rest y refl (omega arith) some.2)
  ]

  signed_postfix_at-is : (at : ℕ) (s : Sign) (rest : List Symbol) (y : Term × List Symbol) → postfix_at g r x (symbol.Sign at s ∷ rest) ≡ Ok y → GoesOn g limit start 9 x (symbol.Sign at s ∷ rest) y
  unfolding postfix_at
  signed_postfix_at-is at s rest y e =
      let front : (t : Sign) → same_sign s t ≡ true → Stands limit (sign_token (start + links x) t) (symbol.Sign at s ∷ rest) rest
      = λ t same. sign_is_stands limit (start + links x) at s t rest within (same_sign_is s t same) in
      elim (chosen (same_sign s sign.OpenBracket) _ _ (Ok y) e) [
        | inl a ↦ index_at-is (symbol.Sign at s ∷ rest) rest y (front sign.OpenBracket a.0) a.1
        | inr a ↦ elim (chosen (same_sign s sign.Dot) _ _ (Ok y) a.1) [
          | inl b ↦ member_at-is (symbol.Sign at s ∷ rest) rest y (front sign.Dot b.0) b.1
          | inr b ↦ elim (chosen (same_sign s sign.Arrow) _ _ (Ok y) b.1) [
            | inl c ↦ pointed_at-is (symbol.Sign at s ∷ rest) rest y (front sign.Arrow c.0) c.1
            | inr c ↦ stepped_at-is at s rest y c.1
          ]
        ]
      ]

  pub postfix_at-is : (symbols : List Symbol) (y : Term × List Symbol) → postfix_at g r x symbols ≡ Ok y → GoesOn g limit start 9 x symbols y
  unfolding postfix_at
  postfix_at-is (symbol.Sign at s ∷ rest) y e = signed_postfix_at-is at s rest y e
  postfix_at-is [] y e = by_value (GoesOn g limit start 9 x []) (x, []) y e (goes_nowhere g limit start 9 x [] h)
  postfix_at-is (other ∷ rest) y e = by_value (GoesOn g limit start 9 x (other ∷ rest)) (x, other ∷ rest) y e (goes_nowhere g limit start 9 x (other ∷ rest) h)

-- ---- chains of binary operators

-- an expression of a higher level has no operator of this one
pub no_links : (l : ℕ) (x : Term) → suc l ≤ level x → links_at l x ≡ 0
no_links l x h = ap (λ (t : Bool). cond t (links x) 0) (ne_eqb (level x) l (λ e. let clash : ⊥ = omega arith in clash))

-- a chain is one operator longer with the next one
one_link : (op : BinaryOperator) (x y : Term) → links_at (precedence op) (Operated op x y) ≡ suc (links_at (precedence op) x)
one_link op x y = ap (λ (t : Bool). cond t (suc (links_at (precedence op) x)) 0) (eq-eqb (precedence op) (precedence op) refl)

-- the operator of a level and its right operand, behind the left one
pub operated : (g : Dialect) (start l : ℕ) (op : BinaryOperator) (x y : Term) → precedence op ≡ l → l ≤ level x → suc l ≤ level y → (marks : List Mark)
    → Joined (spells g start x) (sign_token (start + links_at l x) (binary_sign op) · spells g (suc (start + links_at l x)) y) marks → spells g start (Operated op x y) marks
operated g start l op x y is low high marks j =
    subst (λ (l : ℕ). l ≤ level x → suc l ≤ level y → Joined (spells g start x) (sign_token (start + links_at l x) (binary_sign op) · spells g (suc (start + links_at l x)) y) marks → spells g start (Operated op x y) marks) is
    (λ low high j. (le-leb (precedence op) (level x) low, (lt-ltb (precedence op) (level y) high, j))) low high j

-- the next operator of a chain is one deeper
pub deeper_link : (start l : ℕ) (op : BinaryOperator) (x y : Term) → precedence op ≡ l → start + links_at l (Operated op x y) ≡ suc (start + links_at l x)
deeper_link start l op x y is = subst (λ (l : ℕ). start + links_at l (Operated op x y) ≡ suc (start + links_at l x)) is (ap (λ k. start + k) (one_link op x y) ∙ omega arith)

pub chain_once : (g : Dialect) (limit start l : ℕ) (x : Term) (symbols : List Symbol) (op : BinaryOperator) (y : Term × List Symbol) → l ≤ level x → precedence op ≡ l
    → Stands limit (sign_token (start + links_at l x) (binary_sign op)) symbols (drop 1 symbols) → LevelStands g limit (suc (start + links_at l x)) (suc l) (drop 1 symbols) y
    → GoesOn g limit start l x symbols (Operated op x y.0, y.1)
chain_once g limit start l x symbols op y h is front right =
    goes_once g limit start l x (Operated op x y.0) symbols y.1 (sign_token (start + links_at l x) (binary_sign op) · spells g (suc (start + links_at l x)) y.0)
    (operated g start l op x y.0 is h right.at_least) (le_of_eq (sym is)) (stands_joined front right.stands)

chain_with : (g : Dialect) (limit start l : ℕ) (r : Readers) (x : Term) (symbols : List Symbol) (op : BinaryOperator) (y : Term × List Symbol) → l ≤ 7 → l ≤ level x → IsSound g limit (suc (start + links_at l x)) r
    → precedence op ≡ l → Stands limit (sign_token (start + links_at l x) (binary_sign op)) symbols (drop 1 symbols)
    → (r.level (suc l) (drop 1 symbols) >>= λ y. r.chain l (Operated op x y.0) y.1) ≡ Ok y → GoesOn g limit start l x symbols y
chain_with g limit start l r x symbols op y small h sound is front e =
    let s = bind_ok (r.level (suc l) (drop 1 symbols)) _ y e in
    let right = sound.level_is (suc l) (drop 1 symbols) s.value (omega arith) s.gave in
    let made = Operated op x s.value.0 in
    goes_further g limit start l l x symbols (made, s.value.1) y (chain_once g limit start l x symbols op s.value h is front right)
    (sound.chain_is start l made s.value.1 y (deeper_link start l op x s.value.0 is) small (le_of_eq (sym is)) s.then_gave)

chain_at-is : (g : Dialect) (limit start l : ℕ) (r : Option Readers) (x : Term) → l ≤ 7 → l ≤ level x → start + links_at l x ≤ limit → AreSound g limit (suc (start + links_at l x)) r
    → (symbols : List Symbol) (y : Term × List Symbol) → chain_at g r l x symbols ≡ Ok y → GoesOn g limit start l x symbols y
unfolding chain_at
chain_at-is g limit start l r x small h within sound symbols y e = elim (picked (binary_here l symbols) _ _ (Ok y) e) [
  | inl none ↦ by_value (GoesOn g limit start l x symbols) (x, symbols) y none.1 (goes_nowhere g limit start l x symbols h)
  | inr some ↦
      let front = binary_here-is limit (start + links_at l x) l symbols some.0 within some.1 in
      let s = deep-is r (begins_expr g) _ (drop 1 symbols) y some.2 in
      chain_with g limit start l s.0 x symbols some.0 y small h (subst (AreSound g limit (suc (start + links_at l x))) s.1 sound) front.0 front.1 s.2
]

-- ---- what goes on behind an expression

module _ (g : Dialect) (limit d : ℕ) (r : Option Readers) (within : d ≤ limit) (sound : AreSound g limit (suc d) r) where
  choice_at-is : (x : Term) (symbols : List Symbol) (y : Term × List Symbol) → 2 ≤ level x → choice_at g r x symbols ≡ Ok y → GoesOn g limit d 1 x symbols y
  unfolding choice_at
  choice_at-is x symbols y h e = elim (chosen (begins_sign sign.Question symbols) _ _ (Ok y) e) [
    | inl c ↦
        let a = bind_ok (deep_level g r 0 (drop 1 symbols)) _ y c.1 in
        let t = bind_ok (behind sign.Colon a.value.1) _ y a.then_gave in
        let b = bind_ok (deep_level g r 1 t.value) _ y t.then_gave in
        let middle = deep_level-is g limit (suc d) r sound 0 (drop 1 symbols) a.value (omega arith) a.gave in
        let last = deep_level-is g limit (suc d) r sound 1 t.value b.value (omega arith) b.gave in
        by_value (GoesOn g limit d 1 x symbols) (Chosen x a.value.0 b.value.0, b.value.1) y b.then_gave
        (goes_once g limit d 1 x (Chosen x a.value.0 b.value.0) symbols b.value.1 _ (λ m j. (le-leb 2 (level x) h, (le-leb 1 (level b.value.0) last.at_least, j))) (omega arith)
        (stands_joined (begins_sign_stands limit d sign.Question symbols within c.0)
        (stands_joined middle.stands (stands_joined (behind_stands limit d sign.Colon a.value.1 t.value within t.gave) last.stands))))
    | inr c ↦ by_value (GoesOn g limit d 1 x symbols) (x, symbols) y c.1 (goes_nowhere g limit d 1 x symbols (omega arith))
  ]

  assignment_at-is : (x : Term) (symbols : List Symbol) (y : Term × List Symbol) → 1 ≤ level x → assignment_at g r x symbols ≡ Ok y → GoesOn g limit d 0 x symbols y
  unfolding assignment_at
  assignment_at-is x symbols y h e = elim (picked (assign_here g symbols) _ _ (Ok y) e) [
    | inl none ↦ by_value (GoesOn g limit d 0 x symbols) (x, symbols) y none.1 (goes_nowhere g limit d 0 x symbols (omega arith))
    | inr some ↦
        let front = assign_here-is limit d g symbols some.0 within some.1 in
        let b = bind_ok (deep_level g r 0 (drop 1 symbols)) _ y some.2 in
        let right = deep_level-is g limit (suc d) r sound 0 (drop 1 symbols) b.value (omega arith) b.gave in
        by_value (GoesOn g limit d 0 x symbols) (Assigned some.0 x b.value.0, b.value.1) y b.then_gave
        (goes_once g limit d 0 x (Assigned some.0 x b.value.0) symbols b.value.1 _ (λ m j. (front.0, (le-leb 1 (level x) h, j))) (omega arith)
        (stands_joined front.1 right.stands))
  ]

  pub tail_at-is : (l : ℕ) (x : Term) (symbols : List Symbol) (y : Term × List Symbol) → l ≤ 7 → suc l ≤ level x → tail_at g r l x symbols ≡ Ok y → GoesOn g limit d l x symbols y
  unfolding tail_at
  tail_at-is zero x symbols y small h e = assignment_at-is x symbols y h e
  tail_at-is (suc zero) x symbols y small h e = choice_at-is x symbols y h e
  tail_at-is (suc (suc k)) x symbols y small h e =
      let none = no_links (suc (suc k)) x h in
      let at : d ≡ d + links_at (suc (suc k)) x = omega arith in
      chain_at-is g limit d (suc (suc k)) r x small (omega arith) (omega arith) (subst (λ (d : ℕ). AreSound g limit (suc d) r) at sound) symbols y e

  climb_at-is : (least n : ℕ) (x : Term) (symbols : List Symbol) (y : Term × List Symbol) → least + n ≤ 8 → least + n ≤ level x → climb_at g r least n x symbols ≡ Ok y → GoesOn g limit d least x symbols y
  unfolding climb_at
  climb_at-is least zero x symbols y small h e = by_value (GoesOn g limit d least x symbols) (x, symbols) y e (goes_nowhere g limit d least x symbols (omega arith))
  climb_at-is least (suc n) x symbols y small h e =
      let s = bind_ok (tail_at g r (least + n) x symbols) _ y e in
      let one = tail_at-is (least + n) x symbols s.value (omega arith) (omega arith) s.gave in
      goes_further g limit d (least + n) least x symbols s.value y one (climb_at-is least n s.value.0 s.value.1 y (omega arith) one.at_least s.then_gave)

-- ---- primary expressions

-- a primary expression stands there
pub record PrimaryStands (g : Dialect) (limit d : ℕ) (symbols : List Symbol) (y : Term × List Symbol) : Type 0 where
  pub stands : Stands limit (spells g d y.0) symbols y.1
  pub level_is : level y.0 ≡ 9
  pub links_are : links y.0 ≡ 0

primary : {g : Dialect} {limit d : ℕ} {symbols rest : List Symbol} (x : Term) (y : Term × List Symbol) → ◌≡◌ {A = Outcome Term} (Ok (x, rest)) (Ok y) → level x ≡ 9 → links x ≡ 0 → Stands limit (spells g d x) symbols rest → PrimaryStands g limit d symbols y
primary {g} {limit} {d} {symbols} {rest} x y e l k s = by_value (PrimaryStands g limit d symbols) (x, rest) y e (record { stands = s; level_is = l; links_are = k })

-- what is listed are arguments
pub listed_arguments : (g : Dialect) (d : ℕ) (items : List Term) (marks : List Mark) → listed d (spells g d) items marks → arguments g d (terms_of items) marks
listed_arguments g d [] marks l = l
listed_arguments g d (x ∷ []) marks l = l
listed_arguments g d (x ∷ y ∷ items) marks l = record {
  front = l.front;
  back = l.back;
  parts = l.parts;
  first = l.first;
  second = record {
    front = l.second.front;
    back = l.second.back;
    parts = l.second.parts;
    first = l.second.first;
    second = listed_arguments g d (y ∷ items) l.second.back l.second.second;
  };
}

module _ (g : Dialect) (limit d : ℕ) (r : Option Readers) (within : d ≤ limit) (sound : AreSound g limit (suc d) r) where
  pub listed_terms : (s : Readers) → r ≡ Some s → (symbols : List Symbol) (y : List Term × List Symbol) → listed_at (s.level 0) (length symbols) [] symbols ≡ Ok y
      → Stands limit (arguments g (suc d) (terms_of y.0)) symbols y.1
  listed_terms s is symbols y e =
      let one : IsSound g limit (suc d) s = subst (AreSound g limit (suc d)) is sound in
      let l = listed_at_stands limit (suc d) (spells g (suc d)) (s.level 0) one.within (λ symbols x e. (one.level_is 0 symbols x (omega arith) e).stands) (length symbols) [] symbols y e in
      subst (λ (items : List Term). Stands limit (arguments g (suc d) (terms_of items)) symbols y.1) (sym l.is)
      (stands_as (arguments g (suc d) (terms_of (l.first ∷ l.others))) (listed_arguments g (suc d) (l.first ∷ l.others)) l.stands)

  pub arguments_at-is : (symbols : List Symbol) (y : List Term × List Symbol) → arguments_at g r symbols ≡ Ok y
      → Stands limit (arguments g (suc d) (terms_of y.0) · sign_token d sign.CloseParenthesis) symbols y.1
  unfolding arguments_at
  arguments_at-is symbols y e =
      let Ends : List Term × List Symbol → Type 0 = λ y. Stands limit (arguments g (suc d) (terms_of y.0) · sign_token d sign.CloseParenthesis) symbols y.1 in
      elim (chosen (begins_sign sign.CloseParenthesis symbols) _ _ (Ok y) e) [
        | inl c ↦ by_value Ends ([], drop 1 symbols) y c.1 (stands_joined (nothing_stands limit symbols) (begins_sign_stands limit d sign.CloseParenthesis symbols within c.0))
        | inr c ↦
            let a = bind_ok (deep r (begins_expr g) (λ r. listed_at (r.level 0) (length symbols) []) symbols) _ y c.1 in
            let t = bind_ok (behind sign.CloseParenthesis a.value.1) _ y a.then_gave in
            let s = deep-is r (begins_expr g) (λ r. listed_at (r.level 0) (length symbols) []) symbols a.value a.gave in
            by_value Ends (a.value.0, t.value) y t.then_gave
            (stands_joined (listed_terms s.0 s.1 symbols a.value s.2) (behind_stands limit d sign.CloseParenthesis a.value.1 t.value within t.gave))
      ]

  named_at-is : (n : Name) (symbols rest : List Symbol) (y : Term × List Symbol) → Stands limit (name d n) symbols rest → named_at g r n rest ≡ Ok y → PrimaryStands g limit d symbols y
  unfolding named_at
  named_at-is n symbols rest y named e = elim (chosen (is_c g && begins_sign sign.OpenParenthesis rest) _ _ (Ok y) e) [
    | inl c ↦
        let both = both_true (is_c g) (begins_sign sign.OpenParenthesis rest) c.0 in
        let a = bind_ok (arguments_at g r (drop 1 rest)) _ y c.1 in
        primary (Called n (terms_of a.value.0)) y a.then_gave refl refl
        (stands_when (is_c g) both.0 (stands_joined named
        (stands_joined (begins_sign_stands limit d sign.OpenParenthesis rest within both.1) (arguments_at-is (drop 1 rest) a.value a.gave))))
    | inr c ↦ primary (Named n) y c.1 refl refl named
  ]

  old_symbol_at-is : (at : ℕ) (rest : List Symbol) (y : Term × List Symbol) → is_c g ≡ false → old_symbol_at at rest ≡ Ok y → PrimaryStands g limit d (symbol.RuleWord at rule.OldSymbol ∷ rest) y
  unfolding old_symbol_at
  old_symbol_at-is at rest y rules e =
      let o = bind_ok (behind sign.OpenParenthesis rest) _ y e in
      let n = bind_ok (name_at o.value) _ y o.then_gave in
      let t = bind_ok (behind sign.CloseParenthesis n.value.1) _ y n.then_gave in
      primary (OldSymbol at n.value.0) y t.then_gave refl refl
      (stands_when (not (is_c g)) (ap not rules) (stands_joined (token_stands limit d (symbol.RuleWord at rule.OldSymbol) rest within)
      (stands_joined (behind_stands limit d sign.OpenParenthesis rest o.value within o.gave)
      (stands_joined (name_at_stands limit d o.value n.value within n.gave) (behind_stands limit d sign.CloseParenthesis n.value.1 t.value within t.gave)))))

  new_object_at-is : (at : ℕ) (rest : List Symbol) (y : Term × List Symbol) → is_c g ≡ false → new_object_at at rest ≡ Ok y → PrimaryStands g limit d (symbol.RuleWord at rule.New ∷ rest) y
  unfolding new_object_at
  new_object_at-is at rest y rules e =
      let o = bind_ok (behind sign.OpenParenthesis rest) _ y e in
      let n = bind_ok (fresh_at o.value) _ y o.then_gave in
      let t = bind_ok (behind sign.CloseParenthesis n.value.1) _ y n.then_gave in
      primary (NewObject at n.value.0) y t.then_gave refl refl
      (stands_when (not (is_c g)) (ap not rules) (stands_joined (token_stands limit d (symbol.RuleWord at rule.New) rest within)
      (stands_joined (behind_stands limit d sign.OpenParenthesis rest o.value within o.gave)
      (stands_joined (fresh_at_stands limit d o.value n.value within n.gave) (behind_stands limit d sign.CloseParenthesis n.value.1 t.value within t.gave)))))

  transform_at-is : (at : ℕ) (rest : List Symbol) (y : Term × List Symbol) → is_c g ≡ false → transform_at g r at rest ≡ Ok y → PrimaryStands g limit d (symbol.RuleWord at rule.Transform ∷ rest) y
  unfolding transform_at
  transform_at-is at rest y rules e =
      let o = bind_ok (behind sign.OpenParenthesis rest) _ y e in
      let a = bind_ok (deep_level g r 0 o.value) _ y o.then_gave in
      let t = bind_ok (behind sign.CloseParenthesis a.value.1) _ y a.then_gave in
      let inside = deep_level-is g limit (suc d) r sound 0 o.value a.value (omega arith) a.gave in
      primary (Transformed at a.value.0) y t.then_gave refl refl
      (stands_when (not (is_c g)) (ap not rules) (stands_joined (token_stands limit d (symbol.RuleWord at rule.Transform) rest within)
      (stands_joined (behind_stands limit d sign.OpenParenthesis rest o.value within o.gave)
      (stands_joined inside.stands (behind_stands limit d sign.CloseParenthesis a.value.1 t.value within t.gave)))))

  rule_at-is : (at : ℕ) (word : RuleWord) (rest : List Symbol) (y : Term × List Symbol) → is_c g ≡ false → rule_at g r at word rest ≡ Ok y → PrimaryStands g limit d (symbol.RuleWord at word ∷ rest) y
  unfolding rule_at
  rule_at-is at rule.In rest y rules e = primary (RuleValue at rule.In) y e refl refl (stands_when (not (is_c g)) (ap not rules) (stands_when true refl (token_stands limit d (symbol.RuleWord at rule.In) rest within)))
  rule_at-is at rule.Out rest y rules e = primary (RuleValue at rule.Out) y e refl refl (stands_when (not (is_c g)) (ap not rules) (stands_when true refl (token_stands limit d (symbol.RuleWord at rule.Out) rest within)))
  rule_at-is at rule.Base rest y rules e = primary (RuleValue at rule.Base) y e refl refl (stands_when (not (is_c g)) (ap not rules) (stands_when true refl (token_stands limit d (symbol.RuleWord at rule.Base) rest within)))
  rule_at-is at rule.OldSymbol rest y rules e = old_symbol_at-is at rest y rules e
  rule_at-is at rule.Transform rest y rules e = transform_at-is at rest y rules e
  rule_at-is at rule.New rest y rules e = new_object_at-is at rest y rules e

  size_of_at-is : (at : ℕ) (rest : List Symbol) (y : Term × List Symbol) → is_c g ≡ true → (between_at rest >>= λ t. Ok (SizeOf at t.0, t.1)) ≡ Ok y → PrimaryStands g limit d (symbol.Keyword at keywords.SizeOf ∷ rest) y
  size_of_at-is at rest y c e =
      let t = bind_ok (between_at rest) _ y e in
      primary (SizeOf at t.value.0) y t.then_gave refl refl
      (stands_when (is_c g) c (stands_joined (token_stands limit d (symbol.Keyword at keywords.SizeOf) rest within) (between_at_stands limit d rest t.value within t.gave)))

  pub primary_at-is : (symbols : List Symbol) (y : Term × List Symbol) → primary_at g r symbols ≡ Ok y → PrimaryStands g limit d symbols y
  unfolding primary_at
  primary_at-is [] y e = no_value _ y e
  primary_at-is (symbol.Name at word ∷ rest) y e =
      named_at-is (record { at = at; word = word }) (symbol.Name at word ∷ rest) rest y (token_stands limit d (symbol.Name at word) rest within) e
  primary_at-is (symbol.Keyword at keywords.Null ∷ rest) y e = primary (Null at) y e refl refl (token_stands limit d (symbol.Keyword at keywords.Null) rest within)
  primary_at-is (symbol.Keyword at keywords.Eof ∷ rest) y e = primary (Eof at) y e refl refl (token_stands limit d (symbol.Keyword at keywords.Eof) rest within)
  primary_at-is (symbol.Keyword at keywords.SizeOf ∷ rest) y e = let c = chosen_first (is_c g) _ _ y e in size_of_at-is at rest y c.0 c.1
  primary_at-is (symbol.Keyword at other ∷ rest) y e = no_value _ y e
  primary_at-is (symbol.Number at n ∷ rest) y e = primary (Constant at n) y e refl refl (token_stands limit d (symbol.Number at n) rest within)
  primary_at-is (symbol.Character at b ∷ rest) y e = primary (Character at b) y e refl refl (token_stands limit d (symbol.Character at b) rest within)
  primary_at-is (symbol.Text at bytes ∷ rest) y e =
      let c = chosen_first (is_c g) _ _ y e in
      primary (Text at bytes) y c.1 refl refl (stands_when (is_c g) c.0 (token_stands limit d (symbol.Text at bytes) rest within))
  primary_at-is (symbol.RuleWord at word ∷ rest) y e = let c = chosen_second (is_c g) _ _ y e in rule_at-is at word rest y c.0 c.1
  primary_at-is (symbol.Sign at s ∷ rest) y e = no_value _ y e
  primary_at-is (symbol.Other at ∷ rest) y e = no_value _ y e

  -- ---- unary expressions

  -- a primary expression and the postfix operators behind it
  goes_on_postfix : (symbols : List Symbol) (x y : Term × List Symbol) → PrimaryStands g limit d symbols x → postfix_at g r x.0 x.1 ≡ Ok y → LevelStands g limit d 8 symbols y
  goes_on_postfix symbols x y p e =
      let at : d ≡ d + links x.0 = let none = p.links_are in omega arith in
      let is = p.level_is in
      let on = postfix_at-is g limit d r x.0 (omega arith) (omega arith) (subst (λ (d : ℕ). AreSound g limit (suc d) r) at sound) x.1 y e in
      let all = goes_behind g limit d 9 symbols x y p.stands on in
      let high = all.at_least in
      record { stands = all.stands; at_least = omega arith }

  cast_at-is : (at : ℕ) (rest : List Symbol) (y : Term × List Symbol)
      → (type_at rest >>= λ t. behind sign.CloseParenthesis t.1 >>= λ rest. deep_level g r 8 rest >>= λ a. Ok (Converted at t.0 a.0, a.1)) ≡ Ok y
      → LevelStands g limit d 8 (symbol.Sign at sign.OpenParenthesis ∷ rest) y
  cast_at-is at rest y e =
      let t = bind_ok (type_at rest) _ y e in
      let c = bind_ok (behind sign.CloseParenthesis t.value.1) _ y t.then_gave in
      let a = bind_ok (deep_level g r 8 c.value) _ y c.then_gave in
      let inside = deep_level-is g limit (suc d) r sound 8 c.value a.value (omega arith) a.gave in
      by_value (LevelStands g limit d 8 (symbol.Sign at sign.OpenParenthesis ∷ rest)) (Converted at t.value.0 a.value.0, a.value.1) y a.then_gave
      (record {
        stands = stands_when (nat_le 8 (level a.value.0)) (le-leb 8 (level a.value.0) inside.at_least)
            (stands_joined (token_stands limit d (symbol.Sign at sign.OpenParenthesis) rest within)
            (stands_joined (type_at_stands limit d rest t.value within t.gave)
            (stands_joined (behind_stands limit d sign.CloseParenthesis t.value.1 c.value within c.gave) inside.stands)));
        at_least = omega arith;
      })

  parenthesised_at-is : (at : ℕ) (rest : List Symbol) (y : Term × List Symbol)
      → (deep_level g r 0 rest >>= λ a. behind sign.CloseParenthesis a.1 >>= λ rest. postfix_at g r (Parenthesised at a.0) rest) ≡ Ok y
      → LevelStands g limit d 8 (symbol.Sign at sign.OpenParenthesis ∷ rest) y
  parenthesised_at-is at rest y e =
      let a = bind_ok (deep_level g r 0 rest) _ y e in
      let c = bind_ok (behind sign.CloseParenthesis a.value.1) _ y a.then_gave in
      let inside = deep_level-is g limit (suc d) r sound 0 rest a.value (omega arith) a.gave in
      goes_on_postfix (symbol.Sign at sign.OpenParenthesis ∷ rest) (Parenthesised at a.value.0, c.value) y
      (record {
        stands = stands_joined (token_stands limit d (symbol.Sign at sign.OpenParenthesis) rest within)
            (stands_joined inside.stands (behind_stands limit d sign.CloseParenthesis a.value.1 c.value within c.gave));
        level_is = refl;
        links_are = refl;
      })
      c.then_gave

  parenthesis_at-is : (at : ℕ) (rest : List Symbol) (y : Term × List Symbol) → parenthesis_at g r at rest ≡ Ok y → LevelStands g limit d 8 (symbol.Sign at sign.OpenParenthesis ∷ rest) y
  unfolding parenthesis_at
  parenthesis_at-is at rest y e = elim (chosen (begins_base rest) _ _ (Ok y) e) [
    | inl c ↦ cast_at-is at rest y c.1
    | inr c ↦ parenthesised_at-is at rest y c.1
  ]

  prefixed_at-is : (at : ℕ) (s : Sign) (o : Option PrefixOperator) (rest : List Symbol) (y : Term × List Symbol) → prefix_of g s ≡ o → prefixed_at g r at o (symbol.Sign at s ∷ rest) rest ≡ Ok y → LevelStands g limit d 8 (symbol.Sign at s ∷ rest) y
  unfolding prefixed_at
  prefixed_at-is at s None rest y is e = no_value _ y e
  prefixed_at-is at s (Some op) rest y is e =
      let a = bind_ok (deep_level g r 8 rest) _ y e in
      let inside = deep_level-is g limit (suc d) r sound 8 rest a.value (omega arith) a.gave in
      let known = prefix_of-is g s op is in
      by_value (LevelStands g limit d 8 (symbol.Sign at s ∷ rest)) (Prefixed at op a.value.0, a.value.1) y a.then_gave
      (record {
        stands = stands_when (has_prefix g op) known.1 (stands_when (nat_le 8 (level a.value.0)) (le-leb 8 (level a.value.0) inside.at_least)
            (stands_joined (subst (λ (s : Sign). Stands limit (token d (symbol.Sign at (prefix_sign op))) (symbol.Sign at s ∷ rest) rest) (sym known.0) (token_stands limit d (symbol.Sign at (prefix_sign op)) rest within)) inside.stands));
        at_least = omega arith;
      })

  unary_sign_at-is : (at : ℕ) (s : Sign) (rest : List Symbol) (y : Term × List Symbol) → unary_at g r (symbol.Sign at s ∷ rest) ≡ Ok y → LevelStands g limit d 8 (symbol.Sign at s ∷ rest) y
  unfolding unary_at
  unary_sign_at-is at s rest y e = elim (chosen (same_sign s sign.OpenParenthesis) _ _ (Ok y) e) [
    | inl c ↦ subst (λ (s : Sign). LevelStands g limit d 8 (symbol.Sign at s ∷ rest) y) (sym (same_sign_is s sign.OpenParenthesis c.0)) (parenthesis_at-is at rest y c.1)
    | inr c ↦ prefixed_at-is at s (prefix_of g s) rest y refl c.1
  ]

  pub unary_at-is : (symbols : List Symbol) (y : Term × List Symbol) → unary_at g r symbols ≡ Ok y → LevelStands g limit d 8 symbols y
  unfolding unary_at
  unary_at-is (symbol.Sign at s ∷ rest) y e = unary_sign_at-is at s rest y e
  unary_at-is [] y e = no_value _ y e
  unary_at-is (other ∷ rest) y e =
      let x = bind_ok (primary_at g r (other ∷ rest)) _ y e in
      goes_on_postfix (other ∷ rest) x.value y (primary_at-is (other ∷ rest) x.value x.gave) x.then_gave

  level_at-is : (least : ℕ) (symbols : List Symbol) (y : Term × List Symbol) → least ≤ 8 → level_at g r least symbols ≡ Ok y → LevelStands g limit d least symbols y
  unfolding level_at
  level_at-is least symbols y small e =
      let x = bind_ok (unary_at g r symbols) _ y e in
      let first = unary_at-is symbols x.value x.gave in
      let high = first.at_least in
      goes_behind g limit d least symbols x.value y first.stands
      (climb_at-is g limit d r within sound least (8 - least) x.value.0 x.value.1 y (omega arith) (omega arith) x.then_gave)

  -- what reads one deeper reads soundly here
  readers_are : IsSound g limit d (record { level = level_at g r; chain = chain_at g r; postfix = postfix_at g r })
  readers_are = record {
    within = within;
    level_is = level_at-is;
    chain_is = λ start l x symbols y at small h e.
        chain_at-is g limit start l r x small h (subst (λ (k : ℕ). k ≤ limit) (sym at) within) (subst (λ (k : ℕ). AreSound g limit (suc k) r) (sym at) sound) symbols y e;
    postfix_is = λ start x symbols y at h e.
        postfix_at-is g limit start r x h (subst (λ (k : ℕ). k ≤ limit) (sym at) within) (subst (λ (k : ℕ). AreSound g limit (suc k) r) (sym at) sound) symbols y e;
  }

-- ---- at any depth

pub deeper-is : (g : Dialect) (limit n d : ℕ) → d + n ≡ limit → AreSound g limit (suc d) (deeper g n)
unfolding deeper
deeper-is g limit zero d at = tt
deeper-is g limit (suc n) d at = readers_are g limit (suc d) (deeper g n) (omega arith) (deeper-is g limit n (suc d) (omega arith))

pub expr_stands : ExprStands
unfolding expr_at
expr_stands g n d symbols x rest e =
    let read = level_at-is g (d + n) d (deeper g n) (omega arith) (deeper-is g (d + n) n d refl) 0 symbols (x, rest) (omega arith) e in
    read.stands
