-- What stands before the place where an expression is not read begins one.
use Rattle.std.proofs.Common.{◌≡◌, ℕ, zero, suc, ◌+◌, ◌-◌, ◌≤◌, ◌<◌, ◌&&◌, ◌||◌, Bool, true, false, not, List, [], ◌∷◌, ◌++◌, length, drop, Option, Some, None, Result, Ok, Err, refl, sym, ap, ◌∙◌, subst, inl, inr, ◌⊎◌, arith, append_assoc, le-leb, le_of_eq}
use Rattle.std.specs.Prelude.{if◌then◌else◌}
use Rattle.std.specs.Option.{is_some}
use Rattle.kt_grammar.specs.declared.fault.Fault.{Fault}
use Rattle.kt_grammar.specs.declared.fault.Fault.TheVariants.{TooDeep}
use Rattle.kt_grammar.specs.declared.keyword.Keyword.TheVariants as keywords
use Rattle.kt_grammar.specs.declared.keyword.RuleWord.{RuleWord}
use Rattle.kt_grammar.specs.declared.keyword.RuleWord.TheVariants as rule
use Rattle.kt_grammar.specs.declared.sign.Sign.{Sign}
use Rattle.kt_grammar.specs.declared.sign.Sign.TheVariants as sign
use Rattle.kt_grammar.specs.declared.symbol.Symbol.{Symbol}
use Rattle.kt_grammar.specs.declared.symbol.Symbol.TheVariants as symbol
use Rattle.kt_grammar.specs.declared.operator.Dialect.{Dialect}
use Rattle.kt_grammar.specs.declared.operator.PrefixOperator.{PrefixOperator}
use Rattle.kt_grammar.specs.declared.operator.BinaryOperator.{BinaryOperator}
use Rattle.kt_grammar.specs.declared.tree.Name.{Name}
use Rattle.kt_grammar.specs.Tree.{Term, Constant, Character, Text, Null, Eof, Named, Called, Parenthesised, SizeOf, RuleValue, OldSymbol, Transformed, NewObject, Element, Member, Pointed, Stepped, Prefixed, Converted, Operated, Chosen, Assigned, Terms, Nothing, More, terms_of}
use Rattle.kt_grammar.specs.Signs.{is_c, same_sign, prefix_sign, step_sign, binary_sign, assign_sign, precedence, prefix_of, step_of}
use Rattle.kt_grammar.specs.Marks.{Mark, token, sign as sign_token, name, Joined, ◌·◌}
use Rattle.kt_grammar.specs.Spelling.{level, links, links_at, spells, arguments}
use Rattle.kt_grammar.specs.Cursor.{◌>>=◌, Outcome, unexpected, begins_sign, behind, name_at, listed_at}
use Rattle.kt_grammar.specs.Reading.{Readers, begins_base, begins_expr, begins_postfix, type_at, between_at, deep, deep_level, more_at, index_at, stepped_at, postfix_at, arguments_at, named_at, old_symbol_at, fresh_at, new_object_at, transform_at, rule_at, primary_at, parenthesis_at, prefixed_at, unary_at, binary_here, assign_here, chain_at, choice_at, assignment_at, tail_at, climb_at, level_at, deeper, expr_at}
use Rattle.kt_grammar.specs.Laws.{Stands, FaultStands, some_expr, ExprFaultStands, ExprGoesOn}
use Rattle.kt_grammar.specs.StandsLaws.{chosen, both_true, same_sign_is, token_stands, stands_joined, stands_as, begins_sign_stands, behind_stands, name_at_stands, type_at_stands}
use Rattle.kt_grammar.specs.FaultLaws.{no_fault, bind_err, unexpected_stands, too_deep_stands, fault_as, fault_before, fault_behind, sign_mark, behind_fault, blank_name, name_mark, some_name, name_at_fault, base_mark, some_type, is_blank_type, type_at_fault, between_at_fault, listed_at_fault}
use Rattle.kt_grammar.proofs.Operators.{picked, prefix_of-is, step_of-is, sign_is_stands, binary_here-is, assign_here-is}
use Rattle.kt_grammar.proofs.ExprStands.{continues, LevelStands, GoesOn, IsSound, AreSound, continued, deep-is, deep_level-is, index_once, member_once, pointed_once, step_once, no_links, operated, deeper_link, chain_once, tail_at-is, listed_terms, primary_at-is, unary_at-is, deeper-is, listed_arguments}
use Rattle.kt_grammar.proofs.NewObjects.{some_fresh, fresh_blank, fresh_at_stands, fresh_at_fault}

-- what makes of an expression any of at least a level
abbrev some_more : Dialect → ℕ → ℕ → Term → List Mark → Type 0
some_more g least d x marks = (y : Term) × (least ≤ level y) × continues g d x y marks

-- what these do not read at a depth breaks off as the fault says
record FaultsStand (g : Dialect) (limit d : ℕ) (r : Readers) : Type 0 where
  level_is : (least : ℕ) (symbols : List Symbol) (fault : Fault) → least ≤ 8 → r.level least symbols ≡ Err fault → FaultStands limit (some_expr g least d) symbols fault
  chain_is : (start l : ℕ) (x : Term) (symbols : List Symbol) (fault : Fault) → start + links_at l x ≡ d → l ≤ 7 → l ≤ level x → r.chain l x symbols ≡ Err fault → FaultStands limit (some_more g l start x) symbols fault
  postfix_is : (start : ℕ) (x : Term) (symbols : List Symbol) (fault : Fault) → start + links x ≡ d → 9 ≤ level x → r.postfix x symbols ≡ Err fault → FaultStands limit (some_more g 9 start x) symbols fault

-- none are there only past the limit
abbrev AreFaulty : Dialect → ℕ → ℕ → Option Readers → Type 0
AreFaulty g limit d None = limit < d
AreFaulty g limit d (Some r) = FaultsStand g limit d r

-- ---- going on

fault_goes_on : (g : Dialect) (limit d k l : ℕ) (x : Term) (symbols : List Symbol) (y : Term × List Symbol) (fault : Fault) → GoesOn g limit d k x symbols y → FaultStands limit (some_more g l d y.0) y.1 fault → FaultStands limit (some_more g l d x) symbols fault
fault_goes_on g limit d k l x symbols y fault a b = fault_as (some_more g l d x)
    (λ m j. (j.second.0, j.second.1, λ before s. subst (spells g d j.second.0) (append_assoc before j.front j.back ∙ ap (λ (m : List Mark). before ++ m) (sym j.parts)) (j.second.2 (before ++ j.front) (j.first before s))))
    (fault_behind a.stands b)

fault_goes_behind : (g : Dialect) (limit d l : ℕ) (symbols : List Symbol) (x : Term × List Symbol) (fault : Fault) → Stands limit (spells g d x.0) symbols x.1 → FaultStands limit (some_more g l d x.0) x.1 fault → FaultStands limit (some_expr g l d) symbols fault
fault_goes_behind g limit d l symbols x fault a b = fault_as (some_expr g l d)
    (λ m j. (j.second.0, j.second.1, subst (spells g d j.second.0) (sym j.parts) (j.second.2 j.front j.first)))
    (fault_behind a b)

-- an expression of a higher level is one of a lower
lower_expr : (g : Dialect) (k l d : ℕ) → l ≤ k → (marks : List Mark) → some_expr g k d marks → some_expr g l d marks
lower_expr g k l d h marks s = let high = s.1 in (s.0, omega arith, s.2)

lower_more : (g : Dialect) (k l d : ℕ) (x : Term) → l ≤ k → (marks : List Mark) → some_more g k d x marks → some_more g l d x marks
lower_more g k l d x h marks s = let high = s.1 in (s.0, omega arith, s.2)

some_level : (g : Dialect) (limit d least : ℕ) (symbols : List Symbol) (y : Term × List Symbol) → LevelStands g limit d least symbols y → Stands limit (some_expr g least d) symbols y.1
some_level g limit d least symbols y s = stands_as (some_expr g least d) (λ m p. (y.0, s.at_least, p)) s.stands

blank_expr : (g : Dialect) (least d : ℕ) → least ≤ 9 → some_expr g least d (name_mark d)
blank_expr g least d h = (Named blank_name, h, refl)

-- ---- what an expression begins with

-- a token that an expression of at least level 8 begins with, and what may stand behind it
abbrev Beginning : Dialect → ℕ → Symbol → Type 0
Beginning g d s = (others : List Mark) × some_expr g 8 d (record { symbol = s; depth = d } ∷ others)

either_true : (a b : Bool) → (a || b) ≡ true → (a ≡ true) ⊎ (b ≡ true)
either_true true b e = inl refl
either_true false b e = inr e

one_of_four : (a b c d : Bool) → (a || b || c || d) ≡ true → (a ≡ true) ⊎ ((b ≡ true) ⊎ ((c ≡ true) ⊎ (d ≡ true)))
one_of_four true b c d e = inl refl
one_of_four false true c d e = inr (inl refl)
one_of_four false false true d e = inr (inr (inl refl))
one_of_four false false false d e = inr (inr (inr e))

some_of : {O : Type 0} (o : Option O) → is_some o ≡ true → (x : O) × (o ≡ Some x)
some_of None e = absurd cc
some_of (Some x) e = (x, refl)

begins_sign_expr : (g : Dialect) (d at : ℕ) (s : Sign) → (same_sign s sign.OpenParenthesis || is_some (prefix_of g s)) ≡ true → Beginning g d (symbol.Sign at s)
begins_sign_expr g d at s e = elim (either_true (same_sign s sign.OpenParenthesis) (is_some (prefix_of g s)) e) [
  | inl same ↦ subst (λ (s : Sign). Beginning g d (symbol.Sign at s)) (sym (same_sign_is s sign.OpenParenthesis same)) (
    name_mark (suc d) ++ sign_mark d sign.CloseParenthesis,
    (
      Parenthesised at (Named blank_name),
      omega arith,
      record {
        front = record { symbol = symbol.Sign at sign.OpenParenthesis; depth = d } ∷ [];
        back = name_mark (suc d) ++ sign_mark d sign.CloseParenthesis;
        parts = refl;
        first = refl;
        second = record { front = name_mark (suc d); back = sign_mark d sign.CloseParenthesis; parts = refl; first = refl; second = (0, refl) };
      },
    ),
  )
  | inr known ↦
      let op = some_of (prefix_of g s) known in
      let is = prefix_of-is g s op.0 op.1 in
      subst (λ (s : Sign). Beginning g d (symbol.Sign at s)) (sym is.0) (
        name_mark (suc d),
        (
          Prefixed at op.0 (Named blank_name),
          omega arith,
          (
            is.1,
            (
              le-leb 8 9 (omega arith),
              record {
                front = record { symbol = symbol.Sign at (prefix_sign op.0); depth = d } ∷ [];
                back = name_mark (suc d);
                parts = refl;
                first = refl;
                second = refl;
              },
            ),
          ),
        ),
      )
]

begins_rule_expr : (g : Dialect) (d at : ℕ) (word : RuleWord) → not (is_c g) ≡ true → Beginning g d (symbol.RuleWord at word)
begins_rule_expr g d at rule.In e = ([], (RuleValue at rule.In, omega arith, (e, (refl, refl))))
begins_rule_expr g d at rule.Out e = ([], (RuleValue at rule.Out, omega arith, (e, (refl, refl))))
begins_rule_expr g d at rule.Base e = ([], (RuleValue at rule.Base, omega arith, (e, (refl, refl))))
begins_rule_expr g d at rule.OldSymbol e = (
  sign_mark d sign.OpenParenthesis ++ name_mark d ++ sign_mark d sign.CloseParenthesis,
  (
    OldSymbol at blank_name,
    omega arith,
    (
      e,
      record {
        front = record { symbol = symbol.RuleWord at rule.OldSymbol; depth = d } ∷ [];
        back = sign_mark d sign.OpenParenthesis ++ name_mark d ++ sign_mark d sign.CloseParenthesis;
        parts = refl;
        first = refl;
        second = record {
          front = sign_mark d sign.OpenParenthesis;
          back = name_mark d ++ sign_mark d sign.CloseParenthesis;
          parts = refl;
          first = (0, refl);
          second = record { front = name_mark d; back = sign_mark d sign.CloseParenthesis; parts = refl; first = refl; second = (0, refl) };
        };
      },
    ),
  ),
)
begins_rule_expr g d at rule.New e = (
  sign_mark d sign.OpenParenthesis ++ (fresh_blank d).0 ++ sign_mark d sign.CloseParenthesis,
  (
    NewObject at (fresh_blank d).1.0,
    omega arith,
    (
      e,
      record {
        front = record { symbol = symbol.RuleWord at rule.New; depth = d } ∷ [];
        back = sign_mark d sign.OpenParenthesis ++ (fresh_blank d).0 ++ sign_mark d sign.CloseParenthesis;
        parts = refl;
        first = refl;
        second = record {
          front = sign_mark d sign.OpenParenthesis;
          back = (fresh_blank d).0 ++ sign_mark d sign.CloseParenthesis;
          parts = refl;
          first = (0, refl);
          second = record { front = (fresh_blank d).0; back = sign_mark d sign.CloseParenthesis; parts = refl; first = (fresh_blank d).1.1; second = (0, refl) };
        };
      },
    ),
  ),
)
begins_rule_expr g d at rule.Transform e = (
  sign_mark d sign.OpenParenthesis ++ name_mark (suc d) ++ sign_mark d sign.CloseParenthesis,
  (
    Transformed at (Named blank_name),
    omega arith,
    (
      e,
      record {
        front = record { symbol = symbol.RuleWord at rule.Transform; depth = d } ∷ [];
        back = sign_mark d sign.OpenParenthesis ++ name_mark (suc d) ++ sign_mark d sign.CloseParenthesis;
        parts = refl;
        first = refl;
        second = record {
          front = sign_mark d sign.OpenParenthesis;
          back = name_mark (suc d) ++ sign_mark d sign.CloseParenthesis;
          parts = refl;
          first = (0, refl);
          second = record { front = name_mark (suc d); back = sign_mark d sign.CloseParenthesis; parts = refl; first = refl; second = (0, refl) };
        };
      },
    ),
  ),
)

begins_size_of : (g : Dialect) (d at : ℕ) → is_c g ≡ true → Beginning g d (symbol.Keyword at keywords.SizeOf)
begins_size_of g d at e = (
  sign_mark d sign.OpenParenthesis ++ base_mark d ++ sign_mark d sign.CloseParenthesis,
  (
    SizeOf at (is_blank_type d).0,
    omega arith,
    (
      e,
      record {
        front = record { symbol = symbol.Keyword at keywords.SizeOf; depth = d } ∷ [];
        back = sign_mark d sign.OpenParenthesis ++ base_mark d ++ sign_mark d sign.CloseParenthesis;
        parts = refl;
        first = refl;
        second = record {
          front = sign_mark d sign.OpenParenthesis;
          back = base_mark d ++ sign_mark d sign.CloseParenthesis;
          parts = refl;
          first = (0, refl);
          second = record { front = base_mark d; back = sign_mark d sign.CloseParenthesis; parts = refl; first = (is_blank_type d).1; second = (0, refl) };
        };
      },
    ),
  ),
)

begins_expr-is : (g : Dialect) (d : ℕ) (s : Symbol) (rest : List Symbol) → begins_expr g (s ∷ rest) ≡ true → Beginning g d s
unfolding begins_expr
begins_expr-is g d (symbol.Name at word) rest e = ([], (Named (record { at = at; word = word }), omega arith, refl))
begins_expr-is g d (symbol.Keyword at keywords.Null) rest e = ([], (Null at, omega arith, refl))
begins_expr-is g d (symbol.Keyword at keywords.Eof) rest e = ([], (Eof at, omega arith, refl))
begins_expr-is g d (symbol.Keyword at keywords.SizeOf) rest e = begins_size_of g d at e
begins_expr-is g d (symbol.Keyword at other) rest e = absurd cc
begins_expr-is g d (symbol.Number at n) rest e = ([], (Constant at n, omega arith, refl))
begins_expr-is g d (symbol.Character at b) rest e = ([], (Character at b, omega arith, refl))
begins_expr-is g d (symbol.Text at bytes) rest e = ([], (Text at bytes, omega arith, (e, refl)))
begins_expr-is g d (symbol.RuleWord at word) rest e = begins_rule_expr g d at word e
begins_expr-is g d (symbol.Sign at s) rest e = begins_sign_expr g d at s e
begins_expr-is g d (symbol.Other at) rest e = absurd cc

-- ---- one deeper

-- what can begin an expression here is too deep
front_too_deep : {A : Type 0} (g : Dialect) (limit d least : ℕ) → least ≤ 8 → limit < d → (symbols : List Symbol) (fault : Fault) → begins_expr g symbols ≡ true
    → ◌≡◌ {A = Result A Fault} (Err (TooDeep (length symbols))) (Err fault) → FaultStands limit (some_expr g least d) symbols fault
unfolding begins_expr
front_too_deep g limit d least h past [] fault is e = absurd cc
front_too_deep g limit d least h past (s ∷ rest) fault is e =
    let b = begins_expr-is g d s rest is in
    too_deep_stands limit d (some_expr g least d) b.0 s rest fault past (lower_expr g 8 least d h _ b.1) e

-- where no more may be opened, what can begin here is too deep
too_deep_expr : {A : Type 0} (g : Dialect) (limit d least : ℕ) → least ≤ 8 → limit < d → (symbols : List Symbol) (fault : Fault)
    → ◌≡◌ {A = Result A Fault} (if begins_expr g symbols then Err (TooDeep (length symbols)) else unexpected symbols) (Err fault) → FaultStands limit (some_expr g least d) symbols fault
too_deep_expr g limit d least h past symbols fault e = elim (chosen (begins_expr g symbols) _ _ (Err fault) e) [
  | inl c ↦ front_too_deep g limit d least h past symbols fault c.0 c.1
  | inr c ↦ unexpected_stands limit (some_expr g least d) (name_mark d) symbols fault (blank_expr g least d (omega arith)) c.1
]

deep_err : {A : Type 0} (r : Option Readers) (begins : List Symbol → Bool) (read : Readers → List Symbol → Result A Fault) (symbols : List Symbol) (fault : Fault) → deep r begins read symbols ≡ Err fault
    → ((r ≡ None) × (◌≡◌ {A = Result A Fault} (if begins symbols then Err (TooDeep (length symbols)) else unexpected symbols) (Err fault))) ⊎ ((s : Readers) × (r ≡ Some s) × (read s symbols ≡ Err fault))
deep_err None begins read symbols fault e = inl (refl, e)
deep_err (Some s) begins read symbols fault e = inr (s, refl, e)

deep_level_fault : (g : Dialect) (limit d : ℕ) (r : Option Readers) → AreFaulty g limit d r → (least : ℕ) (symbols : List Symbol) (fault : Fault) → least ≤ 8 → deep_level g r least symbols ≡ Err fault → FaultStands limit (some_expr g least d) symbols fault
deep_level_fault g limit d r faults least symbols fault h e = elim (deep_err r (begins_expr g) (λ r. r.level least) symbols fault e) [
  | inl w ↦ too_deep_expr g limit d least h (subst (AreFaulty g limit d) w.0 faults) symbols fault w.1
  | inr w ↦ let one : FaultsStand g limit d w.0 = subst (AreFaulty g limit d) w.1 faults in one.level_is least symbols fault h w.2
]

-- ---- postfix operators

-- a token that a postfix operator begins with, and what may stand behind it
abbrev PostfixBeginning : Dialect → ℕ → ℕ → Term → Symbol → Type 0
PostfixBeginning g start d x s = (others : List Mark) × some_more g 9 start x (record { symbol = s; depth = d } ∷ others)

module _ (g : Dialect) (start : ℕ) (x : Term) (h : 9 ≤ level x) where
  indexed : (marks : List Mark) → Joined (sign_token (start + links x) sign.OpenBracket) (some_expr g 0 (suc (start + links x)) · sign_token (start + links x) sign.CloseBracket) marks → some_more g 9 start x marks
  indexed marks j = (
    Element x j.second.first.0,
    omega arith,
    continued g start x (Element x j.second.first.0) (sign_token (start + links x) sign.OpenBracket · spells g (suc (start + links x)) j.second.first.0 · sign_token (start + links x) sign.CloseBracket)
        (λ m k. (le-leb 9 (level x) h, k)) marks
        (record {
          front = j.front;
          back = j.back;
          parts = j.parts;
          first = j.first;
          second = record { front = j.second.front; back = j.second.back; parts = j.second.parts; first = j.second.first.2; second = j.second.second };
        }),
  )

  membered : (marks : List Mark) → Joined (sign_token (start + links x) sign.Dot) (some_name (start + links x)) marks → some_more g 9 start x marks
  membered marks j = (
    Member x j.second.0,
    omega arith,
    continued g start x (Member x j.second.0) (sign_token (start + links x) sign.Dot · name (start + links x) j.second.0) (λ m k. (le-leb 9 (level x) h, k)) marks
        (record { front = j.front; back = j.back; parts = j.parts; first = j.first; second = j.second.1 }),
  )

  pointed : (marks : List Mark) → Joined (sign_token (start + links x) sign.Arrow) (some_name (start + links x)) marks → some_more g 9 start x marks
  pointed marks j = (
    Pointed x j.second.0,
    omega arith,
    continued g start x (Pointed x j.second.0) (sign_token (start + links x) sign.Arrow · name (start + links x) j.second.0) (λ m k. (le-leb 9 (level x) h, k)) marks
        (record { front = j.front; back = j.back; parts = j.parts; first = j.first; second = j.second.1 }),
  )

  named_behind : (at : ℕ) (s : Sign) → Joined (sign_token (start + links x) s) (some_name (start + links x)) (record { symbol = symbol.Sign at s; depth = start + links x } ∷ name_mark (start + links x))
  named_behind at s = record {
    front = record { symbol = symbol.Sign at s; depth = start + links x } ∷ [];
    back = name_mark (start + links x);
    parts = refl;
    first = (at, refl);
    second = (blank_name, refl);
  }

  begins_postfix_sign : (at : ℕ) (s : Sign) → (same_sign s sign.OpenBracket || same_sign s sign.Dot || same_sign s sign.Arrow || is_some (step_of g s)) ≡ true → PostfixBeginning g start (start + links x) x (symbol.Sign at s)
  begins_postfix_sign at s e = elim (one_of_four (same_sign s sign.OpenBracket) (same_sign s sign.Dot) (same_sign s sign.Arrow) (is_some (step_of g s)) e) [
    | inl a ↦ subst (λ (s : Sign). PostfixBeginning g start (start + links x) x (symbol.Sign at s)) (sym (same_sign_is s sign.OpenBracket a)) (
      name_mark (suc (start + links x)) ++ sign_mark (start + links x) sign.CloseBracket,
      indexed _ (record {
        front = record { symbol = symbol.Sign at sign.OpenBracket; depth = start + links x } ∷ [];
        back = name_mark (suc (start + links x)) ++ sign_mark (start + links x) sign.CloseBracket;
        parts = refl;
        first = (at, refl);
        second = record {
          front = name_mark (suc (start + links x));
          back = sign_mark (start + links x) sign.CloseBracket;
          parts = refl;
          first = blank_expr g 0 (suc (start + links x)) (omega arith);
          second = (0, refl);
        };
      }),
    )
    | inr a ↦ elim a [
      | inl b ↦ subst (λ (s : Sign). PostfixBeginning g start (start + links x) x (symbol.Sign at s)) (sym (same_sign_is s sign.Dot b))
          (name_mark (start + links x), membered _ (named_behind at sign.Dot))
      | inr b ↦ elim b [
        | inl c ↦ subst (λ (s : Sign). PostfixBeginning g start (start + links x) x (symbol.Sign at s)) (sym (same_sign_is s sign.Arrow c))
            (name_mark (start + links x), pointed _ (named_behind at sign.Arrow))
        | inr c ↦
            let op = some_of (step_of g s) c in
            let is = step_of-is g s op.0 op.1 in
            subst (λ (s : Sign). PostfixBeginning g start (start + links x) x (symbol.Sign at s)) (sym is.1)
            ([], (Stepped x op.0, omega arith, continued g start x (Stepped x op.0) (sign_token (start + links x) (step_sign op.0)) (λ m k. (is.0, (le-leb 9 (level x) h, k))) _ (at, refl)))
      ]
    ]
  ]

  begins_postfix-is : (s : Symbol) (rest : List Symbol) → begins_postfix g (s ∷ rest) ≡ true → PostfixBeginning g start (start + links x) x s
  unfolding begins_postfix
  begins_postfix-is (symbol.Sign at s) rest e = begins_postfix_sign at s e
  begins_postfix-is _ rest e = absurd cc

postfix_too_deep : (g : Dialect) (limit d start : ℕ) (x : Term) → start + links x ≡ d → 9 ≤ level x → limit < d → (symbols : List Symbol) (fault : Fault) → begins_postfix g symbols ≡ true
    → ◌≡◌ {A = Outcome Term} (Err (TooDeep (length symbols))) (Err fault) → FaultStands limit (some_more g 9 start x) symbols fault
unfolding begins_postfix
postfix_too_deep g limit d start x at h past [] fault is e = absurd cc
postfix_too_deep g limit d start x at h past (s ∷ rest) fault is e =
    let b = begins_postfix-is g start x h s rest is in
    too_deep_stands limit (start + links x) (some_more g 9 start x) b.0 s rest fault (omega arith) b.1 e

more_at_fault : (g : Dialect) (limit d : ℕ) (r : Option Readers) → AreFaulty g limit d r → (start : ℕ) (x : Term) (symbols : List Symbol) (fault : Fault) → start + links x ≡ d → 9 ≤ level x → more_at g r x symbols ≡ Err fault
    → FaultStands limit (some_more g 9 start x) symbols fault
more_at_fault g limit d None past start x symbols fault at h e = elim (chosen (begins_postfix g symbols) _ _ (Err fault) e) [
  | inl c ↦ postfix_too_deep g limit d start x at h past symbols fault c.0 c.1
  | inr c ↦ no_fault _ fault c.1
]
more_at_fault g limit d (Some r) faults start x symbols fault at h e = faults.postfix_is start x symbols fault at h e

module _ (g : Dialect) (limit start : ℕ) (r : Option Readers) (x : Term) (h : 9 ≤ level x) (within : start + links x ≤ limit) (sound : AreSound g limit (suc (start + links x)) r) (faults : AreFaulty g limit (suc (start + links x)) r) where
  one_more_fault : (made : Term) (rest : List Symbol) (fault : Fault) → links made ≡ suc (links x) → 9 ≤ level made → more_at g r made rest ≡ Err fault → FaultStands limit (some_more g 9 start made) rest fault
  one_more_fault made rest fault more high e = more_at_fault g limit (suc (start + links x)) r faults start made rest fault (let m : start + suc (links x) ≡ suc (start + links x) = omega arith in ap (λ k. start + k) more ∙ m) high e

  index_at_fault : (symbols inner : List Symbol) (fault : Fault) → Stands limit (sign_token (start + links x) sign.OpenBracket) symbols inner → index_at g r x inner ≡ Err fault → FaultStands limit (some_more g 9 start x) symbols fault
  unfolding index_at
  index_at_fault symbols inner fault opened e = elim (bind_err (deep_level g r 0 inner) _ fault e) [
    | inl w ↦ fault_as (some_more g 9 start x) (indexed g start x h) (fault_behind opened
        (fault_before (sign_token (start + links x) sign.CloseBracket) (sign_mark (start + links x) sign.CloseBracket) (0, refl)
        (deep_level_fault g limit (suc (start + links x)) r faults 0 inner fault (omega arith) w)))
    | inr i ↦
        let inside = deep_level-is g limit (suc (start + links x)) r sound 0 inner i.0 (omega arith) i.1 in
        elim (bind_err (behind sign.CloseBracket i.0.1) _ fault i.2) [
          | inl w ↦ fault_as (some_more g 9 start x) (indexed g start x h) (fault_behind opened
              (fault_behind (some_level g limit (suc (start + links x)) 0 inner i.0 inside) (behind_fault limit (start + links x) sign.CloseBracket i.0.1 fault w)))
          | inr t ↦ fault_goes_on g limit start 9 9 x symbols (Element x i.0.0, t.0) fault (index_once g limit start r x h within sound symbols inner i.0 t.0 opened inside t.1)
              (one_more_fault (Element x i.0.0) t.0 fault refl (omega arith) t.2)
        ]
  ]

  member_at_fault : (symbols inner : List Symbol) (fault : Fault) → Stands limit (sign_token (start + links x) sign.Dot) symbols inner
      → (name_at inner >>= λ n. more_at g r (Member x n.0) n.1) ≡ Err fault → FaultStands limit (some_more g 9 start x) symbols fault
  member_at_fault symbols inner fault dot e = elim (bind_err (name_at inner) _ fault e) [
    | inl w ↦ fault_as (some_more g 9 start x) (membered g start x h) (fault_behind dot (name_at_fault limit (start + links x) inner fault w))
    | inr n ↦ fault_goes_on g limit start 9 9 x symbols (Member x n.0.0, n.0.1) fault (member_once g limit start r x h within sound symbols inner n.0 dot n.1)
        (one_more_fault (Member x n.0.0) n.0.1 fault refl (omega arith) n.2)
  ]

  pointed_at_fault : (symbols inner : List Symbol) (fault : Fault) → Stands limit (sign_token (start + links x) sign.Arrow) symbols inner
      → (name_at inner >>= λ n. more_at g r (Pointed x n.0) n.1) ≡ Err fault → FaultStands limit (some_more g 9 start x) symbols fault
  pointed_at_fault symbols inner fault arrow e = elim (bind_err (name_at inner) _ fault e) [
    | inl w ↦ fault_as (some_more g 9 start x) (pointed g start x h) (fault_behind arrow (name_at_fault limit (start + links x) inner fault w))
    | inr n ↦ fault_goes_on g limit start 9 9 x symbols (Pointed x n.0.0, n.0.1) fault (pointed_once g limit start r x h within sound symbols inner n.0 arrow n.1)
        (one_more_fault (Pointed x n.0.0) n.0.1 fault refl (omega arith) n.2)
  ]

  stepped_at_fault : (at : ℕ) (s : Sign) (rest : List Symbol) (fault : Fault) → stepped_at g r x s (symbol.Sign at s ∷ rest) rest ≡ Err fault → FaultStands limit (some_more g 9 start x) (symbol.Sign at s ∷ rest) fault
  unfolding stepped_at
  stepped_at_fault at s rest fault e = elim (picked (step_of g s) _ _ (Err fault) e) [
    | inl none ↦ no_fault _ fault none.1
    | inr some ↦ fault_goes_on g limit start 9 9 x (symbol.Sign at s ∷ rest) (Stepped x some.0, rest) fault (step_once g limit start r x h within sound at s some.0 rest some.1)
        (one_more_fault (Stepped x some.0) rest fault refl (omega arith) some.2)
  ]

  signed_postfix_at_fault : (at : ℕ) (s : Sign) (rest : List Symbol) (fault : Fault) → postfix_at g r x (symbol.Sign at s ∷ rest) ≡ Err fault → FaultStands limit (some_more g 9 start x) (symbol.Sign at s ∷ rest) fault
  unfolding postfix_at
  signed_postfix_at_fault at s rest fault e =
      let front : (t : Sign) → same_sign s t ≡ true → Stands limit (sign_token (start + links x) t) (symbol.Sign at s ∷ rest) rest
      = λ t same. sign_is_stands limit (start + links x) at s t rest within (same_sign_is s t same) in
      elim (chosen (same_sign s sign.OpenBracket) _ _ (Err fault) e) [
        | inl a ↦ index_at_fault (symbol.Sign at s ∷ rest) rest fault (front sign.OpenBracket a.0) a.1
        | inr a ↦ elim (chosen (same_sign s sign.Dot) _ _ (Err fault) a.1) [
          | inl b ↦ member_at_fault (symbol.Sign at s ∷ rest) rest fault (front sign.Dot b.0) b.1
          | inr b ↦ elim (chosen (same_sign s sign.Arrow) _ _ (Err fault) b.1) [
            | inl c ↦ pointed_at_fault (symbol.Sign at s ∷ rest) rest fault (front sign.Arrow c.0) c.1
            | inr c ↦ stepped_at_fault at s rest fault c.1
          ]
        ]
      ]

  postfix_at_fault : (symbols : List Symbol) (fault : Fault) → postfix_at g r x symbols ≡ Err fault → FaultStands limit (some_more g 9 start x) symbols fault
  unfolding postfix_at
  postfix_at_fault (symbol.Sign at s ∷ rest) fault e = signed_postfix_at_fault at s rest fault e
  postfix_at_fault [] fault e = no_fault _ fault e
  postfix_at_fault (other ∷ rest) fault e = no_fault _ fault e

-- ---- chains of binary operators

-- the operator of a level and any right operand, behind the left one
some_operated : (g : Dialect) (start l : ℕ) (op : BinaryOperator) (x : Term) → precedence op ≡ l → l ≤ level x → (marks : List Mark)
    → Joined (sign_token (start + links_at l x) (binary_sign op)) (some_expr g (suc l) (suc (start + links_at l x))) marks → some_more g l start x marks
some_operated g start l op x is h marks j = (
  Operated op x j.second.0,
  le_of_eq (sym is),
  continued g start x (Operated op x j.second.0) (sign_token (start + links_at l x) (binary_sign op) · spells g (suc (start + links_at l x)) j.second.0)
      (operated g start l op x j.second.0 is h j.second.1) marks
      (record { front = j.front; back = j.back; parts = j.parts; first = j.first; second = j.second.2 }),
)

module _ (g : Dialect) (limit start l : ℕ) (x : Term) (small : l ≤ 7) (h : l ≤ level x) where
  chain_fault_with : (r : Readers) (symbols : List Symbol) (op : BinaryOperator) (fault : Fault) → IsSound g limit (suc (start + links_at l x)) r → FaultsStand g limit (suc (start + links_at l x)) r
      → precedence op ≡ l → Stands limit (sign_token (start + links_at l x) (binary_sign op)) symbols (drop 1 symbols)
      → (r.level (suc l) (drop 1 symbols) >>= λ y. r.chain l (Operated op x y.0) y.1) ≡ Err fault → FaultStands limit (some_more g l start x) symbols fault
  chain_fault_with r symbols op fault sound faults is front e = elim (bind_err (r.level (suc l) (drop 1 symbols)) _ fault e) [
    | inl w ↦ fault_as (some_more g l start x) (some_operated g start l op x is h) (fault_behind front (faults.level_is (suc l) (drop 1 symbols) fault (omega arith) w))
    | inr s ↦
        let right = sound.level_is (suc l) (drop 1 symbols) s.0 (omega arith) s.1 in
        fault_goes_on g limit start l l x symbols (Operated op x s.0.0, s.0.1) fault (chain_once g limit start l x symbols op s.0 h is front right)
        (faults.chain_is start l (Operated op x s.0.0) s.0.1 fault (deeper_link start l op x s.0.0 is) small (le_of_eq (sym is)) s.2)
  ]

  chain_at_fault : (r : Option Readers) → start + links_at l x ≤ limit → AreSound g limit (suc (start + links_at l x)) r → AreFaulty g limit (suc (start + links_at l x)) r
      → (symbols : List Symbol) (fault : Fault) → chain_at g r l x symbols ≡ Err fault → FaultStands limit (some_more g l start x) symbols fault
  unfolding chain_at
  chain_at_fault r within sound faults symbols fault e = elim (picked (binary_here l symbols) _ _ (Err fault) e) [
    | inl none ↦ no_fault _ fault none.1
    | inr some ↦
        let front = binary_here-is limit (start + links_at l x) l symbols some.0 within some.1 in
        elim (deep_err r (begins_expr g) _ (drop 1 symbols) fault some.2) [
          | inl w ↦ fault_as (some_more g l start x) (some_operated g start l some.0 x front.0 h) (fault_behind front.1
              (too_deep_expr g limit (suc (start + links_at l x)) (suc l) (omega arith) (subst (AreFaulty g limit (suc (start + links_at l x))) w.0 faults) (drop 1 symbols) fault w.1))
          | inr s ↦ chain_fault_with s.0 symbols some.0 fault (subst (AreSound g limit (suc (start + links_at l x))) s.1 sound) (subst (AreFaulty g limit (suc (start + links_at l x))) s.1 faults) front.0 front.1 s.2
        ]
  ]

-- ---- what goes on behind an expression

module _ (g : Dialect) (limit d : ℕ) (r : Option Readers) (within : d ≤ limit) (sound : AreSound g limit (suc d) r) (faults : AreFaulty g limit (suc d) r) where
  some_choice : (x : Term) → 2 ≤ level x → (marks : List Mark)
      → Joined (sign_token d sign.Question) (some_expr g 0 (suc d) · sign_token d sign.Colon · some_expr g 1 (suc d)) marks → some_more g 1 d x marks
  some_choice x h marks j =
      let a = j.second.first in
      let b = j.second.second.second in (
        Chosen x a.0 b.0,
        omega arith,
        continued g d x (Chosen x a.0 b.0) (sign_token d sign.Question · spells g (suc d) a.0 · sign_token d sign.Colon · spells g (suc d) b.0) (λ m k. (le-leb 2 (level x) h, (le-leb 1 (level b.0) b.1, k))) marks
            (record {
              front = j.front;
              back = j.back;
              parts = j.parts;
              first = j.first;
              second = record {
                front = j.second.front;
                back = j.second.back;
                parts = j.second.parts;
                first = a.2;
                second = record { front = j.second.second.front; back = j.second.second.back; parts = j.second.second.parts; first = j.second.second.first; second = b.2 };
              };
            }),
      )

  choice_at_fault : (x : Term) (symbols : List Symbol) (fault : Fault) → 2 ≤ level x → choice_at g r x symbols ≡ Err fault → FaultStands limit (some_more g 1 d x) symbols fault
  unfolding choice_at
  choice_at_fault x symbols fault h e = elim (chosen (begins_sign sign.Question symbols) _ _ (Err fault) e) [
    | inl c ↦ fault_as (some_more g 1 d x) (some_choice x h) (fault_behind (begins_sign_stands limit d sign.Question symbols within c.0) (elim (bind_err (deep_level g r 0 (drop 1 symbols)) _ fault c.1) [
      | inl w ↦ fault_before (sign_token d sign.Colon · some_expr g 1 (suc d)) (sign_mark d sign.Colon ++ name_mark (suc d))
          (record { front = sign_mark d sign.Colon; back = name_mark (suc d); parts = refl; first = (0, refl); second = blank_expr g 1 (suc d) (omega arith) })
          (deep_level_fault g limit (suc d) r faults 0 (drop 1 symbols) fault (omega arith) w)
      | inr a ↦ fault_behind (some_level g limit (suc d) 0 (drop 1 symbols) a.0 (deep_level-is g limit (suc d) r sound 0 (drop 1 symbols) a.0 (omega arith) a.1)) (elim (bind_err (behind sign.Colon a.0.1) _ fault a.2) [
        | inl w ↦ fault_before (some_expr g 1 (suc d)) (name_mark (suc d)) (blank_expr g 1 (suc d) (omega arith)) (behind_fault limit d sign.Colon a.0.1 fault w)
        | inr t ↦ fault_behind (behind_stands limit d sign.Colon a.0.1 t.0 within t.1) (elim (bind_err (deep_level g r 1 t.0) _ fault t.2) [
          | inl w ↦ deep_level_fault g limit (suc d) r faults 1 t.0 fault (omega arith) w
          | inr w ↦ no_fault _ fault w.2
        ])
      ])
    ]))
    | inr c ↦ no_fault _ fault c.1
  ]

  assignment_at_fault : (x : Term) (symbols : List Symbol) (fault : Fault) → 1 ≤ level x → assignment_at g r x symbols ≡ Err fault → FaultStands limit (some_more g 0 d x) symbols fault
  unfolding assignment_at
  assignment_at_fault x symbols fault h e = elim (picked (assign_here g symbols) _ _ (Err fault) e) [
    | inl none ↦ no_fault _ fault none.1
    | inr some ↦
        let front = assign_here-is limit d g symbols some.0 within some.1 in
        elim (bind_err (deep_level g r 0 (drop 1 symbols)) _ fault some.2) [
          | inl w ↦ fault_as (some_more g 0 d x)
              (λ m j. (
                Assigned some.0 x j.second.0,
                omega arith,
                continued g d x (Assigned some.0 x j.second.0) (sign_token d (assign_sign some.0) · spells g (suc d) j.second.0) (λ m k. (front.0, (le-leb 1 (level x) h, k))) m
                    (record { front = j.front; back = j.back; parts = j.parts; first = j.first; second = j.second.2 }),
              ))
              (fault_behind front.1 (deep_level_fault g limit (suc d) r faults 0 (drop 1 symbols) fault (omega arith) w))
          | inr w ↦ no_fault _ fault w.2
        ]
  ]

  tail_at_fault : (l : ℕ) (x : Term) (symbols : List Symbol) (fault : Fault) → l ≤ 7 → suc l ≤ level x → tail_at g r l x symbols ≡ Err fault → FaultStands limit (some_more g l d x) symbols fault
  unfolding tail_at
  tail_at_fault zero x symbols fault small h e = assignment_at_fault x symbols fault h e
  tail_at_fault (suc zero) x symbols fault small h e = choice_at_fault x symbols fault h e
  tail_at_fault (suc (suc k)) x symbols fault small h e =
      let none = no_links (suc (suc k)) x h in
      let at : d ≡ d + links_at (suc (suc k)) x = omega arith in
      chain_at_fault g limit d (suc (suc k)) x small (omega arith) r (omega arith) (subst (λ (d : ℕ). AreSound g limit (suc d) r) at sound) (subst (λ (d : ℕ). AreFaulty g limit (suc d) r) at faults) symbols fault e

  climb_at_fault : (least n : ℕ) (x : Term) (symbols : List Symbol) (fault : Fault) → least + n ≤ 8 → least + n ≤ level x → climb_at g r least n x symbols ≡ Err fault → FaultStands limit (some_more g least d x) symbols fault
  unfolding climb_at
  climb_at_fault least zero x symbols fault small h e = no_fault _ fault e
  climb_at_fault least (suc n) x symbols fault small h e = elim (bind_err (tail_at g r (least + n) x symbols) _ fault e) [
    | inl w ↦ fault_as (some_more g least d x) (lower_more g (least + n) least d x (omega arith)) (tail_at_fault (least + n) x symbols fault (omega arith) (omega arith) w)
    | inr s ↦
        let one = tail_at-is g limit d r within sound (least + n) x symbols s.0 (omega arith) (omega arith) s.1 in
        fault_goes_on g limit d (least + n) least x symbols s.0 fault one (climb_at_fault least n s.0.0 s.0.1 fault (omega arith) one.at_least s.2)
  ]

-- ---- primary expressions

-- any arguments
abbrev some_arguments : Dialect → ℕ → List Mark → Type 0
some_arguments g d marks = (args : Terms) × arguments g d args marks

module _ (g : Dialect) (limit d : ℕ) (r : Option Readers) (within : d ≤ limit) (sound : AreSound g limit (suc d) r) (faults : AreFaulty g limit (suc d) r) where
  -- an expression that must be there, and the sign behind it
  inside_fault : (symbols : List Symbol) (fault : Fault) (C : List Mark → Type 0) → (f : (marks : List Mark) → Joined (some_expr g 0 (suc d)) (sign_token d sign.CloseParenthesis) marks → C marks)
      → deep_level g r 0 symbols ≡ Err fault → FaultStands limit C symbols fault
  inside_fault symbols fault C f e = fault_as C f (fault_before (sign_token d sign.CloseParenthesis) (sign_mark d sign.CloseParenthesis) (0, refl) (deep_level_fault g limit (suc d) r faults 0 symbols fault (omega arith) e))

  listed_fault : (s : Readers) → r ≡ Some s → (symbols : List Symbol) (fault : Fault) → listed_at (s.level 0) (length symbols) [] symbols ≡ Err fault → FaultStands limit (some_arguments g (suc d)) symbols fault
  listed_fault s is symbols fault e =
      let one : IsSound g limit (suc d) s = subst (AreSound g limit (suc d)) is sound in
      let bad : FaultsStand g limit (suc d) s = subst (AreFaulty g limit (suc d)) is faults in
      fault_as (some_arguments g (suc d)) (λ m l. (terms_of (l.0 ∷ l.1), listed_arguments g (suc d) (l.0 ∷ l.1) m l.2))
      (listed_at_fault limit (suc d) (spells g (suc d)) (s.level 0) one.within
      (λ symbols x e. (one.level_is 0 symbols x (omega arith) e).stands)
      (λ symbols fault e. fault_as (λ m. (x : Term) × spells g (suc d) x m) (λ m s. (s.0, s.2)) (bad.level_is 0 symbols fault (omega arith) e))
      (Named blank_name) (name_mark (suc d)) refl (length symbols) [] symbols fault e)

  arguments_at_fault : (symbols : List Symbol) (fault : Fault) → arguments_at g r symbols ≡ Err fault → FaultStands limit (some_arguments g (suc d) · sign_token d sign.CloseParenthesis) symbols fault
  unfolding arguments_at
  arguments_at_fault symbols fault e =
      let read : Readers → List Symbol → Outcome (List Term) = λ r. listed_at (r.level 0) (length symbols) [] in
      let closing : FaultStands limit (some_arguments g (suc d)) symbols fault → FaultStands limit (some_arguments g (suc d) · sign_token d sign.CloseParenthesis) symbols fault
      = fault_before (sign_token d sign.CloseParenthesis) (sign_mark d sign.CloseParenthesis) (0, refl) in
      elim (chosen (begins_sign sign.CloseParenthesis symbols) _ _ (Err fault) e) [
        | inl c ↦ no_fault _ fault c.1
        | inr c ↦ elim (bind_err (deep r (begins_expr g) read symbols) _ fault c.1) [
          | inl w ↦ elim (deep_err r (begins_expr g) read symbols fault w) [
            | inl v ↦ closing (fault_as (some_arguments g (suc d)) (λ m s. (More s.0 Nothing, s.2))
                (too_deep_expr g limit (suc d) 0 (omega arith) (subst (AreFaulty g limit (suc d)) v.0 faults) symbols fault v.1))
            | inr v ↦ closing (listed_fault v.0 v.1 symbols fault v.2)
          ]
          | inr a ↦
              let s = deep-is r (begins_expr g) read symbols a.0 a.1 in
              elim (bind_err (behind sign.CloseParenthesis a.0.1) _ fault a.2) [
                | inl w ↦ fault_behind (stands_as (some_arguments g (suc d)) (λ m k. (terms_of a.0.0, k)) (listed_terms g limit d r within sound s.0 s.1 symbols a.0 s.2))
                    (behind_fault limit d sign.CloseParenthesis a.0.1 fault w)
                | inr w ↦ no_fault _ fault w.2
              ]
        ]
      ]

  named_at_fault : (n : Name) (symbols rest : List Symbol) (fault : Fault) → Stands limit (name d n) symbols rest → named_at g r n rest ≡ Err fault → FaultStands limit (some_expr g 8 d) symbols fault
  unfolding named_at
  named_at_fault n symbols rest fault named e = elim (chosen (is_c g && begins_sign sign.OpenParenthesis rest) _ _ (Err fault) e) [
    | inl c ↦
        let both = both_true (is_c g) (begins_sign sign.OpenParenthesis rest) c.0 in
        elim (bind_err (arguments_at g r (drop 1 rest)) _ fault c.1) [
          | inl w ↦ fault_as (some_expr g 8 d)
              (λ m j. (
                Called n j.second.second.first.0,
                omega arith,
                (
                  both.0,
                  record {
                    front = j.front;
                    back = j.back;
                    parts = j.parts;
                    first = j.first;
                    second = record {
                      front = j.second.front;
                      back = j.second.back;
                      parts = j.second.parts;
                      first = j.second.first;
                      second = record {
                        front = j.second.second.front;
                        back = j.second.second.back;
                        parts = j.second.second.parts;
                        first = j.second.second.first.1;
                        second = j.second.second.second;
                      };
                    };
                  },
                ),
              ))
              (fault_behind named (fault_behind (begins_sign_stands limit d sign.OpenParenthesis rest within both.1) (arguments_at_fault (drop 1 rest) fault w)))
          | inr w ↦ no_fault _ fault w.2
        ]
    | inr c ↦ no_fault _ fault c.1
  ]

  old_symbol_at_fault : (at : ℕ) (rest : List Symbol) (fault : Fault) → is_c g ≡ false → old_symbol_at at rest ≡ Err fault → FaultStands limit (some_expr g 8 d) (symbol.RuleWord at rule.OldSymbol ∷ rest) fault
  unfolding old_symbol_at
  old_symbol_at_fault at rest fault rules e = fault_as (some_expr g 8 d)
      (λ m j. (
        OldSymbol at j.second.second.first.0,
        omega arith,
        (
          ap not rules,
          record {
            front = j.front;
            back = j.back;
            parts = j.parts;
            first = j.first;
            second = record {
              front = j.second.front;
              back = j.second.back;
              parts = j.second.parts;
              first = j.second.first;
              second = record {
                front = j.second.second.front;
                back = j.second.second.back;
                parts = j.second.second.parts;
                first = j.second.second.first.1;
                second = j.second.second.second;
              };
            };
          },
        ),
      ))
      (fault_behind (token_stands limit d (symbol.RuleWord at rule.OldSymbol) rest within) (elim (bind_err (behind sign.OpenParenthesis rest) _ fault e) [
        | inl w ↦ fault_before (some_name d · sign_token d sign.CloseParenthesis) (name_mark d ++ sign_mark d sign.CloseParenthesis)
            (record { front = name_mark d; back = sign_mark d sign.CloseParenthesis; parts = refl; first = (blank_name, refl); second = (0, refl) })
            (behind_fault limit d sign.OpenParenthesis rest fault w)
        | inr o ↦ fault_behind (behind_stands limit d sign.OpenParenthesis rest o.0 within o.1) (elim (bind_err (name_at o.0) _ fault o.2) [
          | inl w ↦ fault_before (sign_token d sign.CloseParenthesis) (sign_mark d sign.CloseParenthesis) (0, refl) (name_at_fault limit d o.0 fault w)
          | inr n ↦ fault_behind (stands_as (some_name d) (λ m k. (n.0.0, k)) (name_at_stands limit d o.0 n.0 within n.1)) (elim (bind_err (behind sign.CloseParenthesis n.0.1) _ fault n.2) [
            | inl w ↦ behind_fault limit d sign.CloseParenthesis n.0.1 fault w
            | inr w ↦ no_fault _ fault w.2
          ])
        ])
      ]))

  new_object_at_fault : (at : ℕ) (rest : List Symbol) (fault : Fault) → is_c g ≡ false → new_object_at at rest ≡ Err fault → FaultStands limit (some_expr g 8 d) (symbol.RuleWord at rule.New ∷ rest) fault
  unfolding new_object_at
  new_object_at_fault at rest fault rules e = fault_as (some_expr g 8 d)
      (λ m j. (
        NewObject at j.second.second.first.0,
        omega arith,
        (
          ap not rules,
          record {
            front = j.front;
            back = j.back;
            parts = j.parts;
            first = j.first;
            second = record {
              front = j.second.front;
              back = j.second.back;
              parts = j.second.parts;
              first = j.second.first;
              second = record {
                front = j.second.second.front;
                back = j.second.second.back;
                parts = j.second.second.parts;
                first = j.second.second.first.1;
                second = j.second.second.second;
              };
            };
          },
        ),
      ))
      (fault_behind (token_stands limit d (symbol.RuleWord at rule.New) rest within) (elim (bind_err (behind sign.OpenParenthesis rest) _ fault e) [
        | inl w ↦ fault_before (some_fresh d · sign_token d sign.CloseParenthesis) ((fresh_blank d).0 ++ sign_mark d sign.CloseParenthesis)
            (record { front = (fresh_blank d).0; back = sign_mark d sign.CloseParenthesis; parts = refl; first = (fresh_blank d).1; second = (0, refl) })
            (behind_fault limit d sign.OpenParenthesis rest fault w)
        | inr o ↦ fault_behind (behind_stands limit d sign.OpenParenthesis rest o.0 within o.1) (elim (bind_err (fresh_at o.0) _ fault o.2) [
          | inl w ↦ fault_before (sign_token d sign.CloseParenthesis) (sign_mark d sign.CloseParenthesis) (0, refl) (fresh_at_fault limit d o.0 fault within w)
          | inr n ↦ fault_behind (stands_as (some_fresh d) (λ m k. (n.0.0, k)) (fresh_at_stands limit d o.0 n.0 within n.1)) (elim (bind_err (behind sign.CloseParenthesis n.0.1) _ fault n.2) [
            | inl w ↦ behind_fault limit d sign.CloseParenthesis n.0.1 fault w
            | inr w ↦ no_fault _ fault w.2
          ])
        ])
      ]))

  transform_at_fault : (at : ℕ) (rest : List Symbol) (fault : Fault) → is_c g ≡ false → transform_at g r at rest ≡ Err fault → FaultStands limit (some_expr g 8 d) (symbol.RuleWord at rule.Transform ∷ rest) fault
  unfolding transform_at
  transform_at_fault at rest fault rules e = fault_as (some_expr g 8 d)
      (λ m j. (
        Transformed at j.second.second.first.0,
        omega arith,
        (
          ap not rules,
          record {
            front = j.front;
            back = j.back;
            parts = j.parts;
            first = j.first;
            second = record {
              front = j.second.front;
              back = j.second.back;
              parts = j.second.parts;
              first = j.second.first;
              second = record {
                front = j.second.second.front;
                back = j.second.second.back;
                parts = j.second.second.parts;
                first = j.second.second.first.2;
                second = j.second.second.second;
              };
            };
          },
        ),
      ))
      (fault_behind (token_stands limit d (symbol.RuleWord at rule.Transform) rest within) (elim (bind_err (behind sign.OpenParenthesis rest) _ fault e) [
        | inl w ↦ fault_before (some_expr g 0 (suc d) · sign_token d sign.CloseParenthesis) (name_mark (suc d) ++ sign_mark d sign.CloseParenthesis)
            (record { front = name_mark (suc d); back = sign_mark d sign.CloseParenthesis; parts = refl; first = blank_expr g 0 (suc d) (omega arith); second = (0, refl) })
            (behind_fault limit d sign.OpenParenthesis rest fault w)
        | inr o ↦ fault_behind (behind_stands limit d sign.OpenParenthesis rest o.0 within o.1) (elim (bind_err (deep_level g r 0 o.0) _ fault o.2) [
          | inl w ↦ fault_before (sign_token d sign.CloseParenthesis) (sign_mark d sign.CloseParenthesis) (0, refl) (deep_level_fault g limit (suc d) r faults 0 o.0 fault (omega arith) w)
          | inr a ↦ fault_behind (some_level g limit (suc d) 0 o.0 a.0 (deep_level-is g limit (suc d) r sound 0 o.0 a.0 (omega arith) a.1)) (elim (bind_err (behind sign.CloseParenthesis a.0.1) _ fault a.2) [
            | inl w ↦ behind_fault limit d sign.CloseParenthesis a.0.1 fault w
            | inr w ↦ no_fault _ fault w.2
          ])
        ])
      ]))

  rule_at_fault : (at : ℕ) (word : RuleWord) (rest : List Symbol) (fault : Fault) → is_c g ≡ false → rule_at g r at word rest ≡ Err fault → FaultStands limit (some_expr g 8 d) (symbol.RuleWord at word ∷ rest) fault
  unfolding rule_at
  rule_at_fault at rule.In rest fault rules e = no_fault _ fault e
  rule_at_fault at rule.Out rest fault rules e = no_fault _ fault e
  rule_at_fault at rule.Base rest fault rules e = no_fault _ fault e
  rule_at_fault at rule.OldSymbol rest fault rules e = old_symbol_at_fault at rest fault rules e
  rule_at_fault at rule.Transform rest fault rules e = transform_at_fault at rest fault rules e
  rule_at_fault at rule.New rest fault rules e = new_object_at_fault at rest fault rules e

  size_of_at_fault : (at : ℕ) (rest : List Symbol) (fault : Fault) → is_c g ≡ true → ◌≡◌ {A = Outcome Term} (between_at rest >>= λ t. Ok (SizeOf at t.0, t.1)) (Err fault) → FaultStands limit (some_expr g 8 d) (symbol.Keyword at keywords.SizeOf ∷ rest) fault
  size_of_at_fault at rest fault c e = elim (bind_err (between_at rest) _ fault e) [
    | inl w ↦ fault_as (some_expr g 8 d)
        (λ m j. (
          SizeOf at j.second.second.first.0,
          omega arith,
          (
            c,
            record {
              front = j.front;
              back = j.back;
              parts = j.parts;
              first = j.first;
              second = record {
                front = j.second.front;
                back = j.second.back;
                parts = j.second.parts;
                first = j.second.first;
                second = record {
                  front = j.second.second.front;
                  back = j.second.second.back;
                  parts = j.second.second.parts;
                  first = j.second.second.first.1;
                  second = j.second.second.second;
                };
              };
            },
          ),
        ))
        (fault_behind (token_stands limit d (symbol.Keyword at keywords.SizeOf) rest within) (between_at_fault limit d rest fault within w))
    | inr w ↦ no_fault _ fault w.2
  ]

  -- no expression begins here, but one could
  no_expr : {A : Type 0} (symbols : List Symbol) (fault : Fault) → ◌≡◌ {A = Result A Fault} (unexpected symbols) (Err fault) → FaultStands limit (some_expr g 8 d) symbols fault
  no_expr symbols fault e = unexpected_stands limit (some_expr g 8 d) (name_mark d) symbols fault (blank_expr g 8 d (omega arith)) e

  primary_at_fault : (symbols : List Symbol) (fault : Fault) → primary_at g r symbols ≡ Err fault → FaultStands limit (some_expr g 8 d) symbols fault
  unfolding primary_at
  primary_at_fault [] fault e = no_expr [] fault e
  primary_at_fault (symbol.Name at word ∷ rest) fault e =
      named_at_fault (record { at = at; word = word }) (symbol.Name at word ∷ rest) rest fault (token_stands limit d (symbol.Name at word) rest within) e
  primary_at_fault (symbol.Keyword at keywords.Null ∷ rest) fault e = no_fault _ fault e
  primary_at_fault (symbol.Keyword at keywords.Eof ∷ rest) fault e = no_fault _ fault e
  primary_at_fault (symbol.Keyword at keywords.SizeOf ∷ rest) fault e = elim (chosen (is_c g) _ _ (Err fault) e) [
    | inl c ↦ size_of_at_fault at rest fault c.0 c.1
    | inr c ↦ no_expr (symbol.Keyword at keywords.SizeOf ∷ rest) fault c.1
  ]
  primary_at_fault (symbol.Keyword at other ∷ rest) fault e = no_expr (symbol.Keyword at other ∷ rest) fault e
  primary_at_fault (symbol.Number at n ∷ rest) fault e = no_fault _ fault e
  primary_at_fault (symbol.Character at b ∷ rest) fault e = no_fault _ fault e
  primary_at_fault (symbol.Text at bytes ∷ rest) fault e = elim (chosen (is_c g) _ _ (Err fault) e) [
    | inl c ↦ no_fault _ fault c.1
    | inr c ↦ no_expr (symbol.Text at bytes ∷ rest) fault c.1
  ]
  primary_at_fault (symbol.RuleWord at word ∷ rest) fault e = elim (chosen (is_c g) _ _ (Err fault) e) [
    | inl c ↦ no_expr (symbol.RuleWord at word ∷ rest) fault c.1
    | inr c ↦ rule_at_fault at word rest fault c.0 c.1
  ]
  primary_at_fault (symbol.Sign at s ∷ rest) fault e = no_expr (symbol.Sign at s ∷ rest) fault e
  primary_at_fault (symbol.Other at ∷ rest) fault e = no_expr (symbol.Other at ∷ rest) fault e

  -- ---- unary expressions

  -- what is at fault behind a primary expression
  postfix_fault : (symbols : List Symbol) (x : Term × List Symbol) (fault : Fault) → Stands limit (spells g d x.0) symbols x.1 → level x.0 ≡ 9 → links x.0 ≡ 0 → postfix_at g r x.0 x.1 ≡ Err fault → FaultStands limit (some_expr g 8 d) symbols fault
  postfix_fault symbols x fault s l none e =
      let at : d ≡ d + links x.0 = omega arith in
      let on = postfix_at_fault g limit d r x.0 (omega arith) (omega arith) (subst (λ (d : ℕ). AreSound g limit (suc d) r) at sound) (subst (λ (d : ℕ). AreFaulty g limit (suc d) r) at faults) x.1 fault e in
      fault_as (some_expr g 8 d) (lower_expr g 9 8 d (omega arith)) (fault_goes_behind g limit d 9 symbols x fault s on)

  cast_at_fault : (at : ℕ) (rest : List Symbol) (fault : Fault)
      → ◌≡◌ {A = Outcome Term} (type_at rest >>= λ t. behind sign.CloseParenthesis t.1 >>= λ rest. deep_level g r 8 rest >>= λ a. Ok (Converted at t.0 a.0, a.1)) (Err fault)
      → FaultStands limit (some_expr g 8 d) (symbol.Sign at sign.OpenParenthesis ∷ rest) fault
  cast_at_fault at rest fault e = fault_as (some_expr g 8 d)
      (λ m j.
      let t = j.second.first in
      let a = j.second.second.second in (
        Converted at t.0 a.0,
        omega arith,
        (
          le-leb 8 (level a.0) a.1,
          record {
            front = j.front;
            back = j.back;
            parts = j.parts;
            first = j.first;
            second = record {
              front = j.second.front;
              back = j.second.back;
              parts = j.second.parts;
              first = t.1;
              second = record { front = j.second.second.front; back = j.second.second.back; parts = j.second.second.parts; first = j.second.second.first; second = a.2 };
            };
          },
        ),
      ))
      (fault_behind (token_stands limit d (symbol.Sign at sign.OpenParenthesis) rest within) (elim (bind_err (type_at rest) _ fault e) [
        | inl w ↦ fault_before (sign_token d sign.CloseParenthesis · some_expr g 8 (suc d)) (sign_mark d sign.CloseParenthesis ++ name_mark (suc d))
            (record { front = sign_mark d sign.CloseParenthesis; back = name_mark (suc d); parts = refl; first = (0, refl); second = blank_expr g 8 (suc d) (omega arith) })
            (type_at_fault limit d rest fault within w)
        | inr t ↦ fault_behind (stands_as (some_type d) (λ m k. (t.0.0, k)) (type_at_stands limit d rest t.0 within t.1)) (elim (bind_err (behind sign.CloseParenthesis t.0.1) _ fault t.2) [
          | inl w ↦ fault_before (some_expr g 8 (suc d)) (name_mark (suc d)) (blank_expr g 8 (suc d) (omega arith)) (behind_fault limit d sign.CloseParenthesis t.0.1 fault w)
          | inr c ↦ fault_behind (behind_stands limit d sign.CloseParenthesis t.0.1 c.0 within c.1) (elim (bind_err (deep_level g r 8 c.0) _ fault c.2) [
            | inl w ↦ deep_level_fault g limit (suc d) r faults 8 c.0 fault (omega arith) w
            | inr w ↦ no_fault _ fault w.2
          ])
        ])
      ]))

  -- any expression in parentheses
  parenthesised : (at : ℕ) (marks : List Mark) → Joined (token d (symbol.Sign at sign.OpenParenthesis)) (some_expr g 0 (suc d) · sign_token d sign.CloseParenthesis) marks → some_expr g 8 d marks
  parenthesised at marks j = (
    Parenthesised at j.second.first.0,
    omega arith,
    record {
      front = j.front;
      back = j.back;
      parts = j.parts;
      first = j.first;
      second = record { front = j.second.front; back = j.second.back; parts = j.second.parts; first = j.second.first.2; second = j.second.second };
    },
  )

  parenthesised_at_fault : (at : ℕ) (rest : List Symbol) (fault : Fault)
      → (deep_level g r 0 rest >>= λ a. behind sign.CloseParenthesis a.1 >>= λ rest. postfix_at g r (Parenthesised at a.0) rest) ≡ Err fault
      → FaultStands limit (some_expr g 8 d) (symbol.Sign at sign.OpenParenthesis ∷ rest) fault
  parenthesised_at_fault at rest fault e =
      let opened = token_stands limit d (symbol.Sign at sign.OpenParenthesis) rest within in
      elim (bind_err (deep_level g r 0 rest) _ fault e) [
        | inl w ↦ fault_as (some_expr g 8 d) (parenthesised at) (fault_behind opened
            (fault_before (sign_token d sign.CloseParenthesis) (sign_mark d sign.CloseParenthesis) (0, refl) (deep_level_fault g limit (suc d) r faults 0 rest fault (omega arith) w)))
        | inr a ↦
            let inside = deep_level-is g limit (suc d) r sound 0 rest a.0 (omega arith) a.1 in
            elim (bind_err (behind sign.CloseParenthesis a.0.1) _ fault a.2) [
              | inl w ↦ fault_as (some_expr g 8 d) (parenthesised at) (fault_behind opened
                  (fault_behind (some_level g limit (suc d) 0 rest a.0 inside) (behind_fault limit d sign.CloseParenthesis a.0.1 fault w)))
              | inr c ↦ postfix_fault (symbol.Sign at sign.OpenParenthesis ∷ rest) (Parenthesised at a.0.0, c.0) fault
                  (stands_joined opened (stands_joined inside.stands (behind_stands limit d sign.CloseParenthesis a.0.1 c.0 within c.1))) refl refl c.2
            ]
      ]

  parenthesis_at_fault : (at : ℕ) (rest : List Symbol) (fault : Fault) → parenthesis_at g r at rest ≡ Err fault → FaultStands limit (some_expr g 8 d) (symbol.Sign at sign.OpenParenthesis ∷ rest) fault
  unfolding parenthesis_at
  parenthesis_at_fault at rest fault e = elim (chosen (begins_base rest) _ _ (Err fault) e) [
    | inl c ↦ cast_at_fault at rest fault c.1
    | inr c ↦ parenthesised_at_fault at rest fault c.1
  ]

  prefixed_at_fault : (at : ℕ) (s : Sign) (o : Option PrefixOperator) (rest : List Symbol) (fault : Fault) → prefix_of g s ≡ o → prefixed_at g r at o (symbol.Sign at s ∷ rest) rest ≡ Err fault → FaultStands limit (some_expr g 8 d) (symbol.Sign at s ∷ rest) fault
  unfolding prefixed_at
  prefixed_at_fault at s None rest fault is e = no_expr (symbol.Sign at s ∷ rest) fault e
  prefixed_at_fault at s (Some op) rest fault is e =
      let known = prefix_of-is g s op is in
      subst (λ (s : Sign). FaultStands limit (some_expr g 8 d) (symbol.Sign at s ∷ rest) fault) (sym known.0) (elim (bind_err (deep_level g r 8 rest) _ fault e) [
        | inl w ↦ fault_as (some_expr g 8 d)
            (λ m j. (
              Prefixed at op j.second.0,
              omega arith,
              (
                known.1,
                (
                  le-leb 8 (level j.second.0) j.second.1,
                  record { front = j.front; back = j.back; parts = j.parts; first = j.first; second = j.second.2 },
                ),
              ),
            ))
            (fault_behind (token_stands limit d (symbol.Sign at (prefix_sign op)) rest within) (deep_level_fault g limit (suc d) r faults 8 rest fault (omega arith) w))
        | inr w ↦ no_fault _ fault w.2
      ])

  unary_sign_at_fault : (at : ℕ) (s : Sign) (rest : List Symbol) (fault : Fault) → unary_at g r (symbol.Sign at s ∷ rest) ≡ Err fault → FaultStands limit (some_expr g 8 d) (symbol.Sign at s ∷ rest) fault
  unfolding unary_at
  unary_sign_at_fault at s rest fault e = elim (chosen (same_sign s sign.OpenParenthesis) _ _ (Err fault) e) [
    | inl c ↦ subst (λ (s : Sign). FaultStands limit (some_expr g 8 d) (symbol.Sign at s ∷ rest) fault) (sym (same_sign_is s sign.OpenParenthesis c.0)) (parenthesis_at_fault at rest fault c.1)
    | inr c ↦ prefixed_at_fault at s (prefix_of g s) rest fault refl c.1
  ]

  -- a primary expression, or what stands behind it, is at fault
  primary_fault : (symbols : List Symbol) (fault : Fault) → (primary_at g r symbols >>= λ x. postfix_at g r x.0 x.1) ≡ Err fault → FaultStands limit (some_expr g 8 d) symbols fault
  primary_fault symbols fault e = elim (bind_err (primary_at g r symbols) _ fault e) [
    | inl w ↦ primary_at_fault symbols fault w
    | inr x ↦ let p = primary_at-is g limit d r within sound symbols x.0 x.1 in postfix_fault symbols x.0 fault p.stands p.level_is p.links_are x.2
  ]

  unary_at_fault : (symbols : List Symbol) (fault : Fault) → unary_at g r symbols ≡ Err fault → FaultStands limit (some_expr g 8 d) symbols fault
  unfolding unary_at
  unary_at_fault (symbol.Sign at s ∷ rest) fault e = unary_sign_at_fault at s rest fault e
  unary_at_fault [] fault e = no_expr [] fault e
  unary_at_fault (other ∷ rest) fault e = primary_fault (other ∷ rest) fault e

  level_at_fault : (least : ℕ) (symbols : List Symbol) (fault : Fault) → least ≤ 8 → level_at g r least symbols ≡ Err fault → FaultStands limit (some_expr g least d) symbols fault
  unfolding level_at
  level_at_fault least symbols fault small e = elim (bind_err (unary_at g r symbols) _ fault e) [
    | inl w ↦ fault_as (some_expr g least d) (lower_expr g 8 least d small) (unary_at_fault symbols fault w)
    | inr x ↦
        let first = unary_at-is g limit d r within sound symbols x.0 x.1 in
        let high = first.at_least in
        fault_goes_behind g limit d least symbols x.0 fault first.stands
        (climb_at_fault g limit d r within sound faults least (8 - least) x.0.0 x.0.1 fault (omega arith) (omega arith) x.2)
  ]

  -- what reads one deeper is at fault as it says
  readers_fault : FaultsStand g limit d (record { level = level_at g r; chain = chain_at g r; postfix = postfix_at g r })
  readers_fault = record {
    level_is = level_at_fault;
    chain_is = λ start l x symbols fault at small h e.
        chain_at_fault g limit start l x small h r (subst (λ (k : ℕ). k ≤ limit) (sym at) within) (subst (λ (k : ℕ). AreSound g limit (suc k) r) (sym at) sound) (subst (λ (k : ℕ). AreFaulty g limit (suc k) r) (sym at) faults) symbols fault e;
    postfix_is = λ start x symbols fault at h e.
        postfix_at_fault g limit start r x h (subst (λ (k : ℕ). k ≤ limit) (sym at) within) (subst (λ (k : ℕ). AreSound g limit (suc k) r) (sym at) sound) (subst (λ (k : ℕ). AreFaulty g limit (suc k) r) (sym at) faults) symbols fault e;
  }

-- ---- at any depth

deeper_fault : (g : Dialect) (limit n d : ℕ) → d + n ≡ limit → AreFaulty g limit (suc d) (deeper g n)
unfolding deeper
deeper_fault g limit zero d at = omega arith
deeper_fault g limit (suc n) d at = readers_fault g limit (suc d) (deeper g n) (omega arith) (deeper-is g limit n (suc d) (omega arith)) (deeper_fault g limit n (suc d) (omega arith))

pub expr_fault_stands : ExprFaultStands
unfolding expr_at
expr_fault_stands g n d symbols fault e =
    level_at_fault g (d + n) d (deeper g n) (omega arith) (deeper-is g (d + n) n d refl) (deeper_fault g (d + n) n d refl) 0 symbols fault (omega arith) e

-- a symbol that an expression may begin with begins one
pub expr_goes_on : ExprGoesOn
expr_goes_on g d s rest e = let b = begins_expr-is g d s rest e in (b.0, lower_expr g 8 0 d (omega arith) (record { symbol = s; depth = d } ∷ b.0) b.1)
