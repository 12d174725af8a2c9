-- Laws of what stands at the front of symbols: joining parts, taking readers apart, and the readers that all texts share.
use Rattle.std.proofs.Common.{◌≡◌, ℕ, zero, suc, ◌≤◌, ◌⊎◌, inl, inr, Bool, true, false, cond, ◌&&◌, List, [], ◌∷◌, ◌++◌, drop, get_or, Result, Ok, Err, refl, sym, ap, ◌∙◌, subst, eqb-true, append_assoc, le_trans}
use Rattle.std.specs.Prelude.{MatchResult, if◌then◌else◌}
use Rattle.kt_grammar.specs.declared.fault.Fault.{Fault}
use Rattle.kt_grammar.specs.declared.keyword.Keyword.{Keyword}
use Rattle.kt_grammar.specs.declared.keyword.Keyword.TheVariants as keywords
use Rattle.kt_grammar.specs.declared.sign.Sign.{Sign}
use Rattle.kt_grammar.specs.declared.sign.Sign.TheVariants as sign
use Rattle.kt_grammar.specs.declared.symbol.Symbol.{Symbol}
use Rattle.kt_grammar.specs.declared.symbol.Symbol.TheVariants as symbol
use Rattle.kt_grammar.specs.declared.tree.Name.{Name}
use Rattle.kt_grammar.specs.declared.tree.Base.{Base}
use Rattle.kt_grammar.specs.declared.tree.Base.TheVariants as base
use Rattle.kt_grammar.specs.declared.tree.TypeName.{TypeName}
use Rattle.kt_grammar.specs.Signs.{sign_number, same_sign}
use Rattle.kt_grammar.specs.Marks.{Mark, symbols_of, IsShallow, nothing, token, sign as sign_token, keyword, name, ◌·◌, when, optional, repeated}
use Rattle.kt_grammar.specs.Spelling.{between, bare_base, spells_base, spells_type}
use Rattle.kt_grammar.specs.Cursor.{◌>>=◌, Outcome, begins_sign, behind, name_at, count_sign, listed_at}
use Rattle.kt_grammar.specs.Reading.{behind_const, bare_base_at, base_at, type_at, between_at}
use Rattle.kt_grammar.specs.CutLaws.{symbols_of-append, shallow-append}
use Rattle.kt_grammar.specs.Laws.{Stands}

-- ---- results

-- no fault is a value
pub no_value {κ} : {A : Type 0} {C : Type κ} (fault : Fault) (x : A) → ◌≡◌ {A = Result A Fault} (Err fault) (Ok x) → C
no_value {A} {C} fault x e = absurd (subst (λ (r : Result A Fault). MatchResult r (λ v. ⊥) (λ e. Unit {0})) e tt)

value_or : {A : Type 0} → A → Result A Fault → A
value_or x (Ok y) = y
value_or x (Err fault) = x

-- equal answers have equal values
pub same_value : {A : Type 0} (x y : A) → ◌≡◌ {A = Result A Fault} (Ok x) (Ok y) → x ≡ y
unfolding value_or
same_value x y e = ap (value_or x) e

-- what holds of a value holds of one that is answered alike
pub by_value : {A : Type 0} (P : A → Type 0) (x y : A) → ◌≡◌ {A = Result A Fault} (Ok x) (Ok y) → P x → P y
by_value P x y e h = subst P (same_value x y e) h

-- the value of a step that gave one
pub record Step {A B : Type 0} (read : Result A Fault) (f : A → Result B Fault) (y : B) : Type 0 where
  pub value : A
  pub gave : read ≡ Ok value
  pub then_gave : f value ≡ Ok y

-- a reading in two steps that gives a value: each step gave one
pub bind_ok : {A B : Type 0} (read : Result A Fault) (f : A → Result B Fault) (y : B) → (read >>= f) ≡ Ok y → Step read f y
bind_ok (Ok x) f y e = record { value = x; gave = refl; then_gave = e }
bind_ok (Err fault) f y e = no_value fault y e

-- a test is true or false
pub either : (t : Bool) → (t ≡ true) ⊎ (t ≡ false)
either true = inl refl
either false = inr refl

-- which way a choice went
pub chosen : {A : Type 0} (b : Bool) (x y z : A) → (if b then x else y) ≡ z → ((b ≡ true) × (x ≡ z)) ⊎ ((b ≡ false) × (y ≡ z))
chosen true x y z e = inl (refl, e)
chosen false x y z e = inr (refl, e)

-- a choice whose other way is a fault went the first way
pub chosen_first : {A : Type 0} (b : Bool) (x : Result A Fault) (fault : Fault) (z : A) → (if b then x else Err fault) ≡ Ok z → (b ≡ true) × (x ≡ Ok z)
chosen_first true x fault z e = (refl, e)
chosen_first false x fault z e = no_value fault z e

-- a choice whose first way is a fault went the other way
pub chosen_second : {A : Type 0} (b : Bool) (y : Result A Fault) (fault : Fault) (z : A) → (if b then Err fault else y) ≡ Ok z → (b ≡ false) × (y ≡ Ok z)
chosen_second true y fault z e = no_value fault z e
chosen_second false y fault z e = (refl, e)

-- a test that holds only if both do
pub both_true : (a b : Bool) → (a && b) ≡ true → (a ≡ true) × (b ≡ true)
both_true true b e = (refl, e)
both_true false b e = absurd (subst (λ (t : Bool). cond t ⊥ (Unit {0})) e tt)

-- ---- signs

signs_in_order : List Sign
signs_in_order =
    sign.OpenBrace ∷ sign.CloseBrace ∷ sign.OpenParenthesis ∷ sign.CloseParenthesis ∷ sign.OpenBracket ∷ sign.CloseBracket
    ∷ sign.Semicolon ∷ sign.Comma ∷ sign.Dot ∷ sign.Arrow ∷ sign.DoubleColon ∷ sign.Colon ∷ sign.Question ∷ sign.Assign
    ∷ sign.Equal ∷ sign.NotEqual ∷ sign.Less ∷ sign.Greater ∷ sign.LessEqual ∷ sign.GreaterEqual ∷ sign.Plus ∷ sign.Minus
    ∷ sign.Star ∷ sign.Slash ∷ sign.Percent ∷ sign.PlusPlus ∷ sign.MinusMinus ∷ sign.PlusAssign ∷ sign.MinusAssign
    ∷ sign.StarAssign ∷ sign.SlashAssign ∷ sign.PercentAssign ∷ sign.Not ∷ sign.AndAnd ∷ sign.OrOr ∷ sign.And ∷ []

sign_of : ℕ → Sign
sign_of n = get_or signs_in_order n sign.And

sign_of-number : (s : Sign) → sign_of (sign_number s) ≡ s
unfolding sign_of signs_in_order
sign_of-number sign.OpenBrace = refl
sign_of-number _ = refl

-- signs that compare equal are one
pub same_sign_is : (a b : Sign) → same_sign a b ≡ true → a ≡ b
same_sign_is a b e = sym (sign_of-number a) ∙ ap sign_of (eqb-true (sign_number a) (sign_number b) e) ∙ sign_of-number b

-- ---- marks

-- marks within a limit are within a greater one
pub shallow_within : (limit more : ℕ) (marks : List Mark) → limit ≤ more → IsShallow limit marks → IsShallow more marks
shallow_within limit more [] h s = tt
shallow_within limit more (m ∷ marks) h s = (le_trans s.0 h, shallow_within limit more marks h s.1)

-- ---- what stands at the front

-- nothing stands before the symbols themselves
pub nothing_stands : (limit : ℕ) (symbols : List Symbol) → Stands limit nothing symbols symbols
nothing_stands limit symbols = record { marks = []; parts = refl; spelled = refl; shallow = tt }

-- a token stands before its rest
pub token_stands : (limit d : ℕ) (s : Symbol) (rest : List Symbol) → d ≤ limit → Stands limit (token d s) (s ∷ rest) rest
token_stands limit d s rest h = record { marks = record { symbol = s; depth = d } ∷ []; parts = refl; spelled = refl; shallow = (h, tt) }

-- one part stands, and then another
pub stands_joined : {limit : ℕ} {A B : List Mark → Type 0} {symbols middle rest : List Symbol} → Stands limit A symbols middle → Stands limit B middle rest → Stands limit (A · B) symbols rest
stands_joined {limit} {A} {B} {symbols} {middle} {rest} a b = record {
  marks = a.marks ++ b.marks;
  parts =
      a.parts ∙ ap (λ (r : List Symbol). symbols_of a.marks ++ r) b.parts
      ∙ sym (append_assoc (symbols_of a.marks) (symbols_of b.marks) rest)
      ∙ ap (λ (s : List Symbol). s ++ rest) (sym (symbols_of-append a.marks b.marks));
  spelled = record { front = a.marks; back = b.marks; parts = refl; first = a.spelled; second = b.spelled };
  shallow = shallow-append limit a.marks b.marks a.shallow b.shallow;
}

-- what spells the one spells the other
pub stands_as : {limit : ℕ} {A : List Mark → Type 0} {symbols rest : List Symbol} (B : List Mark → Type 0) → ((marks : List Mark) → A marks → B marks) → Stands limit A symbols rest → Stands limit B symbols rest
stands_as B f s = record { marks = s.marks; parts = s.parts; spelled = f s.marks s.spelled; shallow = s.shallow }

-- what stands within a limit stands within a greater one
pub stands_within : {limit : ℕ} {A : List Mark → Type 0} {symbols rest : List Symbol} (more : ℕ) → limit ≤ more → Stands limit A symbols rest → Stands more A symbols rest
stands_within {limit} more h s = record { marks = s.marks; parts = s.parts; spelled = s.spelled; shallow = shallow_within limit more s.marks h s.shallow }

-- what stands may be asked for under a condition that holds
pub stands_when : {limit : ℕ} {A : List Mark → Type 0} {symbols rest : List Symbol} (b : Bool) → b ≡ true → Stands limit A symbols rest → Stands limit (when b A) symbols rest
stands_when {A = A} b h s = stands_as (when b A) (λ m a. (h, a)) s

-- what need not stand is left out
pub optional_none : (limit : ℕ) (A : List Mark → Type 0) (symbols : List Symbol) → Stands limit (optional A) symbols symbols
optional_none limit A symbols = stands_as (optional A) (λ m n. inl n) (nothing_stands limit symbols)

-- what need not stand stands
pub optional_some : {limit : ℕ} {A : List Mark → Type 0} {symbols rest : List Symbol} → Stands limit A symbols rest → Stands limit (optional A) symbols rest
optional_some {A = A} s = stands_as (optional A) (λ m a. inr a) s

-- ---- signs, keywords and names

-- a token of this sign stands before its rest
pub sign_stands : (limit d at : ℕ) (s : Sign) (rest : List Symbol) → d ≤ limit → Stands limit (sign_token d s) (symbol.Sign at s ∷ rest) rest
sign_stands limit d at s rest h = stands_as (sign_token d s) (λ m t. (at, t)) (token_stands limit d (symbol.Sign at s) rest h)

-- a token of this keyword stands before its rest
pub keyword_stands : (limit d at : ℕ) (k : Keyword) (rest : List Symbol) → d ≤ limit → Stands limit (keyword d k) (symbol.Keyword at k ∷ rest) rest
keyword_stands limit d at k rest h = stands_as (keyword d k) (λ m t. (at, t)) (token_stands limit d (symbol.Keyword at k) rest h)

-- a sign at the front stands there
pub begins_sign_stands : (limit d : ℕ) (s : Sign) (symbols : List Symbol) → d ≤ limit → begins_sign s symbols ≡ true → Stands limit (sign_token d s) symbols (drop 1 symbols)
unfolding begins_sign
begins_sign_stands limit d s (symbol.Sign at t ∷ rest) h e =
    subst (λ (t : Sign). Stands limit (sign_token d s) (symbol.Sign at t ∷ rest) rest) (sym (same_sign_is t s e)) (sign_stands limit d at s rest h)
begins_sign_stands limit d s _ h e = absurd (subst (λ (t : Bool). cond t ⊥ (Unit {0})) e tt)

-- a sign that is taken stands there
pub behind_stands : (limit d : ℕ) (s : Sign) (symbols rest : List Symbol) → d ≤ limit → behind s symbols ≡ Ok rest → Stands limit (sign_token d s) symbols rest
unfolding behind
behind_stands limit d s symbols rest h e =
    let c = chosen_first (begins_sign s symbols) (Ok (drop 1 symbols)) _ rest e in
    by_value (λ (r : List Symbol). Stands limit (sign_token d s) symbols r) (drop 1 symbols) rest c.1 (begins_sign_stands limit d s symbols h c.0)

-- a name that is read stands there
pub name_at_stands : (limit d : ℕ) (symbols : List Symbol) (x : Name × List Symbol) → d ≤ limit → name_at symbols ≡ Ok x → Stands limit (name d x.0) symbols x.1
unfolding name_at
name_at_stands limit d (symbol.Name at word ∷ rest) x h e =
    by_value (λ (y : Name × List Symbol). Stands limit (name d y.0) (symbol.Name at word ∷ rest) y.1) (record { at = at; word = word }, rest) x e
    (token_stands limit d (symbol.Name at word) rest h)
name_at_stands limit d _ x h e = no_value _ x e

-- the signs that are counted stand there
pub count_sign_stands : (limit d : ℕ) (s : Sign) (symbols : List Symbol) → d ≤ limit → Stands limit (repeated d s (count_sign s symbols)) symbols (drop (count_sign s symbols) symbols)
unfolding count_sign
count_sign_stands limit d s [] h = nothing_stands limit []
count_sign_stands limit d s (first ∷ rest) h =
    let Counted : Bool → Type 0 =
    λ b. let n = if b then suc (count_sign s rest) else 0 in Stands limit (repeated d s n) (first ∷ rest) (drop n (first ∷ rest)) in
    elim (either (begins_sign s (first ∷ rest))) [
      | inl t ↦ subst Counted (sym t) (stands_joined (begins_sign_stands limit d s (first ∷ rest) h t) (count_sign_stands limit d s rest h))
      | inr f ↦ subst Counted (sym f) (nothing_stands limit (first ∷ rest))
    ]

-- ---- types

-- a type without stars that is read, behind a `const` or none, stands there
pub bare_base_at_stands : (limit d : ℕ) (symbols : List Symbol) (x : Base × List Symbol) → d ≤ limit → bare_base_at symbols ≡ Ok x → Stands limit (bare_base d x.0) symbols x.1
unfolding bare_base_at
bare_base_at_stands limit d (symbol.Keyword at keywords.Char ∷ rest) x h e =
    by_value (λ (y : Base × List Symbol). Stands limit (bare_base d y.0) (symbol.Keyword at keywords.Char ∷ rest) y.1) (base.Char, rest) x e
    (keyword_stands limit d at keywords.Char rest h)
bare_base_at_stands limit d (symbol.Keyword at keywords.Int ∷ rest) x h e =
    by_value (λ (y : Base × List Symbol). Stands limit (bare_base d y.0) (symbol.Keyword at keywords.Int ∷ rest) y.1) (base.Int, rest) x e
    (keyword_stands limit d at keywords.Int rest h)
bare_base_at_stands limit d (symbol.Keyword at keywords.Long ∷ rest) x h e =
    by_value (λ (y : Base × List Symbol). Stands limit (bare_base d y.0) (symbol.Keyword at keywords.Long ∷ rest) y.1) (base.Long, rest) x e
    (keyword_stands limit d at keywords.Long rest h)
bare_base_at_stands limit d (symbol.Keyword at keywords.Mutex ∷ rest) x h e =
    by_value (λ (y : Base × List Symbol). Stands limit (bare_base d y.0) (symbol.Keyword at keywords.Mutex ∷ rest) y.1) (base.Mutex, rest) x e
    (keyword_stands limit d at keywords.Mutex rest h)
bare_base_at_stands limit d (symbol.Keyword at keywords.Struct ∷ rest) x h e =
    let s = bind_ok (name_at rest) (λ n. Ok (base.Struct n.0, n.1)) x e in
    by_value (λ (y : Base × List Symbol). Stands limit (bare_base d y.0) (symbol.Keyword at keywords.Struct ∷ rest) y.1) (base.Struct s.value.0, s.value.1) x s.then_gave
    (stands_joined (keyword_stands limit d at keywords.Struct rest h) (name_at_stands limit d rest s.value h s.gave))
bare_base_at_stands limit d _ x h e = no_value _ x e

-- a type without stars that is read stands there
pub base_at_stands : (limit d : ℕ) (symbols : List Symbol) (x : Base × List Symbol) → d ≤ limit → base_at symbols ≡ Ok x → Stands limit (spells_base d x.0) symbols x.1
unfolding behind_const
base_at_stands limit d (symbol.Keyword at keywords.Const ∷ rest) x h e =
    stands_joined (optional_some (keyword_stands limit d at keywords.Const rest h)) (bare_base_at_stands limit d rest x h e)
base_at_stands limit d symbols x h e =
    stands_joined (optional_none limit (keyword d keywords.Const) symbols) (bare_base_at_stands limit d symbols x h e)

-- a type name that is read stands there
pub type_at_stands : (limit d : ℕ) (symbols : List Symbol) (x : TypeName × List Symbol) → d ≤ limit → type_at symbols ≡ Ok x → Stands limit (spells_type d x.0) symbols x.1
type_at_stands limit d symbols x h e =
    let s = bind_ok (base_at symbols) _ x e in
    let n = count_sign sign.Star s.value.1 in
    by_value (λ (y : TypeName × List Symbol). Stands limit (spells_type d y.0) symbols y.1) (record { base = s.value.0; stars = n }, drop n s.value.1) x s.then_gave
    (stands_joined (base_at_stands limit d symbols s.value h s.gave) (count_sign_stands limit d sign.Star s.value.1 h))

-- a type name in parentheses that is read stands there
pub between_at_stands : (limit d : ℕ) (symbols : List Symbol) (x : TypeName × List Symbol) → d ≤ limit → between_at symbols ≡ Ok x → Stands limit (between d (spells_type d x.0)) symbols x.1
between_at_stands limit d symbols x h e =
    let s = bind_ok (behind sign.OpenParenthesis symbols) _ x e in
    let t = bind_ok (type_at s.value) _ x s.then_gave in
    let u = bind_ok (behind sign.CloseParenthesis t.value.1) _ x t.then_gave in
    by_value (λ (y : TypeName × List Symbol). Stands limit (between d (spells_type d y.0)) symbols y.1) (t.value.0, u.value) x u.then_gave
    (stands_joined (behind_stands limit d sign.OpenParenthesis symbols s.value h s.gave)
    (stands_joined (type_at_stands limit d s.value t.value h t.gave) (behind_stands limit d sign.CloseParenthesis t.value.1 u.value h u.gave)))

-- ---- lists

-- items with commas between them
abbrev pub listed : {A : Type 0} → ℕ → (A → List Mark → Type 0) → List A → List Mark → Type 0
listed d item [] = nothing
listed d item (x ∷ []) = item x
listed d item (x ∷ y ∷ rest) = item x · sign_token d sign.Comma · listed d item (y ∷ rest)

-- at least one item stands there, behind those that were read
pub record ListedStands {A : Type 0} (limit d : ℕ) (item : A → List Mark → Type 0) (done : List A) (symbols : List Symbol) (x : List A × List Symbol) : Type 0 where
  pub first : A
  pub others : List A
  pub is : x.0 ≡ done ++ first ∷ others
  pub stands : Stands limit (listed d item (first ∷ others)) symbols x.1

-- a list that is read stands there, if each item that is read does
pub listed_at_stands : {A : Type 0} (limit d : ℕ) (spells_item : A → List Mark → Type 0) (item : List Symbol → Outcome A) → d ≤ limit
    → ((symbols : List Symbol) (x : A × List Symbol) → item symbols ≡ Ok x → Stands limit (spells_item x.0) symbols x.1)
    → (count : ℕ) (done : List A) (symbols : List Symbol) (x : List A × List Symbol) → listed_at item count done symbols ≡ Ok x → ListedStands limit d spells_item done symbols x
listed_at_stands limit d spells_item item h stands zero done symbols x e = no_value _ x e
listed_at_stands {A} limit d spells_item item h stands (suc count) done symbols x e =
    let s = bind_ok (item symbols) _ x e in
    let one = stands symbols s.value s.gave in
    elim (chosen (begins_sign sign.Comma s.value.1) _ _ (Ok x) s.then_gave) [
      | inl c ↦ more_listed s.value one (begins_sign_stands limit d sign.Comma s.value.1 h c.0)
          (listed_at_stands limit d spells_item item h stands count (done ++ s.value.0 ∷ []) (drop 1 s.value.1) x c.1)
      | inr c ↦ by_value (ListedStands limit d spells_item done symbols) (done ++ s.value.0 ∷ [], s.value.1) x c.1
          (record { first = s.value.0; others = []; is = refl; stands = one })
    ]
  where
    more_listed : (y : A × List Symbol) → Stands limit (spells_item y.0) symbols y.1 → Stands limit (sign_token d sign.Comma) y.1 (drop 1 y.1)
        → ListedStands limit d spells_item (done ++ y.0 ∷ []) (drop 1 y.1) x → ListedStands limit d spells_item done symbols x
    more_listed y one comma more = record {
      first = y.0;
      others = more.first ∷ more.others;
      is = more.is ∙ append_assoc done (y.0 ∷ []) (more.first ∷ more.others);
      stands = stands_joined one (stands_joined comma more.stands);
    }
