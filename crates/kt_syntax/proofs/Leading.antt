-- What stands before the declarators of an external declaration is read back: `static`, `const` and the type.
use Rattle.std.specs.Prelude.{◌≡◌, ℕ, ◌≤◌, false, List, [], ◌∷◌, ◌++◌, ◌⊎◌, drop}
use Rattle.std.proofs.Common.{inl, inr, refl, sym, ap, subst, ◌∙◌, arith}
use Rattle.kt_grammar.specs.declared.keyword.Keyword.TheVariants as keywords
use Rattle.kt_grammar.specs.declared.sign.Sign.TheVariants as signs
use Rattle.kt_grammar.specs.declared.symbol.Symbol.{Symbol}
use Rattle.kt_grammar.specs.declared.symbol.Symbol.TheVariants as symbol
use Rattle.kt_grammar.specs.declared.tree.Base.{Base}
use Rattle.kt_grammar.specs.declared.tree.Base.TheVariants as base
use Rattle.kt_grammar.specs.Marks.{Mark, Joined, symbols_of, IsShallow, keyword, nothing}
use Rattle.kt_grammar.specs.Spelling.{bare_base, spells_base}
use Rattle.kt_grammar.specs.Cursor.{Outcome, begins_sign, name_at}
use Rattle.kt_grammar.specs.Reading.{bare_base_at}
use Rattle.kt_grammar.specs.Cut.{cut}
use Rattle.kt_grammar.specs.CutLaws.{symbols_of-joined, shallow-append}
use Rattle.kt_grammar.specs.BackLaws.{base-shallow, token-shallow}
use Rattle.kt_syntax.specs.Tree.{External}
use Rattle.kt_syntax.specs.Spelling.{leading}
use Rattle.kt_syntax.specs.Reading.{count_leading, declared_behind, void_behind, typed_at, struct_at, external_at}
use Rattle.kt_syntax.proofs.Parts.{shallow-then, first-end, first-then, worded, joined-left}

-- ---- `static` and `const`

-- one of the words
abbrev IsLeading : Mark → Type 0
IsLeading m = (at : ℕ) × ((m ≡ record { symbol = symbol.Keyword at keywords.Static; depth = 0 }) ⊎ (m ≡ record { symbol = symbol.Keyword at keywords.Const; depth = 0 }))

leading-append : (front back : List Mark) → leading front → leading back → leading (front ++ back)
leading-append [] back f b = b
leading-append (m ∷ front) back f b = (f.0, leading-append front back f.1 b)

-- what holds of both words holds of a leading token
leading-word : (P : Mark → Type 0) (m : Mark) → ((at : ℕ) → P (record { symbol = symbol.Keyword at keywords.Static; depth = 0 })) → ((at : ℕ) → P (record { symbol = symbol.Keyword at keywords.Const; depth = 0 })) → IsLeading m → P m
leading-word P m s c (at, inl e) = subst P (sym e) (s at)
leading-word P m s c (at, inr e) = subst P (sym e) (c at)

leading-shallow : (limit : ℕ) (marks : List Mark) → leading marks → IsShallow limit marks
leading-shallow limit [] h = tt
leading-shallow limit (m ∷ marks) h = (leading-word (λ m. m.depth ≤ limit) m (λ at. omega arith) (λ at. omega arith) h.0, leading-shallow limit marks h.1)

-- behind the leading words stands the rest
drop-leading : (lead : List Mark) (rest : List Symbol) → leading lead → count_leading rest ≡ 0 → drop (count_leading (symbols_of lead ++ rest)) (symbols_of lead ++ rest) ≡ rest
unfolding count_leading
drop-leading [] rest h none = ap (λ n. drop n rest) none
drop-leading (m ∷ lead) rest h none =
    leading-word (λ m. drop (count_leading (m.symbol ∷ (symbols_of lead ++ rest))) (m.symbol ∷ (symbols_of lead ++ rest)) ≡ rest) m
    (λ at. drop-leading lead rest h.1 none) (λ at. drop-leading lead rest h.1 none) h.0

-- a type or `void` behind at least one of the words
lead-typed : (n : ℕ) (m : Mark) (lead : List Mark) (rest : List Symbol) → leading (m ∷ lead) → count_leading rest ≡ 0 → external_at n (symbols_of (m ∷ lead) ++ rest) ≡ typed_at n rest
unfolding external_at count_leading
lead-typed n m lead rest h none =
    leading-word (λ m. external_at n (m.symbol ∷ (symbols_of lead ++ rest)) ≡ typed_at n rest) m
    (λ at. ap (typed_at n) (drop-leading lead rest h.1 none)) (λ at. ap (typed_at n) (drop-leading lead rest h.1 none)) h.0

-- ---- types

-- what follows a type is no semicolon and no brace
pub record IsDeclared (symbols : List Symbol) : Type 0 where
  pub semicolon : begins_sign signs.Semicolon symbols ≡ false
  pub brace : begins_sign signs.OpenBrace symbols ≡ false

bare-none : (b : Base) (marks : List Mark) (rest : List Symbol) → bare_base 0 b marks → count_leading (symbols_of marks ++ rest) ≡ 0
unfolding count_leading
bare-none base.Char marks rest is = first-end (λ r. count_leading r ≡ 0) rest is.1 refl
bare-none base.Int marks rest is = first-end (λ r. count_leading r ≡ 0) rest is.1 refl
bare-none base.Long marks rest is = first-end (λ r. count_leading r ≡ 0) rest is.1 refl
bare-none base.Mutex marks rest is = first-end (λ r. count_leading r ≡ 0) rest is.1 refl
bare-none (base.Struct n) marks rest is = first-then (λ r. count_leading r ≡ 0) rest (worded is) refl

bare-typed : (n : ℕ) (b : Base) (marks : List Mark) (rest : List Symbol) → bare_base 0 b marks → typed_at n (symbols_of marks ++ rest) ≡ declared_behind n b rest
unfolding typed_at bare_base_at name_at
bare-typed n base.Char marks rest is = first-end (λ r. typed_at n r ≡ declared_behind n base.Char rest) rest is.1 refl
bare-typed n base.Int marks rest is = first-end (λ r. typed_at n r ≡ declared_behind n base.Int rest) rest is.1 refl
bare-typed n base.Long marks rest is = first-end (λ r. typed_at n r ≡ declared_behind n base.Long rest) rest is.1 refl
bare-typed n base.Mutex marks rest is = first-end (λ r. typed_at n r ≡ declared_behind n base.Mutex rest) rest is.1 refl
bare-typed n (base.Struct x) marks rest is =
    first-then (λ r. typed_at n r ≡ declared_behind n (base.Struct x) rest) rest (worded is)
    (first-end (λ r. typed_at n (symbol.Keyword is.first.0 keywords.Struct ∷ r) ≡ declared_behind n (base.Struct x) rest) rest is.second refl)

bare-external : (n : ℕ) (b : Base) (marks : List Mark) (rest : List Symbol) → bare_base 0 b marks → IsDeclared rest → external_at n (symbols_of marks ++ rest) ≡ declared_behind n b rest
unfolding external_at typed_at bare_base_at name_at count_leading struct_at
bare-external n base.Char marks rest is h = first-end (λ r. external_at n r ≡ declared_behind n base.Char rest) rest is.1 refl
bare-external n base.Int marks rest is h = first-end (λ r. external_at n r ≡ declared_behind n base.Int rest) rest is.1 refl
bare-external n base.Long marks rest is h = first-end (λ r. external_at n r ≡ declared_behind n base.Long rest) rest is.1 refl
bare-external n base.Mutex marks rest is h = first-end (λ r. external_at n r ≡ declared_behind n base.Mutex rest) rest is.1 refl
bare-external n (base.Struct x) marks rest is h =
    first-then (λ r. external_at n r ≡ declared_behind n (base.Struct x) rest) rest (worded is)
    (first-end (λ r. external_at n (symbol.Keyword is.first.0 keywords.Struct ∷ r) ≡ declared_behind n (base.Struct x) rest) rest is.second (rw (h.semicolon, h.brace) refl))

-- the words and the type
lead-bare : (n : ℕ) (b : Base) (lead marks : List Mark) (rest : List Symbol) → leading lead → bare_base 0 b marks → IsDeclared rest → external_at n (symbols_of lead ++ (symbols_of marks ++ rest)) ≡ declared_behind n b rest
lead-bare n b [] marks rest l is h = bare-external n b marks rest is h
lead-bare n b (m ∷ lead) marks rest l is h = lead-typed n m lead (symbols_of marks ++ rest) l (bare-none b marks rest is) ∙ bare-typed n b marks rest is

const-leading : (marks : List Mark) → nothing marks ⊎ keyword 0 keywords.Const marks → leading marks
const-leading marks (inl none) = subst leading (sym none) tt
const-leading marks (inr is) = subst leading (sym is.1) ((is.0, inr refl), tt)

lead-base : (n : ℕ) (b : Base) (marks : List Mark) (rest : List Symbol) → Joined leading (spells_base 0 b) marks → IsDeclared rest → external_at n (symbols_of marks ++ rest) ≡ declared_behind n b rest
lead-base n b marks rest is h =
    let j = joined-left is in
    ap (external_at n) (symbols_of-joined marks j.front j.back rest j.parts)
    ∙ lead-bare n b j.front j.back rest (subst leading (sym j.first.parts) (leading-append j.first.front j.first.back j.first.first (const-leading j.first.back j.first.second))) j.second h

lead-shallow : (limit : ℕ) (b : Base) (marks : List Mark) → Joined leading (spells_base 0 b) marks → IsShallow limit marks
lead-shallow limit b marks is = subst (IsShallow limit) (sym is.parts) (shallow-append limit is.front is.back (leading-shallow limit is.front is.first) (base-shallow limit 0 b is.back is.second (omega arith)))

-- the words and the type, and what is read behind them
pub lead-then : {Q : List Mark → Type 0} {marks : List Mark} (n : ℕ) (b : Base) (rest : List Symbol) (answer : Outcome External) (j : Joined (Joined leading (spells_base 0 b)) Q marks) → IsDeclared (symbols_of j.back ++ rest)
    → declared_behind n b (symbols_of j.back ++ rest) ≡ cut n j.back rest answer
    → external_at n (symbols_of marks ++ rest) ≡ cut n marks rest answer
lead-then n b rest answer j h k = shallow-then (external_at n) n rest answer j (lead-shallow n b j.front j.first) (lead-base n b j.front (symbols_of j.back ++ rest) j.first h ∙ k)

-- ---- `void`

lead-void-here : (n at : ℕ) (lead : List Mark) (rest : List Symbol) → leading lead → external_at n (symbols_of lead ++ (symbol.Keyword at keywords.Void ∷ rest)) ≡ void_behind n rest
unfolding external_at typed_at count_leading
lead-void-here n at [] rest h = refl
lead-void-here n at (m ∷ lead) rest h = lead-typed n m lead (symbol.Keyword at keywords.Void ∷ rest) h refl

pub void-then : {Q : List Mark → Type 0} {marks : List Mark} (n : ℕ) (rest : List Symbol) (answer : Outcome External) (j : Joined (Joined leading (keyword 0 keywords.Void)) Q marks)
    → void_behind n (symbols_of j.back ++ rest) ≡ cut n j.back rest answer
    → external_at n (symbols_of marks ++ rest) ≡ cut n marks rest answer
void-then n rest answer j k =
    shallow-then (external_at n) n rest answer j
    (subst (IsShallow n) (sym j.first.parts) (shallow-append n j.first.front j.first.back (leading-shallow n j.first.front j.first.first) (token-shallow n 0 (symbol.Keyword j.first.second.0 keywords.Void) j.first.back j.first.second.1 (omega arith))))
    (ap (external_at n) (symbols_of-joined j.front j.first.front j.first.back (symbols_of j.back ++ rest) j.first.parts)
    ∙ ap (λ m. external_at n (symbols_of j.first.front ++ (symbols_of m ++ (symbols_of j.back ++ rest)))) j.first.second.1
    ∙ lead-void-here n j.first.second.0 j.first.front (symbols_of j.back ++ rest) j.first.first ∙ k)
