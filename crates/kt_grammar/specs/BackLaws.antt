-- Signs, names and types that are spelled are read back.
use Rattle.std.specs.Prelude.{◌≡◌, ℕ, zero, suc, ◌+◌, ◌≤◌, ◌==◌, Bool, true, false, List, [], ◌∷◌, ◌++◌, ◌⊎◌, drop, Ok, if◌then◌else◌}
use Rattle.std.proofs.Common.{inl, inr, refl, sym, ap, subst, ◌∙◌, arith}
use Rattle.std.proofs.lemmas.Bool.Decides.{nat_tests}
use Rattle.kt_grammar.specs.declared.keyword.Keyword.{Keyword}
use Rattle.kt_grammar.specs.declared.keyword.Keyword.TheVariants as keywords
use Rattle.kt_grammar.specs.declared.sign.Sign.{Sign}
use Rattle.kt_grammar.specs.declared.sign.Sign.TheVariants as signs
use Rattle.kt_grammar.specs.declared.symbol.Symbol.{Symbol}
use Rattle.kt_grammar.specs.declared.symbol.Symbol.TheVariants as symbol
use Rattle.kt_grammar.specs.declared.operator.Dialect.{Dialect}
use Rattle.kt_grammar.specs.declared.operator.Dialect.TheVariants.{C, Rules}
use Rattle.kt_grammar.specs.declared.tree.Name.{Name}
use Rattle.kt_grammar.specs.declared.tree.Base.{Base}
use Rattle.kt_grammar.specs.declared.tree.Base.TheVariants as base
use Rattle.kt_grammar.specs.declared.tree.TypeName.{TypeName}
use Rattle.kt_grammar.specs.Tree.{Term}
use Rattle.kt_grammar.specs.Signs.{sign_number, same_sign, step_of, assign_of, binary_of}
use Rattle.kt_grammar.specs.Marks.{Mark, symbols_of, IsShallow, token, sign, keyword, name, nothing, repeated}
use Rattle.kt_grammar.specs.Spelling.{spells, bare_base, spells_base, spells_type}
use Rattle.kt_grammar.specs.Cursor.{◌>>=◌, Outcome, begins_sign, behind, name_at, count_sign, listed_at}
use Rattle.kt_grammar.specs.Reading.{begins_postfix, expr_at, begins_base, behind_const, bare_base_at, base_at, type_at}
use Rattle.kt_grammar.specs.Laws.{Begins, needs, ExprIsReadBack}
use Rattle.kt_grammar.specs.Cut.{cut}
use Rattle.kt_grammar.specs.CutLaws.{deepest, deepest-shallow, symbols_of-joined, cut-shallow, cut-first, cut-token, cut-then, cut-end, shallow-append, begins-append}

-- ---- signs and names

-- a sign is the same as itself
pub same_sign-self : (s : Sign) → same_sign s s ≡ true
same_sign-self s = let n : ℕ = sign_number s in same n
  where
    same : (n : ℕ) → (n == n) ≡ true
    same n = grind (arith, nat_tests)

-- a sign begins with itself
pub begins_sign-self : (at : ℕ) (s : Sign) (rest : List Symbol) → begins_sign s (symbol.Sign at s ∷ rest) ≡ true
unfolding begins_sign
begins_sign-self at s rest = same_sign-self s

-- what is behind a sign
pub behind-sign : (at : ℕ) (s : Sign) (rest : List Symbol) → behind s (symbol.Sign at s ∷ rest) ≡ Ok rest
unfolding behind begins_sign
behind-sign at s rest = rw (same_sign-self s) refl

-- a sign that is spelled is passed
pub sign-back : (limit d : ℕ) (s : Sign) (marks : List Mark) (rest : List Symbol) → sign d s marks → d ≤ limit → behind s (symbols_of marks ++ rest) ≡ cut limit marks rest (Ok rest)
sign-back limit d s marks rest is low = cut-token (behind s) limit d (symbol.Sign is.0 s) marks rest (Ok rest) is.1 low (behind-sign is.0 s rest)

-- a name that is spelled is read
pub name-back : (limit d : ℕ) (n : Name) (marks : List Mark) (rest : List Symbol) → name d n marks → d ≤ limit → name_at (symbols_of marks ++ rest) ≡ cut limit marks rest (Ok (n, rest))
unfolding name_at
name-back limit d n marks rest is low = cut-token name_at limit d (symbol.Name n.at n.word) marks rest (Ok (n, rest)) is low refl

-- no token is deeper than the one token's depth
pub token-shallow : (limit d : ℕ) (s : Symbol) (marks : List Mark) → token d s marks → d ≤ limit → IsShallow limit marks
token-shallow limit d s marks is low = subst (IsShallow limit) (sym is) (low, tt)

-- ---- repeated signs

-- no sign stands at the front
pub count_sign-none : (s : Sign) (rest : List Symbol) → begins_sign s rest ≡ false → count_sign s rest ≡ 0
unfolding count_sign
count_sign-none s [] h = refl
count_sign-none s (first ∷ rest) h = rw h refl

-- so many signs are counted
pub count_sign-repeated : (d : ℕ) (s : Sign) (n : ℕ) (marks : List Mark) (rest : List Symbol) → repeated d s n marks → begins_sign s rest ≡ false → count_sign s (symbols_of marks ++ rest) ≡ n
unfolding count_sign
count_sign-repeated d s zero marks rest r h = ap (λ m. count_sign s (symbols_of m ++ rest)) r ∙ count_sign-none s rest h
count_sign-repeated d s (suc n) marks rest r h =
    let e : marks ≡ record { symbol = symbol.Sign r.first.0 s; depth = d } ∷ r.back = r.parts ∙ ap (λ f. f ++ r.back) r.first.1 in
    ap (λ m. count_sign s (symbols_of m ++ rest)) e
    ∙ ap (λ b. if b then suc (count_sign s (symbols_of r.back ++ rest)) else 0) (begins_sign-self r.first.0 s (symbols_of r.back ++ rest))
    ∙ ap (λ n. suc n) (count_sign-repeated d s n r.back rest r.second h)

-- behind so many signs stands the rest
pub drop-repeated : (d : ℕ) (s : Sign) (n : ℕ) (marks : List Mark) (rest : List Symbol) → repeated d s n marks → drop n (symbols_of marks ++ rest) ≡ rest
drop-repeated d s zero marks rest r = ap (λ m. symbols_of m ++ rest) r
drop-repeated d s (suc n) marks rest r =
    let e : marks ≡ record { symbol = symbol.Sign r.first.0 s; depth = d } ∷ r.back = r.parts ∙ ap (λ f. f ++ r.back) r.first.1 in
    ap (λ m. drop (suc n) (symbols_of m ++ rest)) e ∙ drop-repeated d s n r.back rest r.second

-- so many signs are at their depth
pub repeated-shallow : (limit d : ℕ) (s : Sign) (n : ℕ) (marks : List Mark) → repeated d s n marks → d ≤ limit → IsShallow limit marks
repeated-shallow limit d s zero marks r low = subst (IsShallow limit) (sym r) tt
repeated-shallow limit d s (suc n) marks r low =
    subst (IsShallow limit) (sym r.parts) (shallow-append limit r.front r.back (token-shallow limit d (symbol.Sign r.first.0 s) r.front r.first.1 low) (repeated-shallow limit d s n r.back r.second low))

-- ---- types

bare_base-symbol : (d : ℕ) (k : Keyword) (marks : List Mark) (rest : List Symbol) (read : List Symbol → Outcome Base) (b : Base) → keyword d k marks → ((at : ℕ) → read (symbol.Keyword at k ∷ rest) ≡ Ok (b, rest))
    → read (symbols_of marks ++ rest) ≡ Ok (b, rest)
bare_base-symbol d k marks rest read b is h = ap (λ m. read (symbols_of m ++ rest)) is.1 ∙ h is.0

-- a bare base that is spelled is read
pub bare_base-back : (d : ℕ) (b : Base) (marks : List Mark) (rest : List Symbol) → bare_base d b marks → bare_base_at (symbols_of marks ++ rest) ≡ Ok (b, rest)
unfolding bare_base_at name_at
bare_base-back d base.Char marks rest is = bare_base-symbol d keywords.Char marks rest bare_base_at base.Char is (λ at. refl)
bare_base-back d base.Int marks rest is = bare_base-symbol d keywords.Int marks rest bare_base_at base.Int is (λ at. refl)
bare_base-back d base.Long marks rest is = bare_base-symbol d keywords.Long marks rest bare_base_at base.Long is (λ at. refl)
bare_base-back d base.Mutex marks rest is = bare_base-symbol d keywords.Mutex marks rest bare_base_at base.Mutex is (λ at. refl)
bare_base-back d (base.Struct n) marks rest is =
    let e : marks ≡ record { symbol = symbol.Keyword is.first.0 keywords.Struct; depth = d } ∷ record { symbol = symbol.Name n.at n.word; depth = d } ∷ [] =
    is.parts ∙ ap (λ f. f ++ is.back) is.first.1 ∙ ap (λ f. record { symbol = symbol.Keyword is.first.0 keywords.Struct; depth = d } ∷ f) is.second in
    ap (λ m. bare_base_at (symbols_of m ++ rest)) e

-- a bare base begins with its keyword
abbrev bare_keyword : Base → Keyword
bare_keyword base.Char = keywords.Char
bare_keyword base.Int = keywords.Int
bare_keyword base.Long = keywords.Long
bare_keyword base.Mutex = keywords.Mutex
bare_keyword (base.Struct n) = keywords.Struct

-- the first token of a bare base
record BareBegins (d : ℕ) (b : Base) (marks : List Mark) : Type 0 where
  at : ℕ
  others : List Mark
  is : marks ≡ record { symbol = symbol.Keyword at (bare_keyword b); depth = d } ∷ others

bare_begins : (d : ℕ) (b : Base) (marks : List Mark) → bare_base d b marks → BareBegins d b marks
bare_begins d base.Char marks is = record { at = is.0; others = []; is = is.1 }
bare_begins d base.Int marks is = record { at = is.0; others = []; is = is.1 }
bare_begins d base.Long marks is = record { at = is.0; others = []; is = is.1 }
bare_begins d base.Mutex marks is = record { at = is.0; others = []; is = is.1 }
bare_begins d (base.Struct n) marks is = record { at = is.first.0; others = is.back; is = is.parts ∙ ap (λ f. f ++ is.back) is.first.1 }

not_const : (at : ℕ) (b : Base) (rest : List Symbol) → behind_const (symbol.Keyword at (bare_keyword b) ∷ rest) ≡ symbol.Keyword at (bare_keyword b) ∷ rest
unfolding behind_const
not_const at base.Char rest = refl
not_const at base.Int rest = refl
not_const at base.Long rest = refl
not_const at base.Mutex rest = refl
not_const at (base.Struct n) rest = refl

is_base : (at : ℕ) (b : Base) (rest : List Symbol) → begins_base (symbol.Keyword at (bare_keyword b) ∷ rest) ≡ true
unfolding begins_base
is_base at base.Char rest = refl
is_base at base.Int rest = refl
is_base at base.Long rest = refl
is_base at base.Mutex rest = refl
is_base at (base.Struct n) rest = refl

-- a `const`, or none, is passed
pub behind_const-back : (d : ℕ) (b : Base) (marks front back : List Mark) (rest : List Symbol) → marks ≡ front ++ back → nothing front ⊎ keyword d keywords.Const front → bare_base d b back
    → behind_const (symbols_of marks ++ rest) ≡ symbols_of back ++ rest
unfolding behind_const
behind_const-back d b marks front back rest parts (inl none) bare =
    let begins = bare_begins d b back bare in
    ap (λ m. behind_const (symbols_of m ++ rest)) (parts ∙ ap (λ f. f ++ back) none ∙ begins.is)
    ∙ not_const begins.at b (symbols_of begins.others ++ rest) ∙ ap (λ m. symbols_of m ++ rest) (sym begins.is)
behind_const-back d b marks front back rest parts (inr const) bare = ap (λ m. behind_const (symbols_of m ++ rest)) (parts ∙ ap (λ f. f ++ back) const.1)

-- a base that is spelled is read
pub base-back : (d : ℕ) (b : Base) (marks : List Mark) (rest : List Symbol) → spells_base d b marks → base_at (symbols_of marks ++ rest) ≡ Ok (b, rest)
base-back d b marks rest is = ap bare_base_at (behind_const-back d b marks is.front is.back rest is.parts is.first is.second) ∙ bare_base-back d b is.back rest is.second

bare_base-shallow : (limit d : ℕ) (b : Base) (marks : List Mark) → bare_base d b marks → d ≤ limit → IsShallow limit marks
bare_base-shallow limit d base.Char marks is low = token-shallow limit d (symbol.Keyword is.0 keywords.Char) marks is.1 low
bare_base-shallow limit d base.Int marks is low = token-shallow limit d (symbol.Keyword is.0 keywords.Int) marks is.1 low
bare_base-shallow limit d base.Long marks is low = token-shallow limit d (symbol.Keyword is.0 keywords.Long) marks is.1 low
bare_base-shallow limit d base.Mutex marks is low = token-shallow limit d (symbol.Keyword is.0 keywords.Mutex) marks is.1 low
bare_base-shallow limit d (base.Struct n) marks is low =
    subst (IsShallow limit) (sym is.parts)
    (shallow-append limit is.front is.back (token-shallow limit d (symbol.Keyword is.first.0 keywords.Struct) is.front is.first.1 low) (token-shallow limit d (symbol.Name n.at n.word) is.back is.second low))

const-shallow : (limit d : ℕ) (marks : List Mark) → nothing marks ⊎ keyword d keywords.Const marks → d ≤ limit → IsShallow limit marks
const-shallow limit d marks (inl none) low = subst (IsShallow limit) (sym none) tt
const-shallow limit d marks (inr const) low = token-shallow limit d (symbol.Keyword const.0 keywords.Const) marks const.1 low

-- the tokens of a base are at its depth
pub base-shallow : (limit d : ℕ) (b : Base) (marks : List Mark) → spells_base d b marks → d ≤ limit → IsShallow limit marks
base-shallow limit d b marks is low =
    subst (IsShallow limit) (sym is.parts) (shallow-append limit is.front is.back (const-shallow limit d is.front is.first low) (bare_base-shallow limit d b is.back is.second low))

base_first : (d : ℕ) (b : Base) (marks front back : List Mark) → marks ≡ front ++ back → nothing front ⊎ keyword d keywords.Const front → bare_base d b back → Begins (λ symbols. begins_base symbols ≡ true) d marks
unfolding begins_base
base_first d b marks front back parts (inl none) bare =
    let begins = bare_begins d b back bare in
    record { first = symbol.Keyword begins.at (bare_keyword b); others = begins.others; is = parts ∙ ap (λ f. f ++ back) none ∙ begins.is; begins_so = λ rest. is_base begins.at b rest }
base_first d b marks front back parts (inr const) bare =
    record { first = symbol.Keyword const.0 keywords.Const; others = back; is = parts ∙ ap (λ f. f ++ back) const.1; begins_so = λ rest. refl }

-- a base begins with a token that begins a base
pub base-begins : (d : ℕ) (b : Base) (marks : List Mark) → spells_base d b marks → Begins (λ symbols. begins_base symbols ≡ true) d marks
base-begins d b marks is = base_first d b marks is.front is.back is.parts is.first is.second

-- the stars behind a base
abbrev stars_at : Base × List Symbol → Outcome TypeName
stars_at b = let n = count_sign signs.Star b.1 in Ok (record { base = b.0; stars = n }, drop n b.1)

stars-back : (d : ℕ) (t : TypeName) (marks : List Mark) (rest : List Symbol) → repeated d signs.Star t.stars marks → begins_sign signs.Star rest ≡ false → stars_at (t.base, symbols_of marks ++ rest) ≡ Ok (t, rest)
stars-back d t marks rest is h = rw (count_sign-repeated d signs.Star t.stars marks rest is h, drop-repeated d signs.Star t.stars marks rest is) refl

-- a type name that is spelled is read, where no star follows
pub type-back : (d : ℕ) (t : TypeName) (marks : List Mark) (rest : List Symbol) → spells_type d t marks → begins_sign signs.Star rest ≡ false → type_at (symbols_of marks ++ rest) ≡ Ok (t, rest)
type-back d t marks rest is h =
    ap type_at (symbols_of-joined marks is.front is.back rest is.parts)
    ∙ ap (λ r. r >>= stars_at) (base-back d t.base is.front (symbols_of is.back ++ rest) is.first)
    ∙ stars-back d t is.back rest is.second h

-- the tokens of a type name are at its depth
pub type-shallow : (limit d : ℕ) (t : TypeName) (marks : List Mark) → spells_type d t marks → d ≤ limit → IsShallow limit marks
type-shallow limit d t marks is low =
    subst (IsShallow limit) (sym is.parts) (shallow-append limit is.front is.back (base-shallow limit d t.base is.front is.first low) (repeated-shallow limit d signs.Star t.stars is.back is.second low))

-- a type name begins with a token that begins a base
pub type-begins : (d : ℕ) (t : TypeName) (marks : List Mark) → spells_type d t marks → Begins (λ symbols. begins_base symbols ≡ true) d marks
type-begins d t marks is = begins-append (λ symbols. begins_base symbols ≡ true) d marks is.front is.back is.parts (base-begins d t.base is.front is.first)

-- a type name that is spelled is read, and no token of it is cut
pub type-cut : (limit d : ℕ) (t : TypeName) (marks : List Mark) (rest : List Symbol) → spells_type d t marks → begins_sign signs.Star rest ≡ false → d ≤ limit → type_at (symbols_of marks ++ rest) ≡ cut limit marks rest (Ok (t, rest))
type-cut limit d t marks rest is h low = type-back d t marks rest is h ∙ sym (cut-shallow limit marks rest (Ok (t, rest)) (type-shallow limit d t marks is low))

-- ---- lists

-- the last item of a list, where no comma follows
pub listed-last : {A : Type 0} (item : List Symbol → Outcome A) (n : ℕ) (done : List A) (limit : ℕ) (marks : List Mark) (rest : List Symbol) (a : A) → begins_sign signs.Comma rest ≡ false
    → item (symbols_of marks ++ rest) ≡ cut limit marks rest (Ok (a, rest))
    → listed_at item (suc n) done (symbols_of marks ++ rest) ≡ cut limit marks rest (Ok (done ++ a ∷ [], rest))
listed-last item n done limit marks rest a h read =
    cut-end item (λ x. if begins_sign signs.Comma x.1 then listed_at item n (done ++ x.0 ∷ []) (drop 1 x.1) else Ok (done ++ x.0 ∷ [], x.1)) limit marks rest (a, rest) (Ok (done ++ a ∷ [], rest)) read
    (ap (λ b. if b then listed_at item n (done ++ a ∷ []) (drop 1 rest) else Ok (done ++ a ∷ [], rest)) h)

-- an item of a list, a comma, and more
pub listed-more : {A : Type 0} (item : List Symbol → Outcome A) (n : ℕ) (done : List A) (limit d : ℕ) (marks front comma back : List Mark) (rest : List Symbol) (a : A) (answer : Outcome (List A))
    → marks ≡ front ++ (comma ++ back) → sign d signs.Comma comma → d ≤ limit
    → item (symbols_of front ++ (symbols_of (comma ++ back) ++ rest)) ≡ cut limit front (symbols_of (comma ++ back) ++ rest) (Ok (a, symbols_of (comma ++ back) ++ rest))
    → listed_at item n (done ++ a ∷ []) (symbols_of back ++ rest) ≡ cut limit back rest answer
    → listed_at item (suc n) done (symbols_of marks ++ rest) ≡ cut limit marks rest answer
listed-more item n done limit d marks front comma back rest a answer parts is low read more =
    cut-then item (λ x. if begins_sign signs.Comma x.1 then listed_at item n (done ++ x.0 ∷ []) (drop 1 x.1) else Ok (done ++ x.0 ∷ [], x.1)) limit marks front (comma ++ back) rest
    (a, symbols_of (comma ++ back) ++ rest) answer parts read
    (cut-first (λ s. if begins_sign signs.Comma s then listed_at item n (done ++ a ∷ []) (drop 1 s) else Ok (done ++ a ∷ [], s)) limit d (symbol.Sign is.0 signs.Comma) (comma ++ back) comma back rest answer refl is.1 low
    (ap (λ b. if b then listed_at item n (done ++ a ∷ []) (symbols_of back ++ rest) else Ok (done ++ a ∷ [], symbol.Sign is.0 signs.Comma ∷ (symbols_of back ++ rest))) (begins_sign-self is.0 signs.Comma (symbols_of back ++ rest)) ∙ more))

-- ---- expressions

-- An expression that is spelled is read whole, at a limit that no token of it is deeper than.
expr-whole : ExprIsReadBack → (g : Dialect) (d : ℕ) (x : Term) (marks : List Mark) → spells g d x marks → expr_at g (deepest marks) (symbols_of marks ++ []) ≡ Ok (x, [])
unfolding needs
expr-whole law g d x marks is = law g (deepest marks) d x marks [] is refl ∙ cut-shallow (d + deepest marks) marks [] (Ok (x, [])) (deepest-shallow (d + deepest marks) marks (omega arith))

-- tokens spell one expression at most
pub expr-once : ExprIsReadBack → (g : Dialect) (d : ℕ) (x y : Term) (marks : List Mark) → spells g d x marks → spells g d y marks → x ≡ y
expr-once law g d x y marks is also = same x y (sym (expr-whole law g d x marks is) ∙ expr-whole law g d y marks also)
  where
    same : (x y : Term) → ◌≡◌ {A = Outcome Term} (Ok (x, [])) (Ok (y, [])) → x ≡ y
    same x y h = let p : ◌≡◌ {A = Term × List Symbol} (x, []) (y, []) = cc in ap (λ p. p.0) p

-- signs before which an expression ends
abbrev pub closes : Sign → Bool
closes signs.OpenBrace = true
closes signs.CloseBrace = true
closes signs.CloseParenthesis = true
closes signs.CloseBracket = true
closes signs.Semicolon = true
closes signs.Comma = true
closes signs.Colon = true
closes _ = false

-- before these signs no expression goes on
pub needs-closing : (g : Dialect) (at : ℕ) (s : Sign) (rest : List Symbol) → closes s ≡ true → needs g (symbol.Sign at s ∷ rest) ≡ 0
unfolding needs begins_postfix step_of assign_of binary_of
needs-closing C at signs.OpenBrace rest h = refl
needs-closing C at signs.CloseBrace rest h = refl
needs-closing C at signs.CloseParenthesis rest h = refl
needs-closing C at signs.CloseBracket rest h = refl
needs-closing C at signs.Semicolon rest h = refl
needs-closing C at signs.Comma rest h = refl
needs-closing C at signs.Colon rest h = refl
needs-closing C at _ rest h = absurd cc
needs-closing Rules at signs.OpenBrace rest h = refl
needs-closing Rules at signs.CloseBrace rest h = refl
needs-closing Rules at signs.CloseParenthesis rest h = refl
needs-closing Rules at signs.CloseBracket rest h = refl
needs-closing Rules at signs.Semicolon rest h = refl
needs-closing Rules at signs.Comma rest h = refl
needs-closing Rules at signs.Colon rest h = refl
needs-closing Rules at _ rest h = absurd cc
