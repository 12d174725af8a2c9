-- Declarators that are spelled are read back.
use Rattle.std.specs.Prelude.{◌≡◌, ℕ, suc, ◌+◌, ◌-◌, ◌≤◌, false, List, ◌∷◌, ◌++◌, drop, Option, Some, None, Result, Ok}
use Rattle.std.proofs.Common.{refl, sym, ap, subst, ◌∙◌, arith}
use Rattle.std.proofs.lemmas.Bool.Decides.{nat_tests}
use Rattle.kt_lex.specs.declared.number.Number.{Number}
use Rattle.kt_grammar.specs.declared.fault.Fault.{Fault}
use Rattle.kt_grammar.specs.declared.operator.Dialect.TheVariants.{C}
use Rattle.kt_grammar.specs.declared.sign.Sign.TheVariants as signs
use Rattle.kt_grammar.specs.declared.symbol.Symbol.{Symbol}
use Rattle.kt_grammar.specs.declared.symbol.Symbol.TheVariants as symbol
use Rattle.kt_grammar.specs.declared.tree.Name.{Name}
use Rattle.kt_grammar.specs.Signs.{step_of, assign_of, binary_of}
use Rattle.kt_grammar.specs.Tree.{Term}
use Rattle.kt_grammar.specs.Marks.{Mark, Joined, ◌·◌, symbols_of, IsShallow, token, sign, name}
use Rattle.kt_grammar.specs.Spelling.{between, spells}
use Rattle.kt_grammar.specs.Cursor.{begins_sign, count_sign}
use Rattle.kt_grammar.specs.Reading.{expr_at, begins_postfix}
use Rattle.kt_grammar.specs.Cut.{cut}
use Rattle.kt_grammar.specs.Laws.{needs, ExprIsReadBack}
use Rattle.kt_grammar.specs.CutLaws.{cut-shallow, cut-joined, shallow-append}
use Rattle.kt_grammar.specs.BackLaws.{token-shallow, repeated-shallow, count_sign-repeated, drop-repeated}
use Rattle.kt_syntax.specs.declared.tree.Stars.{Stars}
use Rattle.kt_syntax.specs.declared.tree.Extent.{Extent}
use Rattle.kt_syntax.specs.declared.tree.Extent.TheVariants as extent
use Rattle.kt_syntax.specs.declared.tree.Pointer.{Pointer}
use Rattle.kt_syntax.specs.declared.tree.Declarator.{Declarator}
use Rattle.kt_syntax.specs.declared.tree.Constant.{Constant}
use Rattle.kt_syntax.specs.declared.tree.Constant.TheVariants as constant
use Rattle.kt_syntax.specs.declared.tree.GlobalDeclarator.{GlobalDeclarator}
use Rattle.kt_syntax.specs.declared.tree.Parameter.{Parameter}
use Rattle.kt_syntax.specs.Tree.{Local}
use Rattle.kt_syntax.specs.Spelling.{maybe, number, stars, extent_name, extent_spelling, pointer, count, declarator, constant_spelling, global, parameter, local}
use Rattle.kt_syntax.specs.Reading.{stars_at, extent_name_at, extent_at, pointer_behind, pointer_at, count_behind, count_at, extent_behind, declarator_behind, declarator_at, negative_at, constant_at, initial_at, global_behind, global_at, parameter_at, value_at, local_at}
use Rattle.kt_syntax.proofs.Parts.{part-then, part-end, sign-then, sign-end, name-then, name-end, base-then, token-then, token-end, none-end, signed, worded, first-end, first-then, joined-right}

-- ---- pointers

-- a name stands at the front
pub record IsNamed (symbols : List Symbol) : Type 0 where
  pub name : Name
  pub others : List Symbol
  pub is : symbols ≡ symbol.Name name.at name.word ∷ others

pub name-first : {d : ℕ} {n : Name} {marks : List Mark} (rest : List Symbol) → name d n marks → IsNamed (symbols_of marks ++ rest)
name-first {n = n} rest is = first-end IsNamed rest is (record { name = n; others = rest; is = refl })

pub name-first-then : {Q : List Mark → Type 0} {d : ℕ} {n : Name} {marks : List Mark} (rest : List Symbol) → Joined (name d n) Q marks → IsNamed (symbols_of marks ++ rest)
name-first-then {n = n} rest j = first-then IsNamed rest j (record { name = n; others = symbols_of j.back ++ rest; is = refl })

-- a name is no star
pub named-star : (rest : List Symbol) → IsNamed rest → begins_sign signs.Star rest ≡ false
unfolding begins_sign
named-star rest h = subst (λ r. begins_sign signs.Star r ≡ false) (sym h.is) refl

-- stars that are spelled are read
stars-first : (at : ℕ) (rest : List Symbol) → stars_at (symbol.Sign at signs.Star ∷ rest) ≡ (Some (record { at = at; count = suc (count_sign signs.Star rest) }), drop (count_sign signs.Star rest) rest)
unfolding stars_at
stars-first at rest = refl

pub stars-back : (d : ℕ) (s : Stars) (marks : List Mark) (rest : List Symbol) → stars d s marks → begins_sign signs.Star rest ≡ false → stars_at (symbols_of marks ++ rest) ≡ (Some s, rest)
stars-back d s marks rest is h =
    let j = is.1 in
    let one : suc (s.count - 1) ≡ s.count = grind (arith, nat_tests, is.0) in
    first-then (λ r. stars_at r ≡ (Some s, rest)) rest j
    (stars-first s.at (symbols_of j.back ++ rest)
    ∙ ap (λ n. (Some (record { at = s.at; count = suc n }), drop n (symbols_of j.back ++ rest))) (count_sign-repeated d signs.Star (s.count - 1) j.back rest j.second h)
    ∙ ap (λ r. (Some (record { at = s.at; count = suc (s.count - 1) }), r)) (drop-repeated d signs.Star (s.count - 1) j.back rest j.second)
    ∙ ap (λ n. (Some (record { at = s.at; count = n }), rest)) one)

-- the tokens of stars are at their depth
pub stars-shallow : (limit d : ℕ) (s : Stars) (marks : List Mark) → stars d s marks → d ≤ limit → IsShallow limit marks
stars-shallow limit d s marks is low =
    let j = is.1 in
    subst (IsShallow limit) (sym j.parts) (shallow-append limit j.front j.back (token-shallow limit d (symbol.Sign s.at signs.Star) j.front j.first low) (repeated-shallow limit d signs.Star (s.count - 1) j.back j.second low))

-- no stars are read where none stand
pub stars-none : (rest : List Symbol) → begins_sign signs.Star rest ≡ false → stars_at rest ≡ (None, rest)
unfolding stars_at begins_sign
stars-none (symbol.Sign at s ∷ rest) h = rw h refl
stars-none _ h = refl

extent_name-back : (limit d : ℕ) (e : Extent) (marks : List Mark) (rest : List Symbol) → extent_name d e marks → d ≤ limit → extent_name_at (symbols_of marks ++ rest) ≡ cut limit marks rest (Ok (e, rest))
unfolding extent_name_at
extent_name-back limit d (extent.Name n) marks rest is low = token-end extent_name_at rest _ is low refl
extent_name-back limit d (extent.Number at n) marks rest is low = token-end extent_name_at rest _ is low refl

extent_between-back : (limit d : ℕ) (e : Extent) (marks : List Mark) (rest : List Symbol) → between d (extent_name d e) marks → d ≤ limit → extent_behind (symbols_of marks ++ rest) ≡ cut limit marks rest (Ok (e, rest))
extent_between-back limit d e marks rest is low =
    sign-then _ rest _ is low
    (part-then extent_name_at _ limit rest _ is.second (extent_name-back limit d e is.second.front (symbols_of is.second.back ++ rest) is.second.first low)
    (sign-end _ is.second.second low refl))

extent-back : (limit d : ℕ) (e : Option Extent) (marks : List Mark) (rest : List Symbol) → maybe (extent_spelling d) e marks → IsNamed rest → d ≤ limit → extent_at (symbols_of marks ++ rest) ≡ cut limit marks rest (Ok (e, rest))
unfolding extent_at
extent-back limit d None marks rest is h low = none-end extent_at limit rest _ is (subst (λ r. extent_at r ≡ Ok (None, r)) (sym h.is) refl)
extent-back limit d (Some e) marks rest is h low =
    token-then extent_at rest _ (worded is) low (part-end extent_behind _ limit is.back rest (extent_between-back limit d e is.back rest is.second low) refl)

-- what stands behind the stars of a pointer is no star
extent-star : (d : ℕ) (e : Option Extent) (marks : List Mark) (rest : List Symbol) → maybe (extent_spelling d) e marks → IsNamed rest → begins_sign signs.Star (symbols_of marks ++ rest) ≡ false
unfolding begins_sign
extent-star d None marks rest is h = subst (λ m. begins_sign signs.Star (symbols_of m ++ rest) ≡ false) (sym is) (named-star rest h)
extent-star d (Some e) marks rest is h = first-then (λ r. begins_sign signs.Star r ≡ false) rest (worded is) refl

-- stars that are spelled are read, and no token of them is cut
pub stars-then : {A : Type 0} {Q : List Mark → Type 0} (limit d : ℕ) (s : Stars) (marks : List Mark) (rest : List Symbol) (next : Option Stars × List Symbol → Result A Fault) (answer : Result A Fault) (j : Joined (stars d s) Q marks)
    → begins_sign signs.Star (symbols_of j.back ++ rest) ≡ false → d ≤ limit
    → next (Some s, symbols_of j.back ++ rest) ≡ cut limit j.back rest answer
    → next (stars_at (symbols_of marks ++ rest)) ≡ cut limit marks rest answer
stars-then limit d s marks rest next answer j h low k =
    cut-joined (λ r. next (stars_at r)) limit marks j.front j.back rest answer j.parts
    (ap next (stars-back d s j.front (symbols_of j.back ++ rest) j.first h) ∙ k
    ∙ sym (cut-shallow limit j.front (symbols_of j.back ++ rest) (cut limit j.back rest answer) (stars-shallow limit d s j.front j.first low)))

-- a pointer, or none, that is spelled is read where a name follows
pub pointer-back : (limit d : ℕ) (p : Option Pointer) (marks : List Mark) (rest : List Symbol) → maybe (pointer d) p marks → IsNamed rest → d ≤ limit → pointer_at (symbols_of marks ++ rest) ≡ cut limit marks rest (Ok (p, rest))
unfolding pointer_behind
pointer-back limit d None marks rest is h low =
    none-end pointer_at limit rest _ is (ap (λ s. pointer_behind s.0 s.1) (stars-none rest (named-star rest h)))
pointer-back limit d (Some p) marks rest is h low =
    stars-then limit d p.stars marks rest (λ s. pointer_behind s.0 s.1) _ is (extent-star d p.extent is.back rest is.second h) low
    (part-end extent_at _ limit is.back rest (extent-back limit d p.extent is.back rest is.second h low) refl)

-- ---- declarators

-- what follows an item of a list of declarators: no bracket, no initial value, nothing that an expression goes on with
pub record IsEnded (symbols : List Symbol) : Type 0 where
  pub bracket : begins_sign signs.OpenBracket symbols ≡ false
  pub value : begins_sign signs.Assign symbols ≡ false
  pub operator : needs C symbols ≡ 0

pub ended-comma : (at : ℕ) (rest : List Symbol) → IsEnded (symbol.Sign at signs.Comma ∷ rest)
unfolding begins_sign needs begins_postfix step_of assign_of binary_of
ended-comma at rest = record { bracket = refl; value = refl; operator = refl }

pub ended-semicolon : (at : ℕ) (rest : List Symbol) → IsEnded (symbol.Sign at signs.Semicolon ∷ rest)
unfolding begins_sign needs begins_postfix step_of assign_of binary_of
ended-semicolon at rest = record { bracket = refl; value = refl; operator = refl }

count_behind-back : (limit d : ℕ) (n : Number) (marks : List Mark) (rest : List Symbol) → Joined (number d n) (sign d signs.CloseBracket) marks → d ≤ limit → count_behind (symbols_of marks ++ rest) ≡ cut limit marks rest (Ok (n, rest))
unfolding count_behind
count_behind-back limit d n marks rest is low = token-then count_behind rest _ (placed is) low (sign-end _ is.second low refl)
  where
    placed : (j : Joined (number d n) (sign d signs.CloseBracket) marks) → Joined (token d (symbol.Number j.first.0 n)) (sign d signs.CloseBracket) marks
    placed j = record { front = j.front; back = j.back; parts = j.parts; first = j.first.1; second = j.second }

pub count-back : (limit d : ℕ) (c : Option Number) (marks : List Mark) (rest : List Symbol) → maybe (count d) c marks → begins_sign signs.OpenBracket rest ≡ false → d ≤ limit → count_at (symbols_of marks ++ rest) ≡ cut limit marks rest (Ok (c, rest))
unfolding count_at begins_sign
count-back limit d None marks rest is h low = none-end count_at limit rest _ is (rw h refl)
count-back limit d (Some c) marks rest is h low =
    token-then count_at rest _ (signed is) low (part-end count_behind _ limit is.back rest (count_behind-back limit d c is.back rest is.second low) refl)

pub declarator-back : (limit d : ℕ) (x : Declarator) (marks : List Mark) (rest : List Symbol) → declarator d x marks → begins_sign signs.OpenBracket rest ≡ false → d ≤ limit → declarator_at (symbols_of marks ++ rest) ≡ cut limit marks rest (Ok (x, rest))
unfolding declarator_at
declarator-back limit d x marks rest is h low =
    part-then pointer_at _ limit rest _ is (pointer-back limit d x.pointer is.front (symbols_of is.back ++ rest) is.first (name-first-then rest is.second) low)
    (name-then _ rest _ is.second low
    (part-end count_at _ limit is.second.back rest (count-back limit d x.count is.second.back rest is.second.second h low) refl))

-- ---- globals

constant-back : (limit d : ℕ) (c : Constant) (marks : List Mark) (rest : List Symbol) → constant_spelling d c marks → d ≤ limit → constant_at (symbols_of marks ++ rest) ≡ cut limit marks rest (Ok (c, rest))
unfolding constant_at negative_at
constant-back limit d (constant.Number n) marks rest is low = token-end constant_at rest _ is.1 low refl
constant-back limit d (constant.Negative n) marks rest is low = token-then constant_at rest _ (signed is) low (token-end negative_at rest _ is.second.1 low refl)
constant-back limit d (constant.Character b) marks rest is low = token-end constant_at rest _ is.1 low refl
constant-back limit d (constant.Text at bytes) marks rest is low = token-end constant_at rest _ is low refl
constant-back limit d constant.Null marks rest is low = token-end constant_at rest _ is.1 low refl
constant-back limit d constant.Eof marks rest is low = token-end constant_at rest _ is.1 low refl
constant-back limit d constant.MutexInitializer marks rest is low = token-end constant_at rest _ is.1 low refl

initial-back : (limit d : ℕ) (i : Option Constant) (marks : List Mark) (rest : List Symbol) → maybe (λ c. sign d signs.Assign · constant_spelling d c) i marks → begins_sign signs.Assign rest ≡ false → d ≤ limit
    → initial_at (symbols_of marks ++ rest) ≡ cut limit marks rest (Ok (i, rest))
unfolding initial_at begins_sign
initial-back limit d None marks rest is h low = none-end initial_at limit rest _ is (rw h refl)
initial-back limit d (Some c) marks rest is h low =
    token-then initial_at rest _ (signed is) low (part-end constant_at _ limit is.back rest (constant-back limit d c is.back rest is.second low) refl)

-- an initial value does not begin with a bracket
initial-bracket : (d : ℕ) (i : Option Constant) (marks : List Mark) (rest : List Symbol) → maybe (λ c. sign d signs.Assign · constant_spelling d c) i marks → begins_sign signs.OpenBracket rest ≡ false
    → begins_sign signs.OpenBracket (symbols_of marks ++ rest) ≡ false
unfolding begins_sign
initial-bracket d None marks rest is h = subst (λ m. begins_sign signs.OpenBracket (symbols_of m ++ rest) ≡ false) (sym is) h
initial-bracket d (Some c) marks rest is h = first-then (λ r. begins_sign signs.OpenBracket r ≡ false) rest (signed is) refl

-- a global behind its name
pub global_behind-back : (limit d : ℕ) (g : GlobalDeclarator) (marks : List Mark) (rest : List Symbol) → Joined (maybe (count d) g.declarator.count) (maybe (λ c. sign d signs.Assign · constant_spelling d c) g.initial) marks
    → IsEnded rest → d ≤ limit
    → global_behind g.declarator.pointer g.declarator.name (symbols_of marks ++ rest) ≡ cut limit marks rest (Ok (g, rest))
unfolding global_behind
global_behind-back limit d g marks rest is h low =
    part-then (declarator_behind g.declarator.pointer g.declarator.name) _ limit rest _ is
    (part-end count_at _ limit is.front (symbols_of is.back ++ rest) (count-back limit d g.declarator.count is.front (symbols_of is.back ++ rest) is.first (initial-bracket d g.initial is.back rest is.second h.bracket) low) refl)
    (part-end initial_at _ limit is.back rest (initial-back limit d g.initial is.back rest is.second h.value low) refl)

-- a global's parts, regrouped
abbrev pub global_parts : (d : ℕ) (g : GlobalDeclarator) (marks : List Mark) → global d g marks
    → Joined (maybe (pointer d) g.declarator.pointer) (Joined (name d g.declarator.name) (Joined (maybe (count d) g.declarator.count) (maybe (λ c. sign d signs.Assign · constant_spelling d c) g.initial))) marks
global_parts d g marks is =
    let m = joined-right is in
    record { front = m.front; back = m.back; parts = m.parts; first = m.first; second = joined-right m.second }

pub global-back : (limit d : ℕ) (g : GlobalDeclarator) (marks : List Mark) (rest : List Symbol) → global d g marks → IsEnded rest → d ≤ limit → global_at (symbols_of marks ++ rest) ≡ cut limit marks rest (Ok (g, rest))
unfolding global_at
global-back limit d g marks rest is h low =
    let j = global_parts d g marks is in
    part-then pointer_at _ limit rest _ j (pointer-back limit d g.declarator.pointer j.front (symbols_of j.back ++ rest) j.first (name-first-then rest j.second) low)
    (name-then _ rest _ j.second low (global_behind-back limit d g j.second.back rest j.second.second h low))

-- ---- parameters and locals

pub parameter-back : (limit d : ℕ) (p : Parameter) (marks : List Mark) (rest : List Symbol) → parameter d p marks → d ≤ limit → parameter_at (symbols_of marks ++ rest) ≡ cut limit marks rest (Ok (p, rest))
unfolding parameter_at
parameter-back limit d p marks rest is low =
    base-then _ rest _ is low
    (part-then pointer_at _ limit rest _ is.second (pointer-back limit d p.pointer is.second.front (symbols_of is.second.back ++ rest) is.second.first (name-first rest is.second.second) low)
    (name-end _ is.second.second low refl))

value-back : ExprIsReadBack → (n d : ℕ) (v : Option Term) (marks : List Mark) (rest : List Symbol) → maybe (λ e. sign d signs.Assign · spells C d e) v marks → IsEnded rest
    → value_at n (symbols_of marks ++ rest) ≡ cut (d + n) marks rest (Ok (v, rest))
unfolding value_at begins_sign
value-back back n d None marks rest is h = none-end (value_at n) (d + n) rest _ is (rw h.value refl)
value-back back n d (Some e) marks rest is h =
    token-then (value_at n) rest _ (signed is) (omega arith) (part-end (expr_at C n) _ (d + n) is.back rest (back C n d e is.back rest is.second h.operator) refl)

pub local-back : ExprIsReadBack → (n d : ℕ) (l : Local) (marks : List Mark) (rest : List Symbol) → local d l marks → IsEnded rest → local_at n (symbols_of marks ++ rest) ≡ cut (d + n) marks rest (Ok (l, rest))
unfolding local_at
local-back back n d l marks rest is h =
    let low : d ≤ d + n = omega arith in
    part-then pointer_at _ (d + n) rest _ is (pointer-back (d + n) d l.pointer is.front (symbols_of is.back ++ rest) is.first (name-first-then rest is.second) low)
    (name-then _ rest _ is.second low
    (part-end (value_at n) _ (d + n) is.second.back rest (value-back back n d l.initial is.second.back rest is.second.second h) refl))
