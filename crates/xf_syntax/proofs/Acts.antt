-- Acts and bodies that are spelled are read back.
use Rattle.std.specs.Prelude.{◌≡◌, ℕ, zero, suc, ◌+◌, ◌≤◌, true, not, List, [], ◌∷◌, ◌++◌, length, Option, None, Ok}
use Rattle.std.proofs.Common.{refl, sym, ap, subst, ◌∙◌, arith, append_assoc}
use Rattle.std.proofs.lemmas.List.{append-nil}
use Rattle.kt_grammar.specs.declared.keyword.Keyword.TheVariants as keywords
use Rattle.kt_grammar.specs.declared.operator.Dialect.TheVariants.{Rules}
use Rattle.kt_grammar.specs.declared.sign.Sign.{Sign}
use Rattle.kt_grammar.specs.declared.sign.Sign.TheVariants as signs
use Rattle.kt_grammar.specs.declared.symbol.Symbol.{Symbol}
use Rattle.kt_grammar.specs.declared.symbol.Symbol.TheVariants as symbol
use Rattle.kt_grammar.specs.Tree.{Term}
use Rattle.kt_grammar.specs.Signs.{step_of, assign_of, binary_of}
use Rattle.kt_grammar.specs.Marks.{Mark, Joined, symbols_of, token}
use Rattle.kt_grammar.specs.Cursor.{begins_sign, until_at}
use Rattle.kt_grammar.specs.Reading.{begins_expr, begins_postfix, expr_at}
use Rattle.kt_grammar.specs.Cut.{cut}
use Rattle.kt_grammar.specs.Laws.{needs, Begins, ExprIsReadBack, ExprBegins}
use Rattle.kt_grammar.specs.CutLaws.{begins-at, begins-append, begins-token, begins-weaker, cut-none}
use Rattle.kt_grammar.specs.BackLaws.{same_sign-self}
use Rattle.kt_grammar.specs.Conditions.{deep_expr_at, condition_at, behind_else}
use Rattle.kt_grammar.proofs.Parts.{part-then, part-end, sign-then, sign-end, token-then, token-end, none-end, signed, worded, first-end, first-then}
use Rattle.kt_grammar.proofs.ListsBack.{joined-length, begins-length, until-stop, until-more}
use Rattle.kt_grammar.proofs.ItemTexts.{length-within}
use Rattle.kt_grammar.proofs.Conditions.{deep_expr-back, condition-back}
use Rattle.xf_syntax.specs.Tree.{Action, Compound, Empty, Assigned, Conditional, Alternative, Actions, Nothing, More, actions_of, Code}
use Rattle.xf_syntax.specs.Spelling.{ends_open, action, actions, code}
use Rattle.xf_syntax.specs.Reading.{Blocks, begins_if, begins_act, part_at, block_at, else_at, if_behind, assigned_at, compound_behind, signed_at, act_at, acts_at, blocks, sign_at, code_at}
use Rattle.xf_syntax.proofs.Fronts.{no_truth, act_at-expr, expr-act, act-else, act-close, close-else}

-- acts as a list
abbrev pub list_of : Actions → List Action
list_of Nothing = []
list_of (More s rest) = s ∷ list_of rest

pub actions_of-list : (es : Actions) → actions_of (list_of es) ≡ es
actions_of-list Nothing = refl
actions_of-list (More s rest) = ap (λ r. More s r) (actions_of-list rest)

-- an act is read back
abbrev pub ActBack : Action → Type 0
ActBack s = (n d : ℕ) (marks : List Mark) (rest : List Symbol) → action d s marks → (ends_open s ≡ true → behind_else rest ≡ None)
    → act_at n (blocks n) (symbols_of marks ++ rest) ≡ cut (d + n) marks rest (Ok (s, rest))

-- acts are read back up to a closing brace
abbrev pub ActsBack : Actions → Type 0
ActsBack es = (n d count : ℕ) (done : List Action) (marks : List Mark) (rest : List Symbol) → actions d es marks → begins_sign signs.CloseBrace rest ≡ true → length marks ≤ count
    → until_at (begins_sign signs.CloseBrace) (act_at n (blocks n)) count done (symbols_of marks ++ rest) ≡ cut (d + n) marks rest (Ok (done ++ list_of es, rest))

-- ---- what they begin with

abbrev IsBegun : List Symbol → Type 0
IsBegun symbols = begins_act symbols ≡ true

token-begins : {Q : List Mark → Type 0} (s : Symbol) (d : ℕ) (marks : List Mark) → ((rest : List Symbol) → begins_act (s ∷ rest) ≡ true) → Joined (token d s) Q marks → Begins IsBegun d marks
token-begins s d marks h j = begins-append IsBegun d marks j.front j.back j.parts (begins-token IsBegun d s j.front j.first h)

pub act-begins : ExprBegins → (s : Action) (d : ℕ) (marks : List Mark) → action d s marks → Begins IsBegun d marks
unfolding begins_sign begins_if
act-begins begins (Compound block) d marks is = token-begins (symbol.Sign is.first.0 signs.OpenBrace) d marks (λ rest. refl) (signed is)
act-begins begins Empty d marks is = begins-token IsBegun d (symbol.Sign is.0 signs.Semicolon) marks is.1 (λ rest. refl)
act-begins begins (Assigned left value) d marks is =
    begins-append IsBegun d marks is.front is.back is.parts
    (begins-weaker (λ symbols. begins_expr Rules symbols ≡ true) IsBegun d is.front expr-act (begins Rules d left is.front is.first))
act-begins begins (Conditional c s) d marks is = token-begins (symbol.Keyword is.first.0 keywords.If) d marks (λ rest. refl) (worded is)
act-begins begins (Alternative c s t) d marks is = token-begins (symbol.Keyword is.1.first.0 keywords.If) d marks (λ rest. refl) (worded is.1)

-- what stands behind an act is no `else`
acts-else : ExprBegins → (es : Actions) (d : ℕ) (marks : List Mark) (rest : List Symbol) → actions d es marks → begins_sign signs.CloseBrace rest ≡ true → behind_else (symbols_of marks ++ rest) ≡ None
acts-else begins Nothing d marks rest is h = subst (λ m. behind_else (symbols_of m ++ rest) ≡ None) (sym is) (close-else rest h)
acts-else begins (More s es) d marks rest is h =
    act-else (symbols_of marks ++ rest) (begins-at IsBegun d marks rest (begins-append IsBegun d marks is.front is.back is.parts (act-begins begins s d is.front is.first)))

-- ---- parts

-- a part is read back where it is read one deeper
part-back : ExprBegins → (s : Action) → ActBack s → (n d : ℕ) (marks : List Mark) (rest : List Symbol) → action (suc d) s marks → (ends_open s ≡ true → behind_else rest ≡ None)
    → part_at (blocks n) (symbols_of marks ++ rest) ≡ cut (d + n) marks rest (Ok (s, rest))
unfolding part_at blocks
part-back begins s ih zero d marks rest is h = cut-none begins_act (d + 0) (suc d) marks rest (Ok (s, rest)) (omega arith) (act-begins begins s (suc d) marks is)
part-back begins s ih (suc n) d marks rest is h =
    let same : suc d + n ≡ d + suc n = omega arith in
    ih n (suc d) marks rest is h ∙ ap (λ l. cut l marks rest (Ok (s, rest))) same

-- the acts of a block are read back, behind its opening brace
block-front : ExprBegins → (es : Actions) → ActsBack es → (n d : ℕ) (marks : List Mark) (rest : List Symbol) → actions (suc d) es marks → begins_sign signs.CloseBrace rest ≡ true
    → block_at (blocks n) (symbols_of marks ++ rest) ≡ cut (d + n) marks rest (Ok (list_of es, rest))
unfolding block_at blocks acts_at
block-front begins Nothing ih zero d marks rest is h = none-end (block_at None) (d + 0) rest _ is (rw h refl)
block-front begins (More s es) ih zero d marks rest is h =
    let first = begins-append IsBegun (suc d) marks is.front is.back is.parts (act-begins begins s (suc d) is.front is.first) in
    rw (act-close (symbols_of marks ++ rest) (begins-at IsBegun (suc d) marks rest first))
    (cut-none begins_act (d + 0) (suc d) marks rest (Ok (s ∷ list_of es, rest)) (omega arith) first)
block-front begins es ih (suc n) d marks rest is h =
    let same : suc d + n ≡ d + suc n = omega arith in
    ih n (suc d) (length (symbols_of marks ++ rest)) [] marks rest is h (length-within marks rest) ∙ ap (λ l. cut l marks rest (Ok (list_of es, rest))) same

-- ---- acts by form

compound-back : ExprBegins → (es : Actions) → ActsBack es → ActBack (Compound es)
unfolding act_at signed_at compound_behind begins_sign
compound-back begins es ih n d marks rest is h =
    let j = is.second in
    token-then (act_at n (blocks n)) rest _ (signed is) (omega arith)
    (part-then (block_at (blocks n)) _ (d + n) rest _ j
    (block-front begins es ih n d j.front (symbols_of j.back ++ rest) j.first (first-end (λ r. begins_sign signs.CloseBrace r ≡ true) rest j.second.1 refl))
    (sign-end _ j.second (omega arith) (ap (λ es. Ok (Compound es, rest)) (actions_of-list es))))

empty-back : ActBack Empty
unfolding act_at signed_at
empty-back n d marks rest is h = token-end (act_at n (blocks n)) rest _ is.1 (omega arith) refl

-- no operator goes on with these
assign_operator : (at : ℕ) (rest : List Symbol) → needs Rules (symbol.Sign at signs.Assign ∷ rest) ≡ 0
unfolding needs begins_postfix step_of assign_of binary_of
assign_operator at rest = refl

semicolon_operator : (at : ℕ) (rest : List Symbol) → needs Rules (symbol.Sign at signs.Semicolon ∷ rest) ≡ 0
unfolding needs begins_postfix step_of assign_of binary_of
semicolon_operator at rest = refl

assigned-back : ExprIsReadBack → ExprBegins → (left value : Term) → ActBack (Assigned left value)
unfolding assigned_at
assigned-back back begins left value n d marks rest is h =
    let low : d ≤ d + n = omega arith in
    let j = is.second in
    let k = j.second in
    act_at-expr n (blocks n) (symbols_of marks ++ rest)
    (begins-at (λ symbols. begins_expr Rules symbols ≡ true) d marks rest (begins-append (λ symbols. begins_expr Rules symbols ≡ true) d marks is.front is.back is.parts (begins Rules d left is.front is.first)))
    ∙ part-then (expr_at Rules n) _ (d + n) rest _ is
    (back Rules n d left is.front (symbols_of is.back ++ rest) is.first (first-then (λ r. needs Rules r ≡ 0) rest (signed j) (assign_operator _ _)))
    (sign-then _ rest _ j low
    (part-then (deep_expr_at Rules n) _ (d + n) rest _ k
    (deep_expr-back back begins Rules n d value k.front (symbols_of k.back ++ rest) k.first (first-end (λ r. needs Rules r ≡ 0) rest k.second.1 (semicolon_operator _ _)))
    (sign-end _ k.second low refl)))

-- no `else` stands behind
else_at-none : (b : Option Blocks) (c : Term) (s : Action) (rest : List Symbol) → behind_else rest ≡ None → else_at b c s rest ≡ Ok (Conditional c s, rest)
unfolding else_at
else_at-none b c s rest h = rw (h, else_at) refl

conditional-back : ExprIsReadBack → ExprBegins → (c : Term) (s : Action) → ActBack s → ActBack (Conditional c s)
unfolding act_at if_behind
conditional-back back begins c s ih n d marks rest is h =
    let j = is.second in
    token-then (act_at n (blocks n)) rest _ (worded is) (omega arith)
    (part-then (condition_at Rules n) _ (d + n) rest _ j (condition-back back begins Rules n d c j.front (symbols_of j.back ++ rest) j.first)
    (part-end (part_at (blocks n)) _ (d + n) j.back rest (part-back begins s ih n d j.back rest j.second (λ _. h refl)) (else_at-none (blocks n) c s rest (h refl))))

alternative-back : ExprIsReadBack → ExprBegins → (c : Term) (s t : Action) → ActBack s → ActBack t → ActBack (Alternative c s t)
unfolding act_at if_behind else_at behind_else
alternative-back back begins c s t ih_s ih_t n d marks rest is h =
    let i = is.1 in
    let j = i.second in
    let k = j.second in
    let l = k.second in
    token-then (act_at n (blocks n)) rest _ (worded i) (omega arith)
    (part-then (condition_at Rules n) _ (d + n) rest _ j (condition-back back begins Rules n d c j.front (symbols_of j.back ++ rest) j.first)
    (part-then (part_at (blocks n)) _ (d + n) rest _ k (part-back begins s ih_s n d k.front (symbols_of k.back ++ rest) k.first (λ e. no_truth (ap (λ b. not b) (sym e) ∙ is.0)))
    (token-then (else_at (blocks n) c s) rest _ (worded l) (omega arith)
    (part-end (part_at (blocks n)) _ (d + n) l.back rest (part-back begins t ih_t n d l.back rest l.second h) refl))))

-- ---- acts in a row

no-acts-back : ActsBack Nothing
no-acts-back n d count done marks rest is h le =
    none-end (until_at (begins_sign signs.CloseBrace) (act_at n (blocks n)) count done) (d + n) rest _ is
    (until-stop (begins_sign signs.CloseBrace) (act_at n (blocks n)) count done rest h ∙ ap (λ l. Ok (l, rest)) (sym (append-nil done)))

more-acts-back : ExprBegins → (s : Action) (es : Actions) → ActBack s → ActsBack es → ActsBack (More s es)
more-acts-back begins s es ih_s ih_es n d zero done marks rest is h le = absurd (let a = joined-length is in let b = begins-length (act-begins begins s d is.front is.first) in omega arith)
more-acts-back begins s es ih_s ih_es n d (suc count) done marks rest is h le =
    until-more (begins_sign signs.CloseBrace) (act_at n (blocks n)) (d + n) count done marks rest s _ is
    (act-close (symbols_of marks ++ rest) (begins-at IsBegun d marks rest (begins-append IsBegun d marks is.front is.back is.parts (act-begins begins s d is.front is.first))))
    (ih_s n d is.front (symbols_of is.back ++ rest) is.first (λ _. acts-else begins es d is.back rest is.second h))
    (ih_es n d count (done ++ s ∷ []) is.back rest is.second h (let a = joined-length is in let b = begins-length (act-begins begins s d is.front is.first) in omega arith)
    ∙ ap (λ l. cut (d + n) is.back rest (Ok (l, rest))) (append_assoc done (s ∷ []) (list_of es)))

mutual
  pub act-back : ExprIsReadBack → ExprBegins → (s : Action) → ActBack s
  act-back back begins (Compound es) = compound-back begins es (acts-back back begins es)
  act-back back begins Empty = empty-back
  act-back back begins (Assigned left value) = assigned-back back begins left value
  act-back back begins (Conditional c s) = conditional-back back begins c s (act-back back begins s)
  act-back back begins (Alternative c s t) = alternative-back back begins c s t (act-back back begins s) (act-back back begins t)

  pub acts-back : ExprIsReadBack → ExprBegins → (es : Actions) → ActsBack es
  acts-back back begins Nothing = no-acts-back
  acts-back back begins (More s es) = more-acts-back begins s es (act-back back begins s) (acts-back back begins es)

-- ---- bodies

sign_at-back : (limit at : ℕ) (s : Sign) (marks : List Mark) (rest : List Symbol) → token 0 (symbol.Sign at s) marks → sign_at s (symbols_of marks ++ rest) ≡ cut limit marks rest (Ok (at, rest))
unfolding sign_at
sign_at-back limit at s marks rest is = token-end (sign_at s) rest _ is (omega arith) (rw (same_sign-self s) refl)

pub code-back : ExprIsReadBack → ExprBegins → (n : ℕ) (c : Code) (marks : List Mark) (rest : List Symbol) → code c marks → code_at n (symbols_of marks ++ rest) ≡ cut n marks rest (Ok (c, rest))
unfolding code_at begins_sign
code-back back begins n c marks rest is =
    let whole : 0 + n ≡ n = omega arith in
    let j = is.second in
    part-then (sign_at signs.OpenBrace) _ n rest _ is (sign_at-back n c.first signs.OpenBrace is.front (symbols_of is.back ++ rest) is.first)
    (part-then (block_at (blocks n)) _ n rest _ j
    (block-front begins c.actions (acts-back back begins c.actions) n 0 j.front (symbols_of j.back ++ rest) j.first (first-end (λ r. begins_sign signs.CloseBrace r ≡ true) rest j.second refl)
    ∙ ap (λ l. cut l j.front (symbols_of j.back ++ rest) (Ok (list_of c.actions, symbols_of j.back ++ rest))) whole)
    (part-end (sign_at signs.CloseBrace) _ n j.back rest (sign_at-back n c.last signs.CloseBrace j.back rest j.second)
    (ap (λ es. Ok (record { first = c.first; last = c.last; actions = es }, rest)) (actions_of-list c.actions))))
