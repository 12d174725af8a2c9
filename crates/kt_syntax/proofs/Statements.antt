-- Statements and the entries of blocks that are spelled are read back.
use Rattle.std.specs.Prelude.{◌≡◌, ℕ, zero, suc, ◌+◌, ◌≤◌, true, false, not, List, [], ◌∷◌, ◌++◌, length, drop, Option, None, Ok}
use Rattle.std.proofs.Common.{refl, sym, ap, subst, ◌∙◌, arith, append_assoc}
use Rattle.std.proofs.lemmas.List.{append-nil}
use Rattle.kt_grammar.specs.declared.keyword.Keyword.{Keyword}
use Rattle.kt_grammar.specs.declared.keyword.Keyword.TheVariants as keywords
use Rattle.kt_grammar.specs.declared.operator.Dialect.TheVariants.{C}
use Rattle.kt_grammar.specs.declared.sign.Sign.TheVariants as signs
use Rattle.kt_grammar.specs.declared.symbol.Symbol.{Symbol}
use Rattle.kt_grammar.specs.declared.symbol.Symbol.TheVariants as symbol
use Rattle.kt_grammar.specs.Tree.{Term}
use Rattle.kt_grammar.specs.Marks.{Mark, Joined, symbols_of, sign, keyword, token}
use Rattle.kt_grammar.specs.Cursor.{begins_sign, until_at}
use Rattle.kt_grammar.specs.Reading.{begins_base, begins_expr}
use Rattle.kt_grammar.specs.Cut.{cut}
use Rattle.kt_grammar.specs.Laws.{Begins, ExprIsReadBack, ExprBegins}
use Rattle.kt_grammar.specs.CutLaws.{begins-at, begins-append, begins-token, begins-weaker, cut-none}
use Rattle.kt_syntax.specs.Tree.{Start, Statement, Declared, Compound, Empty, Evaluated, Returned, Broken, Continued, Conditional, Alternative, Looped, Repeated, Counted, Statements, Nothing, More, statements_of}
use Rattle.kt_syntax.specs.Spelling.{ends_open, statement, entries}
use Rattle.kt_syntax.specs.Reading.{Blocks, begins_keyword, begins_statement, begins_entry, condition_at, part_at, block_behind, ended_at, behind_else, behind_while, else_at, if_behind, while_behind, do_behind, start_at, for_behind, evaluated_at, worded_at, signed_at, statement_at, entry_at, entries_at, blocks}
use Rattle.kt_syntax.proofs.Parts.{part-then, part-end, sign-then, sign-end, token-then, token-end, none-end, none-then, signed, worded, first-end, first-then, joined-left}
use Rattle.kt_syntax.proofs.Lists.{joined-length, begins-length, until-stop, until-more}
use Rattle.kt_syntax.proofs.Fronts.{no_truth, expr-statement, statement_at-expr, statement-entry, statement-base, base-entry, entry-else, entry-close, close-else}
use Rattle.kt_syntax.proofs.Phrases.{length-within, declaration-begins, declaration-then, expr-then, semicolon-stop, close-stop, condition-back, ended-back, start-back}

-- the entries as a list
abbrev pub list_of : Statements → List Statement
list_of Nothing = []
list_of (More s rest) = s ∷ list_of rest

pub statements_of-list : (es : Statements) → statements_of (list_of es) ≡ es
statements_of-list Nothing = refl
statements_of-list (More s rest) = ap (λ r. More s r) (statements_of-list rest)

-- a statement that is part of another is read back
abbrev pub StatementBack : Statement → Type 0
StatementBack s = (n d : ℕ) (marks : List Mark) (rest : List Symbol) → statement false d s marks → (ends_open s ≡ true → behind_else rest ≡ None)
    → statement_at n (blocks n) (symbols_of marks ++ rest) ≡ cut (d + n) marks rest (Ok (s, rest))

-- entries of a block are read back up to a closing brace
abbrev pub EntriesBack : Statements → Type 0
EntriesBack es = (n d count : ℕ) (done : List Statement) (marks : List Mark) (rest : List Symbol) → entries d es marks → begins_sign signs.CloseBrace rest ≡ true → length marks ≤ count
    → until_at (begins_sign signs.CloseBrace) (entry_at n (blocks n)) count done (symbols_of marks ++ rest) ≡ cut (d + n) marks rest (Ok (done ++ list_of es, rest))

-- ---- what they begin with

keyword-begins : {Q : List Mark → Type 0} (k : Keyword) (d : ℕ) (marks : List Mark) → ((at : ℕ) (rest : List Symbol) → begins_statement (symbol.Keyword at k ∷ rest) ≡ true) → Joined (keyword d k) Q marks
    → Begins (λ symbols. begins_statement symbols ≡ true) d marks
keyword-begins k d marks h j =
    begins-append (λ symbols. begins_statement symbols ≡ true) d marks j.front j.back j.parts
    (begins-token (λ symbols. begins_statement symbols ≡ true) d (symbol.Keyword j.first.0 k) j.front j.first.1 (h j.first.0))

token-begins : {Q : List Mark → Type 0} (s : Symbol) (d : ℕ) (marks : List Mark) → ((rest : List Symbol) → begins_statement (s ∷ rest) ≡ true) → Joined (token d s) Q marks
    → Begins (λ symbols. begins_statement symbols ≡ true) d marks
token-begins s d marks h j =
    begins-append (λ symbols. begins_statement symbols ≡ true) d marks j.front j.back j.parts (begins-token (λ symbols. begins_statement symbols ≡ true) d s j.front j.first h)

pub statement-begins : ExprBegins → (s : Statement) (d : ℕ) (marks : List Mark) → statement false d s marks → Begins (λ symbols. begins_statement symbols ≡ true) d marks
unfolding begins_sign begins_keyword
statement-begins begins (Declared x) d marks is = no_truth is.0
statement-begins begins (Compound block) d marks is = token-begins (symbol.Sign is.first.0 signs.OpenBrace) d marks (λ rest. refl) (signed is)
statement-begins begins Empty d marks is = begins-token (λ symbols. begins_statement symbols ≡ true) d (symbol.Sign is.0 signs.Semicolon) marks is.1 (λ rest. refl)
statement-begins begins (Evaluated e) d marks is =
    begins-append (λ symbols. begins_statement symbols ≡ true) d marks is.front is.back is.parts
    (begins-weaker (λ symbols. begins_expr C symbols ≡ true) (λ symbols. begins_statement symbols ≡ true) d is.front expr-statement (begins C d e is.front is.first))
statement-begins begins (Returned at e) d marks is = token-begins (symbol.Keyword at keywords.Return) d marks (λ rest. refl) is
statement-begins begins (Broken at) d marks is = token-begins (symbol.Keyword at keywords.Break) d marks (λ rest. refl) is
statement-begins begins (Continued at) d marks is = token-begins (symbol.Keyword at keywords.Continue) d marks (λ rest. refl) is
statement-begins begins (Conditional c s) d marks is = keyword-begins keywords.If d marks (λ at rest. refl) is
statement-begins begins (Alternative c s t) d marks is = keyword-begins keywords.If d marks (λ at rest. refl) is.1
statement-begins begins (Looped c s) d marks is = keyword-begins keywords.While d marks (λ at rest. refl) is
statement-begins begins (Repeated s c) d marks is = keyword-begins keywords.Do d marks (λ at rest. refl) is
statement-begins begins (Counted start test step s) d marks is = keyword-begins keywords.For d marks (λ at rest. refl) is

pub entry-begins : ExprBegins → (s : Statement) (d : ℕ) (marks : List Mark) → statement true d s marks → Begins (λ symbols. begins_entry symbols ≡ true) d marks
entry-begins begins (Declared x) d marks is =
    begins-append (λ symbols. begins_entry symbols ≡ true) d marks is.1.front is.1.back is.1.parts
    (begins-weaker (λ symbols. begins_base symbols ≡ true) (λ symbols. begins_entry symbols ≡ true) d is.1.front base-entry (declaration-begins d x is.1.front is.1.first))
entry-begins begins s d marks is =
    begins-weaker (λ symbols. begins_statement symbols ≡ true) (λ symbols. begins_entry symbols ≡ true) d marks statement-entry (statement-begins begins s d marks is)

-- what stands behind an entry is no `else`
entries-else : ExprBegins → (es : Statements) (d : ℕ) (marks : List Mark) (rest : List Symbol) → entries d es marks → begins_sign signs.CloseBrace rest ≡ true → behind_else (symbols_of marks ++ rest) ≡ None
entries-else begins Nothing d marks rest is h = subst (λ m. behind_else (symbols_of m ++ rest) ≡ None) (sym is) (close-else rest h)
entries-else begins (More s es) d marks rest is h =
    entry-else (symbols_of marks ++ rest)
    (begins-at (λ symbols. begins_entry symbols ≡ true) d marks rest (begins-append (λ symbols. begins_entry symbols ≡ true) d marks is.front is.back is.parts (entry-begins begins s d is.front is.first)))

-- ---- parts

-- a part is read back where it is read one deeper
part-back : ExprBegins → (s : Statement) → StatementBack s → (n d : ℕ) (marks : List Mark) (rest : List Symbol) → statement false (suc d) s marks → (ends_open s ≡ true → behind_else rest ≡ None)
    → part_at (blocks n) (symbols_of marks ++ rest) ≡ cut (d + n) marks rest (Ok (s, rest))
unfolding part_at blocks
part-back begins s ih zero d marks rest is h = cut-none begins_statement (d + 0) (suc d) marks rest (Ok (s, rest)) (omega arith) (statement-begins begins s (suc d) marks is)
part-back begins s ih (suc n) d marks rest is h =
    let same : suc d + n ≡ d + suc n = omega arith in
    ih n (suc d) marks rest is h ∙ ap (λ l. cut l marks rest (Ok (s, rest))) same

-- what the entries of a block are read by
block-front : ExprBegins → (es : Statements) → EntriesBack es → (n d : ℕ) (marks : List Mark) (rest : List Symbol) → Joined (entries (suc d) es) (sign d signs.CloseBrace) marks
    → block_behind (blocks n) (symbols_of marks ++ rest) ≡ cut (d + n) marks rest (Ok (list_of es, rest))
unfolding block_behind blocks entries_at begins_sign
block-front begins Nothing ih zero d marks rest is = none-then (block_behind None) (d + 0) rest _ is (token-end (block_behind None) rest _ is.second.1 (omega arith) refl)
block-front begins (More s es) ih zero d marks rest is =
    let first = begins-append (λ symbols. begins_entry symbols ≡ true) (suc d) marks is.front is.back is.parts
    (begins-append (λ symbols. begins_entry symbols ≡ true) (suc d) is.front is.first.front is.first.back is.first.parts (entry-begins begins s (suc d) is.first.front is.first.first)) in
    rw (entry-close (symbols_of marks ++ rest) (begins-at (λ symbols. begins_entry symbols ≡ true) (suc d) marks rest first))
    (cut-none begins_entry (d + 0) (suc d) marks rest (Ok (s ∷ list_of es, rest)) (omega arith) first)
block-front begins es ih (suc n) d marks rest is =
    let same : suc d + n ≡ d + suc n = omega arith in
    let within : length is.front ≤ length (symbols_of marks ++ rest) = (let a = joined-length is in let b = length-within marks rest in omega arith) in
    part-then (until_at (begins_sign signs.CloseBrace) (entry_at n (blocks n)) (length (symbols_of marks ++ rest)) []) (λ es. Ok (es.0, drop 1 es.1)) (d + suc n) rest _ is
    (ih n (suc d) (length (symbols_of marks ++ rest)) [] is.front (symbols_of is.back ++ rest) is.first (first-end (λ r. begins_sign signs.CloseBrace r ≡ true) rest is.second.1 refl) within
    ∙ ap (λ l. cut l is.front (symbols_of is.back ++ rest) (Ok (list_of es, symbols_of is.back ++ rest))) same)
    (token-end (λ s. Ok (list_of es, drop 1 s)) rest _ is.second.1 (omega arith) refl)

-- ---- statements by form

compound-back : ExprBegins → (es : Statements) → EntriesBack es → StatementBack (Compound es)
unfolding statement_at signed_at
compound-back begins es ih n d marks rest is h =
    token-then (statement_at n (blocks n)) rest _ (signed is) (omega arith)
    (part-end (block_behind (blocks n)) _ (d + n) is.back rest (block-front begins es ih n d is.back rest is.second) (ap (λ es. Ok (Compound es, rest)) (statements_of-list es)))

empty-back : StatementBack Empty
unfolding statement_at signed_at
empty-back n d marks rest is h = token-end (statement_at n (blocks n)) rest _ is.1 (omega arith) refl

evaluated-back : ExprIsReadBack → ExprBegins → (e : Term) → StatementBack (Evaluated e)
unfolding evaluated_at
evaluated-back back begins e n d marks rest is h =
    statement_at-expr n (blocks n) (symbols_of marks ++ rest)
    (begins-at (λ symbols. begins_expr C symbols ≡ true) d marks rest (begins-append (λ symbols. begins_expr C symbols ≡ true) d marks is.front is.back is.parts (begins C d e is.front is.first)))
    ∙ expr-then back n d signs.Semicolon e (λ e. Evaluated e) marks rest semicolon-stop is

returned-back : ExprIsReadBack → ExprBegins → (at : ℕ) (e : Option Term) → StatementBack (Returned at e)
unfolding statement_at worded_at
returned-back back begins at e n d marks rest is h =
    token-then (statement_at n (blocks n)) rest _ is (omega arith)
    (part-end (ended_at n signs.Semicolon) _ (d + n) is.back rest (ended-back back begins n d signs.Semicolon e is.back rest semicolon-stop is.second) refl)

broken-back : (at : ℕ) → StatementBack (Broken at)
unfolding statement_at worded_at
broken-back at n d marks rest is h = token-then (statement_at n (blocks n)) rest _ is (omega arith) (sign-end _ is.second (omega arith) refl)

continued-back : (at : ℕ) → StatementBack (Continued at)
unfolding statement_at worded_at
continued-back at n d marks rest is h = token-then (statement_at n (blocks n)) rest _ is (omega arith) (sign-end _ is.second (omega arith) refl)

-- no `else` stands behind
else_at-none : (b : Option Blocks) (c : Term) (s : Statement) (rest : List Symbol) → behind_else rest ≡ None → else_at b c s rest ≡ Ok (Conditional c s, rest)
unfolding else_at
else_at-none b c s rest h = rw (h, else_at) refl

conditional-back : ExprIsReadBack → ExprBegins → (c : Term) (s : Statement) → StatementBack s → StatementBack (Conditional c s)
unfolding statement_at worded_at if_behind
conditional-back back begins c s ih n d marks rest is h =
    let j = is.second in
    token-then (statement_at n (blocks n)) rest _ (worded is) (omega arith)
    (part-then (condition_at n) _ (d + n) rest _ j (condition-back back begins n d c j.front (symbols_of j.back ++ rest) j.first)
    (part-end (part_at (blocks n)) _ (d + n) j.back rest (part-back begins s ih n d j.back rest j.second (λ _. h refl)) (else_at-none (blocks n) c s rest (h refl))))

alternative-back : ExprIsReadBack → ExprBegins → (c : Term) (s t : Statement) → StatementBack s → StatementBack t → StatementBack (Alternative c s t)
unfolding statement_at worded_at if_behind else_at behind_else
alternative-back back begins c s t ih_s ih_t n d marks rest is h =
    let i = is.1 in
    let j = i.second in
    let k = j.second in
    let l = k.second in
    token-then (statement_at n (blocks n)) rest _ (worded i) (omega arith)
    (part-then (condition_at n) _ (d + n) rest _ j (condition-back back begins n d c j.front (symbols_of j.back ++ rest) j.first)
    (part-then (part_at (blocks n)) _ (d + n) rest _ k (part-back begins s ih_s n d k.front (symbols_of k.back ++ rest) k.first (λ e. no_truth (ap (λ b. not b) (sym e) ∙ is.0)))
    (token-then (else_at (blocks n) c s) rest _ (worded l) (omega arith)
    (part-end (part_at (blocks n)) _ (d + n) l.back rest (part-back begins t ih_t n d l.back rest l.second h) refl))))

looped-back : ExprIsReadBack → ExprBegins → (c : Term) (s : Statement) → StatementBack s → StatementBack (Looped c s)
unfolding statement_at worded_at while_behind
looped-back back begins c s ih n d marks rest is h =
    let j = is.second in
    token-then (statement_at n (blocks n)) rest _ (worded is) (omega arith)
    (part-then (condition_at n) _ (d + n) rest _ j (condition-back back begins n d c j.front (symbols_of j.back ++ rest) j.first)
    (part-end (part_at (blocks n)) _ (d + n) j.back rest (part-back begins s ih n d j.back rest j.second h) refl))

repeated-back : ExprIsReadBack → ExprBegins → (s : Statement) (c : Term) → StatementBack s → StatementBack (Repeated s c)
unfolding statement_at worded_at do_behind behind_while behind_else
repeated-back back begins s c ih n d marks rest is h =
    let j = is.second in
    let k = j.second in
    let l = k.second in
    token-then (statement_at n (blocks n)) rest _ (worded is) (omega arith)
    (part-then (part_at (blocks n)) _ (d + n) rest _ j (part-back begins s ih n d j.front (symbols_of j.back ++ rest) j.first (λ _. first-then (λ r. behind_else r ≡ None) rest (worded k) refl))
    (part-then behind_while _ (d + n) rest _ k (token-end behind_while (symbols_of k.back ++ rest) _ k.first.1 (omega arith) refl)
    (part-then (condition_at n) _ (d + n) rest _ l (condition-back back begins n d c l.front (symbols_of l.back ++ rest) l.first)
    (sign-end _ l.second (omega arith) refl))))

counted-back : ExprIsReadBack → ExprBegins → (start : Start) (test step : Option Term) (s : Statement) → StatementBack s → StatementBack (Counted start test step s)
unfolding statement_at worded_at for_behind
counted-back back begins start test step s ih n d marks rest is h =
    let j = is.second in
    let a = joined-left j.second in
    let b = joined-left a.second in
    let c = joined-left b.second in
    token-then (statement_at n (blocks n)) rest _ (worded is) (omega arith)
    (sign-then _ rest _ j (omega arith)
    (part-then (start_at n) _ (d + n) rest _ a (start-back back begins n d start a.front (symbols_of a.back ++ rest) a.first)
    (part-then (ended_at n signs.Semicolon) _ (d + n) rest _ b (ended-back back begins n d signs.Semicolon test b.front (symbols_of b.back ++ rest) semicolon-stop b.first)
    (part-then (ended_at n signs.CloseParenthesis) _ (d + n) rest _ c (ended-back back begins n d signs.CloseParenthesis step c.front (symbols_of c.back ++ rest) close-stop c.first)
    (part-end (part_at (blocks n)) _ (d + n) c.back rest (part-back begins s ih n d c.back rest c.second h) refl)))))

-- ---- entries

-- an entry is read back where the statement is
entry-back : ExprIsReadBack → ExprBegins → (s : Statement) → StatementBack s → (n d : ℕ) (marks : List Mark) (rest : List Symbol) → statement true d s marks → (ends_open s ≡ true → behind_else rest ≡ None)
    → entry_at n (blocks n) (symbols_of marks ++ rest) ≡ cut (d + n) marks rest (Ok (s, rest))
unfolding entry_at
entry-back back begins (Declared x) ih n d marks rest is h =
    rw (begins-at (λ symbols. begins_base symbols ≡ true) d marks rest (begins-append (λ symbols. begins_base symbols ≡ true) d marks is.1.front is.1.back is.1.parts (declaration-begins d x is.1.front is.1.first)))
    (declaration-then back n d x (λ x. Declared x) marks rest is.1)
entry-back back begins s ih n d marks rest is h =
    rw (statement-base (symbols_of marks ++ rest) (begins-at (λ symbols. begins_statement symbols ≡ true) d marks rest (statement-begins begins s d marks is)))
    (ih n d marks rest is h)

no-entries-back : EntriesBack Nothing
no-entries-back n d count done marks rest is h le =
    none-end (until_at (begins_sign signs.CloseBrace) (entry_at n (blocks n)) count done) (d + n) rest _ is
    (until-stop (begins_sign signs.CloseBrace) (entry_at n (blocks n)) count done rest h ∙ ap (λ l. Ok (l, rest)) (sym (append-nil done)))

more-entries-back : ExprIsReadBack → ExprBegins → (s : Statement) (es : Statements) → StatementBack s → EntriesBack es → EntriesBack (More s es)
more-entries-back back begins s es ih_s ih_es n d zero done marks rest is h le = absurd (let a = joined-length is in let b = begins-length (entry-begins begins s d is.front is.first) in omega arith)
more-entries-back back begins s es ih_s ih_es n d (suc count) done marks rest is h le =
    until-more (begins_sign signs.CloseBrace) (entry_at n (blocks n)) (d + n) count done marks rest s _ is
    (entry-close (symbols_of marks ++ rest)
    (begins-at (λ symbols. begins_entry symbols ≡ true) d marks rest (begins-append (λ symbols. begins_entry symbols ≡ true) d marks is.front is.back is.parts (entry-begins begins s d is.front is.first))))
    (entry-back back begins s ih_s n d is.front (symbols_of is.back ++ rest) is.first (λ _. entries-else begins es d is.back rest is.second h))
    (ih_es n d count (done ++ s ∷ []) is.back rest is.second h (let a = joined-length is in let b = begins-length (entry-begins begins s d is.front is.first) in omega arith)
    ∙ ap (λ l. cut (d + n) is.back rest (Ok (l, rest))) (append_assoc done (s ∷ []) (list_of es)))

-- ---- all together

mutual
  pub statement-back : ExprIsReadBack → ExprBegins → (s : Statement) → StatementBack s
  statement-back back begins (Declared x) = λ n d marks rest is h. no_truth is.0
  statement-back back begins (Compound es) = compound-back begins es (entries-back back begins es)
  statement-back back begins Empty = empty-back
  statement-back back begins (Evaluated e) = evaluated-back back begins e
  statement-back back begins (Returned at e) = returned-back back begins at e
  statement-back back begins (Broken at) = broken-back at
  statement-back back begins (Continued at) = continued-back at
  statement-back back begins (Conditional c s) = conditional-back back begins c s (statement-back back begins s)
  statement-back back begins (Alternative c s t) = alternative-back back begins c s t (statement-back back begins s) (statement-back back begins t)
  statement-back back begins (Looped c s) = looped-back back begins c s (statement-back back begins s)
  statement-back back begins (Repeated s c) = repeated-back back begins s c (statement-back back begins s)
  statement-back back begins (Counted start test step s) = counted-back back begins start test step s (statement-back back begins s)

  pub entries-back : ExprIsReadBack → ExprBegins → (es : Statements) → EntriesBack es
  entries-back back begins Nothing = no-entries-back
  entries-back back begins (More s es) = more-entries-back back begins s es (statement-back back begins s) (entries-back back begins es)

-- the entries of a block and its closing brace, behind the opening one
pub block-back : ExprIsReadBack → ExprBegins → (es : Statements) (n d : ℕ) (marks : List Mark) (rest : List Symbol) → Joined (entries (suc d) es) (sign d signs.CloseBrace) marks
    → block_behind (blocks n) (symbols_of marks ++ rest) ≡ cut (d + n) marks rest (Ok (list_of es, rest))
block-back back begins es n d marks rest is = block-front begins es (entries-back back begins es) n d marks rest is
