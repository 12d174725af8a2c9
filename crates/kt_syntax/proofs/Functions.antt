-- Functions that are spelled are read back.
use Rattle.std.specs.Prelude.{◌≡◌, ℕ, ◌+◌, ◌≤◌, Bool, true, false, List, [], ◌∷◌, ◌++◌, ◌⊎◌, length, Option, Some, None, Result, Ok}
use Rattle.std.specs.Option.{option_map}
use Rattle.std.proofs.Common.{inl, inr, refl, sym, ap, ◌∙◌, arith}
use Rattle.std.proofs.lemmas.List.{append-nil}
use Rattle.kt_grammar.specs.declared.fault.Fault.{Fault}
use Rattle.kt_grammar.specs.declared.keyword.Keyword.TheVariants as keywords
use Rattle.kt_grammar.specs.declared.sign.Sign.TheVariants as signs
use Rattle.kt_grammar.specs.declared.symbol.Symbol.{Symbol}
use Rattle.kt_grammar.specs.declared.symbol.Symbol.TheVariants as symbol
use Rattle.kt_grammar.specs.declared.tree.Base.{Base}
use Rattle.kt_grammar.specs.declared.tree.Name.{Name}
use Rattle.kt_grammar.specs.Marks.{Mark, Joined, ◌·◌, symbols_of, sign, keyword, name, token, nothing}
use Rattle.kt_grammar.specs.Spelling.{between}
use Rattle.kt_grammar.specs.Cursor.{◌>>=◌, Outcome, begins_sign, behind, name_at, listed_at}
use Rattle.kt_grammar.specs.Reading.{begins_base}
use Rattle.kt_grammar.specs.Cut.{cut}
use Rattle.kt_grammar.specs.Laws.{ExprIsReadBack, ExprBegins}
use Rattle.kt_grammar.specs.CutLaws.{begins-at, begins-append}
use Rattle.kt_grammar.specs.BackLaws.{base-begins}
use Rattle.kt_syntax.specs.declared.tree.Stars.{Stars}
use Rattle.kt_syntax.specs.declared.tree.Pointer.{Pointer}
use Rattle.kt_syntax.specs.declared.tree.Parameter.{Parameter}
use Rattle.kt_syntax.specs.Tree.{Statements, Definition, Routine, External, FunctionDeclared}
use Rattle.kt_syntax.specs.Spelling.{separated, maybe, stars, pointer, parameter, entries, parameters, noted, body, external}
use Rattle.kt_syntax.specs.Reading.{stars_at, pointer_at, parameter_at, block_behind, blocks, parameters_behind, definition_behind, body_at, function_behind, named_behind, declared_behind, void_behind, external_at}
use Rattle.kt_syntax.proofs.Parts.{part-then, part-end, sign-then, sign-end, name-then, token-then, token-end, none-then, signed, worded, first-end, first-joined, joined-left, joined-right}
use Rattle.kt_syntax.proofs.Declarators.{IsNamed, name-first-then, named-star, stars-then, stars-none, pointer-back, parameter-back}
use Rattle.kt_syntax.proofs.Lists.{joined-length, token-length, IsItem, separated-back}
use Rattle.kt_syntax.proofs.Fronts.{no_truth}
use Rattle.kt_syntax.proofs.Statements.{list_of, statements_of-list, block-back}
use Rattle.kt_syntax.proofs.Leading.{lead-then, void-then}
use Rattle.kt_syntax.proofs.Structs.{front-within}
use Rattle.kt_syntax.proofs.Globals.{pointed-declared}

parameter-some : (p : Parameter) (marks : List Mark) → parameter 0 p marks → 1 ≤ length marks
parameter-some p marks is = let a = joined-length is in let b = joined-length is.second in let c = token-length is.second.second in omega arith

parameter-item : (limit : ℕ) → IsItem (parameter 0) parameter_at (λ r. Unit {0}) limit
parameter-item limit = record { comma = λ at r. tt; some = parameter-some; back = λ p marks rest is _. parameter-back limit 0 p marks rest is (omega arith) }

-- parameters and a closing parenthesis
abbrev listed_parameters : List Symbol → Outcome (List Parameter)
listed_parameters symbols = listed_at parameter_at (length symbols) [] symbols >>= λ ps. behind signs.CloseParenthesis ps.1 >>= λ rest. Ok (ps.0, rest)

parameters_behind-base : (symbols : List Symbol) → begins_base symbols ≡ true → parameters_behind symbols ≡ listed_parameters symbols
unfolding parameters_behind begins_base begins_sign
parameters_behind-base (symbol.Keyword at keywords.Const ∷ rest) h = refl
parameters_behind-base (symbol.Keyword at keywords.Char ∷ rest) h = refl
parameters_behind-base (symbol.Keyword at keywords.Int ∷ rest) h = refl
parameters_behind-base (symbol.Keyword at keywords.Long ∷ rest) h = refl
parameters_behind-base (symbol.Keyword at keywords.Mutex ∷ rest) h = refl
parameters_behind-base (symbol.Keyword at keywords.Struct ∷ rest) h = refl
parameters_behind-base _ h = no_truth h

parameter-first : (p : Parameter) (marks : List Mark) (rest : List Symbol) → parameter 0 p marks → begins_base (symbols_of marks ++ rest) ≡ true
parameter-first p marks rest is =
    begins-at (λ symbols. begins_base symbols ≡ true) 0 marks rest (begins-append (λ symbols. begins_base symbols ≡ true) 0 marks is.front is.back is.parts (base-begins 0 p.base is.front is.first))

parameters-first : (p : Parameter) (ps : List Parameter) (marks : List Mark) (rest : List Symbol) → separated 0 (parameter 0) (p ∷ ps) marks → begins_base (symbols_of marks ++ rest) ≡ true
parameters-first p [] marks rest is = parameter-first p marks rest is
parameters-first p (q ∷ ps) marks rest is = first-joined (λ r. begins_base r ≡ true) rest is (parameter-first p is.front (symbols_of is.back ++ rest) is.first)

no-parameters-back : (n : ℕ) (marks front back : List Mark) (rest : List Symbol) → marks ≡ front ++ back → nothing front ⊎ keyword 0 keywords.Void front → sign 0 signs.CloseParenthesis back
    → parameters_behind (symbols_of marks ++ rest) ≡ cut n marks rest (Ok ([], rest))
unfolding parameters_behind begins_sign
no-parameters-back n marks front back rest parts (inl none) close =
    let e = parts ∙ ap (λ f. f ++ back) none in
    token-end parameters_behind rest _ (e ∙ close.1) (omega arith) refl
no-parameters-back n marks front back rest parts (inr is) close =
    let j : Joined (token 0 (symbol.Keyword is.0 keywords.Void)) (sign 0 signs.CloseParenthesis) marks = record { front = front; back = back; parts = parts; first = is.1; second = close } in
    token-then parameters_behind rest _ j (omega arith) (sign-end _ close (omega arith) refl)

parameters-back : (n : ℕ) (ps : List Parameter) (marks : List Mark) (rest : List Symbol) → Joined (parameters ps) (sign 0 signs.CloseParenthesis) marks
    → parameters_behind (symbols_of marks ++ rest) ≡ cut n marks rest (Ok (ps, rest))
unfolding begins_sign
parameters-back n [] marks rest is = no-parameters-back n marks is.front is.back rest is.parts is.first is.second
parameters-back n (p ∷ ps) marks rest is =
    parameters_behind-base (symbols_of marks ++ rest) (first-joined (λ r. begins_base r ≡ true) rest is (parameters-first p ps is.front (symbols_of is.back ++ rest) is.first))
    ∙ part-then (listed_at parameter_at (length (symbols_of marks ++ rest)) []) _ n rest _ is
    (separated-back (parameter 0) parameter_at (λ r. Unit {0}) n 0 (parameter-item n) (omega arith) (p ∷ ps) (length (symbols_of marks ++ rest)) [] is.front (symbols_of is.back ++ rest) is.first tt
    (first-end (λ r. begins_sign signs.Comma r ≡ false) rest is.second.1 refl) (front-within is rest))
    (sign-end _ is.second (omega arith) refl)

-- behind the opening brace of a function's body
definition-back : ExprIsReadBack → ExprBegins → (n : ℕ) (noted : Bool) (es : Statements) (marks : List Mark) (rest : List Symbol) → Joined (entries 1 es) (sign 0 signs.CloseBrace) marks
    → definition_behind n noted (symbols_of marks ++ rest) ≡ cut n marks rest (Ok (Some (record { noted = noted; entries = es }), rest))
unfolding definition_behind
definition-back back begins n noted es marks rest is =
    let same : 0 + n ≡ n = omega arith in
    part-end (block_behind (blocks n)) _ n marks rest (block-back back begins es n 0 marks rest is ∙ ap (λ l. cut l marks rest (Ok (list_of es, rest))) same)
    (ap (λ es. Ok (Some (record { noted = noted; entries = es }), rest)) (statements_of-list es))

body-back : ExprIsReadBack → ExprBegins → (n : ℕ) (b : Option Definition) (marks : List Mark) (rest : List Symbol) → body b marks → body_at n (symbols_of marks ++ rest) ≡ cut n marks rest (Ok (b, rest))
unfolding body_at begins_sign behind
body-back back begins n None marks rest is = token-end (body_at n) rest _ is.1 (omega arith) refl
body-back back begins n (Some b) marks rest is = defined b.noted b.entries marks is
  where
    defined : (m : Bool) (es : Statements) (marks : List Mark) → body (Some (record { noted = m; entries = es })) marks → body_at n (symbols_of marks ++ rest) ≡ cut n marks rest (Ok (Some (record { noted = m; entries = es }), rest))
    defined false es marks is =
        none-then (body_at n) n rest _ is (token-then (body_at n) rest _ (signed is.second) (omega arith) (definition-back back begins n false es is.second.back rest is.second.second))
    defined true es marks is =
        token-then (body_at n) rest _ (worded is) (omega arith)
        (sign-then _ rest _ is.second (omega arith) (definition-back back begins n true es is.second.back rest is.second.second))

function_behind-back : ExprIsReadBack → ExprBegins → (n : ℕ) (f : Routine) (marks : List Mark) (rest : List Symbol) → Joined (Joined (parameters f.parameters) (sign 0 signs.CloseParenthesis)) (body f.body) marks
    → function_behind n f.result f.stars f.name (symbols_of marks ++ rest) ≡ cut n marks rest (Ok (FunctionDeclared f, rest))
unfolding function_behind
function_behind-back back begins n f marks rest is =
    part-then parameters_behind _ n rest _ is (parameters-back n f.parameters is.front (symbols_of is.back ++ rest) is.first)
    (part-end (body_at n) _ n is.back rest (body-back back begins n f.body is.back rest is.second) refl)

-- stars as a pointer without `E_PTRARRAY`
abbrev bare : Option Stars → Option Pointer
bare s = option_map (λ s. record { stars = s; extent = None }) s

stars-pointer : (s : Option Stars) (marks : List Mark) → maybe (stars 0) s marks → maybe (pointer 0) (bare s) marks
stars-pointer None marks is = is
stars-pointer (Some s) marks is = record { front = marks; back = []; parts = sym (append-nil marks); first = is; second = refl }

-- a name behind stars and then a parenthesis are a function's
named-function : (n : ℕ) (b : Base) (s : Option Stars) (x : Name) (at : ℕ) (rest : List Symbol) → named_behind n b (bare s) x (symbol.Sign at signs.OpenParenthesis ∷ rest) ≡ function_behind n (Some b) s x rest
unfolding named_behind begins_sign
named-function n b None x at rest = refl
named-function n b (Some s) x at rest = refl

-- a function's parts behind its result
abbrev Behind : Routine → List Mark → Type 0
Behind f = maybe (stars 0) f.stars · name 0 f.name · between 0 (parameters f.parameters) · body f.body

-- with the stars as a pointer, and what is behind the opening parenthesis together
abbrev Grouped : Routine → List Mark → Type 0
Grouped f = maybe (pointer 0) (bare f.stars) · name 0 f.name · sign 0 signs.OpenParenthesis · Joined (Joined (parameters f.parameters) (sign 0 signs.CloseParenthesis)) (body f.body)

grouped : (f : Routine) (marks : List Mark) → Behind f marks → Grouped f marks
grouped f marks is = record {
  front = is.front;
  back = is.back;
  parts = is.parts;
  first = stars-pointer f.stars is.front is.first;
  second = record { front = is.second.front; back = is.second.back; parts = is.second.parts; first = is.second.first; second = joined-right is.second.second };
}

-- a function with another result
abbrev giving : Option Base → Routine → Routine
giving r f = record { result = r; stars = f.stars; name = f.name; parameters = f.parameters; body = f.body }

declared-function : ExprIsReadBack → ExprBegins → (n : ℕ) (b : Base) (f : Routine) (marks : List Mark) (rest : List Symbol) → Grouped f marks
    → declared_behind n b (symbols_of marks ++ rest) ≡ cut n marks rest (Ok (FunctionDeclared (giving (Some b) f), rest))
unfolding declared_behind
declared-function back begins n b f marks rest j =
    part-then pointer_at _ n rest _ j (pointer-back n 0 (bare f.stars) j.front (symbols_of j.back ++ rest) j.first (name-first-then rest j.second) (omega arith))
    (name-then _ rest _ j.second (omega arith)
    (token-then (named_behind n b (bare f.stars) f.name) rest _ (signed j.second.second) (omega arith)
    (named-function n b f.stars f.name _ _ ∙ function_behind-back back begins n (giving (Some b) f) j.second.second.back rest j.second.second.second)))

-- stars, or none, where a name follows, and what is read behind them
maybe-stars-then : {A : Type 0} {Q : List Mark → Type 0} (limit : ℕ) (s : Option Stars) (marks : List Mark) (rest : List Symbol) (next : Option Stars × List Symbol → Result A Fault) (answer : Result A Fault) (j : Joined (maybe (stars 0) s) Q marks)
    → IsNamed (symbols_of j.back ++ rest)
    → next (s, symbols_of j.back ++ rest) ≡ cut limit j.back rest answer
    → next (stars_at (symbols_of marks ++ rest)) ≡ cut limit marks rest answer
maybe-stars-then limit None marks rest next answer j h k =
    none-then (λ r. next (stars_at r)) limit rest answer j (ap next (stars-none (symbols_of j.back ++ rest) (named-star (symbols_of j.back ++ rest) h)) ∙ k)
maybe-stars-then limit (Some s) marks rest next answer j h k = stars-then limit 0 s marks rest next answer j (named-star (symbols_of j.back ++ rest) h) (omega arith) k

-- behind the stars of a function without a result
abbrev void_named : ℕ → Option Stars × List Symbol → Outcome External
void_named n s = name_at s.1 >>= λ x. behind signs.OpenParenthesis x.1 >>= λ inner. function_behind n None s.0 x.0 inner

void-function : ExprIsReadBack → ExprBegins → (n : ℕ) (f : Routine) (marks : List Mark) (rest : List Symbol) → Behind f marks → void_behind n (symbols_of marks ++ rest) ≡ cut n marks rest (Ok (FunctionDeclared (giving None f), rest))
unfolding void_behind grouped
void-function back begins n f marks rest is =
    let j = (grouped f marks is).second in
    maybe-stars-then n f.stars marks rest (void_named n) _ is (name-first-then rest is.second)
    (name-then _ rest _ j (omega arith)
    (sign-then _ rest _ j.second (omega arith) (function_behind-back back begins n (giving None f) j.second.back rest j.second.second)))

pub function-back : ExprIsReadBack → ExprBegins → (n : ℕ) (f : Routine) (marks : List Mark) (rest : List Symbol) → external (FunctionDeclared f) marks → external_at n (symbols_of marks ++ rest) ≡ cut n marks rest (Ok (FunctionDeclared f, rest))
function-back back begins n f marks rest is = by_result f.result is
  where
    by_result : (r : Option Base) → external (FunctionDeclared (giving r f)) marks → external_at n (symbols_of marks ++ rest) ≡ cut n marks rest (Ok (FunctionDeclared (giving r f), rest))
    by_result None is = let j = joined-left is in void-then n rest _ j (void-function back begins n f j.back rest j.second)
    by_result (Some b) is =
        let j = joined-left is in
        let k = grouped f j.back j.second in
        lead-then n b rest _ j (pointed-declared (bare f.stars) rest k) (declared-function back begins n b f j.back rest k)
