-- An expression that is spelled is read back.
use Rattle.std.specs.Prelude.{◌≡◌, ℕ, zero, suc, ◌+◌, ◌-◌, ◌<◌, ◌≤◌, ◌==◌, ◌&&◌, nat_le, nat_lt, true, false, List, [], ◌∷◌, ◌++◌, length, drop, Option, Result, Ok, Err, if◌then◌else◌}
use Rattle.std.proofs.Common.{refl, sym, ap, subst, ◌∙◌, arith, inl, inr, append_assoc}
use Rattle.std.proofs.lemmas.List.{length-append}
use Rattle.std.proofs.lemmas.Bool.Decides.{eqb_tells, nat_tests}
use Rattle.kt_lex.specs.declared.number.Number.{Number}
use Rattle.kt_grammar.specs.declared.fault.Fault.{Fault}
use Rattle.kt_grammar.specs.declared.keyword.Keyword.TheVariants as keywords
use Rattle.kt_grammar.specs.declared.keyword.RuleWord.{RuleWord}
use Rattle.kt_grammar.specs.declared.keyword.RuleWord.TheVariants as rule
use Rattle.kt_grammar.specs.declared.sign.Sign.{Sign}
use Rattle.kt_grammar.specs.declared.sign.Sign.TheVariants as signs
use Rattle.kt_grammar.specs.declared.symbol.Symbol.{Symbol}
use Rattle.kt_grammar.specs.declared.symbol.Symbol.TheVariants as symbol
use Rattle.kt_grammar.specs.declared.operator.Dialect.{Dialect}
use Rattle.kt_grammar.specs.declared.operator.Dialect.TheVariants.{C, Rules}
use Rattle.kt_grammar.specs.declared.operator.PrefixOperator.{PrefixOperator}
use Rattle.kt_grammar.specs.declared.operator.StepOperator.{StepOperator}
use Rattle.kt_grammar.specs.declared.operator.StepOperator.TheVariants as step
use Rattle.kt_grammar.specs.declared.operator.BinaryOperator.{BinaryOperator}
use Rattle.kt_grammar.specs.declared.operator.AssignOperator.{AssignOperator}
use Rattle.kt_grammar.specs.declared.tree.Name.{Name}
use Rattle.kt_grammar.specs.declared.tree.TypeName.{TypeName}
use Rattle.kt_grammar.specs.declared.tree.Fresh.{Fresh}
use Rattle.kt_grammar.specs.Tree.{Term, Terms, Nothing, More, Constant, Character, Text, Null, Eof, Named, Called, Parenthesised, SizeOf, RuleValue, OldSymbol, Transformed, NewObject, Element, Member, Pointed, Stepped, Prefixed, Converted, Operated, Chosen, Assigned, terms_of}
use Rattle.kt_grammar.specs.Signs.{is_c, precedence, prefix_sign, has_prefix, step_sign, step_of, binary_sign, assign_sign}
use Rattle.kt_grammar.specs.Marks.{Mark, Joined, symbols_of, sign}
use Rattle.kt_grammar.specs.Spelling.{level, links, links_at, is_value, spells, arguments, between, spells_type}
use Rattle.kt_grammar.specs.Cursor.{◌>>=◌, Outcome, begins_sign, behind, name_at, listed_at}
use Rattle.kt_grammar.specs.Reading.{Readers, begins_base, begins_expr, begins_postfix, type_at, between_at, deep, deep_level, more_at, index_at, stepped_at, postfix_at, arguments_at, named_at, old_symbol_at, fresh_at, new_object_at, transform_at, rule_at, primary_at, parenthesis_at, prefixed_at, unary_at, assign_here, chain_at, choice_at, assignment_at, tail_at, climb_at, level_at, deeper, expr_at}
use Rattle.kt_grammar.specs.Laws.{Begins, needs, ExprIsReadBack}
use Rattle.kt_grammar.specs.Cut.{cut}
use Rattle.kt_grammar.specs.CutLaws.{cut-bind, cut-kept, cut-joined, cut-first, cut-token, cut-then, cut-end, cut-none, begins-append, begins-at, symbols_of-rest}
use Rattle.kt_grammar.specs.BackLaws.{closes, needs-closing, sign-back, name-back, type-cut, type-begins, listed-last, listed-more}
use Rattle.kt_grammar.proofs.Beginnings.{expr_begins}
use Rattle.kt_grammar.proofs.NewObjects.{fresh-back}
use Rattle.kt_grammar.proofs.Fronts.{Quiet, quiet, question-quiet, stop, stop-le, stop-mono, stop-above, needs_7, needs-postfix, no_call, no_postfix, nothing_of_base, nothing_closed, needs-binary, needs-assign, needs-question, prefix_of-sign, prefix_sign-closed, assign_of-sign, precedence-bounds, binary_here-low, binary_here-high}
use Rattle.kt_grammar.proofs.Resuming.{after_postfix, after_postfix-step, after_chain, after_chain-none, after_chain-step, operand_at, climbing, resume, resume-postfix, resume-chain, resume-quiet}

-- a token at its depth
abbrev at_depth : ℕ → Symbol → Mark
at_depth d s = record { symbol = s; depth = d }

-- what is spelled is read back, whatever stands behind it that doesn't need more
abbrev pub IsBack : Term → Type 0
IsBack x =
    (g : Dialect) (n d limit least : ℕ) (marks : List Mark) (rest : List Symbol) → d + n ≡ limit → spells g d x marks → least ≤ 8 → least ≤ level x → needs g rest ≤ level x
    → level_at g (deeper g n) least (symbols_of marks ++ rest) ≡ cut limit marks rest (resume g n least (level x) (links x) x rest)

-- ---- operands

-- where nothing goes on behind it, that is all
whole_back : (x : Term) → IsBack x → (g : Dialect) (n d limit least : ℕ) (marks : List Mark) (rest : List Symbol) → d + n ≡ limit → spells g d x marks → least ≤ 8 → least ≤ level x → needs g rest ≤ stop least
    → level_at g (deeper g n) least (symbols_of marks ++ rest) ≡ cut limit marks rest (Ok (x, rest))
unfolding climb_at
whole_back x back g n d limit least marks rest e is low high need =
    let s : stop least ≤ least = stop-le least in
    back g n d limit least marks rest e is low high (omega arith)
    ∙ ap (cut limit marks rest) (resume-quiet g n least 0 (level x) (links x) x rest (omega arith) (omega arith) (λ i a b. quiet g i rest (let t : stop least ≤ stop i = stop-mono least i (omega arith) in omega arith)) (no_postfix g rest (omega arith)))

-- the same one deeper
deep_back : (x : Term) → IsBack x → (g : Dialect) (n d limit least : ℕ) (marks : List Mark) (rest : List Symbol) → d + n ≡ limit → spells g (suc d) x marks → least ≤ 8 → least ≤ level x → needs g rest ≤ stop least
    → deep_level g (deeper g n) least (symbols_of marks ++ rest) ≡ cut limit marks rest (Ok (x, rest))
unfolding deeper
deep_back x back g zero d limit least marks rest e is low high need = cut-none (begins_expr g) limit (suc d) marks rest (Ok (x, rest)) (omega arith) (expr_begins g (suc d) x marks is)
deep_back x back g (suc n) d limit least marks rest e is low high need = whole_back x back g n (suc d) limit least marks rest (omega arith) is low high need

-- ---- unary expressions

level_from : (g : Dialect) (n limit least : ℕ) (marks : List Mark) (rest : List Symbol) (answer : Outcome Term) → unary_at g (deeper g n) (symbols_of marks ++ rest) ≡ cut limit marks rest answer
    → level_at g (deeper g n) least (symbols_of marks ++ rest) ≡ cut limit marks rest (climbing g n least (8 - least) answer)
unfolding level_at
level_from g n limit least marks rest answer h = ap (climbing g n least (8 - least)) h ∙ cut-bind limit marks rest answer (λ y. climb_at g (deeper g n) least (8 - least) y.0 y.1)

from_postfix : (x : Term) (g : Dialect) (n limit least : ℕ) (marks : List Mark) (rest : List Symbol) → 9 ≤ level x
    → unary_at g (deeper g n) (symbols_of marks ++ rest) ≡ cut limit marks rest (after_postfix g n (links x) x rest)
    → level_at g (deeper g n) least (symbols_of marks ++ rest) ≡ cut limit marks rest (resume g n least (level x) (links x) x rest)
from_postfix x g n limit least marks rest high h =
    level_from g n limit least marks rest (after_postfix g n (links x) x rest) h ∙ ap (cut limit marks rest) (sym (resume-postfix g n least (level x) (links x) x rest high))

from_unary : (x : Term) (g : Dialect) (n limit least : ℕ) (marks : List Mark) (rest : List Symbol) → unary_at g (deeper g n) (symbols_of marks ++ rest) ≡ cut limit marks rest (Ok (x, rest))
    → level_at g (deeper g n) least (symbols_of marks ++ rest) ≡ cut limit marks rest (resume g n least 8 0 x rest)
from_unary x g n limit least marks rest h =
    level_from g n limit least marks rest (Ok (x, rest)) h
    ∙ ap (λ a. cut limit marks rest (climbing g n least (8 - least) a)) (sym (after_chain-none g n 0 8 x rest (binary_here-high 8 rest (omega arith))))

bind_pair : (read : Outcome Term) → (read >>= λ x. Ok (x.0, x.1)) ≡ read
bind_pair (Ok x) = refl
bind_pair (Err e) = refl

level_8 : (g : Dialect) (r : Option Readers) (symbols : List Symbol) → level_at g r 8 symbols ≡ unary_at g r symbols
unfolding level_at climb_at
level_8 g r symbols = bind_pair (unary_at g r symbols)

climb_8 : (g : Dialect) (n : ℕ) (read : Outcome Term) → climbing g n 8 (8 - 8) read ≡ read
unfolding climb_at
climb_8 g n read = bind_pair read

-- an expression of the highest level, and more postfix operators
postfix_back : (x : Term) → IsBack x → (g : Dialect) (n d limit : ℕ) (marks : List Mark) (rest : List Symbol) → d + n ≡ limit → spells g d x marks → 9 ≤ level x → begins_postfix g rest ≡ true
    → unary_at g (deeper g n) (symbols_of marks ++ rest) ≡ cut limit marks rest (after_postfix g n (links x) x rest)
postfix_back x back g n d limit marks rest e is high follows =
    let need : needs g rest ≡ 9 = needs-postfix g rest follows in
    sym (level_8 g (deeper g n) (symbols_of marks ++ rest)) ∙ back g n d limit 8 marks rest e is (omega arith) (omega arith) (omega arith)
    ∙ ap (cut limit marks rest) (resume-postfix g n 8 (level x) (links x) x rest high ∙ climb_8 g n (after_postfix g n (links x) x rest))

-- ---- primary expressions of one token

constant_back : (at : ℕ) (k : Number) → IsBack (Constant at k)
unfolding unary_at primary_at
constant_back at k g n d limit least marks rest e is low high need =
    from_postfix (Constant at k) g n limit least marks rest (omega arith) (cut-token (unary_at g (deeper g n)) limit d (symbol.Number at k) marks rest (after_postfix g n 0 (Constant at k) rest) is (omega arith) refl)

character_back : (at b : ℕ) → IsBack (Character at b)
unfolding unary_at primary_at
character_back at b g n d limit least marks rest e is low high need =
    from_postfix (Character at b) g n limit least marks rest (omega arith) (cut-token (unary_at g (deeper g n)) limit d (symbol.Character at b) marks rest (after_postfix g n 0 (Character at b) rest) is (omega arith) refl)

text_back : (at : ℕ) (bytes : List ℕ) → IsBack (Text at bytes)
unfolding unary_at primary_at
text_back at bytes C n d limit least marks rest e is low high need =
    from_postfix (Text at bytes) C n limit least marks rest (omega arith) (cut-token (unary_at C (deeper C n)) limit d (symbol.Text at bytes) marks rest (after_postfix C n 0 (Text at bytes) rest) is.1 (omega arith) refl)
text_back at bytes Rules n d limit least marks rest e is low high need = let c = is.0 in absurd cc

null_back : (at : ℕ) → IsBack (Null at)
unfolding unary_at primary_at
null_back at g n d limit least marks rest e is low high need =
    from_postfix (Null at) g n limit least marks rest (omega arith) (cut-token (unary_at g (deeper g n)) limit d (symbol.Keyword at keywords.Null) marks rest (after_postfix g n 0 (Null at) rest) is (omega arith) refl)

eof_back : (at : ℕ) → IsBack (Eof at)
unfolding unary_at primary_at
eof_back at g n d limit least marks rest e is low high need =
    from_postfix (Eof at) g n limit least marks rest (omega arith) (cut-token (unary_at g (deeper g n)) limit d (symbol.Keyword at keywords.Eof) marks rest (after_postfix g n 0 (Eof at) rest) is (omega arith) refl)

value-at : (r : Option Readers) (at : ℕ) (word : RuleWord) (rest : List Symbol) → is_value word ≡ true → rule_at Rules r at word rest ≡ Ok (RuleValue at word, rest)
unfolding rule_at
value-at r at rule.In rest h = refl
value-at r at rule.Out rest h = refl
value-at r at rule.Base rest h = refl
value-at r at _ rest h = absurd cc

value_back : (at : ℕ) (word : RuleWord) → IsBack (RuleValue at word)
unfolding unary_at primary_at
value_back at word C n d limit least marks rest e is low high need = let c = is.0 in absurd cc
value_back at word Rules n d limit least marks rest e is low high need =
    from_postfix (RuleValue at word) Rules n limit least marks rest (omega arith)
    (cut-token (unary_at Rules (deeper Rules n)) limit d (symbol.RuleWord at word) marks rest (after_postfix Rules n 0 (RuleValue at word) rest) is.1.1 (omega arith)
    (ap (λ a. a >>= λ x. postfix_at Rules (deeper Rules n) x.0 x.1) (value-at (deeper Rules n) at word rest is.1.0)))

named-at : (g : Dialect) (r : Option Readers) (n : Name) (symbols : List Symbol) → (is_c g && begins_sign signs.OpenParenthesis symbols) ≡ false → named_at g r n symbols ≡ Ok (Named n, symbols)
unfolding named_at
named-at g r n symbols h = ap (λ b. if b then (arguments_at g r (drop 1 symbols) >>= λ args. Ok (Called n (terms_of args.0), args.1)) else Ok (Named n, symbols)) h

named_back : (n : Name) → IsBack (Named n)
unfolding unary_at primary_at
named_back name g n d limit least marks rest e is low high need =
    from_postfix (Named name) g n limit least marks rest (omega arith)
    (cut-token (unary_at g (deeper g n)) limit d (symbol.Name name.at name.word) marks rest (after_postfix g n 0 (Named name) rest) is (omega arith)
    (ap (λ a. a >>= λ x. postfix_at g (deeper g n) x.0 x.1) (named-at g (deeper g n) name rest (no_call g rest need))))

-- ---- primary expressions in parentheses

-- the parts, with a sign as the first of the back
sign_parts : (d : ℕ) (s : Sign) (B : List Mark → Type 0) (marks front back : List Mark) → marks ≡ front ++ back → (j : Joined (sign d s) B back) → marks ≡ front ++ (at_depth d (symbol.Sign j.first.0 s) ∷ j.back)
sign_parts d s B marks front back parts j = parts ∙ ap (λ b. front ++ b) (j.parts ∙ ap (λ f. f ++ j.back) j.first.1)

-- a sign that is all of the back
last_sign_parts : (d : ℕ) (s : Sign) (marks front back : List Mark) → marks ≡ front ++ back → (j : sign d s back) → marks ≡ front ++ (at_depth d (symbol.Sign j.0 s) ∷ [])
last_sign_parts d s marks front back parts j = parts ∙ ap (λ b. front ++ b) j.1

-- an expression, a closing sign, and what comes then
closed_back : {B : Type 0} (x : Term) → IsBack x → (g : Dialect) (n d limit e : ℕ) (close : Sign) (marks front back : List Mark) (rest : List Symbol) (next : Term → List Symbol → Result B Fault) (answer : Result B Fault)
    → d + n ≡ limit → e ≤ limit → closes close ≡ true → marks ≡ front ++ back → spells g (suc d) x front → sign e close back → next x rest ≡ answer
    → (deep_level g (deeper g n) 0 (symbols_of marks ++ rest) >>= λ a. behind close a.1 >>= λ rest. next a.0 rest) ≡ cut limit marks rest answer
closed_back x back g n d limit e close marks front last rest next answer sum low closing parts is at_end after =
    let follows : needs g (symbols_of last ++ rest) ≡ 0 = ap (λ m. needs g (symbols_of m ++ rest)) at_end.1 ∙ needs-closing g at_end.0 close rest closing in
    cut-then (deep_level g (deeper g n) 0) (λ a. behind close a.1 >>= λ rest. next a.0 rest) limit marks front last rest (x, symbols_of last ++ rest) answer parts
    (deep_back x back g n d limit 0 front (symbols_of last ++ rest) sum is (omega arith) (omega arith) (omega arith))
    (cut-end (behind close) (next x) limit last rest rest answer (sign-back limit e close last rest at_end low) after)

parenthesised_back : (at : ℕ) (a : Term) → IsBack a → IsBack (Parenthesised at a)
unfolding unary_at parenthesis_at
parenthesised_back at a back g n d limit least marks rest e is low high need =
    let inner = is.second in
    let nothing : begins_base (symbols_of is.back ++ rest) ≡ false =
    nothing_of_base g (symbols_of is.back ++ rest)
    (begins-at (λ s. begins_expr g s ≡ true) (suc d) is.back rest (begins-append (λ s. begins_expr g s ≡ true) (suc d) is.back inner.front inner.back inner.parts (expr_begins g (suc d) a inner.front inner.first))) in
    from_postfix (Parenthesised at a) g n limit least marks rest (omega arith)
    (cut-first (unary_at g (deeper g n)) limit d (symbol.Sign at signs.OpenParenthesis) marks is.front is.back rest (after_postfix g n 0 (Parenthesised at a) rest) is.parts is.first (omega arith)
    (rw (nothing) (closed_back a back g n d limit d signs.CloseParenthesis is.back inner.front inner.back rest (λ a rest. postfix_at g (deeper g n) (Parenthesised at a) rest) (after_postfix g n 0 (Parenthesised at a) rest) e (omega arith) refl inner.parts inner.first inner.second refl)))

-- a type name, a closing parenthesis, and what comes then
type_closed : {B : Type 0} (limit d : ℕ) (t : TypeName) (marks front close back : List Mark) (rest : List Symbol) (next : TypeName → List Symbol → Result B Fault) (answer : Result B Fault)
    → d ≤ limit → marks ≡ front ++ (close ++ back) → spells_type d t front → sign d signs.CloseParenthesis close → next t (symbols_of back ++ rest) ≡ cut limit back rest answer
    → (type_at (symbols_of marks ++ rest) >>= λ t. behind signs.CloseParenthesis t.1 >>= λ rest. next t.0 rest) ≡ cut limit marks rest answer
unfolding begins_sign
type_closed limit d t marks front close back rest next answer low parts is ends after =
    let no_star : begins_sign signs.Star (symbols_of (close ++ back) ++ rest) ≡ false = ap (λ m. begins_sign signs.Star (symbols_of (m ++ back) ++ rest)) ends.1 in
    cut-then type_at (λ t. behind signs.CloseParenthesis t.1 >>= λ rest. next t.0 rest) limit marks front (close ++ back) rest (t, symbols_of (close ++ back) ++ rest) answer parts
    (type-cut limit d t front (symbols_of (close ++ back) ++ rest) is no_star low)
    (cut-then (behind signs.CloseParenthesis) (next t) limit (close ++ back) close back rest (symbols_of back ++ rest) answer refl (sign-back limit d signs.CloseParenthesis close (symbols_of back ++ rest) ends low) after)

between_back : (limit d : ℕ) (t : TypeName) (marks : List Mark) (rest : List Symbol) → d ≤ limit → between d (spells_type d t) marks → between_at (symbols_of marks ++ rest) ≡ cut limit marks rest (Ok (t, rest))
between_back limit d t marks rest low is =
    let inner = is.second in
    cut-then (behind signs.OpenParenthesis) (λ inner. type_at inner >>= λ t. behind signs.CloseParenthesis t.1 >>= λ rest. Ok (t.0, rest)) limit marks is.front is.back rest (symbols_of is.back ++ rest) (Ok (t, rest)) is.parts
    (sign-back limit d signs.OpenParenthesis is.front (symbols_of is.back ++ rest) is.first low)
    (type_closed limit d t is.back inner.front (at_depth d (symbol.Sign inner.second.0 signs.CloseParenthesis) ∷ []) [] rest (λ t rest. Ok (t, rest)) (Ok (t, rest)) low
    (last_sign_parts d signs.CloseParenthesis is.back inner.front inner.back inner.parts inner.second) inner.first (inner.second.0, refl) refl)

size_back : (at : ℕ) (type : TypeName) → IsBack (SizeOf at type)
unfolding unary_at primary_at
size_back at type Rules n d limit least marks rest e is low high need = let c = is.0 in absurd cc
size_back at type C n d limit least marks rest e is low high need =
    from_postfix (SizeOf at type) C n limit least marks rest (omega arith)
    (cut-first (unary_at C (deeper C n)) limit d (symbol.Keyword at keywords.SizeOf) marks is.1.front is.1.back rest (after_postfix C n 0 (SizeOf at type) rest) is.1.parts is.1.first (omega arith)
    (cut-end (λ s. between_at s >>= λ t. Ok (SizeOf at t.0, t.1)) (λ x. postfix_at C (deeper C n) x.0 x.1) limit is.1.back rest (SizeOf at type, rest) (after_postfix C n 0 (SizeOf at type) rest)
    (cut-end between_at (λ t. Ok (SizeOf at t.0, t.1)) limit is.1.back rest (type, rest) (Ok (SizeOf at type, rest)) (between_back limit d type is.1.back rest (omega arith) is.1.second) refl) refl))

old_symbol_back : (at : ℕ) (name : Name) → IsBack (OldSymbol at name)
unfolding unary_at primary_at rule_at old_symbol_at
old_symbol_back at name C n d limit least marks rest e is low high need = let c = is.0 in absurd cc
old_symbol_back at name Rules n d limit least marks rest e is low high need =
    let j = is.1.second in let k = j.second in
    from_postfix (OldSymbol at name) Rules n limit least marks rest (omega arith)
    (cut-first (unary_at Rules (deeper Rules n)) limit d (symbol.RuleWord at rule.OldSymbol) marks is.1.front is.1.back rest (after_postfix Rules n 0 (OldSymbol at name) rest) is.1.parts is.1.first (omega arith)
    (cut-end (old_symbol_at at) (λ x. postfix_at Rules (deeper Rules n) x.0 x.1) limit is.1.back rest (OldSymbol at name, rest) (after_postfix Rules n 0 (OldSymbol at name) rest)
    (cut-then (behind signs.OpenParenthesis) (λ inner. name_at inner >>= λ n. behind signs.CloseParenthesis n.1 >>= λ rest. Ok (OldSymbol at n.0, rest)) limit is.1.back j.front j.back rest (symbols_of j.back ++ rest) (Ok (OldSymbol at name, rest)) j.parts
    (sign-back limit d signs.OpenParenthesis j.front (symbols_of j.back ++ rest) j.first (omega arith))
    (cut-then name_at (λ n. behind signs.CloseParenthesis n.1 >>= λ rest. Ok (OldSymbol at n.0, rest)) limit j.back k.front k.back rest (name, symbols_of k.back ++ rest) (Ok (OldSymbol at name, rest)) k.parts
    (name-back limit d name k.front (symbols_of k.back ++ rest) k.first (omega arith))
    (cut-end (behind signs.CloseParenthesis) (λ rest. Ok (OldSymbol at name, rest)) limit k.back rest rest (Ok (OldSymbol at name, rest)) (sign-back limit d signs.CloseParenthesis k.back rest k.second (omega arith)) refl))) refl))

new_object_back : (at : ℕ) (fresh : Fresh) → IsBack (NewObject at fresh)
unfolding unary_at primary_at rule_at new_object_at
new_object_back at fresh C n d limit least marks rest e is low high need = let c = is.0 in absurd cc
new_object_back at fresh Rules n d limit least marks rest e is low high need =
    let j = is.1.second in let k = j.second in
    from_postfix (NewObject at fresh) Rules n limit least marks rest (omega arith)
    (cut-first (unary_at Rules (deeper Rules n)) limit d (symbol.RuleWord at rule.New) marks is.1.front is.1.back rest (after_postfix Rules n 0 (NewObject at fresh) rest) is.1.parts is.1.first (omega arith)
    (cut-end (new_object_at at) (λ x. postfix_at Rules (deeper Rules n) x.0 x.1) limit is.1.back rest (NewObject at fresh, rest) (after_postfix Rules n 0 (NewObject at fresh) rest)
    (cut-then (behind signs.OpenParenthesis) (λ inner. fresh_at inner >>= λ n. behind signs.CloseParenthesis n.1 >>= λ rest. Ok (NewObject at n.0, rest)) limit is.1.back j.front j.back rest (symbols_of j.back ++ rest) (Ok (NewObject at fresh, rest)) j.parts
    (sign-back limit d signs.OpenParenthesis j.front (symbols_of j.back ++ rest) j.first (omega arith))
    (cut-then fresh_at (λ n. behind signs.CloseParenthesis n.1 >>= λ rest. Ok (NewObject at n.0, rest)) limit j.back k.front k.back rest (fresh, symbols_of k.back ++ rest) (Ok (NewObject at fresh, rest)) k.parts
    (fresh-back limit d fresh k.front (symbols_of k.back ++ rest) k.first (omega arith))
    (cut-end (behind signs.CloseParenthesis) (λ rest. Ok (NewObject at fresh, rest)) limit k.back rest rest (Ok (NewObject at fresh, rest)) (sign-back limit d signs.CloseParenthesis k.back rest k.second (omega arith)) refl))) refl))

transformed_back : (at : ℕ) (a : Term) → IsBack a → IsBack (Transformed at a)
unfolding unary_at primary_at rule_at transform_at
transformed_back at a back C n d limit least marks rest e is low high need = let c = is.0 in absurd cc
transformed_back at a back Rules n d limit least marks rest e is low high need =
    let j = is.1.second in let k = j.second in
    from_postfix (Transformed at a) Rules n limit least marks rest (omega arith)
    (cut-first (unary_at Rules (deeper Rules n)) limit d (symbol.RuleWord at rule.Transform) marks is.1.front is.1.back rest (after_postfix Rules n 0 (Transformed at a) rest) is.1.parts is.1.first (omega arith)
    (cut-end (transform_at Rules (deeper Rules n) at) (λ x. postfix_at Rules (deeper Rules n) x.0 x.1) limit is.1.back rest (Transformed at a, rest) (after_postfix Rules n 0 (Transformed at a) rest)
    (cut-then (behind signs.OpenParenthesis) (λ inner. deep_level Rules (deeper Rules n) 0 inner >>= λ a. behind signs.CloseParenthesis a.1 >>= λ rest. Ok (Transformed at a.0, rest)) limit is.1.back j.front j.back rest (symbols_of j.back ++ rest) (Ok (Transformed at a, rest)) j.parts
    (sign-back limit d signs.OpenParenthesis j.front (symbols_of j.back ++ rest) j.first (omega arith))
    (closed_back a back Rules n d limit d signs.CloseParenthesis j.back k.front k.back rest (λ a rest. Ok (Transformed at a, rest)) (Ok (Transformed at a, rest)) e (omega arith) refl k.parts k.first k.second refl)) refl))

-- ---- prefix operators and casts

nat_lt-is : (n m : ℕ) → nat_lt n m ≡ true → n < m
nat_lt-is n m h = grind (arith, nat_tests)

nat_le-is : (n m : ℕ) → nat_le n m ≡ true → n ≤ m
nat_le-is n m h = grind (arith, nat_tests)

unary-prefix : (g : Dialect) (r : Option Readers) (at : ℕ) (op : PrefixOperator) (symbols : List Symbol) → has_prefix g op ≡ true
    → unary_at g r (symbol.Sign at (prefix_sign op) ∷ symbols) ≡ (deep_level g r 8 symbols >>= λ a. Ok (Prefixed at op a.0, a.1))
unfolding unary_at prefixed_at
unary-prefix g r at op symbols h = rw (prefix_sign-closed op, prefix_of-sign g op h) refl

prefixed_back : (at : ℕ) (op : PrefixOperator) (a : Term) → IsBack a → IsBack (Prefixed at op a)
prefixed_back at op a back g n d limit least marks rest e is low high need =
    let j = is.1.1 in
    let lvl : 8 ≤ level a = nat_le-is 8 (level a) is.1.0 in
    from_unary (Prefixed at op a) g n limit least marks rest
    (cut-first (unary_at g (deeper g n)) limit d (symbol.Sign at (prefix_sign op)) marks j.front j.back rest (Ok (Prefixed at op a, rest)) j.parts j.first (omega arith)
    (unary-prefix g (deeper g n) at op (symbols_of j.back ++ rest) is.0
    ∙ cut-end (deep_level g (deeper g n) 8) (λ a. Ok (Prefixed at op a.0, a.1)) limit j.back rest (a, rest) (Ok (Prefixed at op a, rest)) (deep_back a back g n d limit 8 j.back rest e j.second (omega arith) lvl (needs_7 g rest need)) refl))

converted_back : (at : ℕ) (type : TypeName) (a : Term) → IsBack a → IsBack (Converted at type a)
unfolding unary_at parenthesis_at
converted_back at type a back g n d limit least marks rest e is low high need =
    let j = is.1 in let k = j.second in let l = k.second in
    let lvl : 8 ≤ level a = nat_le-is 8 (level a) is.0 in
    let based : begins_base (symbols_of j.back ++ rest) ≡ true =
    begins-at (λ s. begins_base s ≡ true) d j.back rest (begins-append (λ s. begins_base s ≡ true) d j.back k.front k.back k.parts (type-begins d type k.front k.first)) in
    from_unary (Converted at type a) g n limit least marks rest
    (cut-first (unary_at g (deeper g n)) limit d (symbol.Sign at signs.OpenParenthesis) marks j.front j.back rest (Ok (Converted at type a, rest)) j.parts j.first (omega arith)
    (rw (based) (type_closed limit d type j.back k.front l.front l.back rest (λ t rest. deep_level g (deeper g n) 8 rest >>= λ a. Ok (Converted at t a.0, a.1)) (Ok (Converted at type a, rest)) (omega arith)
    (k.parts ∙ ap (λ b. k.front ++ b) l.parts) k.first l.first
    (cut-end (deep_level g (deeper g n) 8) (λ a. Ok (Converted at type a.0, a.1)) limit l.back rest (a, rest) (Ok (Converted at type a, rest)) (deep_back a back g n d limit 8 l.back rest e l.second (omega arith) lvl (needs_7 g rest need)) refl))))

-- ---- postfix operators

-- an expression, and a postfix operator that begins with this sign
chained_back : (a x : Term) → IsBack a → (g : Dialect) (n d limit least : ℕ) (s : Symbol) (marks front back : List Mark) (rest : List Symbol) → d + n ≡ limit → 9 ≤ level a → 9 ≤ level x → links x ≡ suc (links a)
    → marks ≡ front ++ (at_depth (d + links a) s ∷ back) → spells g d a front → ((rest : List Symbol) → begins_postfix g (s ∷ rest) ≡ true)
    → ((m : ℕ) → d + links a + m ≡ limit → postfix_at g (deeper g m) a (s ∷ (symbols_of back ++ rest)) ≡ cut limit back rest (more_at g (deeper g m) x rest))
    → level_at g (deeper g n) least (symbols_of marks ++ rest) ≡ cut limit marks rest (resume g n least (level x) (links x) x rest)
chained_back a x back_a g n d limit least s marks front back rest e high_a high_x more parts is begins read =
    from_postfix x g n limit least marks rest high_x
    (cut-joined (unary_at g (deeper g n)) limit marks front (at_depth (d + links a) s ∷ back) rest (after_postfix g n (links x) x rest) parts
    (postfix_back a back_a g n d limit front (s ∷ (symbols_of back ++ rest)) e is high_a (begins (symbols_of back ++ rest))
    ∙ ap (cut limit front (s ∷ (symbols_of back ++ rest)))
    (after_postfix-step g n (links a) limit (d + links a) s back rest a x (omega arith) (begins (symbols_of back ++ rest)) (λ m f. read m (omega arith))
    ∙ ap (λ k. cut limit (at_depth (d + links a) s ∷ back) rest (after_postfix g n k x rest)) (sym more))))

element_back : (a i : Term) → IsBack a → IsBack i → IsBack (Element a i)
unfolding postfix_at index_at begins_postfix
element_back a i back_a back_i g n d limit least marks rest e is low high need =
    let j = is.1 in let k = j.second in let l = k.second in
    chained_back a (Element a i) back_a g n d limit least (symbol.Sign k.first.0 signs.OpenBracket) marks j.front k.back rest e (nat_le-is 9 (level a) is.0) (omega arith) refl
    (sign_parts (d + links a) signs.OpenBracket _ marks j.front j.back j.parts k) j.first (λ rest. refl)
    (λ m f. closed_back i back_i g m (d + links a) limit (d + links a) signs.CloseBracket k.back l.front l.back rest (λ i rest. more_at g (deeper g m) (Element a i) rest) (more_at g (deeper g m) (Element a i) rest) f (omega arith) refl l.parts l.first l.second refl)

member_back : (a : Term) (f : Name) → IsBack a → IsBack (Member a f)
unfolding postfix_at begins_postfix
member_back a f back_a g n d limit least marks rest e is low high need =
    let j = is.1 in let k = j.second in
    chained_back a (Member a f) back_a g n d limit least (symbol.Sign k.first.0 signs.Dot) marks j.front k.back rest e (nat_le-is 9 (level a) is.0) (omega arith) refl
    (sign_parts (d + links a) signs.Dot _ marks j.front j.back j.parts k) j.first (λ rest. refl)
    (λ m t. cut-end name_at (λ n. more_at g (deeper g m) (Member a n.0) n.1) limit k.back rest (f, rest) (more_at g (deeper g m) (Member a f) rest) (name-back limit (d + links a) f k.back rest k.second (omega arith)) refl)

pointed_back : (a : Term) (f : Name) → IsBack a → IsBack (Pointed a f)
unfolding postfix_at begins_postfix
pointed_back a f back_a g n d limit least marks rest e is low high need =
    let j = is.1 in let k = j.second in
    chained_back a (Pointed a f) back_a g n d limit least (symbol.Sign k.first.0 signs.Arrow) marks j.front k.back rest e (nat_le-is 9 (level a) is.0) (omega arith) refl
    (sign_parts (d + links a) signs.Arrow _ marks j.front j.back j.parts k) j.first (λ rest. refl)
    (λ m t. cut-end name_at (λ n. more_at g (deeper g m) (Pointed a n.0) n.1) limit k.back rest (f, rest) (more_at g (deeper g m) (Pointed a f) rest) (name-back limit (d + links a) f k.back rest k.second (omega arith)) refl)

postfix-step : (r : Option Readers) (a : Term) (op : StepOperator) (at : ℕ) (rest : List Symbol) → postfix_at C r a (symbol.Sign at (step_sign op) ∷ rest) ≡ more_at C r (Stepped a op) rest
unfolding postfix_at stepped_at step_of
postfix-step r a step.Increment at rest = refl
postfix-step r a step.Decrement at rest = refl

step-begins : (op : StepOperator) (at : ℕ) (rest : List Symbol) → begins_postfix C (symbol.Sign at (step_sign op) ∷ rest) ≡ true
unfolding begins_postfix step_of
step-begins step.Increment at rest = refl
step-begins step.Decrement at rest = refl

stepped_back : (a : Term) (op : StepOperator) → IsBack a → IsBack (Stepped a op)
stepped_back a op back_a Rules n d limit least marks rest e is low high need = let c = is.0 in absurd cc
stepped_back a op back_a C n d limit least marks rest e is low high need =
    let j = is.1.1 in let k = j.second in
    chained_back a (Stepped a op) back_a C n d limit least (symbol.Sign k.0 (step_sign op)) marks j.front [] rest e (nat_le-is 9 (level a) is.1.0) (omega arith) refl
    (last_sign_parts (d + links a) (step_sign op) marks j.front j.back j.parts k) j.first (step-begins op k.0)
    (λ m t. postfix-step (deeper C m) a op k.0 rest)

-- ---- binary operators

tail-chain : (g : Dialect) (r : Option Readers) (l : ℕ) (x : Term) (symbols : List Symbol) → 2 ≤ l → tail_at g r l x symbols ≡ chain_at g r l x symbols
unfolding tail_at
tail-chain g r zero x symbols h = absurd (omega arith)
tail-chain g r (suc zero) x symbols h = absurd (omega arith)
tail-chain g r (suc (suc l)) x symbols h = refl

-- behind an expression of a higher level climbing goes on at a level
arrive_above : (g : Dialect) (n least l k p : ℕ) (x : Term) (symbols : List Symbol) → least ≤ p → p < l → p ≤ 7 → ((i : ℕ) → p < i → Quiet g i symbols) → begins_postfix g symbols ≡ false
    → resume g n least l k x symbols ≡ climbing g n least (p - least) (tail_at g (deeper g n) p x symbols)
unfolding climb_at
arrive_above g n least l k p x symbols low above high quiet none =
    let e : least + (p - least) ≡ p = omega arith in
    resume-quiet g n least (suc (p - least)) l k x symbols (omega arith) (omega arith) (λ i a b. quiet i (omega arith)) none
    ∙ ap (λ t. climbing g n least (p - least) (tail_at g (deeper g n) t x symbols)) e

-- behind an expression of no lower level climbing goes on at a level of binary operators
arrive : (g : Dialect) (n least l k p : ℕ) (x : Term) (symbols : List Symbol) → least ≤ p → p ≤ l → 2 ≤ p → p ≤ 7 → ((i : ℕ) → p < i → Quiet g i symbols) → begins_postfix g symbols ≡ false
    → resume g n least l k x symbols ≡ climbing g n least (p - least) (after_chain g n (if l == p then k else 0) p x symbols)
arrive g n least l k p x symbols low le from to quiet none = elim (eqb_tells l p) as (λ _. resume g n least l k x symbols ≡ climbing g n least (p - least) (after_chain g n (if l == p then k else 0) p x symbols)) [
  | inl same ↦ resume-chain g n least l k x symbols (let s = same.1 in omega arith)
      ∙ ap (λ l. climbing g n least (l - least) (after_chain g n k l x symbols)) same.1
      ∙ sym (ap (λ b. climbing g n least (p - least) (after_chain g n (if b then k else 0) p x symbols)) same.0)
  | inr other ↦ arrive_above g n least l k p x symbols low (let o = other.1 in omega arith) to quiet none
      ∙ ap (climbing g n least (p - least)) (tail-chain g (deeper g n) p x symbols from)
      ∙ sym (ap (λ b. climbing g n least (p - least) (after_chain g n (if b then k else 0) p x symbols)) other.0)
]

-- the right operand of a binary operator, where so much more may be opened
right_back : (g : Dialect) (m d limit : ℕ) (op : BinaryOperator) (a b : Term) (marks : List Mark) (rest : List Symbol) → IsBack b → d + m ≡ limit → spells g (suc d) b marks → precedence op < level b → needs g rest ≤ precedence op
    → operand_at g (deeper g m) (precedence op) op a (symbols_of marks ++ rest) ≡ cut limit marks rest (after_chain g m 1 (precedence op) (Operated op a b) rest)
unfolding deeper
right_back g zero d limit op a b marks rest back e is high need =
    cut-none (begins_expr g) limit (suc d) marks rest (after_chain g 0 1 (precedence op) (Operated op a b) rest) (omega arith) (expr_begins g (suc d) b marks is)
right_back g (suc m) d limit op a b marks rest back e is high need =
    cut-end (level_at g (deeper g m) (suc (precedence op))) (λ y. chain_at g (deeper g m) (precedence op) (Operated op a y.0) y.1) limit marks rest (b, rest) (after_chain g m 0 (precedence op) (Operated op a b) rest)
    (let p = precedence-bounds op in let p1 = p.1 in let p0 = p.0 in
    let s : needs g rest ≤ stop (suc (precedence op)) = (let t = stop-above (precedence op) (suc (precedence op)) (omega arith) p0 in omega arith) in
    whole_back b back g m (suc d) limit (suc (precedence op)) marks rest (omega arith) is (omega arith) (omega arith) s) refl

operated_back : (op : BinaryOperator) (a b : Term) → IsBack a → IsBack b → IsBack (Operated op a b)
operated_back op a b back_a back_b g n d limit least marks rest e is low high need =
    let j = is.1.1 in let k = j.second in let p = precedence op in
    let bounds = precedence-bounds op in let p0 = bounds.0 in let p1 = bounds.1 in
    let le : p ≤ level a = nat_le-is p (level a) is.0 in
    let lt : p < level b = nat_lt-is p (level b) is.1.0 in
    let s = symbol.Sign k.first.0 (binary_sign op) in
    let behind = s ∷ (symbols_of k.back ++ rest) in
    let depth = d + links_at p a in
    let needed : needs g behind ≡ p = needs-binary g op k.first.0 (symbols_of k.back ++ rest) in
    cut-joined (level_at g (deeper g n) least) limit marks j.front (at_depth depth s ∷ k.back) rest (resume g n least p (suc (links_at p a)) (Operated op a b) rest)
    (sign_parts depth (binary_sign op) _ marks j.front j.back j.parts k)
    (back_a g n d limit least j.front behind e j.first low (omega arith) (omega arith)
    ∙ ap (cut limit j.front behind)
    (arrive g n least (level a) (links a) p a behind high le p0 p1 (λ i above. quiet g i behind (let t = stop-above p i above p0 in omega arith)) (no_postfix g behind (omega arith))
    ∙ ap (climbing g n least (p - least)) (after_chain-step g n (links_at p a) limit depth op k.first.0 k.back rest a (Operated op a b) (omega arith) (λ m f. right_back g m depth limit op a b k.back rest back_b (omega arith) k.second lt need))
    ∙ cut-bind limit (at_depth depth s ∷ k.back) rest (after_chain g n (suc (links_at p a)) p (Operated op a b) rest) (λ y. climb_at g (deeper g n) least (p - least) y.0 y.1)
    ∙ ap (cut limit (at_depth depth s ∷ k.back) rest) (sym (resume-chain g n least p (suc (links_at p a)) (Operated op a b) rest (omega arith)))))

-- ---- choice and assignment

-- an expression, an operator of a level below those of binary operators, and what comes then
low_back : (a x : Term) (p : ℕ) → IsBack a → (g : Dialect) (n d limit least : ℕ) (s : Symbol) (marks front back : List Mark) (rest : List Symbol) → d + n ≡ limit → least ≤ p → p ≤ 1 → p < level a
    → needs g (s ∷ (symbols_of back ++ rest)) ≤ level a → ((i : ℕ) → p < i → Quiet g i (s ∷ (symbols_of back ++ rest))) → needs g (s ∷ (symbols_of back ++ rest)) ≤ 8
    → marks ≡ front ++ (at_depth d s ∷ back) → spells g d a front
    → tail_at g (deeper g n) p a (s ∷ (symbols_of back ++ rest)) ≡ cut limit back rest (Ok (x, rest))
    → level_at g (deeper g n) least (symbols_of marks ++ rest) ≡ cut limit marks rest (resume g n least p 0 x rest)
low_back a x p back_a g n d limit least s marks front back rest e low few above need quiet none parts is read =
    let behind = s ∷ (symbols_of back ++ rest) in
    let m = at_depth d s ∷ back in
    cut-joined (level_at g (deeper g n) least) limit marks front m rest (resume g n least p 0 x rest) parts
    (back_a g n d limit least front behind e is (omega arith) (omega arith) need
    ∙ ap (cut limit front behind)
    (arrive_above g n least (level a) (links a) p a behind low above (omega arith) quiet (no_postfix g behind none)
    ∙ ap (climbing g n least (p - least)) (read ∙ sym (cut-kept limit (at_depth d s) back rest (Ok (x, rest)) (omega arith)))
    ∙ cut-bind limit m rest (Ok (x, rest)) (λ y. climb_at g (deeper g n) least (p - least) y.0 y.1)
    ∙ ap (λ o. cut limit m rest (climbing g n least (p - least) o)) (sym (after_chain-none g n 0 p x rest (binary_here-low p rest few)))
    ∙ ap (cut limit m rest) (sym (resume-chain g n least p 0 x rest (omega arith)))))

chosen_back : (c a b : Term) → IsBack c → IsBack a → IsBack b → IsBack (Chosen c a b)
unfolding tail_at choice_at begins_sign
chosen_back c a b back_c back_a back_b g n d limit least marks rest e is low high need =
    let j = is.1.1 in let k = j.second in let l = k.second in let m = l.second in
    let condition : 2 ≤ level c = nat_le-is 2 (level c) is.0 in
    let other : 1 ≤ level b = nat_le-is 1 (level b) is.1.0 in
    let needed : needs g (symbol.Sign k.first.0 signs.Question ∷ (symbols_of k.back ++ rest)) ≡ 2 = needs-question g k.first.0 (symbols_of k.back ++ rest) in
    let colon : needs g (symbols_of l.back ++ rest) ≡ 0 =
    ap (λ b. needs g (symbols_of b ++ rest)) (m.parts ∙ ap (λ f. f ++ m.back) m.first.1) ∙ needs-closing g m.first.0 signs.Colon (symbols_of m.back ++ rest) refl in
    low_back c (Chosen c a b) 1 back_c g n d limit least (symbol.Sign k.first.0 signs.Question) marks j.front k.back rest e high (omega arith) (omega arith) (omega arith)
    (λ i above. question-quiet g i k.first.0 (symbols_of k.back ++ rest) (omega arith)) (omega arith) (sign_parts d signs.Question _ marks j.front j.back j.parts k) j.first
    (cut-then (deep_level g (deeper g n) 0) (λ a. behind signs.Colon a.1 >>= λ rest. deep_level g (deeper g n) 1 rest >>= λ b. Ok (Chosen c a.0 b.0, b.1)) limit k.back l.front l.back rest (a, symbols_of l.back ++ rest) (Ok (Chosen c a b, rest)) l.parts
    (deep_back a back_a g n d limit 0 l.front (symbols_of l.back ++ rest) e l.first (omega arith) (omega arith) (omega arith))
    (cut-then (behind signs.Colon) (λ rest. deep_level g (deeper g n) 1 rest >>= λ b. Ok (Chosen c a b.0, b.1)) limit l.back m.front m.back rest (symbols_of m.back ++ rest) (Ok (Chosen c a b, rest)) m.parts
    (sign-back limit d signs.Colon m.front (symbols_of m.back ++ rest) m.first (omega arith))
    (cut-end (deep_level g (deeper g n) 1) (λ b. Ok (Chosen c a b.0, b.1)) limit m.back rest (b, rest) (Ok (Chosen c a b, rest)) (deep_back b back_b g n d limit 1 m.back rest e m.second (omega arith) other need) refl)))

assignment-step : (r : Option Readers) (op : AssignOperator) (a : Term) (at : ℕ) (rest : List Symbol)
    → tail_at C r 0 a (symbol.Sign at (assign_sign op) ∷ rest) ≡ (deep_level C r 0 rest >>= λ y. Ok (Assigned op a y.0, y.1))
unfolding tail_at assignment_at assign_here
assignment-step r op a at rest = rw (assign_of-sign C op refl, assignment_at) refl

assigned_back : (op : AssignOperator) (a b : Term) → IsBack a → IsBack b → IsBack (Assigned op a b)
assigned_back op a b back_a back_b Rules n d limit least marks rest e is low high need = let c = is.0 in absurd cc
assigned_back op a b back_a back_b C n d limit least marks rest e is low high need =
    let j = is.1.1 in let k = j.second in
    let left : 1 ≤ level a = nat_le-is 1 (level a) is.1.0 in
    let behind = symbol.Sign k.first.0 (assign_sign op) ∷ (symbols_of k.back ++ rest) in
    let needed : needs C behind ≡ 1 = needs-assign C op k.first.0 (symbols_of k.back ++ rest) refl in
    low_back a (Assigned op a b) 0 back_a C n d limit least (symbol.Sign k.first.0 (assign_sign op)) marks j.front k.back rest e high (omega arith) left (omega arith)
    (λ i above. quiet C i behind (let t : stop 1 ≤ stop i = stop-mono 1 i above in omega arith)) (omega arith) (sign_parts d (assign_sign op) _ marks j.front j.back j.parts k) j.first
    (assignment-step (deeper C n) op a k.first.0 (symbols_of k.back ++ rest)
    ∙ cut-end (deep_level C (deeper C n) 0) (λ y. Ok (Assigned op a y.0, y.1)) limit k.back rest (b, rest) (Ok (Assigned op a b, rest)) (deep_back b back_b C n d limit 0 k.back rest e k.second (omega arith) (omega arith) need) refl)

-- ---- calls

-- arguments as a list
abbrev list_of : Terms → List Term
list_of Nothing = []
list_of (More a rest) = a ∷ list_of rest

terms_of-list : (args : Terms) → terms_of (list_of args) ≡ args
terms_of-list Nothing = refl
terms_of-list (More a rest) = ap (More a) (terms_of-list rest)

-- each argument is read back
abbrev pub AreBack : Terms → Type 0
AreBack Nothing = Unit {0}
AreBack (More a rest) = IsBack a × AreBack rest

arguments_begin : (g : Dialect) (d : ℕ) (a : Term) (more : Terms) (marks : List Mark) → arguments g d (More a more) marks → Begins (λ s. begins_expr g s ≡ true) d marks
arguments_begin g d a Nothing marks is = expr_begins g d a marks is
arguments_begin g d a (More b more) marks is = begins-append (λ s. begins_expr g s ≡ true) d marks is.front is.back is.parts (expr_begins g d a is.front is.first)

-- behind arguments
record Follows (g : Dialect) (rest : List Symbol) : Type 0 where
  need : needs g rest ≡ 0
  no_comma : begins_sign signs.Comma rest ≡ false
  some : 1 ≤ length rest

listed_back : (more : Terms) (a : Term) → IsBack a → AreBack more → (g : Dialect) (n d limit count : ℕ) (done : List Term) (marks : List Mark) (rest : List Symbol) → d + n ≡ limit → arguments g d (More a more) marks → Follows g rest
    → length (symbols_of marks ++ rest) ≤ count
    → listed_at (level_at g (deeper g n) 0) count done (symbols_of marks ++ rest) ≡ cut limit marks rest (Ok (done ++ list_of (More a more), rest))
listed_back more a back_a all g n d limit zero done marks rest e is follows enough = let l = symbols_of-rest marks rest in let s = follows.some in absurd (omega arith)
listed_back Nothing a back_a all g n d limit (suc count) done marks rest e is follows enough =
    let need = follows.need in
    listed-last (level_at g (deeper g n) 0) count done limit marks rest a follows.no_comma (whole_back a back_a g n d limit 0 marks rest e is (omega arith) (omega arith) (omega arith))
listed_back (More b more) a back_a all g n d limit (suc count) done marks rest e is follows enough =
    let j = is.second in
    let back = symbols_of (j.front ++ j.back) ++ rest in
    let parts : marks ≡ is.front ++ (j.front ++ j.back) = is.parts ∙ ap (λ b. is.front ++ b) j.parts in
    let comma : needs g back ≡ 0 = ap (λ c. needs g (symbols_of (c ++ j.back) ++ rest)) j.first.1 ∙ needs-closing g j.first.0 signs.Comma (symbols_of j.back ++ rest) refl in
    let shorter : length (symbols_of j.back ++ rest) ≤ count =
    (let l0 = symbols_of-rest marks rest in let l1 = symbols_of-rest j.back rest in
    let l2 : length marks ≡ length is.front + length (j.front ++ j.back) = ap length parts ∙ length-append is.front (j.front ++ j.back) in
    let l3 : length (j.front ++ j.back) ≡ suc (length j.back) = ap (λ c. length (c ++ j.back)) j.first.1 in omega arith) in
    listed-more (level_at g (deeper g n) 0) count done limit d marks is.front j.front j.back rest a (Ok (done ++ list_of (More a (More b more)), rest)) parts j.first (omega arith)
    (whole_back a back_a g n d limit 0 is.front back e is.first (omega arith) (omega arith) (omega arith))
    (listed_back more b all.0 all.1 g n d limit count (done ++ a ∷ []) j.back rest e j.second follows shorter
    ∙ ap (λ l. cut limit j.back rest (Ok (l, rest))) (append_assoc done (a ∷ []) (list_of (More b more))))

deep_listed : (more : Terms) (a : Term) → IsBack a → AreBack more → (g : Dialect) (n d limit : ℕ) (marks : List Mark) (rest : List Symbol) → d + n ≡ limit → arguments g (suc d) (More a more) marks → Follows g rest
    → deep (deeper g n) (begins_expr g) (λ r. listed_at (r.level 0) (length (symbols_of marks ++ rest)) []) (symbols_of marks ++ rest) ≡ cut limit marks rest (Ok (list_of (More a more), rest))
unfolding deeper
deep_listed more a back_a all g zero d limit marks rest e is follows =
    cut-none (begins_expr g) limit (suc d) marks rest (Ok (list_of (More a more), rest)) (omega arith) (arguments_begin g (suc d) a more marks is)
deep_listed more a back_a all g (suc n) d limit marks rest e is follows =
    listed_back more a back_a all g n (suc d) limit (length (symbols_of marks ++ rest)) [] marks rest (omega arith) is follows (omega arith)

close_follows : (g : Dialect) (d : ℕ) (marks : List Mark) (rest : List Symbol) → sign d signs.CloseParenthesis marks → Follows g (symbols_of marks ++ rest)
unfolding begins_sign
close_follows g d marks rest is =
    subst (λ m. Follows g (symbols_of m ++ rest)) (sym is.1) (record { need = needs-closing g is.0 signs.CloseParenthesis rest refl; no_comma = refl; some = omega arith })

-- arguments and their closing parenthesis
arguments_back : (args : Terms) → AreBack args → (g : Dialect) (n d limit : ℕ) (marks front close : List Mark) (rest : List Symbol) → d + n ≡ limit → marks ≡ front ++ close → arguments g (suc d) args front → sign d signs.CloseParenthesis close
    → arguments_at g (deeper g n) (symbols_of marks ++ rest) ≡ cut limit marks rest (Ok (list_of args, rest))
unfolding arguments_at begins_sign
arguments_back Nothing all g n d limit marks front close rest e parts is ends =
    cut-token (arguments_at g (deeper g n)) limit d (symbol.Sign ends.0 signs.CloseParenthesis) marks rest (Ok ([], rest)) (parts ∙ ap (λ f. f ++ close) is ∙ ends.1) (omega arith) refl
arguments_back (More a more) all g n d limit marks front close rest e parts is ends =
    let open_still : begins_sign signs.CloseParenthesis (symbols_of marks ++ rest) ≡ false =
    nothing_closed g (symbols_of marks ++ rest)
    (begins-at (λ s. begins_expr g s ≡ true) (suc d) marks rest (begins-append (λ s. begins_expr g s ≡ true) (suc d) marks front close parts (arguments_begin g (suc d) a more front is))) in
    rw (open_still, arguments_at)
    (cut-then (λ s. deep (deeper g n) (begins_expr g) (λ r. listed_at (r.level 0) (length s) []) s) (λ args. behind signs.CloseParenthesis args.1 >>= λ rest. Ok (args.0, rest)) limit marks front close rest
    (list_of (More a more), symbols_of close ++ rest) (Ok (list_of (More a more), rest)) parts
    (deep_listed more a all.0 all.1 g n d limit front (symbols_of close ++ rest) e is (close_follows g d close rest ends))
    (cut-end (behind signs.CloseParenthesis) (λ rest. Ok (list_of (More a more), rest)) limit close rest rest (Ok (list_of (More a more), rest)) (sign-back limit d signs.CloseParenthesis close rest ends (omega arith)) refl))

called_back : (name : Name) (args : Terms) → AreBack args → IsBack (Called name args)
unfolding unary_at primary_at named_at begins_sign
called_back name args all Rules n d limit least marks rest e is low high need = let c = is.0 in absurd cc
called_back name args all C n d limit least marks rest e is low high need =
    let j = is.1 in let k = j.second in let l = k.second in
    from_postfix (Called name args) C n limit least marks rest (omega arith)
    (cut-first (unary_at C (deeper C n)) limit d (symbol.Name name.at name.word) marks j.front j.back rest (after_postfix C n 0 (Called name args) rest) j.parts j.first (omega arith)
    (cut-first (λ s. unary_at C (deeper C n) (symbol.Name name.at name.word ∷ s)) limit d (symbol.Sign k.first.0 signs.OpenParenthesis) j.back k.front k.back rest (after_postfix C n 0 (Called name args) rest) k.parts k.first.1 (omega arith)
    (cut-end (λ s. arguments_at C (deeper C n) s >>= λ args. Ok (Called name (terms_of args.0), args.1)) (λ x. postfix_at C (deeper C n) x.0 x.1) limit k.back rest (Called name args, rest) (after_postfix C n 0 (Called name args) rest)
    (cut-end (arguments_at C (deeper C n)) (λ args. Ok (Called name (terms_of args.0), args.1)) limit k.back rest (list_of args, rest) (Ok (Called name args, rest))
    (arguments_back args all C n d limit k.back l.front l.back rest e l.parts l.first l.second) (ap (λ t. Ok (Called name t, rest)) (terms_of-list args))) refl)))

-- ---- every expression

mutual
  pub back : (x : Term) → IsBack x
  back (Constant at n) = constant_back at n
  back (Character at b) = character_back at b
  back (Text at bytes) = text_back at bytes
  back (Null at) = null_back at
  back (Eof at) = eof_back at
  back (Named n) = named_back n
  back (Called n args) = called_back n args (all_back args)
  back (Parenthesised at a) = parenthesised_back at a (back a)
  back (SizeOf at type) = size_back at type
  back (RuleValue at word) = value_back at word
  back (OldSymbol at n) = old_symbol_back at n
  back (NewObject at f) = new_object_back at f
  back (Transformed at a) = transformed_back at a (back a)
  back (Element a i) = element_back a i (back a) (back i)
  back (Member a f) = member_back a f (back a)
  back (Pointed a f) = pointed_back a f (back a)
  back (Stepped a op) = stepped_back a op (back a)
  back (Prefixed at op a) = prefixed_back at op a (back a)
  back (Converted at type a) = converted_back at type a (back a)
  back (Operated op a b) = operated_back op a b (back a) (back b)
  back (Chosen c a b) = chosen_back c a b (back c) (back a) (back b)
  back (Assigned op a b) = assigned_back op a b (back a) (back b)

  all_back : (args : Terms) → AreBack args
  all_back Nothing = tt
  all_back (More a rest) = (back a, all_back rest)

-- an expression that is spelled is read back, unless a token of it is too deep
pub expr_is_read_back : ExprIsReadBack
unfolding expr_at
expr_is_read_back g n d x marks rest is need = whole_back x (back x) g n d (d + n) 0 marks rest refl is (omega arith) (omega arith) (omega arith)
