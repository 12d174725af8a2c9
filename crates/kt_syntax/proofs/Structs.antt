-- Structs that are spelled are read back.
use Rattle.std.specs.Prelude.{◌≡◌, ℕ, ◌≤◌, true, false, List, [], ◌∷◌, ◌++◌, length, drop, Ok, if◌then◌else◌}
use Rattle.std.proofs.Common.{refl, arith}
use Rattle.kt_grammar.specs.declared.sign.Sign.TheVariants as signs
use Rattle.kt_grammar.specs.declared.symbol.Symbol.{Symbol}
use Rattle.kt_grammar.specs.declared.tree.Base.TheVariants as base
use Rattle.kt_grammar.specs.declared.tree.Name.{Name}
use Rattle.kt_grammar.specs.Marks.{Mark, Joined, ◌·◌, symbols_of, sign}
use Rattle.kt_grammar.specs.Cursor.{◌>>=◌, Outcome, begins_sign, behind, listed_at, until_at}
use Rattle.kt_grammar.specs.Reading.{begins_base}
use Rattle.kt_grammar.specs.Cut.{cut}
use Rattle.kt_grammar.specs.CutLaws.{begins-at, begins-append}
use Rattle.kt_grammar.specs.BackLaws.{base-begins}
use Rattle.kt_syntax.specs.declared.tree.Declarator.{Declarator}
use Rattle.kt_syntax.specs.declared.tree.Fields.{Fields}
use Rattle.kt_syntax.specs.Tree.{External, StructMentioned, StructDefined}
use Rattle.kt_syntax.specs.Spelling.{each, declarator, fields, external}
use Rattle.kt_syntax.specs.Reading.{declarator_at, fields_at, declared_behind, struct_behind, struct_at, external_at}
use Rattle.kt_syntax.proofs.Parts.{part-then, sign-end, name-then, base-then, token-then, token-end, signed, worded, first-end, first-then, joined-right}
use Rattle.kt_syntax.proofs.Declarators.{IsEnded, ended-comma, ended-semicolon, declarator-back}
use Rattle.kt_syntax.proofs.Lists.{joined-length, token-length, IsItem, separated-back, IsTurn, each-back}
use Rattle.kt_syntax.proofs.Fronts.{no_truth, base-entry, entry-close}
use Rattle.kt_syntax.proofs.Phrases.{length-within}

pub declarator-some : (d : ℕ) (x : Declarator) (marks : List Mark) → declarator d x marks → 1 ≤ length marks
declarator-some d x marks is = let a = joined-length is in let b = joined-length is.second in let c = token-length is.second.first in omega arith

declarator-item : (limit d : ℕ) → d ≤ limit → IsItem (declarator d) declarator_at IsEnded limit
declarator-item limit d low = record { comma = ended-comma; some = declarator-some d; back = λ x marks rest is ends. declarator-back limit d x marks rest is ends.bracket low }

-- a front has no more tokens than there are symbols
pub front-within : {P Q : List Mark → Type 0} {marks : List Mark} (j : Joined P Q marks) (rest : List Symbol) → length j.front ≤ length (symbols_of marks ++ rest)
front-within {marks = marks} j rest = let a = joined-length j in let b = length-within marks rest in omega arith

fields-back : (limit d : ℕ) (f : Fields) (marks : List Mark) (rest : List Symbol) → fields d f marks → d ≤ limit → fields_at (symbols_of marks ++ rest) ≡ cut limit marks rest (Ok (f, rest))
unfolding fields_at begins_sign
fields-back limit d f marks rest is low =
    let j = is.second in
    base-then _ rest _ is low
    (part-then (listed_at declarator_at (length (symbols_of is.back ++ rest)) []) _ limit rest _ j
    (separated-back (declarator d) declarator_at IsEnded limit d (declarator-item limit d low) low f.declarators (length (symbols_of is.back ++ rest)) [] j.front (symbols_of j.back ++ rest) j.first
    (first-end IsEnded rest j.second.1 (ended-semicolon _ _)) (first-end (λ r. begins_sign signs.Comma r ≡ false) rest j.second.1 refl) (front-within j rest))
    (sign-end _ j.second low refl))

fields-some : (f : Fields) (marks : List Mark) → fields 0 f marks → 1 ≤ length marks
fields-some f marks is = let a = joined-length is in let b = joined-length is.second in let c = token-length is.second.second.1 in omega arith

fields-first : (f : Fields) (marks : List Mark) (rest : List Symbol) → fields 0 f marks → begins_sign signs.CloseBrace (symbols_of marks ++ rest) ≡ false
fields-first f marks rest is =
    entry-close (symbols_of marks ++ rest) (base-entry (symbols_of marks ++ rest)
    (begins-at (λ symbols. begins_base symbols ≡ true) 0 marks rest (begins-append (λ symbols. begins_base symbols ≡ true) 0 marks is.front is.back is.parts (base-begins 0 f.base is.front is.first))))

fields-turn : (limit : ℕ) → IsTurn (fields 0) fields_at (begins_sign signs.CloseBrace) limit
fields-turn limit = record { some = fields-some; first = fields-first; back = λ f marks rest is. fields-back limit 0 f marks rest is (omega arith) }

struct_behind-back : (n : ℕ) (x : Name) (f : Fields) (fs : List Fields) (marks : List Mark) (rest : List Symbol) → Joined (each (fields 0) (f ∷ fs)) (sign 0 signs.CloseBrace · sign 0 signs.Semicolon) marks
    → struct_behind x (symbols_of marks ++ rest) ≡ cut n marks rest (Ok (StructDefined x (f ∷ fs), rest))
unfolding struct_behind begins_sign
struct_behind-back n x f fs marks rest is =
    let j = joined-right is in
    let k = j.second in
    let l = k.second in
    part-then fields_at _ n rest _ j (fields-back n 0 f j.front (symbols_of j.back ++ rest) j.first (omega arith))
    (part-then (until_at (begins_sign signs.CloseBrace) fields_at (length (symbols_of j.back ++ rest)) (f ∷ [])) _ n rest _ k
    (each-back (fields 0) fields_at (begins_sign signs.CloseBrace) n (fields-turn n) fs (length (symbols_of j.back ++ rest)) (f ∷ []) k.front (symbols_of k.back ++ rest) k.first
    (first-then (λ r. begins_sign signs.CloseBrace r ≡ true) rest (signed l) refl) (front-within k rest))
    (token-then (λ s. behind signs.Semicolon (drop 1 s) >>= λ r. the_struct x (f ∷ fs) r) rest _ (signed l) (omega arith) (sign-end _ l.second (omega arith) refl)))
  where
    the_struct : Name → List Fields → List Symbol → Outcome External
    the_struct x fs r = Ok (StructDefined x fs, r)

-- what stands behind the name of a struct
abbrev named_struct : ℕ → Name → List Symbol → Outcome External
named_struct n x symbols =
    if begins_sign signs.Semicolon symbols then Ok (StructMentioned x, drop 1 symbols)
    else (if begins_sign signs.OpenBrace symbols then struct_behind x (drop 1 symbols)
    else declared_behind n (base.Struct x) symbols)

pub mentioned-back : (n : ℕ) (x : Name) (marks : List Mark) (rest : List Symbol) → external (StructMentioned x) marks → external_at n (symbols_of marks ++ rest) ≡ cut n marks rest (Ok (StructMentioned x, rest))
unfolding external_at struct_at begins_sign
mentioned-back n x marks rest is =
    token-then (external_at n) rest _ (worded is) (omega arith)
    (name-then (λ x. named_struct n x.0 x.1) rest _ is.second (omega arith)
    (token-end (named_struct n x) rest _ is.second.second.1 (omega arith) refl))

pub defined-back : (n : ℕ) (x : Name) (fs : List Fields) (marks : List Mark) (rest : List Symbol) → external (StructDefined x fs) marks → external_at n (symbols_of marks ++ rest) ≡ cut n marks rest (Ok (StructDefined x fs, rest))
unfolding external_at struct_at begins_sign
defined-back n x [] marks rest is = no_truth is.0
defined-back n x (f ∷ fs) marks rest is =
    let j = is.1 in
    let k = j.second in
    token-then (external_at n) rest _ (worded j) (omega arith)
    (name-then (λ x. named_struct n x.0 x.1) rest _ k (omega arith)
    (token-then (named_struct n x) rest _ (signed k.second) (omega arith) (struct_behind-back n x f fs k.second.back rest k.second.second)))
