-- Globals that are spelled are read back.
use Rattle.std.specs.Prelude.{◌≡◌, ℕ, ◌≤◌, false, List, [], ◌∷◌, ◌++◌, length, drop, Option, Some, None, Ok, if◌then◌else◌}
use Rattle.std.proofs.Common.{refl, sym, subst, ◌∙◌, arith}
use Rattle.kt_lex.specs.declared.number.Number.{Number}
use Rattle.kt_grammar.specs.declared.sign.Sign.TheVariants as signs
use Rattle.kt_grammar.specs.declared.symbol.Symbol.{Symbol}
use Rattle.kt_grammar.specs.declared.symbol.Symbol.TheVariants as symbol
use Rattle.kt_grammar.specs.declared.tree.Base.{Base}
use Rattle.kt_grammar.specs.declared.tree.Name.{Name}
use Rattle.kt_grammar.specs.Marks.{Mark, Joined, ◌·◌, symbols_of, sign, name}
use Rattle.kt_grammar.specs.Cursor.{◌>>=◌, Outcome, begins_sign, behind, listed_at}
use Rattle.kt_grammar.specs.Cut.{cut}
use Rattle.kt_grammar.specs.CutLaws.{cut-joined}
use Rattle.kt_syntax.specs.declared.tree.Stars.{Stars}
use Rattle.kt_syntax.specs.declared.tree.Pointer.{Pointer}
use Rattle.kt_syntax.specs.declared.tree.Constant.{Constant}
use Rattle.kt_syntax.specs.declared.tree.GlobalDeclarator.{GlobalDeclarator}
use Rattle.kt_syntax.specs.Tree.{External, GlobalsDeclared}
use Rattle.kt_syntax.specs.Spelling.{separated, maybe, stars, pointer, count, constant_spelling, global, external}
use Rattle.kt_syntax.specs.Reading.{pointer_at, global_behind, global_at, function_behind, globals_behind, bare_stars, named_behind, declared_behind, external_at}
use Rattle.kt_syntax.proofs.Parts.{part-then, part-end, sign-end, name-then, token-then, token-end, signed, first-end, first-then, first-joined, joined-left, joined-right}
use Rattle.kt_syntax.proofs.Declarators.{name-first-then, IsEnded, ended-comma, ended-semicolon, pointer-back, global_parts, global_behind-back, global-back}
use Rattle.kt_syntax.proofs.Lists.{joined-length, IsItem, separated-back}
use Rattle.kt_syntax.proofs.Leading.{IsDeclared, lead-then}
use Rattle.kt_syntax.proofs.Structs.{front-within, declarator-some}

-- ---- what declarators begin with

-- what holds of symbols that begin with a star or a name
pointed-first : {R : List Mark → Type 0} {d : ℕ} {x : Name} {marks : List Mark} (p : Option Pointer) (P : List Symbol → Type 0) (rest : List Symbol)
    → ((at : ℕ) (r : List Symbol) → P (symbol.Sign at signs.Star ∷ r)) → ((at : ℕ) (word : List ℕ) (r : List Symbol) → P (symbol.Name at word ∷ r))
    → Joined (maybe (pointer d) p) (Joined (name d x) R) marks → P (symbols_of marks ++ rest)
pointed-first None P rest star named j =
    first-joined P rest j (subst (λ m. P (symbols_of m ++ (symbols_of j.back ++ rest))) (sym j.first) (first-then P rest j.second (named _ _ _)))
pointed-first (Some p) P rest star named j = first-joined P rest j (first-joined P (symbols_of j.back ++ rest) j.first (first-then P (symbols_of j.first.back ++ (symbols_of j.back ++ rest)) j.first.first.1 (star _ _)))

-- it is no semicolon and no brace
pub pointed-declared : {R : List Mark → Type 0} {d : ℕ} {x : Name} {marks : List Mark} (p : Option Pointer) (rest : List Symbol) → Joined (maybe (pointer d) p) (Joined (name d x) R) marks → IsDeclared (symbols_of marks ++ rest)
unfolding begins_sign
pointed-declared p rest j = pointed-first p IsDeclared rest (λ at r. record { semicolon = refl; brace = refl }) (λ at word r. record { semicolon = refl; brace = refl }) j

-- ---- globals

global-some : (d : ℕ) (g : GlobalDeclarator) (marks : List Mark) → global d g marks → 1 ≤ length marks
global-some d g marks is = let a = joined-length is in let b = declarator-some d g.declarator is.front is.first in omega arith

global-item : (limit : ℕ) → IsItem (global 0) global_at IsEnded limit
global-item limit = record { comma = ended-comma; some = global-some 0; back = λ g marks rest is ends. global-back limit 0 g marks rest is ends (omega arith) }

-- what follows a global's name is no parenthesis
tail-parenthesis : (d : ℕ) (c : Option Number) (i : Option Constant) (marks : List Mark) (rest : List Symbol) → Joined (maybe (count d) c) (maybe (λ c. sign d signs.Assign · constant_spelling d c) i) marks
    → begins_sign signs.OpenParenthesis rest ≡ false → begins_sign signs.OpenParenthesis (symbols_of marks ++ rest) ≡ false
unfolding begins_sign
tail-parenthesis d (Some c) i marks rest j h =
    first-joined (λ r. begins_sign signs.OpenParenthesis r ≡ false) rest j (first-then (λ r. begins_sign signs.OpenParenthesis r ≡ false) (symbols_of j.back ++ rest) (signed j.first) refl)
tail-parenthesis d None (Some c) marks rest j h =
    first-joined (λ r. begins_sign signs.OpenParenthesis r ≡ false) rest j
    (subst (λ m. begins_sign signs.OpenParenthesis (symbols_of m ++ (symbols_of j.back ++ rest)) ≡ false) (sym j.first) (first-then (λ r. begins_sign signs.OpenParenthesis r ≡ false) rest (signed j.second) refl))
tail-parenthesis d None None marks rest j h =
    first-joined (λ r. begins_sign signs.OpenParenthesis r ≡ false) rest j
    (subst (λ m. begins_sign signs.OpenParenthesis (symbols_of m ++ (symbols_of j.back ++ rest)) ≡ false) (sym j.first)
    (subst (λ m. begins_sign signs.OpenParenthesis (symbols_of m ++ rest) ≡ false) (sym j.second) h))

-- where no parenthesis follows the name there are globals
named-global : (n : ℕ) (b : Base) (p : Option Pointer) (x : Name) (symbols : List Symbol) → begins_sign signs.OpenParenthesis symbols ≡ false
    → named_behind n b p x symbols ≡ (global_behind p x symbols >>= λ g. globals_behind b g.0 g.1)
unfolding named_behind
named-global n b p x symbols h = whichever (bare_stars p)
  where
    whichever : (o : Option (Option Stars)) → (elim o as (λ _. Outcome External) [
      | None ↦ global_behind p x symbols >>= λ g. globals_behind b g.0 g.1
      | (Some stars) ↦ if begins_sign signs.OpenParenthesis symbols then function_behind n (Some b) stars x (drop 1 symbols)
          else (global_behind p x symbols >>= λ g. globals_behind b g.0 g.1)
    ])
        ≡ (global_behind p x symbols >>= λ g. globals_behind b g.0 g.1)
    whichever None = refl
    whichever (Some stars) = rw h refl

-- the first global, and the others behind it
first-global : (n : ℕ) (b : Base) (g : GlobalDeclarator) (marks : List Mark) (rest : List Symbol) (answer : Outcome External) → global 0 g marks → IsEnded rest → begins_sign signs.OpenParenthesis rest ≡ false
    → globals_behind b g rest ≡ answer
    → declared_behind n b (symbols_of marks ++ rest) ≡ cut n marks rest answer
unfolding declared_behind
first-global n b g marks rest answer is ends h k =
    let j = global_parts 0 g marks is in
    part-then pointer_at _ n rest _ j (pointer-back n 0 g.declarator.pointer j.front (symbols_of j.back ++ rest) j.first (name-first-then rest j.second) (omega arith))
    (name-then _ rest _ j.second (omega arith)
    (named-global n b g.declarator.pointer g.declarator.name (symbols_of j.second.back ++ rest) (tail-parenthesis 0 g.declarator.count g.initial j.second.back rest j.second.second h)
    ∙ part-end (global_behind g.declarator.pointer g.declarator.name) _ n j.second.back rest (global_behind-back n 0 g j.second.back rest j.second.second ends (omega arith)) k))

declared-globals : (n : ℕ) (b : Base) (gs : List GlobalDeclarator) (marks : List Mark) (rest : List Symbol) → Joined (separated 0 (global 0) gs) (sign 0 signs.Semicolon) marks
    → declared_behind n b (symbols_of marks ++ rest) ≡ cut n marks rest (Ok (GlobalsDeclared b gs, rest))
unfolding globals_behind begins_sign behind
declared-globals n b [] marks rest is = absurd is.first
declared-globals n b (g ∷ []) marks rest is =
    cut-joined (declared_behind n b) n marks is.front is.back rest _ is.parts
    (first-global n b g is.front (symbols_of is.back ++ rest) _ is.first (first-end IsEnded rest is.second.1 (ended-semicolon _ _)) (first-end (λ r. begins_sign signs.OpenParenthesis r ≡ false) rest is.second.1 refl)
    (token-end (globals_behind b g) rest _ is.second.1 (omega arith) refl))
declared-globals n b (g ∷ h ∷ gs) marks rest is =
    let j = joined-right is in
    let k = joined-right j.second in
    cut-joined (declared_behind n b) n marks j.front j.back rest _ j.parts
    (first-global n b g j.front (symbols_of j.back ++ rest) _ j.first (first-then IsEnded rest (signed k) (ended-comma _ _)) (first-then (λ r. begins_sign signs.OpenParenthesis r ≡ false) rest (signed k) refl)
    (token-then (globals_behind b g) rest _ (signed k) (omega arith)
    (part-then (listed_at global_at (length (symbol.Sign k.first.0 signs.Comma ∷ (symbols_of k.back ++ rest))) (g ∷ [])) _ n rest _ k.second
    (separated-back (global 0) global_at IsEnded n 0 (global-item n) (omega arith) (h ∷ gs) (length (symbol.Sign k.first.0 signs.Comma ∷ (symbols_of k.back ++ rest))) (g ∷ []) k.second.front (symbols_of k.second.back ++ rest) k.second.first
    (first-end IsEnded rest k.second.second.1 (ended-semicolon _ _)) (first-end (λ r. begins_sign signs.Comma r ≡ false) rest k.second.second.1 refl)
    (let a = front-within k.second rest in omega arith))
    (sign-end _ k.second.second (omega arith) refl))))

globals-declared : (b : Base) (gs : List GlobalDeclarator) (marks : List Mark) (rest : List Symbol) → Joined (separated 0 (global 0) gs) (sign 0 signs.Semicolon) marks → IsDeclared (symbols_of marks ++ rest)
globals-declared b [] marks rest is = absurd is.first
globals-declared b (g ∷ []) marks rest is = first-joined IsDeclared rest is (pointed-declared g.declarator.pointer (symbols_of is.back ++ rest) (global_parts 0 g is.front is.first))
globals-declared b (g ∷ h ∷ gs) marks rest is =
    let j = joined-right is in first-joined IsDeclared rest j (pointed-declared g.declarator.pointer (symbols_of j.back ++ rest) (global_parts 0 g j.front j.first))

pub globals-back : (n : ℕ) (b : Base) (gs : List GlobalDeclarator) (marks : List Mark) (rest : List Symbol) → external (GlobalsDeclared b gs) marks → external_at n (symbols_of marks ++ rest) ≡ cut n marks rest (Ok (GlobalsDeclared b gs, rest))
globals-back n b gs marks rest is =
    let j = joined-left is in
    lead-then n b rest _ j (globals-declared b gs j.back rest j.second) (declared-globals n b gs j.back rest j.second)
