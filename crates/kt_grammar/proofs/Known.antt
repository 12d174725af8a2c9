-- Each token of a file stands for something: its spelling is one of its kind.
use Rattle.std.proofs.Common.{◌≡◌, ℕ, ◌+◌, ◌-◌, ◌<◌, Bool, true, false, ◌&&◌, ◌||◌, cond, ◌⊎◌, inl, inr, List, [], ◌∷◌, ◌++◌, map, length, take, drop, Option, Some, None, refl, sym, ap, ◌∙◌, subst, append_assoc, arith}
use Rattle.std.specs.Prelude.{flat_map, not}
use Rattle.std.specs.Option.{is_some}
use Rattle.std.specs.List.{AllByRecursion, list_all}
use Rattle.std.specs.Str.{bytes_eq}
use Rattle.std.proofs.lemmas.List.{drop_at, take_at}
use Rattle.std.proofs.lemmas.Slice.Eq.{bytes_eq-Decides}
use Rattle.kt_lex.specs.declared.token.Kind.{Kind}
use Rattle.kt_lex.specs.declared.token.Kind.TheVariants as kind
use Rattle.kt_lex.specs.declared.token.Token.{Token}
use Rattle.kt_lex.specs.Bytes.{is_word_byte, dollar}
use Rattle.kt_lex.specs.Words.{is_among, keywords, rule_words, signs_of_one, signs_of_two}
use Rattle.kt_lex.specs.Cover.{signs, IsName, IsSpelling, Part, Between, Spelled, AreParts, spelling_of, tokens_at, TokensAreCut}
use Rattle.kt_grammar.specs.declared.symbol.Symbol.{Symbol}
use Rattle.kt_grammar.specs.declared.symbol.Symbol.TheVariants as symbol
use Rattle.kt_grammar.specs.Identifiers.{is_identifier}
use Rattle.kt_grammar.specs.Symbols.{or_other, keyword_of, rule_word_of, sign_of, bracket_of, operator_of, before_equal, doubled, sign_of_two, spelled, symbol_of}
use Rattle.kt_grammar.specs.Symbols.{spelling_of as spelling_in}
use Rattle.kt_grammar.specs.StandsLaws.{both_true}
use Rattle.kt_grammar.specs.Known.{IsKnown, TokensAreKnown}
use Rattle.kt_grammar.proofs.Words.{keyword_of-some}

-- one of two tests passed
either : (a b : Bool) → (a || b) ≡ true → (a ≡ true) ⊎ (b ≡ true)
either true b h = inl refl
either false b h = inr h

-- a test that each word of a list passes, one that is among them passes
among : (p : List ℕ → Bool) (words : List (List ℕ)) (word : List ℕ) → list_all p words ≡ true → is_among words word ≡ true → p word ≡ true
unfolding is_among
among p [] word each found = cc
among p (w ∷ words) word each found =
    let parts = both_true (p w) (list_all p words) each in
    elim (either (bytes_eq w word) (is_among words word) found) as (λ _. p word ≡ true) [
      | inl same ↦ subst (λ u. p u ≡ true) ((bytes_eq-Decides w word).0 same) parts.0
      | inr later ↦ among p words word parts.1 later
    ]

-- each sign stands for one
known_sign : (word : List ℕ) → is_among signs word ≡ true → is_some (sign_of word) ≡ true
unfolding signs signs_of_one signs_of_two sign_of bracket_of operator_of before_equal doubled sign_of_two
known_sign word found = among (λ w. is_some (sign_of w)) signs word refl found

-- each rule word stands for one
known_rule_word : (word : List ℕ) → is_among rule_words word ≡ true → is_some (rule_word_of (dollar ∷ word)) ≡ true
unfolding rule_words rule_word_of
known_rule_word word found = among (λ w. is_some (rule_word_of (dollar ∷ w))) rule_words word refl found

-- bytes that pass a test each
all_pass : (p : ℕ → Bool) (bytes : List ℕ) → AllByRecursion (λ b. p b ≡ true) bytes → list_all p bytes ≡ true
all_pass p [] each = refl
all_pass p (b ∷ bytes) each = ap (λ t. t && list_all p bytes) each.0 ∙ all_pass p bytes each.1

-- a name that is no keyword is an identifier
known_name : (word : List ℕ) → IsName word → is_among keywords word ≡ false → is_identifier word ≡ true
known_name [] name other = absurd (let h : 0 < 0 = name.0 in omega arith)
known_name (b ∷ bytes) name other =
    ap (λ d. not d && list_all is_word_byte (b ∷ bytes) && not (is_among keywords (b ∷ bytes))) name.2
    ∙ ap (λ l. l && not (is_among keywords (b ∷ bytes))) (all_pass is_word_byte (b ∷ bytes) name.1)
    ∙ ap not other

-- what was found is known
found_known : {A : Type 0} (at : ℕ) (as_symbol : ℕ → A → Symbol) (found : Option A) → ((x : A) → IsKnown (as_symbol at x)) → is_some found ≡ true → IsKnown (or_other at as_symbol found)
found_known at as_symbol None known h = cc
found_known at as_symbol (Some x) known h = known x

-- a spelling of a kind stands for something
known_spelling : (at : ℕ) (k : Kind) (word : List ℕ) → IsSpelling k word → IsKnown (spelled at k word)
unfolding spelled
known_spelling at kind.Identifier word is = subst (λ (b : Bool). IsKnown (cond b (symbol.Name at word) (symbol.Other at))) (sym (known_name word is.0 is.1)) tt
known_spelling at kind.Keyword word is = found_known at symbol.Keyword (keyword_of word) (λ x. tt) (keyword_of-some word ∙ is)
known_spelling at kind.Number word is = found_known at symbol.Number _ (λ x. tt) is
known_spelling at kind.Character word is = found_known at symbol.Character _ (λ x. tt) is.1
known_spelling at kind.Text word is = found_known at symbol.Text _ (λ x. tt) is.1
known_spelling at kind.RuleWord word is =
    found_known at symbol.RuleWord (rule_word_of word) (λ x. tt) (ap (λ w. is_some (rule_word_of w)) is.1 ∙ known_rule_word is.0 is.2)
known_spelling at kind.Sign word is = found_known at symbol.Sign (sign_of word) (λ x. tt) (known_sign word is)

-- the bytes of a token that stands behind others
spelling_behind : (before word rest : List ℕ) → take ((length before + length word) - length before) (drop (length before) (before ++ (word ++ rest))) ≡ word
spelling_behind before word rest =
    ap (λ l. take ((length before + length word) - length before) l) (drop_at before (word ++ rest) (length before) refl)
    ∙ take_at word rest ((length before + length word) - length before) (omega arith)

-- the tokens of parts behind other bytes stand for something
parts_known : (before : List ℕ) (parts : List Part) → AreParts before parts []
    → AllByRecursion IsKnown (map (symbol_of (before ++ flat_map spelling_of parts)) (tokens_at before parts))
unfolding symbol_of spelling_in
parts_known before [] each = tt
parts_known before (Between word ∷ parts) each =
    subst (λ (bytes : List ℕ). AllByRecursion IsKnown (map (symbol_of bytes) (tokens_at (before ++ word) parts))) (append_assoc before word (flat_map spelling_of parts))
    (parts_known (before ++ word) parts each.1)
parts_known before (Spelled k word ∷ parts) each = (
  subst (λ w. IsKnown (spelled (length before) k w)) (sym (spelling_behind before word (flat_map spelling_of parts))) (known_spelling (length before) k word each.0.0),
  subst (λ (bytes : List ℕ). AllByRecursion IsKnown (map (symbol_of bytes) (tokens_at (before ++ word) parts))) (append_assoc before word (flat_map spelling_of parts))
      (parts_known (before ++ word) parts each.1),
)

pub tokens_known : TokensAreCut → TokensAreKnown
tokens_known cuts bytes tokens e =
    let cut = (cuts bytes tokens e).1 in
    let parts = (cuts bytes tokens e).0 in
    subst (λ (b : List ℕ). AllByRecursion IsKnown (map (symbol_of b) tokens)) cut.joined
    (subst (λ (ts : List Token). AllByRecursion IsKnown (map (symbol_of (flat_map spelling_of parts)) ts)) cut.listed
    (parts_known [] parts cut.each))
