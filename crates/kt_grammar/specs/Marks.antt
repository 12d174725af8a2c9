-- Tokens with their depths, and what a part of a text may be spelled by.
use Rattle.std.specs.Prelude.{◌≡◌, ℕ, zero, suc, ◌≤◌, List, [], ◌∷◌, ◌++◌, map, ◌⊎◌, Bool, true}
use Rattle.std.specs.List.{AllByRecursion}
use Rattle.kt_grammar.specs.declared.keyword.Keyword.{Keyword}
use Rattle.kt_grammar.specs.declared.sign.Sign.{Sign}
use Rattle.kt_grammar.specs.declared.symbol.Symbol.{Symbol}
use Rattle.kt_grammar.specs.declared.symbol.Symbol.TheVariants as symbol
use Rattle.kt_grammar.specs.declared.tree.Name.{Name}

-- a token, and how many constructs are open at it
pub record Mark : Type 0 where
  pub symbol : Symbol
  pub depth : ℕ

abbrev pub symbols_of : List Mark → List Symbol
symbols_of marks = map (λ m. m.symbol) marks

-- no token is deeper than the limit
abbrev pub IsShallow : ℕ → List Mark → Type 0
IsShallow limit marks = AllByRecursion (λ m. m.depth ≤ limit) marks

-- the lists of tokens, with their depths, that spell something
abbrev pub Language : Type 1
Language = List Mark → Type 0

abbrev pub nothing : Language
nothing marks = marks ≡ []

-- one token at this depth
abbrev pub token : ℕ → Symbol → Language
token d s marks = marks ≡ record { symbol = s; depth = d } ∷ []

-- a sign, at any place
abbrev pub sign : ℕ → Sign → Language
sign d s marks = (at : ℕ) × token d (symbol.Sign at s) marks

-- a keyword, at any place
abbrev pub keyword : ℕ → Keyword → Language
keyword d k marks = (at : ℕ) × token d (symbol.Keyword at k) marks

abbrev pub name : ℕ → Name → Language
name d n = token d (symbol.Name n.at n.word)

-- the one and then the other
pub record Joined (A B : List Mark → Type 0) (marks : List Mark) : Type 0 where
  pub front : List Mark
  pub back : List Mark
  pub parts : marks ≡ front ++ back
  pub first : A front
  pub second : B back

infixr 6 ◌·◌
abbrev pub ◌·◌ : Language → Language → Language
A · B = Joined A B

-- only where the condition holds
abbrev pub when : Bool → Language → Language
when b A marks = (b ≡ true) × A marks

abbrev pub optional : Language → Language
optional A marks = nothing marks ⊎ A marks

-- so many of a sign
abbrev pub repeated : ℕ → Sign → ℕ → Language
repeated d s zero = nothing
repeated d s (suc n) = sign d s · repeated d s n
