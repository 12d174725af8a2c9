-- The grammar of C files: by which tokens each part is spelled, each token with its depth.
use Rattle.std.specs.Prelude.{◌≡◌, ℕ, suc, ◌-◌, Bool, true, false, nat_le, not, List, [], ◌∷◌, Option, Some, None, ◌⊎◌}
use Rattle.std.specs.List.{AllByRecursion}
use Rattle.kt_lex.specs.declared.number.Number.{Number}
use Rattle.kt_grammar.specs.declared.keyword.Keyword.TheVariants as keywords
use Rattle.kt_grammar.specs.declared.operator.Dialect.TheVariants.{C}
use Rattle.kt_grammar.specs.declared.sign.Sign.TheVariants as signs
use Rattle.kt_grammar.specs.declared.symbol.Symbol.TheVariants as symbol
use Rattle.kt_grammar.specs.declared.tree.Base.{Base}
use Rattle.kt_grammar.specs.Tree.{Term}
use Rattle.kt_grammar.specs.Marks.{Language, nothing, token, sign, keyword, name, ◌·◌, when, optional, repeated}
use Rattle.kt_grammar.specs.Spelling.{between, spells_base, spells}
use Rattle.kt_syntax.specs.declared.tree.Stars.{Stars}
use Rattle.kt_syntax.specs.declared.tree.Extent.{Extent}
use Rattle.kt_syntax.specs.declared.tree.Extent.TheVariants as extent
use Rattle.kt_syntax.specs.declared.tree.Pointer.{Pointer}
use Rattle.kt_syntax.specs.declared.tree.Declarator.{Declarator}
use Rattle.kt_syntax.specs.declared.tree.Constant.{Constant}
use Rattle.kt_syntax.specs.declared.tree.Constant.TheVariants as constant
use Rattle.kt_syntax.specs.declared.tree.GlobalDeclarator.{GlobalDeclarator}
use Rattle.kt_syntax.specs.declared.tree.Parameter.{Parameter}
use Rattle.kt_syntax.specs.declared.tree.Fields.{Fields}
use Rattle.kt_syntax.specs.Tree.{Local, Declaration, Start, NoStart, Declares, Evaluates, Statement, Declared, Compound, Empty, Evaluated, Returned, Broken, Continued, Conditional, Alternative, Looped, Repeated, Counted, Statements, Nothing, More, Definition, External, StructMentioned, StructDefined, GlobalsDeclared, FunctionDeclared}

abbrev pub is_empty : {A : Type 0} → List A → Bool
is_empty [] = true
is_empty (x ∷ rest) = false

-- one or more, with commas between them
abbrev pub separated : {A : Type 0} → ℕ → (A → Language) → List A → Language
separated d spelling [] = λ _. ⊥
separated d spelling (x ∷ []) = spelling x
separated d spelling (x ∷ y ∷ rest) = spelling x · sign d signs.Comma · separated d spelling (y ∷ rest)

-- one after the other
abbrev pub each : {A : Type 0} → (A → Language) → List A → Language
each spelling [] = nothing
each spelling (x ∷ rest) = spelling x · each spelling rest

-- what is there where it is there
abbrev pub maybe : {A : Type 0} → (A → Language) → Option A → Language
maybe spelling None = nothing
maybe spelling (Some x) = spelling x

-- a number, at any place
abbrev pub number : ℕ → Number → Language
number d n marks = (at : ℕ) × token d (symbol.Number at n) marks

abbrev pub character : ℕ → ℕ → Language
character d b marks = (at : ℕ) × token d (symbol.Character at b) marks

-- ---- declarators

abbrev pub stars : ℕ → Stars → Language
stars d s = when (nat_le 1 s.count) (token d (symbol.Sign s.at signs.Star) · repeated d signs.Star (s.count - 1))

abbrev pub extent_name : ℕ → Extent → Language
extent_name d (extent.Name n) = name d n
extent_name d (extent.Number at n) = token d (symbol.Number at n)

abbrev pub extent_spelling : ℕ → Extent → Language
extent_spelling d e = keyword d keywords.PointerArray · between d (extent_name d e)

abbrev pub pointer : ℕ → Pointer → Language
pointer d p = stars d p.stars · maybe (extent_spelling d) p.extent

-- the number of elements of an array, in brackets
abbrev pub count : ℕ → Number → Language
count d n = sign d signs.OpenBracket · number d n · sign d signs.CloseBracket

abbrev pub declarator : ℕ → Declarator → Language
declarator d x = maybe (pointer d) x.pointer · name d x.name · maybe (count d) x.count

abbrev pub constant_spelling : ℕ → Constant → Language
constant_spelling d (constant.Number n) = number d n
constant_spelling d (constant.Negative n) = sign d signs.Minus · number d n
constant_spelling d (constant.Character b) = character d b
constant_spelling d (constant.Text at bytes) = token d (symbol.Text at bytes)
constant_spelling d constant.Null = keyword d keywords.Null
constant_spelling d constant.Eof = keyword d keywords.Eof
constant_spelling d constant.MutexInitializer = keyword d keywords.MutexInitializer

abbrev pub global : ℕ → GlobalDeclarator → Language
global d g = declarator d g.declarator · maybe (λ c. sign d signs.Assign · constant_spelling d c) g.initial

abbrev pub parameter : ℕ → Parameter → Language
parameter d p = spells_base d p.base · maybe (pointer d) p.pointer · name d p.name

-- fields of one base, with the semicolon
abbrev pub fields : ℕ → Fields → Language
fields d f = spells_base d f.base · separated d (declarator d) f.declarators · sign d signs.Semicolon

-- a local's initial value is at the depth of its declaration
abbrev pub local : ℕ → Local → Language
local d l = maybe (pointer d) l.pointer · name d l.name · maybe (λ e. sign d signs.Assign · spells C d e) l.initial

-- locals of one base, without a semicolon
abbrev pub declaration : ℕ → Declaration → Language
declaration d x = spells_base d x.base · separated d (local d) x.locals

-- ---- statements

-- the statement ends with an `if` that an `else` behind it would belong to
abbrev pub ends_open : Statement → Bool
ends_open (Conditional c s) = true
ends_open (Alternative c s t) = ends_open t
ends_open (Looped c s) = ends_open s
ends_open (Counted start test step s) = ends_open s
ends_open _ = false

-- an expression in parentheses, one deeper
abbrev pub condition : ℕ → Term → Language
condition d c = between d (spells C (suc d) c)

abbrev pub for_start : ℕ → Start → Language
for_start d NoStart = nothing
for_start d (Declares x) = declaration d x
for_start d (Evaluates e) = spells C d e

-- A statement whose own tokens stand at depth d, or, where so said, an entry of a block there. A statement that is part of
-- another stands one deeper, and so do the entries of a block.
abbrev mutual
  pub statement : Bool → ℕ → Statement → Language
  statement entry d (Declared x) = when entry (declaration d x · sign d signs.Semicolon)
  statement entry d (Compound block) = sign d signs.OpenBrace · entries (suc d) block · sign d signs.CloseBrace
  statement entry d Empty = sign d signs.Semicolon
  statement entry d (Evaluated e) = spells C d e · sign d signs.Semicolon
  statement entry d (Returned at e) = token d (symbol.Keyword at keywords.Return) · maybe (spells C d) e · sign d signs.Semicolon
  statement entry d (Broken at) = token d (symbol.Keyword at keywords.Break) · sign d signs.Semicolon
  statement entry d (Continued at) = token d (symbol.Keyword at keywords.Continue) · sign d signs.Semicolon
  statement entry d (Conditional c s) = keyword d keywords.If · condition d c · statement false (suc d) s
  statement entry d (Alternative c s t) =
      when (not (ends_open s))
      (keyword d keywords.If · condition d c · statement false (suc d) s · keyword d keywords.Else · statement false (suc d) t)
  statement entry d (Looped c s) = keyword d keywords.While · condition d c · statement false (suc d) s
  statement entry d (Repeated s c) =
      keyword d keywords.Do · statement false (suc d) s · keyword d keywords.While · condition d c · sign d signs.Semicolon
  statement entry d (Counted start test step s) =
      keyword d keywords.For · sign d signs.OpenParenthesis · for_start d start · sign d signs.Semicolon
      · maybe (spells C d) test · sign d signs.Semicolon · maybe (spells C d) step · sign d signs.CloseParenthesis
      · statement false (suc d) s

  pub entries : ℕ → Statements → Language
  entries d Nothing = nothing
  entries d (More s rest) = statement true d s · entries d rest

-- ---- external declarations

-- `static` and `const`, as often as may be
abbrev pub leading : Language
leading marks = AllByRecursion (λ m. (at : ℕ) × ((m ≡ record { symbol = symbol.Keyword at keywords.Static; depth = 0 }) ⊎ (m ≡ record { symbol = symbol.Keyword at keywords.Const; depth = 0 }))) marks

-- none is `void`
abbrev pub result : Option Base → Language
result None = keyword 0 keywords.Void
result (Some b) = spells_base 0 b

-- without parameters there may stand `void`
abbrev pub parameters : List Parameter → Language
parameters [] = optional (keyword 0 keywords.Void)
parameters (p ∷ rest) = separated 0 (parameter 0) (p ∷ rest)

-- `E_NOTELOCALS`, where it stands
abbrev pub noted : Bool → Language
noted false = nothing
noted true = keyword 0 keywords.NoteLocals

-- a function's body is a block; without one there stands a semicolon
abbrev pub body : Option Definition → Language
body None = sign 0 signs.Semicolon
body (Some b) = noted b.noted · sign 0 signs.OpenBrace · entries 1 b.entries · sign 0 signs.CloseBrace

abbrev pub external : External → Language
external (StructMentioned n) = keyword 0 keywords.Struct · name 0 n · sign 0 signs.Semicolon
external (StructDefined n fs) =
    when (not (is_empty fs))
    (keyword 0 keywords.Struct · name 0 n · sign 0 signs.OpenBrace · each (fields 0) fs · sign 0 signs.CloseBrace · sign 0 signs.Semicolon)
external (GlobalsDeclared b gs) = leading · spells_base 0 b · separated 0 (global 0) gs · sign 0 signs.Semicolon
external (FunctionDeclared f) =
    leading · result f.result · maybe (stars 0) f.stars · name 0 f.name · between 0 (parameters f.parameters) · body f.body

-- a file is its external declarations
abbrev pub externals : List External → Language
externals xs = each external xs
