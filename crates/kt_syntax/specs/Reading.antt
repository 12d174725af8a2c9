-- C files read from the left: the parts at the front of a list of symbols, where n more constructs may be opened.
use Rattle.std.specs.Prelude.{ℕ, zero, suc, ◌||◌, Bool, true, false, List, [], ◌∷◌, length, drop, Option, Some, None, Result, Ok, Err, if◌then◌else◌}
use Rattle.kt_lex.specs.declared.number.Number.{Number}
use Rattle.kt_grammar.specs.declared.fault.Fault.{Fault}
use Rattle.kt_grammar.specs.declared.fault.Fault.TheVariants.{TooDeep}
use Rattle.kt_grammar.specs.declared.keyword.Keyword.{Keyword}
use Rattle.kt_grammar.specs.declared.keyword.Keyword.TheVariants as keywords
use Rattle.kt_grammar.specs.declared.operator.Dialect.TheVariants.{C}
use Rattle.kt_grammar.specs.declared.sign.Sign.{Sign}
use Rattle.kt_grammar.specs.declared.sign.Sign.TheVariants as signs
use Rattle.kt_grammar.specs.declared.symbol.Symbol.{Symbol}
use Rattle.kt_grammar.specs.declared.symbol.Symbol.TheVariants as symbol
use Rattle.kt_grammar.specs.declared.tree.Base.{Base}
use Rattle.kt_grammar.specs.declared.tree.Base.TheVariants as base
use Rattle.kt_grammar.specs.declared.tree.Name.{Name}
use Rattle.kt_grammar.specs.Tree.{Term}
use Rattle.kt_grammar.specs.Signs.{same_sign}
use Rattle.kt_grammar.specs.Cursor.{◌>>=◌, Outcome, unexpected, begins_sign, behind, name_at, count_sign, listed_at, until_at}
use Rattle.kt_grammar.specs.Reading.{begins_base, bare_base_at, base_at, begins_expr, expr_at}
use Rattle.kt_syntax.specs.declared.tree.Stars.{Stars}
use Rattle.kt_syntax.specs.declared.tree.Extent.{Extent}
use Rattle.kt_syntax.specs.declared.tree.Extent.TheVariants as extent
use Rattle.kt_syntax.specs.declared.tree.Pointer.{Pointer}
use Rattle.kt_syntax.specs.declared.tree.Declarator.{Declarator}
use Rattle.kt_syntax.specs.declared.tree.Constant.{Constant}
use Rattle.kt_syntax.specs.declared.tree.Constant.TheVariants as constant
use Rattle.kt_syntax.specs.declared.tree.GlobalDeclarator.{GlobalDeclarator}
use Rattle.kt_syntax.specs.declared.tree.Parameter.{Parameter}
use Rattle.kt_syntax.specs.declared.tree.Fields.{Fields}
use Rattle.kt_syntax.specs.Tree.{Local, Declaration, Start, NoStart, Declares, Evaluates, Statement, Declared, Compound, Empty, Evaluated, Returned, Broken, Continued, Conditional, Alternative, Looped, Repeated, Counted, statements_of, Definition, External, StructMentioned, StructDefined, GlobalsDeclared, FunctionDeclared}

-- ---- declarators

-- the stars at the front
unfoldable pub stars_at : List Symbol → Option Stars × List Symbol
stars_at (symbol.Sign at s ∷ rest) =
    if same_sign s signs.Star
    then (let n = count_sign signs.Star rest in (Some (record { at = at; count = suc n }), drop n rest))
    else (None, symbol.Sign at s ∷ rest)
stars_at [] = (None, [])
stars_at (other ∷ rest) = (None, other ∷ rest)

-- a name or a number
unfoldable pub extent_name_at : List Symbol → Outcome Extent
extent_name_at [] = unexpected []
extent_name_at (symbol.Name at word ∷ rest) = Ok (extent.Name (record { at = at; word = word }), rest)
extent_name_at (symbol.Number at n ∷ rest) = Ok (extent.Number at n, rest)
extent_name_at (other ∷ rest) = unexpected (other ∷ rest)

-- behind `E_PTRARRAY`
abbrev pub extent_behind : List Symbol → Outcome Extent
extent_behind symbols = behind signs.OpenParenthesis symbols >>= λ inner. extent_name_at inner
    >>= λ e. behind signs.CloseParenthesis e.1 >>= λ rest. Ok (e.0, rest)

-- `E_PTRARRAY` and its extent, where it stands
unfoldable pub extent_at : List Symbol → Outcome (Option Extent)
extent_at [] = Ok (None, [])
extent_at (symbol.Keyword at keywords.PointerArray ∷ rest) = extent_behind rest >>= λ e. Ok (Some e.0, e.1)
extent_at (other ∷ rest) = Ok (None, other ∷ rest)

-- the stars and extent of a declarator
unfoldable pub pointer_behind : Option Stars → List Symbol → Outcome (Option Pointer)
pointer_behind None symbols = Ok (None, symbols)
pointer_behind (Some s) symbols = extent_at symbols >>= λ e. Ok (Some (record { stars = s; extent = e.0 }), e.1)

abbrev pub pointer_at : List Symbol → Outcome (Option Pointer)
pointer_at symbols = let s = stars_at symbols in pointer_behind s.0 s.1

-- a number and its closing bracket, behind the opening one
unfoldable pub count_behind : List Symbol → Outcome Number
count_behind (symbol.Number at n ∷ rest) = behind signs.CloseBracket rest >>= λ after. Ok (n, after)
count_behind [] = unexpected []
count_behind (other ∷ rest) = unexpected (other ∷ rest)

-- the number in brackets, where it stands
unfoldable pub count_at : List Symbol → Outcome (Option Number)
count_at symbols =
    if begins_sign signs.OpenBracket symbols then (count_behind (drop 1 symbols) >>= λ n. Ok (Some n.0, n.1))
    else Ok (None, symbols)

-- a declarator behind its stars and name
abbrev pub declarator_behind : Option Pointer → Name → List Symbol → Outcome Declarator
declarator_behind p n symbols = count_at symbols >>= λ c. Ok (record { pointer = p; name = n; count = c.0 }, c.1)

unfoldable pub declarator_at : List Symbol → Outcome Declarator
declarator_at symbols = pointer_at symbols >>= λ p. name_at p.1 >>= λ n. declarator_behind p.0 n.0 n.1

unfoldable pub negative_at : List Symbol → Outcome Constant
negative_at (symbol.Number at n ∷ rest) = Ok (constant.Negative n, rest)
negative_at [] = unexpected []
negative_at (other ∷ rest) = unexpected (other ∷ rest)

-- a constant, as an initial value of a global
unfoldable pub constant_at : List Symbol → Outcome Constant
constant_at [] = unexpected []
constant_at (symbol.Number at n ∷ rest) = Ok (constant.Number n, rest)
constant_at (symbol.Sign at s ∷ rest) = if same_sign s signs.Minus then negative_at rest else unexpected (symbol.Sign at s ∷ rest)
constant_at (symbol.Character at b ∷ rest) = Ok (constant.Character b, rest)
constant_at (symbol.Text at bytes ∷ rest) = Ok (constant.Text at bytes, rest)
constant_at (symbol.Keyword at keywords.Null ∷ rest) = Ok (constant.Null, rest)
constant_at (symbol.Keyword at keywords.Eof ∷ rest) = Ok (constant.Eof, rest)
constant_at (symbol.Keyword at keywords.MutexInitializer ∷ rest) = Ok (constant.MutexInitializer, rest)
constant_at (other ∷ rest) = unexpected (other ∷ rest)

-- the initial value of a global, where it stands
unfoldable pub initial_at : List Symbol → Outcome (Option Constant)
initial_at symbols =
    if begins_sign signs.Assign symbols then (constant_at (drop 1 symbols) >>= λ c. Ok (Some c.0, c.1)) else Ok (None, symbols)

-- a global behind its stars and name
unfoldable pub global_behind : Option Pointer → Name → List Symbol → Outcome GlobalDeclarator
global_behind p n symbols = declarator_behind p n symbols >>= λ d. initial_at d.1 >>= λ i. Ok (record { declarator = d.0; initial = i.0 }, i.1)

unfoldable pub global_at : List Symbol → Outcome GlobalDeclarator
global_at symbols = pointer_at symbols >>= λ p. name_at p.1 >>= λ n. global_behind p.0 n.0 n.1

unfoldable pub parameter_at : List Symbol → Outcome Parameter
parameter_at symbols = base_at symbols >>= λ b. pointer_at b.1 >>= λ p. name_at p.1
    >>= λ n. Ok (record { base = b.0; pointer = p.0; name = n.0 }, n.1)

-- fields of one base and their semicolon
unfoldable pub fields_at : List Symbol → Outcome Fields
fields_at symbols = base_at symbols >>= λ b. listed_at declarator_at (length b.1) [] b.1
    >>= λ ds. behind signs.Semicolon ds.1 >>= λ rest. Ok (record { base = b.0; declarators = ds.0 }, rest)

-- the initial value of a local, where it stands
unfoldable pub value_at : ℕ → List Symbol → Outcome (Option Term)
value_at n symbols =
    if begins_sign signs.Assign symbols then (expr_at C n (drop 1 symbols) >>= λ e. Ok (Some e.0, e.1)) else Ok (None, symbols)

unfoldable pub local_at : ℕ → List Symbol → Outcome Local
local_at n symbols = pointer_at symbols >>= λ p. name_at p.1 >>= λ x. value_at n x.1
    >>= λ v. Ok (record { pointer = p.0; name = x.0; initial = v.0 }, v.1)

-- locals of one base, without a semicolon
unfoldable pub declaration_at : ℕ → List Symbol → Outcome Declaration
declaration_at n symbols = base_at symbols >>= λ b. listed_at (local_at n) (length b.1) [] b.1
    >>= λ ls. Ok (record { base = b.0; locals = ls.0 }, ls.1)

-- ---- statements

-- a statement begins with this keyword
abbrev pub begins_so : Keyword → Bool
begins_so keywords.Return = true
begins_so keywords.Break = true
begins_so keywords.Continue = true
begins_so keywords.If = true
begins_so keywords.While = true
begins_so keywords.Do = true
begins_so keywords.For = true
begins_so _ = false

unfoldable pub begins_keyword : List Symbol → Bool
begins_keyword (symbol.Keyword at k ∷ rest) = begins_so k
begins_keyword _ = false

-- a statement begins with this symbol
abbrev pub begins_statement : List Symbol → Bool
begins_statement symbols =
    begins_sign signs.OpenBrace symbols || begins_sign signs.Semicolon symbols || begins_keyword symbols || begins_expr C symbols

-- an entry of a block begins with this symbol
abbrev pub begins_entry : List Symbol → Bool
begins_entry symbols = begins_base symbols || begins_statement symbols

-- what reads one deeper: a statement, or the entries of a block and its closing brace
pub record Blocks : Type 0 where
  pub statement : List Symbol → Outcome Statement
  pub entries : List Symbol → Outcome (List Statement)

-- what could begin here is too deep
abbrev pub refused : {A : Type 0} → (List Symbol → Bool) → List Symbol → Result A Fault
refused begins symbols = if begins symbols then Err (TooDeep (length symbols)) else unexpected symbols

-- an expression, one deeper
abbrev pub deep_expr_at : ℕ → List Symbol → Outcome Term
deep_expr_at zero symbols = refused (begins_expr C) symbols
deep_expr_at (suc n) symbols = expr_at C n symbols

-- an expression in parentheses
unfoldable pub condition_at : ℕ → List Symbol → Outcome Term
condition_at n symbols = behind signs.OpenParenthesis symbols >>= λ inner. deep_expr_at n inner
    >>= λ c. behind signs.CloseParenthesis c.1 >>= λ rest. Ok (c.0, rest)

-- a statement that is part of another
unfoldable pub part_at : Option Blocks → List Symbol → Outcome Statement
part_at None symbols = refused begins_statement symbols
part_at (Some b) symbols = b.statement symbols

-- entries and the closing brace, behind the opening one
unfoldable pub block_behind : Option Blocks → List Symbol → Outcome (List Statement)
block_behind None symbols = if begins_sign signs.CloseBrace symbols then Ok ([], drop 1 symbols) else refused begins_entry symbols
block_behind (Some b) symbols = b.entries symbols

-- an expression and this sign, or the sign alone
unfoldable pub ended_at : ℕ → Sign → List Symbol → Outcome (Option Term)
ended_at n s symbols =
    if begins_sign s symbols then Ok (None, drop 1 symbols)
    else (expr_at C n symbols >>= λ e. behind s e.1 >>= λ rest. Ok (Some e.0, rest))

-- the symbols behind this keyword
unfoldable pub behind_else : List Symbol → Option (List Symbol)
behind_else (symbol.Keyword at keywords.Else ∷ rest) = Some rest
behind_else _ = None

unfoldable pub behind_while : List Symbol → Result (List Symbol) Fault
behind_while [] = unexpected []
behind_while (symbol.Keyword at keywords.While ∷ rest) = Ok rest
behind_while (other ∷ rest) = unexpected (other ∷ rest)

-- an `else` and its statement, where it stands
unfoldable pub else_at : Option Blocks → Term → Statement → List Symbol → Outcome Statement
else_at b c s symbols = elim (behind_else symbols) as (λ _. Outcome Statement)
    [ None ↦ Ok (Conditional c s, symbols) | (Some rest) ↦ part_at b rest >>= λ t. Ok (Alternative c s t.0, t.1) ]

unfoldable pub if_behind : ℕ → Option Blocks → List Symbol → Outcome Statement
if_behind n b symbols = condition_at n symbols >>= λ c. part_at b c.1 >>= λ s. else_at b c.0 s.0 s.1

unfoldable pub while_behind : ℕ → Option Blocks → List Symbol → Outcome Statement
while_behind n b symbols = condition_at n symbols >>= λ c. part_at b c.1 >>= λ s. Ok (Looped c.0 s.0, s.1)

unfoldable pub do_behind : ℕ → Option Blocks → List Symbol → Outcome Statement
do_behind n b symbols = part_at b symbols >>= λ s. behind_while s.1 >>= λ inner. condition_at n inner
    >>= λ c. behind signs.Semicolon c.1 >>= λ rest. Ok (Repeated s.0 c.0, rest)

-- what stands first between the parentheses of `for`, with its semicolon
unfoldable pub start_at : ℕ → List Symbol → Outcome Start
start_at n symbols =
    if begins_sign signs.Semicolon symbols then Ok (NoStart, drop 1 symbols)
    else (if begins_base symbols then (declaration_at n symbols >>= λ x. behind signs.Semicolon x.1 >>= λ rest. Ok (Declares x.0, rest))
    else (expr_at C n symbols >>= λ e. behind signs.Semicolon e.1 >>= λ rest. Ok (Evaluates e.0, rest)))

unfoldable pub for_behind : ℕ → Option Blocks → List Symbol → Outcome Statement
for_behind n b symbols = behind signs.OpenParenthesis symbols >>= λ inner. start_at n inner >>= λ start. ended_at n signs.Semicolon start.1
    >>= λ test. ended_at n signs.CloseParenthesis test.1 >>= λ step. part_at b step.1
    >>= λ s. Ok (Counted start.0 test.0 step.0 s.0, s.1)

-- an expression and a semicolon
unfoldable pub evaluated_at : ℕ → List Symbol → Outcome Statement
evaluated_at n symbols = expr_at C n symbols >>= λ e. behind signs.Semicolon e.1 >>= λ rest. Ok (Evaluated e.0, rest)

-- a statement behind its first keyword, where one begins with it
unfoldable pub worded_at : ℕ → Option Blocks → ℕ → Keyword → List Symbol → List Symbol → Outcome Statement
worded_at n b at keywords.Return symbols rest = ended_at n signs.Semicolon rest >>= λ e. Ok (Returned at e.0, e.1)
worded_at n b at keywords.Break symbols rest = behind signs.Semicolon rest >>= λ after. Ok (Broken at, after)
worded_at n b at keywords.Continue symbols rest = behind signs.Semicolon rest >>= λ after. Ok (Continued at, after)
worded_at n b at keywords.If symbols rest = if_behind n b rest
worded_at n b at keywords.While symbols rest = while_behind n b rest
worded_at n b at keywords.Do symbols rest = do_behind n b rest
worded_at n b at keywords.For symbols rest = for_behind n b rest
worded_at n b at _ symbols rest = evaluated_at n symbols

-- a block, an empty statement, or an expression that begins with a sign
unfoldable pub signed_at : ℕ → Option Blocks → Sign → List Symbol → List Symbol → Outcome Statement
signed_at n b s symbols rest =
    if same_sign s signs.OpenBrace then (block_behind b rest >>= λ block. Ok (Compound (statements_of block.0), block.1))
    else (if same_sign s signs.Semicolon then Ok (Empty, rest)
    else evaluated_at n symbols)

unfoldable pub statement_at : ℕ → Option Blocks → List Symbol → Outcome Statement
statement_at n b [] = unexpected []
statement_at n b (symbol.Keyword at k ∷ rest) = worded_at n b at k (symbol.Keyword at k ∷ rest) rest
statement_at n b (symbol.Sign at s ∷ rest) = signed_at n b s (symbol.Sign at s ∷ rest) rest
statement_at n b (other ∷ rest) = evaluated_at n (other ∷ rest)

-- a declaration of locals, or a statement
unfoldable pub entry_at : ℕ → Option Blocks → List Symbol → Outcome Statement
entry_at n b symbols =
    if begins_base symbols then (declaration_at n symbols >>= λ x. behind signs.Semicolon x.1 >>= λ rest. Ok (Declared x.0, rest))
    else statement_at n b symbols

-- entries and the closing brace
unfoldable pub entries_at : ℕ → Option Blocks → List Symbol → Outcome (List Statement)
entries_at n b symbols = until_at (begins_sign signs.CloseBrace) (entry_at n b) (length symbols) [] symbols >>= λ es. Ok (es.0, drop 1 es.1)

-- what reads one deeper, where so many more constructs may be opened
unfoldable pub blocks : ℕ → Option Blocks
blocks zero = None
blocks (suc n) = let b = blocks n in Some (record { statement = statement_at n b; entries = entries_at n b })

-- ---- external declarations

-- how many of `static` and `const` stand at the front
unfoldable pub count_leading : List Symbol → ℕ
count_leading (symbol.Keyword at keywords.Static ∷ rest) = suc (count_leading rest)
count_leading (symbol.Keyword at keywords.Const ∷ rest) = suc (count_leading rest)
count_leading _ = 0

-- parameters and the closing parenthesis, behind the opening one
unfoldable pub parameters_behind : List Symbol → Outcome (List Parameter)
parameters_behind (symbol.Keyword at keywords.Void ∷ rest) = behind signs.CloseParenthesis rest >>= λ after. Ok ([], after)
parameters_behind symbols =
    if begins_sign signs.CloseParenthesis symbols then Ok ([], drop 1 symbols)
    else (listed_at parameter_at (length symbols) [] symbols >>= λ ps. behind signs.CloseParenthesis ps.1 >>= λ rest. Ok (ps.0, rest))

-- behind the opening brace of a function's body
unfoldable pub definition_behind : ℕ → Bool → List Symbol → Outcome (Option Definition)
definition_behind n noted symbols = block_behind (blocks n) symbols >>= λ es. Ok (Some (record { noted = noted; entries = statements_of es.0 }), es.1)

-- a semicolon, or the body of a function
unfoldable pub body_at : ℕ → List Symbol → Outcome (Option Definition)
body_at n (symbol.Keyword at keywords.NoteLocals ∷ rest) = behind signs.OpenBrace rest >>= λ inner. definition_behind n true inner
body_at n symbols =
    if begins_sign signs.Semicolon symbols then Ok (None, drop 1 symbols)
    else (behind signs.OpenBrace symbols >>= λ inner. definition_behind n false inner)

-- a function behind its name and opening parenthesis
unfoldable pub function_behind : ℕ → Option Base → Option Stars → Name → List Symbol → Outcome External
function_behind n result stars name symbols = parameters_behind symbols >>= λ ps. body_at n ps.1
    >>= λ b. Ok (FunctionDeclared (record { result = result; stars = stars; name = name; parameters = ps.0; body = b.0 }), b.1)

-- globals behind the first one, and their semicolon
unfoldable pub globals_behind : Base → GlobalDeclarator → List Symbol → Outcome External
globals_behind base first symbols =
    (if begins_sign signs.Comma symbols then listed_at global_at (length symbols) (first ∷ []) (drop 1 symbols) else Ok (first ∷ [], symbols))
    >>= λ gs. behind signs.Semicolon gs.1 >>= λ rest. Ok (GlobalsDeclared base gs.0, rest)

-- no `E_PTRARRAY` stands in a function's declarator
abbrev pub bare_stars : Option Pointer → Option (Option Stars)
bare_stars None = Some None
bare_stars (Some p) = elim p.extent as (λ _. Option (Option Stars)) [ None ↦ Some (Some p.stars) | (Some e) ↦ None ]

-- globals, or a function where a parenthesis follows the name
unfoldable pub named_behind : ℕ → Base → Option Pointer → Name → List Symbol → Outcome External
named_behind n base p name symbols =
    elim (bare_stars p) as (λ _. Outcome External) [
      | None ↦ global_behind p name symbols >>= λ g. globals_behind base g.0 g.1
      | (Some stars) ↦ if begins_sign signs.OpenParenthesis symbols then function_behind n (Some base) stars name (drop 1 symbols)
          else (global_behind p name symbols >>= λ g. globals_behind base g.0 g.1)
    ]

-- globals or a function behind the base
unfoldable pub declared_behind : ℕ → Base → List Symbol → Outcome External
declared_behind n base symbols = pointer_at symbols >>= λ p. name_at p.1 >>= λ x. named_behind n base p.0 x.0 x.1

-- a function behind `void`
unfoldable pub void_behind : ℕ → List Symbol → Outcome External
void_behind n symbols = let s = stars_at symbols in name_at s.1 >>= λ x. behind signs.OpenParenthesis x.1
    >>= λ inner. function_behind n None s.0 x.0 inner

-- globals or a function behind `static` and `const`
unfoldable pub typed_at : ℕ → List Symbol → Outcome External
typed_at n (symbol.Keyword at keywords.Void ∷ rest) = void_behind n rest
typed_at n symbols = bare_base_at symbols >>= λ b. declared_behind n b.0 b.1

-- fields and what closes a struct, behind its opening brace
unfoldable pub struct_behind : Name → List Symbol → Outcome External
struct_behind name symbols = fields_at symbols
    >>= λ f. until_at (begins_sign signs.CloseBrace) fields_at (length f.1) (f.0 ∷ []) f.1
    >>= λ fs. behind signs.Semicolon (drop 1 fs.1) >>= λ rest. Ok (StructDefined name fs.0, rest)

-- behind `struct` at the beginning: a struct, or globals or a function of that type
unfoldable pub struct_at : ℕ → List Symbol → Outcome External
struct_at n symbols = name_at symbols >>= λ x.
    if begins_sign signs.Semicolon x.1 then Ok (StructMentioned x.0, drop 1 x.1)
    else (if begins_sign signs.OpenBrace x.1 then struct_behind x.0 (drop 1 x.1)
    else declared_behind n (base.Struct x.0) x.1)

-- an external declaration
unfoldable pub external_at : ℕ → List Symbol → Outcome External
external_at n (symbol.Keyword at keywords.Struct ∷ rest) = struct_at n rest
external_at n symbols = typed_at n (drop (count_leading symbols) symbols)

-- no symbol is left
abbrev pub is_end : List Symbol → Bool
is_end [] = true
is_end (first ∷ rest) = false

-- the external declarations of a file
unfoldable pub file_at : ℕ → List Symbol → Outcome (List External)
file_at n symbols = until_at is_end (external_at n) (length symbols) [] symbols
