-- Statements and blocks that are not read break off where the fault tells.
use Rattle.std.proofs.Common.{◌≡◌, ℕ, zero, suc, ◌+◌, ◌≤◌, ◌<◌, ◌⊎◌, inl, inr, Bool, true, false, not, ◌||◌, List, [], ◌∷◌, ◌++◌, length, Option, Some, None, Ok, Err, refl, sym, ap, subst, arith}
use Rattle.kt_grammar.specs.declared.fault.Fault.{Fault}
use Rattle.kt_grammar.specs.declared.keyword.Keyword.{Keyword}
use Rattle.kt_grammar.specs.declared.keyword.Keyword.TheVariants as keywords
use Rattle.kt_grammar.specs.declared.operator.Dialect.TheVariants.{C}
use Rattle.kt_grammar.specs.declared.sign.Sign.{Sign}
use Rattle.kt_grammar.specs.declared.sign.Sign.TheVariants as signs
use Rattle.kt_grammar.specs.declared.symbol.Symbol.{Symbol}
use Rattle.kt_grammar.specs.declared.symbol.Symbol.TheVariants as symbol
use Rattle.kt_grammar.specs.declared.tree.Base.{Base}
use Rattle.kt_grammar.specs.declared.tree.Base.TheVariants as base
use Rattle.kt_grammar.specs.Tree.{Term, Named}
use Rattle.kt_grammar.specs.Signs.{same_sign}
use Rattle.kt_grammar.specs.Marks.{Mark, token, sign, keyword, ◌·◌}
use Rattle.kt_grammar.specs.Spelling.{between, bare_base, spells}
use Rattle.kt_grammar.specs.Cursor.{◌>>=◌, begins_sign, behind, until_at}
use Rattle.kt_grammar.specs.Reading.{begins_base, begins_expr, expr_at}
use Rattle.kt_grammar.specs.Laws.{Stands, ExprStands, FaultStands, some_expr, ExprFaultStands, ExprGoesOn}
use Rattle.kt_grammar.specs.StandsLaws.{chosen, same_sign_is, token_stands, stands_as, sign_stands, keyword_stands, behind_stands}
use Rattle.kt_grammar.specs.FaultLaws.{no_fault, bind_err, unexpected_stands, fault_as, fault_before, fault_behind, behind_fault, blank_name, name_mark, some_base}
use Rattle.kt_syntax.specs.Tree.{Declaration, Start, NoStart, Declares, Evaluates, Statement, Declared, Compound, Empty, Evaluated, Returned, Broken, Continued, Conditional, Alternative, Looped, Repeated, Counted, Nothing, More, statements_of}
use Rattle.kt_syntax.specs.Spelling.{maybe, local, declaration, ends_open, condition, for_start, statement, entries}
use Rattle.kt_syntax.specs.Reading.{declaration_at, begins_so, begins_keyword, begins_statement, begins_entry, Blocks, deep_expr_at, condition_at, part_at, block_behind, ended_at, behind_else, behind_while, else_at, if_behind, while_behind, do_behind, start_at, for_behind, evaluated_at, worded_at, signed_at, statement_at, entry_at, entries_at, blocks}
use Rattle.kt_syntax.specs.ListStands.{not_true, picked}
use Rattle.kt_syntax.proofs.DeclaratorStands.{declaration_at_stands}
use Rattle.kt_syntax.proofs.StatementStands.{StatementStands, AreSound, entries_of, before_else, expr_reads, deep_expr_reads, behind_while_stands, behind_else_stands, within, condition_at_stands, ended_at_stands, start_at_stands, part_at_stands, entry_at_stands, blocks_sound}
use Rattle.kt_syntax.proofs.FaultSteps.{any, Blank, blank_joined, blank_as, sign_blank, keyword_blank, name_blank, maybe_blank, rejoined, ungrouped, ReadFaults, any_stands, last_fault, parts_fault, GoesOn, refused_fault, some_separated, until_at_fault}
use Rattle.kt_syntax.proofs.DeclaratorFaults.{declaration_of, local_blank, declaration_at_fault}

-- what these do not read breaks off where the fault tells, below a statement at a depth
pub record Breaks (limit d : ℕ) (b : Blocks) : Type 0 where
  pub statement_breaks : ReadFaults limit (any (statement false (suc d))) b.statement
  pub entries_breaks : ReadFaults limit (any (entries (suc d)) · sign d signs.CloseBrace) b.entries

-- none are there only at the limit
abbrev pub AreBreaking : ℕ → ℕ → Option Blocks → Type 0
AreBreaking limit d None = limit < suc d
AreBreaking limit d (Some b) = Breaks limit d b

-- ---- statements of their parts

module _ (entry : Bool) (d : ℕ) where
  evaluated_of : (marks : List Mark) → (any (spells C d) · sign d signs.Semicolon) marks → any (statement entry d) marks
  evaluated_of m j = (Evaluated j.first.0, rejoined j j.first.1 j.second)

  returned_of : (at : ℕ) (marks : List Mark) → (token d (symbol.Keyword at keywords.Return) · (any (maybe (spells C d)) · sign d signs.Semicolon)) marks → any (statement entry d) marks
  returned_of at m j = (Returned at j.second.first.0, rejoined j j.first (rejoined j.second j.second.first.1 j.second.second))

  conditional_of : (marks : List Mark) → (keyword d keywords.If · any (condition d) · any (statement false (suc d))) marks → any (statement entry d) marks
  conditional_of m j = (Conditional j.second.first.0 j.second.second.0, rejoined j j.first (rejoined j.second j.second.first.1 j.second.second.1))

  alternative_of : (c : Term) (s : Statement) → not (ends_open s) ≡ true → (marks : List Mark)
      → (keyword d keywords.If · condition d c · statement false (suc d) s · keyword d keywords.Else · any (statement false (suc d))) marks → any (statement entry d) marks
  alternative_of c s closed m j = (
    Alternative c s j.second.second.second.second.0,
    (
      closed,
      rejoined j j.first (rejoined j.second j.second.first (rejoined j.second.second j.second.second.first
          (rejoined j.second.second.second j.second.second.second.first j.second.second.second.second.1))),
    ),
  )

  looped_of : (marks : List Mark) → (keyword d keywords.While · any (condition d) · any (statement false (suc d))) marks → any (statement entry d) marks
  looped_of m j = (Looped j.second.first.0 j.second.second.0, rejoined j j.first (rejoined j.second j.second.first.1 j.second.second.1))

  repeated_of : (marks : List Mark) → (keyword d keywords.Do · any (statement false (suc d)) · keyword d keywords.While · any (condition d) · sign d signs.Semicolon) marks → any (statement entry d) marks
  repeated_of m j = (
    Repeated j.second.first.0 j.second.second.second.first.0,
    rejoined j j.first (rejoined j.second j.second.first.1 (rejoined j.second.second j.second.second.first
        (rejoined j.second.second.second j.second.second.second.first.1 j.second.second.second.second))),
  )

  counted_of : (marks : List Mark)
      → (keyword d keywords.For · sign d signs.OpenParenthesis · (any (for_start d) · sign d signs.Semicolon) · (any (maybe (spells C d)) · sign d signs.Semicolon) · (any (maybe (spells C d)) · sign d signs.CloseParenthesis)
      · any (statement false (suc d))) marks
      → any (statement entry d) marks
  counted_of m j =
      let start = j.second.second in
      let test = start.second in
      let step = test.second in (
        Counted start.first.first.0 test.first.first.0 step.first.first.0 step.second.0,
        rejoined j j.first (rejoined j.second j.second.first (ungrouped (rejoined start (rejoined start.first start.first.first.1 start.first.second)
            (ungrouped (rejoined test (rejoined test.first test.first.first.1 test.first.second)
            (ungrouped (rejoined step (rejoined step.first step.first.first.1 step.first.second) step.second.1))))))),
      )

  compound_of : (marks : List Mark) → (sign d signs.OpenBrace · (any (entries (suc d)) · sign d signs.CloseBrace)) marks → any (statement entry d) marks
  compound_of m j = (Compound j.second.first.0, rejoined j j.first (rejoined j.second j.second.first.1 j.second.second))

  statement_blank : Blank (any (statement entry d))
  statement_blank = blank_as (λ m s. (Empty, s)) (sign_blank d signs.Semicolon)

declared_of : (d : ℕ) (marks : List Mark) → (any (declaration d) · sign d signs.Semicolon) marks → any (statement true d) marks
declared_of d m j = (Declared j.first.0, (refl, rejoined j j.first.1 j.second))

expr_blank : (d : ℕ) → Blank (any (spells C d))
expr_blank d = (name_mark d, (Named blank_name, refl))

condition_of : (d : ℕ) (marks : List Mark) → between d (any (spells C (suc d))) marks → any (condition d) marks
condition_of d m j = (j.second.first.0, rejoined j j.first (rejoined j.second j.second.first.1 j.second.second))

condition_blank : (d : ℕ) → Blank (any (condition d))
condition_blank d = blank_as (condition_of d) (blank_joined (sign_blank d signs.OpenParenthesis) (blank_joined (expr_blank (suc d)) (sign_blank d signs.CloseParenthesis)))

pub entries_blank : (d : ℕ) → Blank (any (entries d))
entries_blank d = ([], (Nothing, refl))

-- a keyword that is not there could be
behind_while_fault : (limit d : ℕ) (symbols : List Symbol) (fault : Fault) → behind_while symbols ≡ Err fault → FaultStands limit (keyword d keywords.While) symbols fault
unfolding behind_while
behind_while_fault limit d (symbol.Keyword at keywords.While ∷ rest) fault e = no_fault _ fault e
behind_while_fault limit d symbols fault e = unexpected_stands limit (keyword d keywords.While) (keyword_blank d keywords.While).0 symbols fault (keyword_blank d keywords.While).1 e

-- ---- what statements begin with

pub goes_on_as : {d : ℕ} {A B : List Mark → Type 0} {s : Symbol} → ((marks : List Mark) → A marks → B marks) → GoesOn d A s → GoesOn d B s
goes_on_as {d} {s = s} f g = record { others = g.others; goes = f (record { symbol = s; depth = d } ∷ g.others) g.goes }

pub goes_on_with : {d : ℕ} {A B : List Mark → Type 0} {s : Symbol} → GoesOn d A s → Blank B → GoesOn d (A · B) s
goes_on_with {d} {s = s} g b = record {
  others = g.others ++ b.0;
  goes = record { front = record { symbol = s; depth = d } ∷ g.others; back = b.0; parts = refl; first = g.goes; second = b.1 };
}

-- an expression begins with the symbol
expr_begins : ExprGoesOn → (d : ℕ) (s : Symbol) (rest : List Symbol) → begins_expr C (s ∷ rest) ≡ true → GoesOn d (any (spells C d)) s
expr_begins goes_on d s rest e = let y = goes_on C d s rest e in record { others = y.0; goes = (y.1.0, y.1.2) }

-- a keyword alone
keyword_goes : (d at : ℕ) (k : Keyword) → GoesOn d (keyword d k) (symbol.Keyword at k)
keyword_goes d at k = record { others = []; goes = (at, refl) }

sign_goes : (d at : ℕ) (s : Sign) → GoesOn d (sign d s) (symbol.Sign at s)
sign_goes d at s = record { others = []; goes = (at, refl) }

token_goes : (d : ℕ) (s : Symbol) → GoesOn d (token d s) s
token_goes d s = record { others = []; goes = refl }

either_true : (a b : Bool) → (a || b) ≡ true → (a ≡ true) ⊎ (b ≡ true)
either_true true b e = inl refl
either_true false b e = inr e

-- a sign at the front is that sign
sign_at_front : (s : Sign) (x : Symbol) (rest : List Symbol) → begins_sign s (x ∷ rest) ≡ true → (at : ℕ) × (x ≡ symbol.Sign at s)
unfolding begins_sign
sign_at_front s (symbol.Sign at t) rest e = (at, ap (λ (t : Sign). symbol.Sign at t) (same_sign_is t s e))
sign_at_front s _ rest e = not_true e

module _ (entry : Bool) (d : ℕ) where
  so_goes : (at : ℕ) (k : Keyword) → begins_so k ≡ true → GoesOn d (any (statement entry d)) (symbol.Keyword at k)
  so_goes at keywords.Return e = goes_on_as (returned_of entry d at) (goes_on_with (token_goes d (symbol.Keyword at keywords.Return)) (blank_joined (maybe_blank (spells C d)) (sign_blank d signs.Semicolon)))
  so_goes at keywords.Break e = goes_on_as (λ m j. (Broken at, j)) (goes_on_with (token_goes d (symbol.Keyword at keywords.Break)) (sign_blank d signs.Semicolon))
  so_goes at keywords.Continue e = goes_on_as (λ m j. (Continued at, j)) (goes_on_with (token_goes d (symbol.Keyword at keywords.Continue)) (sign_blank d signs.Semicolon))
  so_goes at keywords.If e = goes_on_as (conditional_of entry d) (goes_on_with (keyword_goes d at keywords.If) (blank_joined (condition_blank d) (statement_blank false (suc d))))
  so_goes at keywords.While e = goes_on_as (looped_of entry d) (goes_on_with (keyword_goes d at keywords.While) (blank_joined (condition_blank d) (statement_blank false (suc d))))
  so_goes at keywords.Do e = goes_on_as (repeated_of entry d)
      (goes_on_with (keyword_goes d at keywords.Do) (blank_joined (statement_blank false (suc d)) (blank_joined (keyword_blank d keywords.While) (blank_joined (condition_blank d) (sign_blank d signs.Semicolon)))))
  so_goes at keywords.For e = goes_on_as (counted_of entry d)
      (goes_on_with (keyword_goes d at keywords.For)
      (blank_joined (sign_blank d signs.OpenParenthesis)
      (blank_joined (blank_joined ([], (NoStart, refl)) (sign_blank d signs.Semicolon))
      (blank_joined (blank_joined (maybe_blank (spells C d)) (sign_blank d signs.Semicolon))
      (blank_joined (blank_joined (maybe_blank (spells C d)) (sign_blank d signs.CloseParenthesis)) (statement_blank false (suc d)))))))
  so_goes at _ e = not_true e

  keyword_begins : (s : Symbol) (rest : List Symbol) → begins_keyword (s ∷ rest) ≡ true → GoesOn d (any (statement entry d)) s
  unfolding begins_keyword
  keyword_begins (symbol.Keyword at k) rest e = so_goes at k e
  keyword_begins _ rest e = not_true e

  -- a symbol that a statement may begin with begins one
  statement_begins : ExprGoesOn → (s : Symbol) (rest : List Symbol) → begins_statement (s ∷ rest) ≡ true → GoesOn d (any (statement entry d)) s
  statement_begins goes_on s rest e =
      let symbols = s ∷ rest in
      let brace = begins_sign signs.OpenBrace symbols in
      let semicolon = begins_sign signs.Semicolon symbols in
      let worded = begins_keyword symbols in
      elim (either_true ((brace || semicolon) || worded) (begins_expr C symbols) e) [
        | inr x ↦ goes_on_as (evaluated_of entry d) (goes_on_with (expr_begins goes_on d s rest x) (sign_blank d signs.Semicolon))
        | inl x ↦ elim (either_true (brace || semicolon) worded x) [
          | inr x ↦ keyword_begins s rest x
          | inl x ↦ elim (either_true brace semicolon x) [
            | inl x ↦
                let is = sign_at_front signs.OpenBrace s rest x in
                subst (GoesOn d (any (statement entry d))) (sym is.1)
                (goes_on_as (compound_of entry d) (goes_on_with (sign_goes d is.0 signs.OpenBrace) (blank_joined (entries_blank (suc d)) (sign_blank d signs.CloseBrace))))
            | inr x ↦
                let is = sign_at_front signs.Semicolon s rest x in
                subst (GoesOn d (any (statement entry d))) (sym is.1) (goes_on_as (λ m y. (Empty, y)) (sign_goes d is.0 signs.Semicolon))
          ]
        ]
      ]

-- a type of one keyword
plain_begins : (d at : ℕ) (k : Keyword) (b : Base) → ((marks : List Mark) → keyword d k marks → bare_base d b marks) → GoesOn d (some_base d) (symbol.Keyword at k)
plain_begins d at k b f = goes_on_as (λ m t. (b, record { front = []; back = m; parts = refl; first = inl refl; second = f m t })) (keyword_goes d at k)

-- a type begins with the symbol
base_begins : (d : ℕ) (s : Symbol) (rest : List Symbol) → begins_base (s ∷ rest) ≡ true → GoesOn d (some_base d) s
unfolding begins_base
base_begins d (symbol.Keyword at keywords.Const) rest e = goes_on_as (λ m j. (base.Char, rejoined j (inr j.first) j.second)) (goes_on_with (keyword_goes d at keywords.Const) (keyword_blank d keywords.Char))
base_begins d (symbol.Keyword at keywords.Char) rest e = plain_begins d at keywords.Char base.Char (λ m k. k)
base_begins d (symbol.Keyword at keywords.Int) rest e = plain_begins d at keywords.Int base.Int (λ m k. k)
base_begins d (symbol.Keyword at keywords.Long) rest e = plain_begins d at keywords.Long base.Long (λ m k. k)
base_begins d (symbol.Keyword at keywords.Mutex) rest e = plain_begins d at keywords.Mutex base.Mutex (λ m k. k)
base_begins d (symbol.Keyword at keywords.Struct) rest e = goes_on_as
    (λ m j. (base.Struct j.second.0, record { front = []; back = m; parts = refl; first = inl refl; second = rejoined j j.first j.second.1 }))
    (goes_on_with (keyword_goes d at keywords.Struct) (name_blank d))
base_begins d _ rest e = not_true e

locals_blank : (d : ℕ) → Blank (some_separated d (local d))
locals_blank d = let b = local_blank d in (b.0, (b.1.0, [], b.1.1))

-- a symbol that an entry of a block may begin with begins one
entry_begins : ExprGoesOn → (d : ℕ) (s : Symbol) (rest : List Symbol) → begins_entry (s ∷ rest) ≡ true → GoesOn d (any (statement true d)) s
entry_begins goes_on d s rest e = elim (either_true (begins_base (s ∷ rest)) (begins_statement (s ∷ rest)) e) [
  | inl x ↦ goes_on_as (declared_of d) (goes_on_with (goes_on_as (declaration_of d) (goes_on_with (base_begins d s rest x) (locals_blank d))) (sign_blank d signs.Semicolon))
  | inr x ↦ statement_begins true d goes_on s rest x
]

no_expr : begins_expr C [] ≡ false
unfolding begins_expr
no_expr = refl

no_statement : begins_statement [] ≡ false
unfolding begins_sign begins_keyword begins_expr
no_statement = refl

no_entry : begins_entry [] ≡ false
unfolding begins_base begins_sign begins_keyword begins_expr
no_entry = refl

module _ (law : ExprStands) (faults : ExprFaultStands) (goes_on : ExprGoesOn) where
  -- ---- expressions

  expr_breaks : (limit n d : ℕ) → d + n ≡ limit → ReadFaults limit (any (spells C d)) (expr_at C n)
  expr_breaks limit n d whole symbols fault e = fault_as (any (spells C d)) (λ m s. (s.0, s.2))
      (subst (λ (k : ℕ). FaultStands k (some_expr C 0 d) symbols fault) whole (faults C n d symbols fault e))

  deep_expr_breaks : (limit n d : ℕ) → d + n ≡ limit → ReadFaults limit (any (spells C (suc d))) (deep_expr_at n)
  deep_expr_breaks limit zero d whole symbols fault e =
      refused_fault {A = Term × List Symbol} limit (suc d) (begins_expr C) (any (spells C (suc d))) (omega arith) no_expr (expr_blank (suc d)) (expr_begins goes_on (suc d)) symbols fault e
  deep_expr_breaks limit (suc n) d whole symbols fault e =
      let deeper : suc d + n ≡ limit = omega arith in
      expr_breaks limit n (suc d) deeper symbols fault e

  -- ---- parts

  part_breaks : (limit d : ℕ) (b : Option Blocks) → AreBreaking limit d b → ReadFaults limit (any (statement false (suc d))) (part_at b)
  unfolding part_at
  part_breaks limit d None deep symbols fault e =
      refused_fault {A = Statement × List Symbol} limit (suc d) begins_statement (any (statement false (suc d))) deep no_statement (statement_blank false (suc d)) (statement_begins false (suc d) goes_on) symbols fault e
  part_breaks limit d (Some b) breaks symbols fault e = breaks.statement_breaks symbols fault e

  block_breaks : (limit d : ℕ) (b : Option Blocks) → AreBreaking limit d b → ReadFaults limit (any (entries (suc d)) · sign d signs.CloseBrace) (block_behind b)
  unfolding block_behind
  block_breaks limit d None deep symbols fault e = elim (chosen (begins_sign signs.CloseBrace symbols) _ _ (Err fault) e) [
    | inl c ↦ no_fault _ fault c.1
    | inr c ↦ refused_fault {A = List Statement × List Symbol} limit (suc d) begins_entry (any (entries (suc d)) · sign d signs.CloseBrace) deep no_entry (blank_joined (entries_blank (suc d)) (sign_blank d signs.CloseBrace))
        (λ s rest t. goes_on_with (goes_on_as (λ m j. (More j.first.0 j.second.0, rejoined j j.first.1 j.second.1)) (goes_on_with (entry_begins goes_on (suc d) s rest t) (entries_blank (suc d)))) (sign_blank d signs.CloseBrace))
        symbols fault c.1
  ]
  block_breaks limit d (Some b) breaks symbols fault e = breaks.entries_breaks symbols fault e

  module _ (limit d n : ℕ) (whole : d + n ≡ limit) where
    low : d ≤ limit
    low = within law limit d n whole

    expr_here : (symbols : List Symbol) (x : Term × List Symbol) → expr_at C n symbols ≡ Ok x → Stands limit (any (spells C d)) symbols x.1
    expr_here symbols x r = any_stands (spells C d) x.0 (expr_reads law limit n d whole symbols x r)

    condition_fault : ReadFaults limit (any (condition d)) (condition_at n)
    unfolding condition_at
    condition_fault symbols fault e =
        let deep_here : (y : List Symbol) (x : Term × List Symbol) → deep_expr_at n y ≡ Ok x → Stands limit (any (spells C (suc d))) y x.1 = λ y x r. any_stands (spells C (suc d)) x.0 (deep_expr_reads law limit n d whole y x r) in
        fault_as (any (condition d)) (condition_of d)
        (parts_fault (behind signs.OpenParenthesis symbols) _ fault (λ x. x) e (behind_fault limit d signs.OpenParenthesis symbols fault) (λ x r. behind_stands limit d signs.OpenParenthesis symbols x low r)
        (blank_joined (expr_blank (suc d)) (sign_blank d signs.CloseParenthesis))
        (λ y r w. parts_fault (deep_expr_at n y) _ fault (λ x. x.1) w (deep_expr_breaks limit n d whole y fault) (deep_here y) (sign_blank d signs.CloseParenthesis)
        (λ x r w. behind_fault limit d signs.CloseParenthesis x.1 fault (last_fault (behind signs.CloseParenthesis x.1) _ fault w))))

    condition_here : (symbols : List Symbol) (x : Term × List Symbol) → condition_at n symbols ≡ Ok x → Stands limit (any (condition d)) symbols x.1
    condition_here symbols x r = any_stands (condition d) x.0 (condition_at_stands law limit d n whole symbols x r)

    ended_fault : (s : Sign) → ReadFaults limit (any (maybe (spells C d)) · sign d s) (ended_at n s)
    unfolding ended_at
    ended_fault s symbols fault e =
        elim (chosen (begins_sign s symbols) _ _ (Err fault) e) [
          | inl c ↦ no_fault _ fault c.1
          | inr c ↦ fault_as (any (maybe (spells C d)) · sign d s) (λ m j. rejoined j (Some j.first.0, j.first.1) j.second)
              (parts_fault (expr_at C n symbols) _ fault (λ x. x.1) c.1 (expr_breaks limit n d whole symbols fault) (expr_here symbols) (sign_blank d s)
              (λ x r w. behind_fault limit d s x.1 fault (last_fault (behind s x.1) _ fault w)))
        ]

    ended_here : (s : Sign) (symbols : List Symbol) (x : Option Term × List Symbol) → ended_at n s symbols ≡ Ok x → Stands limit (any (maybe (spells C d)) · sign d s) symbols x.1
    ended_here s symbols x r = stands_as (any (maybe (spells C d)) · sign d s) (λ m j. rejoined j (x.0, j.first) j.second) (ended_at_stands law limit d n whole s symbols x r)

    -- a declaration and its semicolon
    declared_fault : {Y : Type 0} (f : Declaration → List Symbol → Y) (symbols : List Symbol) (fault : Fault) → (declaration_at n symbols >>= λ x. behind signs.Semicolon x.1 >>= λ rest. Ok (f x.0 rest)) ≡ Err fault
        → FaultStands limit (any (declaration d) · sign d signs.Semicolon) symbols fault
    declared_fault f symbols fault e =
        parts_fault (declaration_at n symbols) _ fault (λ x. x.1) e (declaration_at_fault limit d low n (expr_reads law limit n d whole) (expr_breaks limit n d whole) symbols fault)
        (λ x r. any_stands (declaration d) x.0 (declaration_at_stands limit d low n (expr_reads law limit n d whole) symbols x r)) (sign_blank d signs.Semicolon)
        (λ x r w. behind_fault limit d signs.Semicolon x.1 fault (last_fault (behind signs.Semicolon x.1) _ fault w))

    start_fault : ReadFaults limit (any (for_start d) · sign d signs.Semicolon) (start_at n)
    unfolding start_at
    start_fault symbols fault e =
        elim (chosen (begins_sign signs.Semicolon symbols) _ _ (Err fault) e) [
          | inl c ↦ no_fault _ fault c.1
          | inr c ↦ elim (chosen (begins_base symbols) _ _ (Err fault) c.1) [
            | inl c ↦ fault_as (any (for_start d) · sign d signs.Semicolon) (λ m j. rejoined j (Declares j.first.0, j.first.1) j.second) (declared_fault _ symbols fault c.1)
            | inr c ↦ fault_as (any (for_start d) · sign d signs.Semicolon) (λ m j. rejoined j (Evaluates j.first.0, j.first.1) j.second)
                (parts_fault (expr_at C n symbols) _ fault (λ x. x.1) c.1 (expr_breaks limit n d whole symbols fault) (expr_here symbols) (sign_blank d signs.Semicolon)
                (λ x r w. behind_fault limit d signs.Semicolon x.1 fault (last_fault (behind signs.Semicolon x.1) _ fault w)))
          ]
        ]

    start_here : (symbols : List Symbol) (x : Start × List Symbol) → start_at n symbols ≡ Ok x → Stands limit (any (for_start d) · sign d signs.Semicolon) symbols x.1
    start_here symbols x r = stands_as (any (for_start d) · sign d signs.Semicolon) (λ m j. rejoined j (x.0, j.first) j.second) (start_at_stands law limit d n whole symbols x r)

    module _ (b : Option Blocks) (sound : AreSound limit d b) (breaks : AreBreaking limit d b) where
      part_is : (symbols : List Symbol) (x : Statement × List Symbol) → part_at b symbols ≡ Ok x → StatementStands limit false (suc d) symbols x
      part_is = part_at_stands law limit d n whole b sound

      part_fault : ReadFaults limit (any (statement false (suc d))) (part_at b)
      part_fault = part_breaks limit d b breaks

      part_here : (symbols : List Symbol) (x : Statement × List Symbol) → part_at b symbols ≡ Ok x → Stands limit (any (statement false (suc d))) symbols x.1
      part_here symbols x r = any_stands (statement false (suc d)) x.0 (part_is symbols x r).stands

      module _ (entry : Bool) where
        evaluated_fault : ReadFaults limit (any (statement entry d)) (evaluated_at n)
        unfolding evaluated_at
        evaluated_fault symbols fault e =
            fault_as (any (statement entry d)) (evaluated_of entry d)
            (parts_fault (expr_at C n symbols) _ fault (λ x. x.1) e (expr_breaks limit n d whole symbols fault) (expr_here symbols) (sign_blank d signs.Semicolon)
            (λ x r w. behind_fault limit d signs.Semicolon x.1 fault (last_fault (behind signs.Semicolon x.1) _ fault w)))

        else_fault : (at : ℕ) (c : Term) (s : Statement) (symbols middle front : List Symbol) (fault : Fault) → Stands limit (condition d c) symbols middle → StatementStands limit false (suc d) middle (s, front)
            → else_at b c s front ≡ Err fault → FaultStands limit (any (statement entry d)) (symbol.Keyword at keywords.If ∷ symbols) fault
        unfolding else_at
        else_fault at c s symbols middle front fault first second e =
            elim (picked (behind_else front) _ _ (Err fault) e) [
              | inl none ↦ no_fault _ fault none.1
              | inr some ↦ fault_as (any (statement entry d)) (alternative_of entry d c s (before_else (ends_open s) front some.0 second.no_else some.1))
                  (fault_behind (keyword_stands limit d at keywords.If symbols low)
                  (fault_behind first
                  (fault_behind second.stands
                  (fault_behind (behind_else_stands limit d front some.0 low some.1) (part_fault some.0 fault (last_fault (part_at b some.0) _ fault some.2))))))
            ]

        if_fault : (at : ℕ) (symbols : List Symbol) (fault : Fault) → if_behind n b symbols ≡ Err fault → FaultStands limit (any (statement entry d)) (symbol.Keyword at keywords.If ∷ symbols) fault
        unfolding if_behind
        if_fault at symbols fault e =
            let led = keyword_stands limit d at keywords.If symbols low in
            elim (bind_err (condition_at n symbols) _ fault e) [
              | inl w ↦ fault_as (any (statement entry d)) (conditional_of entry d)
                  (fault_behind led (fault_before (any (statement false (suc d))) (statement_blank false (suc d)).0 (statement_blank false (suc d)).1 (condition_fault symbols fault w)))
              | inr c ↦ elim (bind_err (part_at b c.0.1) _ fault c.2) [
                | inl w ↦ fault_as (any (statement entry d)) (conditional_of entry d) (fault_behind led (fault_behind (condition_here symbols c.0 c.1) (part_fault c.0.1 fault w)))
                | inr s ↦ else_fault at c.0.0 s.0.0 symbols c.0.1 s.0.1 fault (condition_at_stands law limit d n whole symbols c.0 c.1) (part_is c.0.1 s.0 s.1) s.2
              ]
            ]

        while_fault : (at : ℕ) (symbols : List Symbol) (fault : Fault) → while_behind n b symbols ≡ Err fault → FaultStands limit (any (statement entry d)) (symbol.Keyword at keywords.While ∷ symbols) fault
        unfolding while_behind
        while_fault at symbols fault e =
            fault_as (any (statement entry d)) (looped_of entry d)
            (fault_behind (keyword_stands limit d at keywords.While symbols low)
            (parts_fault (condition_at n symbols) _ fault (λ x. x.1) e (condition_fault symbols fault) (condition_here symbols) (statement_blank false (suc d))
            (λ c r w. part_fault c.1 fault (last_fault (part_at b c.1) _ fault w))))

        do_fault : (at : ℕ) (symbols : List Symbol) (fault : Fault) → do_behind n b symbols ≡ Err fault → FaultStands limit (any (statement entry d)) (symbol.Keyword at keywords.Do ∷ symbols) fault
        unfolding do_behind
        do_fault at symbols fault e =
            let closing = blank_joined (condition_blank d) (sign_blank d signs.Semicolon) in
            fault_as (any (statement entry d)) (repeated_of entry d)
            (fault_behind (keyword_stands limit d at keywords.Do symbols low)
            (parts_fault (part_at b symbols) _ fault (λ x. x.1) e (part_fault symbols fault) (part_here symbols) (blank_joined (keyword_blank d keywords.While) closing)
            (λ s r w. parts_fault (behind_while s.1) _ fault (λ x. x) w (behind_while_fault limit d s.1 fault) (λ x r. behind_while_stands limit d s.1 x low r) closing
            (λ y r w. parts_fault (condition_at n y) _ fault (λ x. x.1) w (condition_fault y fault) (condition_here y) (sign_blank d signs.Semicolon)
            (λ c r w. behind_fault limit d signs.Semicolon c.1 fault (last_fault (behind signs.Semicolon c.1) _ fault w))))))

        for_fault : (at : ℕ) (symbols : List Symbol) (fault : Fault) → for_behind n b symbols ≡ Err fault → FaultStands limit (any (statement entry d)) (symbol.Keyword at keywords.For ∷ symbols) fault
        unfolding for_behind
        for_fault at symbols fault e =
            let last = statement_blank false (suc d) in
            let stepping = blank_joined (blank_joined (maybe_blank (spells C d)) (sign_blank d signs.CloseParenthesis)) last in
            let testing = blank_joined (blank_joined (maybe_blank (spells C d)) (sign_blank d signs.Semicolon)) stepping in
            let starting : Blank (any (for_start d) · sign d signs.Semicolon) = blank_joined ([], (NoStart, refl)) (sign_blank d signs.Semicolon) in
            fault_as (any (statement entry d)) (counted_of entry d)
            (fault_behind (keyword_stands limit d at keywords.For symbols low)
            (parts_fault (behind signs.OpenParenthesis symbols) _ fault (λ x. x) e (behind_fault limit d signs.OpenParenthesis symbols fault) (λ x r. behind_stands limit d signs.OpenParenthesis symbols x low r) (blank_joined starting testing)
            (λ y r w. parts_fault (start_at n y) _ fault (λ x. x.1) w (start_fault y fault) (start_here y) testing
            (λ i r w. parts_fault (ended_at n signs.Semicolon i.1) _ fault (λ x. x.1) w (ended_fault signs.Semicolon i.1 fault) (ended_here signs.Semicolon i.1) stepping
            (λ t r w. parts_fault (ended_at n signs.CloseParenthesis t.1) _ fault (λ x. x.1) w (ended_fault signs.CloseParenthesis t.1 fault) (ended_here signs.CloseParenthesis t.1) last
            (λ u r w. part_fault u.1 fault (last_fault (part_at b u.1) _ fault w)))))))

        worded_fault : (at : ℕ) (k : Keyword) (rest : List Symbol) (fault : Fault) → worded_at n b at k (symbol.Keyword at k ∷ rest) rest ≡ Err fault → FaultStands limit (any (statement entry d)) (symbol.Keyword at k ∷ rest) fault
        unfolding worded_at
        worded_fault at keywords.Return rest fault e =
            fault_as (any (statement entry d)) (returned_of entry d at)
            (fault_behind (token_stands limit d (symbol.Keyword at keywords.Return) rest low) (ended_fault signs.Semicolon rest fault (last_fault (ended_at n signs.Semicolon rest) _ fault e)))
        worded_fault at keywords.Break rest fault e =
            fault_as (any (statement entry d)) (λ m j. (Broken at, j))
            (fault_behind (token_stands limit d (symbol.Keyword at keywords.Break) rest low) (behind_fault limit d signs.Semicolon rest fault (last_fault (behind signs.Semicolon rest) _ fault e)))
        worded_fault at keywords.Continue rest fault e =
            fault_as (any (statement entry d)) (λ m j. (Continued at, j))
            (fault_behind (token_stands limit d (symbol.Keyword at keywords.Continue) rest low) (behind_fault limit d signs.Semicolon rest fault (last_fault (behind signs.Semicolon rest) _ fault e)))
        worded_fault at keywords.If rest fault e = if_fault at rest fault e
        worded_fault at keywords.While rest fault e = while_fault at rest fault e
        worded_fault at keywords.Do rest fault e = do_fault at rest fault e
        worded_fault at keywords.For rest fault e = for_fault at rest fault e
        worded_fault at k rest fault e = evaluated_fault (symbol.Keyword at k ∷ rest) fault e

        signed_fault : (at : ℕ) (s : Sign) (rest : List Symbol) (fault : Fault) → signed_at n b s (symbol.Sign at s ∷ rest) rest ≡ Err fault → FaultStands limit (any (statement entry d)) (symbol.Sign at s ∷ rest) fault
        unfolding signed_at
        signed_fault at s rest fault e =
            elim (chosen (same_sign s signs.OpenBrace) _ _ (Err fault) e) [
              | inl c ↦ subst (λ (t : Sign). FaultStands limit (any (statement entry d)) (symbol.Sign at t ∷ rest) fault) (sym (same_sign_is s signs.OpenBrace c.0))
                  (fault_as (any (statement entry d)) (compound_of entry d)
                  (fault_behind (sign_stands limit d at signs.OpenBrace rest low) (block_breaks limit d b breaks rest fault (last_fault (block_behind b rest) _ fault c.1))))
              | inr c ↦ elim (chosen (same_sign s signs.Semicolon) _ _ (Err fault) c.1) [
                | inl c ↦ no_fault _ fault c.1
                | inr c ↦ evaluated_fault (symbol.Sign at s ∷ rest) fault c.1
              ]
            ]

        statement_fault : ReadFaults limit (any (statement entry d)) (statement_at n b)
        unfolding statement_at
        statement_fault [] fault e = unexpected_stands limit (any (statement entry d)) (statement_blank entry d).0 [] fault (statement_blank entry d).1 e
        statement_fault (symbol.Keyword at k ∷ rest) fault e = worded_fault at k rest fault e
        statement_fault (symbol.Sign at s ∷ rest) fault e = signed_fault at s rest fault e
        statement_fault (other ∷ rest) fault e = evaluated_fault (other ∷ rest) fault e

      entry_fault : ReadFaults limit (any (statement true d)) (entry_at n b)
      unfolding entry_at
      entry_fault symbols fault e =
          elim (chosen (begins_base symbols) _ _ (Err fault) e) [
            | inl c ↦ fault_as (any (statement true d)) (declared_of d) (declared_fault _ symbols fault c.1)
            | inr c ↦ statement_fault true symbols fault c.1
          ]

      entries_fault : (k : ℕ) → ReadFaults limit (any (entries d) · sign k signs.CloseBrace) (entries_at n b)
      unfolding entries_at
      entries_fault k symbols fault e =
          let all = until_at_fault limit (begins_sign signs.CloseBrace) (statement true d) (entry_at n b) (entry_at_stands law limit d n whole b sound) entry_fault (length symbols) [] symbols fault
          (last_fault (until_at (begins_sign signs.CloseBrace) (entry_at n b) (length symbols) [] symbols) _ fault e) in
          fault_before (sign k signs.CloseBrace) (sign_blank k signs.CloseBrace).0 (sign_blank k signs.CloseBrace).1 (fault_as (any (entries d)) (λ m l. (statements_of l.0, entries_of d l.0 m l.1)) all)

  -- what reads one deeper breaks off where the fault tells
  blocks_break : (limit n d : ℕ) → d + n ≡ limit → AreBreaking limit d (blocks n)
  unfolding blocks
  blocks_break limit zero d whole = omega arith
  blocks_break limit (suc n) d whole =
      let deeper : suc d + n ≡ limit = omega arith in
      let sound = blocks_sound law limit n (suc d) deeper in
      let below = blocks_break limit n (suc d) deeper in
      record {
        statement_breaks = statement_fault limit (suc d) n deeper (blocks n) sound below false;
        entries_breaks = entries_fault limit (suc d) n deeper (blocks n) sound below d;
      }

  -- the entries of a block and its closing brace
  pub body_breaks : (limit n d : ℕ) → d + n ≡ limit → ReadFaults limit (any (entries (suc d)) · sign d signs.CloseBrace) (block_behind (blocks n))
  body_breaks limit n d whole = block_breaks limit d (blocks n) (blocks_break limit n d whole)
