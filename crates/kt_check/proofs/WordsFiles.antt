-- A typed file names points by names of points alone.
use Rattle.std.proofs.Common.{◌≡◌, ℕ, Bool, true, false, List, [], ◌∷◌, ◌++◌, map, Option, Some, None, Ok, refl, sym, ap, ◌∙◌}
use Rattle.std.specs.Prelude.{flat_map}
use Rattle.kt_grammar.specs.declared.tree.Base.{Base}
use Rattle.kt_grammar.specs.Tree.{Term}
use Rattle.kt_syntax.specs.declared.tree.Constant.{Constant}
use Rattle.kt_syntax.specs.declared.tree.Constant.TheVariants as written
use Rattle.kt_syntax.specs.declared.tree.GlobalDeclarator.{GlobalDeclarator}
use Rattle.kt_syntax.specs.Tree.{Local, Declaration, Start, NoStart, Declares, Evaluates, Statement as Syntax, Declared, Compound as Block, Empty, Evaluated as Expr, Returned as Return, Broken as Break, Continued as Continue, Conditional as If', Alternative as IfElse, Looped as While, Repeated as Do, Counted as For, Statements as Entries, Nothing as NoEntries, More as Entry, Definition, Routine, External, StructMentioned, StructDefined, GlobalsDeclared, FunctionDeclared}
use Rattle.kt_tree.specs.Tree.{Statement, Then, Compound, Evaluated, Conditional, Looped, Repeated, Returned, Done, LocalSet, Function}
use Rattle.kt_names.specs.declared.ctype.CType.{CType}
use Rattle.kt_names.specs.declared.fault.CheckFault.TheVariants.{BadType}
use Rattle.kt_names.specs.Checked.{Checked, and_then, fault}
use Rattle.kt_names.specs.Environment.{Environment}
use Rattle.kt_names.specs.Types.{ctype}
use Rattle.kt_names.specs.Operands.{convert}
use Rattle.kt_names.specs.Terms.{typing, first_token}
use Rattle.kt_names.specs.Uses.{stars_of, where_there}
use Rattle.kt_names.specs.Tables.{Written, term_written, declaration_written, start_written, statement_written, block_written, constant_written, external_written, written_of}
use Rattle.kt_names.specs.Statements.{Body, State, here, entered, declared, base_for, held, pointer_outside, new_name, initial, declarator_place, local, locals_from, locals, before, condition, effect_of, perhaps, returned, start, statement, entries}
use Rattle.kt_names.specs.Functions.{defined_function, body_in}
use Rattle.kt_check.specs.Files.{Frame, Sofar, outside, external, externals}
use Rattle.kt_check.proofs.FieldCells.{not-ok, then-parts, both-parts, all-both}
use Rattle.kt_check.proofs.Made.{function-made, body-function}
use Rattle.kt_check.proofs.PointWords.{IsPointWord}
use Rattle.kt_check.proofs.WordsTerms.{Words, If, term-words}

both-words : (us vs : List Written) → Words us → Words vs → Words (us ++ vs)
both-words us vs h k = all-both IsPointWord us vs h k

condition-words : (env : Environment) (a : Term) → If (condition env a) (Words (term_written a))
condition-words env a x e = let (o, typed, rest) = then-parts (typing env a) _ x e in term-words env a o typed

effect-words : (env : Environment) (a : Term) → If (effect_of env a) (Words (term_written a))
effect-words env a x e = let (o, typed, rest) = then-parts (typing env a) _ x e in term-words env a o typed

perhaps-words : {B : Type 0} (f : Term → Checked B) → ((a : Term) → If (f a) (Words (term_written a))) → (o : Option Term) → If (perhaps f o) (Words (where_there term_written o))
perhaps-words f h None x e = tt
perhaps-words f h (Some a) x e = let (y, one, is) = then-parts (f a) _ x e in h a y one

module _ (body : Body) where
  returned-words : (st : State) (at : ℕ) (o : Option Term) → If (returned body st at o) (Words (where_there term_written o))
  returned-words st at None x e = tt
  returned-words st at (Some a) x e = by body.result refl
    where
      by : (r : Option CType) → body.result ≡ r → Words (term_written a)
      by None is = absurd (not-ok _ x (sym (ap (λ (r : Option CType). elim r as (λ _. Checked Statement) [
        | None ↦ fault (BadType at)
        | (Some t) ↦ and_then (typing (here body st) a) (λ o. and_then (convert (here body st) t (first_token a) (first_token a) o) (λ v. Ok (Returned (Some v))))
      ]) is) ∙ e))
      by (Some t) is =
          let inside : and_then (typing (here body st) a) (λ o. and_then (convert (here body st) t (first_token a) (first_token a) o) (λ v. Ok (Returned (Some v)))) ≡ Ok x =
          sym (ap (λ (r : Option CType). elim r as (λ _. Checked Statement) [
            | None ↦ fault (BadType at)
            | (Some u) ↦ and_then (typing (here body st) a) (λ o. and_then (convert (here body st) u (first_token a) (first_token a) o) (λ v. Ok (Returned (Some v))))
          ]) is) ∙ e in
          let (o, typed, rest) = then-parts (typing (here body st) a) (λ o. and_then (convert (here body st) t (first_token a) (first_token a) o) (λ v. Ok (Returned (Some v)))) x inside in
          term-words (here body st) a o typed

  initial-words : (st : State) (n : ℕ) (t : CType) (up : ℕ) (o : Option Term) → If (initial body st n t up o) (Words (where_there term_written o))
  initial-words st n t up None x e = tt
  initial-words st n t up (Some a) x e =
      let (o, typed, rest) = then-parts (typing (here body st) a) (λ o. and_then (convert (here body st) t (first_token a) up o) (λ v. Ok (Evaluated (LocalSet n v)))) x e in
      term-words (here body st) a o typed

  local-words : (st : State) (b : Base) (l : Local) → If (local body st b l) (Words (where_there term_written l.initial))
  local-words st b l x e =
      let first = initial body (declared st l.name.word) st.next (ctype body.environment.names b (stars_of l.pointer)) (declarator_place l.pointer l.name) l.initial in
      let (y, parts, is) = then-parts _ _ x e in
      let (p0, p1) = both-parts (held (here body st) b l.pointer l.name) _ y parts in
      let (p2, p3) = both-parts (pointer_outside (here body st) l.pointer) _ y.1 p1 in
      let (p4, p5) = both-parts (new_name body st l.name) first y.1.1 p3 in
      initial-words (declared st l.name.word) st.next (ctype body.environment.names b (stars_of l.pointer)) (declarator_place l.pointer l.name) l.initial y.1.1.1 p5

  from-words : (b : Base) (ls : List Local) (st : State) → If (locals_from body st b ls) (Words (flat_map (λ l. where_there term_written l.initial) ls))
  from-words b [] st x e = tt
  from-words b (l ∷ ls) st x e =
      let (y, first, rest) = then-parts (local body st b l) _ x e in
      let (w, more, is) = then-parts (locals_from body y.1 b ls) (λ w. Ok (y.0 ∷ w.0, w.1)) x rest in
      both-words (where_there term_written l.initial) (flat_map (λ l. where_there term_written l.initial) ls) (local-words st b l y first) (from-words b ls y.1 w more)

  locals-words : (d : Declaration) (st : State) → If (locals body st d) (Words (declaration_written d))
  locals-words d st x e =
      let (u, based, rest) = then-parts (base_for (here body st) d.base (map (λ l. stars_of l.pointer) d.locals)) _ x e in
      from-words d.base d.locals st x rest

  start-words : (f : Start) (st : State) → If (start body st f) (Words (start_written f))
  start-words NoStart st x e = tt
  start-words (Declares d) st x e = locals-words d st x e
  start-words (Evaluates a) st x e = let (v, one, is) = then-parts (effect_of (here body st) a) _ x e in effect-words (here body st) a v one

  abbrev HasWords : Syntax → Type 0
  HasWords s = (in_loop : Bool) (st : State) → If (statement body in_loop st s) (Words (statement_written s))

  abbrev HaveWords : Entries → Type 0
  HaveWords es = (in_loop : Bool) (st : State) → If (entries body in_loop st es) (Words (block_written es))

  entry-words : (s : Syntax) (rest : Entries)
      → ((in_loop : Bool) (st : State) → entries body in_loop st (Entry s rest) ≡ and_then (statement body in_loop st s) (λ y. and_then (entries body in_loop (record st { next = y.1 }) rest) (λ w. Ok (Then y.0 w.0, w.1))))
      → HasWords s → HaveWords rest → HaveWords (Entry s rest)
  entry-words s rest same one more in_loop st x e =
      let (y, first, r1) = then-parts (statement body in_loop st s) (λ y. and_then (entries body in_loop (record st { next = y.1 }) rest) (λ w. Ok (Then y.0 w.0, w.1))) x (sym (same in_loop st) ∙ e) in
      let (w, second, is) = then-parts (entries body in_loop (record st { next = y.1 }) rest) (λ w. Ok (Then y.0 w.0, w.1)) x r1 in
      both-words (statement_written s) (block_written rest) (one in_loop st y first) (more in_loop (record st { next = y.1 }) w second)

  mutual
    statement-words : (s : Syntax) → HasWords s
    statement-words (Declared d) in_loop st x e =
        let (y, first, is) = then-parts (locals body (entered st) d) _ x e in
        locals-words d (entered st) y first
    statement-words (Block es) in_loop st x e =
        let (y, first, is) = then-parts (entries body in_loop (entered st) es) _ x e in
        entries-words es in_loop (entered st) y first
    statement-words Empty in_loop st x e = tt
    statement-words (Expr a) in_loop st x e =
        let (v, one, is) = then-parts (effect_of (here body st) a) _ x e in
        effect-words (here body st) a v one
    statement-words (Return at o) in_loop st x e =
        let (v, one, is) = then-parts (returned body st at o) _ x e in
        returned-words st at o v one
    statement-words (Break at) in_loop st x e = tt
    statement-words (Continue at) in_loop st x e = tt
    statement-words (If' c a) in_loop st x e =
        let (v, first, rest) = then-parts (condition (here body st) c) _ x e in
        let (y, second, is) = then-parts (statement body in_loop st a) (λ y. Ok (Conditional v y.0 (Compound Done), y.1)) x rest in
        both-words (term_written c) (statement_written a) (condition-words (here body st) c v first) (statement-words a in_loop st y second)
    statement-words (IfElse c a b) in_loop st x e =
        let (v, first, rest) = then-parts (condition (here body st) c) _ x e in
        let (y, second, more) = then-parts (statement body in_loop st a) (λ y. and_then (statement body in_loop (record st { next = y.1 }) b) (λ w. Ok (Conditional v y.0 w.0, w.1))) x rest in
        let (w, third, is) = then-parts (statement body in_loop (record st { next = y.1 }) b) (λ w. Ok (Conditional v y.0 w.0, w.1)) x more in
        both-words (term_written c) (statement_written a ++ statement_written b) (condition-words (here body st) c v first)
        (both-words (statement_written a) (statement_written b) (statement-words a in_loop st y second) (statement-words b in_loop (record st { next = y.1 }) w third))
    statement-words (While c a) in_loop st x e =
        let (v, first, rest) = then-parts (condition (here body st) c) _ x e in
        let (y, second, is) = then-parts (statement body true st a) (λ y. Ok (Looped (Some v) None y.0, y.1)) x rest in
        both-words (term_written c) (statement_written a) (condition-words (here body st) c v first) (statement-words a true st y second)
    statement-words (Do a c) in_loop st x e =
        let (y, first, rest) = then-parts (statement body true st a) _ x e in
        let (v, second, is) = then-parts (condition (here body st) c) (λ v. Ok (Repeated y.0 v, y.1)) x rest in
        both-words (statement_written a) (term_written c) (statement-words a true st y first) (condition-words (here body st) c v second)
    statement-words (For f test step a) in_loop st x e =
        let (g, first, r1) = then-parts (start body (entered st) f) _ x e in
        let (t, second, r2) = then-parts (perhaps (condition (here body g.1)) test) (λ t. and_then (perhaps (effect_of (here body g.1)) step) (λ u. and_then (statement body true g.1 a) (λ y. Ok (Compound (before g.0 (Then (Looped t u y.0) Done)), y.1)))) x r1 in
        let (u, third, r3) = then-parts (perhaps (effect_of (here body g.1)) step) (λ u. and_then (statement body true g.1 a) (λ y. Ok (Compound (before g.0 (Then (Looped t u y.0) Done)), y.1))) x r2 in
        let (y, fourth, is) = then-parts (statement body true g.1 a) (λ y. Ok (Compound (before g.0 (Then (Looped t u y.0) Done)), y.1)) x r3 in
        both-words (start_written f) (where_there term_written test ++ (where_there term_written step ++ statement_written a)) (start-words f (entered st) g first)
        (both-words (where_there term_written test) (where_there term_written step ++ statement_written a) (perhaps-words (condition (here body g.1)) (condition-words (here body g.1)) test t second)
        (both-words (where_there term_written step) (statement_written a) (perhaps-words (effect_of (here body g.1)) (effect-words (here body g.1)) step u third) (statement-words a true g.1 y fourth)))

    entries-words : (es : Entries) → HaveWords es
    entries-words NoEntries in_loop st x e = tt
    entries-words (Entry (Declared d) rest) in_loop st x e =
        let (y, first, r1) = then-parts (locals body st d) _ x e in
        let (w, second, is) = then-parts (entries body in_loop y.1 rest) (λ w. Ok (before y.0 w.0, w.1)) x r1 in
        both-words (declaration_written d) (block_written rest) (locals-words d st y first) (entries-words rest in_loop y.1 w second)
    entries-words (Entry s rest) in_loop st x e = entry-words s rest (λ l t. refl) (statement-words s) (entries-words rest) in_loop st x e

  pub block-words : (es : Entries) → HaveWords es
  block-words es in_loop st x e = entries-words es in_loop st x e

-- ---- files

constant-words : (c : Constant) → Words (constant_written c)
constant-words (written.Text at bytes) = (tt, tt)
constant-words (written.Number n) = tt
constant-words (written.Negative n) = tt
constant-words (written.Character b) = tt
constant-words written.Null = tt
constant-words written.Eof = tt
constant-words written.MutexInitializer = tt

globals-words : (gs : List GlobalDeclarator) → Words (flat_map (λ g. where_there constant_written g.initial) gs)
globals-words [] = tt
globals-words (g ∷ gs) = both-words (where_there constant_written g.initial) (flat_map (λ g. where_there constant_written g.initial) gs) (by g.initial) (globals-words gs)
  where
    by : (o : Option Constant) → Words (where_there constant_written o)
    by None = tt
    by (Some c) = constant-words c

body-words : (f : Frame) (s : Sofar) (r : Routine) (st : State) (o : Option Definition) (fs : List Function) → defined_function (outside f s) r st o ≡ Ok fs → Words (where_there (λ b. block_written b.entries) o)
body-words f s r st None fs e = tt
body-words f s r st (Some b) fs e =
    let (x, typed, is) = body-function f s r st b fs e in
    block-words (body_in (outside f s) r b.noted) b.entries false st x typed

external-words : (f : Frame) (s t : Sofar) (x : External) → external f s x ≡ Ok t → Words (external_written x)
external-words f s t (StructMentioned n) e = tt
external-words f s t (StructDefined n fs) e = tt
external-words f s t (GlobalsDeclared b gs) e = globals-words gs
external-words f s t (FunctionDeclared r) e =
    let (x, parts, fs, made, is) = function-made f s t r e in
    body-words f s r x.1.1.1.1 r.body fs made

-- all names of points that a typed file writes
pub file-words : (f : Frame) (xs : List External) (s z : Sofar) → externals f s xs ≡ Ok z → Words (written_of xs)
file-words f [] s z e = tt
file-words f (x ∷ xs) s z e =
    let (t, first, rest) = then-parts (external f s x) _ z e in
    both-words (external_written x) (written_of xs) (external-words f s t x first) (file-words f xs t z rest)
