-- The extents of a typed function's locals: each names a global or a number.
use Rattle.std.proofs.Common.{◌≡◌, ℕ, ◌==◌, Bool, true, List, [], ◌∷◌, map, Option, Some, None, Ok, if◌then◌else◌, refl, sym, ap, ◌∙◌}
use Rattle.std.specs.List.{AllByRecursion}
use Rattle.kt_grammar.specs.declared.tree.Base.{Base}
use Rattle.kt_syntax.specs.declared.tree.Extent.{Extent}
use Rattle.kt_syntax.specs.declared.tree.Extent.TheVariants as extent
use Rattle.kt_syntax.specs.declared.tree.Pointer.{Pointer}
use Rattle.kt_syntax.specs.declared.tree.Parameter.{Parameter}
use Rattle.kt_syntax.specs.Tree.{Local, Declaration, Start, NoStart, Declares, Evaluates, Statement as Syntax, Declared, Compound as Block, Empty, Evaluated as Expr, Returned as Return, Broken as Break, Continued as Continue, Conditional as If, Alternative as IfElse, Looped as While, Repeated as Do, Counted as For, Statements as Entries, Nothing as NoEntries, More as Entry}
use Rattle.kt_tree.specs.Tree.{Statement, Statements, Then, Compound, Conditional, Looped, Done}
use Rattle.kt_names.specs.declared.fault.CheckFault.TheVariants.{BadType}
use Rattle.kt_names.specs.Checked.{Checked, fault, and_then, both}
use Rattle.kt_names.specs.Types.{ctype, is_scalar}
use Rattle.kt_names.specs.Uses.{stars_of}
use Rattle.kt_names.specs.Tables.{DeclaredLocal, parameter_local, locals_in, start_locals, statement_locals, block_locals}
use Rattle.kt_names.specs.Statements.{Body, State, here, entered, declared, base_for, held, extent_outside, pointer_outside, new_name, local, locals_from, locals, before, condition, effect_of, perhaps, start, statement, entries}
use Rattle.kt_names.specs.Functions.{parameters}
use Rattle.kt_check.proofs.FieldCells.{then-parts, both-parts, holds-true, all-both}

extent-here : (body : Body) (st : State) (x : Extent) → extent_outside (here body st) x ≡ extent_outside body.environment x
extent-here body st (extent.Name n) = refl
extent-here body st (extent.Number at n) = refl

pointer-here : (body : Body) (st : State) (q : Option Pointer) → pointer_outside (here body st) q ≡ pointer_outside body.environment q
pointer-here body st None = refl
pointer-here body st (Some p) = ap (λ c. if p.stars.count == 0 then fault (BadType p.stars.at) else c) (by p.extent)
  where
    by : (x : Option Extent) → (elim x as (λ _. Checked (Unit {0})) [ None ↦ Ok tt | (Some e) ↦ extent_outside (here body st) e ]) ≡ (elim x as (λ _. Checked (Unit {0})) [ None ↦ Ok tt | (Some e) ↦ extent_outside body.environment e ])
    by None = refl
    by (Some x) = extent-here body st x

module _ (body : Body) where
  abbrev pub IsBound : DeclaredLocal → Type 0
  IsBound l = pointer_outside body.environment l.pointer ≡ Ok tt

  abbrev AllBound : List DeclaredLocal → Type 0
  AllBound ls = AllByRecursion IsBound ls

  abbrev local_in : Base → Local → DeclaredLocal
  local_in b l = record { name = l.name.word; ty = ctype body.environment.names b (stars_of l.pointer); base = b; pointer = l.pointer }

  local-bound : (st : State) (b : Base) (l : Local) (x : Statement × State) → local body st b l ≡ Ok x → IsBound (local_in b l)
  local-bound st b l x e =
      let (y, parts, is) = then-parts _ _ x e in
      let (held', p1) = both-parts (held (here body st) b l.pointer l.name) _ y parts in
      let (outside', p2) = both-parts (pointer_outside (here body st) l.pointer) _ y.1 p1 in
      sym (pointer-here body st l.pointer) ∙ outside'

  from-bound : (b : Base) (ls : List Local) (st : State) (x : List Statement × State) → locals_from body st b ls ≡ Ok x → AllBound (map (local_in b) ls)
  from-bound b [] st x e = tt
  from-bound b (l ∷ ls) st x e =
      let (y, first, rest) = then-parts (local body st b l) _ x e in
      let (w, more, is) = then-parts (locals_from body y.1 b ls) (λ w. Ok (y.0 ∷ w.0, w.1)) x rest in
      (local-bound st b l y first, from-bound b ls y.1 w more)

  locals-bound : (d : Declaration) (st : State) (x : List Statement × State) → locals body st d ≡ Ok x → AllBound (locals_in body.environment.names d)
  locals-bound d st x e =
      let (u, based, rest) = then-parts (base_for (here body st) d.base (map (λ l. stars_of l.pointer) d.locals)) _ x e in
      from-bound d.base d.locals st x rest

  start-bound : (f : Start) (st : State) (x : List Statement × State) → start body st f ≡ Ok x → AllBound (start_locals body.environment.names f)
  start-bound NoStart st x e = tt
  start-bound (Declares d) st x e = locals-bound d st x e
  start-bound (Evaluates t) st x e = tt

  abbrev IsBoundIn : Syntax → Type 0
  IsBoundIn s = (in_loop : Bool) (st : State) (x : Statement × ℕ) → statement body in_loop st s ≡ Ok x → AllBound (statement_locals body.environment.names s)

  abbrev AreBoundIn : Entries → Type 0
  AreBoundIn es = (in_loop : Bool) (st : State) (x : Statements × ℕ) → entries body in_loop st es ≡ Ok x → AllBound (block_locals body.environment.names es)

  entry-bound : (s : Syntax) (rest : Entries)
      → ((in_loop : Bool) (st : State) → entries body in_loop st (Entry s rest) ≡ and_then (statement body in_loop st s) (λ y. and_then (entries body in_loop (record st { next = y.1 }) rest) (λ w. Ok (Then y.0 w.0, w.1))))
      → IsBoundIn s → AreBoundIn rest → AreBoundIn (Entry s rest)
  entry-bound s rest same one more in_loop st x e =
      let (y, first, r1) = then-parts (statement body in_loop st s) (λ y. and_then (entries body in_loop (record st { next = y.1 }) rest) (λ w. Ok (Then y.0 w.0, w.1))) x (sym (same in_loop st) ∙ e) in
      let (w, second, is) = then-parts (entries body in_loop (record st { next = y.1 }) rest) (λ w. Ok (Then y.0 w.0, w.1)) x r1 in
      all-both IsBound (statement_locals body.environment.names s) (block_locals body.environment.names rest) (one in_loop st y first) (more in_loop (record st { next = y.1 }) w second)

  mutual
    statement-bound : (s : Syntax) (in_loop : Bool) (st : State) (x : Statement × ℕ) → statement body in_loop st s ≡ Ok x → AllBound (statement_locals body.environment.names s)
    statement-bound (Declared d) in_loop st x e =
        let (y, first, is) = then-parts (locals body (entered st) d) _ x e in
        locals-bound d (entered st) y first
    statement-bound (Block es) in_loop st x e =
        let (y, first, is) = then-parts (entries body in_loop (entered st) es) _ x e in
        entries-bound es in_loop (entered st) y first
    statement-bound Empty in_loop st x e = tt
    statement-bound (Expr t) in_loop st x e = tt
    statement-bound (Return at t) in_loop st x e = tt
    statement-bound (Break at) in_loop st x e = tt
    statement-bound (Continue at) in_loop st x e = tt
    statement-bound (If c a) in_loop st x e =
        let (v, first, rest) = then-parts (condition (here body st) c) _ x e in
        let (y, second, is) = then-parts (statement body in_loop st a) (λ y. Ok (Conditional v y.0 (Compound Done), y.1)) x rest in
        statement-bound a in_loop st y second
    statement-bound (IfElse c a b) in_loop st x e =
        let (v, first, rest) = then-parts (condition (here body st) c) _ x e in
        let (y, second, more) = then-parts (statement body in_loop st a) (λ y. and_then (statement body in_loop (record st { next = y.1 }) b) (λ w. Ok (Conditional v y.0 w.0, w.1))) x rest in
        let (w, third, is) = then-parts (statement body in_loop (record st { next = y.1 }) b) (λ w. Ok (Conditional v y.0 w.0, w.1)) x more in
        all-both IsBound (statement_locals body.environment.names a) (statement_locals body.environment.names b)
        (statement-bound a in_loop st y second) (statement-bound b in_loop (record st { next = y.1 }) w third)
    statement-bound (While c a) in_loop st x e =
        let (v, first, rest) = then-parts (condition (here body st) c) _ x e in
        let (y, second, is) = then-parts (statement body true st a) (λ y. Ok (Looped (Some v) None y.0, y.1)) x rest in
        statement-bound a true st y second
    statement-bound (Do a c) in_loop st x e =
        let (y, first, rest) = then-parts (statement body true st a) _ x e in
        statement-bound a true st y first
    statement-bound (For f test step a) in_loop st x e =
        let (g, first, r1) = then-parts (start body (entered st) f) _ x e in
        let (t, second, r2) = then-parts (perhaps (condition (here body g.1)) test) (λ t. and_then (perhaps (effect_of (here body g.1)) step) (λ u. and_then (statement body true g.1 a) (λ y. Ok (Compound (before g.0 (Then (Looped t u y.0) Done)), y.1)))) x r1 in
        let (u, third, r3) = then-parts (perhaps (effect_of (here body g.1)) step) (λ u. and_then (statement body true g.1 a) (λ y. Ok (Compound (before g.0 (Then (Looped t u y.0) Done)), y.1))) x r2 in
        let (y, fourth, is) = then-parts (statement body true g.1 a) (λ y. Ok (Compound (before g.0 (Then (Looped t u y.0) Done)), y.1)) x r3 in
        all-both IsBound (start_locals body.environment.names f) (statement_locals body.environment.names a) (start-bound f (entered st) g first) (statement-bound a true g.1 y fourth)

    entries-bound : (es : Entries) (in_loop : Bool) (st : State) (x : Statements × ℕ) → entries body in_loop st es ≡ Ok x → AllBound (block_locals body.environment.names es)
    entries-bound NoEntries in_loop st x e = tt
    entries-bound (Entry (Declared d) rest) in_loop st x e =
        let (y, first, r1) = then-parts (locals body st d) _ x e in
        let (w, second, is) = then-parts (entries body in_loop y.1 rest) (λ w. Ok (before y.0 w.0, w.1)) x r1 in
        all-both IsBound (locals_in body.environment.names d) (block_locals body.environment.names rest) (locals-bound d st y first) (entries-bound rest in_loop y.1 w second)
    entries-bound (Entry s rest) in_loop st x e = entry-bound s rest (λ l t. refl) (statement-bound s) (entries-bound rest) in_loop st x e

  pub body-bound : (es : Entries) (in_loop : Bool) (st : State) (x : Statements × ℕ) → entries body in_loop st es ≡ Ok x → AllBound (block_locals body.environment.names es)
  body-bound es in_loop st x e = entries-bound es in_loop st x e

  -- a parameter is an integer or a pointer, and its extent names a global or a number
  abbrev pub IsHeld : Parameter → Type 0
  IsHeld p = (is_scalar (parameter_local body.environment.names p).ty ≡ true) × IsBound (parameter_local body.environment.names p)

  pub parameters-held : (ps : List Parameter) (st z : State) → parameters body st ps ≡ Ok z → AllByRecursion IsHeld ps
  parameters-held [] st z e = tt
  parameters-held (p ∷ ps) st z e =
      let (u, based, r1) = then-parts (base_for body.environment p.base (stars_of p.pointer ∷ [])) _ z e in
      let (x, parts, r2) = then-parts (both (held body.environment p.base p.pointer p.name) (both (pointer_outside body.environment p.pointer) (new_name body st p.name))) (λ x. parameters body (declared st p.name.word) ps) z r1 in
      let (held', p1) = both-parts (held body.environment p.base p.pointer p.name) _ x parts in
      let (bound, p2) = both-parts (pointer_outside body.environment p.pointer) (new_name body st p.name) x.1 p1 in
      ((holds-true _ _ x.0 held', bound), parameters-held ps (declared st p.name.word) z r2)

  pub parameters-bound : (ps : List Parameter) → AllByRecursion IsHeld ps → AllBound (map (parameter_local body.environment.names) ps)
  parameters-bound [] h = tt
  parameters-bound (p ∷ ps) h = (h.0.1, parameters-bound ps h.1)
