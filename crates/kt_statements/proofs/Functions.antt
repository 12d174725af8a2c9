-- Parameters and bodies of functions.
use Rattle.std.proofs.Common.{◌≡◌, ◌+◌, ◌≤◌, List, [], ◌∷◌, length, Option, None, Some, Result, Ok, refl, sym, ap, ◌∙◌, subst, arith}
use Rattle.kt_syntax.specs.declared.tree.Parameter.{Parameter}
use Rattle.kt_syntax.specs.Tree.{Definition}
use Rattle.kt_tree.specs.declared.stmt.Stmt.{Stmt}
use Rattle.kt_typing.specs.declared.fault.Fault.{Fault}
use Rattle.kt_program.specs.Functions.{nowhere, parameter, parameters, behind_parameters, body_judged}
use Rattle.kt_program.specs.Judgments.{Judgment, Judgments, Held, NoMore, And}
use Rattle.kt_program.specs.Made.{joined}
use Rattle.kt_program.specs.Scopes.{Place, Visible, declared}
use Rattle.kt_statements.specs.declared.scopes.Body.{Body}
use Rattle.kt_statements.specs.declared.scopes.Local.{Local}
use Rattle.kt_statements.specs.declared.scopes.Scopes.{Scopes}
use Rattle.kt_statements.specs.Functions.{locals_of_body, body_at, behind_body}
use Rattle.kt_statements.specs.Judged.{Judges, JudgesLines, lines_made, appended_of}
use Rattle.kt_statements.specs.Scopes.{body_of, place_of, latest_first, meaning_in, Shows, Fits}
use Rattle.kt_statements.proofs.Entries.{Goes, goes-first, goes-next, goes-last, more-lines, appended-none}
use Rattle.kt_statements.proofs.Judged.{joined-judged}
use Rattle.kt_statements.proofs.Places.{Inside, inside-more, inside-entries, entries-next}
use Rattle.kt_statements.proofs.Shown.{length-visible}

abbrev Answers : Type 0
Answers = Result (List Stmt) Fault

pub record Heading (b : Body) (p : Place) (all : List Parameter) (s : Scopes) (rest : List Parameter) (done : Answers) : Type 0 where
  pub fits : Fits b s
  pub room : (place_of s).next + length rest ≤ length (body_of b).environment.scope.locals
  pub goes : Goes (parameters (body_of b) p all) (parameters (body_of b) (place_of s) rest) done
  pub place : behind_parameters (place_of s) rest ≡ behind_parameters p all

pub heading-first : (b : Body) (all : List Parameter) (s : Scopes) → Fits b s → (place_of s).next + length all ≤ length (body_of b).environment.scope.locals
    → Heading b (place_of s) all s all (Ok [])
heading-first b all s f h = record { fits = f; room = h; goes = goes-first (parameters (body_of b) (place_of s) all); place = refl }

pub heading-next : (b : Body) (p : Place) (all : List Parameter) (s t : Scopes) (x : Parameter) (rest : List Parameter) (done one new : Answers)
    → Heading b p all s (x ∷ rest) done → Judges lines_made (parameter (body_of b) (place_of s) x) one → new ≡ appended_of done one
    → Fits b t → place_of t ≡ declared (place_of s) x.name.word → Heading b p all t rest new
heading-next b p all s t x rest done one new d i e f at =
    let n = ap (λ (q : Place). q.next) at in
    let room = d.room in
    record {
      fits = f;
      room = omega arith;
      goes = subst (λ (q : Place). Goes (parameters (body_of b) p all) (parameters (body_of b) q rest) new) (sym at)
          (goes-next (parameters (body_of b) p all) (parameters (body_of b) (declared (place_of s) x.name.word) rest) (parameter (body_of b) (place_of s) x) done one new d.goes i e);
      place = ap (λ (q : Place). behind_parameters q rest) at ∙ d.place;
    }

pub heading-last : (b : Body) (p : Place) (all : List Parameter) (s : Scopes) (done : Answers) → Heading b p all s [] done
    → JudgesLines (parameters (body_of b) p all) done × (place_of s ≡ behind_parameters p all)
heading-last b p all s done d = (goes-last (parameters (body_of b) p all) done d.goes, d.place)

-- ---- places

pub parameters-next : (p : Place) (xs : List Parameter) → (behind_parameters p xs).next ≡ p.next + length xs
parameters-next p [] = omega arith
parameters-next p (x ∷ xs) =
    let e = parameters-next (declared p x.name.word) xs in
    omega arith

pub inside-parameters : (p : Place) (xs : List Parameter) → Inside p (behind_parameters p xs)
inside-parameters p [] = ([], refl)
inside-parameters p (x ∷ xs) =
    inside-more p (declared p x.name.word) (behind_parameters (declared p x.name.word) xs) (record { name = x.name.word; local = p.next } ∷ [], refl) (inside-parameters (declared p x.name.word) xs)

pub inside-body : (p : Place) (d : Option Definition) → Inside p (behind_body p d)
inside-body p None = ([], refl)
inside-body p (Some d) = inside-entries p d.entries

pub body-next : (p : Place) (d : Option Definition) → (behind_body p d).next ≡ p.next + locals_of_body d
body-next p None = omega arith
body-next p (Some d) = entries-next p d.entries

-- ---- a function inside

pub body-is : (b : Body) (xs : List Parameter) (d : Option Definition) → body_at (body_of b) (behind_parameters nowhere xs) d ≡ body_judged (body_of b) xs d
body-is b xs None = refl
body-is b xs (Some d) = refl

one-lines : (j : Judgment) (a : Answers) → Judges lines_made j a → JudgesLines (And j NoMore) a
one-lines j a h = subst (JudgesLines (And j NoMore)) (appended-none a) (more-lines j NoMore a (Ok []) h refl)

pub inside-judged : (js : Judgments) (j : Judgment) (a c r : Answers) → JudgesLines js a → Judges lines_made j c → r ≡ appended_of a c
    → Judges lines_made (Held None (And (Held None js joined) (And j NoMore)) joined) r
inside-judged js j a c r h i e =
    subst (Judges lines_made (Held None (And (Held None js joined) (And j NoMore)) joined)) (sym e)
    (joined-judged (And (Held None js joined) (And j NoMore)) (appended_of a c) (more-lines (Held None js joined) (And j NoMore) a c (joined-judged js a h) (one-lines j c i)))

none-left : (xs : List Local) → length xs ≡ 0 → xs ≡ []
none-left [] e = refl
none-left (x ∷ xs) e = absurd (omega arith)

-- outside of all scopes names mean what stands outside
pub outside-again : (b : Body) (s : Scopes) → Fits b s → (place_of s).visible ≡ [] → meaning_in s.names.entries ≡ (body_of b).environment.name
outside-again b s f e =
    let count = sym (length-visible s.locals.items) ∙ ap (λ (vs : List Visible). length vs) e in
    let none = none-left s.locals.items count in
    subst (λ (ls : List Local). Shows (body_of b).environment.scope.locals (body_of b).environment.name (meaning_in s.names.entries) (latest_first ls)) none f.shown
