-- Answers one behind another.
use Rattle.std.proofs.Common.{◌≡◌, ◌+◌, ◌≤◌, Bool, true, false, List, [], ◌∷◌, ◌++◌, length, map, Option, Some, None, Result, Ok, Err, refl, sym, ap, ◌∙◌, subst, append_assoc, append-nil, arith}
use Rattle.std.specs.Option.{option_map}
use Rattle.std.proofs.lemmas.List.{map-append}
use Rattle.kt_grammar.specs.declared.tree.Base.{Base}
use Rattle.kt_syntax.specs.Tree.{Local, Statement, Statements, Nothing, More}
use Rattle.kt_tree.specs.declared.stmt.Stmt.{Stmt}
use Rattle.kt_tree.specs.Tree as tree
use Rattle.kt_tree.specs.Tree.{statement_of}
use Rattle.kt_typing.specs.declared.fault.Fault.{Fault}
use Rattle.kt_typing.specs.Faults.{is_before}
use Rattle.kt_typing.specs.First.{earlier_of}
use Rattle.kt_typing.proofs.Firsts.{not-before-both, not-before-lesser}
use Rattle.kt_program.specs.Made.{Made, Lines, all_lines}
use Rattle.kt_program.specs.Judgments.{Judgment, Judgments, NoMore, And, both_made, all_made}
use Rattle.kt_program.specs.Scopes.{Place, declared}
use Rattle.kt_program.specs.Statements.{local, locals, behind_locals, locals_among, behind, statement, entries}
use Rattle.kt_statements.specs.declared.scopes.Body.{Body}
use Rattle.kt_statements.specs.declared.scopes.Scopes.{Scopes}
use Rattle.kt_statements.specs.Judged.{Judges, JudgesLines, lines_made, appended_of}
use Rattle.kt_statements.specs.Scopes.{body_of, place_of, behind_entries, Fits}
use Rattle.kt_statements.proofs.Judged.{made-none, all-none}
use Rattle.kt_statements.proofs.Places.{behind-next}

-- ---- the earliest of several faults

pub earlier-assoc : (f g h : Fault) → earlier_of (earlier_of f g) h ≡ earlier_of f (earlier_of g h)
earlier-assoc f g h = by (is_before g f) (is_before h g) (is_before h f) refl refl refl
  where
    by : (a b c : Bool) → is_before g f ≡ a → is_before h g ≡ b → is_before h f ≡ c → earlier_of (earlier_of f g) h ≡ earlier_of f (earlier_of g h)
    by true true true i j k = rw (i, j, k) refl
    by true true false i j k = absurd (apart (is_before h g) j (not-before-lesser f g h k i))
      where
        apart : (x : Bool) → x ≡ true → x ≡ false → ⊥
        apart x y z = absurd cc
    by true false c i j k = rw (i, j, i) refl
    by false true c i j k = rw (i, j) refl
    by false false c i j k = rw (i, j, i, not-before-both f g h i j) refl

abbrev Answers : Type 0
Answers = Result (List Stmt) Fault

pub appended-assoc : (a b c : Answers) → appended_of (appended_of a b) c ≡ appended_of a (appended_of b c)
appended-assoc (Ok xs) (Ok ys) (Ok zs) = ap Ok (append_assoc xs ys zs)
appended-assoc (Ok xs) (Ok ys) (Err h) = refl
appended-assoc (Ok xs) (Err g) (Ok zs) = refl
appended-assoc (Ok xs) (Err g) (Err h) = refl
appended-assoc (Err f) (Ok ys) (Ok zs) = refl
appended-assoc (Err f) (Ok ys) (Err h) = refl
appended-assoc (Err f) (Err g) (Ok zs) = refl
appended-assoc (Err f) (Err g) (Err h) = ap Err (earlier-assoc f g h)

pub appended-none : (a : Answers) → appended_of a (Ok []) ≡ a
appended-none (Ok xs) = ap Ok (append-nil xs)
appended-none (Err f) = refl

none-appended : (a : Answers) → appended_of (Ok []) a ≡ a
none-appended (Ok xs) = refl
none-appended (Err f) = refl

lines-both : (xs ys : List tree.Statement) (zs : List tree.Statement) (o : Option (List Made)) → option_map all_lines o ≡ Some ys → zs ≡ xs ++ ys
    → option_map all_lines (both_made (Some (Lines xs)) o) ≡ Some zs
lines-both xs ys zs None e f = absurd cc
lines-both xs ys zs (Some ms) e f =
    let is : all_lines ms ≡ ys = cc in
    ap Some (ap (λ (l : List tree.Statement). xs ++ l) is ∙ sym f)

lines-there : (o : Option (List Made)) (ys : List tree.Statement) → option_map all_lines o ≡ Some ys → (ms : List Made) × (o ≡ Some ms)
lines-there None ys e = absurd cc
lines-there (Some ms) ys e = (ms, refl)

-- lines of one, and of those behind it
pub more-lines : (j : Judgment) (js : Judgments) (a b : Answers) → Judges lines_made j a → JudgesLines js b → JudgesLines (And j js) (appended_of a b)
more-lines j js (Ok xs) (Ok ys) i k =
    rw i (lines-both (map statement_of xs) (map statement_of ys) (map statement_of (xs ++ ys)) (all_made js) k (map-append statement_of xs ys))
more-lines j js (Ok xs) (Err g) i k = rw (made-none j (lines_made xs) i, k) refl
more-lines j js (Err f) (Ok ys) i k =
    let (ms, is) = lines-there (all_made js) (map statement_of ys) k in
    rw (i, all-none js ms is) refl
more-lines j js (Err f) (Err g) i k = rw (i, k) refl

-- ---- answers so far

-- with an answer to the rest, what is answered so far is an answer to all
abbrev pub Goes : Judgments → Judgments → Answers → Type 0
Goes js rest done = (r : Answers) → JudgesLines rest r → JudgesLines js (appended_of done r)

pub goes-first : (js : Judgments) → Goes js js (Ok [])
goes-first js r h = subst (JudgesLines js) (sym (none-appended r)) h

pub goes-next : (js rest : Judgments) (j : Judgment) (done one new : Answers) → Goes js (And j rest) done → Judges lines_made j one → new ≡ appended_of done one → Goes js rest new
goes-next js rest j done one new g i e r h =
    subst (JudgesLines js) (sym (appended-assoc done one r) ∙ ap (λ (a : Answers). appended_of a r) (sym e)) (g (appended_of one r) (more-lines j rest one r i h))

pub goes-last : (js : Judgments) (done : Answers) → Goes js NoMore done → JudgesLines js done
goes-last js done g = subst (JudgesLines js) (appended-none done) (g (Ok []) refl)

-- ---- locals

pub record Declaring (b : Body) (base : Base) (p : Place) (all : List Local) (s : Scopes) (rest : List Local) (done : Answers) : Type 0 where
  pub fits : Fits b s
  pub room : (place_of s).next + length rest ≤ length (body_of b).environment.scope.locals
  pub goes : Goes (locals (body_of b) p base all) (locals (body_of b) (place_of s) base rest) done
  pub place : behind_locals (place_of s) rest ≡ behind_locals p all

pub declaring-first : (b : Body) (base : Base) (all : List Local) (s : Scopes) → Fits b s → (place_of s).next + length all ≤ length (body_of b).environment.scope.locals
    → Declaring b base (place_of s) all s all (Ok [])
declaring-first b base all s f h = record { fits = f; room = h; goes = goes-first (locals (body_of b) (place_of s) base all); place = refl }

pub declaring-next : (b : Body) (base : Base) (p : Place) (all : List Local) (s t : Scopes) (l : Local) (rest : List Local) (done one new : Answers)
    → Declaring b base p all s (l ∷ rest) done → Judges lines_made (local (body_of b) (place_of s) base l) one → new ≡ appended_of done one
    → Fits b t → place_of t ≡ declared (place_of s) l.name.word → Declaring b base p all t rest new
declaring-next b base p all s t l rest done one new d i e f at =
    let n = ap (λ (q : Place). q.next) at in
    let room = d.room in
    record {
      fits = f;
      room = omega arith;
      goes = subst (λ (q : Place). Goes (locals (body_of b) p base all) (locals (body_of b) q base rest) new) (sym at)
          (goes-next (locals (body_of b) p base all) (locals (body_of b) (declared (place_of s) l.name.word) base rest) (local (body_of b) (place_of s) base l) done one new d.goes i e);
      place = ap (λ (q : Place). behind_locals q rest) at ∙ d.place;
    }

pub declaring-last : (b : Body) (base : Base) (p : Place) (all : List Local) (s : Scopes) (done : Answers) → Declaring b base p all s [] done
    → JudgesLines (locals (body_of b) p base all) done × (place_of s ≡ behind_locals p all)
declaring-last b base p all s done d = (goes-last (locals (body_of b) p base all) done d.goes, d.place)

-- ---- entries

pub record Entering (b : Body) (p : Place) (all : Statements) (s : Scopes) (rest : Statements) (done : Answers) : Type 0 where
  pub fits : Fits b s
  pub room : (place_of s).next + locals_among rest ≤ length (body_of b).environment.scope.locals
  pub goes : Goes (entries (body_of b) p all) (entries (body_of b) (place_of s) rest) done
  pub place : behind_entries (place_of s) rest ≡ behind_entries p all

pub entering-first : (b : Body) (all : Statements) (s : Scopes) → Fits b s → (place_of s).next + locals_among all ≤ length (body_of b).environment.scope.locals
    → Entering b (place_of s) all s all (Ok [])
entering-first b all s f h = record { fits = f; room = h; goes = goes-first (entries (body_of b) (place_of s) all); place = refl }

pub entering-next : (b : Body) (p : Place) (all : Statements) (s t : Scopes) (e : Statement) (rest : Statements) (done one new : Answers)
    → Entering b p all s (More e rest) done → Judges lines_made (statement (body_of b) (place_of s) e) one → new ≡ appended_of done one
    → Fits b t → place_of t ≡ behind (place_of s) e → Entering b p all t rest new
entering-next b p all s t e rest done one new d i is f at =
    let n = ap (λ (q : Place). q.next) at ∙ behind-next (place_of s) e in
    let room = d.room in
    record {
      fits = f;
      room = omega arith;
      goes = subst (λ (q : Place). Goes (entries (body_of b) p all) (entries (body_of b) q rest) new) (sym at)
          (goes-next (entries (body_of b) p all) (entries (body_of b) (behind (place_of s) e) rest) (statement (body_of b) (place_of s) e) done one new d.goes i is);
      place = ap (λ (q : Place). behind_entries q rest) at ∙ d.place;
    }

pub entering-last : (b : Body) (p : Place) (all : Statements) (s : Scopes) (done : Answers) → Entering b p all s Nothing done
    → JudgesLines (entries (body_of b) p all) done × (place_of s ≡ behind_entries p all)
entering-last b p all s done d = (goes-last (entries (body_of b) p all) done d.goes, d.place)
