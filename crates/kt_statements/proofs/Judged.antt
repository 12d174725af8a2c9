-- Answers to judgments, put together.
use Rattle.std.proofs.Common.{◌≡◌, List, [], ◌∷◌, ◌++◌, map, Option, Some, None, Result, Ok, Err, refl, sym, ap, ◌∙◌, subst}
use Rattle.std.specs.Option.{option_map}
use Rattle.kt_tree.specs.declared.expr.Expr.{Expr}
use Rattle.kt_tree.specs.declared.stmt.Stmt.{Stmt}
use Rattle.kt_tree.specs.Tree.{Compound, Looped, expression_of, statement_of}
use Rattle.kt_typing.specs.declared.fault.Fault.{Fault}
use Rattle.kt_typing.specs.First.{earlier}
use Rattle.kt_typing.proofs.Exact.{Finds}
use Rattle.kt_program.specs.Made.{Made, Lines, all_lines, joined, the_one, as_one, block_of}
use Rattle.kt_program.specs.Judgments.{Judgment, Held, Judgments, NoMore, And, both_made, made_of, made, all_made, IsWrongAmong, first_wrong, first_among}
use Rattle.kt_program.specs.Statements.{value_of, under, for_loop}
use Rattle.kt_program.proofs.Exact.{right, all-right, found-first, finds-among}
use Rattle.kt_statements.specs.Judged.{Judges, JudgesAll, JudgesLines, both_of, under_of, option_made, lines_made}

-- ---- what gives something has no first fault

pub made-none : (j : Judgment) (m : Made) → made j ≡ Some m → first_wrong j ≡ None
made-none j m is = by (first_wrong j) refl
  where
    by : (o : Option Fault) → first_wrong j ≡ o → o ≡ None
    by None h = refl
    by (Some f) h = absurd (right j m f is (found-first j f h).among)

pub all-none : (js : Judgments) (ms : List Made) → all_made js ≡ Some ms → first_among js ≡ None
all-none js ms is = by (first_among js) refl
  where
    by : (o : Option Fault) → first_among js ≡ o → o ≡ None
    by None h = refl
    by (Some f) h = absurd (all-right js ms f is (subst (λ o. Finds o (IsWrongAmong js)) h (finds-among js)).among)

none-some : (o : Option Fault) (f : Fault) → o ≡ None → o ≡ Some f → ⊥
none-some o f a b = absurd cc

pub wrong-none : (j : Judgment) (f : Fault) → first_wrong j ≡ Some f → made j ≡ None
wrong-none j f is = by (made j) refl
  where
    by : (o : Option Made) → made j ≡ o → o ≡ None
    by None h = refl
    by (Some m) h = absurd (none-some (first_wrong j) f (made-none j m h) is)

-- ---- parts

module _ {X Y : Type 0} (view : X → Made) (list : Y → List Made) (j : Judgment) (rest : Judgments) where
  pub and-judged : (a : Result X Fault) (b : Result Y Fault) → Judges view j a → JudgesAll list rest b
      → JudgesAll (λ (p : X × Y). view p.0 ∷ list p.1) (And j rest) (both_of a b)
  and-judged (Ok x) (Ok y) i k = rw (i, k) refl
  and-judged (Ok x) (Err g) i k = rw (made-none j (view x) i, k) refl
  and-judged (Err f) (Ok y) i k = rw (i, all-none rest (list y) k) refl
  and-judged (Err f) (Err g) i k = rw (i, k) refl

earlier-none : (o : Option Fault) → earlier o None ≡ o
earlier-none None = refl
earlier-none (Some f) = refl

pub one-judged : {X : Type 0} (view : X → Made) (j : Judgment) (a : Result X Fault) → Judges view j a → JudgesAll (λ (x : X). view x ∷ []) (And j NoMore) a
one-judged view j (Ok x) i = rw i refl
one-judged view j (Err f) i = rw i refl

pub two-judged : {X Y : Type 0} (v : X → Made) (w : Y → Made) (j k : Judgment) (a : Result X Fault) (b : Result Y Fault) → Judges v j a → Judges w k b
    → JudgesAll (λ (p : X × Y). v p.0 ∷ w p.1 ∷ []) (And j (And k NoMore)) (both_of a b)
two-judged {X} {Y} v w j k a b i l = and-judged v (λ (y : Y). w y ∷ []) j (And k NoMore) a b i (one-judged w k b l)

pub three-judged : {X Y Z : Type 0} (v : X → Made) (w : Y → Made) (u : Z → Made) (j k l : Judgment) (a : Result X Fault) (b : Result Y Fault) (c : Result Z Fault)
    → Judges v j a → Judges w k b → Judges u l c
    → JudgesAll (λ (p : X × (Y × Z)). v p.0 ∷ w p.1.0 ∷ u p.1.1 ∷ []) (And j (And k (And l NoMore))) (both_of a (both_of b c))
three-judged {X} {Y} {Z} v w u j k l a b c x y z =
    and-judged v (λ (p : Y × Z). w p.0 ∷ u p.1 ∷ []) j (And k (And l NoMore)) a (both_of b c) x (two-judged w u k l b c y z)

pub four-judged : {X Y Z W : Type 0} (v : X → Made) (w : Y → Made) (u : Z → Made) (t : W → Made) (j k l m : Judgment) (a : Result X Fault) (b : Result Y Fault) (c : Result Z Fault) (d : Result W Fault)
    → Judges v j a → Judges w k b → Judges u l c → Judges t m d
    → JudgesAll (λ (p : X × (Y × (Z × W))). v p.0 ∷ w p.1.0 ∷ u p.1.1.0 ∷ t p.1.1.1 ∷ []) (And j (And k (And l (And m NoMore)))) (both_of a (both_of b (both_of c d)))
four-judged {X} {Y} {Z} {W} v w u t j k l m a b c d x y z q =
    and-judged v (λ (p : Y × (Z × W)). w p.0 ∷ u p.1.0 ∷ t p.1.1 ∷ []) j (And k (And l (And m NoMore))) a (both_of b (both_of c d)) x (three-judged w u t k l m b c d y z q)

-- what several parts give together, by how they were answered

answered : {X : Type 0} (list : X → List Made) (js : Judgments) (r s : Result X Fault) → r ≡ s → JudgesAll list js s → JudgesAll list js r
answered list js r s is h = subst (JudgesAll list js) (sym is) h

module _ {X Y : Type 0} (v : X → Made) (w : Y → Made) (j k : Judgment) (a : Result X Fault) (b : Result Y Fault) (x : Judges v j a) (y : Judges w k b)
    (r : Result (X × Y) Fault) (is : r ≡ both_of a b) where
  pub two-faulty : (f : Fault) → r ≡ Err f → first_among (And j (And k NoMore)) ≡ Some f
  two-faulty f e = subst (JudgesAll (λ (p : X × Y). v p.0 ∷ w p.1 ∷ []) (And j (And k NoMore))) (sym is ∙ e) (two-judged v w j k a b x y)

module _ {X Y Z : Type 0} (v : X → Made) (w : Y → Made) (u : Z → Made) (j k l : Judgment) (a : Result X Fault) (b : Result Y Fault) (c : Result Z Fault)
    (x : Judges v j a) (y : Judges w k b) (z : Judges u l c)
    (s : Result (Y × Z) Fault) (r : Result (X × (Y × Z)) Fault) (later : s ≡ both_of b c) (is : r ≡ both_of a s) where
  pub three-faulty : (f : Fault) → r ≡ Err f → first_among (And j (And k (And l NoMore))) ≡ Some f
  three-faulty f e =
      subst (JudgesAll (λ (p : X × (Y × Z)). v p.0 ∷ w p.1.0 ∷ u p.1.1 ∷ []) (And j (And k (And l NoMore)))) (ap (both_of a) (sym later) ∙ sym is ∙ e) (three-judged v w u j k l a b c x y z)

module _ {X Y Z W : Type 0} (v : X → Made) (w : Y → Made) (u : Z → Made) (t : W → Made) (j k l m : Judgment) (a : Result X Fault) (b : Result Y Fault) (c : Result Z Fault) (d : Result W Fault)
    (x : Judges v j a) (y : Judges w k b) (z : Judges u l c) (q : Judges t m d)
    (o : Result (Z × W) Fault) (s : Result (Y × (Z × W)) Fault) (r : Result (X × (Y × (Z × W))) Fault) (last : o ≡ both_of c d) (later : s ≡ both_of b o) (is : r ≡ both_of a s) where
  abbrev four : X × (Y × (Z × W)) → List Made
  four p = v p.0 ∷ w p.1.0 ∷ u p.1.1.0 ∷ t p.1.1.1 ∷ []

  by-parts : both_of a (both_of b (both_of c d)) ≡ r
  by-parts = ap (λ (n : Result (Z × W) Fault). both_of a (both_of b n)) (sym last) ∙ ap (both_of a) (sym later) ∙ sym is

  pub four-faulty : (f : Fault) → r ≡ Err f → first_among (And j (And k (And l (And m NoMore)))) ≡ Some f
  four-faulty f e = subst (JudgesAll four (And j (And k (And l (And m NoMore))))) (by-parts ∙ e) (four-judged v w u t j k l m a b c d x y z q)

  pub four-right : (p : X × (Y × (Z × W))) → r ≡ Ok p → all_made (And j (And k (And l (And m NoMore)))) ≡ Some (four p)
  four-right p e = subst (JudgesAll four (And j (And k (And l (And m NoMore))))) (by-parts ∙ e) (four-judged v w u t j k l m a b c d x y z q)

-- ---- conditions

pub held-judged : {X : Type 0} (view : X → Made) (broken : Option Fault) (js : Judgments) (how : List Made → Made) (r : Result X Fault)
    → Judges view (Held None js how) r → Judges view (Held broken js how) (under_of broken r)
held-judged view None js how r h = h
held-judged view (Some f) js how (Ok x) h = by (all_made js) refl h
  where
    by : (o : Option (List Made)) → all_made js ≡ o → made_of None how o ≡ Some (view x) → earlier (Some f) (first_among js) ≡ Some f
    by None e i = absurd cc
    by (Some ms) e i = rw (all-none js ms e) refl
held-judged view (Some f) js how (Err g) h = rw h refl

the-one : (o : Option Made) (m : Made) → o ≡ Some m → made_of None the_one (both_made o (Some [])) ≡ Some m
the-one (Some x) m e = e
the-one None m e = absurd cc

pub alone-judged : {X : Type 0} (view : X → Made) (j : Judgment) (r : Result X Fault) → Judges view j r → Judges view (Held None (And j NoMore) the_one) r
alone-judged view j (Ok x) h = the-one (made j) (view x) h
alone-judged view j (Err f) h = rw h refl

pub under-judged : {X : Type 0} (view : X → Made) (broken : Option Fault) (j : Judgment) (r : Result X Fault) → Judges view j r → Judges view (under broken j) (under_of broken r)
under-judged view broken j r h = held-judged view broken (And j NoMore) the_one r (alone-judged view j r h)

-- one condition more
pub under-step : {X : Type 0} (view : X → Made) (j : Judgment) (broken fault : Option Fault) (r s : Result X Fault) → broken ≡ fault → s ≡ under_of broken r
    → Judges view j r → Judges view (under fault j) s
under-step view j broken fault r s e is h =
    subst (Judges view (under fault j)) (ap (λ (b : Option Fault). under_of b r) (sym e) ∙ sym is) (under-judged view fault j r h)

-- a fault, whatever the expression is
pub always-faulty : {X : Type 0} (view : X → Made) (f : Fault) (j : Judgment) (r : Result X Fault) → Judges view j r → (x : X) → r ≡ Ok x → first_wrong (under (Some f) j) ≡ Some f
always-faulty view f j r h x is = subst (λ (a : Result _ Fault). Judges view (under (Some f) j) (under_of (Some f) a)) is (under-judged view (Some f) j r h)

-- ---- lines

pub joined-judged : (js : Judgments) (r : Result (List Stmt) Fault) → JudgesLines js r → Judges lines_made (Held None js joined) r
joined-judged js (Ok xs) h = by (all_made js) h
  where
    by : (o : Option (List Made)) → option_map all_lines o ≡ Some (map statement_of xs) → made_of None joined o ≡ Some (lines_made xs)
    by None e = absurd cc
    by (Some ms) e = ap (option_map Lines) e
joined-judged js (Err f) h = h

-- lines under a condition
pub held-step : (js : Judgments) (broken fault : Option Fault) (r s : Result (List Stmt) Fault) → broken ≡ fault → s ≡ under_of broken r → JudgesLines js r
    → Judges lines_made (Held fault js joined) s
held-step js broken fault r s e is h =
    subst (Judges lines_made (Held fault js joined)) (ap (λ (b : Option Fault). under_of b r) (sym e) ∙ sym is) (held-judged lines_made fault js joined r (joined-judged js r h))

pub value-of-option : (o : Option Expr) → value_of (option_made o) ≡ option_map expression_of o
value-of-option None = refl
value-of-option (Some e) = refl

abbrev For : Type 0
For = List Stmt × (Option Expr × (Option Expr × List Stmt))

-- a `for` of its parts
pub for-made : (p : For) (o : Option (List Made)) → o ≡ Some (lines_made p.0 ∷ option_made p.1.0 ∷ option_made p.1.1.0 ∷ lines_made p.1.1.1 ∷ [])
    → (xs : List Stmt) → map statement_of xs ≡ Compound (block_of (map statement_of p.0 ++ Looped (option_map expression_of p.1.0) (option_map expression_of p.1.1.0) (as_one (map statement_of p.1.1.1)) ∷ [])) ∷ []
    → made_of None for_loop o ≡ Some (lines_made xs)
for-made p o is xs e = ap (made_of None for_loop) is ∙ rw (value-of-option p.1.0, value-of-option p.1.1.0, e) refl

pub ruleset judged = (under-judged, held-judged, joined-judged)
