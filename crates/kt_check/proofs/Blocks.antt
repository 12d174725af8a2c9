-- Statements made of others, and the entries of blocks.
use Rattle.std.proofs.Common.{◌≡◌, ℕ, ◌+◌, ◌<◌, ◌≤◌, Bool, true, false, List, [], ◌∷◌, ◌++◌, length, map, drop, get_or, Option, None, Some, Result, Ok, Err, OnOk, if◌then◌else◌, refl, sym, ap, subst, ◌∙◌, drop-cons, add-one}
use Rattle.std.proofs.lemmas.List.{map-append, drop_all}
use Rattle.kt_grammar.specs.Tree.{Term}
use Rattle.kt_syntax.specs.declared.tree.Stmt.{Stmt as Written}
use Rattle.kt_syntax.specs.Tree as syntax
use Rattle.kt_syntax.specs.Tree.{Start, Statement as Syntax, Evaluated as Expr, Returned as Return, Broken as Break, Conditional as If, Alternative as IfElse, Looped as While, Repeated as Do, Counted as For, Statements as Entries, More as Entry}
use Rattle.kt_tree.specs.declared.expr.Expr.{Expr as ExprCode}
use Rattle.kt_tree.specs.declared.stmt.Stmt.{Stmt}
use Rattle.kt_tree.specs.Tree.{Expression, Statement, Statements, Compound, Conditional, Looped, Repeated, Done, Then, expression_of, statement_of, statements_of}
use Rattle.kt_names.specs.declared.fault.CheckFault.{CheckFault}
use Rattle.kt_names.specs.declared.fault.CheckFault.TheVariants.{BadType}
use Rattle.kt_names.specs.declared.info.Scopes.{Scopes}
use Rattle.kt_names.specs.Checked.{Checked, and_then, fault}
use Rattle.kt_names.specs.Judges.{Fails, Judges}
use Rattle.kt_names.specs.Statements.{Body, State, here, condition, effect_of, perhaps, start, entered, locals, statement, entries, before}
use Rattle.kt_names.specs.Scopes.{state_of, Grown, Kept, tested_in, for_of, Heading, head_in, pair_of}
use Rattle.kt_check.specs.Blocks.{single, single_in, entry_in, for_in}
use Rattle.kt_names.proofs.Parts.{fails, judges-follows}
use Rattle.kt_check.proofs.Entries.{beside, paired, regroup, grown-more, grown-kept, kept-state, Stands, stands-more, more-fails, stands-end}

-- a statement, with the number of locals behind it
abbrev pub with_next : ℕ → Stmt → Statement × ℕ
with_next n s = (statement_of s, n)

abbrev pub Answers : ℕ → Result Stmt CheckFault → Checked (Statement × ℕ) → Type 0
Answers n r c = Judges {Y = Statement × ℕ} (with_next n) r c

-- ---- what is kept

pub ok-all : {A : Type 0} (r : Result A CheckFault) (P : Type 0) → P → OnOk r P
ok-all (Ok x) P p = p
ok-all (Err f) P p = tt

pub kept-more : (a b c : Scopes) → Kept a b → Kept b c → Kept a c
kept-more a b c (v, s) (w, t) = (w ∙ v, t ∙ s)

pub ok-kept : {A : Type 0} (r : Result A CheckFault) (a b c : Scopes) → Kept a b → OnOk r (Kept b c) → OnOk r (Kept a c)
ok-kept (Ok x) a b c h k = kept-more a b c h k
ok-kept (Err f) a b c h k = tt

pub ok-grown : {A : Type 0} (r : Result A CheckFault) (a b c : Scopes) → Grown a b → OnOk r (Kept b c) → OnOk r (Grown a c)
ok-grown (Ok x) a b c h k = grown-more a b c h (grown-kept b c k)
ok-grown (Err f) a b c h k = tt

-- ---- statements

-- what is judged of a statement as plain data is judged of it
pub stated : (body : Body) (l : Bool) (st : State) (n : ℕ) (s t : Written) (form : Syntax) (r : Result Stmt CheckFault) → s ≡ t → syntax.statement_of t ≡ form → Answers n r (statement body l st form) → Answers n r (statement body l st (syntax.statement_of s))
stated body l st n s t form r e h = subst (λ (x : Syntax). Answers n r (statement body l st x)) (sym (ap syntax.statement_of e ∙ h))

-- `break` and `continue`
pub left-is : (l : Bool) (w : Statement) (at n : ℕ) (r : Result Stmt CheckFault) → Judges statement_of r (if l then Ok w else fault (BadType at)) → Answers n r (if l then Ok (w, n) else fault (BadType at))
left-is true w at n r h = paired statement_of n r (Ok w) h
left-is false w at n r h = paired statement_of n r (fault (BadType at)) h

two-steps : {A B C : Type 0} (c : Checked A) (g : A → B) (k : B → Checked C) → and_then (and_then c (λ x. Ok (g x))) k ≡ and_then c (λ x. k (g x))
two-steps (Ok x) g k = refl
two-steps (Err f) g k = refl

-- a statement that is made of one part, beside what is behind it
pub made-beside : {A : Type 0} (c : Checked A) (g : A → Statement) (n : ℕ) (r : Result Stmt CheckFault) → Judges statement_of r (and_then c (λ x. Ok (g x))) → Answers n r (and_then c (λ x. Ok (g x, n)))
made-beside c g n r h = subst (Answers n r) (two-steps c g (beside n)) (paired statement_of n r (and_then c (λ x. Ok (g x))) h)

-- a statement that is made of one part and what is known of it
pub made-behind : {A : Type 0} (c : Checked A) (k : A → Checked (Statement × ℕ)) (x : A) (w : Statement) (n : ℕ) (r : Result Stmt CheckFault) → c ≡ Ok x → k x ≡ Ok (w, n) → Judges statement_of r (Ok w) → Answers n r (and_then c k)
made-behind c k x w n r e i h = judges-follows (with_next n) r c k x e (subst (Answers n r) (sym i) (paired statement_of n r (Ok w) h))

module _ (body : Body) (l : Bool) (s : State) (c : Term) (a : Syntax) where
  abbrev conditional_by : (Expression × Statement) × ℕ → Checked (Statement × ℕ)
  conditional_by p = Ok (Conditional p.0.0 p.0.1 (Compound Done), p.1)

  abbrev looped_by : (Expression × Statement) × ℕ → Checked (Statement × ℕ)
  looped_by p = Ok (Looped (Some p.0.0) None p.0.1, p.1)

  abbrev other_by : Syntax → (Expression × Statement) × ℕ → Checked (Statement × ℕ)
  other_by b p = and_then (statement body l (record s { next = p.1 }) b) (λ y. Ok (Conditional p.0.0 p.0.1 y.0, y.1))

  abbrev together : Expression → Statement × ℕ → (Expression × Statement) × ℕ
  together v x = ((v, x.0), x.1)

  in-parts : (k : (Expression × Statement) × ℕ → Checked (Statement × ℕ)) → and_then (tested_in body l s c a) k ≡ and_then (condition (here body s) c) (λ v. and_then (statement body l s a) (λ x. k (together v x)))
  in-parts k = regroup (condition (here body s) c) (λ (v : Expression). statement body l s a) together k

  pub conditional-made : (p : ExprCode × Stmt) (n : ℕ) (r : Result Stmt CheckFault) → tested_in body l s c a ≡ Ok (pair_of p, n) → Judges statement_of r (Ok (Conditional (expression_of p.0) (statement_of p.1) (Compound Done)))
      → Answers n r (statement body l s (If c a))
  conditional-made p n r e h =
      subst (Answers n r) (in-parts conditional_by)
      (made-behind (tested_in body l s c a) conditional_by (pair_of p, n) (Conditional (expression_of p.0) (statement_of p.1) (Compound Done)) n r e refl h)

  pub conditional-fails : (f : CheckFault) → Fails f (tested_in body l s c a) → Fails f (statement body l s (If c a))
  conditional-fails f h = subst (Fails f) (in-parts conditional_by) (fails (tested_in body l s c a) conditional_by f h)

  pub alternative-made : (b : Syntax) (p : ExprCode × Stmt) (n m : ℕ) (t : State) (r : Result Stmt CheckFault) → t ≡ record s { next = n } → tested_in body l s c a ≡ Ok (pair_of p, n)
      → Answers m r (and_then (statement body l t b) (λ y. Ok (Conditional (expression_of p.0) (statement_of p.1) y.0, y.1))) → Answers m r (statement body l s (IfElse c a b))
  alternative-made b p n m t r i e h =
      subst (Answers m r) (in-parts (other_by b))
      (judges-follows (with_next m) r (tested_in body l s c a) (other_by b) (pair_of p, n) e
      (subst (λ (q : State). Answers m r (and_then (statement body l q b) (λ y. Ok (Conditional (expression_of p.0) (statement_of p.1) y.0, y.1)))) i h))

  pub alternative-fails : (b : Syntax) (f : CheckFault) → Fails f (tested_in body l s c a) → Fails f (statement body l s (IfElse c a b))
  alternative-fails b f h = subst (Fails f) (in-parts (other_by b)) (fails (tested_in body l s c a) (other_by b) f h)

module _ (body : Body) (s : State) (c : Term) (a : Syntax) where
  pub looped-made : (p : ExprCode × Stmt) (n : ℕ) (r : Result Stmt CheckFault) → tested_in body true s c a ≡ Ok (pair_of p, n) → Judges statement_of r (Ok (Looped (Some (expression_of p.0)) None (statement_of p.1)))
      → Answers n r (statement body true s (While c a))
  looped-made p n r e h =
      subst (Answers n r) (in-parts body true s c a (looped_by body true s c a))
      (made-behind (tested_in body true s c a) (looped_by body true s c a) (pair_of p, n) (Looped (Some (expression_of p.0)) None (statement_of p.1)) n r e refl h)

  pub looped-fails : (f : CheckFault) → Fails f (tested_in body true s c a) → Fails f (statement body true s (While c a))
  looped-fails f h = subst (Fails f) (in-parts body true s c a (looped_by body true s c a)) (fails (tested_in body true s c a) (looped_by body true s c a) f h)

  abbrev repeated_by : Statement × ℕ → Checked (Statement × ℕ)
  repeated_by x = and_then (condition (here body s) c) (λ v. Ok (Repeated x.0 v, x.1))

  pub repeated-made : (w : Statement) (n : ℕ) (t : State) (r : Result Stmt CheckFault) → t ≡ record s { next = n } → statement body true s a ≡ Ok (w, n)
      → Judges statement_of r (and_then (condition (here body t) c) (λ v. Ok (Repeated w v))) → Answers n r (statement body true s (Do a c))
  repeated-made w n t r i e h =
      judges-follows (with_next n) r (statement body true s a) repeated_by (w, n) e
      (made-beside (condition (here body s) c) (λ v. Repeated w v) n r
      (subst (λ (q : State). Judges statement_of r (and_then (condition (here body q) c) (λ v. Ok (Repeated w v)))) i h))

  pub repeated-fails : (f : CheckFault) → Fails f (statement body true s a) → Fails f (statement body true s (Do a c))
  repeated-fails f h = fails (statement body true s a) repeated_by f h

-- ---- `for`

regroup-three : {A B C D E : Type 0} (s : Checked A) (t : A → Checked B) (u : A → Checked C) (f : A → B → C → D) (k : D → Checked E)
    → and_then (and_then s (λ v. and_then (t v) (λ x. and_then (u v) (λ y. Ok (f v x y))))) k ≡ and_then s (λ v. and_then (t v) (λ x. and_then (u v) (λ y. k (f v x y))))
regroup-three (Err g) t u f k = refl
regroup-three (Ok v) t u f k = regroup (t v) (λ x. u v) (f v) k

module _ (body : Body) (s e : State) (enters : e ≡ entered s) (first : Start) (test step : Option Term) (a : Syntax) where
  abbrev headed : List Statement × State → Option Expression → Option Expression → Heading × State
  headed f t u = (record { first = f.0; test = t; step = u }, f.1)

  abbrev looped_as : Heading × State → Checked (Statement × ℕ)
  looped_as h = and_then (statement body true h.1 a) (λ x. Ok (for_of h.0 x.0, x.1))

  for-is : for_in body e first test step a ≡ statement body true s (For first test step a)
  for-is =
      ap (λ (q : State). for_in body q first test step a) enters
      ∙ regroup-three (start body (entered s) first) (λ f. perhaps (condition (here body f.1)) test) (λ f. perhaps (effect_of (here body f.1)) step) headed looped_as

  pub for-made : (n m : ℕ) (r : Result Stmt CheckFault) → n ≡ m → Answers n r (for_in body e first test step a) → Answers m r (statement body true s (For first test step a))
  for-made n m r i h = subst (λ k. Answers k r (statement body true s (For first test step a))) i (subst (Answers n r) for-is h)

  pub for-fails : (f : CheckFault) → Fails f (for_in body e first test step a) → Fails f (statement body true s (For first test step a))
  for-fails f h = subst (Fails f) for-is h

-- ---- entries

abbrev pub with_state : State → List Stmt → List Statement × State
with_state t ss = (map statement_of ss, t)

-- a statement alone, as an entry
pub single-made : (body : Body) (l : Bool) (s t : State) (e : Syntax) (w : Statement) (n : ℕ) (r : Result (List Stmt) CheckFault) → t ≡ record s { next = n } → statement body l s e ≡ Ok (w, n)
    → Judges {Y = List Statement} (λ ss. map statement_of ss) r (Ok (w ∷ [])) → Judges {Y = List Statement × State} (with_state t) r (single_in body l s e)
single-made body l s t e w n r i h j =
    judges-follows (with_state t) r (statement body l s e) (single s) (w, n) h
    (subst (λ (q : State). Judges {Y = List Statement × State} (with_state t) r (Ok (w ∷ [], q))) i (paired (λ (ss : List Stmt). map statement_of ss) t r (Ok (w ∷ [])) j))

abbrev pub written : List Written → Entries
written ss = syntax.statements_of (map syntax.statement_of ss)

pub rest-is : (ss : List Written) (i : ℕ) (s : Written) → i < length ss → s ≡ get_or ss i s → written (drop i ss) ≡ Entry (syntax.statement_of s) (written (drop (i + 1) ss))
rest-is ss i s within is = rw (drop-cons ss i s within, ← is, add-one) refl

module _ (body : Body) (l : Bool) (w : Checked (Statements × ℕ)) (ss : List Written) (i : ℕ) (s : Written) (within : i < length ss) (is : s ≡ get_or ss i s) where
  pub entry-next : (out more all : List Stmt) (st t : State) → Stands body l w (map statement_of out) st (written (drop i ss)) → entry_in body l st (syntax.statement_of s) ≡ Ok (map statement_of more, t) → all ≡ out ++ more
      → Stands body l w (map statement_of all) t (written (drop (i + 1) ss))
  entry-next out more all st t stands e j =
      subst (λ (xs : List Statement). Stands body l w xs t (written (drop (i + 1) ss))) (sym (ap (λ (xs : List Stmt). map statement_of xs) j ∙ map-append statement_of out more))
      (stands-more body l w (map statement_of out) st (syntax.statement_of s) (written (drop (i + 1) ss)) (subst (Stands body l w (map statement_of out) st) (rest-is ss i s within is) stands)
      (map statement_of more, t) e)

  pub entry-fails : (out : List Statement) (st : State) (f : CheckFault) → Stands body l w out st (written (drop i ss)) → Fails f (entry_in body l st (syntax.statement_of s)) → Fails f w
  entry-fails out st f stands h = more-fails body l w out st (syntax.statement_of s) (written (drop (i + 1) ss)) (subst (Stands body l w out st) (rest-is ss i s within is) stands) f h

pub entries-end : (body : Body) (l : Bool) (w : Checked (Statements × ℕ)) (ss : List Written) (i : ℕ) (out : List Stmt) (st : State) → length ss ≤ i → Stands body l w (map statement_of out) st (written (drop i ss)) → w ≡ Ok (statements_of out, st.next)
entries-end body l w ss i out st h stands = stands-end body l w out st (subst (λ (xs : List Written). Stands body l w (map statement_of out) st (written xs)) (drop_all i ss h) stands)
