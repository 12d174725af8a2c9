-- Statements and blocks: scopes that grow and end, and entries one after the other.
use Rattle.std.proofs.Common.{◌≡◌, ℕ, ◌+◌, ◌≤◌, Bool, true, false, List, [], ◌∷◌, ◌++◌, length, map, take, drop, Option, None, Some, Result, Ok, Err, refl, sym, ap, subst, ◌∙◌, append_assoc}
use Rattle.std.proofs.Math.Seq.{take-append_seam}
use Rattle.std.proofs.lemmas.List.{append-nil}
use Rattle.kt_grammar.specs.Tree.{Term}
use Rattle.kt_syntax.specs.Tree.{Declaration, Statement as Syntax, Declared, Compound as Block, Empty, Evaluated as Expr, Returned as Return, Broken as Break, Continued as Continue, Conditional as If, Alternative as IfElse, Looped as While, Repeated as Do, Counted as For, Statements as Entries, Nothing as NoEntries, More as Entry}
use Rattle.kt_tree.specs.declared.stmt.Stmt.{Stmt}
use Rattle.kt_tree.specs.Tree.{Expression, Statement, Statements, Compound, Done, Then, statement_of, statements_of}
use Rattle.kt_names.specs.declared.fault.CheckFault.{CheckFault}
use Rattle.kt_names.specs.declared.head.Head.{Head}
use Rattle.kt_names.specs.declared.info.Scopes.{Scopes}
use Rattle.kt_names.specs.declared.info.Visible.{Visible}
use Rattle.kt_names.specs.Checked.{Checked, and_then}
use Rattle.kt_names.specs.Judges.{Fails, Judges}
use Rattle.kt_names.specs.Statements.{Body, State, here, condition, effect_of, perhaps, entered, locals, statement, entries, before}
use Rattle.kt_names.specs.Scopes.{state_of, Grown, Kept, declared_in, alone, Heading, heading_tested, head_of}
use Rattle.kt_check.specs.Blocks.{single, entry_in}
use Rattle.kt_names.proofs.Parts.{fails, follows}

-- ---- scopes

pub kept-state : (old new : Scopes) → Kept old new → state_of new ≡ record (state_of old) { next = new.next }
kept-state old new k = rw (k.0, k.1) refl

pub grown-same : (old new : Scopes) → new.visible ≡ old.visible → new.start ≡ old.start → Grown old new
grown-same old new v s = ([], v ∙ sym (append-nil old.visible), s)

pub grown-kept : (old new : Scopes) → Kept old new → Grown old new
grown-kept old new k = grown-same old new k.0 k.1

pub grown-more : (a b c : Scopes) → Grown a b → Grown b c → Grown a c
grown-more a b c (m, v, s) (n, w, t) = (m ++ n, w ∙ ap (λ (xs : List Visible). xs ++ n) v ∙ append_assoc a.visible m n, t ∙ s)

-- behind a scope inside stands what stood before it
pub left-kept : (old inner last new : Scopes) → inner.visible ≡ old.visible → inner.start ≡ length old.visible → Grown inner last
    → new.visible ≡ take last.start last.visible → new.start ≡ old.start → Kept old new
left-kept old inner last new v s (m, w, t) e f = (
  e ∙ ap (λ n. take n last.visible) (t ∙ s) ∙ ap (λ (xs : List Visible). take (length old.visible) xs) (w ∙ ap (λ (xs : List Visible). xs ++ m) v)
      ∙ take-append_seam old.visible m,
  f,
)

-- the end of a scope inside can be found
pub left-within : (old inner last : Scopes) → inner.visible ≡ old.visible → inner.start ≡ length old.visible → Grown inner last → old.start ≤ length old.visible → old.start ≤ last.start
left-within old inner last v s (m, w, t) h = subst (λ n. old.start ≤ n) (sym (t ∙ s)) h

-- ---- one part behind another

pub regroup : {A B C D : Type 0} (s : Checked A) (t : A → Checked B) (f : A → B → C) (k : C → Checked D)
    → and_then (and_then s (λ v. and_then (t v) (λ x. Ok (f v x)))) k ≡ and_then s (λ v. and_then (t v) (λ x. k (f v x)))
regroup (Err g) t f k = refl
regroup (Ok v) t f k = inner (t v)
  where
    inner : (c : Checked _) → and_then (and_then c (λ x. Ok (f v x))) k ≡ and_then c (λ x. k (f v x))
    inner (Ok x) = refl
    inner (Err g) = refl

-- ---- lists of statements

pub before-append : (xs ys : List Statement) (rest : Statements) → before (xs ++ ys) rest ≡ before xs (before ys rest)
before-append [] ys rest = refl
before-append (x ∷ xs) ys rest = ap (Then x) (before-append xs ys rest)

pub before-done : (ss : List Stmt) → before (map statement_of ss) Done ≡ statements_of ss
before-done [] = refl
before-done (s ∷ ss) = ap (Then (statement_of s)) (before-done ss)

pub before-last : (ss : List Stmt) (last : Stmt) → statements_of (ss ++ last ∷ []) ≡ before (map statement_of ss) (Then (statement_of last) Done)
before-last [] last = refl
before-last (s ∷ ss) last = ap (Then (statement_of s)) (before-last ss last)

-- ---- a scope inside

module _ (body : Body) (s e : State) (enters : e ≡ entered s) where
  abbrev around : List Statement × State → Checked (Statement × ℕ)
  around d = Ok (Compound (before d.0 Done), d.1.next)

  pub alone-is : (x : Declaration) (inner : List Stmt) (t : State) (w : Statement) (n : ℕ) → locals body e x ≡ Ok (map statement_of inner, t) → w ≡ Compound (statements_of inner) → n ≡ t.next → alone body s x ≡ Ok (w, n)
  alone-is x inner t w n typed i j =
      ap (λ (q : State). and_then (locals body q x) around) (sym enters)
      ∙ ap (λ (c : Checked (List Statement × State)). and_then c around) typed
      ∙ rw (before-done inner, i, j) refl

  pub alone-fails : (x : Declaration) (f : CheckFault) → Fails f (locals body e x) → Fails f (alone body s x)
  alone-fails x f g = fails (locals body (entered s) x) around f (subst (λ (q : State). Fails f (locals body q x)) enters g)

  module _ (l : Bool) (es : Entries) where
    abbrev block : Statements × ℕ → Checked (Statement × ℕ)
    block x = Ok (Compound x.0, x.1)

    pub block-is : (inner : List Stmt) (w : Statement) (n m : ℕ) → entries body l e es ≡ Ok (statements_of inner, m) → w ≡ Compound (statements_of inner) → n ≡ m → statement body l s (Block es) ≡ Ok (w, n)
    block-is inner w n m typed i j =
        ap (λ (q : State). and_then (entries body l q es) block) (sym enters)
        ∙ ap (λ (c : Checked (Statements × ℕ)). and_then c block) typed
        ∙ rw (i, j) refl

    pub block-fails : (f : CheckFault) → Fails f (entries body l e es) → Fails f (statement body l s (Block es))
    block-fails f g = fails (entries body l (entered s) es) block f (subst (λ (q : State). Fails f (entries body l q es)) enters g)

abbrev pub beside : {Y Z : Type 0} → Z → Y → Checked (Y × Z)
beside z y = Ok (y, z)

-- what is judged beside what is known
pub paired : {X Y Z : Type 0} (view : X → Y) (z : Z) (result : Result X CheckFault) (c : Checked Y) → Judges view result c → Judges {Y = Y × Z} (λ x. (view x, z)) result (and_then c (beside z))
paired view z (Ok x) c h = follows c (beside z) (view x) h
paired view z (Err f) c h = fails c (beside z) f h

-- ---- entries

-- the statements before those behind them
abbrev joined_to : List Statement → Statements × ℕ → Checked (Statements × ℕ)
joined_to out y = Ok (before out y.0, y.1)

abbrev then_rest : Statement → Statements × ℕ → Checked (Statements × ℕ)
then_rest x y = Ok (Then x y.0, y.1)

pub begun : (w : Checked (Statements × ℕ)) → w ≡ and_then w (joined_to [])
begun (Ok y) = refl
begun (Err f) = refl

module _ (body : Body) (l : Bool) where
  -- what follows the statements of an entry
  abbrev rest_of : Entries → List Statement × State → Checked (Statements × ℕ)
  rest_of rest d = and_then (entries body l d.1 rest) (joined_to d.0)

  abbrev entry : State → Syntax → Checked (List Statement × State)
  entry s e = entry_in body l s e

  abbrev one_by : State → Entries → Statement × ℕ → Checked (Statements × ℕ)
  one_by s rest x = and_then (entries body l (record s { next = x.1 }) rest) (then_rest x.0)

  one : (c : Checked (Statement × ℕ)) (s : State) (rest : Entries) → and_then c (one_by s rest) ≡ and_then (and_then c (single s)) (rest_of rest)
  one (Ok x) s rest = refl
  one (Err f) s rest = refl

  entries-more : (s : State) (e : Syntax) (rest : Entries) → entries body l s (Entry e rest) ≡ and_then (entry s e) (rest_of rest)
  entries-more s (Declared d) rest = refl
  entries-more s (Block es) rest = one (statement body l s (Block es)) s rest
  entries-more s Empty rest = one (statement body l s Empty) s rest
  entries-more s (Expr e) rest = one (statement body l s (Expr e)) s rest
  entries-more s (Return at e) rest = one (statement body l s (Return at e)) s rest
  entries-more s (Break at) rest = one (statement body l s (Break at)) s rest
  entries-more s (Continue at) rest = one (statement body l s (Continue at)) s rest
  entries-more s (If c a) rest = one (statement body l s (If c a)) s rest
  entries-more s (IfElse c a b) rest = one (statement body l s (IfElse c a b)) s rest
  entries-more s (While c a) rest = one (statement body l s (While c a)) s rest
  entries-more s (Do a c) rest = one (statement body l s (Do a c)) s rest
  entries-more s (For first test step a) rest = one (statement body l s (For first test step a)) s rest

  -- behind these statements the whole is what the rest gives
  abbrev pub Stands : Checked (Statements × ℕ) → List Statement → State → Entries → Type 0
  Stands w out s rest = w ≡ and_then (entries body l s rest) (joined_to out)

  joined : (c : Checked (Statements × ℕ)) (out ss : List Statement) → and_then (and_then c (joined_to ss)) (joined_to out) ≡ and_then c (joined_to (out ++ ss))
  joined (Ok y) out ss = ap (λ (b : Statements). joined_to [] (b, y.1)) (sym (before-append out ss y.0))
  joined (Err f) out ss = refl

  abbrev behind : Checked (List Statement × State) → List Statement → Entries → Checked (Statements × ℕ)
  behind c out rest = and_then (and_then c (rest_of rest)) (joined_to out)

  abbrev chosen_by : State → Syntax → Option Declaration → Checked (List Statement × State)
  chosen_by s e o = elim o as (λ _. Checked (List Statement × State)) [ None ↦ and_then (statement body l s e) (single s) | (Some d) ↦ locals body s d ]

  pub entry-locals : (s : State) (e : Syntax) (d : Declaration) → Some d ≡ declared_in e → entry s e ≡ locals body s d
  entry-locals s e d h = ap (chosen_by s e) (sym h)

  pub entry-statement : (s : State) (e : Syntax) → None ≡ declared_in e → entry s e ≡ and_then (statement body l s e) (single s)
  entry-statement s e h = ap (chosen_by s e) (sym h)

  module _ (w : Checked (Statements × ℕ)) (out : List Statement) (s : State) (e : Syntax) (rest : Entries) (stands : Stands w out s (Entry e rest)) where
    stands-behind : w ≡ behind (entry s e) out rest
    stands-behind = stands ∙ ap (λ (c : Checked (Statements × ℕ)). and_then c (joined_to out)) (entries-more s e rest)

    pub stands-more : (d : List Statement × State) → entry s e ≡ Ok d → Stands w (out ++ d.0) d.1 rest
    stands-more d is = stands-behind ∙ ap (λ (c : Checked (List Statement × State)). behind c out rest) is ∙ joined (entries body l d.1 rest) out d.0

    pub more-fails : (f : CheckFault) → Fails f (entry s e) → Fails f w
    more-fails f g = subst (Fails f) (sym stands-behind) (fails (and_then (entry s e) (rest_of rest)) (joined_to out) f (fails (entry s e) (rest_of rest) f g))

  pub stands-end : (w : Checked (Statements × ℕ)) (out : List Stmt) (s : State) → Stands w (map statement_of out) s NoEntries → w ≡ Ok (statements_of out, s.next)
  stands-end w out s h = h ∙ ap (λ (b : Statements). joined_to [] (b, s.next)) (before-done out)

-- ---- the head of a `for`

abbrev head_by : List Statement → Option Expression → Option Expression → Heading
head_by fs t u = record { first = fs; test = t; step = u }

abbrev pub head_then : Body → Option Term → Option Term → List Statement × State → Checked (Heading × State)
head_then body test step f = and_then (perhaps (condition (here body f.1)) test) (λ t. and_then (perhaps (effect_of (here body f.1)) step) (λ u. beside f.1 (head_by f.0 t u)))

pub head-is : (body : Body) (fs : List Statement) (st : State) (test step : Option Term) (r : Result Head CheckFault)
    → Judges head_of r (and_then (perhaps (condition (here body st)) test) (heading_tested (here body st) fs step)) → Judges {Y = Heading × State} (λ (x : Head). (head_of x, st)) r (head_then body test step (fs, st))
head-is body fs st test step r h =
    subst (λ (c : Checked (Heading × State)). Judges {Y = Heading × State} (λ (x : Head). (head_of x, st)) r c)
    (regroup (perhaps (condition (here body st)) test) (λ (t : Option Expression). perhaps (effect_of (here body st)) step) (head_by fs) (beside st))
    (paired head_of st r (and_then (perhaps (condition (here body st)) test) (heading_tested (here body st) fs step)) h)
