-- What comes of statements fits where they stand.
use Rattle.std.proofs.Common.{◌≡◌, ℕ, suc, ◌+◌, ◌<◌, ◌≤◌, ◌==◌, Bool, true, false, List, [], ◌∷◌, length, map, slice_get, Option, Some, None, refl, sym, ◌∙◌, subst, arith, lt-ltb}
use Rattle.std.proofs.lemmas.Bool.{eq-eqb}
use Rattle.std.specs.Option.{is_some}
use Rattle.kt_grammar.specs.declared.tree.Base.{Base}
use Rattle.kt_grammar.specs.Tree.{Term}
use Rattle.kt_syntax.specs.Tree.{Local, Declaration, Start, NoStart, Declares, Evaluates, Statement, Declared, Compound, Empty, Evaluated, Returned, Broken, Continued, Conditional, Alternative, Looped, Repeated, Counted, Statements, Nothing, More}
use Rattle.kt_tree.specs.Kinds.{Scope}
use Rattle.kt_tree.specs.Tree as typed_tree
use Rattle.kt_tree.specs.Typed.{Kind, Of, if_so, value_type, set_kind, kind, is_condition, all_of, is_result, fits_return}
use Rattle.kt_typing.specs.declared.fault.Fault.{Fault}
use Rattle.kt_typing.specs.Environment.{Meaning}
use Rattle.kt_typing.specs.Faults.{bad_type}
use Rattle.kt_typing.specs.Sound.{IsRight, IsSoundMeaning}
use Rattle.kt_typing.specs.Terms.{effect, condition, conversion, first_token}
use Rattle.kt_typing.proofs.SoundPlaces.{effect-sound, condition-sound, conversion-sound}
use Rattle.kt_program.specs.Declarators.{where_not, declarator_place, held_fault, extent_fault, extent_of, base_fault}
use Rattle.kt_program.specs.Judgments.{Judgment, Expressed, Held, NoMore, And}
use Rattle.kt_program.specs.Made.{Made, Value, all_lines, joined, block, the_one}
use Rattle.kt_program.specs.Mentioned.{stars_of}
use Rattle.kt_program.specs.Scopes.{Body, Place, local_named, local_place, meaning, here, entered, looped, declared, passed}
use Rattle.kt_program.specs.Statements.{one_line, evaluated, set_local, returned, conditional, while_loop, repeated, value_of, for_loop, under, absent, twice_fault, note_fault, perhaps, initial_by, initial, local, locals, behind_locals, declaration, start, behind_start, start_locals, locals_in, locals_among, behind, returned_value, statement, entries}
use Rattle.kt_program.proofs.FitsParts.{Gives, GiveAll, held-gives, none-give, and-give, expressed-gives, tree-and-give, last-gives, last-tree-gives, under-gives, FitLines, Fit, one-fits, all-lines-fit, block-fits, evaluated-fits, returned-fits, conditional-fits, alternative-fits, while-fits, repeated-fits, for-fits}

-- ---- numbers of locals

first-within : (a k n : ℕ) → a + suc k ≤ n → a < n
first-within a k n h = omega (arith, h)

rest-within : (a k n : ℕ) → a + suc k ≤ n → suc a + k ≤ n
rest-within a k n h = omega (arith, h)

left-within : (a b c n : ℕ) → a + (b + c) ≤ n → a + b ≤ n
left-within a b c n h = omega (arith, h)

right-within : (a b c n d : ℕ) → d ≡ a + b → a + (b + c) ≤ n → d + c ≤ n
right-within a b c n d same h = omega (arith, same, h)

next-behind : (a k : ℕ) (d : ℕ) → d ≡ suc a + k → d ≡ a + suc k
next-behind a k d h = omega (arith, h)

none-more : (a : ℕ) → a ≡ a + 0
none-more a = omega arith

locals-next : (p : Place) (ls : List Local) → (behind_locals p ls).next ≡ p.next + length ls
locals-next p [] = none-more p.next
locals-next p (l ∷ rest) = next-behind p.next (length rest) (behind_locals (declared p l.name.word) rest).next (locals-next (declared p l.name.word) rest)

locals-loop : (p : Place) (ls : List Local) → (behind_locals p ls).in_loop ≡ p.in_loop
locals-loop p [] = refl
locals-loop p (l ∷ rest) = locals-loop (declared p l.name.word) rest

start-next : (p : Place) (a : Start) → (behind_start p a).next ≡ p.next + start_locals a
start-next p NoStart = none-more p.next
start-next p (Declares d) = locals-next p d.locals
start-next p (Evaluates e) = none-more p.next

behind-next : (p : Place) (a : Statement) → (behind p a).next ≡ p.next + locals_in a
behind-next p (Declared d) = locals-next p d.locals
behind-next p (Compound es) = refl
behind-next p Empty = refl
behind-next p (Evaluated e) = refl
behind-next p (Returned at e) = refl
behind-next p (Broken at) = refl
behind-next p (Continued at) = refl
behind-next p (Conditional c a) = refl
behind-next p (Alternative c a b) = refl
behind-next p (Looped c a) = refl
behind-next p (Repeated a c) = refl
behind-next p (Counted first test step a) = refl

behind-loop : (p : Place) (a : Statement) → (behind p a).in_loop ≡ p.in_loop
behind-loop p (Declared d) = locals-loop p d.locals
behind-loop p (Compound es) = refl
behind-loop p Empty = refl
behind-loop p (Evaluated e) = refl
behind-loop p (Returned at e) = refl
behind-loop p (Broken at) = refl
behind-loop p (Continued at) = refl
behind-loop p (Conditional c a) = refl
behind-loop p (Alternative c a b) = refl
behind-loop p (Looped c a) = refl
behind-loop p (Repeated a c) = refl
behind-loop p (Counted first test step a) = refl

-- ---- kinds

some-if : (b : Bool) (k : Kind) → b ≡ true → is_some (if_so b k) ≡ true
some-if true k h = refl
some-if false k h = absurd cc

set-there : (o : Option ℕ) (k : Option Kind) (t : ℕ) → o ≡ Some t → k ≡ Some (Of t) → is_some (set_kind o (value_type k)) ≡ true
set-there o k t a b =
    subst (λ z. is_some (set_kind z (value_type k)) ≡ true) (sym a)
    (subst (λ z. is_some (set_kind (Some t) (value_type z)) ≡ true) (sym b) (some-if (t == t) (Of t) (eq-eqb t t refl)))

result-there : (o : Option ℕ) (k : Option Kind) (t : ℕ) → o ≡ Some t → k ≡ Some (Of t) → is_result o (value_type k) ≡ true
result-there o k t a b =
    subst (λ z. is_result z (value_type k) ≡ true) (sym a) (subst (λ z. is_result (Some t) (value_type z) ≡ true) (sym b) (eq-eqb t t refl))

holds : (b : Bool) (f : Fault) → where_not b f ≡ None → b ≡ true
holds true f e = refl
holds false f e = absurd cc

never : {A : Type 0} (f : Fault) → Some f ≡ None → A
never f e = absurd cc

module _ (body : Body) (right : IsRight body.environment) where
  abbrev s : Scope
  s = body.environment.scope

  abbrev r : Option ℕ
  r = body.result

  place-sound : (x : ℕ) (o : Option ℕ) → slice_get s.locals x ≡ o → IsSoundMeaning s (local_place x o)
  place-sound x None e = tt
  place-sound x (Some t) e = (refl, e)

  meaning-sound : (o : Option ℕ) (outer : Meaning) → IsSoundMeaning s outer → IsSoundMeaning s (meaning body.environment o outer)
  meaning-sound None outer h = h
  meaning-sound (Some x) outer h = place-sound x (slice_get s.locals x) refl

  here-right : (p : Place) → IsRight (here body p)
  here-right p = record {
    names = λ n. meaning-sound (local_named p.visible n) (body.environment.name n) (right.names n);
    words = right.words;
    symbols = right.symbols;
    text = right.text;
    mutex = right.mutex;
  }

  effect-fits : (l : Bool) (p : Place) (e : Term) → Gives (Fit s r l) (Held None (And (Expressed (effect (here body p) e)) NoMore) evaluated)
  effect-fits l p e =
      held-gives (Fit s r l) None (And (Expressed (effect (here body p) e)) NoMore) evaluated
      (λ none. last-tree-gives (λ ms. Fit s r l (evaluated ms)) (effect (here body p) e) (λ x there. evaluated-fits s r l x.tree (effect-sound (here body p) (here-right p) e x there)))

  -- ---- locals

  set-fits : (l : Bool) (p : Place) (x at : ℕ) (e : Term) (o : Option ℕ) → slice_get s.locals x ≡ o → Gives (Fit s r l) (initial_by (here body p) x at e o)
  set-fits l p x at e None same = expressed-gives (Fit s r l) (effect (here body p) e) (λ y there. refl)
  set-fits l p x at e (Some t) same =
      held-gives (Fit s r l) None (And (Expressed (conversion (here body p) t at e)) NoMore) (set_local x)
      (λ none. last-tree-gives (λ ms. Fit s r l (set_local x ms)) (conversion (here body p) t at e)
      (λ y there. one-fits s r l (typed_tree.Evaluated (typed_tree.LocalSet x y.tree))
      (set-there (slice_get s.locals x) (kind s y.tree) t same (conversion-sound (here body p) (here-right p) t at e y there))))

  initial-fits : (l : Bool) (p : Place) (x at : ℕ) (e : Option Term) → x < length s.locals → Gives (Fit s r l) (initial body p x at e)
  initial-fits l p x at None h =
      held-gives (Fit s r l) None NoMore (one_line (typed_tree.Undefined x))
      (λ none. none-give (λ ms. Fit s r l (one_line (typed_tree.Undefined x) ms)) (one-fits s r l (typed_tree.Undefined x) (lt-ltb x (length s.locals) h)))
  initial-fits l p x at (Some e) h = set-fits l p x at e (slice_get s.locals x) refl

  local-fits : (l : Bool) (p : Place) (b : Base) (x : Local) → p.next < length s.locals → Gives (Fit s r l) (local body p b x)
  local-fits l p b x h =
      let first : Judgment = initial body (declared p x.name.word) p.next (declarator_place x.pointer x.name) x.initial in
      let noted : Judgment = under (note_fault body p x.name.word x.name.at) first in
      let once : Judgment = under (twice_fault p x.name.word x.name.at) noted in
      let extent : Judgment = under (extent_fault body.environment (extent_of x.pointer)) once in
      under-gives (Fit s r l) (held_fault body.environment b x.pointer x.name) extent
      (under-gives (Fit s r l) (extent_fault body.environment (extent_of x.pointer)) once
      (under-gives (Fit s r l) (twice_fault p x.name.word x.name.at) noted
      (under-gives (Fit s r l) (note_fault body p x.name.word x.name.at) first
      (initial-fits l (declared p x.name.word) p.next (declarator_place x.pointer x.name) x.initial h))))

  locals-fit : (l : Bool) (p : Place) (b : Base) (ls : List Local) → p.next + length ls ≤ length s.locals
      → GiveAll (λ ms. FitLines s r l (all_lines ms)) (locals body p b ls)
  locals-fit l p b [] h = none-give (λ ms. FitLines s r l (all_lines ms)) refl
  locals-fit l p b (x ∷ rest) h =
      and-give (λ ms. FitLines s r l (all_lines ms)) (local body p b x) (locals body (declared p x.name.word) b rest)
      (λ m is ms are. all-lines-fit s r l m ms (local-fits l p b x (first-within p.next (length rest) (length s.locals) h) m is)
      (locals-fit l (declared p x.name.word) b rest (rest-within p.next (length rest) (length s.locals) h) ms are))

  declaration-fits : (l : Bool) (p : Place) (d : Declaration) → p.next + length d.locals ≤ length s.locals → Gives (Fit s r l) (declaration body p d)
  declaration-fits l p d h = held-gives (Fit s r l) (base_fault body.environment d.base (map (λ l. stars_of l.pointer) d.locals)) (locals body p d.base d.locals) joined (λ none. locals-fit l p d.base d.locals h)

  absent-gives : (P : Made → Type 0) → P (joined []) → Gives P absent
  absent-gives P h = held-gives P None NoMore joined (λ none. none-give (λ ms. P (joined ms)) h)

  start-fits : (l : Bool) (p : Place) (a : Start) → p.next + start_locals a ≤ length s.locals → Gives (Fit s r l) (start body p a)
  start-fits l p NoStart h = absent-gives (Fit s r l) refl
  start-fits l p (Declares d) h = declaration-fits l p d h
  start-fits l p (Evaluates e) h = effect-fits l p e

  -- ---- parts of statements

  test-fits : (p : Place) (e : Option Term) → Gives (λ m. all_of (is_condition s) (value_of m) ≡ true) (perhaps (λ a. Expressed (condition (here body p) a)) e)
  test-fits p None = absent-gives (λ m. all_of (is_condition s) (value_of m) ≡ true) refl
  test-fits p (Some e) =
      expressed-gives (λ m. all_of (is_condition s) (value_of m) ≡ true) (condition (here body p) e) (λ x there. condition-sound (here body p) (here-right p) e x there)

  step-fits : (p : Place) (e : Option Term) → Gives (λ m. all_of (λ a. is_some (kind s a)) (value_of m) ≡ true) (perhaps (λ a. Expressed (effect (here body p) a)) e)
  step-fits p None = absent-gives (λ m. all_of (λ a. is_some (kind s a)) (value_of m) ≡ true) refl
  step-fits p (Some e) =
      expressed-gives (λ m. all_of (λ a. is_some (kind s a)) (value_of m) ≡ true) (effect (here body p) e) (λ x there. effect-sound (here body p) (here-right p) e x there)

  jump-fits : (l : Bool) (p : Place) (f : Fault) (a : typed_tree.Statement) → (p.in_loop ≡ true → FitLines s r l (a ∷ [])) → Gives (Fit s r l) (Held (where_not p.in_loop f) NoMore (one_line a))
  jump-fits l p f a h =
      held-gives (Fit s r l) (where_not p.in_loop f) NoMore (one_line a) (λ none. none-give (λ ms. Fit s r l (one_line a ms)) (h (holds p.in_loop f none)))

  return-fits : (l : Bool) (p : Place) (at : ℕ) (e : Option Term) (o : Option ℕ) → r ≡ o → Gives (Fit s r l) (returned_value (here body p) at e o)
  return-fits l p at None None same =
      held-gives (Fit s r l) None NoMore (one_line (typed_tree.Returned None))
      (λ none. none-give (λ ms. Fit s r l (one_line (typed_tree.Returned None) ms))
      (one-fits s r l (typed_tree.Returned None) (subst (λ z. fits_return s z None ≡ true) (sym same) refl)))
  return-fits l p at None (Some t) same =
      held-gives (Fit s r l) (Some (bad_type at)) NoMore (one_line (typed_tree.Returned None)) (λ none. never (bad_type at) none)
  return-fits l p at (Some e) None same =
      held-gives (Fit s r l) (Some (bad_type at)) (And (Expressed (effect (here body p) e)) NoMore) the_one (λ none. never (bad_type at) none)
  return-fits l p at (Some e) (Some t) same =
      held-gives (Fit s r l) None (And (Expressed (conversion (here body p) t (first_token e) e)) NoMore) returned
      (λ none. last-tree-gives (λ ms. Fit s r l (returned ms)) (conversion (here body p) t (first_token e) e)
      (λ y there. returned-fits s r l y.tree (result-there r (kind s y.tree) t same (conversion-sound (here body p) (here-right p) t (first_token e) e y there))))

  -- ---- statements

  abbrev StatementFits : Bool → Place → Statement → Type 0
  StatementFits l p a = Gives (Fit s r l) (statement body p a)

  conditional-gives : (l : Bool) (p : Place) (c : Term) (a : Statement) → StatementFits l p a → StatementFits l p (Conditional c a)
  conditional-gives l p c a h =
      held-gives (Fit s r l) None (And (Expressed (condition (here body p) c)) (And (statement body p a) NoMore)) conditional
      (λ none. tree-and-give (λ ms. Fit s r l (conditional ms)) (condition (here body p) c) (And (statement body p a) NoMore)
      (λ x there. last-gives (λ ms. Fit s r l (conditional (Value x.tree ∷ ms))) (statement body p a)
      (λ m is. conditional-fits s r l x.tree m (condition-sound (here body p) (here-right p) c x there) (h m is))))

  alternative-gives : (l : Bool) (p : Place) (c : Term) (a b : Statement) → StatementFits l p a → StatementFits l (passed p (locals_in a)) b
      → StatementFits l p (Alternative c a b)
  alternative-gives l p c a b h k =
      held-gives (Fit s r l) None (And (Expressed (condition (here body p) c)) (And (statement body p a) (And (statement body (passed p (locals_in a)) b) NoMore))) conditional
      (λ none. tree-and-give (λ ms. Fit s r l (conditional ms)) (condition (here body p) c) (And (statement body p a) (And (statement body (passed p (locals_in a)) b) NoMore))
      (λ x there. and-give (λ ms. Fit s r l (conditional (Value x.tree ∷ ms))) (statement body p a) (And (statement body (passed p (locals_in a)) b) NoMore)
      (λ m is. last-gives (λ ms. Fit s r l (conditional (Value x.tree ∷ m ∷ ms))) (statement body (passed p (locals_in a)) b)
      (λ n are. alternative-fits s r l x.tree m n (condition-sound (here body p) (here-right p) c x there) (h m is) (k n are)))))

  while-gives : (l : Bool) (p : Place) (c : Term) (a : Statement) → StatementFits true (looped p) a → StatementFits l p (Looped c a)
  while-gives l p c a h =
      held-gives (Fit s r l) None (And (Expressed (condition (here body p) c)) (And (statement body (looped p) a) NoMore)) while_loop
      (λ none. tree-and-give (λ ms. Fit s r l (while_loop ms)) (condition (here body p) c) (And (statement body (looped p) a) NoMore)
      (λ x there. last-gives (λ ms. Fit s r l (while_loop (Value x.tree ∷ ms))) (statement body (looped p) a)
      (λ m is. while-fits s r l x.tree m (condition-sound (here body p) (here-right p) c x there) (h m is))))

  repeated-gives : (l : Bool) (p : Place) (a : Statement) (c : Term) → StatementFits true (looped p) a → StatementFits l p (Repeated a c)
  repeated-gives l p a c h =
      held-gives (Fit s r l) None (And (statement body (looped p) a) (And (Expressed (condition (here body p) c)) NoMore)) repeated
      (λ none. and-give (λ ms. Fit s r l (repeated ms)) (statement body (looped p) a) (And (Expressed (condition (here body p) c)) NoMore)
      (λ m is. last-tree-gives (λ ms. Fit s r l (repeated (m ∷ ms))) (condition (here body p) c)
      (λ x there. repeated-fits s r l m x.tree (h m is) (condition-sound (here body p) (here-right p) c x there))))

  counted-gives : (l : Bool) (p : Place) (first : Start) (test step : Option Term) (a : Statement) → p.next + start_locals first ≤ length s.locals
      → StatementFits true (looped (behind_start (entered p) first)) a → StatementFits l p (Counted first test step a)
  counted-gives l p first test step a h k =
      let q = behind_start (entered p) first in
      let tests : Judgment = perhaps (λ e. Expressed (condition (here body q) e)) test in
      let steps : Judgment = perhaps (λ e. Expressed (effect (here body q) e)) step in
      let inside : Judgment = statement body (looped q) a in
      held-gives (Fit s r l) None (And (start body (entered p) first) (And tests (And steps (And inside NoMore)))) for_loop
      (λ none. and-give (λ ms. Fit s r l (for_loop ms)) (start body (entered p) first) (And tests (And steps (And inside NoMore)))
      (λ m1 is1. and-give (λ ms. Fit s r l (for_loop (m1 ∷ ms))) tests (And steps (And inside NoMore))
      (λ m2 is2. and-give (λ ms. Fit s r l (for_loop (m1 ∷ m2 ∷ ms))) steps (And inside NoMore)
      (λ m3 is3. last-gives (λ ms. Fit s r l (for_loop (m1 ∷ m2 ∷ m3 ∷ ms))) inside
      (λ m4 is4. for-fits s r l m1 m2 m3 m4 (start-fits l (entered p) first h m1 is1) (test-fits (behind_start (entered p) first) test m2 is2)
      (step-fits (behind_start (entered p) first) step m3 is3) (k m4 is4))))))

  mutual
    pub statement-fits : (a : Statement) (l : Bool) (p : Place) → p.in_loop ≡ l → p.next + locals_in a ≤ length s.locals → StatementFits l p a
    statement-fits (Declared d) l p at h = declaration-fits l p d h
    statement-fits (Compound es) l p at h =
        held-gives (Fit s r l) None (entries body (entered p) es) block (λ none ms are. block-fits s r l ms (entries-fit es l (entered p) at h ms are))
    statement-fits Empty l p at h = held-gives (Fit s r l) None NoMore block (λ none. none-give (λ ms. Fit s r l (block ms)) refl)
    statement-fits (Evaluated e) l p at h = effect-fits l p e
    statement-fits (Returned k e) l p at h = return-fits l p k e r refl
    statement-fits (Broken k) l p at h = jump-fits l p (bad_type k) typed_tree.Broken (λ is. one-fits s r l typed_tree.Broken (sym at ∙ is))
    statement-fits (Continued k) l p at h = jump-fits l p (bad_type k) typed_tree.Continued (λ is. one-fits s r l typed_tree.Continued (sym at ∙ is))
    statement-fits (Conditional c a) l p at h = conditional-gives l p c a (statement-fits a l p at h)
    statement-fits (Alternative c a b) l p at h =
        alternative-gives l p c a b (statement-fits a l p at (left-within p.next (locals_in a) (locals_in b) (length s.locals) h))
        (statement-fits b l (passed p (locals_in a)) at (right-within p.next (locals_in a) (locals_in b) (length s.locals) (p.next + locals_in a) refl h))
    statement-fits (Looped c a) l p at h = while-gives l p c a (statement-fits a true (looped p) refl h)
    statement-fits (Repeated a c) l p at h = repeated-gives l p a c (statement-fits a true (looped p) refl h)
    statement-fits (Counted first test step a) l p at h =
        counted-gives l p first test step a (left-within p.next (start_locals first) (locals_in a) (length s.locals) h)
        (statement-fits a true (looped (behind_start (entered p) first)) refl
        (right-within p.next (start_locals first) (locals_in a) (length s.locals) (behind_start (entered p) first).next (start-next (entered p) first) h))

    pub entries-fit : (es : Statements) (l : Bool) (p : Place) → p.in_loop ≡ l → p.next + locals_among es ≤ length s.locals
        → GiveAll (λ ms. FitLines s r l (all_lines ms)) (entries body p es)
    entries-fit Nothing l p at h = none-give (λ ms. FitLines s r l (all_lines ms)) refl
    entries-fit (More a rest) l p at h =
        and-give (λ ms. FitLines s r l (all_lines ms)) (statement body p a) (entries body (behind p a) rest)
        (λ m is ms are. all-lines-fit s r l m ms (statement-fits a l p at (left-within p.next (locals_in a) (locals_among rest) (length s.locals) h) m is)
        (entries-fit rest l (behind p a) (behind-loop p a ∙ at)
        (right-within p.next (locals_in a) (locals_among rest) (length s.locals) (behind p a).next (behind-next p a) h) ms are))
