-- Instructions that are put from the last to the first: what stands there after each form of statement.
use Rattle.std.proofs.Common.{◌≡◌, ℕ, suc, ◌+◌, ◌-◌, ◌<◌, ◌≤◌, Bool, true, List, [], ◌∷◌, ◌++◌, length, reverse, drop, get_or, Option, None, Some, refl, sym, ap, ◌∙◌, arith, append_assoc, length-append}
use Rattle.std.specs.Prelude.{slice_set}
use Rattle.std.specs.Option.{is_some, option_map}
use Rattle.std.proofs.lemmas.List.{append-nil, reverse-append}
use Rattle.std.proofs.Math.Seq.{set-append_seam, drop-cons}
use Rattle.kt_tree.specs.declared.expr.Expr.{Expr}
use Rattle.kt_tree.specs.declared.stmt.Stmt.{Stmt}
use Rattle.kt_tree.specs.Tree.{Expression, Statement, Conditional, Looped, Repeated, Statements, Then, expression_of, statement_of, statements_of}
use Rattle.kt_tree.specs.Version.{Program}
use Rattle.kt_code.specs.declared.instr.Instr.{Instr}
use Rattle.kt_code.specs.declared.instr.Instr.TheVariants as instr
use Rattle.kt_genexpr.specs.Emitting.{code_in}
use Rattle.kt_genexpr.proofs.Backwards.{in-front, put-length, last-put, choice-put}
use Rattle.kt_codegen.specs.Emitting.{step_in, statement_in, statements_in, back, test_in, entry_code, Puts, PutsAll}
use Rattle.kt_codegen.specs.StatementCode.{turn_code}

-- ---- loops

-- the instruction that was put first becomes another one
last-set : (w old all : List Instr) (i j : Instr) (end : ℕ) → all ≡ old ++ reverse (w ++ i ∷ []) → end ≡ length old → slice_set all end j ≡ old ++ reverse (w ++ j ∷ [])
last-set w old all i j end h e =
    ap (λ n. slice_set all n j) e
    ∙ ap (λ l. slice_set l (length old) j) (h ∙ ap (λ l. old ++ l) (reverse-append w (i ∷ [])))
    ∙ set-append_seam old i (reverse w) j
    ∙ ap (λ l. old ++ l) (sym (reverse-append w (j ∷ [])))

-- one turn of a loop
pub turn-put : (jump : ℕ → Instr) (body behind old fronts bodies ticks : List Instr) (end : ℕ) → fronts ≡ old ++ reverse (behind ++ jump 0 ∷ []) → bodies ≡ fronts ++ reverse body →
    end ≡ length old → ((n : ℕ) → end + n ≡ suc (length bodies) → ticks ≡ slice_set bodies end (jump n) ++ instr.Tick ∷ []) → ticks ≡ old ++ reverse (turn_code body behind jump)
turn-put jump body behind old fronts bodies ticks end h i e t =
    let all = in-front body (behind ++ jump 0 ∷ []) old fronts bodies h i in
    let one = length-append behind (jump 0 ∷ []) in
    let two = length-append body (behind ++ jump 0 ∷ []) in
    let long = put-length (body ++ (behind ++ jump 0 ∷ [])) old bodies all in
    let n = suc (suc (length body + length behind)) in
    let tick = t n (omega arith) in
    let joined = all ∙ ap (λ l. old ++ reverse l) (sym (append_assoc body behind (jump 0 ∷ []))) in
    let there = last-set (body ++ behind) old bodies (jump 0) (jump n) end joined e ∙ ap (λ l. old ++ reverse l) (append_assoc body behind (jump n ∷ [])) in
    in-front (instr.Tick ∷ []) (body ++ (behind ++ jump n ∷ [])) old (slice_set bodies end (jump n)) ticks there tick

turn-length : (jump : ℕ → Instr) (body behind : List Instr) → length (turn_code body behind jump) ≡ suc (suc (length body + length behind))
turn-length jump body behind =
    let n = suc (suc (length body + length behind)) in
    let one = length-append behind (jump n ∷ []) in
    let two = length-append body (behind ++ jump n ∷ []) in
    omega arith

module _ (p : Program) where
  -- the statement is of this form
  pub as-form : (x : Stmt) (a : Statement) (next out : ℕ) (old new : List Instr) → statement_of x ≡ a → Puts p a next out old new → Puts p (statement_of x) next out old new
  as-form x a next out old new is h n o e f = h n o e f ∙ ap (λ y. old ++ reverse (statement_in p n o y)) (sym is)

  pub if-put : (c : Expression) (a b : Statement) (next out : ℕ) (old second skips first tests new : List Instr) (end place to m : ℕ) →
      Puts p b next out old second → ((k : ℕ) → end + k ≡ length second → skips ≡ second ++ instr.Skip k ∷ []) → Puts p a next out skips first →
      tests ≡ first ++ instr.SkipIfZero m ∷ [] → new ≡ tests ++ reverse (code_in p c) → end ≡ length old → place ≡ length second → to ≡ length first → m ≡ to - place →
      Puts p (Conditional c a b) next out old new
  if-put c a b next out old second skips first tests new end place to m hb hs ha ht hn he hp hto hm n o e f =
      let b' = statement_in p n o b in
      let second-is = hb n o e f in
      let long = put-length b' old second second-is in
      let skip-is = hs (length b') (omega arith) in
      let more = put-length (instr.Skip (length b') ∷ []) second skips skip-is in
      let first-is = ha (suc (length b' + n)) (suc (length b' + o)) (omega arith) (omega arith) in
      let a' = statement_in p (suc (length b' + n)) (suc (length b' + o)) a in
      let far = put-length a' skips first first-is in
      choice-put (code_in p c) a' b' old second skips first tests new end place to (length b') m second-is skip-is first-is ht hn he hp hto (omega arith) (omega arith)

  pub repeat-put : (c : Expression) (a : Statement) (next out : ℕ) (old jumps fronts bodies new : List Instr) (end place : ℕ) →
      jumps ≡ old ++ instr.BackIfNotZero 0 ∷ [] → fronts ≡ jumps ++ reverse (code_in p c) → Puts p a place end fronts bodies →
      ((n : ℕ) → end + n ≡ suc (length bodies) → new ≡ slice_set bodies end (back true n) ++ instr.Tick ∷ []) → end ≡ length old → place ≡ length fronts →
      Puts p (Repeated a c) next out old new
  repeat-put c a next out old jumps fronts bodies new end place hj hf ha hn he hp n o e f =
      let c' = code_in p c in
      let fronts-is = last-put c' (instr.BackIfNotZero 0) old jumps fronts hj hf in
      let one = length-append c' (instr.BackIfNotZero 0 ∷ []) in
      let long = put-length (c' ++ instr.BackIfNotZero 0 ∷ []) old fronts fronts-is in
      let body-is = ha 0 (suc (length c')) (omega arith) (omega arith) in
      turn-put (λ n. instr.BackIfNotZero n) (statement_in p 0 (suc (length c')) a) c' old fronts bodies new end fronts-is body-is he hn

  -- the parts of a loop behind its body
  behind-put : (guard step old tests steps : List Instr) (i : Instr) → tests ≡ old ++ reverse (guard ++ i ∷ []) → steps ≡ tests ++ reverse step → steps ≡ old ++ reverse ((step ++ guard) ++ i ∷ [])
  behind-put guard step old tests steps i h k = in-front step (guard ++ i ∷ []) old tests steps h k ∙ ap (λ l. old ++ reverse l) (sym (append_assoc step guard (i ∷ [])))

  pub loop-put : (t s : Option Expression) (a : Statement) (next out : ℕ) (old tests steps bodies ticks new : List Instr) (end entry place : ℕ) (tested : Bool) →
      tests ≡ old ++ reverse (test_in p t 0) → steps ≡ tests ++ reverse (step_in p s) → Puts p a place end steps bodies →
      ((n : ℕ) → end + n ≡ suc (length bodies) → ticks ≡ slice_set bodies end (back tested n) ++ instr.Tick ∷ []) →
      ((m : ℕ) → entry + m ≡ length ticks → new ≡ ticks ++ entry_code t m) →
      end ≡ length old → entry ≡ length tests → place ≡ length steps → tested ≡ is_some t → Puts p (Looped t s a) next out old new
  loop-put None s a next out old tests steps bodies ticks new end entry place tested ht hs ha hk hn he hy hp hd n o e f =
      let step = step_in p s in
      let fronts-is = in-front step (instr.Back 0 ∷ []) old tests steps ht hs in
      let one = length-append step (instr.Back 0 ∷ []) in
      let long = put-length (step ++ instr.Back 0 ∷ []) old steps fronts-is in
      let short = put-length (instr.Back 0 ∷ []) old tests ht in
      let body-is = ha 0 (suc (length step)) (omega arith) (omega arith) in
      let body = statement_in p 0 (suc (length step)) a in
      let turn = turn-put (λ n. instr.Back n) body step old steps bodies ticks end fronts-is body-is he
      (λ n h. hk n h ∙ ap (λ b. slice_set bodies end (back b n) ++ instr.Tick ∷ []) hd) in
      let all = put-length (turn_code body step (λ n. instr.Back n)) old ticks turn in
      let whole = turn-length (λ n. instr.Back n) body step in
      hn (suc (length body + length step)) (omega arith) ∙ append-nil ticks ∙ turn
  loop-put (Some c) s a next out old tests steps bodies ticks new end entry place tested ht hs ha hk hn he hy hp hd n o e f =
      let step = step_in p s in
      let guard = code_in p c in
      let fronts-is = behind-put guard step old tests steps (instr.BackIfNotZero 0) ht hs in
      let one = length-append (step ++ guard) (instr.BackIfNotZero 0 ∷ []) in
      let two = length-append step guard in
      let three = length-append guard (instr.BackIfNotZero 0 ∷ []) in
      let long = put-length ((step ++ guard) ++ instr.BackIfNotZero 0 ∷ []) old steps fronts-is in
      let short = put-length (guard ++ instr.BackIfNotZero 0 ∷ []) old tests ht in
      let body-is = ha 0 (suc (length (step ++ guard))) (omega arith) (omega arith) in
      let body = statement_in p 0 (suc (length (step ++ guard))) a in
      let turn = turn-put (λ n. instr.BackIfNotZero n) body (step ++ guard) old steps bodies ticks end fronts-is body-is he
      (λ n h. hk n h ∙ ap (λ b. slice_set bodies end (back b n) ++ instr.Tick ∷ []) hd) in
      let all = put-length (turn_code body (step ++ guard) (λ n. instr.BackIfNotZero n)) old ticks turn in
      let whole = turn-length (λ n. instr.BackIfNotZero n) body (step ++ guard) in
      let m = suc (length body + length step) in
      in-front (instr.Skip m ∷ []) (turn_code body (step ++ guard) (λ n. instr.BackIfNotZero n)) old ticks new turn (hn m (omega arith))

  -- one more statement in front of others
  pub block-put : (x : Statement) (rest : Statements) (next out : ℕ) (old mid new : List Instr) → PutsAll p rest next out old mid → Puts p x next out mid new →
      PutsAll p (Then x rest) next out old new
  block-put x rest next out old mid new h k n o e f =
      let those = statements_in p n o rest in
      let mid-is = h n o e f in
      let long = put-length those old mid mid-is in
      in-front (statement_in p (length those + n) (length those + o) x) those old mid new mid-is (k (length those + n) (length those + o) (omega arith) (omega arith))

-- ---- how many there are

-- a test that is there is there as plain data
pub mapped-some : (o : Option Expr) → is_some o ≡ is_some (option_map expression_of o)
mapped-some None = refl
mapped-some (Some e) = refl

module _ (p : Program) where
  pub put-longer : (a : Statement) (next out : ℕ) (old new : List Instr) → Puts p a next out old new → next ≤ length old → out ≤ length old → length old ≤ length new
  put-longer a next out old new h e f =
      let n = length old - next in
      let o = length old - out in
      let long = put-length (statement_in p n o a) old new (h n o (omega arith) (omega arith)) in
      omega arith

  test-long : (t : Option Expression) → 1 ≤ length (test_in p t 0)
  test-long None = omega arith
  test-long (Some e) = let one = length-append (code_in p e) (instr.BackIfNotZero 0 ∷ []) in omega arith

  pub tests-longer : (t : Option Expression) (old tests : List Instr) → tests ≡ old ++ reverse (test_in p t 0) → length old < length tests
  tests-longer t old tests h =
      let long = put-length (test_in p t 0) old tests h in
      let some = test-long t in
      omega arith

  pub turn-longer : (s : Option Expression) (a : Statement) (end place : ℕ) (tests steps bodies : List Instr) → steps ≡ tests ++ reverse (step_in p s) → Puts p a place end steps bodies →
      place ≡ length steps → end < length tests → length tests ≤ length bodies
  turn-longer s a end place tests steps bodies h k e f =
      let long = put-length (step_in p s) tests steps h in
      let more = put-longer a place end steps bodies k (omega arith) (omega arith) in
      omega arith

  -- the statement in front of those from a place on
  pub block-more : (xs : List Stmt) (place : ℕ) (x : Stmt) (next out : ℕ) (old mid new : List Instr) → 0 < place → place ≤ length xs → x ≡ get_or xs (place - 1) x →
      PutsAll p (statements_of (drop place xs)) next out old mid → Puts p (statement_of x) next out mid new → PutsAll p (statements_of (drop (place - 1) xs)) next out old new
  block-more xs place x next out old mid new some within is h k n o e f =
      let here : place - 1 < length xs = omega arith in
      let one : suc (place - 1) ≡ place = omega arith in
      let split = drop-cons xs (place - 1) x here ∙ ap (λ y. y ∷ drop (suc (place - 1)) xs) (sym is) ∙ ap (λ m. x ∷ drop m xs) one in
      block-put p (statement_of x) (statements_of (drop place xs)) next out old mid new h k n o e f
      ∙ ap (λ l. old ++ reverse (statements_in p n o (statements_of l))) (sym split)
