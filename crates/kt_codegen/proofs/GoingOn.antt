-- Where the thread goes on behind a statement: with fewer replies, at equal places, and in the body of a loop.
use Rattle.std.proofs.Common.{◌≡◌, ℕ, suc, ◌<◌, ◌≤◌, true, if◌then◌else◌, List, ◌∷◌, sym, subst}
use Rattle.kt_mem.specs.declared.memory.Value.{Value}
use Rattle.kt_tree.specs.Tree.{Statement, Function}
use Rattle.kt_meaning.specs.Thread.{Part, is_loop, Work, Restart, Context, to_loop, after_loop}
use Rattle.kt_meaning.specs.TreeSteps.{Version}
use Rattle.kt_code.specs.Code.{Code}
use Rattle.kt_code.specs.declared.frame.Frame.{Frame}
use Rattle.kt_genexpr.specs.Generates.{later}
use Rattle.kt_codegen.specs.StatementActs.{AfterWork, GoesOn, DoesStatement}
use Rattle.kt_codegen.proofs.Agreeing.{fewer-work, fewer-return}

module _ (s : Version) (c : Code) (f : Function) where
  -- fewer replies, other locals
  pub fewer : (m n : ℕ) (x : Context) (locals : List Value) (r : Restart) (w : Work) (below : List Frame) (ops : List Value) (to next out : ℕ) → m ≤ n →
      GoesOn s c f n x w below ops to next out → GoesOn s c f m (later x locals r) w below ops to next out
  fewer m n x locals r w below ops to next out le on = record {
    function = on.function;
    alike = on.alike;
    returned = fewer-return s c m n x.below below ops le on.returned;
    behind = fewer-work s c m n x w below to ops le on.behind;
    continued = fewer-work s c m n x (to_loop w) below next ops le on.continued;
    broken = fewer-work s c m n x (after_loop w) below out ops le on.broken;
  }

  pub work-moved : (n : ℕ) (x : Context) (w : Work) (below : List Frame) (p q : ℕ) (ops : List Value) → p ≡ q → AfterWork s c n x w below p ops → AfterWork s c n x w below q ops
  work-moved n x w below p q ops e h = subst (λ i. AfterWork s c n x w below i ops) e h

  pub does-moved : (n : ℕ) (a : Statement) (from to to' next next' out out' : ℕ) → to ≡ to' → next ≡ next' → out ≡ out' →
      DoesStatement s c f n a from to next out → DoesStatement s c f n a from to' next' out'
  does-moved n a from to to' next next' out out' d e g h =
      subst (λ i. DoesStatement s c f n a from to' next' i) g (subst (λ i. DoesStatement s c f n a from to' i out) e (subst (λ i. DoesStatement s c f n a from i next out) d h))

  pub goes-moved : (n : ℕ) (x : Context) (w : Work) (below : List Frame) (ops : List Value) (to to' next next' out out' : ℕ) → to ≡ to' → next ≡ next' → out ≡ out' →
      GoesOn s c f n x w below ops to next out → GoesOn s c f n x w below ops to' next' out'
  goes-moved n x w below ops to to' next next' out out' d e g h =
      subst (λ i. GoesOn s c f n x w below ops to' next' i) g (subst (λ i. GoesOn s c f n x w below ops to' i out) e (subst (λ i. GoesOn s c f n x w below ops i next out) d h))

  -- at the end of a loop's body, `to_loop` and `after_loop` stop at the first part of the work
  pub in-loop : (n m : ℕ) (x : Context) (w : Work) (below : List Frame) (ops : List Value) (to next out : ℕ) → m ≤ n → GoesOn s c f n x w below ops to next out →
      (q : Part) → is_loop q ≡ true → (behind : ℕ) → AfterWork s c m x (q ∷ w) below behind ops → GoesOn s c f m x (q ∷ w) below ops behind behind to
  in-loop n m x w below ops to next out le on q is behind after = record {
    function = on.function;
    alike = on.alike;
    returned = fewer-return s c m n x.below below ops le on.returned;
    behind = after;
    continued = subst (λ l. AfterWork s c m x (if l then q ∷ w else to_loop w) below behind ops) (sym is) after;
    broken = subst (λ l. AfterWork s c m x (if l then w else after_loop w) below to ops) (sym is) (fewer-work s c m n x w below to ops le on.behind);
  }

  -- the body does what it does on up to so many replies, from the tick on
  abbrev pub BodyDoes : ℕ → Statement → ℕ → ℕ → ℕ → Type 0
  BodyDoes n body p behind out = (m : ℕ) → m < n → DoesStatement s c f m body (suc p) behind behind out
