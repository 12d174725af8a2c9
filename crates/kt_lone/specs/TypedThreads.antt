-- Threads of the tree stay threads of their version, settled, from the entry of `main` on.
use Rattle.std.specs.Prelude.{◌≡◌, ◌⊎◌, ℕ, zero, suc, ◌+◌, ◌<◌, ◌==◌, nat_lt, cond, Bool, true, false, not, List, [], ◌∷◌, length, map, take, codes, slice_get, get_or, Option, Some, None, option_and_then, refl}
use Rattle.std.proofs.Common.{sym, ap, subst, ◌∙◌, arith, inl, inr}
use Rattle.std.specs.Cmp.Lexicographic.{pointwise, bytes_decides}
use Rattle.std.specs.List.{position, position_or_len}
use Rattle.std.proofs.lemmas.Bool.{cases_order}
use Rattle.std.proofs.lemmas.Bool.Decides.{nat_tests}
use Rattle.std.proofs.lemmas.List.{length-take}
use Rattle.std.proofs.lemmas.List.Quantifiers.{position-Some}
use Rattle.std.proofs.lemmas.Option.{none-some, same_Some, slice_get-get_or}
use Rattle.kt_mem.specs.declared.steps.Reply.{Reply}
use Rattle.kt_mem.specs.declared.steps.Reply.TheVariants.{Done, Got, Trapped}
use Rattle.kt_mem.specs.declared.thread.Mode.{Mode}
use Rattle.kt_types.specs.declared.kinds.FieldDecl.{FieldDecl}
use Rattle.kt_tree.proofs.Distinct.{distinct-back}
use Rattle.kt_tree.specs.Names.{place_of}
use Rattle.kt_tree.specs.Tree.{Function}
use Rattle.kt_tree.specs.Version.{Program, IsProgram, AreDistinct, global_names, function_names, update_points}
use Rattle.kt_meaning.proofs.StepTypes.{get-map, Keeps}
use Rattle.kt_meaning.proofs.TreeSettling.{settle-settles}
use Rattle.kt_meaning.proofs.WorkTypes.{entry-IsThread, settle-IsThread, step-Keeps}
use Rattle.kt_meaning.specs.Laws.{IsReplyTo, numbered}
use Rattle.kt_meaning.specs.Steps.{Step, Quiet, Acts, Traps, Ends, IsHead, after_reply}
use Rattle.kt_meaning.specs.Thread as tree
use Rattle.kt_meaning.specs.ThreadTypes.{IsMode, IsThread}
use Rattle.kt_meaning.specs.Values.{AreAt}
use Rattle.kt_meaning.specs.TreeSteps as steps
use Rattle.kt_lone.specs.Update.{new_point, point_of, next_point, updating_from}
use Rattle.kt_lone.specs.Turn.{main_at, restart_in, tree_entry_of, tree_entry, tree_settle, tree_step}
use Rattle.kt_lone.specs.Typed.{IsThreadOf}

-- a program, where there is one, and a mode of its threads
abbrev pub IsProgramIf : Option Program → Type 0
IsProgramIf None = Unit {0}
IsProgramIf (Some p) = IsProgram p

abbrev pub IsModeIf : Option Program → Mode → Type 0
IsModeIf None mode = Unit {0}
IsModeIf (Some p) mode = IsMode p mode

-- a thread of the version at its next act, trap or end
pub record IsSettledThread (v : ℕ) (o : Option Program) (x : tree.Thread) : Type 0 where
  pub typed : IsThreadOf o x
  pub head : IsHead (tree_step v o x)

-- ---- settling

settled-head : (v : ℕ) (o : Option Program) (x : tree.Thread) → IsHead (tree_step v o (tree_settle v o x))
settled-head v None x = tt
settled-head v (Some p) x = (settle-settles (numbered p v) x).head

settled-typed : (v : ℕ) (o : Option Program) (x : tree.Thread) → IsProgramIf o → IsThreadOf o x → IsThreadOf o (tree_settle v o x)
settled-typed v None x h i = tt
settled-typed v (Some p) x h i = settle-IsThread (numbered p v) h x i

pub settled-thread : (v : ℕ) (o : Option Program) (x : tree.Thread) → IsProgramIf o → IsThreadOf o x → IsSettledThread v o (tree_settle v o x)
settled-thread v o x h i = record { typed = settled-typed v o x h i; head = settled-head v o x }

-- ---- replies

after-typed : (p : Program) (x : tree.Thread) (a : Step tree.Thread) (r : Reply) → IsThread p x → Keeps p a → IsReplyTo a r → IsThread p (after_reply x a r)
after-typed p x (Quiet u) r i h k = i
after-typed p x (Acts a go) Done i h k = h.1 Done k.1
after-typed p x (Acts a go) (Got v) i h k = h.1 (Got v) k.1
after-typed p x (Acts a go) (Trapped e) i h k = i
after-typed p x (Traps e) r i h k = i
after-typed p x (Ends a) r i h k = i

replied-typed : (v : ℕ) (o : Option Program) (x : tree.Thread) (r : Reply) → IsProgramIf o → IsThreadOf o x → IsReplyTo (tree_step v o x) r →
    IsThreadOf o (after_reply x (tree_step v o x) r)
replied-typed v None x r h i k = tt
replied-typed v (Some p) x r h i k = after-typed p x (steps.step (numbered p v) x) r i (step-Keeps (numbered p v) h x i) k

-- a reply of the act's kind leaves a settled thread of the version again
pub replied-thread : (v : ℕ) (o : Option Program) (x : tree.Thread) (r : Reply) → IsProgramIf o → IsThreadOf o x → IsReplyTo (tree_step v o x) r →
    IsSettledThread v o (tree_settle v o (after_reply x (tree_step v o x) r))
replied-thread v o x r h i k = settled-thread v o (after_reply x (tree_step v o x) r) h (replied-typed v o x r h i k)

-- ---- the entry of `main`

-- a list has a first place of what passes where something passes
place-within : {X : Type 0} (p : X → Bool) (xs : List X) (k : ℕ) (x : X) → slice_get xs k ≡ Some x → p x ≡ true → position_or_len p xs < length xs
place-within p [] k x at passes = absurd (none-some x at)
place-within p (y ∷ xs) zero x at passes = by_test (p y) (ap p (same_Some y x at) ∙ passes)
  where
    by_test : (b : Bool) → b ≡ true → cond (not b) (1 + position_or_len p xs) 0 < suc (length xs)
    by_test true e = omega arith
    by_test false e = absurd cc
place-within p (y ∷ xs) (suc k) x at passes = by_test (p y) (place-within p xs k x at passes)
  where
    by_test : (b : Bool) → position_or_len p xs < length xs → cond (not b) (1 + position_or_len p xs) 0 < suc (length xs)
    by_test true lt = omega arith
    by_test false lt = omega arith

no-place : {X : Type 0} (p : X → Bool) (xs : List X) (k : ℕ) (x : X) → slice_get xs k ≡ Some x → p x ≡ true → position p xs ≡ None → ⊥
no-place p xs k x at passes none = by_test (nat_lt (position_or_len p xs) (length xs)) refl none
  where
    by_test : (b : Bool) → nat_lt (position_or_len p xs) (length xs) ≡ b → cond b (Some (position_or_len p xs)) None ≡ None → ⊥
    by_test true e n = none-some (position_or_len p xs) (sym n)
    by_test false e n = let lt = place-within p xs k x at passes in grind (arith, nat_tests, lt, e)

same-place : (names : List (List ℕ)) → AreDistinct names → (i j : ℕ) (a : List ℕ) → slice_get names i ≡ Some a → slice_get names j ≡ Some a → i ≡ j
same-place names distinct i j a first second = by_order (cases_order i j)
  where
    by_order : (i ≡ j) ⊎ ((i < j) ⊎ (j < i)) → i ≡ j
    by_order (inl same) = same
    by_order (inr (inl lt)) = absurd (distinct i j a a lt first second refl)
    by_order (inr (inr gt)) = absurd (distinct j i a a gt second first refl)

module _ (p : Program) (h : IsProgram p) where
  main-named : slice_get (function_names p) h.main.0 ≡ Some (codes "main")
  main-named = get-map (λ f. f.name) p.functions h.main.0 h.main.1 h.main.2 ∙ ap Some h.main.3.0

  -- its place is that of its name
  pub main-place : (o : Option ℕ) → place_of (codes "main") (function_names p) ≡ o → o ≡ Some h.main.0
  main-place None e =
      absurd (no-place (pointwise ◌==◌ (codes "main")) (function_names p) h.main.0 (codes "main") main-named
      ((bytes_decides (codes "main") (codes "main")).1 refl) e)
  main-place (Some g) e =
      let there = position-Some (pointwise ◌==◌ (codes "main")) (function_names p) g [] e in
      let named : slice_get (function_names p) g ≡ Some (codes "main") =
      slice_get-get_or (function_names p) g [] there.0
      ∙ ap Some (sym ((bytes_decides (codes "main") (get_or (function_names p) g [])).0 there.1)) in
      ap Some (same-place (function_names p) (distinct-back (global_names p) (function_names p) h.distinct) g h.main.0 (codes "main") named main-named)

  main-entry : (mode : Mode) → IsMode p mode → IsThread p (tree_entry_of mode (main_at p (Some h.main.0)))
  main-entry mode i =
      let f = h.main.1 in
      let none : take f.params f.locals ≡ [] = ap (λ n. take n f.locals) h.main.3.2 in
      subst (λ (q : Option Function). IsThread p (tree_entry_of mode (elim q as (λ _. Option (ℕ × Function)) [ None ↦ None | (Some f) ↦ Some (h.main.0, f) ])))
      (sym h.main.2)
      (entry-IsThread p h h.main.0 f [] (restart_in mode) h.main.2 (subst (λ (ls : List FieldDecl). AreAt p.types (map (λ l. l.ty) ls) []) (sym none) tt) (record { mode = i; kept = tt }))

  entry-of-program : (mode : Mode) → IsMode p mode → IsThread p (tree_entry mode (Some p))
  entry-of-program mode i =
      subst (λ (q : Option ℕ). IsThread p (tree_entry_of mode (main_at p q))) (sym (main-place (place_of (codes "main") (function_names p)) refl))
      (main-entry mode i)

entry-typed : (o : Option Program) (mode : Mode) → IsProgramIf o → IsModeIf o mode → IsThreadOf o (tree_entry mode o)
entry-typed None mode h i = tt
entry-typed (Some p) mode h i = entry-of-program p h mode i

-- a thread that settled from the entry of `main`
pub entered-thread : (v : ℕ) (o : Option Program) (mode : Mode) → IsProgramIf o → IsModeIf o mode → IsSettledThread v o (tree_settle v o (tree_entry mode o))
entered-thread v o mode h i = settled-thread v o (tree_entry mode o) h (entry-typed o mode h i)

-- ---- the mode at a restart

module _ (old new : Program) where
  place-mode : (o : Option ℕ) (name : List ℕ) → place_of name (update_points new) ≡ o → IsMode new (updating_from o)
  place-mode None name e = tt
  place-mode (Some k) name e =
      let there = position-Some (pointwise ◌==◌ name) (update_points new) k [] e in
      let few = length-take new.points.updates new.points.names in
      omega (arith, there.0, few)

  name-mode : (o : Option (List ℕ)) → IsMode new (updating_from (option_and_then (λ name. place_of name (update_points new)) o))
  name-mode None = tt
  name-mode (Some name) = place-mode (place_of name (update_points new)) name refl

  point-mode : (o : Option ℕ) → IsMode new (updating_from (option_and_then (new_point old new) o))
  point-mode None = tt
  point-mode (Some q) = name-mode (slice_get old.points.names q)

  pub next-mode : {X : Type 0} (s : Step X) → IsMode new (updating_from (next_point old new s))
  next-mode s = point-mode (point_of s)
