-- The entry of `main` in code fits the code.
use Rattle.std.proofs.Common.{◌≡◌, ℕ, List, [], map, take, codes, slice_get, Option, Some, None, Result, Ok, Err, IfOk, refl, sym, ap, subst, ◌∙◌, inr}
use Rattle.std.proofs.lemmas.Option.{same_Some}
use Rattle.kt_types.specs.declared.kinds.FieldDecl.{FieldDecl}
use Rattle.kt_mem.specs.declared.thread.Mode.{Mode}
use Rattle.kt_tree.specs.Names.{place_of}
use Rattle.kt_tree.specs.Tree.{Function}
use Rattle.kt_tree.specs.Version.{Program, IsProgram, function_names}
use Rattle.kt_meaning.specs.Laws.{numbered}
use Rattle.kt_meaning.specs.ThreadTypes.{IsMode}
use Rattle.kt_meaning.specs.Values.{AreAt}
use Rattle.kt_code.specs.Code.{Code}
use Rattle.kt_code.specs.Settling.{Fits}
use Rattle.kt_code.specs.declared.private.Private.{Private}
use Rattle.kt_pair.specs.Pair.{Pair}
use Rattle.kt_pair.specs.VersionActs.{DoesVersion, FitsEntries}
use Rattle.kt_lone.specs.Turn.{main_of, main_at, restart_in}
use Rattle.kt_lone.specs.TypedThreads.{main-place}
use Rattle.kt_machine.specs.Engine.{code_entry, entry_at, entry_of}

-- what `main_of` finds
main-is : (p : Program) (h : IsProgram p) → main_of p ≡ Some (h.main.0, h.main.1)
main-is p h =
    ap (main_at p) (main-place p h (place_of (codes "main") (function_names p)) refl)
    ∙ ap (λ (q : Option Function). elim q as (λ _. Option (ℕ × Function)) [ None ↦ None | (Some f) ↦ Some (h.main.0, f) ]) h.main.2

module _ (p : Pair) (h : IsProgram p.program) (does : (n : ℕ) → DoesVersion (numbered p.program n) p.code) (fits : (n : ℕ) → FitsEntries (numbered p.program n) p.code) (v : ℕ) (mode : Mode) (i : IsMode p.program mode) where
  at-place : (o : Option ℕ) → slice_get p.code.entries h.main.0 ≡ o → Fits p.code (entry_at v mode h.main.0 h.main.1 o)
  at-place None e = let there = (does v h.main.0 h.main.1 h.main.2).entry_is in absurd cc
  at-place (Some at) e =
      let none : take h.main.1.params h.main.1.locals ≡ [] = ap (λ n. take n h.main.1.locals) h.main.3.2 in
      fits v h.main.0 at h.main.1 [] (restart_in mode) h.main.2 e (inr h.main.3.1)
      (subst (λ (ls : List FieldDecl). AreAt p.program.types (map (λ l. l.ty) ls) []) (sym none) tt)
      (record { mode = i; kept = tt })

  pub entry-fits : Fits p.code (code_entry v mode (Some p))
  entry-fits =
      subst (λ (o : Option (ℕ × Function)). Fits p.code (entry_of v mode p.code o)) (sym (main-is p.program h))
      (at-place (slice_get p.code.entries h.main.0) refl)

-- each version has a `main`
pub main-there : (p : Program) → IsProgram p → main_of p ≡ None → ⊥
main-there p h e = none-some (h.main.0, h.main.1) (sym e ∙ main-is p h)
  where
    none-some : (x : ℕ × Function) → None ≡ Some x → ⊥
    none-some x e = cc

-- and code of it has the entry
pub main-entry : (p : Pair) → IsProgram p.program → ((n : ℕ) → DoesVersion (numbered p.program n) p.code) → (v g : ℕ) (f : Function) →
    main_of p.program ≡ Some (g, f) → slice_get p.code.entries g ≡ None → ⊥
main-entry p h does v g f found e =
    let same : g ≡ h.main.0 = same-first (main_of p.program) g h.main.0 f h.main.1 found (main-is p.program h) in
    none-some _ (sym (subst (λ g. slice_get p.code.entries g ≡ None) same e) ∙ (does v h.main.0 h.main.1 h.main.2).entry_is)
  where
    same-first : (o : Option (ℕ × Function)) (g k : ℕ) (f e : Function) → o ≡ Some (g, f) → o ≡ Some (k, e) → g ≡ k
    same-first o g k f e h i = ap (λ (x : ℕ × Function). x.0) (same_Some (g, f) (k, e) (sym h ∙ i))

    none-some : (x : ℕ) → None ≡ Some x → ⊥
    none-some x e = cc

-- the state at the entry, by what was found
pub entry-is : (v : ℕ) (mode : Mode) (c : Code) (o : Option (ℕ × Function)) (g : ℕ) (f : Function) (at : Option ℕ) →
    o ≡ Some (g, f) → slice_get c.entries g ≡ at → entry_of v mode c o ≡ entry_at v mode g f at
entry-is v mode c o g f at found there = ap (entry_of v mode c) found ∙ ap (entry_at v mode g f) there

-- a state in a result that is this one is also what this one is
pub ok-is : {E : Type 0} (q s : Private) (r : Result Private E) → IfOk r (λ p. p ≡ q) → q ≡ s → IfOk r (λ p. p ≡ s)
ok-is q s (Ok p) is e = is ∙ e
ok-is q s (Err x) is e = tt

-- and fits where this one does
pub ok-fits : {E : Type 0} (c : Code) (q : Private) (r : Result Private E) → IfOk r (λ p. p ≡ q) → Fits c q → IfOk r (λ p. Fits c p)
ok-fits c q (Ok p) is h = subst (Fits c) (sym is) h
ok-fits c q (Err x) is h = tt
