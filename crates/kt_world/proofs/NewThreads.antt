-- Threads that begin again in the new version are typed by it.
use Rattle.std.specs.Prelude.{◌≡◌, ◌⊎◌, ℕ, zero, suc, ◌+◌, ◌<◌, ◌==◌, ◌&&◌, ◌||◌, not, Bool, true, false, List, [], ◌∷◌, ◌++◌, codes, flat_map, get_or, map, take, slice_get, Option, None, Some, option_and_then, unwrap_or, Ok, refl, if◌then◌else◌}
use Rattle.std.specs.Cmp.Lexicographic.{pointwise, bytes_decides}
use Rattle.std.specs.List.{AllByRecursion, list_all}
use Rattle.std.specs.Option.{option_map}
use Rattle.std.proofs.Common.{arith, ap, inl, inr, sym, subst, ◌∙◌}
use Rattle.std.proofs.lemmas.Bool.{cases_order, eq-eqb, ne_eqb}
use Rattle.std.proofs.lemmas.List.{length-take}
use Rattle.std.proofs.lemmas.List.Quantifiers.{position-Some}
use Rattle.std.proofs.lemmas.Option.{none-some, same_Some, slice_get-get_or}
use Rattle.kt_types.specs.declared.kinds.FieldDecl.{FieldDecl}
use Rattle.kt_types.specs.declared.kinds.Ty.{Ty}
use Rattle.kt_types.specs.Table.{Table}
use Rattle.kt_mem.specs.declared.memory.Value.{Value}
use Rattle.kt_mem.specs.declared.thread.KeptLocal.{KeptLocal}
use Rattle.kt_mem.specs.Memory.{Memory}
use Rattle.kt_tree.proofs.Distinct.{distinct-back}
use Rattle.kt_tree.specs.Kinds.{is_scalar}
use Rattle.kt_tree.specs.Names.{place_of}
use Rattle.kt_tree.specs.Tree.{Function}
use Rattle.kt_tree.specs.Version.{AreDistinct, IsFunction, IsProgram, Program, function_names, global_names, scope_of, update_points}
use Rattle.kt_meaning.proofs.StepTypes.{get-map}
use Rattle.kt_meaning.specs.Thread as tree
use Rattle.kt_meaning.specs.ThreadTypes.{AreKept, IsMode, IsRestart}
use Rattle.kt_meaning.specs.Values.{AreIn, IsIn, IsOf}
use Rattle.xf_plan.proofs.NewTypes.{place-found}
use Rattle.xf_plan.proofs.TypedImages.{all-append, all-get, new_value-of}
use Rattle.xf_plan.specs.Images.{FreshPlace, fresh_places, new_value}
use Rattle.xf_plan.specs.KeepsTypes.{IsLocalOf, IsMemoryOf, IsValueOf, KeepsTypes}
use Rattle.xf_plan.specs.Plan.{LocalRule, LocalSource}
use Rattle.xf_plan.specs.PreValues.{pre_argument, pre_local}
use Rattle.xf_plan.specs.declared.place.Place.{Place}
use Rattle.xf_plan.specs.declared.place.Place.TheVariants.{GlobalCell, Argument, Local, HeapCell}
use Rattle.xf_plan.specs.declared.place.Root.{Root}
use Rattle.kt_world.specs.Events.{all_parked}
use Rattle.kt_world.specs.Job.{Job, Passage, version_at}
use Rattle.kt_world.specs.Trees.{tree_engine}
use Rattle.kt_world.specs.Refusals.{lacks_entry, next_point, point_of}
use Rattle.kt_world.specs.Roots.{argument_of, argument_root, arguments_of, function_at, if_root, local_as, local_root, locals_by, locals_of, new_function, new_parameter, old_local, only_parameter, root, argument_as, thread_roots}
use Rattle.kt_world.specs.Typed.{AreArguments, IsThreadOf}
use Rattle.kt_world.specs.Update.{all_restarted, argument_at, begun_again, if_parked, restarted, kept_at, kept_local, kept_locals, moved_arguments, updating_from}
use Rattle.kt_world.specs.World.{Call, Engine, Standing, Live, Waiter, Parked, Ended, Thread, is_parked, lives}
use Rattle.kt_world.proofs.GoodThreads.{AllFrom, IsGood, IsGoodAs, IsMainFunction, OfNumber, begun}
use Rattle.kt_world.proofs.TypedRoots.{IsOnly, PlaceFits, RootFits, argument-root-is, argument-root-main, locals-of-fit, may-enter, only-is, only-parameters, root-exists}

-- a value of a type of a table
in-of : (types : Table) (t : ℕ) (u : Ty) (v : Value) → slice_get types.types t ≡ Some u → IsValueOf u v → IsIn types t v
in-of types t u v at (inl gone) = inl gone
in-of types t u v at (inr is) = inr (subst (λ o. IsOf o v) (sym at) is)

-- ---- `main`

same-place : (names : List (List ℕ)) → AreDistinct names → (i k : ℕ) (a : List ℕ) → slice_get names i ≡ Some a → slice_get names k ≡ Some a → i ≡ k
same-place names distinct i k a first second = by_order (cases_order i k)
  where
    by_order : (i ≡ k) ⊎ ((i < k) ⊎ (k < i)) → i ≡ k
    by_order (inl same) = same
    by_order (inr (inl lt)) = absurd (distinct i k a a lt first second refl)
    by_order (inr (inr gt)) = absurd (distinct k i a a gt second first refl)

module _ (p : Program) (h : IsProgram p) where
  main-named : slice_get (function_names p) h.main.0 ≡ Some (codes "main")
  main-named = get-map (λ f. f.name) p.functions h.main.0 h.main.1 h.main.2 ∙ ap Some h.main.3.0

  pub main-place : place_of (codes "main") (function_names p) ≡ Some h.main.0
  main-place =
      let found = place-found (pointwise ◌==◌ (codes "main")) (function_names p) h.main.0 (codes "main") main-named ((bytes_decides (codes "main") (codes "main")).1 refl) in
      let there = position-Some (pointwise ◌==◌ (codes "main")) (function_names p) found.0 [] found.1 in
      let named : slice_get (function_names p) found.0 ≡ Some (codes "main") =
      slice_get-get_or (function_names p) found.0 [] there.0
      ∙ ap Some (sym ((bytes_decides (codes "main") (get_or (function_names p) found.0 [])).0 there.1)) in
      found.1 ∙ ap Some (same-place (function_names p) (distinct-back (global_names p) (function_names p) h.distinct) found.0 h.main.0 (codes "main") named main-named)

  pub main-is : IsMainFunction p h.main.0
  main-is = record { function = h.main.1; function_is = h.main.2; name = h.main.3.0; params = h.main.3.2 }

  pub main-arguments : AreArguments p h.main.0 []
  main-arguments = record {
    function = h.main.1;
    function_is = h.main.2;
    values = subst (λ n. AreIn p.types (map (λ (l : FieldDecl). l.ty) (take n h.main.1.locals)) []) (sym h.main.3.2) tt;
  }

-- ---- the mode

module _ (old new : Program) where
  place-mode : (o : Option ℕ) (name : List ℕ) → place_of name (update_points new) ≡ o → IsMode new (updating_from o)
  place-mode None name is = tt
  place-mode (Some k) name is =
      let there = position-Some (pointwise ◌==◌ name) (update_points new) k [] is in
      let few = length-take new.points.updates new.points.names in
      omega (arith, there.0, few)

  name-mode : (o : Option (List ℕ)) → IsMode new (updating_from (option_and_then (λ name. place_of name (update_points new)) o))
  name-mode None = tt
  name-mode (Some name) = place-mode (place_of name (update_points new)) name refl

  point-mode : (j : Passage) → j.old ≡ old → j.new ≡ new → (o : Option ℕ) → IsMode new (updating_from (option_and_then (λ q. option_and_then (λ name. place_of name (update_points new)) (slice_get old.points.names q)) o))
  point-mode j a b None = tt
  point-mode j a b (Some q) = name-mode (slice_get old.points.names q)

next-mode : {X : Type 0} (e : Engine X) (v : ℕ) (j : Passage) (th : Thread X) → IsMode j.new (updating_from (next_point e v j th))
next-mode e v j th = point-mode j.old j.new j refl refl (point_of (e.step v th.state))

-- ---- lists

flat-append : {A B : Type 0} (f : A → List B) (xs ys : List A) → flat_map f (xs ++ ys) ≡ flat_map f xs ++ flat_map f ys
flat-append f [] ys = refl
flat-append {B = B} f (x ∷ xs) ys = ap (λ rest. f x ++ rest) (flat-append f xs ys) ∙ joined (f x) (flat_map f xs) (flat_map f ys)
  where
    joined : (xs ys zs : List B) → xs ++ (ys ++ zs) ≡ (xs ++ ys) ++ zs
    joined [] ys zs = refl
    joined (x ∷ xs) ys zs = ap (λ rest. x ∷ rest) (joined xs ys zs)

-- where each gives nothing
flat-none : {A B : Type 0} (f : A → List B) (xs : List A) → AllByRecursion (λ x. f x ≡ []) xs → flat_map f xs ≡ []
flat-none f [] all = refl
flat-none f (x ∷ xs) all = ap (λ ys. ys ++ flat_map f xs) all.0 ∙ flat-none f xs all.1

no-more : {A : Type 0} (xs : List A) → xs ++ [] ≡ xs
no-more [] = refl
no-more (x ∷ xs) = ap (λ rest. x ∷ rest) (no-more xs)

-- ---- arguments that are moved

module _ {X : Type 0} (e : Engine X) (j : Passage) (m : Memory) (fresh : List FreshPlace) where
  abbrev at : ℕ → Root → List Value
  at k r = argument_at j.plan m fresh k r r.place

  abbrev Gives-none : ℕ → Root → Type 0
  Gives-none k r = at k r ≡ []

  -- noted locals give none
  local-none : (k t : ℕ) (calls : List Call) (r : LocalRule) → AllByRecursion (Gives-none k) (if_root (local_root j m t calls r))
  local-none k t calls r = by-source r.source
    where
      by-type : (s : LocalSource) (val : Value) (u : Option Ty) → AllByRecursion (Gives-none k) (if_root (option_map (λ u. record { place = Local t r.function r.local; ty = u; value = pre_local j.plan m u s.body val; view = r.view }) u))
      by-type s val None = tt
      by-type s val (Some u) = (refl, tt)

      by-value : (s : LocalSource) (x : Option Value) → AllByRecursion (Gives-none k) (if_root (option_and_then (local_as j m t r s) x))
      by-value s None = tt
      by-value s (Some val) = by-type s val (slice_get j.plan.new.types r.ty)

      by-source : (x : Option LocalSource) → AllByRecursion (Gives-none k) (if_root (option_and_then (λ s. option_and_then (local_as j m t r s) (old_local calls s)) x))
      by-source None = tt
      by-source (Some s) = by-value s (old_local calls s)

  locals-by-none : (k t : ℕ) (calls : List Call) (rules : List LocalRule) → AllByRecursion (Gives-none k) (locals_by j m t calls rules)
  locals-by-none k t calls [] = tt
  locals-by-none k t calls (r ∷ rules) = all-append (Gives-none k) (if_root (local_root j m t calls r)) (locals_by j m t calls rules) (local-none k t calls r) (locals-by-none k t calls rules)

  locals-none : (k t : ℕ) (threads : List (Thread X)) → AllByRecursion (Gives-none k) (locals_of e j m t threads)
  locals-none k t [] = tt
  locals-none k t (th ∷ threads) =
      all-append (Gives-none k) (locals_by j m t (e.calls th.state) j.plan.locals) (locals_of e j m (suc t) threads) (locals-by-none k t (e.calls th.state) j.plan.locals) (locals-none k (suc t) threads)

  -- the argument of another thread gives none
  other-none : (k t : ℕ) → (t == k) ≡ false → (th : Thread X) → AllByRecursion (Gives-none k) (argument_of j t th)
  other-none k t other th = by-life (lives th.standing)
    where
      by-type : (a : Value) (d : FieldDecl) (u : Option Ty) → AllByRecursion (Gives-none k) (if_root (option_map (λ u. root (Argument t) u (Ok (pre_argument u a)) d) u))
      by-type a d None = tt
      by-type a d (Some u) = (ap (λ b. if b then new_value j.plan m fresh (Argument t) (Ok (pre_argument u a)) ∷ [] else []) other, tt)

      by-parameter : (a : Value) (d : Option FieldDecl) → AllByRecursion (Gives-none k) (if_root (option_and_then (argument_as j t a) d))
      by-parameter a None = tt
      by-parameter a (Some d) = by-type a d (slice_get j.plan.new.types d.ty)

      by-arguments : (arguments : List Value) → AllByRecursion (Gives-none k) (if_root (argument_root j t th.entry arguments))
      by-arguments [] = tt
      by-arguments (a ∷ more) = by-parameter a (new_parameter j th.entry)

      by-life : (b : Bool) → AllByRecursion (Gives-none k) (if b then if_root (argument_root j t th.entry th.arguments) else [])
      by-life true = by-arguments th.arguments
      by-life false = tt

  later-none : (k t : ℕ) → k < t → (threads : List (Thread X)) → flat_map (at k) (arguments_of j t threads) ≡ []
  later-none k t less [] = refl
  later-none k t less (th ∷ threads) =
      flat-append (at k) (argument_of j t th) (arguments_of j (suc t) threads)
      ∙ ap (λ xs. xs ++ flat_map (at k) (arguments_of j (suc t) threads)) (flat-none (at k) (argument_of j t th) (other-none k t (ne_eqb t k apart) th))
      ∙ later-none k (suc t) (omega (arith, less)) threads
    where
      apart : t ≡ k → ⊥
      apart same = omega (arith, same, less)

  own-at : (t n : ℕ) (threads : List (Thread X)) (th : Thread X) → slice_get threads n ≡ Some th → (k : ℕ) → t + n ≡ k → flat_map (at k) (arguments_of j t threads) ≡ flat_map (at k) (argument_of j k th)
  own-at t n [] th there k same = absurd (none-some th there)
  own-at t zero (x ∷ threads) th there k same =
      let here : t ≡ k = omega (arith, same) in
      flat-append (at k) (argument_of j t x) (arguments_of j (suc t) threads)
      ∙ ap (λ xs. flat_map (at k) (argument_of j t x) ++ xs) (later-none k (suc t) (omega (arith, here)) threads)
      ∙ no-more (flat_map (at k) (argument_of j t x))
      ∙ ap (λ i. flat_map (at k) (argument_of j i x)) here
      ∙ ap (λ y. flat_map (at k) (argument_of j k y)) (same_Some x th there)
  own-at t (suc n) (x ∷ threads) th there k same =
      flat-append (at k) (argument_of j t x) (arguments_of j (suc t) threads)
      ∙ ap (λ xs. xs ++ flat_map (at k) (arguments_of j (suc t) threads)) (flat-none (at k) (argument_of j t x) (other-none k t (ne_eqb t k (λ e. apart e)) x))
      ∙ own-at (suc t) n threads th there k (omega (arith, same))
    where
      apart : t ≡ k → ⊥
      apart e = omega (arith, e, same)

  -- what is moved of a thread's arguments is what its own root gives
  pub moved-own : (threads : List (Thread X)) (k : ℕ) (th : Thread X) → slice_get threads k ≡ Some th
      → moved_arguments j.plan m fresh (arguments_of j 0 threads ++ locals_of e j m 0 threads) k ≡ flat_map (at k) (argument_of j k th)
  moved-own threads k th there =
      flat-append (at k) (arguments_of j 0 threads) (locals_of e j m 0 threads)
      ∙ ap (λ xs. flat_map (at k) (arguments_of j 0 threads) ++ xs) (flat-none (at k) (locals_of e j m 0 threads) (locals-none k 0 threads))
      ∙ no-more (flat_map (at k) (arguments_of j 0 threads))
      ∙ own-at 0 k threads th there k (omega arith)

-- ---- noted locals that are kept

kept-append : (p : Program) (xs ys : List KeptLocal) → AreKept p xs → AreKept p ys → AreKept p (xs ++ ys)
kept-append p [] ys all more = more
kept-append p (x ∷ xs) ys all more = (all.0, kept-append p xs ys all.1 more)

-- ---- a scalar type is one of the table

scalar-some : (p : Program) (f : Function) (t : ℕ) → is_scalar (scope_of p f) t ≡ true → (u : Ty) × (slice_get p.types.types t ≡ Some u)
scalar-some p f t is = by (slice_get p.types.types t) refl
  where
    by : (o : Option Ty) → slice_get p.types.types t ≡ o → (u : Ty) × (slice_get p.types.types t ≡ Some u)
    by None at = let k : false ≡ true = rw at at is in absurd cc
    by (Some u) at = (u, at)

all-scalar : (p : Program) (f : Function) (ls : List FieldDecl) (n : ℕ) (d : FieldDecl) → list_all (λ l. is_scalar (scope_of p f) l.ty) ls ≡ true → slice_get ls n ≡ Some d → is_scalar (scope_of p f) d.ty ≡ true
all-scalar p f [] n d all at = absurd (none-some d at)
all-scalar p f (l ∷ ls) n d all at = by (is_scalar (scope_of p f) l.ty) refl n all at (all-scalar p f ls)
  where
    by : (b : Bool) → is_scalar (scope_of p f) l.ty ≡ b → (n : ℕ) → (b && list_all (λ l. is_scalar (scope_of p f) l.ty) ls) ≡ true → slice_get (l ∷ ls) n ≡ Some d
        → ((n : ℕ) (d : FieldDecl) → list_all (λ l. is_scalar (scope_of p f) l.ty) ls ≡ true → slice_get ls n ≡ Some d → is_scalar (scope_of p f) d.ty ≡ true) → is_scalar (scope_of p f) d.ty ≡ true
    by true is zero all at rest = subst (λ (x : FieldDecl). is_scalar (scope_of p f) x.ty ≡ true) (same_Some l d at) is
    by true is (suc n) all at rest = rest n d all at
    by false is n all at rest = absurd cc

-- ---- threads begin again

module _ (job : Job) (j : Passage) (keeps : KeepsTypes j.old j.new j.plan) (m : Memory) (memory : IsMemoryOf j.old.types m) (v : ℕ) (new : IsProgram j.new)
    (there : version_at job (suc v) ≡ Some j.new) where
  abbrev o : Option Program
  o = version_at job v

  abbrev Old : ℕ → Thread tree.Thread → Type 0
  Old k th = IsGood v o j.old k th

  abbrev New : ℕ → Thread tree.Thread → Type 0
  New k th = IsGood (suc v) (version_at job (suc v)) j.new k th

  abbrev Fits : Root → Type 0
  Fits r = RootFits j keeps m memory v o r

  kept-of : (fresh : List FreshPlace) (k : ℕ) (roots : List Root) → AllByRecursion Fits roots → AreKept j.new (kept_locals j.plan m fresh roots k)
  kept-of fresh k [] all = tt
  kept-of fresh k (r ∷ roots) all =
      kept-append j.new (kept_at j.plan m fresh k r r.place) (kept_locals j.plan m fresh roots k) (by r.place all.0.place) (kept-of fresh k roots all.1)
    where
      one : (u f x : ℕ) → (d : FieldDecl) × IsLocalOf j.new f x d × (slice_get j.new.types.types d.ty ≡ Some r.ty) → (b : Bool)
          → AreKept j.new (if b then kept_local f x (new_value j.plan m fresh r.place r.value) ∷ [] else [])
      one u f x (d, is, type) true = (
        record {
          function = is.function;
          local = d;
          function_is = is.function_is;
          local_is = is.local_is;
          value = in-of j.new.types d.ty r.ty (new_value j.plan m fresh r.place r.value) type (new_value-of j.plan m fresh r.place r.ty r.value all.0.gives);
        },
        tt,
      )
      one u f x fits false = tt

      by : (place : Place) → PlaceFits j keeps m memory v o r place → AreKept j.new (kept_at j.plan m fresh k r place)
      by (GlobalCell g c) fits = tt
      by (Argument t) fits = tt
      by (HeapCell a c) fits = tt
      by (Local u f x) fits = one u f x fits (u == k)

  -- a thread that begins so
  begin-good : (k f : ℕ) (arguments : List Value) (r : tree.Restart) → AreArguments j.new f arguments → OfNumber j.new k f → IsRestart j.new r
      → New k (begun_again (tree_engine job) (suc v) f arguments r)
  begin-good k f arguments r are number restart =
      (record { thread = begun (suc v) (version_at job (suc v)) j.new there new f arguments r are restart; arguments = are }, number)

  module _ (threads : List (Thread tree.Thread)) (old : AllFrom Old 0 threads) (enters : (t : ℕ) (th : Thread tree.Thread) → slice_get threads t ≡ Some th → lacks_entry j t th ≡ false) where
    abbrev roots : List Root
    roots = thread_roots (tree_engine job) j m threads

    abbrev fresh : List FreshPlace
    fresh = fresh_places j.plan m roots

    arguments-fit : (t : ℕ) (rest : List (Thread tree.Thread)) → AllFrom Old t rest → ((n : ℕ) (th : Thread tree.Thread) → slice_get rest n ≡ Some th → lacks_entry j (t + n) th ≡ false)
        → AllByRecursion Fits (arguments_of j t rest)
    arguments-fit t [] all may = tt
    arguments-fit t (th ∷ rest) all may =
        all-append Fits (argument_of j t th) (arguments_of j (suc t) rest)
        (by-life (lives th.standing) refl)
        (arguments-fit (suc t) rest all.1 (λ n x at. subst (λ i. lacks_entry j i x ≡ false) (omega arith) (may (suc n) x at)))
      where
        up : (standing : Standing) → lives standing ≡ true → IsGoodAs v o j.old t standing th → IsThreadOf j.old th × OfNumber j.old t th.entry
        up Live is h = h
        up (Waiter n c) is h = h
        up Parked is h = (h.0, h.1)
        up Ended is h = absurd cc

        by-root : (t : ℕ) → IsThreadOf j.old th → OfNumber j.old t th.entry → lives th.standing ≡ true → lacks_entry j t th ≡ false → (x : Option Root) → argument_root j t th.entry th.arguments ≡ x
            → AllByRecursion Fits (if_root x)
        by-root t i number life lacks None at = tt
        by-root zero i number life lacks (Some r) at =
            absurd (none-some r (sym (argument-root-main j keeps m memory v o th number i.arguments) ∙ at))
        by-root (suc t) i number life lacks (Some r) at =
            let is = argument-root-is j keeps m memory v o (suc t) th (may-enter j keeps m memory v o t th life lacks) i.arguments r at in
            (record { gives = is.gives; place = subst (PlaceFits j keeps m memory v o r) (sym is.place) tt }, tt)

        by-life : (b : Bool) → lives th.standing ≡ b → AllByRecursion Fits (if b then if_root (argument_root j t th.entry th.arguments) else [])
        by-life true is =
            let both = up th.standing is all.0 in
            let lacks = subst (λ i. lacks_entry j i th ≡ false) (omega arith) (may 0 th refl) in
            by-root t both.0 both.1 is lacks (argument_root j t th.entry th.arguments) refl
        by-life false is = tt

    pub roots-fit : AllByRecursion Fits roots
    roots-fit =
        all-append Fits (arguments_of j 0 threads) (locals_of (tree_engine job) j m 0 threads)
        (arguments-fit 0 threads old (λ n th at. subst (λ i. lacks_entry j i th ≡ false) (omega arith) (enters n th at)))
        (locals-of-fit j keeps m memory v o job 0 threads old)

    -- ---- one thread

    module _ (k : ℕ) (th : Thread tree.Thread) (at-k : slice_get threads k ≡ Some th) (life : lives th.standing ≡ true) (i : IsThreadOf j.old th) where
      abbrev restart : tree.Restart
      restart = record { mode = updating_from (next_point (tree_engine job) v j th); kept = kept_locals j.plan m fresh roots k }

      restart-is : IsRestart j.new restart
      restart-is = record { mode = next-mode (tree_engine job) v j th; kept = kept-of fresh k roots roots-fit }

      own : moved_arguments j.plan m fresh roots k ≡ flat_map (λ r. argument_at j.plan m fresh k r r.place) (if_root (argument_root j k th.entry th.arguments))
      own =
          moved-own (tree_engine job) j m fresh threads k th at-k
          ∙ ap (λ b. flat_map (λ (r : Root). argument_at j.plan m fresh k r r.place) (if b then if_root (argument_root j k th.entry th.arguments) else [])) life

    main-good : (th : Thread tree.Thread) → slice_get threads 0 ≡ Some th → lives th.standing ≡ true → IsThreadOf j.old th → IsMainFunction j.old th.entry
        → New 0 (restarted (tree_engine job) v j m roots 0 th)
    main-good th at-k life i main =
        let none = argument-root-main j keeps m memory v o th main i.arguments in
        let moved : moved_arguments j.plan m fresh roots 0 ≡ [] =
        own 0 th at-k life i ∙ ap (λ x. flat_map (λ (r : Root). argument_at j.plan m fresh 0 r r.place) (if_root x)) none in
        let function : new_function j th.entry ≡ Some new.main.0 =
        ap (option_and_then (λ (g : Function). place_of g.name (function_names j.new))) main.function_is
        ∙ ap (λ name. place_of name (function_names j.new)) main.name ∙ main-place j.new new in
        let entry : unwrap_or (new_function j th.entry) 0 ≡ new.main.0 = ap (λ x. unwrap_or x 0) function in
        begin-good 0 (unwrap_or (new_function j th.entry) 0) (moved_arguments j.plan m fresh roots 0) (restart 0 th at-k life i)
        (subst (λ f. AreArguments j.new f (moved_arguments j.plan m fresh roots 0)) (sym entry) (subst (AreArguments j.new new.main.0) (sym moved) (main-arguments j.new new)))
        (subst (IsMainFunction j.new) (sym entry) (main-is j.new new)) (restart-is 0 th at-k life i)

    -- the entry function of a thread above 0 in the new version
    record NewEntry (f : ℕ) (d : FieldDecl) : Type 0 where
      number : ℕ
      number_is : new_function j f ≡ Some number
      function : Function
      function_is : slice_get j.new.functions number ≡ Some function
      only : IsOnly function d

    new-entry : (f : ℕ) (d : FieldDecl) → new_parameter j f ≡ Some d → NewEntry f d
    new-entry f d is = by (new_function j f) refl is
      where
        by-function : (g : ℕ) → new_function j f ≡ Some g → (x : Option Function) → slice_get j.new.functions g ≡ x → option_and_then only_parameter x ≡ Some d → NewEntry f d
        by-function g at None there k = absurd (none-some d k)
        by-function g at (Some fn) there k = record { number = g; number_is = at; function = fn; function_is = there; only = only-is fn d k }

        by : (x : Option ℕ) → new_function j f ≡ x → option_and_then (λ g. option_and_then only_parameter (function_at j.new g)) x ≡ Some d → NewEntry f d
        by None at k = absurd (none-some d k)
        by (Some g) at k = by-function g at (slice_get j.new.functions g) refl k

    other-good : (k : ℕ) (th : Thread tree.Thread) → slice_get threads (suc k) ≡ Some th → lives th.standing ≡ true → IsThreadOf j.old th → New (suc k) (restarted (tree_engine job) v j m roots (suc k) th)
    other-good k th at-k life i =
        let may = may-enter j keeps m memory v o k th life (enters (suc k) th at-k) in
        let entry = new-entry th.entry may.new may.new_is in
        let scalar = all-scalar j.new entry.function entry.function.locals 0 may.new (all-get (IsFunction j.new) j.new.functions entry.number entry.function new.functions entry.function_is).locals entry.only.local in
        let (u, type) = scalar-some j.new entry.function may.new.ty scalar in
        let (r, at) = root-exists j keeps m memory v o (suc k) th may i.arguments u type in
        let is = argument-root-is j keeps m memory v o (suc k) th may i.arguments r at in
        let value = new_value j.plan m fresh r.place r.value in
        let moved : moved_arguments j.plan m fresh roots (suc k) ≡ value ∷ [] =
        own (suc k) th at-k life i ∙ ap (λ x. flat_map (λ (y : Root). argument_at j.plan m fresh (suc k) y y.place) (if_root x)) at
        ∙ ap (λ place. argument_at j.plan m fresh (suc k) r place ++ []) is.place
        ∙ ap (λ b. (if b then value ∷ [] else []) ++ []) (eq-eqb (suc k) (suc k) refl) in
        let place : unwrap_or (new_function j th.entry) 0 ≡ entry.number = ap (λ x. unwrap_or x 0) entry.number_is in
        let same : is.new ≡ may.new = same_Some is.new may.new (sym is.new_is ∙ may.new_is) in
        let own_type : slice_get j.new.types.types may.new.ty ≡ Some r.ty = ap (λ (d : FieldDecl). slice_get j.new.types.types d.ty) (sym same) ∙ is.type in
        let typed : IsIn j.new.types may.new.ty value = in-of j.new.types may.new.ty r.ty value own_type (new_value-of j.plan m fresh r.place r.ty r.value is.gives) in
        let are : AreArguments j.new entry.number (value ∷ []) = record {
          function = entry.function;
          function_is = entry.function_is;
          values = subst (λ ts. AreIn j.new.types ts (value ∷ [])) (sym (only-parameters entry.function may.new entry.only)) (typed, tt);
        } in
        begin-good (suc k) (unwrap_or (new_function j th.entry) 0) (moved_arguments j.plan m fresh roots (suc k)) (restart (suc k) th at-k life i)
        (subst (λ f. AreArguments j.new f (moved_arguments j.plan m fresh roots (suc k))) (sym place) (subst (AreArguments j.new entry.number) (sym moved) are))
        tt (restart-is (suc k) th at-k life i)

    -- ---- all threads

    parked-good : (k : ℕ) (th : Thread tree.Thread) → slice_get threads k ≡ Some th → lives th.standing ≡ true → IsThreadOf j.old th → OfNumber j.old k th.entry
        → New k (restarted (tree_engine job) v j m roots k th)
    parked-good zero th at-k life i number = main-good th at-k life i number
    parked-good (suc k) th at-k life i number = other-good k th at-k life i

    thread-good : (k : ℕ) (th : Thread tree.Thread) → slice_get threads k ≡ Some th → (not (lives th.standing) || is_parked th.standing) ≡ true → Old k th
        → New k (if_parked th.standing th (restarted (tree_engine job) v j m roots k th))
    thread-good k th at-k parked h = by th.standing refl parked h
      where
        by : (standing : Standing) → th.standing ≡ standing → (not (lives standing) || is_parked standing) ≡ true → IsGoodAs v o j.old k standing th
            → New k (if_parked standing th (restarted (tree_engine job) v j m roots k th))
        by Live is parked h = absurd cc
        by (Waiter n c) is parked h = absurd cc
        by Parked is parked h = parked-good k th at-k (ap lives is) h.0 h.1
        by Ended is parked h = subst (λ standing. IsGoodAs (suc v) (version_at job (suc v)) j.new k standing th) (sym is) h

    all-good : (t : ℕ) (rest : List (Thread tree.Thread)) → AllFrom Old t rest → ((n : ℕ) (th : Thread tree.Thread) → slice_get rest n ≡ Some th → slice_get threads (t + n) ≡ Some th)
        → all_parked rest ≡ true → AllFrom New t (all_restarted (tree_engine job) v j m roots t rest)
    all-good t [] all at parked = tt
    all-good t (th ∷ rest) all at parked = by (not (lives th.standing) || is_parked th.standing) refl parked (all-good (suc t) rest all.1 (λ n x there. subst (λ i. slice_get threads i ≡ Some x) (omega arith) (at (suc n) x there)))
      where
        own-at-t : slice_get threads t ≡ Some th
        own-at-t = subst (λ i. slice_get threads i ≡ Some th) (omega arith) (at 0 th refl)

        by : (b : Bool) → (not (lives th.standing) || is_parked th.standing) ≡ b → (b && all_parked rest) ≡ true
            → (all_parked rest ≡ true → AllFrom New (suc t) (all_restarted (tree_engine job) v j m roots (suc t) rest))
            → AllFrom New t (all_restarted (tree_engine job) v j m roots t (th ∷ rest))
        by true is more goes = (thread-good t th own-at-t is all.0, goes more)
        by false is more goes = absurd cc

    pub restarted-good : all_parked threads ≡ true → AllFrom New 0 (all_restarted (tree_engine job) v j m roots 0 threads)
    restarted-good parked = all-good 0 threads old (λ n th at. subst (λ i. slice_get threads i ≡ Some th) (omega arith) at) parked
