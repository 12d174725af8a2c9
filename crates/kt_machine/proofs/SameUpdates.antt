-- Worlds that stand for one another still do after a closing: each definition of an update, same in, same out.
use Rattle.std.specs.Prelude.{◌≡◌, ℕ, ◌+◌, List, [], ◌∷◌, map, Option, Some, None, option_and_then, Bool, true, false, ◌&&◌, not, if◌then◌else◌, is_none, refl}
use Rattle.std.proofs.Common.{sym, subst, ap, ◌∙◌}
use Rattle.kt_mem.specs.declared.steps.Reply.TheVariants.{Done}
use Rattle.kt_tree.specs.Version.{Program}
use Rattle.kt_meaning.specs.ThreadTypes.{IsMode}
use Rattle.kt_lone.specs.Job.{Job, version_at}
use Rattle.kt_lone.specs.Turn.{is_live, all_parked}
use Rattle.kt_lone.specs.TypedThreads.{IsModeIf, next-mode}
use Rattle.kt_lone.specs.Update.{new_point, next_point, is_lost, lost_point, let_go, updating_from, restarted, decided, closed_between, closing}
use Rattle.kt_lone.specs.World.{Engine, Standing, Live, Parked, Ended, Shared, Thread, World}
use Rattle.kt_machine.specs.Same.{IsSameThread, AreSameThreads, AreSameWorlds}
use Rattle.kt_machine.proofs.SameThreads.{AreSameEngines, point_of-same, map-same}

-- no thread takes turns
abbrev AreStill : {X : Type 0} → List (Thread X) → Type 0
AreStill l = all_parked l ≡ true

and-parts : (b c : Bool) → (b && c) ≡ true → (b ≡ true) × (c ≡ true)
and-parts true c h = (refl, h)
and-parts false c h = absurd cc

-- a choice of two worlds by the same test
pub chosen-same : {X Y : Type 0} (S : ℕ → Standing → X → Y → Type 0) (b c : Bool) → b ≡ c → (w w' : World X) (v v' : World Y) →
    (b ≡ true → AreSameWorlds S w v) → AreSameWorlds S w' v' → AreSameWorlds S (if b then w else w') (if c then v else v')
chosen-same {X} {Y} S b c is w w' v v' h k =
    subst (λ d. AreSameWorlds S (if b then w else w') (if d then v else v')) is (by_test b h)
  where
    by_test : (b : Bool) → (b ≡ true → AreSameWorlds S w v) → AreSameWorlds S (if b then w else w') (if b then v else v')
    by_test true h = h refl
    by_test false h = k

module _ {X Y : Type 0} (e : Engine X) (f : Engine Y) (S : ℕ → Standing → X → Y → Type 0) (job : Job) (engines : AreSameEngines e f S job) where
  -- ---- points

  next_point-same : (n : ℕ) (old new : Program) (x : X) (y : Y) → S n Live x y → next_point old new (e.step n x) ≡ next_point old new (f.step n y)
  next_point-same n old new x y h =
      ap (option_and_then (new_point old new)) (point_of-same (e.step n x) (f.step n y) (engines.heads n x y h))

  is_lost-same : (n : ℕ) (old new : Program) (standing : Standing) (x : X) (y : Y) → S n standing x y →
      is_lost old new standing (e.step n x) ≡ is_lost old new standing (f.step n y)
  is_lost-same n old new Live x y h = refl
  is_lost-same n old new Parked x y h = ap is_none (next_point-same n old new x y (engines.parked n x y h).0)
  is_lost-same n old new Ended x y h = refl

  lost-same : (n : ℕ) (old new : Program) (a : Thread X) (b : Thread Y) → IsSameThread (S n) a b →
      is_lost old new a.standing (e.step n a.state) ≡ is_lost old new b.standing (f.step n b.state)
  lost-same n old new a b h =
      is_lost-same n old new a.standing a.state b.state h.state
      ∙ ap (λ standing. is_lost old new standing (f.step n b.state)) h.standing

  lost_point-same : (n : ℕ) (old new : Program) (t : ℕ) (l : List (Thread X)) (m : List (Thread Y)) →
      AreSameThreads (S n) l m → lost_point e n old new t l ≡ lost_point f n old new t m
  lost_point-same n old new t [] [] h = refl
  lost_point-same n old new t [] (b ∷ m) h = absurd h
  lost_point-same n old new t (a ∷ l) [] h = absurd h
  lost_point-same n old new t (a ∷ l) (b ∷ m) h =
      ap (λ p. if p then Some t else lost_point e n old new (t + 1) l) (lost-same n old new a b h.0)
      ∙ ap (λ r. if is_lost old new b.standing (f.step n b.state) then Some t else r) (lost_point-same n old new (t + 1) l m h.1)

  -- ---- threads

  -- of one standing
  let_go-by : (n : ℕ) (standing : Standing) (x : X) (y : Y) → S n standing x y →
      IsSameThread (S n) (let_go e n (record { state = x; standing = standing })) (let_go f n (record { state = y; standing = standing }))
  let_go-by n Live x y h = record { standing = refl; state = h }
  let_go-by n Parked x y h =
      let parked = engines.parked n x y h in
      record { standing = refl; state = engines.replies n x y parked.0 Done parked.1 }
  let_go-by n Ended x y h = record { standing = refl; state = h }

  let_go-same : (n : ℕ) (a : Thread X) (b : Thread Y) → IsSameThread (S n) a b → IsSameThread (S n) (let_go e n a) (let_go f n b)
  let_go-same n a b h =
      subst (λ standing. IsSameThread (S n) (let_go e n a) (let_go f n (record { state = b.state; standing = standing })))
      h.standing (let_go-by n a.standing a.state b.state h.state)

  restarted-by : (n : ℕ) (old new : Program) → version_at job (n + 1) ≡ Some new → (standing : Standing) → not (is_live standing) ≡ true →
      (x : X) (y : Y) → S n standing x y →
      IsSameThread (S (n + 1)) (restarted e n old new (record { state = x; standing = standing })) (restarted f n old new (record { state = y; standing = standing }))
  restarted-by n old new is Live still x y h = absurd cc
  restarted-by n old new is Parked still x y h =
      let live = (engines.parked n x y h).0 in
      let mode = updating_from (next_point old new (f.step n y)) in
      let same : updating_from (next_point old new (e.step n x)) ≡ mode = ap updating_from (next_point-same n old new x y live) in
      let of_new : IsMode new mode = next-mode old new (f.step n y) in
      record {
        standing = refl;
        state = subst (λ m. S (n + 1) Live (e.settle (n + 1) (e.entry (n + 1) m)) (f.settle (n + 1) (f.entry (n + 1) mode))) (sym same)
            (engines.entries (n + 1) mode (subst (λ o. IsModeIf o mode) (sym is) of_new));
      }
  restarted-by n old new is Ended still x y h = record { standing = refl; state = engines.ended n (n + 1) x y h }

  restarted-same : (n : ℕ) (old new : Program) → version_at job (n + 1) ≡ Some new → (a : Thread X) (b : Thread Y) →
      not (is_live a.standing) ≡ true → IsSameThread (S n) a b → IsSameThread (S (n + 1)) (restarted e n old new a) (restarted f n old new b)
  restarted-same n old new is a b still h =
      subst (λ standing. IsSameThread (S (n + 1)) (restarted e n old new a) (restarted f n old new (record { state = b.state; standing = standing })))
      h.standing (restarted-by n old new is a.standing still a.state b.state h.state)

  all_restarted-same : (n : ℕ) (old new : Program) → version_at job (n + 1) ≡ Some new → (l : List (Thread X)) (m : List (Thread Y)) → AreStill l →
      AreSameThreads (S n) l m → AreSameThreads (S (n + 1)) (map (restarted e n old new) l) (map (restarted f n old new) m)
  all_restarted-same n old new is [] [] still h = tt
  all_restarted-same n old new is [] (b ∷ m) still h = absurd h
  all_restarted-same n old new is (a ∷ l) [] still h = absurd h
  all_restarted-same n old new is (a ∷ l) (b ∷ m) still h =
      let both = and-parts (not (is_live a.standing)) (all_parked l) still in
      (restarted-same n old new is a b both.0 h.0, all_restarted-same n old new is l m both.1 h.1)

  -- ---- the closing

  decided-same : (s : Shared) (old new : Program) → version_at job (s.version + 1) ≡ Some new → (l : List (Thread X)) (m : List (Thread Y)) → AreStill l →
      AreSameThreads (S s.version) l m → (lost : Option ℕ) →
      AreSameWorlds S (decided e old new lost (record { shared = s; threads = l })) (decided f old new lost (record { shared = s; threads = m }))
  decided-same s old new is l m still h None = record { shared = refl; threads = all_restarted-same s.version old new is l m still h }
  decided-same s old new is l m still h (Some t) = record {
    shared = refl;
    threads = map-same (S s.version) (S s.version) (let_go e s.version) (let_go f s.version) (let_go-same s.version) l m h;
  }

  closed_between-same : (s : Shared) (l : List (Thread X)) (m : List (Thread Y)) → AreStill l → AreSameThreads (S s.version) l m →
      (old new : Option Program) → version_at job (s.version + 1) ≡ new →
      AreSameWorlds S (closed_between e old new (record { shared = s; threads = l })) (closed_between f old new (record { shared = s; threads = m }))
  closed_between-same s l m still h None new is = record { shared = refl; threads = h }
  closed_between-same s l m still h (Some old) None is = record { shared = refl; threads = h }
  closed_between-same s l m still h (Some old) (Some new) is =
      subst (λ lost. AreSameWorlds S (decided e old new (lost_point e s.version old new 0 l) (record { shared = s; threads = l }))
      (decided f old new lost (record { shared = s; threads = m })))
      (lost_point-same s.version old new 0 l m h)
      (decided-same s old new is l m still h (lost_point e s.version old new 0 l))

  pub closing-same : (s : Shared) (l : List (Thread X)) (m : List (Thread Y)) → AreStill l → AreSameThreads (S s.version) l m →
      AreSameWorlds S (closing e job (record { shared = s; threads = l })) (closing f job (record { shared = s; threads = m }))
  closing-same s l m still h =
      closed_between-same s l m still h (version_at job s.version) (version_at job (s.version + 1)) refl
