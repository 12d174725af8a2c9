-- The threads of one engine stand for those of another, under a relation of their states that both engines keep. What the
-- definitions of a turn read of them is then the same.
use Rattle.std.specs.Prelude.{◌≡◌, ℕ, zero, suc, ◌+◌, List, [], ◌∷◌, map, Option, Some, None, Bool, true, ◌&&◌, ◌||◌, not, slice_get, slice_set, refl}
use Rattle.std.specs.List.{list_all}
use Rattle.std.specs.Option.{is_some}
use Rattle.std.proofs.Common.{subst, ap, ◌∙◌}
use Rattle.kt_mem.specs.declared.steps.Act.TheVariants as act
use Rattle.kt_mem.specs.declared.steps.Reply.{Reply}
use Rattle.kt_mem.specs.declared.steps.Reply.TheVariants.{Done}
use Rattle.kt_mem.specs.declared.thread.Mode.{Mode}
use Rattle.kt_mem.specs.Memory.{Memory}
use Rattle.kt_meaning.specs.Steps.{Step, Acts, Traps, Ends, after_reply}
use Rattle.kt_code.specs.Agreement.{IsReplyTo, SameHead}
use Rattle.kt_lone.specs.Job.{Job, version_at}
use Rattle.kt_lone.specs.Turn.{is_live, is_turnable, is_waiting, enabled_as, enabled_if, any_enabled, is_normal, main_is_normal, has_ended, all_normal, all_parked}
use Rattle.kt_lone.specs.TypedThreads.{IsModeIf}
use Rattle.kt_lone.specs.Update.{point_of_act, point_of}
use Rattle.kt_lone.specs.World.{Engine, Standing, Live, Parked, Ended, Shared, Thread}
use Rattle.kt_machine.specs.Same.{IsSameThread, AreSameThreads}

-- in each version the engines keep a relation of states
pub record AreSameEngines {X Y : Type 0} (e : Engine X) (f : Engine Y) (S : ℕ → Standing → X → Y → Type 0) (job : Job) : Type 0 where
  pub modes : (n : ℕ) (standing : Standing) (x : X) (y : Y) → S n standing x y → e.mode x ≡ f.mode y
  pub heads : (n : ℕ) (x : X) (y : Y) → S n Live x y → SameHead (e.step n x) (f.step n y)
  -- a parked thread stands at a point, so that the world's reply is of its act's kind
  pub parks : (n : ℕ) (x : X) (y : Y) → S n Live x y → is_some (point_of (e.step n x)) ≡ true → S n Parked x y
  pub parked : (n : ℕ) (x : X) (y : Y) → S n Parked x y → S n Live x y × IsReplyTo (e.step n x) Done
  -- an ended thread is the same in each version
  pub ends : (n : ℕ) (x : X) (y : Y) → S n Live x y → S n Ended x y
  pub ended : (n m : ℕ) (x : X) (y : Y) → S n Ended x y → S m Ended x y
  pub replies : (n : ℕ) (x : X) (y : Y) → S n Live x y → (r : Reply) → IsReplyTo (e.step n x) r →
      S n Live (e.settle n (after_reply x (e.step n x) r)) (f.settle n (after_reply y (f.step n y) r))
  pub entries : (n : ℕ) (mode : Mode) → IsModeIf (version_at job n) mode →
      S n Live (e.settle n (e.entry n mode)) (f.settle n (f.entry n mode))

-- ---- heads

pub point_of-same : {X Y : Type 0} (s : Step X) (t : Step Y) → SameHead s t → point_of s ≡ point_of t
point_of-same (Acts a go) (Acts b go') h = ap point_of_act h
point_of-same (Traps c) (Traps d) h = refl
point_of-same (Ends x) (Ends y) h = refl
point_of-same s t h = absurd h

is_waiting-same : {X Y : Type 0} (m : Memory) (n : ℕ) (s : Step X) (t : Step Y) → SameHead s t → is_waiting m n s ≡ is_waiting m n t
is_waiting-same {X} {Y} m n (Acts a go) (Acts b go') h =
    subst (λ b. is_waiting m n (Acts a go) ≡ is_waiting m n (Acts b go')) h (by_act a)
  where
    by_act : (a : _) → is_waiting m n (Acts a go) ≡ is_waiting m n (Acts a go')
    by_act (act.Lock p) = refl
    by_act a = refl
is_waiting-same m n (Traps c) (Traps d) h = refl
is_waiting-same m n (Ends x) (Ends y) h = refl
is_waiting-same m n s t h = absurd h

-- ---- lists of threads

abbrev pub AreSameFound : {X Y : Type 0} → (Standing → X → Y → Type 0) → Option (Thread X) → Option (Thread Y) → Type 0
AreSameFound S None None = Unit {0}
AreSameFound S (Some a) (Some b) = IsSameThread S a b
AreSameFound S _ _ = ⊥

module _ {X Y : Type 0} (S : Standing → X → Y → Type 0) where
  pub slice_get-same : (l : List (Thread X)) (m : List (Thread Y)) (t : ℕ) → AreSameThreads S l m →
      AreSameFound S (slice_get l t) (slice_get m t)
  slice_get-same [] [] t h = tt
  slice_get-same [] (b ∷ m) t h = absurd h
  slice_get-same (a ∷ l) [] t h = absurd h
  slice_get-same (a ∷ l) (b ∷ m) zero h = h.0
  slice_get-same (a ∷ l) (b ∷ m) (suc t) h = slice_get-same l m t h.1

  pub slice_set-same : (l : List (Thread X)) (m : List (Thread Y)) (t : ℕ) (a : Thread X) (b : Thread Y) → AreSameThreads S l m →
      IsSameThread S a b → AreSameThreads S (slice_set l t a) (slice_set m t b)
  slice_set-same [] [] t a b h k = tt
  slice_set-same [] (d ∷ m) t a b h k = absurd h
  slice_set-same (c ∷ l) [] t a b h k = absurd h
  slice_set-same (c ∷ l) (d ∷ m) zero a b h k = (k, h.1)
  slice_set-same (c ∷ l) (d ∷ m) (suc t) a b h k = (h.0, slice_set-same l m t a b h.1 k)

  list_all-same : (test : Thread X → Bool) (test' : Thread Y → Bool) →
      ((a : Thread X) (b : Thread Y) → IsSameThread S a b → test a ≡ test' b) →
      (l : List (Thread X)) (m : List (Thread Y)) → AreSameThreads S l m → list_all test l ≡ list_all test' m
  list_all-same test test' one [] [] h = refl
  list_all-same test test' one [] (b ∷ m) h = absurd h
  list_all-same test test' one (a ∷ l) [] h = absurd h
  list_all-same test test' one (a ∷ l) (b ∷ m) h =
      ap (λ c. c && list_all test l) (one a b h.0) ∙ ap (λ c. test' b && c) (list_all-same test test' one l m h.1)

  pub all_parked-same : (l : List (Thread X)) (m : List (Thread Y)) → AreSameThreads S l m → all_parked l ≡ all_parked m
  all_parked-same = list_all-same (λ a. not (is_live a.standing)) (λ b. not (is_live b.standing)) (λ a b h. ap (λ s. not (is_live s)) h.standing)

  -- all threads go on, each in its own way, under the next relation
  pub map-same : (R : Standing → X → Y → Type 0) (go : Thread X → Thread X) (go' : Thread Y → Thread Y) →
      ((a : Thread X) (b : Thread Y) → IsSameThread S a b → IsSameThread R (go a) (go' b)) →
      (l : List (Thread X)) (m : List (Thread Y)) → AreSameThreads S l m → AreSameThreads R (map go l) (map go' m)
  map-same R go go' one [] [] h = tt
  map-same R go go' one [] (b ∷ m) h = absurd h
  map-same R go go' one (a ∷ l) [] h = absurd h
  map-same R go go' one (a ∷ l) (b ∷ m) h = (one a b h.0, map-same R go go' one l m h.1)

-- ---- what is read of the threads

module _ {X Y : Type 0} (e : Engine X) (f : Engine Y) (S : ℕ → Standing → X → Y → Type 0) (job : Job) (engines : AreSameEngines e f S job) where
  mode-same : (n : ℕ) (a : Thread X) (b : Thread Y) → IsSameThread (S n) a b → e.mode a.state ≡ f.mode b.state
  mode-same n a b h = engines.modes n a.standing a.state b.state h.state

  pub all_normal-same : (n : ℕ) (l : List (Thread X)) (m : List (Thread Y)) → AreSameThreads (S n) l m → all_normal e l ≡ all_normal f m
  all_normal-same n = list_all-same (S n) (λ a. has_ended a.standing || is_normal (e.mode a.state)) (λ b. has_ended b.standing || is_normal (f.mode b.state))
      (λ a b h. ap (λ s. has_ended s || is_normal (e.mode a.state)) h.standing ∙ ap (λ m. has_ended b.standing || is_normal m) (mode-same n a b h))

  pub main_is_normal-same : (n : ℕ) (l : List (Thread X)) (m : List (Thread Y)) → AreSameThreads (S n) l m →
      main_is_normal e l ≡ main_is_normal f m
  main_is_normal-same n [] [] h = refl
  main_is_normal-same n [] (b ∷ m) h = absurd h
  main_is_normal-same n (a ∷ l) [] h = absurd h
  main_is_normal-same n (a ∷ l) (b ∷ m) h = ap is_normal (mode-same n a b h.0)

  -- ---- who may take a turn

  by_standing : (s : Shared) (t : ℕ) (standing : Standing) (x : X) (y : Y) → S s.version standing x y →
      enabled_as e s t (record { state = x; standing = standing }) ≡ enabled_as f s t (record { state = y; standing = standing })
  by_standing s t Live x y h =
      ap (λ b. is_turnable s.phase t && not b)
      (is_waiting-same s.memory t (e.step s.version x) (f.step s.version y) (engines.heads s.version x y h))
  by_standing s t Parked x y h = refl
  by_standing s t Ended x y h = refl

  pub enabled_as-same : (s : Shared) (t : ℕ) (a : Thread X) (b : Thread Y) → IsSameThread (S s.version) a b → enabled_as e s t a ≡ enabled_as f s t b
  enabled_as-same s t a b h =
      by_standing s t a.standing a.state b.state h.state
      ∙ ap (λ standing. enabled_as f s t (record { state = b.state; standing = standing })) h.standing

  pub enabled_if-same : (s : Shared) (t : ℕ) (o : Option (Thread X)) (p : Option (Thread Y)) → AreSameFound (S s.version) o p →
      enabled_if e s t o ≡ enabled_if f s t p
  enabled_if-same s t None None h = refl
  enabled_if-same s t (Some a) (Some b) h = enabled_as-same s t a b h
  enabled_if-same s t None (Some b) h = absurd h
  enabled_if-same s t (Some a) None h = absurd h

  pub any_enabled-same : (s : Shared) (t : ℕ) (l : List (Thread X)) (m : List (Thread Y)) → AreSameThreads (S s.version) l m →
      any_enabled e s t l ≡ any_enabled f s t m
  any_enabled-same s t [] [] h = refl
  any_enabled-same s t [] (b ∷ m) h = absurd h
  any_enabled-same s t (a ∷ l) [] h = absurd h
  any_enabled-same s t (a ∷ l) (b ∷ m) h =
      ap (λ c. c || any_enabled e s (t + 1) l) (enabled_as-same s t a b h.0)
      ∙ ap (λ c. enabled_as f s t b || c) (any_enabled-same s (t + 1) l m h.1)

-- who may take a turn lives
pub enabled-live : {X : Type 0} (e : Engine X) (s : Shared) (t : ℕ) (standing : Standing) (x : X) →
    enabled_as e s t (record { state = x; standing = standing }) ≡ true → standing ≡ Live
enabled-live e s t Live x h = refl
enabled-live e s t Parked x h = absurd cc
enabled-live e s t Ended x h = absurd cc
