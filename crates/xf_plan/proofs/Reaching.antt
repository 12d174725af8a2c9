-- As many steps as there are heap numbers lead to all that paths lead to.
use Rattle.std.specs.Prelude.{◌≡◌, ◌⊎◌, ℕ, zero, suc, ◌<◌, Bool, true, false, List, [], ◌∷◌, ◌++◌, flat_map, if◌then◌else◌, Option, None, Some, Result, Ok, Err, refl}
use Rattle.std.proofs.Common.{inl, inr, arith, ap, ◌∙◌}
use Rattle.std.proofs.lemmas.Bool.{cases_lt}
use Rattle.kt_mem.specs.declared.memory.Name.{Name}
use Rattle.kt_mem.specs.declared.memory.Name.TheVariants.{Glob, Lit, Heap}
use Rattle.kt_mem.specs.declared.memory.Value.{Value}
use Rattle.kt_mem.specs.declared.memory.Value.TheVariants.{Num, Null, Ptr, Free, Held, Undef}
use Rattle.kt_mem.specs.declared.steps.Trap.{Trap}
use Rattle.kt_mem.specs.Memory.{Memory, Object}
use Rattle.kt_mem.specs.Values.{name_eq}
use Rattle.kt_mem.proofs.Names.{name_eq-true}
use Rattle.xf_plan.specs.Plan.{Plan}
use Rattle.xf_plan.specs.Reached.{is_among, is_moved, if_live, pointed, unless_faulty, target, targets, heap_targets, reached_within, reached, IsReached, ByRoot, Onward, IsNumbered, StepsArePaths}
use Rattle.xf_plan.specs.Spots.{Spot, fault_at, heap_spots, root_spots}
use Rattle.xf_plan.specs.declared.place.Root.{Root}
use Rattle.xf_plan.specs.declared.place.Why.{Why}
use Rattle.xf_plan.specs.declared.value.PreValue.{PreValue}
use Rattle.xf_plan.specs.declared.value.PreValue.TheVariants.{Plain, OldPointer, Fresh}
use Rattle.xf_plan.proofs.Among.{among-left, among-right, among-cases, among-flat, flat-given, GivenBy, or-cases}
use Rattle.xf_plan.proofs.Numbers.{count, count-bound, count-rises, count-same, count-none}

-- ---- targets live

pub record Lives (m : Memory) (n : Name) : Type 0 where
  pub object : Object
  pub is : m.at n ≡ Some object

module _ (m : Memory) where
  single : (n q : Name) → is_among (n ∷ []) q ≡ true → q ≡ n
  single n q h = elim (or-cases (name_eq q n) false h) [ inl e ↦ name_eq-true q n e | inr k ↦ absurd cc ]

  moved-live : (n q : Name) (o : Object) (b : Bool) → m.at n ≡ Some o → is_among (if b then n ∷ [] else []) q ≡ true → Lives m q
  moved-live n q o true e h = record { object = o; is = ap m.at (single n q h) ∙ e }
  moved-live n q o false e h = absurd cc

  live-live : (n q : Name) (o : Option Object) → m.at n ≡ o → is_among (if_live n o) q ≡ true → Lives m q
  live-live n q None e h = absurd cc
  live-live n q (Some o) e h = moved-live n q o (is_moved n) e h

  value-live : (v : Value) (q : Name) → is_among (pointed m (Ok (OldPointer v))) q ≡ true → Lives m q
  value-live (Num z) q h = absurd cc
  value-live Null q h = absurd cc
  value-live (Ptr n k) q h = live-live n q (m.at n) refl h
  value-live Free q h = absurd cc
  value-live (Held t) q h = absurd cc
  value-live Undef q h = absurd cc

  pre-live : (r : Result PreValue Trap) (q : Name) → is_among (pointed m r) q ≡ true → Lives m q
  pre-live (Ok (Plain v)) q h = absurd cc
  pre-live (Ok (OldPointer v)) q h = value-live v q h
  pre-live (Ok (Fresh t n)) q h = absurd cc
  pre-live (Err t) q h = absurd cc

  faultless-live : (w : Option Why) (r : Result PreValue Trap) (q : Name) → is_among (unless_faulty w (pointed m r)) q ≡ true → Lives m q
  faultless-live None r q h = pre-live r q h
  faultless-live (Some w) r q h = absurd cc

  spots-live : (p : Plan) (spots : List Spot) (q : Name) → is_among (targets p m spots) q ≡ true → Lives m q
  spots-live p [] q h = absurd cc
  spots-live p (s ∷ spots) q h =
      elim (among-cases (target p m s) (targets p m spots) q h) [
        | inl k ↦ faultless-live (fault_at p m s) s.pre q k
        | inr k ↦ spots-live p spots q k
      ]

module _ (p : Plan) (m : Memory) (roots : List Root) where
  -- ---- steps are paths

  onward : (a n : Name) → IsReached p m roots a → is_among (heap_targets p m a) n ≡ true → IsReached p m roots n
  onward (Heap a) n h k = Onward a n h k
  onward (Glob g) n h k = absurd cc
  onward (Lit v i) n h k = absurd cc

  by-given : (names : List Name) → ((a : Name) → is_among names a ≡ true → IsReached p m roots a) → (n : Name) → GivenBy (heap_targets p m) names n →
      IsReached p m roots n
  by-given names sound n g = onward g.by n (sound g.by g.among) g.gives

  sound-within : (k : ℕ) (n : Name) → is_among (reached_within p m roots k) n ≡ true → IsReached p m roots n
  sound-within zero n h = ByRoot n h
  sound-within (suc k) n h =
      elim (among-cases (reached_within p m roots k) (flat_map (heap_targets p m) (reached_within p m roots k)) n h) [
        | inl l ↦ sound-within k n l
        | inr r ↦
            by-given (reached_within p m roots k) (λ a. sound-within k a) n (flat-given (heap_targets p m) (reached_within p m roots k) n r)
      ]

  -- ---- a list that leads nowhere else

  abbrev Closed : List Name → Type 0
  Closed names = (a : ℕ) (n : Name) → is_among names (Heap a) ≡ true → is_among (heap_targets p m (Heap a)) n ≡ true → is_among names n ≡ true

  closed-all : (names : List Name) → Closed names → (a n : Name) → is_among names a ≡ true → is_among (heap_targets p m a) n ≡ true → is_among names n ≡ true
  closed-all names closed (Heap a) n h k = closed a n h k
  closed-all names closed (Glob g) n h k = absurd cc
  closed-all names closed (Lit v i) n h k = absurd cc

  abbrev grown : List Name → List Name
  grown names = names ++ flat_map (heap_targets p m) names

  -- nothing is added to such a list
  grown-same : (names : List Name) → Closed names → (n : Name) → is_among (grown names) n ≡ true → is_among names n ≡ true
  grown-same names closed n h =
      elim (among-cases names (flat_map (heap_targets p m) names) n h) [
        | inl l ↦ l
        | inr r ↦ let g = flat-given (heap_targets p m) names n r in closed-all names closed g.by n g.among g.gives
      ]

  closed-grown : (names : List Name) → Closed names → Closed (grown names)
  closed-grown names closed a n h k =
      among-left names (flat_map (heap_targets p m) names) n (closed a n (grown-same names closed (Heap a) h) k)

  -- the heap numbers of a list
  abbrev heap_test : List Name → ℕ → Bool
  heap_test names a = is_among names (Heap a)

  rises : (names : List Name) (a : ℕ) → heap_test names a ≡ true → heap_test (grown names) a ≡ true
  rises names a h = among-left names (flat_map (heap_targets p m) names) (Heap a) h

  module _ (numbered : IsNumbered m) where
    low : (k a : ℕ) → is_among (reached_within p m roots k) (Heap a) ≡ true → a < m.next
    low k a h = by (reached-live (Heap a) (sound-within k (Heap a) h))
      where
        reached-live : (n : Name) → IsReached p m roots n → Lives m n
        reached-live n (ByRoot q h) = spots-live m p (root_spots p m roots) q h
        reached-live n (Onward b q r h) = spots-live m p (heap_spots p m b) q h

        by : Lives m (Heap a) → a < m.next
        by l = numbered a l.object l.is

    -- where no heap number was added, the list leads nowhere else
    closed-where-same : (k : ℕ) → count m.next (heap_test (reached_within p m roots k)) ≡ count m.next (heap_test (reached_within p m roots (suc k))) →
        Closed (reached_within p m roots (suc k))
    closed-where-same k e a n h t =
        let names = reached_within p m roots k in
        let before = count-same (heap_test names) (heap_test (grown names)) (rises names) m.next e a (low (suc k) a h) h in
        among-right names (flat_map (heap_targets p m) names) n (among-flat (heap_targets p m) names (Heap a) n before t)

    closed-where-none : count m.next (heap_test (reached_within p m roots zero)) ≡ 0 → Closed (reached_within p m roots zero)
    closed-where-none e a n h t = absurd (count-none m.next (heap_test (reached_within p m roots zero)) e a (low zero a h) h)

    -- after k steps the list leads nowhere else, or it has more than k heap numbers
    closed-or-more : (k : ℕ) → Closed (reached_within p m roots k) ⊎ (k < count m.next (heap_test (reached_within p m roots k)))
    closed-or-more zero = by (count m.next (heap_test (reached_within p m roots zero))) refl
      where
        by : (c : ℕ) → count m.next (heap_test (reached_within p m roots zero)) ≡ c →
            Closed (reached_within p m roots zero) ⊎ (0 < count m.next (heap_test (reached_within p m roots zero)))
        by zero e = inl (closed-where-none e)
        by (suc c) e = inr (omega (arith, e))
    closed-or-more (suc k) =
        elim (closed-or-more k) [
          | inl closed ↦ inl (closed-grown (reached_within p m roots k) closed)
          | inr more ↦
              let names = reached_within p m roots k in
              let up = count-rises (heap_test names) (heap_test (grown names)) (rises names) m.next in
              elim (cases_lt (count m.next (heap_test names)) (count m.next (heap_test (grown names)))) [
                | inl risen ↦ inr (omega (arith, risen, more))
                | inr stays ↦ inl (closed-where-same k (omega (arith, up, stays)))
              ]
        ]

    pub all-closed : Closed (reached p m roots)
    all-closed =
        elim (closed-or-more m.next) [
          | inl closed ↦ closed
          | inr more ↦ let most = count-bound m.next (heap_test (reached p m roots)) in absurd (omega (arith, more, most))
        ]

    roots-within : (k : ℕ) (n : Name) → is_among (targets p m (root_spots p m roots)) n ≡ true → is_among (reached_within p m roots k) n ≡ true
    roots-within zero n h = h
    roots-within (suc k) n h =
        among-left (reached_within p m roots k) (flat_map (heap_targets p m) (reached_within p m roots k)) n (roots-within k n h)

    complete : (n : Name) → IsReached p m roots n → is_among (reached p m roots) n ≡ true
    complete n (ByRoot q h) = roots-within m.next q h
    complete n (Onward a q r h) = all-closed a q (complete (Heap a) r) h

pub steps-are-paths : StepsArePaths
steps-are-paths p m roots n numbered = record { sound = sound-within p m roots m.next n; complete = complete p m roots numbered n }
