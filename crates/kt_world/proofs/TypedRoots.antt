-- The roots that threads add to an update of a typed world: their pre-values are of their types, and a local is one of the new version.
use Rattle.std.specs.Prelude.{◌≡◌, ℕ, zero, suc, ◌==◌, not, Bool, true, false, List, [], ◌∷◌, map, take, slice_get, Option, None, Some, option_and_then, Ok, refl, if◌then◌else◌}
use Rattle.std.specs.List.{AllByRecursion}
use Rattle.std.specs.Option.{option_map}
use Rattle.std.proofs.Common.{ap, eqb-true, sym, subst, ◌∙◌}
use Rattle.std.proofs.lemmas.Option.{none-some, same_Some}
use Rattle.kt_types.specs.declared.kinds.FieldDecl.{FieldDecl}
use Rattle.kt_types.specs.declared.kinds.Ty.{Ty}
use Rattle.kt_types.specs.Table.{Table}
use Rattle.kt_mem.specs.declared.memory.Value.{Value}
use Rattle.kt_mem.specs.Memory.{Memory}
use Rattle.kt_tree.specs.Tree.{Function}
use Rattle.kt_tree.specs.Typed.{Kind, kind_of}
use Rattle.kt_tree.specs.Version.{Program, head_of}
use Rattle.kt_meaning.proofs.StepTypes.{get-map}
use Rattle.kt_meaning.specs.Thread as tree
use Rattle.kt_meaning.specs.ThreadTypes.{AreBelow, AreFrames, IsCall, types_of}
use Rattle.kt_meaning.specs.Values.{AreIn, IsIn}
use Rattle.xf_plan.proofs.TypedImages.{all-append}
use Rattle.xf_plan.specs.Correspondence.{converts}
use Rattle.xf_plan.specs.KeepsTypes.{GivesOf, IsLocalOf, IsMemoryOf, KeepsLocal, KeepsNoted, KeepsSource, KeepsTypes}
use Rattle.xf_plan.specs.Plan.{LocalRule, LocalSource}
use Rattle.xf_plan.specs.PreValues.{pre_argument, pre_local}
use Rattle.xf_plan.specs.declared.place.Place.{Place}
use Rattle.xf_plan.specs.declared.place.Place.TheVariants.{Argument, Local}
use Rattle.xf_plan.specs.declared.place.Root.{Root}
use Rattle.kt_world.specs.Job.{Passage}
use Rattle.kt_world.specs.Refusals.{lacks_entry, may_enter}
use Rattle.kt_world.specs.Roots.{argument_as, argument_root, if_entry, if_root, local_as, local_root, locals_by, locals_of, new_parameter, old_local, old_parameter, oldest, only_parameter, or_this, root}
use Rattle.kt_world.specs.Trees.{call_of, tree_engine}
use Rattle.kt_world.specs.Typed.{AreArguments}
use Rattle.kt_world.specs.World.{Call, Standing, Live, Waiter, Parked, Ended, Thread, lives}
use Rattle.kt_world.specs.Job as job
use Rattle.kt_world.proofs.GoodThreads.{AllFrom, IsGood, IsGoodAs, IsMainFunction}

-- a value of a list whose types are these
in-get : (types : Table) (ts : List ℕ) (vs : List Value) (n t : ℕ) (v : Value) → AreIn types ts vs → slice_get ts n ≡ Some t → slice_get vs n ≡ Some v → IsIn types t v
in-get types [] vs n t v a at there = absurd (none-some t at)
in-get types (u ∷ ts) [] n t v a at there = absurd a
in-get types (u ∷ ts) (x ∷ vs) zero t v a at there = subst (λ k. IsIn types k v) (same_Some u t at) (subst (IsIn types u) (same_Some x v there) a.0)
in-get types (u ∷ ts) (x ∷ vs) (suc n) t v a at there = in-get types ts vs n t v a.1 at there

-- ---- parameters

-- the only parameter of an entry function
pub record IsOnly (f : Function) (d : FieldDecl) : Type 0 where
  pub params : f.params ≡ 1
  pub local : slice_get f.locals 0 ≡ Some d

pub only-is : (f : Function) (d : FieldDecl) → only_parameter f ≡ Some d → IsOnly f d
only-is f d is = by f.result (f.params == 1) refl is
  where
    by : (r : Option ℕ) (b : Bool) → (f.params == 1) ≡ b → if_entry r b (slice_get f.locals 0) ≡ Some d → IsOnly f d
    by None true one k = record { params = eqb-true f.params 1 one; local = k }
    by None false one k = absurd (none-some d k)
    by (Some x) b one k = absurd (none-some d k)

one-taken : (ls : List FieldDecl) (d : FieldDecl) → slice_get ls 0 ≡ Some d → map (λ (l : FieldDecl). l.ty) (take 1 ls) ≡ d.ty ∷ []
one-taken [] d at = absurd (none-some d at)
one-taken (l ∷ ls) d at = ap (λ (x : FieldDecl). x.ty ∷ []) (same_Some l d at)

pub only-parameters : (f : Function) (d : FieldDecl) → IsOnly f d → (head_of f).parameters ≡ d.ty ∷ []
only-parameters f d is = ap (λ n. map (λ (l : FieldDecl). l.ty) (take n f.locals)) is.params ∙ one-taken f.locals d is.local

module _ (j : Passage) (keeps : KeepsTypes j.old j.new j.plan) (m : Memory) (memory : IsMemoryOf j.old.types m) (v : ℕ) (o : Option Program) where
  -- ---- calls

  abbrev CallGood : Call → Type 0
  CallGood c = (f : Function) × IsCall j.old c.function c.locals f

  below-calls : (fs : List tree.Frame) (k : Kind) → AreBelow j.old k fs → AllByRecursion CallGood (map call_of fs)
  below-calls [] k h = tt
  below-calls (g ∷ fs) k h = ((h.0, h.1), below-calls fs (kind_of h.0.result) h.3)

  frames-calls : (fs : List tree.Frame) → AreFrames j.old fs → AllByRecursion CallGood (map call_of fs)
  frames-calls [] h = absurd h
  frames-calls (g ∷ fs) h = ((h.0, h.1), below-calls fs (kind_of h.0.result) h.3)

  good-calls : (k : ℕ) (standing : Standing) (th : Thread tree.Thread) → IsGoodAs v o j.old k standing th → AllByRecursion CallGood (map call_of th.state.frames)
  good-calls k Live th h = frames-calls th.state.frames h.0.thread.frames
  good-calls k (Waiter n c) th h = frames-calls th.state.frames h.0.thread.frames
  good-calls k Parked th h = frames-calls th.state.frames h.0.thread.frames
  good-calls k Ended th h = subst (λ fs. AllByRecursion CallGood (map call_of fs)) (sym h) tt

  record OldestIs (f : ℕ) (c : Call) : Type 0 where
    good : CallGood c
    of : c.function ≡ f

  oldest-is : (f : ℕ) (calls : List Call) (c : Call) → AllByRecursion CallGood calls → oldest f calls ≡ Some c → OldestIs f c
  oldest-is f [] c all is = absurd (none-some c is)
  oldest-is f (x ∷ older) c all is = by (oldest f older) (x.function == f) refl refl is (oldest-is f older c all.1)
    where
      by : (found : Option Call) (b : Bool) → oldest f older ≡ found → (x.function == f) ≡ b → or_this found b x ≡ Some c → (oldest f older ≡ Some c → OldestIs f c) → OldestIs f c
      by (Some d) b at same k rest = rest (at ∙ k)
      by None true at same k rest = subst (OldestIs f) (same_Some x c k) (record { good = all.0; of = eqb-true x.function f same })
      by None false at same k rest = absurd (none-some c k)

  -- what a local of the oldest call of its function holds is of its type
  old-local-in : (calls : List Call) (s : LocalSource) (d : FieldDecl) (val : Value) → AllByRecursion CallGood calls → IsLocalOf j.old s.function s.local d → old_local calls s ≡ Some val
      → IsIn j.old.types d.ty val
  old-local-in calls s d val all is at = by (oldest s.function calls) refl at
    where
      by : (found : Option Call) → oldest s.function calls ≡ found → option_and_then (λ (c : Call). slice_get c.locals s.local) found ≡ Some val → IsIn j.old.types d.ty val
      by None there k = absurd (none-some val k)
      by (Some c) there k =
          let its = oldest-is s.function calls c all there in
          let (f, call) = its.good in
          let same : f ≡ is.function = same_Some f is.function (sym call.function ∙ ap (slice_get j.old.functions) its.of ∙ is.function_is) in
          let typed : slice_get (types_of f.locals) s.local ≡ Some d.ty = get-map (λ (l : FieldDecl). l.ty) f.locals s.local d (ap (λ (g : Function). slice_get g.locals s.local) same ∙ is.local_is) in
          in-get j.old.types (types_of f.locals) c.locals s.local d.ty val call.locals typed k

  -- ---- what is asked of a root

  abbrev pub PlaceFits : Root → Place → Type 0
  PlaceFits r (Local u f x) = (d : FieldDecl) × IsLocalOf j.new f x d × (slice_get j.new.types.types d.ty ≡ Some r.ty)
  PlaceFits r place = Unit {0}

  pub record RootFits (r : Root) : Type 0 where
    pub gives : GivesOf j.plan r.ty r.value
    pub place : PlaceFits r r.place

  -- ---- noted locals

  local-root-fits : (t : ℕ) (calls : List Call) → AllByRecursion CallGood calls → (r : LocalRule) → KeepsNoted j.old j.new j.plan r → AllByRecursion RootFits (if_root (local_root j m t calls r))
  local-root-fits t calls all r is = by-source r.source is.source
    where
      by-type : (s : LocalSource) (val : Value) → KeepsLocal j.old j.plan r s → old_local calls s ≡ Some val → (u : Option Ty) → slice_get j.plan.new.types r.ty ≡ u
          → AllByRecursion RootFits (if_root (option_map (λ u. record { place = Local t r.function r.local; ty = u; value = pre_local j.plan m u s.body val; view = r.view }) u))
      by-type s val from at None there = tt
      by-type s val from at (Some u) there =
          let new : slice_get j.new.types.types is.local.ty ≡ Some u = ap (λ (t : Table). slice_get t.types is.local.ty) (sym keeps.types) ∙ ap (slice_get j.plan.new.types) (sym is.ty) ∙ there in
          (record { gives = from.gives m u val memory (old-local-in calls s from.local val all from.is at) there; place = (is.local, is.is, new) }, tt)

      by-value : (s : LocalSource) → KeepsLocal j.old j.plan r s → (x : Option Value) → old_local calls s ≡ x → AllByRecursion RootFits (if_root (option_and_then (local_as j m t r s) x))
      by-value s from None at = tt
      by-value s from (Some val) at = by-type s val from at (slice_get j.plan.new.types r.ty) refl

      by-source : (x : Option LocalSource) → KeepsSource j.old j.plan r x → AllByRecursion RootFits (if_root (option_and_then (λ s. option_and_then (local_as j m t r s) (old_local calls s)) x))
      by-source None from = tt
      by-source (Some s) from = by-value s from (old_local calls s) refl

  locals-by-fit : (t : ℕ) (calls : List Call) → AllByRecursion CallGood calls → (rules : List LocalRule) → AllByRecursion (KeepsNoted j.old j.new j.plan) rules
      → AllByRecursion RootFits (locals_by j m t calls rules)
  locals-by-fit t calls all [] are = tt
  locals-by-fit t calls all (r ∷ rules) are =
      all-append RootFits (if_root (local_root j m t calls r)) (locals_by j m t calls rules) (local-root-fits t calls all r are.0) (locals-by-fit t calls all rules are.1)

  pub locals-of-fit : (e : job.Job) (t : ℕ) (threads : List (Thread tree.Thread)) → AllFrom (IsGood v o j.old) t threads → AllByRecursion RootFits (locals_of (tree_engine e) j m t threads)
  locals-of-fit e t [] h = tt
  locals-of-fit e t (th ∷ threads) h =
      all-append RootFits (locals_by j m t (map call_of th.state.frames) j.plan.locals) (locals_of (tree_engine e) j m (suc t) threads)
      (locals-by-fit t (map call_of th.state.frames) (good-calls t th.standing th h.0) j.plan.locals keeps.locals) (locals-of-fit e (suc t) threads h.1)

  -- ---- arguments

  -- a thread above 0 may enter its function in the new version
  pub record MayEnter (th : Thread tree.Thread) : Type 0 where
    pub old : FieldDecl
    pub new : FieldDecl
    pub old_is : old_parameter j th.entry ≡ Some old
    pub new_is : new_parameter j th.entry ≡ Some new
    pub converts_to : converts j.plan old.ty new.ty ≡ true

  pub may-enter : (t : ℕ) (th : Thread tree.Thread) → lives th.standing ≡ true → lacks_entry j (suc t) th ≡ false → MayEnter th
  may-enter t th live lacks = by (may_enter j (old_parameter j th.entry) (new_parameter j th.entry)) refl (ap (λ b. if b then not (may_enter j (old_parameter j th.entry) (new_parameter j th.entry)) else false) (sym live) ∙ lacks)
    where
      parts : (a b : Option FieldDecl) → old_parameter j th.entry ≡ a → new_parameter j th.entry ≡ b → may_enter j a b ≡ true → MayEnter th
      parts (Some a) (Some b) at there is = record { old = a; new = b; old_is = at; new_is = there; converts_to = is }
      parts (Some a) None at there is = absurd cc
      parts None b at there is = absurd cc

      by : (b : Bool) → may_enter j (old_parameter j th.entry) (new_parameter j th.entry) ≡ b → not b ≡ false → MayEnter th
      by true is k = parts (old_parameter j th.entry) (new_parameter j th.entry) refl refl is
      by false is k = absurd cc

  -- the argument of such a thread
  old-argument-in : (th : Thread tree.Thread) (d : FieldDecl) → old_parameter j th.entry ≡ Some d → AreArguments j.old th.entry th.arguments
      → AreIn j.old.types (d.ty ∷ []) th.arguments
  old-argument-in th d at are =
      let f = are.function in
      let own : only_parameter f ≡ Some d = ap (option_and_then only_parameter) (sym are.function_is) ∙ at in
      subst (λ ts. AreIn j.old.types ts th.arguments) (only-parameters f d (only-is f d own)) are.values

  -- `main` has none
  main-arguments : (f : ℕ) (arguments : List Value) → IsMainFunction j.old f → AreArguments j.old f arguments → arguments ≡ []
  main-arguments f arguments main are = none arguments (subst (λ ts. AreIn j.old.types ts arguments) empty are.values)
    where
      same : are.function ≡ main.function
      same = same_Some are.function main.function (sym are.function_is ∙ main.function_is)

      empty : (head_of are.function).parameters ≡ []
      empty = ap (λ (g : Function). (head_of g).parameters) same ∙ ap (λ n. map (λ (l : FieldDecl). l.ty) (take n main.function.locals)) main.params

      none : (vs : List Value) → AreIn j.old.types [] vs → vs ≡ []
      none [] h = refl
      none (x ∷ vs) h = absurd h

  pub argument-root-main : (th : Thread tree.Thread) → IsMainFunction j.old th.entry → AreArguments j.old th.entry th.arguments → argument_root j 0 th.entry th.arguments ≡ None
  argument-root-main th main are = ap (argument_root j 0 th.entry) (main-arguments th.entry th.arguments main are)

  -- the root of the argument of a thread above 0
  pub record IsArgument (t : ℕ) (th : Thread tree.Thread) (r : Root) : Type 0 where
    pub place : r.place ≡ Argument t
    pub new : FieldDecl
    pub new_is : new_parameter j th.entry ≡ Some new
    pub type : slice_get j.new.types.types new.ty ≡ Some r.ty
    pub gives : GivesOf j.plan r.ty r.value

  pub argument-root-is : (t : ℕ) (th : Thread tree.Thread) → MayEnter th → AreArguments j.old th.entry th.arguments → (r : Root) → argument_root j t th.entry th.arguments ≡ Some r → IsArgument t th r
  argument-root-is t th may are r is = by th.arguments (old-argument-in th may.old may.old_is are) is
    where
      by-type : (a : Value) → IsIn j.old.types may.old.ty a → (u : Option Ty) → slice_get j.plan.new.types may.new.ty ≡ u
          → option_map (λ u. root (Argument t) u (Ok (pre_argument u a)) may.new) u ≡ Some r → IsArgument t th r
      by-type a i None at k = absurd (none-some r k)
      by-type a i (Some u) at k =
          subst (IsArgument t th) (same_Some (root (Argument t) u (Ok (pre_argument u a)) may.new) r k)
          (record {
            place = refl;
            new = may.new;
            new_is = may.new_is;
            type = ap (λ (x : Table). slice_get x.types may.new.ty) (sym keeps.types) ∙ at;
            gives = keeps.arguments may.old.ty may.new.ty u a may.converts_to at i;
          })

      by : (arguments : List Value) → AreIn j.old.types (may.old.ty ∷ []) arguments → argument_root j t th.entry arguments ≡ Some r → IsArgument t th r
      by [] a k = absurd a
      by (x ∷ more) a k = by-type x a.0 (slice_get j.plan.new.types may.new.ty) refl (ap (option_and_then (argument_as j t x)) (sym may.new_is) ∙ k)

  -- there is such a root
  pub root-exists : (t : ℕ) (th : Thread tree.Thread) (may : MayEnter th) → AreArguments j.old th.entry th.arguments → (u : Ty) → slice_get j.new.types.types may.new.ty ≡ Some u
      → (r : Root) × (argument_root j t th.entry th.arguments ≡ Some r)
  root-exists t th may are u at = by th.arguments (old-argument-in th may.old may.old_is are)
    where
      own : slice_get j.plan.new.types may.new.ty ≡ Some u
      own = ap (λ (x : Table). slice_get x.types may.new.ty) keeps.types ∙ at

      by : (arguments : List Value) → AreIn j.old.types (may.old.ty ∷ []) arguments → (r : Root) × (argument_root j t th.entry arguments ≡ Some r)
      by [] a = absurd a
      by (x ∷ more) a = (
        root (Argument t) u (Ok (pre_argument u x)) may.new,
        ap (option_and_then (argument_as j t x)) may.new_is ∙ ap (option_map (λ u. root (Argument t) u (Ok (pre_argument u x)) may.new)) own,
      )
