-- The engine of trees and that of code keep the relation of states, where the codes are those of the job's versions.
use Rattle.std.specs.Prelude.{◌≡◌, ℕ, true, List, [], map, take, codes, Option, Some, None, slice_get, refl}
use Rattle.std.specs.List.{All}
use Rattle.std.specs.Option.{is_some, option_map}
use Rattle.std.proofs.Common.{sym, subst, ap, ◌∙◌, inr}
use Rattle.std.proofs.lemmas.List.Elements.{All-from_recursion}
use Rattle.std.proofs.lemmas.Option.{slice_get-map, slice_get_within, get_or_from_slice_get}
use Rattle.kt_types.specs.declared.kinds.FieldDecl.{FieldDecl}
use Rattle.kt_mem.specs.declared.steps.Act.{Act}
use Rattle.kt_mem.specs.declared.steps.Act.TheVariants as act
use Rattle.kt_mem.specs.declared.steps.Reply.{Reply}
use Rattle.kt_mem.specs.declared.steps.Reply.TheVariants.{Done}
use Rattle.kt_mem.specs.declared.thread.Mode.{Mode}
use Rattle.kt_tree.specs.Names.{place_of}
use Rattle.kt_tree.specs.Tree.{Function}
use Rattle.kt_tree.specs.Version.{Program, IsProgram, head_of, function_names}
use Rattle.kt_meaning.specs.Laws.{numbered}
use Rattle.kt_meaning.specs.Requests.{IsReplyOf}
use Rattle.kt_meaning.specs.Steps.{Step, Quiet, Acts, Traps, Ends, after_reply}
use Rattle.kt_meaning.specs.Thread as tree
use Rattle.kt_meaning.specs.ThreadTypes.{IsMode}
use Rattle.kt_meaning.specs.Values.{AreAt}
use Rattle.kt_code.specs.Agreement.{IsReplyTo, SameHead, DoesSameActs}
use Rattle.kt_code.specs.Looks.{code_threads, tree_threads}
use Rattle.kt_code.specs.Settling as settling
use Rattle.kt_code.specs.declared.private.Private.{Private}
use Rattle.kt_pair.specs.Pair.{Pair}
use Rattle.kt_lone.specs.Job.{Job, version_at}
use Rattle.kt_lone.specs.Turn.{main_at, restart_in, tree_entry_of, tree_entry, tree_settle, tree_step, tree_engine}
use Rattle.kt_lone.specs.Typed.{IsTypedJob}
use Rattle.kt_lone.specs.TypedThreads.{IsProgramIf, IsModeIf, main-place}
use Rattle.kt_lone.specs.Update.{point_of_act, point_of}
use Rattle.kt_lone.specs.World.{Standing, Live, Parked, Ended}
use Rattle.kt_machine.specs.Engine.{entry_at, entry_of, code_entry, code_settle, code_step, code_engine, DoesActs, AreCodesOf}
use Rattle.kt_machine.specs.Same.{IsSameMode, IsSameState, IsSameBy}
use Rattle.kt_machine.proofs.SameStates.{head-same, in-one-mode, settled-IsSameIn, replied-IsSameIn}
use Rattle.kt_machine.proofs.SameThreads.{AreSameEngines}

abbrev program_if : Option Pair → Option Program
program_if c = option_map (λ (c : Pair). c.program) c

-- the code does the acts of its program, where there is one
abbrev DoesActsIf : Option Pair → Type 0
DoesActsIf None = Unit {0}
DoesActsIf (Some c) = DoesActs c

-- ---- points

act-takes : (a : Act) → is_some (point_of_act a) ≡ true → IsReplyOf a Done
act-takes (act.Point p) h = (refl, tt)
act-takes a h = absurd cc

-- a step at a point takes the plain reply
point-takes : {X : Type 0} (s : Step X) → is_some (point_of s) ≡ true → IsReplyTo s Done
point-takes (Acts a go) h = act-takes a h
point-takes (Quiet x) h = absurd cc
point-takes (Traps t) h = absurd cc
point-takes (Ends a) h = absurd cc

-- ---- the entry of `main`

module _ (v : ℕ) (c : Pair) (program : IsProgram c.program) (does : DoesActs c) (mode : Mode) (is : IsMode c.program mode) where
  abbrev SameAtEntry : tree.Thread → Private → Type 0
  SameAtEntry x y = DoesSameActs (tree_threads (numbered c.program v)) (code_threads c.code) x y × settling.Fits c.code y

  abbrev main : Function
  main = program.main.1

  no-arguments : AreAt c.program.types (head_of main).parameters []
  no-arguments =
      let none : take main.params main.locals ≡ [] = ap (λ n. take n main.locals) program.main.3.2 in
      subst (λ (ls : List FieldDecl). AreAt c.program.types (map (λ l. l.ty) ls) []) (sym none) tt

  same-at : (at : ℕ) → slice_get c.code.entries program.main.0 ≡ Some at →
      DoesSameActs (tree_threads (numbered c.program v)) (code_threads c.code) (tree.entry program.main.0 main [] (restart_in mode)) (entry_at v mode program.main.0 main (Some at)) →
      SameAtEntry (tree.entry program.main.0 main [] (restart_in mode)) (entry_at v mode program.main.0 main (slice_get c.code.entries program.main.0))
  same-at at found acts =
      subst (λ o. SameAtEntry (tree.entry program.main.0 main [] (restart_in mode)) (entry_at v mode program.main.0 main o)) (sym found)
      (acts, does.1 v program.main.0 at main [] (restart_in mode) program.main.2 found (inr program.main.3.1) no-arguments (record { mode = is; kept = tt }))

  same-of-main : SameAtEntry (tree_entry_of mode (Some (program.main.0, main))) (entry_of v mode c.code (Some (program.main.0, main)))
  same-of-main =
      let f = does.0 v program.main.0 main program.main.2 in
      same-at f.entry_at f.entry_is (f.acts [] (restart_in mode))

  same-of-place : SameAtEntry (tree_entry_of mode (main_at c.program (Some program.main.0))) (entry_of v mode c.code (main_at c.program (Some program.main.0)))
  same-of-place =
      subst (λ (q : Option Function). SameAtEntry (tree_entry_of mode (elim q as (λ _. Option (ℕ × Function)) [ None ↦ None | (Some f) ↦ Some (program.main.0, f) ]))
      (entry_of v mode c.code (elim q as (λ _. Option (ℕ × Function)) [ None ↦ None | (Some f) ↦ Some (program.main.0, f) ])))
      (sym program.main.2) same-of-main

  same-at-entry : SameAtEntry (tree_entry mode (Some c.program)) (code_entry v mode (Some c))
  same-at-entry =
      subst (λ (q : Option ℕ). SameAtEntry (tree_entry_of mode (main_at c.program q)) (entry_of v mode c.code (main_at c.program q)))
      (sym (main-place c.program program (place_of (codes "main") (function_names c.program)) refl))
      same-of-place

-- ---- one version

-- what both engines keep in version v, whose program is o and whose code is c
record KeepsIn (v : ℕ) (o : Option Program) (c : Option Pair) : Type 0 where
  heads : (x : tree.Thread) (y : Private) → IsSameState v c x y → SameHead (tree_step v o x) (code_step c y)
  parks : (x : tree.Thread) (y : Private) → IsSameState v c x y → is_some (point_of (tree_step v o x)) ≡ true → IsSameBy v c Parked x y
  parked : (x : tree.Thread) (y : Private) → IsSameBy v c Parked x y → IsReplyTo (tree_step v o x) Done
  replies : (x : tree.Thread) (y : Private) → IsSameState v c x y → (r : Reply) → IsReplyTo (tree_step v o x) r →
      IsSameState v c (tree_settle v o (after_reply x (tree_step v o x) r)) (code_settle c (after_reply y (code_step c y) r))
  entries : (mode : Mode) → IsModeIf o mode → IsSameState v c (tree_settle v o (tree_entry mode o)) (code_settle c (code_entry v mode c))

mode-of : (v : ℕ) (c : Option Pair) (x : tree.Thread) (y : Private) → IsSameState v c x y → IsSameMode x y
mode-of v None x y h = h
mode-of v (Some c) x y h = in-one-mode v c x y h

mode-by : (v : ℕ) (c : Option Pair) (standing : Standing) (x : tree.Thread) (y : Private) → IsSameBy v c standing x y → IsSameMode x y
mode-by v c Live x y h = mode-of v c x y h
mode-by v c Parked x y h = mode-of v c x y h.0
mode-by v c Ended x y h = h

keeps-in : (v : ℕ) (c : Option Pair) → IsProgramIf (program_if c) → DoesActsIf c → KeepsIn v (program_if c) c
keeps-in v None program does = record {
  heads = λ x y h. refl;
  parks = λ x y h point. absurd cc;
  parked = λ x y h. absurd h.1;
  replies = λ x y h r is. absurd is;
  entries = λ mode is. refl;
}
keeps-in v (Some c) program does = record {
  heads = λ x y h. head-same v c x y h;
  parks = λ x y h point. (h, point);
  parked = λ x y h. point-takes _ h.1;
  replies = λ x y h r is. replied-IsSameIn v c x y h r is;
  entries = λ mode is.
      let same = same-at-entry v c program does mode is in
      settled-IsSameIn v c (tree_entry mode (Some c.program)) (code_entry v mode (Some c)) same.0 same.1;
}

-- ---- the versions of a job

found : {X : Type 0} (P : X → Type 0) (l : List X) (k : ℕ) (x : X) → All P l → slice_get l k ≡ Some x → P x
found P l k x all is = subst P (get_or_from_slice_get l k x x is) (all k x (slice_get_within l k x is))

module _ (job : Job) (all : List Pair) (are : AreCodesOf job all) (typed : IsTypedJob job) where
  version-is : (v : ℕ) → version_at job v ≡ program_if (slice_get all v)
  version-is v = ap (λ versions. slice_get versions v) (sym are.versions) ∙ slice_get-map (λ (c : Pair). c.program) all v

  pub is-program : (v : ℕ) → IsProgramIf (version_at job v)
  is-program v = by_version (version_at job v) refl
    where
      by_version : (o : Option Program) → version_at job v ≡ o → IsProgramIf o
      by_version None e = tt
      by_version (Some p) e = found IsProgram job.versions v p typed.versions e

  does-acts : (v : ℕ) → DoesActsIf (slice_get all v)
  does-acts v = by_code (slice_get all v) refl
    where
      by_code : (o : Option Pair) → slice_get all v ≡ o → DoesActsIf o
      by_code None e = tt
      by_code (Some c) e = found DoesActs all v c (All-from_recursion DoesActs all are.acts) e

  keeps : (v : ℕ) → KeepsIn v (version_at job v) (slice_get all v)
  keeps v =
      subst (λ o. KeepsIn v o (slice_get all v)) (sym (version-is v))
      (keeps-in v (slice_get all v) (subst IsProgramIf (version-is v) (is-program v)) (does-acts v))

  pub engines-same : AreSameEngines (tree_engine job) (code_engine all) (λ n. IsSameBy n (slice_get all n)) job
  engines-same = record {
    modes = λ n standing x y h. mode-by n (slice_get all n) standing x y h;
    heads = λ n x y h. (keeps n).heads x y h;
    parks = λ n x y h point. (keeps n).parks x y h point;
    parked = λ n x y h. (h.0, (keeps n).parked x y h);
    ends = λ n x y h. mode-of n (slice_get all n) x y h;
    ended = λ n m x y h. h;
    replies = λ n x y h r is. (keeps n).replies x y h r is;
    entries = λ n mode is. (keeps n).entries mode is;
  }
