-- An engine whose threads do the acts of a script, for worked runs: small enough to be followed by hand.
use Rattle.std.specs.Prelude.{ℕ, true, false, List, [], ◌∷◌, codes, Option, None, Some, slice_get, length}
use Rattle.kt_types.specs.declared.kinds.View.TheVariants as view
use Rattle.kt_types.specs.Table.{scalar_table}
use Rattle.kt_mem.specs.declared.steps.Act.{Act}
use Rattle.kt_mem.specs.declared.steps.Act.TheVariants as act
use Rattle.kt_tree.specs.declared.global.GlobalDecl.{GlobalDecl}
use Rattle.kt_tree.specs.declared.global.Init.TheVariants as init
use Rattle.kt_tree.specs.Tree.{Function, Compound, Done}
use Rattle.kt_tree.specs.Version.{Program}
use Rattle.kt_meaning.specs.Steps.{Step, Acts, Ends}
use Rattle.kt_meaning.specs.Thread.{Restart, restart_after}
use Rattle.xf_plan.specs.Plan.{Plan, GlobalRule}
use Rattle.kt_world.specs.Job.{Job}
use Rattle.kt_world.specs.Turns.{world_of}
use Rattle.kt_world.specs.World.{Call, Engine, World}

-- ---- the engine

-- the acts that a thread does, and then its end
pub record Script : Type 0 where
  pub acts : List Act
  pub calls : List Call
  pub restart : Restart

-- the return of `main` is its last act
abbrev script_step : Restart → List Call → List Act → Step Script
script_step r calls [] = Ends act.ThreadEnd
script_step r calls (act.MainReturn n ∷ rest) = Ends (act.MainReturn n)
script_step r calls (a ∷ rest) = Acts a (λ reply. record { acts = rest; calls = calls; restart = restart_after a r })

-- the scripts of the functions of each version
abbrev pub Scripts : Type 0
Scripts = List (List (List Act))

abbrev script_in : Option (List (List Act)) → ℕ → List Act
script_in None f = []
script_in (Some functions) f = or_none (slice_get functions f)
  where
    or_none : Option (List Act) → List Act
    or_none None = []
    or_none (Some acts) = acts

abbrev pub scripted : Scripts → Engine Script
scripted scripts = record {
  settle = λ v x. x;
  step = λ v x. script_step x.restart x.calls x.acts;
  mode = λ x. x.restart.mode;
  calls = λ x. x.calls;
  entry = λ v f arguments r. record {
    acts = script_in (slice_get scripts v) f;
    calls = record { function = f; locals = arguments } ∷ [];
    restart = r;
  };
  ended = λ x. record x { acts = []; calls = [] };
}

-- ---- programs

-- `int main(void)`, whose number is 0, and `void w(int x)`
abbrev main_function : Function
main_function = record { name = codes "main"; result = Some 1; params = 0; noted = false; locals = []; body = Compound Done }

abbrev pub worker : List ℕ → ℕ → Function
worker name t = record {
  name = name;
  result = None;
  params = 1;
  noted = true;
  locals = record { name = codes "x"; ty = t; view = view.One } ∷ [];
  body = Compound Done;
}

-- a mutex, and an `int`
abbrev pub mutex : GlobalDecl
mutex = record { name = codes "m"; ty = 3; count = 1; array = false; view = view.One; init = init.Free }

abbrev pub program : List Function → List (List ℕ) → Program
program others points = record {
  types = scalar_table;
  globals = mutex ∷ [];
  literals = [];
  functions = main_function ∷ others;
  points = record { names = points; updates = length points };
}

-- a plan that carries the globals' rules alone
abbrev pub plan : List GlobalRule → Plan
plan globals = record { old = scalar_table; new = scalar_table; structs = []; globals = globals; fields = []; locals = [] }

abbrev pub job : List Program → List Plan → List ℕ → Job
job versions plans after = record { versions = versions; plans = plans; after = after; budget = 1000; input = [] }

-- the world after these turns
abbrev pub run : Scripts → Job → List ℕ → World Script
run scripts j turns = world_of (scripted scripts) j turns
