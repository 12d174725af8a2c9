-- A closing of a machine: the point at which its thread stands, and the world where it begins anew.
use Rattle.std.specs.Prelude.{ℕ, ◌+◌, [], ◌∷◌, Option, None}
use Rattle.kt_mem.specs.declared.thread.Mode.TheVariants.{Updating}
use Rattle.kt_tree.specs.Version.{Program}
use Rattle.kt_code.specs.declared.private.Head.{Head}
use Rattle.kt_code.specs.declared.private.Head.TheVariants as head
use Rattle.kt_lone.specs.Update.{point_of_act, updated}
use Rattle.kt_lone.specs.World.{Engine, Live, World}

-- the point at which a thread with this head stands
abbrev pub old_point : Head → Option ℕ
old_point (head.Act a) = point_of_act a
old_point (head.Trap t) = None

-- the update of one thread, which is on the way to this point then
abbrev pub with_restart : {X : Type 0} → Engine X → Program → Program → ℕ → World X → World X
with_restart e old new p w = record {
  shared = (updated e old new w).shared;
  threads = record {
    state = e.settle (w.shared.version + 1) (e.entry (w.shared.version + 1) (Updating p));
    standing = Live;
  } ∷ [];
}
