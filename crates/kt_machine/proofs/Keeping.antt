-- What an update keeps by address is what it keeps by heap number: numbers.
use Rattle.std.specs.Prelude.{◌≡◌, ℕ, IsTrue, List, [], ◌∷◌, map, Option, None, Some, option_and_then, Result, Ok, Err, refl}
use Rattle.std.specs.List.{All}
use Rattle.std.proofs.Common.{sym, ap, subst, ◌∙◌}
use Rattle.std.proofs.lemmas.Bool.{false≢true}
use Rattle.std.proofs.lemmas.List.Elements.{All-head, All-tail}
use Rattle.kt_types.specs.declared.kinds.Ty.TheVariants as ty
use Rattle.kt_tree.specs.declared.global.GlobalDecl.{GlobalDecl}
use Rattle.kt_tree.specs.Version.{Program}
use Rattle.kt_mem.specs.declared.memory.Name.TheVariants.{Glob}
use Rattle.kt_mem.specs.declared.memory.Value.{Value}
use Rattle.kt_mem.specs.declared.memory.Value.TheVariants.{Num, Null, Ptr, Free, Held, Undef}
use Rattle.kt_mem.specs.declared.steps.Trap.{Trap}
use Rattle.kt_mem.specs.Memory.{Memory, load}
use Rattle.kt_meaning.specs.Laws.{IsShared}
use Rattle.kt_meaning.specs.Values.{is_of}
use Rattle.kt_heap.specs.Heap as heap
use Rattle.kt_heap.specs.Heap.{IsPairing}
use Rattle.kt_mem.specs.Renaming.{Pairs, rename_value, renamed}
use Rattle.kt_heap.specs.ByNumber.{by_number, answer_by}
use Rattle.kt_heap.proofs.NumberLaws.{loads_by_number}
use Rattle.kt_lone.specs.Typed.{IsIntIfSome}
use Rattle.kt_lone.specs.TypedMemories.{kept_values-int}
use Rattle.kt_lone.specs.Update.{kept_value, kept_values, old_global, value_if, value_of_global}
use Rattle.kt_machine.specs.Outside.{Outside, AreNumbers, IsNumber, pairs_in, shown}

module _ (ps : Pairs) (m : Memory) (pairing : IsPairing ps m) where
  int-same : (v : Value) → IsTrue (is_of ty.Int (rename_value (renamed ps) v)) → (v ≡ rename_value (renamed ps) v) × IsNumber (Some v)
  int-same (Num z) h = (refl, tt)
  int-same Null h = absurd (false≢true h)
  int-same (Ptr n k) h = absurd (false≢true h)
  int-same Free h = absurd (false≢true h)
  int-same (Held t) h = absurd (false≢true h)
  int-same Undef h = absurd (false≢true h)

  answer-same : (r : Result Value Trap) → IsIntIfSome (value_if (answer_by (rename_value (renamed ps)) r)) →
      (value_if r ≡ value_if (answer_by (rename_value (renamed ps)) r)) × IsNumber (value_if r)
  answer-same (Ok v) h = let k = int-same v h in (ap Some k.0, k.1)
  answer-same (Err t) h = (refl, tt)

  global-same : (i : ℕ) → IsIntIfSome (value_of_global (by_number ps m) i) →
      (value_of_global m i ≡ value_of_global (by_number ps m) i) × IsNumber (value_of_global m i)
  global-same i h =
      let e = loads_by_number ps m (Ptr (Glob i) 0) ty.Int pairing tt in
      let k = answer-same (load m (Ptr (Glob i) 0) ty.Int) (subst (λ (r : Result Value Trap). IsIntIfSome (value_if r)) e h) in
      (k.0 ∙ sym (ap value_if e), k.1)

  found-same : (o : Option ℕ) → IsIntIfSome (option_and_then (value_of_global (by_number ps m)) o) →
      (option_and_then (value_of_global m) o ≡ option_and_then (value_of_global (by_number ps m)) o) × IsNumber (option_and_then (value_of_global m) o)
  found-same None h = (refl, tt)
  found-same (Some i) h = global-same i h

  values-same : (old : Program) (gs : List GlobalDecl) → All IsIntIfSome (map (kept_value old (by_number ps m)) gs) →
      (map (kept_value old m) gs ≡ map (kept_value old (by_number ps m)) gs) × AreNumbers (map (kept_value old m) gs)
  values-same old [] h = (refl, tt)
  values-same old (g ∷ gs) h =
      let first = found-same (old_global old g) (All-head IsIntIfSome (kept_value old (by_number ps m) g) (map (kept_value old (by_number ps m)) gs) h) in
      let rest = values-same old gs (All-tail IsIntIfSome (kept_value old (by_number ps m) g) (map (kept_value old (by_number ps m)) gs) h) in (
        ap (λ (k : Option Value). k ∷ map (kept_value old m) gs) first.0
            ∙ ap (λ (l : List (Option Value)). kept_value old (by_number ps m) g ∷ l) rest.0,
        (first.1, rest.1),
      )

module _ (o : Outside) (pairing : IsPairing (pairs_in o) (heap.memory o.heap)) (typed : IsShared (shown o)) (old new : Program) where
  both : (kept_values old (heap.memory o.heap) new ≡ kept_values old (shown o).memory new) × AreNumbers (kept_values old (heap.memory o.heap) new)
  both = values-same (pairs_in o) (heap.memory o.heap) pairing old new.globals (kept_values-int (shown o) typed old new)

  pub kept-by : kept_values old (heap.memory o.heap) new ≡ kept_values old (shown o).memory new
  kept-by = both.0

  pub kept-numbers : AreNumbers (kept_values old (heap.memory o.heap) new)
  kept-numbers = both.1
