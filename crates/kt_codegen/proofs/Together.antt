-- One function more behind others.
use Rattle.std.proofs.Common.{◌≡◌, ℕ, suc, ◌+◌, ◌<◌, ◌≤◌, List, [], ◌∷◌, ◌++◌, length, map, take, get_or, sym, ap, ◌∙◌, arith, append_assoc, length-append}
use Rattle.std.proofs.lemmas.List.{append-nil, map-append, take_all}
use Rattle.std.proofs.Math.Seq.{take-suc}
use Rattle.kt_types.specs.Table.{Table}
use Rattle.kt_tree.specs.declared.function.Fun.{Fun}
use Rattle.kt_tree.specs.Tree.{Function, function_of}
use Rattle.kt_tree.specs.Version.{Program}
use Rattle.kt_code.specs.declared.instr.Instr.{Instr}
use Rattle.kt_codegen.specs.Emitting.{function_in, functions_in, entries_in}
use Rattle.kt_codegen.specs.VersionCode.{function_code, functions_code, entries_from}

module _ (types : Table) (all : List Function) where
  functions-more : (fs : List Function) (f : Function) → functions_code types all (fs ++ f ∷ []) ≡ functions_code types all fs ++ function_code types all f
  functions-more [] f = append-nil (function_code types all f)
  functions-more (k ∷ fs) f =
      ap (λ l. function_code types all k ++ l) (functions-more fs f)
      ∙ sym (append_assoc (function_code types all k) (functions_code types all fs) (function_code types all f))

  entries-more : (p : ℕ) (fs : List Function) (f : Function) →
      entries_from types all p (fs ++ f ∷ []) ≡ entries_from types all p fs ++ (p + length (functions_code types all fs)) ∷ []
  entries-more p [] f = let e : p ≡ p + 0 = omega arith in ap (λ n. n ∷ []) e
  entries-more p (k ∷ fs) f =
      let front = function_code types all k in
      let long = length-append front (functions_code types all fs) in
      let e : (p + length front) + length (functions_code types all fs) ≡ p + length (front ++ functions_code types all fs) = omega arith in
      ap (λ l. p ∷ l) (entries-more (p + length front) fs f ∙ ap (λ n. entries_from types all (p + length front) fs ++ n ∷ []) e)

-- a place further the list has one more
more-taken : (fs : List Fun) (i : ℕ) (f d : Fun) → i < length fs → f ≡ get_or fs i d →
    map function_of (take (i + 1) fs) ≡ map function_of (take i fs) ++ function_of f ∷ []
more-taken fs i f d h is =
    let one : i + 1 ≡ suc i = omega arith in
    ap (λ n. map function_of (take n fs)) one ∙ ap (map function_of) (take-suc fs i d h)
    ∙ map-append function_of (take i fs) (get_or fs i d ∷ []) ∙ ap (λ x. map function_of (take i fs) ++ function_of x ∷ []) (sym is)

module _ (p : Program) (fs : List Fun) (i : ℕ) (f d : Fun) (h : i < length fs) (is : f ≡ get_or fs i d) where
  pub function-added : (old new : List Instr) → old ≡ functions_in p (map function_of (take i fs)) → new ≡ old ++ function_in p (function_of f) →
      new ≡ functions_in p (map function_of (take (i + 1) fs))
  function-added old new e k =
      k ∙ ap (λ l. l ++ function_in p (function_of f)) e ∙ sym (functions-more p.types p.functions (map function_of (take i fs)) (function_of f))
      ∙ ap (functions_in p) (sym (more-taken fs i f d h is))

  pub entry-added : (instrs : List Instr) (old new : List ℕ) → instrs ≡ functions_in p (map function_of (take i fs)) → old ≡ entries_in p (map function_of (take i fs)) →
      new ≡ old ++ length instrs ∷ [] → new ≡ entries_in p (map function_of (take (i + 1) fs))
  entry-added instrs old new e g k =
      let at : length instrs ≡ 0 + length (functions_in p (map function_of (take i fs))) = omega (arith, ap length e) in
      k ∙ ap (λ l. l ++ length instrs ∷ []) g ∙ ap (λ n. entries_in p (map function_of (take i fs)) ++ n ∷ []) at
      ∙ sym (entries-more p.types p.functions 0 (map function_of (take i fs)) (function_of f))
      ∙ ap (entries_in p) (sym (more-taken fs i f d h is))

-- all functions are taken at the end of the list
pub all-taken : (fs : List Fun) (i : ℕ) (gs : List Function) → length fs ≤ i → map function_of fs ≡ gs → map function_of (take i fs) ≡ gs
all-taken fs i gs h e = ap (map function_of) (take_all i fs h) ∙ e
