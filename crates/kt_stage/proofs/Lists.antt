-- Whether some element passes a test, or each does.
use Rattle.std.proofs.Common.{◌≡◌, Bool, true, List, [], ◌∷◌, ◌&&◌, ◌||◌, map, refl, sym, ap, ◌∙◌}
use Rattle.std.specs.List.{list_any}
use Rattle.std.proofs.lemmas.List.Folds.{list_any_more, list_all_more, list_any_at, list_all_at}
use Rattle.kt_tree.specs.declared.function.Fun.{Fun}
use Rattle.kt_tree.specs.Tree.{Function, function_of}

pub ruleset searches = (list_any_more, list_all_more, list_any_at, list_all_at)

any-map : (p : Function → Bool) (fs : List Fun) → list_any p (map function_of fs) ≡ list_any (λ f. p (function_of f)) fs
any-map p [] = refl
any-map p (f ∷ fs) = ap (λ b. p (function_of f) || b) (any-map p fs)

-- the test of plain functions
pub any-mapped : (p : Function → Bool) (fs : List Fun) (gs : List Function) (b : Bool) → map function_of fs ≡ gs
    → b ≡ list_any (λ f. p (function_of f)) fs → b ≡ list_any p gs
any-mapped p fs gs b same h = h ∙ sym (any-map p fs) ∙ ap (list_any p) same

-- the second of two tests decides
pub both : {q r a b : Bool} → q ≡ true → q ≡ a → r ≡ b → r ≡ (a && b)
both {q} {r} {a} {b} here front same = same ∙ ap (λ x. x && b) (sym here ∙ front)
