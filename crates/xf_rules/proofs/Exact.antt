-- What is judged gives something exactly where nothing of it is wrong, and else has a first fault.
use Rattle.std.proofs.Common.{◌≡◌, ◌⊎◌, inl, inr, List, [], ◌∷◌, Option, Some, None, refl, ap, ◌∙◌, subst}
use Rattle.kt_typing.specs.declared.fault.Fault.{Fault}
use Rattle.kt_typing.specs.Faults.{IsFirst}
use Rattle.kt_typing.specs.Forms.{typed}
use Rattle.kt_typing.specs.Operands.{Operand}
use Rattle.kt_typing.proofs.Exact.{Finds, finds, finds-both, finds-some, faulty, faultless}
use Rattle.kt_typing.proofs.Firsts.{one-first}
use Rattle.xf_rules.specs.Made.{Made}
use Rattle.xf_rules.specs.Judgments.{Judgment, Expressed, Held, Judgments, NoMore, And, tree_made, both_made, made_of, made, all_made, IsAmong, IsWrong, IsWrongAmong, first_of, first_wrong, first_among}

of-either : {A B C : Type 0} → (A → C) → (B → C) → A ⊎ B → C
of-either f g (inl a) = f a
of-either f g (inr b) = g b

-- ---- the first fault is found

finds-listed : (fs : List Fault) → Finds (first_of fs) (IsAmong fs)
finds-listed [] = λ f e. e
finds-listed (g ∷ rest) = finds-both (λ f. Some g ≡ Some f) (IsAmong rest) (Some g) (first_of rest) (finds-some (Some g)) (finds-listed rest)

mutual
  pub finds-wrong : (j : Judgment) → Finds (first_wrong j) (IsWrong j)
  finds-wrong (Expressed e) = finds e
  finds-wrong (Held broken parts how) =
      finds-both (IsAmong broken) (IsWrongAmong parts) (first_of broken) (first_among parts) (finds-listed broken) (finds-among parts)

  pub finds-among : (js : Judgments) → Finds (first_among js) (IsWrongAmong js)
  finds-among NoMore = λ f e. e
  finds-among (And j rest) = finds-both (IsWrong j) (IsWrongAmong rest) (first_wrong j) (first_among rest) (finds-wrong j) (finds-among rest)

pub found-first : (j : Judgment) (f : Fault) → first_wrong j ≡ Some f → IsFirst (IsWrong j) f
found-first j f is = subst (λ o. Finds o (IsWrong j)) is (finds-wrong j)

found-none : (j : Judgment) (f : Fault) → first_wrong j ≡ None → IsWrong j f → ⊥
found-none j f is = (subst (λ o. Finds o (IsWrong j)) is (finds-wrong j)) f

-- ---- what gives something has no fault

tree-there : (o : Option Operand) (m : Made) → tree_made o ≡ Some m → (x : Operand) × (o ≡ Some x)
tree-there (Some x) m e = (x, refl)
tree-there None m e = absurd cc

made-there : (broken : List Fault) (how : List Made → Made) (o : Option (List Made)) (m : Made)
    → made_of broken how o ≡ Some m → (broken ≡ []) × (xs : List Made) × (o ≡ Some xs)
made-there [] how (Some xs) m e = (refl, xs, refl)
made-there [] how None m e = absurd cc
made-there (f ∷ fs) how None m e = absurd cc
made-there (f ∷ fs) how (Some xs) m e = absurd cc

both-there : (o : Option Made) (os : Option (List Made)) (xs : List Made)
    → both_made o os ≡ Some xs → ((x : Made) × (o ≡ Some x)) × ((rest : List Made) × (os ≡ Some rest))
both-there (Some x) (Some rest) xs e = ((x, refl), (rest, refl))
both-there None None xs e = absurd cc
both-there None (Some rest) xs e = absurd cc
both-there (Some x) None xs e = absurd cc

none-among : (fs : List Fault) (f : Fault) → fs ≡ [] → IsAmong fs f → ⊥
none-among [] f e = λ w. w
none-among (g ∷ rest) f e = absurd cc

mutual
  pub right : (j : Judgment) (m : Made) (f : Fault) → made j ≡ Some m → IsWrong j f → ⊥
  right (Expressed e) m f is = let (x, typed-so) = tree-there (typed e) m is in faultless e x typed-so f
  right (Held broken parts how) m f is =
      let (none, xs, are) = made-there broken how (all_made parts) m is in
      of-either (none-among broken f none) (all-right parts xs f are)

  pub all-right : (js : Judgments) (xs : List Made) (f : Fault) → all_made js ≡ Some xs → IsWrongAmong js f → ⊥
  all-right NoMore xs f is = λ w. w
  all-right (And j rest) xs f is =
      let ((x, one), (ys, others)) = both-there (made j) (all_made rest) xs is in
      of-either (right j x f one) (all-right rest ys f others)

-- ---- what gives nothing has a fault

tree-none : (o : Option Operand) → tree_made o ≡ None → o ≡ None
tree-none None e = refl
tree-none (Some x) e = absurd cc

made-none : (how : List Made → Made) (o : Option (List Made)) → made_of [] how o ≡ None → o ≡ None
made-none how None e = refl
made-none how (Some xs) e = absurd cc

both-none : (o : Option Made) (os : Option (List Made)) → both_made o os ≡ None → (o ≡ None) ⊎ (os ≡ None)
both-none None os e = inl refl
both-none (Some x) None e = inr refl
both-none (Some x) (Some xs) e = absurd cc

mutual
  pub wrong : (j : Judgment) → made j ≡ None → (f : Fault) × IsWrong j f
  wrong (Expressed e) is = faulty e (tree-none (typed e) is)
  wrong (Held (g ∷ rest) parts how) is = (g, inl (inl refl))
  wrong (Held [] parts how) is = let (f, w) = wrong-among parts (made-none how (all_made parts) is) in (f, inr w)

  pub wrong-among : (js : Judgments) → all_made js ≡ None → (f : Fault) × IsWrongAmong js f
  wrong-among NoMore is = absurd cc
  wrong-among (And j rest) is = of-either (λ n. (let (f, w) = wrong j n in (f, inl w))) (λ n. (let (f, w) = wrong-among rest n in (f, inr w))) (both-none (made j) (all_made rest) is)

some-there : (o : Option Fault) → (o ≡ None → ⊥) → (f : Fault) × (o ≡ Some f)
some-there None h = absurd (h refl)
some-there (Some f) h = (f, refl)

pub first-there : (j : Judgment) → made j ≡ None → (f : Fault) × IsFirst (IsWrong j) f
first-there j none =
    let (g, w) = wrong j none in
    let (f, is) = some-there (first_wrong j) (λ h. found-none j g h w) in
    (f, found-first j f is)

pub first-found : (j : Judgment) (f : Fault) → IsFirst (IsWrong j) f → first_wrong j ≡ Some f
first-found j f first =
    let (g, is) = some-there (first_wrong j) (λ h. found-none j f h first.among) in
    is ∙ ap Some (one-first (IsWrong j) g f (found-first j g is) first)
