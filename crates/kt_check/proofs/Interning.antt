-- How the table of types grows, one struct or type after the other.
use Rattle.std.proofs.Common.{◌≡◌, ℕ, zero, suc, ◌+◌, ◌<◌, ◌≤◌, nat_lt, Bool, true, false, List, [], ◌∷◌, ◌++◌, length, map, take, drop, get_or, slice_get, Some, if◌then◌else◌, refl, sym, ap, ◌∙◌, subst, arith, length-take, ltb-true, ltb-false}
use Rattle.std.proofs.lemmas.Option.{none-some, same_Some, slice_get_within}
use Rattle.kt_types.specs.declared.kinds.Ty.{Ty}
use Rattle.kt_types.specs.Table.{Table, Definition, HasType, HasStruct, with_type, with_struct}
use Rattle.kt_tree.specs.Version.{AreDistinct}
use Rattle.kt_types.specs.declared.kinds.FieldDecl.{FieldDecl}
use Rattle.kt_types.specs.declared.faults.TypeFault.{TypeFault}
use Rattle.kt_types.specs.declared.faults.TypeFault.TheVariants.{Twice, Incomplete, TooBig, NoMemory}
use Rattle.kt_types.specs.Layout.{CanDefine, IsFaulty}
use Rattle.kt_check.specs.declared.sofar.Defined.{Defined}
use Rattle.kt_check.specs.Built.{definition_seen, with_structs, stage, larger, reach, reversed_onto, built, CanIntern, CanBuild}
use Rattle.kt_check.proofs.ItemSteps.{at-item}
use Rattle.kt_check.proofs.Shrinks.{taken, AreBefore}
use Rattle.kt_check.proofs.Builds.{reach-up, reach-all}

take-next : {A : Type 0} (xs : List A) (i : ℕ) (x : A) → slice_get xs i ≡ Some x → take (suc i) xs ≡ take i xs ++ x ∷ []
take-next [] i x at = absurd (none-some x at)
take-next (y ∷ xs) zero x at = ap (λ z. z ∷ []) (same_Some y x at)
take-next (y ∷ xs) (suc i) x at = ap (λ l. y ∷ l) (take-next xs i x at)

take-more : {A : Type 0} (xs : List A) (i : ℕ) (x : A) → slice_get xs i ≡ Some x → take i xs ++ x ∷ [] ≡ take (i + 1) xs
take-more xs i x at = let on : suc i ≡ i + 1 = omega arith in sym (take-next xs i x at) ∙ ap (λ n. take n xs) on

-- a struct whose name does not stand before takes the next number
pub declare-step : (names : List (List ℕ)) (i : ℕ) (name : List ℕ) (old new : Table) → AreDistinct names → slice_get names i ≡ Some name → old ≡ with_structs (take i names)
    → (¬ HasStruct old name → new ≡ with_struct old name) → new ≡ with_structs (take (i + 1) names)
declare-step names i name old new apart at is grows = grows absent ∙ ap (λ t. with_struct t name) is ∙ ap with_structs (take-more names i name at)
  where
    absent : HasStruct old name → ⊥
    absent (s, there) =
        let here : slice_get (take i names) s ≡ Some name = subst (λ (t : Table). slice_get t.structs s ≡ Some name) is there in
        let lt : s < i = omega (arith, slice_get_within (take i names) s name here, length-take i names) in
        apart s i name name lt (sym (taken names i s lt) ∙ here) at refl

-- a type of the list takes the place that it has there
pub intern-step : (types : List Ty) (structs : List (List ℕ)) (defs : List Definition) (p : ℕ) (t : Ty) (old new : Table) → CanIntern types structs defs p t → slice_get types p ≡ Some t
    → old ≡ stage types structs p defs → (¬ HasType old t → new ≡ with_type old t) → new ≡ stage types structs (p + 1) defs
intern-step types structs defs p t old new can at is grows =
    grows (subst (λ (o : Table). ¬ HasType o t) (sym is) can.2) ∙ ap (λ (o : Table). with_type o t) is
    ∙ ap (λ l. record { types = l; structs = structs; defined = defs }) (take-more types p t at)

pub larger-above : (a b : ℕ) → a ≤ b → larger a b ≡ b
larger-above a b le = by (nat_lt a b) refl
  where
    by : (c : Bool) → nat_lt a b ≡ c → (if c then b else a) ≡ b
    by true e = refl
    by false e = let ge = ltb-false a b e in omega arith

pub larger-below : (a b : ℕ) → b ≤ a → larger a b ≡ a
larger-below a b le = by (nat_lt a b) refl
  where
    by : (c : Bool) → nat_lt a b ≡ c → (if c then b else a) ≡ a
    by true e = let lt = ltb-true a b e in omega arith
    by false e = refl

pub larger-right : (a b : ℕ) → b ≤ larger a b
larger-right a b = by (nat_lt a b) refl
  where
    by : (c : Bool) → nat_lt a b ≡ c → b ≤ (if c then b else a)
    by true e = omega arith
    by false e = ltb-false a b e

-- the item of a loop stands in its list
pub item-at : {A : Type 0} (xs : List A) (i : ℕ) (x : A) → i < length xs → x ≡ get_or xs i x → slice_get xs i ≡ Some x
item-at [] i x lt is = absurd (omega arith)
item-at (y ∷ xs) zero x lt is = ap Some (sym is)
item-at (y ∷ xs) (suc i) x lt is = item-at xs i x (omega arith) is

pub item-or : {A : Type 0} (xs : List A) (i : ℕ) (x : A) → i < length xs → slice_get xs i ≡ Some (get_or xs i x)
item-or [] i x lt = absurd (omega arith)
item-or (y ∷ xs) zero x lt = refl
item-or (y ∷ xs) (suc i) x lt = item-or xs i x (omega arith)

-- ---- one definition

-- behind the types up to those of its fields
pub reached : (types : List Ty) (structs : List (List ℕ)) (defs : List Definition) (k n : ℕ) (fields : List FieldDecl) (new : Table) → n ≡ reach k fields → new ≡ stage types structs (larger k n) defs → new ≡ stage types structs (reach k fields) defs
reached types structs defs k n fields new e is =
    is ∙ ap (λ m. stage types structs m defs) (larger-above k n (subst (λ m. k ≤ m) (sym e) (reach-up k fields)) ∙ e)

field-before : (p : ℕ) (fields : List FieldDecl) → AreBefore p fields → (n : ℕ) (d : FieldDecl) → slice_get fields n ≡ Some d → d.ty < p
field-before p [] h n d at = absurd (none-some d at)
field-before p (x ∷ fields) h zero d at = subst (λ (y : FieldDecl). y.ty < p) (same_Some x d at) h.0
field-before p (x ∷ fields) h (suc n) d at = field-before p fields h.1 n d at

-- the types of its fields are there
pub fields-there : (types : List Ty) (structs : List (List ℕ)) (defs : List Definition) (k : ℕ) (fields : List FieldDecl) (new : Table) → reach k fields ≤ length types → new ≡ stage types structs (reach k fields) defs
    → (n : ℕ) (d : FieldDecl) → slice_get fields n ≡ Some d → d.ty < length new.types
fields-there types structs defs k fields new within is n d at =
    let count : length new.types ≡ length (take (reach k fields) types) = ap (λ (t : Table). length t.types) is in
    omega (arith, count, length-take (reach k fields) types, field-before (reach k fields) fields (reach-all k fields) n d at)

-- the struct may be defined there
pub definition-there : (types : List Ty) (structs : List (List ℕ)) (defs : List Definition) (k number : ℕ) (fields copied : List FieldDecl) (new : Table) → new ≡ stage types structs (reach k fields) defs → copied ≡ fields
    → CanDefine (stage types structs (reach k fields) defs) number fields → CanDefine new number copied
definition-there types structs defs k number fields copied new is same can =
    subst (λ l. CanDefine new number l) (sym same) (subst (λ (t : Table). CanDefine t number fields) (sym is) can)

-- where a struct may be defined only memory can be wanting
pub only-memory : (t : Table) (s : ℕ) (fields : List FieldDecl) (x : TypeFault) → CanDefine t s fields → IsFaulty t s fields x → x ≡ NoMemory
only-memory t s fields Twice can is = absurd (is can.0)
only-memory t s fields Incomplete can is = absurd (none-some can.1 (sym is.1 ∙ can.2))
only-memory t s fields TooBig can is =
    let same = same_Some can.1 is.1 (sym can.2 ∙ is.2) in
    absurd (omega (arith, can.3, is.3, ap (λ (l : List Ty). length l) same))
only-memory t s fields NoMemory can is = refl

-- ---- all definitions, in their order

-- the next of them may be made, and then those behind it
pub next-of : (types : List Ty) (structs : List (List ℕ)) (k : ℕ) (done : List Definition) (xs : List Defined) (i : ℕ) (x : Defined) → i < length xs → x ≡ get_or xs i x
    → CanBuild types structs k done (map definition_seen (drop i xs)) → CanBuild types structs k done (definition_seen x ∷ map definition_seen (drop (i + 1) xs))
next-of types structs k done xs i x lt is can = subst (CanBuild types structs k done) (at-item (λ (l : List Defined). map definition_seen l) xs i x lt is) can

drop-none : {A : Type 0} (xs : List A) (i : ℕ) → length xs ≤ i → drop i xs ≡ []
drop-none [] zero le = refl
drop-none [] (suc i) le = refl
drop-none (x ∷ xs) zero le = absurd (omega arith)
drop-none (x ∷ xs) (suc i) le = drop-none xs i (omega arith)

-- behind the last of them all other types may be interned
pub last-of : (types : List Ty) (structs : List (List ℕ)) (k : ℕ) (done : List Definition) (xs : List Defined) (i : ℕ) → length xs ≤ i
    → CanBuild types structs k done (map definition_seen (drop i xs)) → CanBuild types structs k done []
last-of types structs k done xs i le can = subst (λ (l : List Defined). CanBuild types structs k done (map definition_seen l)) (drop-none xs i le) can

take-whole : {A : Type 0} (xs : List A) → take (length xs) xs ≡ xs
take-whole [] = refl
take-whole (x ∷ xs) = ap (λ l. x ∷ l) (take-whole xs)

-- and then the table is whole
pub table-whole : (types all : List Ty) (names structs : List (List ℕ)) (k : ℕ) (done : List Definition) (xs : List Defined) (i : ℕ) (new : Table) → all ≡ types → structs ≡ names → length xs ≤ i
    → CanBuild types names k done (map definition_seen (drop i xs)) → reversed_onto (map definition_seen (drop i xs)) done ≡ reversed_onto (map definition_seen xs) []
    → new ≡ stage all structs (larger k (length all)) done → new ≡ built types names (map definition_seen xs)
table-whole types all names structs k done xs i new e1 e2 le can order is =
    let within = (last-of types names k done xs i le can).0 in
    let last : done ≡ reversed_onto (map definition_seen xs) [] = sym (ap (λ (l : List Defined). reversed_onto (map definition_seen l) done) (drop-none xs i le)) ∙ order in
    is
    ∙ ap (λ (ts : List Ty). stage ts structs (larger k (length ts)) done) e1
    ∙ ap (λ (ss : List (List ℕ)). stage types ss (larger k (length types)) done) e2
    ∙ ap (λ m. stage types names m done) (larger-above k (length types) within)
    ∙ ap (λ (ts : List Ty). record { types = ts; structs = names; defined = done }) (take-whole types)
    ∙ ap (λ (ds : List Definition). record { types = types; structs = names; defined = ds }) last
