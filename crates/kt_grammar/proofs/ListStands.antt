-- Laws of what stands at the front of symbols: what need not stand, and lists.
use Rattle.std.proofs.Common.{◌≡◌, ℕ, zero, suc, ◌≤◌, ◌⊎◌, inl, inr, Bool, true, false, cond, List, [], ◌∷◌, ◌++◌, drop, Option, Some, None, Ok, refl, sym, ap, ◌∙◌, subst, append_assoc, append-nil}
use Rattle.std.specs.Prelude.{if◌then◌else◌}
use Rattle.kt_grammar.specs.declared.sign.Sign.{Sign}
use Rattle.kt_grammar.specs.declared.symbol.Symbol.{Symbol}
use Rattle.kt_grammar.specs.Marks.{Mark, Language, sign, ◌·◌}
use Rattle.kt_grammar.specs.Cursor.{◌>>=◌, Outcome, begins_sign, listed_at, until_at}
use Rattle.kt_grammar.specs.Laws.{Stands}
use Rattle.kt_grammar.specs.StandsLaws.{no_value, by_value, bind_ok, chosen, nothing_stands, stands_joined, stands_as, begins_sign_stands, listed, listed_at_stands}
use Rattle.kt_grammar.specs.Lists.{separated, each, maybe}

-- what is read stands there
abbrev pub ReadStands : {A : Type 0} → ℕ → (A → Language) → (List Symbol → Outcome A) → Type 0
ReadStands {A} limit language read = (symbols : List Symbol) (x : A × List Symbol) → read symbols ≡ Ok x → Stands limit (language x.0) symbols x.1

-- false is not true
pub not_true {κ} : {C : Type κ} → false ≡ true → C
not_true e = absurd (subst (λ (t : Bool). cond t ⊥ (Unit {0})) e tt)

-- nothing is not something
pub none_is_some {κ} : {A : Type 0} {C : Type κ} (x : A) → ◌≡◌ {A = Option A} None (Some x) → C
none_is_some {A} x e = absurd (subst (λ (o : Option A). elim o as (λ _. Type 0) [ None ↦ Unit {0} | (Some y) ↦ ⊥ ]) e tt)

-- which way a choice by what is there went
pub picked : {A B : Type 0} (o : Option A) (x : B) (f : A → B) (z : B) → (elim o as (λ _. B) [ None ↦ x | (Some a) ↦ f a ]) ≡ z → ((o ≡ None) × (x ≡ z)) ⊎ ((a : A) × (o ≡ Some a) × (f a ≡ z))
picked None x f z e = inl (refl, e)
picked (Some a) x f z e = inr (a, refl, e)

-- two parts and a third stand as one and the other two
pub stands_then : {limit : ℕ} {A B C : List Mark → Type 0} {symbols middle rest : List Symbol} → Stands limit (A · B) symbols middle → Stands limit C middle rest → Stands limit (A · B · C) symbols rest
stands_then {limit} {A} {B} {C} a c = stands_as (A · B · C)
    (λ m j. record {
      front = j.first.front;
      back = j.first.back ++ j.back;
      parts = j.parts ∙ ap (λ (f : List Mark). f ++ j.back) j.first.parts ∙ append_assoc j.first.front j.first.back j.back;
      first = j.first.first;
      second = record { front = j.first.back; back = j.back; parts = refl; first = j.first.second; second = j.second };
    })
    (stands_joined a c)

-- what a sign leads, where the sign stands there
pub led_stands : {A : Type 0} (limit d : ℕ) (s : Sign) (language : A → Language) (read : List Symbol → Outcome A) → d ≤ limit → ReadStands limit language read
    → (symbols : List Symbol) (x : Option A × List Symbol) → (if begins_sign s symbols then (read (drop 1 symbols) >>= λ c. Ok (Some c.0, c.1)) else Ok (None, symbols)) ≡ Ok x
    → Stands limit (maybe (λ c. sign d s · language c) x.0) symbols x.1
led_stands {A} limit d s language read h stands symbols x e =
    let Found : Option A × List Symbol → Type 0 = λ y. Stands limit (maybe (λ c. sign d s · language c) y.0) symbols y.1 in
    elim (chosen (begins_sign s symbols) _ _ (Ok x) e) [
      | inl c ↦
          let r = bind_ok (read (drop 1 symbols)) _ x c.1 in
          by_value Found (Some r.value.0, r.value.1) x r.then_gave
          (stands_joined (begins_sign_stands limit d s symbols h c.0) (stands (drop 1 symbols) r.value r.gave))
      | inr c ↦ by_value Found (None, symbols) x c.1 (nothing_stands limit symbols)
    ]

-- ---- lists

pub separated_of : {A : Type 0} (d : ℕ) (item : A → List Mark → Type 0) (x : A) (rest : List A) (marks : List Mark) → listed d item (x ∷ rest) marks → separated d item (x ∷ rest) marks
separated_of d item x [] marks l = l
separated_of d item x (y ∷ rest) marks l = record {
  front = l.front;
  back = l.back;
  parts = l.parts;
  first = l.first;
  second = record {
    front = l.second.front;
    back = l.second.back;
    parts = l.second.parts;
    first = l.second.first;
    second = separated_of d item y rest l.second.back l.second.second;
  };
}

-- at least one item stands there, with commas between them, behind those that were read
pub record SeparatedStands {A : Type 0} (limit d : ℕ) (item : A → List Mark → Type 0) (done : List A) (symbols : List Symbol) (x : List A × List Symbol) : Type 0 where
  pub first : A
  pub others : List A
  pub is : x.0 ≡ done ++ first ∷ others
  pub stands : Stands limit (separated d item (first ∷ others)) symbols x.1

-- a list that is read stands there, if each item that is read does
pub separated_at_stands : {A : Type 0} (limit d : ℕ) (item : A → Language) (read : List Symbol → Outcome A) → d ≤ limit → ReadStands limit item read
    → (count : ℕ) (done : List A) (symbols : List Symbol) (x : List A × List Symbol) → listed_at read count done symbols ≡ Ok x → SeparatedStands limit d item done symbols x
separated_at_stands limit d item read h stands count done symbols x e =
    let l = listed_at_stands limit d item read h stands count done symbols x e in
    record {
      first = l.first;
      others = l.others;
      is = l.is;
      stands = stands_as (separated d item (l.first ∷ l.others)) (separated_of d item l.first l.others) l.stands;
    }

-- a whole list that is read stands there
pub separated_stands : {A : Type 0} (limit d : ℕ) (item : A → Language) (read : List Symbol → Outcome A) → d ≤ limit → ReadStands limit item read
    → (count : ℕ) (symbols : List Symbol) (x : List A × List Symbol) → listed_at read count [] symbols ≡ Ok x → Stands limit (separated d item x.0) symbols x.1
separated_stands {A} limit d item read h stands count symbols x e =
    let l = separated_at_stands limit d item read h stands count [] symbols x e in
    subst (λ (xs : List A). Stands limit (separated d item xs) symbols x.1) (sym l.is) l.stands

-- items stand there, up to where they stop, behind those that were read
pub record EachStands {A : Type 0} (limit : ℕ) (stops : List Symbol → Bool) (item : A → List Mark → Type 0) (done : List A) (symbols : List Symbol) (x : List A × List Symbol) : Type 0 where
  pub others : List A
  pub is : x.0 ≡ done ++ others
  pub stands : Stands limit (each item others) symbols x.1
  pub stopped : stops x.1 ≡ true

none_stands : {A : Type 0} (limit : ℕ) (stops : List Symbol → Bool) (item : A → List Mark → Type 0) (done : List A) (symbols : List Symbol) (x : List A × List Symbol) → stops symbols ≡ true → ◌≡◌ {A = Outcome (List A)} (Ok (done, symbols)) (Ok x) → EachStands limit stops item done symbols x
none_stands {A} limit stops item done symbols x stop e =
    by_value (EachStands limit stops item done symbols) (done, symbols) x e (record { others = []; is = sym (append-nil done); stands = nothing_stands limit symbols; stopped = stop })

one_more_stands : {A : Type 0} (limit : ℕ) (stops : List Symbol → Bool) (item : A → List Mark → Type 0) (done : List A) (symbols : List Symbol) (y : A × List Symbol) (x : List A × List Symbol) → Stands limit (item y.0) symbols y.1
    → EachStands limit stops item (done ++ y.0 ∷ []) y.1 x → EachStands limit stops item done symbols x
one_more_stands limit stops item done symbols y x one more = record {
  others = y.0 ∷ more.others;
  is = more.is ∙ append_assoc done (y.0 ∷ []) more.others;
  stands = stands_joined one more.stands;
  stopped = more.stopped;
}

-- items that are read up to where they stop stand there, if each item that is read does
pub until_at_stands : {A : Type 0} (limit : ℕ) (stops : List Symbol → Bool) (item : A → Language) (read : List Symbol → Outcome A) → ReadStands limit item read
    → (count : ℕ) (done : List A) (symbols : List Symbol) (x : List A × List Symbol) → until_at stops read count done symbols ≡ Ok x → EachStands limit stops item done symbols x
until_at_stands limit stops item read stands zero done symbols x e = elim (chosen (stops symbols) _ _ (Ok x) e) [
  | inl c ↦ none_stands limit stops item done symbols x c.0 c.1
  | inr c ↦ no_value _ x c.1
]
until_at_stands limit stops item read stands (suc count) done symbols x e = elim (chosen (stops symbols) _ _ (Ok x) e) [
  | inl c ↦ none_stands limit stops item done symbols x c.0 c.1
  | inr c ↦
      let s = bind_ok (read symbols) _ x c.1 in
      one_more_stands limit stops item done symbols s.value x (stands symbols s.value s.gave)
      (until_at_stands limit stops item read stands count (done ++ s.value.0 ∷ []) s.value.1 x s.then_gave)
]
