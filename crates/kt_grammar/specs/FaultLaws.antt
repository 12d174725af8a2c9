-- Laws of the places of faults: what was read before a fault begins something, through joined parts.
use Rattle.std.proofs.Common.{◌≡◌, ℕ, zero, suc, ◌≤◌, ◌<◌, ◌⊎◌, inl, inr, List, [], ◌∷◌, ◌++◌, length, drop, Result, Ok, Err, refl, sym, ap, ◌∙◌, subst, append_assoc}
use Rattle.std.specs.Prelude.{MatchResult}
use Rattle.kt_grammar.specs.declared.fault.Fault.{Fault}
use Rattle.kt_grammar.specs.declared.fault.Fault.TheVariants.{Syntax, TooDeep, NoMemory}
use Rattle.kt_grammar.specs.declared.keyword.Keyword.TheVariants as keywords
use Rattle.kt_grammar.specs.declared.sign.Sign.{Sign}
use Rattle.kt_grammar.specs.declared.sign.Sign.TheVariants as sign
use Rattle.kt_grammar.specs.declared.symbol.Symbol.{Symbol}
use Rattle.kt_grammar.specs.declared.symbol.Symbol.TheVariants as symbol
use Rattle.kt_grammar.specs.declared.tree.Name.{Name}
use Rattle.kt_grammar.specs.declared.tree.Base.{Base}
use Rattle.kt_grammar.specs.declared.tree.Base.TheVariants as base
use Rattle.kt_grammar.specs.declared.tree.TypeName.{TypeName}
use Rattle.kt_grammar.specs.Marks.{Mark, symbols_of, nothing, sign as sign_token, name, ◌·◌}
use Rattle.kt_grammar.specs.Spelling.{between, bare_base, spells_base, spells_type}
use Rattle.kt_grammar.specs.Cursor.{◌>>=◌, Outcome, unexpected, begins_sign, behind, name_at, listed_at}
use Rattle.kt_grammar.specs.Reading.{behind_const, bare_base_at, base_at, type_at, between_at}
use Rattle.kt_grammar.specs.Laws.{Stands, IsFaultAt, FaultStands}
use Rattle.kt_grammar.specs.CutLaws.{symbols_of-append, shallow-append}
use Rattle.kt_grammar.specs.StandsLaws.{chosen, stands_as, keyword_stands, begins_sign_stands, behind_stands, type_at_stands, listed}

-- ---- results

-- no value is a fault
pub no_fault {κ} : {A : Type 0} {C : Type κ} (x : A) (fault : Fault) → ◌≡◌ {A = Result A Fault} (Ok x) (Err fault) → C
no_fault {A} {C} x fault e = absurd (subst (λ (r : Result A Fault). MatchResult r (λ v. Unit {0}) (λ e. ⊥)) e tt)

fault_or : {A : Type 0} → Fault → Result A Fault → Fault
fault_or fault (Ok y) = fault
fault_or fault (Err other) = other

-- equal answers have equal faults
pub same_fault : {A : Type 0} (x y : Fault) → ◌≡◌ {A = Result A Fault} (Err x) (Err y) → x ≡ y
unfolding fault_or
same_fault x y e = ap (fault_or x) e

-- what holds of a fault holds of one that is answered alike
pub by_fault : {A : Type 0} (P : Fault → Type 0) (x y : Fault) → ◌≡◌ {A = Result A Fault} (Err x) (Err y) → P x → P y
by_fault P x y e h = subst P (same_fault x y e) h

-- a reading in two steps that is at fault: the first step is, or it gave a value and the second is
pub bind_err : {A B : Type 0} (read : Result A Fault) (f : A → Result B Fault) (fault : Fault) → (read >>= f) ≡ Err fault
    → (read ≡ Err fault) ⊎ ((x : A) × (read ≡ Ok x) × (f x ≡ Err fault))
bind_err (Ok x) f fault e = inr (x, refl, e)
bind_err (Err other) f fault e = inl (ap (λ (x : Fault). Err x) (same_fault other fault e))

-- ---- places of faults

-- the front symbol cannot come here, but something can
pub unexpected_stands : {A : Type 0} (limit : ℕ) (language : List Mark → Type 0) (others : List Mark) (symbols : List Symbol) (fault : Fault) → language others → ◌≡◌ {A = Result A Fault} (unexpected symbols) (Err fault)
    → FaultStands limit language symbols fault
unexpected_stands limit language others symbols fault l e = by_fault (FaultStands limit language symbols) (Syntax (length symbols)) fault e
    (record { marks = []; others = others; rest = symbols; parts = refl; shallow = tt; begins = l; is_fault = refl })

-- the front symbol can come here, but is too deep
pub too_deep_stands : {A : Type 0} (limit d : ℕ) (language : List Mark → Type 0) (others : List Mark) (s : Symbol) (rest : List Symbol) (fault : Fault) → limit < d → language (record { symbol = s; depth = d } ∷ others)
    → ◌≡◌ {A = Result A Fault} (Err (TooDeep (length (s ∷ rest)))) (Err fault) → FaultStands limit language (s ∷ rest) fault
too_deep_stands limit d language others s rest fault h l e = by_fault (FaultStands limit language (s ∷ rest)) (TooDeep (length (s ∷ rest))) fault e
    (record { marks = []; others = record { symbol = s; depth = d } ∷ others; rest = s ∷ rest; parts = refl; shallow = tt; begins = l; is_fault = (refl, (refl, h)) })

-- what spells the one spells the other
pub fault_as : {limit : ℕ} {A : List Mark → Type 0} {symbols : List Symbol} {fault : Fault} (B : List Mark → Type 0) → ((marks : List Mark) → A marks → B marks) → FaultStands limit A symbols fault → FaultStands limit B symbols fault
fault_as B f s = record {
  marks = s.marks;
  others = s.others;
  rest = s.rest;
  parts = s.parts;
  shallow = s.shallow;
  begins = f (s.marks ++ s.others) s.begins;
  is_fault = s.is_fault;
}

-- what would go on at a fault may be longer
pub longer_fault : (limit : ℕ) (others more : List Mark) (rest : List Symbol) (fault : Fault) → IsFaultAt limit others rest fault → IsFaultAt limit (others ++ more) rest fault
longer_fault limit others more rest (Syntax left) h = h
longer_fault limit [] more rest (TooDeep left) h = absurd h.1
longer_fault limit (m ∷ others) more [] (TooDeep left) h = absurd h.1
longer_fault limit (m ∷ others) more (s ∷ rest) (TooDeep left) h = h
longer_fault limit others more rest NoMemory h = h

-- a part is at fault, and another would stand behind it
pub fault_before : {limit : ℕ} {A : List Mark → Type 0} {symbols : List Symbol} {fault : Fault} (B : List Mark → Type 0) (more : List Mark) → B more → FaultStands limit A symbols fault → FaultStands limit (A · B) symbols fault
fault_before {limit} {fault = fault} B more b s = record {
  marks = s.marks;
  others = s.others ++ more;
  rest = s.rest;
  parts = s.parts;
  shallow = s.shallow;
  begins = record { front = s.marks ++ s.others; back = more; parts = sym (append_assoc s.marks s.others more); first = s.begins; second = b };
  is_fault = longer_fault limit s.others more s.rest fault s.is_fault;
}

-- a part stands, and another behind it is at fault
pub fault_behind : {limit : ℕ} {A B : List Mark → Type 0} {symbols middle : List Symbol} {fault : Fault} → Stands limit A symbols middle → FaultStands limit B middle fault → FaultStands limit (A · B) symbols fault
fault_behind {limit} a b = record {
  marks = a.marks ++ b.marks;
  others = b.others;
  rest = b.rest;
  parts =
      a.parts ∙ ap (λ (r : List Symbol). symbols_of a.marks ++ r) b.parts
      ∙ sym (append_assoc (symbols_of a.marks) (symbols_of b.marks) b.rest)
      ∙ ap (λ (s : List Symbol). s ++ b.rest) (sym (symbols_of-append a.marks b.marks));
  shallow = shallow-append limit a.marks b.marks a.shallow b.shallow;
  begins = record { front = a.marks; back = b.marks ++ b.others; parts = append_assoc a.marks b.marks b.others; first = a.spelled; second = b.begins };
  is_fault = b.is_fault;
}

-- ---- signs, keywords and names

-- a sign
abbrev pub sign_mark : ℕ → Sign → List Mark
sign_mark d s = record { symbol = symbol.Sign 0 s; depth = d } ∷ []

-- a sign that is not there could be
pub behind_fault : (limit d : ℕ) (s : Sign) (symbols : List Symbol) (fault : Fault) → behind s symbols ≡ Err fault → FaultStands limit (sign_token d s) symbols fault
unfolding behind
behind_fault limit d s symbols fault e = elim (chosen (begins_sign s symbols) _ _ (Err fault) e) [
  | inl c ↦ no_fault (drop 1 symbols) fault c.1
  | inr c ↦ unexpected_stands limit (sign_token d s) (sign_mark d s) symbols fault (0, refl) c.1
]

-- a name that can stand where one is missing
abbrev pub blank_name : Name
blank_name = record { at = 0; word = 120 ∷ [] }

abbrev pub name_mark : ℕ → List Mark
name_mark d = record { symbol = symbol.Name blank_name.at blank_name.word; depth = d } ∷ []

-- any name
abbrev pub some_name : ℕ → List Mark → Type 0
some_name d marks = (n : Name) × name d n marks

-- a name that is not there could be
pub name_at_fault : (limit d : ℕ) (symbols : List Symbol) (fault : Fault) → name_at symbols ≡ Err fault → FaultStands limit (some_name d) symbols fault
unfolding name_at
name_at_fault limit d (symbol.Name at word ∷ rest) fault e = no_fault _ fault e
name_at_fault limit d symbols fault e = unexpected_stands limit (some_name d) (name_mark d) symbols fault (blank_name, refl) e

-- ---- types

-- a type that can stand where one is missing
abbrev pub base_mark : ℕ → List Mark
base_mark d = record { symbol = symbol.Keyword 0 keywords.Char; depth = d } ∷ []

-- any type without stars, and none of `const` before it
abbrev pub some_bare_base : ℕ → List Mark → Type 0
some_bare_base d marks = (b : Base) × bare_base d b marks

-- any type without stars
abbrev pub some_base : ℕ → List Mark → Type 0
some_base d marks = (b : Base) × spells_base d b marks

-- any type name
abbrev pub some_type : ℕ → List Mark → Type 0
some_type d marks = (t : TypeName) × spells_type d t marks

-- a type without stars, and none of `const` before it, breaks off where it is not read
pub bare_base_at_fault : (limit d : ℕ) (symbols : List Symbol) (fault : Fault) → d ≤ limit → bare_base_at symbols ≡ Err fault → FaultStands limit (some_bare_base d) symbols fault
unfolding bare_base_at
bare_base_at_fault limit d [] fault h e = unexpected_stands limit (some_bare_base d) (base_mark d) [] fault (base.Char, (0, refl)) e
bare_base_at_fault limit d (symbol.Keyword at keywords.Char ∷ rest) fault h e = no_fault _ fault e
bare_base_at_fault limit d (symbol.Keyword at keywords.Int ∷ rest) fault h e = no_fault _ fault e
bare_base_at_fault limit d (symbol.Keyword at keywords.Long ∷ rest) fault h e = no_fault _ fault e
bare_base_at_fault limit d (symbol.Keyword at keywords.Mutex ∷ rest) fault h e = no_fault _ fault e
bare_base_at_fault limit d (symbol.Keyword at keywords.Struct ∷ rest) fault h e = elim (bind_err (name_at rest) _ fault e) [
  | inl w ↦ fault_as (some_bare_base d)
      (λ m j. (base.Struct j.second.0, record { front = j.front; back = j.back; parts = j.parts; first = j.first; second = j.second.1 }))
      (fault_behind (keyword_stands limit d at keywords.Struct rest h) (name_at_fault limit d rest fault w))
  | inr w ↦ no_fault _ fault w.2
]
bare_base_at_fault limit d (other ∷ rest) fault h e = unexpected_stands limit (some_bare_base d) (base_mark d) (other ∷ rest) fault (base.Char, (0, refl)) e

-- a type without stars breaks off where it is not read
pub base_at_fault : (limit d : ℕ) (symbols : List Symbol) (fault : Fault) → d ≤ limit → base_at symbols ≡ Err fault → FaultStands limit (some_base d) symbols fault
unfolding behind_const
base_at_fault limit d (symbol.Keyword at keywords.Const ∷ rest) fault h e = fault_as (some_base d)
    (λ m j. (j.second.0, record { front = j.front; back = j.back; parts = j.parts; first = inr j.first; second = j.second.1 }))
    (fault_behind (keyword_stands limit d at keywords.Const rest h) (bare_base_at_fault limit d rest fault h e))
base_at_fault limit d symbols fault h e = fault_as (some_base d)
    (λ m s. (s.0, record { front = []; back = m; parts = refl; first = inl refl; second = s.1 }))
    (bare_base_at_fault limit d symbols fault h e)

-- a type name breaks off where it is not read
pub type_at_fault : (limit d : ℕ) (symbols : List Symbol) (fault : Fault) → d ≤ limit → type_at symbols ≡ Err fault → FaultStands limit (some_type d) symbols fault
type_at_fault limit d symbols fault h e = elim (bind_err (base_at symbols) _ fault e) [
  | inl w ↦ fault_as (some_type d)
      (λ m j. (record { base = j.first.0; stars = 0 }, record { front = j.front; back = j.back; parts = j.parts; first = j.first.1; second = j.second }))
      (fault_before nothing [] refl (base_at_fault limit d symbols fault h w))
  | inr w ↦ no_fault _ fault w.2
]

-- a type name that can stand where one is missing
pub is_blank_type : (d : ℕ) → some_type d (base_mark d)
is_blank_type d = (
  record { base = base.Char; stars = 0 },
  record {
    front = base_mark d;
    back = [];
    parts = refl;
    first = record { front = []; back = base_mark d; parts = refl; first = inl refl; second = (0, refl) };
    second = refl;
  },
)

-- a type name in parentheses breaks off where it is not read
pub between_at_fault : (limit d : ℕ) (symbols : List Symbol) (fault : Fault) → d ≤ limit → between_at symbols ≡ Err fault → FaultStands limit (between d (some_type d)) symbols fault
between_at_fault limit d symbols fault h e = elim (bind_err (behind sign.OpenParenthesis symbols) _ fault e) [
  | inl w ↦ fault_before (some_type d · sign_token d sign.CloseParenthesis) (base_mark d ++ sign_mark d sign.CloseParenthesis)
      (record { front = base_mark d; back = sign_mark d sign.CloseParenthesis; parts = refl; first = is_blank_type d; second = (0, refl) })
      (behind_fault limit d sign.OpenParenthesis symbols fault w)
  | inr o ↦ fault_behind (behind_stands limit d sign.OpenParenthesis symbols o.0 h o.1) (elim (bind_err (type_at o.0) _ fault o.2) [
    | inl w ↦ fault_before (sign_token d sign.CloseParenthesis) (sign_mark d sign.CloseParenthesis) (0, refl) (type_at_fault limit d o.0 fault h w)
    | inr t ↦ fault_behind (stands_as (some_type d) (λ m s. (t.0.0, s)) (type_at_stands limit d o.0 t.0 h t.1)) (elim (bind_err (behind sign.CloseParenthesis t.0.1) _ fault t.2) [
      | inl w ↦ behind_fault limit d sign.CloseParenthesis t.0.1 fault w
      | inr w ↦ no_fault _ fault w.2
    ])
  ])
]

-- ---- lists

-- any items with commas between them, one at least
abbrev pub some_listed : {A : Type 0} → ℕ → (A → List Mark → Type 0) → List Mark → Type 0
some_listed {A} d item marks = (x : A) × (others : List A) × listed d item (x ∷ others) marks

-- a list breaks off where an item does
pub listed_at_fault : {A : Type 0} (limit d : ℕ) (spells_item : A → List Mark → Type 0) (item : List Symbol → Outcome A) → d ≤ limit
    → ((symbols : List Symbol) (x : A × List Symbol) → item symbols ≡ Ok x → Stands limit (spells_item x.0) symbols x.1)
    → ((symbols : List Symbol) (fault : Fault) → item symbols ≡ Err fault → FaultStands limit (λ marks. (x : A) × spells_item x marks) symbols fault)
    → (x : A) (marks : List Mark) → spells_item x marks
    → (count : ℕ) (done : List A) (symbols : List Symbol) (fault : Fault) → listed_at item count done symbols ≡ Err fault → FaultStands limit (some_listed d spells_item) symbols fault
listed_at_fault limit d spells_item item h stands faults blank marks is zero done symbols fault e = unexpected_stands limit (some_listed d spells_item) marks symbols fault (blank, [], is) e
listed_at_fault limit d spells_item item h stands faults blank marks is (suc count) done symbols fault e = elim (bind_err (item symbols) _ fault e) [
  | inl w ↦ fault_as (some_listed d spells_item) (λ m s. (s.0, [], s.1)) (faults symbols fault w)
  | inr s ↦ elim (chosen (begins_sign sign.Comma s.0.1) _ _ (Err fault) s.2) [
    | inl c ↦ fault_as (some_listed d spells_item)
        (λ m j. (
          s.0.0,
          j.second.second.0 ∷ j.second.second.1,
          record {
            front = j.front;
            back = j.back;
            parts = j.parts;
            first = j.first;
            second = record { front = j.second.front; back = j.second.back; parts = j.second.parts; first = j.second.first; second = j.second.second.2 };
          },
        ))
        (fault_behind (stands symbols s.0 s.1) (fault_behind (begins_sign_stands limit d sign.Comma s.0.1 h c.0)
        (listed_at_fault limit d spells_item item h stands faults blank marks is count (done ++ s.0.0 ∷ []) (drop 1 s.0.1) fault c.1)))
    | inr c ↦ no_fault _ fault c.1
  ]
]
