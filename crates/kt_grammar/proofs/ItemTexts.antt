-- Texts that are items one after the other: what holds of each item holds of the text.
use Rattle.std.proofs.Common.{◌≡◌, ℕ, ◌+◌, ◌≤◌, true, false, List, [], ◌∷◌, ◌++◌, length, Ok, Err, refl, sym, ap, subst, ◌∙◌, arith}
use Rattle.std.proofs.lemmas.List.{append-nil}
use Rattle.kt_grammar.specs.declared.fault.Fault.{Fault}
use Rattle.kt_grammar.specs.declared.symbol.Symbol.{Symbol}
use Rattle.kt_grammar.specs.Marks.{Mark, Language, symbols_of}
use Rattle.kt_grammar.specs.Cursor.{Outcome, until_at}
use Rattle.kt_grammar.specs.Cut.{cut}
use Rattle.kt_grammar.specs.Laws.{Stands, FaultStands}
use Rattle.kt_grammar.specs.CutLaws.{symbols_of-rest, cut-shallow, deepest, deepest-shallow}
use Rattle.kt_grammar.specs.StandsLaws.{same_value}
use Rattle.kt_grammar.specs.Lists.{each, any, is_end}
use Rattle.kt_grammar.specs.Texts.{IsSpelled, IsText, OneTree}
use Rattle.kt_grammar.specs.TextLaws.{IsReadBack, IsRead}
use Rattle.kt_grammar.proofs.ListsBack.{IsTurn, each-back}
use Rattle.kt_grammar.proofs.ListStands.{ReadStands, not_true, until_at_stands}
use Rattle.kt_grammar.proofs.FaultSteps.{ReadFaults, until_at_fault}

-- as many symbols as tokens, or more with a rest
pub length-within : (marks : List Mark) (rest : List Symbol) → length marks ≤ length (symbols_of marks ++ rest)
length-within marks rest = let e = symbols_of-rest marks rest in omega arith

-- where a token stands is no end
pub some-end : (marks : List Mark) (rest : List Symbol) → 1 ≤ length marks → is_end (symbols_of marks ++ rest) ≡ false
some-end [] rest h = absurd (omega arith)
some-end (m ∷ marks) rest h = refl

-- nothing is left where the end is
pub at_end : (symbols : List Symbol) → is_end symbols ≡ true → symbols ≡ []
at_end [] e = refl
at_end (first ∷ rest) e = not_true e

-- ---- reading back

pub each-read-back : {A : Type 0} (item : A → List Mark → Type 0) (read : List Symbol → Outcome A) (n : ℕ) → IsTurn item read is_end n → (xs : List A) (marks : List Mark) → each item xs marks
    → until_at is_end read (length (symbols_of marks)) [] (symbols_of marks) ≡ cut n marks [] (Ok (xs, []))
each-read-back item read n turn xs marks is =
    ap (λ s. until_at is_end read (length s) [] s) (sym (append-nil (symbols_of marks)))
    ∙ each-back item read is_end n turn xs (length (symbols_of marks ++ [])) [] marks [] is refl (length-within marks [])

module _ {X : Type 0} (language : X → List Mark → Type 0) (read : ℕ → List Symbol → Outcome X) where
  -- a text that is spelled within a limit is read
  pub text-read : IsReadBack language read → IsRead language read
  text-read back n x marks is shallow = back n x marks is ∙ cut-shallow n marks [] (Ok (x, [])) shallow

  -- a text that is one is read within some limit
  text-within : IsReadBack language read → (limit : ℕ) (symbols : List Symbol) (x : X) (f : IsText language symbols x) → deepest f.marks ≤ limit → read limit symbols ≡ Ok (x, [])
  text-within back limit symbols x f within = ap (read limit) (sym f.parts) ∙ text-read back limit x f.marks f.spelled (deepest-shallow limit f.marks within)

  pub one-tree : IsReadBack language read → OneTree language
  one-tree back symbols x y f g =
      let n : ℕ = deepest f.marks + deepest g.marks in
      let e = same_value (x, []) (y, []) (sym (text-within back n symbols x f (omega arith)) ∙ text-within back n symbols y g (omega arith)) in
      ap (λ r. r.0) e

-- ---- what is read stands there, and what is not breaks off

-- what stands before nothing is the whole
whole_text : {A : Type 0} (item : A → Language) (n : ℕ) (xs : List A) (symbols rest : List Symbol) → Stands n (each item xs) symbols rest → rest ≡ [] → IsSpelled (each item) n symbols xs
whole_text item n xs symbols rest s ended = record {
  marks = s.marks;
  parts = sym (s.parts ∙ ap (λ (r : List Symbol). symbols_of s.marks ++ r) ended ∙ append-nil (symbols_of s.marks));
  spelled = s.spelled;
  shallow = s.shallow;
}

-- items that are read up to the end are a text
pub each_stands : {A : Type 0} (item : A → Language) (read : List Symbol → Outcome A) (n : ℕ) → ReadStands n item read → (symbols : List Symbol) (xs : List A) (rest : List Symbol)
    → until_at is_end read (length symbols) [] symbols ≡ Ok (xs, rest) → (rest ≡ []) × IsSpelled (each item) n symbols xs
each_stands {A} item read n stands symbols xs rest e =
    let all = until_at_stands n is_end item read stands (length symbols) [] symbols (xs, rest) e in
    let ended = at_end rest all.stopped in
    (ended, whole_text item n xs symbols rest (subst (λ (ys : List A). Stands n (each item ys) symbols rest) (sym all.is) all.stands) ended)

pub each_fault : {A : Type 0} (item : A → Language) (read : List Symbol → Outcome A) (n : ℕ) → ReadStands n item read → ReadFaults n (any item) read → (symbols : List Symbol) (fault : Fault)
    → until_at is_end read (length symbols) [] symbols ≡ Err fault → FaultStands n (any (each item)) symbols fault
each_fault item read n stands faults symbols fault e = until_at_fault n is_end item read stands faults (length symbols) [] symbols fault e
