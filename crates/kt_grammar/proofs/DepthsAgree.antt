-- The deepest token so far is as deep in each file that begins with the same tokens.
use Rattle.std.specs.Prelude.{◌≡◌, ℕ, ◌<◌, List, [], ◌∷◌, ◌++◌, Ok, Err, length, refl}
use Rattle.std.proofs.Common.{inl, inr, sym, ap, ◌∙◌, arith, append_assoc, length-append}
use Rattle.std.proofs.lemmas.Bool.{cases_lt}
use Rattle.kt_grammar.specs.declared.fault.Fault.TheVariants.{TooDeep}
use Rattle.kt_grammar.specs.declared.symbol.Symbol.{Symbol}
use Rattle.kt_grammar.specs.Marks.{Mark, symbols_of, IsShallow}
use Rattle.kt_grammar.specs.Cut.{cut}
use Rattle.kt_grammar.specs.CutLaws.{symbols_of-append, symbols_of-length, cut-append, cut-deep, cut-shallow}
use Rattle.kt_grammar.specs.Cursor.{Outcome}
use Rattle.kt_grammar.specs.Texts.{BeginsText, IsDeepAt, DepthsAgree}
use Rattle.kt_grammar.specs.TextLaws.{IsReadBack, DepthIsThere}
use Rattle.kt_grammar.proofs.OneAnswer.{shallow-past}

-- no token is too deep, or there is a first one that is
data Deepness (limit : ℕ) (marks : List Mark) : Type 0 where
  Within : IsShallow limit marks → Deepness limit marks
  Beyond : (front : List Mark) (m : Mark) (back : List Mark) → marks ≡ front ++ m ∷ back → IsShallow limit front → limit < m.depth → Deepness limit marks

deepness : (limit : ℕ) (marks : List Mark) → Deepness limit marks
deepness limit [] = Within tt
deepness limit (m ∷ marks) = elim (cases_lt limit m.depth) [
  | inl deep ↦ Beyond [] m marks refl tt deep
  | inr shallow ↦ elim (deepness limit marks) [
    | Within h ↦ Within (shallow, h)
    | Beyond front k back whole h deep ↦ Beyond (m ∷ front) k back (ap (λ l. m ∷ l) whole) (shallow, h) deep
  ]
]

-- the cut at a first token that is too deep
cut_there : {A : Type 0} (limit : ℕ) (front : List Mark) (m : Mark) (back : List Mark) (x : A) → IsShallow limit front → limit < m.depth
    → cut limit (front ++ m ∷ back) [] (Ok x) ≡ Err (TooDeep (length (symbols_of (m ∷ back) ++ [])))
cut_there limit front m back x shallow deep =
    cut-append limit front (m ∷ back) [] (Ok x)
    ∙ cut-shallow limit front (symbols_of (m ∷ back) ++ []) (cut limit (m ∷ back) [] (Ok x)) shallow
    ∙ cut-deep limit m back [] (Ok x) deep

-- no shallow beginning goes past a token that is too deep
no_deeper_at : {X : Type 0} (language : X → List Mark → Type 0) (limit left : ℕ) (xs ys others : List Mark) (d : IsDeepAt language limit (symbols_of (ys ++ others)) left) → symbols_of xs ≡ symbols_of ys
    → BeginsText language xs → IsShallow limit xs → length others < left → ⊥
no_deeper_at language limit left xs ys others d same f shallow h =
    let parts : d.before ++ d.deep ∷ d.rest ≡ symbols_of xs ++ symbols_of others =
    sym d.parts ∙ symbols_of-append ys others ∙ ap (λ (l : List Symbol). l ++ symbols_of others) (sym same) in
    let of_parts = ap length parts in
    let of_front = length-append d.before (d.deep ∷ d.rest) in
    let of_all = length-append (symbols_of xs) (symbols_of others) in
    let of_others = symbols_of-length others in
    shallow-past language limit d.before d.deep d.rest (symbols_of others) xs parts d.first f shallow (omega (arith, of_parts, of_front, of_all, of_others, d.place, h))

module _ {X : Type 0} (language : X → List Mark → Type 0) (read : ℕ → List Symbol → Outcome X) (back : IsReadBack language read) (depth : DepthIsThere language read) where
  -- a text that begins with a token that is too deep is read up to its first one
  deep_at : (limit : ℕ) (ys : List Mark) (g : BeginsText language ys) (front : List Mark) (m : Mark) (more : List Mark) → ys ≡ front ++ m ∷ more
      → IsShallow limit front → limit < m.depth → IsDeepAt language limit (symbols_of (ys ++ g.others)) (length (symbols_of (m ∷ (more ++ g.others)) ++ []))
  deep_at limit ys g front m more whole before deep =
      let all : ys ++ g.others ≡ front ++ m ∷ (more ++ g.others) = ap (λ l. l ++ g.others) whole ∙ append_assoc front (m ∷ more) g.others in
      depth limit (symbols_of (ys ++ g.others)) (length (symbols_of (m ∷ (more ++ g.others)) ++ []))
      (back limit g.whole (ys ++ g.others) g.spelled ∙ ap (λ l. cut limit l [] (Ok (g.whole, []))) all ∙ cut_there limit front m (more ++ g.others) (g.whole, []) before deep)

  no_deeper : (limit : ℕ) (xs ys : List Mark) → symbols_of xs ≡ symbols_of ys → BeginsText language xs → BeginsText language ys → IsShallow limit xs
      → (front : List Mark) (m : Mark) (more : List Mark) → ys ≡ front ++ m ∷ more → IsShallow limit front → limit < m.depth → ⊥
  no_deeper limit xs ys same f g shallow front m more whole before deep =
      let of_left = length-append (symbols_of (m ∷ (more ++ g.others))) [] in
      let of_marks = symbols_of-length (m ∷ (more ++ g.others)) in
      let of_more = length-append more g.others in
      no_deeper_at language limit (length (symbols_of (m ∷ (more ++ g.others)) ++ [])) xs ys g.others (deep_at limit ys g front m more whole before deep) same f shallow
      (omega (arith, of_left, of_marks, of_more))

  pub depths_agree : DepthsAgree language
  depths_agree limit xs ys same f g shallow = elim (deepness limit ys) as (λ _. IsShallow limit ys) [
    | Within h ↦ h
    | Beyond front m more whole before deep ↦ absurd (no_deeper limit xs ys same f g shallow front m more whole before deep)
  ]
