-- Lines of more than three words say no turns; forms and lines that end too early.
use Rattle.std.proofs.Common.{◌≡◌, ℕ, ◌+◌, ◌<◌, ◌≤◌, Bool, true, false, List, [], ◌∷◌, length, get_or, drop, Bor, Option, Some, None, refl, ap, sym, ◌∙◌, ◌&&◌}
use Rattle.std.specs.Prelude.{is_some, not}
use Rattle.std.proofs.lemmas.Bool.{false≢true}
use Rattle.std.proofs.lemmas.List.{drop_more, drop_all}
use Rattle.kt_journal.specs.declared.form.Part.{Part}
use Rattle.kt_journal.specs.Grammar.{Words, is_of}
use Rattle.kt_journal.specs.Reading.{split, words_in, stretch_in, form_of, test_of}
use Rattle.kt_journal.proofs.Splitting.{IsSomeWords, split-some}

some-more : (a b c : List ℕ) (words : Words) → IsSomeWords words → stretch_in (a ∷ (b ∷ (c ∷ words))) ≡ None
some-more a b c [] some = absurd (false≢true (sym some))
some-more a b c (word ∷ words) some = refl

pub four_none : (a b c rest : List ℕ) → stretch_in (a ∷ (b ∷ (c ∷ split rest))) ≡ None
four_none a b c rest = some-more a b c (split rest) (split-some rest)

-- a form that goes on where the line has ended
pub form_short : (form : List Part) (i : ℕ) (rest : Option (Bor (List ℕ))) (d : Part) → i < length form → rest ≡ None → is_of (form_of (drop i form)) (words_in rest) ≡ false
form_short form i rest d h ended =
    ap (λ r. is_of (form_of (drop i form)) (words_in r)) ended ∙ ap (λ l. is_of (form_of l) []) (drop_more form i d h)

nothing-left : (rest : Option (Bor (List ℕ))) → is_of [] (words_in rest) ≡ not (is_some rest)
nothing-left None = refl
nothing-left (Some rest) = split-some rest.now

-- the form has ended
pub form_end : (form : List Part) (i : ℕ) (rest : Option (Bor (List ℕ))) → length form ≤ i → is_of (form_of (drop i form)) (words_in rest) ≡ not (is_some rest)
form_end form i rest h = ap (λ l. is_of (form_of l) (words_in rest)) (drop_all i form h) ∙ nothing-left rest

-- one word and one part more
pub form_step : (form : List Part) (i : ℕ) (d : Part) (left word : List ℕ) (words : Words) (b : Bool) → i < length form → split left ≡ word ∷ words → test_of (get_or form i d) word ≡ b
    → is_of (form_of (drop i form)) (split left) ≡ (b && is_of (form_of (drop (i + 1) form)) words)
form_step form i d left word words b h cut test =
    ap (is_of (form_of (drop i form))) cut
    ∙ ap (λ l. is_of (form_of l) (word ∷ words)) (drop_more form i d h)
    ∙ ap (λ t. t && is_of (form_of (drop (i + 1) form)) words) test

-- a line of four words or more says no turns
pub stretch-four : (line a b c left more last : List ℕ) (first second third : Option (Bor (List ℕ))) → split line ≡ a ∷ words_in first → split left ≡ b ∷ words_in second
    → split more ≡ c ∷ words_in third → words_in first ≡ split left → words_in second ≡ split more → words_in third ≡ split last → None ≡ stretch_in (split line)
stretch-four line a b c left more last first second third cut_line cut_left cut_more one two three =
    let words : split line ≡ a ∷ (b ∷ (c ∷ split last)) =
    cut_line ∙ ap (λ w. a ∷ w) (one ∙ cut_left ∙ ap (λ w. b ∷ w) (two ∙ cut_more ∙ ap (λ w. c ∷ w) three))
    in
    sym (ap stretch_in words ∙ four_none a b c last)

pub other-way : (a b : Bool) → a ≡ not b → b ≡ not a
other-way true false is = refl
other-way false true is = refl
other-way true true is = is
other-way false false is = is
