-- A line from its second word on.
use Rattle.std.proofs.Common.{Bor, ◌-◌, ◌≤◌, length, get_or, take, drop, arith, ◌≡◌, ℕ, List, [], ◌∷◌, ◌++◌, refl, ap, sym, ◌∙◌, append_assoc, ◌<◌, map, append-nil}
use Rattle.std.proofs.Math.Seq.{take-length}
use Rattle.std.proofs.lemmas.List.{drop_all}
use Rattle.std.specs.List.{join_with_byte}
use Rattle.kt_text.specs.Lines.{space, newline, line_of}

-- each word behind a space
abbrev pub spaced : List (List ℕ) → List ℕ
spaced [] = []
spaced (word ∷ words) = space ∷ (word ++ spaced words)

joined-spaced : (word : List ℕ) (words : List (List ℕ)) → join_with_byte space (word ∷ words) ≡ word ++ spaced words
joined-spaced word [] = sym (append-nil word)
joined-spaced word (next ∷ words) = ap (λ rest. word ++ (space ∷ rest)) (joined-spaced next words)

pub line-spaced : (word : List ℕ) (words : List (List ℕ)) → line_of (word ∷ words) ≡ (word ++ spaced words) ++ newline ∷ []
unfolding line_of
line-spaced word words = ap (λ line. line ++ newline ∷ []) (joined-spaced word words)

-- what slices contain
abbrev pub contents : List (Bor (List ℕ)) → List (List ℕ)
contents words = map (λ word. word.now) words

pub line-empty : (words : List (Bor (List ℕ))) → length words < 1 → line_of (contents words) ≡ newline ∷ []
unfolding line_of
line-empty [] h = refl
line-empty (word ∷ words) h = absurd (omega arith)

-- the words behind the first one
abbrev pub later : List (Bor (List ℕ)) → List (Bor (List ℕ))
later words = take (length words - 1) (drop 1 words)

line-words : (words : List (Bor (List ℕ))) (d : Bor (List ℕ)) → 1 ≤ length words → line_of (contents words) ≡ ((get_or words 0 d).now ++ spaced (contents (later words))) ++ newline ∷ []
line-words [] d h = absurd (omega arith)
line-words (word ∷ words) d h =
    let rest : length (word ∷ words) - 1 ≡ length words = omega arith in
    line-spaced word.now (contents words)
    ∙ ap (λ behind. (word.now ++ spaced (contents behind)) ++ newline ∷ []) (sym (ap (λ n. take n words) rest ∙ take-length words))

regrouped : (a b c d : List ℕ) → ((a ++ b) ++ c) ++ d ≡ a ++ ((b ++ c) ++ d)
regrouped a b c d = simp append_assoc

-- the first word was appended, then each later one behind a space, then the newline
pub line-appended : (words : List (Bor (List ℕ))) (d : Bor (List ℕ)) (i : ℕ) (old first out new : List ℕ) → 1 ≤ length words → length (later words) ≤ i
    → first ≡ old ++ (get_or words 0 d).now → out ++ spaced (contents (drop i (later words))) ≡ first ++ spaced (contents (later words))
    → new ≡ out ++ newline ∷ [] → new ≡ old ++ line_of (contents words)
line-appended words d i old first out new some far begun ended closed =
    let whole : out ≡ (old ++ (get_or words 0 d).now) ++ spaced (contents (later words)) =
    sym (append-nil out) ∙ ap (λ rest. out ++ spaced (contents rest)) (sym (drop_all i (later words) far)) ∙ ended
    ∙ ap (λ front. front ++ spaced (contents (later words))) begun
    in
    closed ∙ ap (λ line. line ++ newline ∷ []) whole
    ∙ regrouped old (get_or words 0 d).now (spaced (contents (later words))) (newline ∷ [])
    ∙ ap (λ line. old ++ line) (sym (line-words words d some))
