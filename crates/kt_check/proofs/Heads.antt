-- The first declaration of each function, looked up by its name.
use Rattle.std.proofs.Common.{if◌then◌else◌, ◌≡◌, ◌==◌, ℕ, Bool, true, false, not, ◌&&◌, ◌||◌, List, [], ◌∷◌, ◌++◌, map, Option, None, Some, Ok, is_some, refl, sym, ap, ◌∙◌, true≢false}
use Rattle.std.specs.List.{list_any}
use Rattle.std.specs.Str.{bytes_eq}
use Rattle.std.proofs.lemmas.Bool.Decides.{Decides-eqb}
use Rattle.std.proofs.lemmas.List.{map-append}
use Rattle.kt_syntax.specs.Tree.{Routine, routine_of}
use Rattle.kt_names.specs.declared.ctype.CType.{CType}
use Rattle.kt_check.specs.declared.sofar.Head.{Head}
use Rattle.kt_names.proofs.Inserted.{same, flip, any-append}
use Rattle.kt_names.proofs.Roots.{same-root}
use Rattle.kt_names.specs.Types.{same_root, same_ctype}
use Rattle.kt_names.specs.Tables.{result_type, parameter_types}
use Rattle.kt_names.specs.Statements.{contains}
use Rattle.kt_names.specs.Functions.{same_types, same_result, same_function, is_defined, is_other_type, agrees}
use Rattle.kt_names.specs.declared.fault.CheckFault.TheVariants.{Twice, BadType}
use Rattle.kt_names.specs.Checked.{Checked, fault, holds}
use Rattle.kt_check.specs.Stages.{is_head_defined, is_other_head, first_routine}

-- ---- types

both : (a b : Bool) → (a && b) ≡ true → (a ≡ true) × (b ≡ true)
both true b e = (refl, e)
both false b e = absurd (true≢false (sym e))

same-ctype : (a b : CType) → same_ctype a b ≡ true → a ≡ b
same-ctype a b e =
    let (roots, stars) = both (same_root a.root b.root) (a.stars == b.stars) e in
    λ i. record { root = same-root a.root b.root roots i; stars = (Decides-eqb a.stars b.stars).0 stars i }

same-types : (a b : List CType) → same_types a b ≡ true → a ≡ b
same-types [] [] e = refl
same-types [] (y ∷ ys) e = absurd (true≢false (sym e))
same-types (x ∷ xs) [] e = absurd (true≢false (sym e))
same-types (x ∷ xs) (y ∷ ys) e =
    let (first, rest) = both (same_ctype x y) (same_types xs ys) e in
    λ i. same-ctype x y first i ∷ same-types xs ys rest i

same-result : (a b : Option CType) → same_result a b ≡ true → a ≡ b
same-result None None e = refl
same-result None (Some y) e = absurd (true≢false (sym e))
same-result (Some x) None e = absurd (true≢false (sym e))
same-result (Some x) (Some y) e = ap Some (same-ctype x y e)

same-as : (names : List (List ℕ)) (a b c : Routine) → same_function names a b ≡ true → same_function names a c ≡ same_function names b c
same-as names a b c e =
    let (results, parameters) = both (same_result (result_type names a) (result_type names b)) (same_types (parameter_types names a) (parameter_types names b)) e in
    λ i. same_result (same-result (result_type names a) (result_type names b) results i) (result_type names c) && same_types (same-types (parameter_types names a) (parameter_types names b) parameters i) (parameter_types names c)

-- ---- a declaration more

or-some : {H : Type 0} (x b : Bool) (l : Option H) (h : H) → x ≡ is_some l → (x || (b || false)) ≡ is_some (if b then Some h else l)
or-some true true l h e = refl
or-some true false l h e = e
or-some false true l h e = refl
or-some false false l h e = e

module _ (names : List (List ℕ)) (rs : List Routine) (before now : List ℕ → Option Head) (r : Routine) (h : Head) (now-is : (n : List ℕ) → now n ≡ (if bytes_eq n r.name.word then Some h else before n)) where
  pub declared-more : ((n : List ℕ) → contains (map (λ q. q.name.word) rs) n ≡ is_some (before n)) → (n : List ℕ) → contains (map (λ q. q.name.word) (rs ++ r ∷ [])) n ≡ is_some (now n)
  declared-more known n =
      ap (λ (ns : List (List ℕ)). contains ns n) (map-append (λ (q : Routine). q.name.word) rs (r ∷ [])) ∙ any-append (λ m. bytes_eq m n) (map (λ q. q.name.word) rs) r.name.word
      ∙ ap (λ b. contains (map (λ q. q.name.word) rs) n || (b || false)) (flip r.name.word n) ∙ or-some (contains (map (λ q. q.name.word) rs) n) (bytes_eq n r.name.word) (before n) h (known n) ∙ ap is_some (sym (now-is n))

  or-defined : (x d b : Bool) (l : Option Head) → x ≡ is_head_defined l → (b ≡ true → h.defined ≡ (is_head_defined l || d)) → (x || ((d && b) || false)) ≡ is_head_defined (if b then Some h else l)
  or-defined x true true l e w = rw (e, w refl) refl
  or-defined x false true l e w = rw (e, w refl) refl
  or-defined true true false l e w = e
  or-defined true false false l e w = e
  or-defined false true false l e w = e
  or-defined false false false l e w = e

  pub defined-more : ((n : List ℕ) → is_defined rs n ≡ is_head_defined (before n)) → h.defined ≡ (is_head_defined (before r.name.word) || is_some r.body) → (n : List ℕ) → is_defined (rs ++ r ∷ []) n ≡ is_head_defined (now n)
  defined-more known w n =
      any-append (λ q. is_some q.body && bytes_eq q.name.word n) rs r ∙ ap (λ b. is_defined rs n || ((is_some r.body && b) || false)) (flip r.name.word n)
      ∙ or-defined (is_defined rs n) (is_some r.body) (bytes_eq n r.name.word) (before n) (known n) (λ b. w ∙ ap (λ m. is_head_defined (before m) || is_some r.body) (sym (same n r.name.word b)))
      ∙ ap is_head_defined (sym (now-is n))

  or-same : (s : Bool) → (not s || (not s || false)) ≡ not s
  or-same true = refl
  or-same false = refl

  or-false : (s : Bool) → (s || false) ≡ s
  or-false true = refl
  or-false false = refl

  other-more : (q : Routine) (x : Bool) (l : Option Head) → x ≡ is_other_head names q l → is_other_head names r l ≡ false → routine_of h.first.now ≡ first_routine l r
      → (x || (not (same_function names r q) || false)) ≡ is_other_head names q (Some h)
  other-more q x None e a w =
      ap (λ b. b || (not (same_function names r q) || false)) e ∙ or-false (not (same_function names r q)) ∙ ap (λ t. not (same_function names t q)) (sym w)
  other-more q x (Some g) e a w =
      let agree : same_function names (routine_of g.first.now) r ≡ true = not-false _ a in
      (λ i. e i || (not (sym (same-as names (routine_of g.first.now) r q agree) i) || false)) ∙ or-same (same_function names (routine_of g.first.now) q)
      ∙ ap (λ t. not (same_function names t q)) (sym w)
    where
      not-false : (b : Bool) → not b ≡ false → b ≡ true
      not-false true f = refl
      not-false false f = absurd (true≢false f)

  pub types-more : ((q : Routine) → list_any (is_other_type names q) rs ≡ is_other_head names q (before q.name.word)) → list_any (is_other_type names r) rs ≡ false → routine_of h.first.now ≡ first_routine (before r.name.word) r
      → (q : Routine) → list_any (is_other_type names q) (rs ++ r ∷ []) ≡ is_other_head names q (now q.name.word)
  types-more known agree w q = any-append (is_other_type names q) rs r ∙ by (bytes_eq q.name.word r.name.word) refl ∙ ap (is_other_head names q) (sym (now-is q.name.word))
    where
      by : (b : Bool) → bytes_eq q.name.word r.name.word ≡ b → (list_any (is_other_type names q) rs || (is_other_type names q r || false)) ≡ is_other_head names q (if bytes_eq q.name.word r.name.word then Some h else before q.name.word)
      by false e = rw (flip r.name.word q.name.word, e) (or-false (list_any (is_other_type names q) rs) ∙ known q)
      by true e =
          rw (flip r.name.word q.name.word, e)
          (other-more q (list_any (is_other_type names q) rs) (before r.name.word) (known q ∙ ap (λ m. is_other_head names q (before m)) (same q.name.word r.name.word e)) (sym (known r) ∙ agree) w)

-- a function that agrees with those before is of no other type
pub agree-types : (names : List (List ℕ)) (r : Routine) (rs : List Routine) → agrees names r rs ≡ Ok tt → list_any (is_other_type names r) rs ≡ false
agree-types names r rs e = by (is_some r.body && is_defined rs r.name.word) (list_any (is_other_type names r) rs) refl refl
  where
    by : (b o : Bool) → (is_some r.body && is_defined rs r.name.word) ≡ b → list_any (is_other_type names r) rs ≡ o → list_any (is_other_type names r) rs ≡ false
    by true o i j =
        let no : ◌≡◌ {A = Checked (Unit {0})} (fault (Twice r.name.at)) (Ok tt) =
        sym (λ k. if i k then fault (Twice r.name.at) else holds (not (list_any (is_other_type names r) rs)) (BadType r.name.at)) ∙ e in
        absurd cc
    by false true i j =
        let no : ◌≡◌ {A = Checked (Unit {0})} (fault (BadType r.name.at)) (Ok tt) = sym (λ k. if i k then fault (Twice r.name.at) else holds (not (j k)) (BadType r.name.at)) ∙ e in
        absurd cc
    by false false i j = j
