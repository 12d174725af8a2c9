-- What names mean where locals are in scope.
use Rattle.std.proofs.Common.{zero, suc, ◌≡◌, ℕ, ◌+◌, ◌-◌, ◌≤◌, Bool, true, false, ◌||◌, List, [], ◌∷◌, ◌++◌, length, map, take, drop, slice_get, Option, None, Some, is_some, refl, sym, ap, subst, ◌∙◌, append_assoc, append-nil, length-append, length-take-le, take-append-drop, arith}
use Rattle.std.specs.List.{list_any}
use Rattle.std.specs.Map.{lookup}
use Rattle.std.specs.Str.{bytes_eq}
use Rattle.std.specs.Global.{Vec}
use Rattle.std.proofs.lemmas.List.{length-map, take-map, drop-map, drop-append-le}
use Rattle.kt_types.specs.declared.kinds.FieldDecl.{FieldDecl}
use Rattle.kt_tree.specs.Tree.{LocalRead}
use Rattle.kt_typing.specs.declared.standing.Standing.TheVariants as standing
use Rattle.kt_typing.specs.Environment.{Environment, Meaning, Stands}
use Rattle.kt_operands.specs.declared.meaning.Meaning.{Meaning as MeaningCode}
use Rattle.kt_operands.specs.Views.{meaning_of, meant_by}
use Rattle.kt_program.specs.Scopes.{Visible, Place, local_named, meaning, declared, contains}
use Rattle.kt_statements.specs.declared.mark.Mark.{Mark}
use Rattle.kt_statements.specs.declared.scopes.Local.{Local}
use Rattle.kt_statements.specs.Scopes.{latest_first, visible_of, meaning_in, with, Shows, IsMark, left}
use Rattle.kt_statements.proofs.Meanings.{same, itself}

-- ---- lists, the latest first

pub latest-append : {A : Type 0} (xs ys : List A) → latest_first (xs ++ ys) ≡ latest_first ys ++ latest_first xs
latest-append [] ys = sym (append-nil (latest_first ys))
latest-append (x ∷ xs) ys = rw (latest-append xs ys) (append_assoc (latest_first ys) (latest_first xs) (x ∷ []))

pub latest-push : {A : Type 0} (xs : List A) (x : A) → latest_first (xs ++ x ∷ []) ≡ x ∷ latest_first xs
latest-push xs x = latest-append xs (x ∷ [])

pub length-latest : {A : Type 0} (xs : List A) → length (latest_first xs) ≡ length xs
length-latest [] = refl
length-latest (x ∷ xs) =
    let e = length-latest xs in
    omega (arith, length-append (latest_first xs) (x ∷ []))

front-is : {A : Type 0} (xs ys : List A) → take (length xs) (xs ++ ys) ≡ xs
front-is [] ys = refl
front-is (x ∷ xs) ys = ap (λ zs. x ∷ zs) (front-is xs ys)

behind-is : {A : Type 0} (xs ys : List A) → drop (length xs) (xs ++ ys) ≡ ys
behind-is [] ys = refl
behind-is (x ∷ xs) ys = behind-is xs ys

module _ {A : Type 0} (n : ℕ) (xs : List A) (h : n ≤ length xs) where
  parts : latest_first xs ≡ latest_first (drop n xs) ++ latest_first (take n xs)
  parts = ap (λ (ys : List A). latest_first ys) (sym (take-append-drop n xs)) ∙ latest-append (take n xs) (drop n xs)

  count : length xs - n ≡ length (latest_first (drop n xs))
  count =
      let whole = ap (λ (ys : List A). length ys) parts ∙ length-append (latest_first (drop n xs)) (latest_first (take n xs)) in
      let all = length-latest xs in
      let front = length-latest (take n xs) ∙ length-take-le n xs h in
      omega arith

  pub take-latest : take (length xs - n) (latest_first xs) ≡ latest_first (drop n xs)
  take-latest = ap (λ m. take m (latest_first xs)) count ∙ ap (take (length (latest_first (drop n xs)))) parts ∙ front-is (latest_first (drop n xs)) (latest_first (take n xs))

  pub drop-latest : drop (length xs - n) (latest_first xs) ≡ latest_first (take n xs)
  drop-latest = ap (λ m. drop m (latest_first xs)) count ∙ ap (drop (length (latest_first (drop n xs)))) parts ∙ behind-is (latest_first (drop n xs)) (latest_first (take n xs))

-- ---- meanings

abbrev Means : Type 0
Means = List ℕ → Meaning

with-same : (now : Means) (n q : List ℕ) (m : Meaning) → bytes_eq n q ≡ true → with now n m q ≡ m
with-same now n q m e = rw e refl

with-other : (now : Means) (n q : List ℕ) (m : Meaning) → bytes_eq n q ≡ false → with now n m q ≡ now q
with-other now n q m e = rw e refl

-- what was hidden is put back
pub put-back : (now : Means) (n : List ℕ) (m b : Meaning) → b ≡ now n → with (with now n m) n b ≡ now
put-back now n m b e = λ i q. at q (bytes_eq n q) refl i
  where
    at : (q : List ℕ) (c : Bool) → bytes_eq n q ≡ c → with (with now n m) n b q ≡ now q
    at q true t = with-same (with now n m) n q b t ∙ e ∙ ap now (same n q t)
    at q false t = with-other (with now n m) n q b t ∙ with-other now n q m t

abbrev pub name_of : Local → List ℕ
name_of l = l.name.now

abbrev pub seen : List Local → ℕ → ℕ → Bool → Place
seen xs start next in_loop =
    record { visible = map visible_of (latest_first xs); own = map name_of (latest_first (drop start xs)); next = next; in_loop = in_loop }

pub take-whole : {A : Type 0} (xs : List A) → take (length xs) xs ≡ xs
take-whole [] = refl
take-whole (x ∷ xs) = ap (λ ys. x ∷ ys) (take-whole xs)

take-long : {A : Type 0} (n : ℕ) (xs : List A) → length xs ≤ n → take n xs ≡ xs
take-long zero [] h = refl
take-long (suc n) [] h = refl
take-long zero (x ∷ xs) h = absurd (omega arith)
take-long (suc n) (x ∷ xs) h = ap (λ ys. x ∷ ys) (take-long n xs (omega arith))

names-map : (xs : List Local) → map (λ (v : Visible). v.name) (map visible_of xs) ≡ map name_of xs
names-map [] = refl
names-map (x ∷ xs) = ap (λ ys. x.name.now ∷ ys) (names-map xs)

-- the names of the innermost scope
own-names : (xs : List Local) (start : ℕ) → start ≤ length xs → map name_of (latest_first (drop start xs)) ≡ map (λ (v : Visible). v.name) (take (length xs - start) (map visible_of (latest_first xs)))
own-names xs start h =
    ap (map name_of) (sym (take-latest start xs h)) ∙ sym (names-map (take (length xs - start) (latest_first xs)))
    ∙ ap (map (λ (v : Visible). v.name)) (sym (take-map visible_of (length xs - start) (latest_first xs)))

module _ (types : List ℕ) (outer : Means) where
  -- a local more
  pub shows-more : (now new : Means) (l : Local) (rest : List Local) (t : ℕ) → Shows types outer now rest → slice_get types l.number ≡ Some t
      → meaning_of l.hides ≡ now l.name.now → new ≡ with now l.name.now (Stands (standing.Local l.number) t (LocalRead l.number))
      → Shows types outer new (l ∷ rest)
  shows-more now new l rest t s at hides is =
      let m = Stands (standing.Local l.number) t (LocalRead l.number) in (
        (t, at, ap (λ (f : Means). f l.name.now) is ∙ with-same now l.name.now l.name.now m (itself l.name.now)),
        subst (λ (f : Means). Shows types outer f rest) (sym (ap (λ (f : Means). with f l.name.now (meaning_of l.hides)) is ∙ put-back now l.name.now m (meaning_of l.hides) hides)) s,
      )

  -- a local less
  pub shows-less : (now new : Means) (l : Local) (rest : List Local) → Shows types outer now (l ∷ rest) → new ≡ with now l.name.now (meaning_of l.hides) → Shows types outer new rest
  shows-less now new l rest s is = subst (λ (f : Means). Shows types outer f rest) (sym is) s.1

-- names mean the locals in scope, or what stands outside
pub shows-means : (env : Environment) (now : Means) (ls : List Local) → Shows env.scope.locals env.name now ls → (q : List ℕ)
    → now q ≡ meaning env (local_named (map visible_of ls) q) (env.name q)
shows-means env now [] s q = ap (λ (f : Means). f q) s
shows-means env now (l ∷ rest) ((t, at, here), later) q = by (bytes_eq l.name.now q) refl (shows-means env (with now l.name.now (meaning_of l.hides)) rest later q)
  where
    by : (c : Bool) → bytes_eq l.name.now q ≡ c
        → with now l.name.now (meaning_of l.hides) q ≡ meaning env (local_named (map visible_of rest) q) (env.name q)
        → now q ≡ meaning env (local_named (map visible_of (l ∷ rest)) q) (env.name q)
    by true e behind = ap now (sym (same l.name.now q e)) ∙ here ∙ rw (e, at) refl
    by false e behind = sym (with-other now l.name.now q (meaning_of l.hides) e) ∙ behind ∙ rw e refl

-- the map has the name of a local in scope
pub has-name : (es : List (Vec ℕ × MeaningCode)) (types : List ℕ) (outer : Means) (l : Local) (rest : List Local) → Shows types outer (meaning_in es) (l ∷ rest)
    → is_some (lookup (λ k. bytes_eq l.name.now k.items) es) ≡ true
has-name es types outer l rest s = by (lookup (λ k. bytes_eq l.name.now k.items) es) s.0.2
  where
    by : (o : Option MeaningCode) → meant_by o ≡ Stands (standing.Local l.number) s.0.0 (LocalRead l.number) → is_some o ≡ true
    by None e = absurd cc
    by (Some m) e = refl

-- ---- the scopes of a function

pub length-visible : (xs : List Local) → length (map visible_of (latest_first xs)) ≡ length xs
length-visible xs = length-map (latest_first xs) visible_of ∙ length-latest xs

-- the last is the first of them
pub last-shown : (types : List ℕ) (outer now : Means) (xs ys : List Local) (l : Local) → xs ≡ ys ++ l ∷ [] → Shows types outer now (latest_first xs) → Shows types outer now (l ∷ latest_first ys)
last-shown types outer now xs ys l e s = subst (λ (ls : List Local). Shows types outer now ls) (ap (λ (ls : List Local). latest_first ls) e ∙ latest-push ys l) s

pub one-shown : (types : List ℕ) (outer now : Means) (xs ys : List Local) (l : Local) → xs ≡ ys ++ l ∷ [] → Shows types outer now (l ∷ latest_first ys) → Shows types outer now (latest_first xs)
one-shown types outer now xs ys l e s = subst (λ (ls : List Local). Shows types outer now ls) (sym (ap (λ (ls : List Local). latest_first ls) e ∙ latest-push ys l)) s

-- behind a declarator
pub declared-is : (xs ys : List Local) (l : Local) (start next : ℕ) (in_loop : Bool) → start ≤ length xs → ys ≡ xs ++ l ∷ [] → l.number ≡ next
    → seen ys start (next + 1) in_loop ≡ declared (seen xs start next in_loop) l.name.now
declared-is xs ys l start next in_loop h e n =
    let visible : map visible_of (latest_first ys) ≡ record { name = l.name.now; local = next } ∷ map visible_of (latest_first xs) =
    ap (λ (ls : List Local). map visible_of (latest_first ls)) e ∙ ap (map visible_of) (latest-push xs l) ∙ ap (λ m. record { name = l.name.now; local = m } ∷ map visible_of (latest_first xs)) n in
    let behind : drop start ys ≡ drop start xs ++ l ∷ [] = ap (drop start) e ∙ drop-append-le start xs (l ∷ []) h in
    let own : map name_of (latest_first (drop start ys)) ≡ l.name.now ∷ map name_of (latest_first (drop start xs)) =
    ap (λ (ls : List Local). map name_of (latest_first ls)) behind ∙ ap (map name_of) (latest-push (drop start xs) l) in
    let more : next + 1 ≡ suc next = omega arith in
    λ i. record { visible = visible i; own = own i; next = more i; in_loop = in_loop }

-- ---- names among locals

any-map : {A B : Type 0} (test : B → Bool) (f : A → B) (xs : List A) → list_any test (map f xs) ≡ list_any (λ x. test (f x)) xs
any-map test f [] = refl
any-map test f (x ∷ xs) = ap (λ b. test (f x) || b) (any-map test f xs)

module _ (ls : List FieldDecl) (n : ℕ) (name : List ℕ) where
  among-of : list_any (λ (l : FieldDecl). bytes_eq l.name name) (take n ls) ≡ contains (take n (map (λ (l : FieldDecl). l.name) ls)) name
  among-of =
      sym (any-map (λ m. bytes_eq m name) (λ (l : FieldDecl). l.name) (take n ls)) ∙ ap (λ ns. contains ns name) (sym (take-map (λ (l : FieldDecl). l.name) n ls))

  pub among-first : list_any (λ (l : FieldDecl). bytes_eq l.name name) (take n ls) ≡ contains (take n (map (λ (l : FieldDecl). l.name) ls)) name
  among-first = among-of

  pub among-all : length ls ≤ n → list_any (λ (l : FieldDecl). bytes_eq l.name name) ls ≡ contains (take n (map (λ (l : FieldDecl). l.name) ls)) name
  among-all h = ap (list_any (λ (l : FieldDecl). bytes_eq l.name name)) (sym (take-long n ls h)) ∙ among-of

pub ruleset among = (among-first, among-all)

-- ---- a scope that is left

pub mark-is : (xs : List Local) (n start next : ℕ) (in_loop : Bool) → n ≡ length xs → start ≤ length xs → IsMark (record { count = n; start = start; in_loop = in_loop }) (seen xs start next in_loop)
mark-is xs n start next in_loop e h = record {
  count = e ∙ sym (length-visible xs);
  start = omega arith;
  own = own-names xs start h ∙ ap (λ m. map (λ (v : Visible). v.name) (take (m - start) (map visible_of (latest_first xs)))) (sym e);
  in_loop = refl;
}

pub left-is : (m : Mark) (xs ys : List Local) (start next : ℕ) (in_loop : Bool) → m.start ≤ m.count → m.count ≤ length xs → ys ≡ take m.count xs
    → seen ys m.start next m.in_loop ≡ left m (seen xs start next in_loop)
left-is m xs ys start next in_loop h k e =
    let count : length ys ≡ m.count = ap (λ (ls : List Local). length ls) e ∙ length-take-le m.count xs k in
    let visible : map visible_of (latest_first ys) ≡ drop (length (map visible_of (latest_first xs)) - m.count) (map visible_of (latest_first xs)) =
    ap (λ (ls : List Local). map visible_of (latest_first ls)) e ∙ ap (map visible_of) (sym (drop-latest m.count xs k)) ∙ sym (drop-map visible_of (length xs - m.count) (latest_first xs))
    ∙ ap (λ n. drop (n - m.count) (map visible_of (latest_first xs))) (sym (length-visible xs)) in
    let own : map name_of (latest_first (drop m.start ys)) ≡ map (λ (v : Visible). v.name) (take (m.count - m.start) (drop (length (map visible_of (latest_first xs)) - m.count) (map visible_of (latest_first xs)))) =
    own-names ys m.start (omega arith) ∙ ap (λ n. map (λ (v : Visible). v.name) (take (n - m.start) (map visible_of (latest_first ys)))) count
    ∙ ap (λ (vs : List Visible). map (λ (v : Visible). v.name) (take (m.count - m.start) vs)) visible in
    λ i. record { visible = visible i; own = own i; next = next; in_loop = m.in_loop }
