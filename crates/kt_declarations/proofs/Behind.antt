-- What is kept of functions, behind one more declaration.
use Rattle.std.proofs.Common.{if◌then◌else◌, ◌≡◌, ℕ, Bool, true, false, not, ◌&&◌, ◌||◌, List, [], ◌∷◌, Option, None, Some, is_some, refl, sym, ap, ◌∙◌, subst, true≢false}
use Rattle.std.specs.List.{list_any}
use Rattle.std.specs.Option.{option_map}
use Rattle.std.specs.Str.{bytes_eq}
use Rattle.std.specs.Global.{Vec}
use Rattle.std.proofs.lemmas.Slice.Eq.{bytes_eq-Decides}
use Rattle.indexmap.specs.IndexMap.{insert_entry}
use Rattle.kt_syntax.specs.Tree.{Routine, definition_of, routine_of}
use Rattle.kt_syntax.specs.declared.tree.Body.{Body}
use Rattle.kt_syntax.specs.declared.tree.Function.{Function}
use Rattle.kt_typing.specs.Calls.{builtin_named}
use Rattle.kt_typing.specs.Environment.{Environment}
use Rattle.kt_typing.specs.Faults.{fault_at, bad_type}
use Rattle.kt_typing.specs.First.{earlier}
use Rattle.kt_typing.specs.declared.fault.Fault.{Fault}
use Rattle.kt_typing.specs.declared.fault.Kind.TheVariants as kind
use Rattle.kt_program.specs.Declarators.{where_not}
use Rattle.kt_program.specs.Functions.{result_complete, is_result, result_place, function_twice, is_defined, is_other_type}
use Rattle.kt_program.specs.Judgments.{first_wrong}
use Rattle.kt_program.specs.Outside.{Whole}
use Rattle.kt_program.specs.Statements.{absent}
use Rattle.kt_program.specs.Gathered.{same_function}
use Rattle.kt_program.specs.Scopes.{contains}
use Rattle.kt_declarations.specs.declared.functions.Met.{Met}
use Rattle.kt_declarations.specs.Heads.{same_head, head_judged}
use Rattle.kt_declarations.specs.Met.{SameNames, routine_names, HasStructs, IsMet, Tells, first_of, was_defined, had_other}
use Rattle.kt_declarations.proofs.Mapped.{same, itself, found, found-inserted}
use Rattle.kt_declarations.proofs.Earlier.{four-first}
use Rattle.kt_declarations.proofs.Spelled.{euclid, head-same}

abbrev Kept : Type 0
Kept = List (Vec ℕ × Met)

-- ---- declarations of other names

pub or_false : (b : Bool) → (b || false) ≡ b
or_false true = refl
or_false false = refl

pub and-false : (b : Bool) → (b && false) ≡ false
and-false true = refl
and-false false = refl

module _ (n : List ℕ) (test : Routine → Bool) where
  none-tested : (rs : List Routine) → contains (routine_names rs) n ≡ false → list_any (λ e. bytes_eq e.name.word n && test e) rs ≡ false
  none-tested [] h = refl
  none-tested (r ∷ rs) h = by (bytes_eq r.name.word n) refl (none-tested rs)
    where
      by : (b : Bool) → bytes_eq r.name.word n ≡ b → (contains (routine_names rs) n ≡ false → list_any (λ e. bytes_eq e.name.word n && test e) rs ≡ false) → list_any (λ e. bytes_eq e.name.word n && test e) (r ∷ rs) ≡ false
      by true e later = absurd (true≢false (subst (λ (b : Bool). (b || contains (routine_names rs) n) ≡ false) e h))
      by false e later = rw e (later (subst (λ (b : Bool). (b || contains (routine_names rs) n) ≡ false) e h))

  tested-none : (rs : List Routine) → contains (routine_names rs) n ≡ false → list_any (λ e. test e && bytes_eq e.name.word n) rs ≡ false
  tested-none [] h = refl
  tested-none (r ∷ rs) h = by (bytes_eq r.name.word n) refl (tested-none rs)
    where
      by : (b : Bool) → bytes_eq r.name.word n ≡ b → (contains (routine_names rs) n ≡ false → list_any (λ e. test e && bytes_eq e.name.word n) rs ≡ false) → list_any (λ e. test e && bytes_eq e.name.word n) (r ∷ rs) ≡ false
      by true e later = absurd (true≢false (subst (λ (b : Bool). (b || contains (routine_names rs) n) ≡ false) e h))
      by false e later = rw (e, and-false (test r)) (later (subst (λ (b : Bool). (b || contains (routine_names rs) n) ≡ false) e h))

module _ (structs : List (List ℕ)) (r : Routine) (rs : List Routine) (n : List ℕ) (apart : bytes_eq r.name.word n ≡ false) where
  met-still : (m : Met) → IsMet structs rs n m → IsMet structs (r ∷ rs) n m
  met-still m h = record {
    defined = ap (λ b. (is_some r.body && b) || list_any (λ (e : Routine). is_some e.body && bytes_eq e.name.word n) rs) apart ∙ ap (λ b. b || list_any (λ (e : Routine). is_some e.body && bytes_eq e.name.word n) rs) (and-false (is_some r.body)) ∙ h.defined;
    other = λ q. ap (λ (b : Bool). (b && not (same_function structs r q)) || list_any (λ (e : Routine). bytes_eq e.name.word n && not (same_function structs e q)) rs) apart ∙ h.other q;
    structs_named = h.structs_named;
  }

  pub tells-still : (o : Option Met) → Tells structs rs n o → Tells structs (r ∷ rs) n o
  tells-still None h = ap (λ b. b || contains (routine_names rs) n) apart ∙ h
  tells-still (Some m) h = (ap (λ b. b || contains (routine_names rs) n) apart ∙ h.0, met-still m h.1)

-- ---- one more declaration of a name

mix : (mixed a b c : Bool) → (b ≡ true → a ≡ c) → (not a || (mixed || not b)) ≡ ((mixed || not c) || not b)
mix true true b c h = refl
mix true false b c h = refl
mix false true true c h = ap (λ x. not x || false) (h refl)
mix false false true c h = ap (λ x. not x || false) (h refl)
mix false true false true h = refl
mix false true false false h = refl
mix false false false true h = refl
mix false false false false h = refl

pub bodied : (o : Option Body) → is_some o ≡ is_some (option_map definition_of o)
bodied None = refl
bodied (Some b) = refl

bodies : (o : Option Body) (c : Bool) → ((is_some (option_map definition_of o) && true) || c) ≡ (is_some o || c)
bodies None c = refl
bodies (Some b) c = refl

module _ (structs : List (List ℕ)) (rs : List Routine) (f : Function) (named : HasStructs structs (routine_of f)) where
  abbrev r : Routine
  r = routine_of f

  abbrev n : List ℕ
  n = f.name.word

  pub met-first : contains (routine_names rs) n ≡ false → (m : Met) → m.first.now ≡ f → m.defined ≡ is_some f.body → m.mixed ≡ false → IsMet structs (r ∷ rs) n m
  met-first none m is defined mixed = record {
    defined = ap (λ b. (is_some r.body && b) || list_any (λ (e : Routine). is_some e.body && bytes_eq e.name.word n) rs) (itself n)
        ∙ ap (λ b. (is_some r.body && true) || b) (tested-none n (λ e. is_some e.body) rs none) ∙ bodies f.body false ∙ or_false (is_some f.body) ∙ sym defined;
    other = λ q. ap (λ (b : Bool). (b && not (same_function structs r q)) || list_any (λ (e : Routine). bytes_eq e.name.word n && not (same_function structs e q)) rs) (itself n)
        ∙ ap (λ b. not (same_function structs r q) || b) (none-tested n (λ e. not (same_function structs e q)) rs none) ∙ or_false (not (same_function structs r q))
        ∙ ap (λ (g : Function). not (same_function structs (routine_of g) q)) (sym is) ∙ ap (λ b. b || not (same_function structs (routine_of m.first.now) q)) (sym mixed);
    structs_named = subst (λ (g : Function). HasStructs structs (routine_of g)) (sym is) named;
  }

  pub met-again : (m k : Met) → IsMet structs rs n m → k.first.now ≡ m.first.now → k.defined ≡ (is_some f.body || m.defined) → k.mixed ≡ (m.mixed || not (same_head (routine_of m.first.now) r)) → IsMet structs (r ∷ rs) n k
  met-again m k h first defined mixed = record {
    defined = ap (λ b. (is_some r.body && b) || list_any (λ (e : Routine). is_some e.body && bytes_eq e.name.word n) rs) (itself n)
        ∙ ap (λ b. (is_some r.body && true) || b) h.defined ∙ bodies f.body m.defined ∙ sym defined;
    other = λ q. ap (λ (b : Bool). (b && not (same_function structs r q)) || list_any (λ (e : Routine). bytes_eq e.name.word n && not (same_function structs e q)) rs) (itself n)
        ∙ ap (λ b. not (same_function structs r q) || b) (h.other q)
        ∙ mix m.mixed (same_function structs r q) (same_function structs (routine_of m.first.now) q) (same_function structs (routine_of m.first.now) r) (euclid structs (routine_of m.first.now) q r)
        ∙ ap (λ b. (m.mixed || not b) || not (same_function structs (routine_of m.first.now) q)) (sym (head-same structs (routine_of m.first.now) r h.structs_named named))
        ∙ ap (λ b. b || not (same_function structs (routine_of m.first.now) q)) (sym mixed)
        ∙ ap (λ (g : Function). k.mixed || not (same_function structs (routine_of g) q)) (sym first);
    structs_named = subst (λ (g : Function). HasStructs structs (routine_of g)) (sym first) h.structs_named;
  }

  pub met-is : (o : Option Met) → Tells structs rs n o → (k : Met) → k.first.now ≡ first_of o f → k.defined ≡ (is_some f.body || was_defined o) → k.mixed ≡ had_other o r → IsMet structs (r ∷ rs) n k
  met-is None h k first defined mixed = met-first h k first (defined ∙ or_false (is_some f.body)) mixed
  met-is (Some m) h k first defined mixed = met-again m k h.1 first defined mixed

  pub declared-tells : (es fs : Kept) (key : Vec ℕ) (m : Met) → key.items ≡ n → fs ≡ insert_entry (λ a b. bytes_eq a.items b.items) es key m → ((q : List ℕ) → Tells structs rs q (found es q))
      → IsMet structs (r ∷ rs) n m → (q : List ℕ) → Tells structs (r ∷ rs) q (found fs q)
  declared-tells es fs key m is grows told met q =
      subst (Tells structs (r ∷ rs) q) (sym (ap (λ (xs : Kept). found xs q) grows ∙ found-inserted key m q es)) (by (bytes_eq q key.items) refl)
    where
      by : (b : Bool) → bytes_eq q key.items ≡ b → Tells structs (r ∷ rs) q (if b then Some m else found es q)
      by true e = subst (λ x. Tells structs (r ∷ rs) x (Some m)) (sym (same q key.items e ∙ is)) (ap (λ b. b || contains (routine_names rs) n) (itself n), met)
      by false e = tells-still structs r rs q (apart (bytes_eq n q) refl) (found es q) (told q)
        where
          apart : (c : Bool) → bytes_eq n q ≡ c → bytes_eq n q ≡ false
          apart true d = absurd (true≢false (sym ((bytes_eq-Decides q key.items).1 (sym (same n q d) ∙ sym is)) ∙ e))
          apart false d = d

-- ---- what is told of a name

pub tells-defined : (structs : List (List ℕ)) (rs : List Routine) (n : List ℕ) (o : Option Met) → Tells structs rs n o
    → list_any (λ (e : Routine). is_some e.body && bytes_eq e.name.word n) rs ≡ was_defined o
tells-defined structs rs n None h = tested-none n (λ e. is_some e.body) rs h
tells-defined structs rs n (Some m) h = h.1.defined

pub tells-other : (structs : List (List ℕ)) (rs : List Routine) (n : List ℕ) (r : Routine) (o : Option Met) → Tells structs rs n o → HasStructs structs r
    → list_any (λ (e : Routine). bytes_eq e.name.word n && not (same_function structs e r)) rs ≡ had_other o r
tells-other structs rs n r None h k = none-tested n (λ e. not (same_function structs e r)) rs h
tells-other structs rs n r (Some m) h k = h.1.other r ∙ ap (λ b. m.mixed || not b) (sym (head-same structs (routine_of m.first.now) r h.1.structs_named k))

pub is-named : (structs : List (List ℕ)) (rs : List Routine) (n : List ℕ) (o : Option Met) → Tells structs rs n o → is_some o ≡ contains (routine_names rs) n
is-named structs rs n None h = sym h
is-named structs rs n (Some m) h = sym h.0

-- ---- a head

module _ (env : Environment) (w : Whole) (gs : List (List ℕ)) (globals : List (List ℕ)) (rs : List Routine) (r : Routine) (o : Option Met) (same : SameNames globals gs) (told : Tells w.structs rs r.name.word o)
    (named : HasStructs w.structs r) where
  twice-is : ((is_some (builtin_named r.name.word) || contains globals r.name.word) || (is_some r.body && was_defined o)) ≡ (is_some (builtin_named r.name.word) || contains gs r.name.word || is_defined rs r)
  twice-is = ap (λ b. (is_some (builtin_named r.name.word) || b) || (is_some r.body && was_defined o)) (same r.name.word)
      ∙ ap (λ b. (is_some (builtin_named r.name.word) || contains gs r.name.word) || (is_some r.body && b)) (sym (tells-defined w.structs rs r.name.word o told))

  pub head-judged : (twice other : Bool) → twice ≡ ((is_some (builtin_named r.name.word) || contains globals r.name.word) || (is_some r.body && was_defined o)) → other ≡ had_other o r
      → earlier (result_complete env r.result r) (earlier (where_not (is_result env r.result r.stars) (bad_type (result_place r.stars r)))
      (earlier (where_not (not twice) (fault_at kind.Twice r.name.at)) (where_not (not other) (bad_type r.name.at)))) ≡ first_wrong (head_judged env w gs rs r absent)
  head-judged twice other is is' =
      ap (λ b. earlier (result_complete env r.result r) (earlier (where_not (is_result env r.result r.stars) (bad_type (result_place r.stars r)))
      (earlier (where_not (not b) (fault_at kind.Twice r.name.at)) (where_not (not other) (bad_type r.name.at))))) (is ∙ twice-is)
      ∙ ap (λ b. earlier (result_complete env r.result r) (earlier (where_not (is_result env r.result r.stars) (bad_type (result_place r.stars r)))
      (earlier (function_twice gs rs r) (where_not (not b) (bad_type r.name.at))))) (is' ∙ sym (tells-other w.structs rs r.name.word r o told named))
      ∙ sym (four-first (result_complete env r.result r) (where_not (is_result env r.result r.stars) (bad_type (result_place r.stars r))) (function_twice gs rs r) (where_not (not (is_other_type w rs r)) (bad_type r.name.at)))

pub together : (a b t d u v z a' b' t' d' : Option Fault) → z ≡ earlier a v → v ≡ earlier b u → u ≡ earlier t d → a ≡ a' → b ≡ b' → t ≡ t' → d ≡ d' → z ≡ earlier a' (earlier b' (earlier t' d'))
together a b t d u v z a' b' t' d' x y w p q r s =
    x ∙ (λ i. earlier (p i) (y i)) ∙ ap (λ o. earlier a' (earlier b o)) w ∙ (λ i. earlier a' (earlier (q i) (earlier (r i) (s i))))
