-- Globals one behind another.
use Rattle.std.proofs.Common.{◌≡◌, ℕ, ◌<◌, length, get_or, ◌+◌, Bool, true, false, not, ◌&&◌, ◌||◌, List, [], ◌∷◌, ◌++◌, map, drop, Option, is_some, refl, sym, ap, ◌∙◌, subst}
use Rattle.std.specs.List.{list_any}
use Rattle.std.specs.Str.{bytes_eq}
use Rattle.std.proofs.lemmas.List.{at_drop_more}
use Rattle.kt_grammar.specs.declared.tree.Base.{Base}
use Rattle.kt_syntax.specs.declared.tree.GlobalDeclarator.{GlobalDeclarator}
use Rattle.kt_typing.specs.declared.fault.Fault.{Fault}
use Rattle.kt_typing.specs.Environment.{Environment}
use Rattle.kt_typing.specs.First.{earlier}
use Rattle.kt_program.specs.Declarators.{base_fault}
use Rattle.kt_program.specs.Files.{Before, with_globals}
use Rattle.kt_program.specs.Globals.{global, each, globals, global_cells}
use Rattle.kt_program.specs.Judgments.{first_wrong, first_among}
use Rattle.kt_program.specs.Mentioned.{stars_of}
use Rattle.kt_program.specs.Scopes.{contains}
use Rattle.kt_declarations.specs.declared.functions.Functions.{Functions as FunctionsCode}
use Rattle.kt_declarations.specs.declared.globals.Globals.{Globals as GlobalsCode}
use Rattle.kt_declarations.specs.Met.{SameNames, AreNamed, kept, routine_names, AreGlobals}
use Rattle.kt_declarations.proofs.Earlier.{earlier-assoc, earlier-none}

contains-append : (as' bs : List (List ℕ)) (n : List ℕ) → contains (as' ++ bs) n ≡ (contains as' n || contains bs n)
contains-append [] bs n = refl
contains-append (a ∷ as') bs n = rw (contains-append as' bs n) (assoc (bytes_eq a n))
  where
    assoc : (x : Bool) → (x || (contains as' n || contains bs n)) ≡ ((x || contains as' n) || contains bs n)
    assoc true = refl
    assoc false = refl

neither : (built one other : Bool) → (not one && not built && not other) ≡ not (built || (one || other))
neither true true true = refl
neither true true false = refl
neither true false true = refl
neither true false false = refl
neither false true true = refl
neither false true false = refl
neither false false true = refl
neither false false false = refl

pub free-is : (names gs fs : List (List ℕ)) (functions : FunctionsCode) (n : List ℕ) (built new free : Bool) → SameNames names gs → AreNamed functions fs
    → new ≡ not (contains names n) → free ≡ (new && not built && not (is_some (kept functions n))) → not (built || contains (gs ++ fs) n) ≡ free
free-is names gs fs functions n built new free one other is h =
    sym (h ∙ ap (λ b. b && not built && not (is_some (kept functions n))) is
    ∙ ap (λ b. not b && not built && not (is_some (kept functions n))) (one n) ∙ ap (λ b. not (contains gs n) && not built && not b) (other n)
    ∙ neither built (contains gs n) (contains fs n) ∙ ap (λ b. not (built || b)) (sym (contains-append gs fs n)))

pub any-map : {A B : Type 0} (f : A → B) (test : B → Bool) (xs : List A) → list_any test (map f xs) ≡ list_any (λ x. test (f x)) xs
any-map f test [] = refl
any-map f test (x ∷ xs) = ap (λ b. test (f x) || b) (any-map f test xs)

pub front : {A : Type 0} (xs : List A) (i : ℕ) (x : A) → i < length xs → x ≡ get_or xs i x → drop i xs ≡ x ∷ drop (i + 1) xs
front xs i x h is = at_drop_more (λ ys. ys) xs i x h ∙ ap (λ y. y ∷ drop (i + 1) xs) (sym is)

-- behind these globals there are still those to come
abbrev pub Reached : Environment → Base → List GlobalDeclarator → GlobalsCode → GlobalsCode → FunctionsCode → Option Fault → List GlobalDeclarator → Type 0
Reached env base gs old now functions fault rest =
    (b : Before) → AreGlobals old b.globals b.cells
    → (d : Before) × AreGlobals now d.globals d.cells × (d.functions ≡ b.functions) × (with_globals env base d rest ≡ with_globals env base b gs)
    × (AreNamed functions (routine_names b.functions)
    → earlier fault (first_among (each env (d.globals ++ routine_names b.functions) d.cells base rest)) ≡ first_wrong (globals env (b.globals ++ routine_names b.functions) b.cells base gs))

module _ (env : Environment) (base : Base) (gs : List GlobalDeclarator) (old : GlobalsCode) (functions : FunctionsCode) where
  pub begins : (fault : Option Fault) → fault ≡ base_fault env base (map (λ g. stars_of g.declarator.pointer) gs) → Reached env base gs old old functions fault gs
  begins fault is b are = (b, are, refl, refl, λ same. ap (λ f. earlier f (first_among (each env (b.globals ++ routine_names b.functions) b.cells base gs))) is)

  module _ (now after : GlobalsCode) (fault broken both : Option Fault) (g : GlobalDeclarator) (rest : List GlobalDeclarator) (told : both ≡ earlier fault broken) where
    pub goes-on : Reached env base gs old now functions fault (g ∷ rest)
        → ((d : Before) → AreGlobals now d.globals d.cells → AreNamed functions (routine_names d.functions) → broken ≡ first_wrong (global env (d.globals ++ routine_names d.functions) d.cells base g))
        → ((d : Before) → AreGlobals now d.globals d.cells → AreGlobals after (g.declarator.name.word ∷ d.globals) (d.cells + global_cells env base g))
        → Reached env base gs old after functions both rest
    goes-on h faulty behind b are =
        let (d, ared, kept, reached, first) = h b are in
        let e : Before = record d { globals = g.declarator.name.word ∷ d.globals; cells = d.cells + global_cells env base g } in (
          e,
          behind d ared,
          kept,
          reached,
          λ same. ap (λ o. earlier o (first_among (each env (e.globals ++ routine_names b.functions) e.cells base rest))) told
              ∙ sym (earlier-assoc fault broken (first_among (each env (e.globals ++ routine_names b.functions) e.cells base rest)))
              ∙ ap (λ o. earlier fault (earlier o (first_among (each env (e.globals ++ routine_names b.functions) e.cells base rest)))) (is d ared kept same)
              ∙ first same,
        )
      where
        is : (d : Before) → AreGlobals now d.globals d.cells → d.functions ≡ b.functions → AreNamed functions (routine_names b.functions)
            → broken ≡ first_wrong (global env (d.globals ++ routine_names b.functions) d.cells base g)
        is d ared kept same =
            faulty (record d { functions = b.functions }) ared same

  module _ (now : GlobalsCode) (fault : Option Fault) (end : Reached env base gs old now functions fault []) where
    pub all-judged : (b : Before) → AreGlobals old b.globals b.cells → AreNamed functions (routine_names b.functions)
        → fault ≡ first_wrong (globals env (b.globals ++ routine_names b.functions) b.cells base gs)
    all-judged b are same = let (d, ared, kept, reached, first) = end b are in sym (earlier-none fault) ∙ first same

    pub all-met : (b : Before) → AreGlobals old b.globals b.cells → AreGlobals now (with_globals env base b gs).globals (with_globals env base b gs).cells
    all-met b are = let (d, ared, kept, reached, first) = end b are in subst (λ (e : Before). AreGlobals now e.globals e.cells) reached ared
