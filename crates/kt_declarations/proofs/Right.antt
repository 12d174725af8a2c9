-- What is right of globals whose judgment finds no fault, and what a head is over what stands inside.
use Rattle.std.proofs.Common.{if◌then◌else◌, ◌≡◌, ℕ, zero, suc, ◌+◌, ◌≤◌, ◌^◌, Bool, true, false, ◌&&◌, ◌||◌, not, nat_lt, ◌==◌, List, [], ◌∷◌, Option, None, Some, is_some, refl, sym, ap, ◌∙◌, subst, arith, true≢false}
use Rattle.std.specs.List.{position_from}
use Rattle.std.specs.Str.{bytes_eq}
use Rattle.std.proofs.lemmas.Bool.Decides.{nat_tests, Decides-eqb}
use Rattle.kt_grammar.specs.declared.tree.Base.{Base}
use Rattle.kt_lex.specs.declared.number.Number.{Number}
use Rattle.kt_syntax.specs.declared.tree.Constant.{Constant}
use Rattle.kt_syntax.specs.declared.tree.Constant.TheVariants as written
use Rattle.kt_syntax.specs.declared.tree.Extent.{Extent}
use Rattle.kt_syntax.specs.declared.tree.Extent.TheVariants as extent
use Rattle.kt_syntax.specs.declared.tree.GlobalDeclarator.{GlobalDeclarator}
use Rattle.kt_types.specs.declared.kinds.Ty.{Ty}
use Rattle.kt_types.specs.declared.kinds.Ty.TheVariants as ty
use Rattle.kt_types.specs.declared.kinds.View.TheVariants as view
use Rattle.kt_tree.specs.Kinds.{Scope, fits_in}
use Rattle.kt_typing.specs.declared.fault.Fault.{Fault}
use Rattle.kt_typing.specs.declared.fault.Kind.TheVariants as kind
use Rattle.kt_typing.specs.Calls.{builtin_named}
use Rattle.kt_typing.specs.Environment.{Environment}
use Rattle.kt_typing.specs.Faults.{fault_at, bad_type, unknown}
use Rattle.kt_typing.specs.First.{earlier}
use Rattle.kt_program.specs.Declarators.{where_not, declarator_place, declared_type, extent_fault, extent_of, is_count}
use Rattle.kt_program.specs.Gathered.{OuterGlobal, global_name, global_type}
use Rattle.kt_program.specs.Globals.{negative, global, is_small, is_initial, is_constant_of}
use Rattle.kt_program.specs.Judgments.{Judgment, both_made, made_of, made, first_wrong}
use Rattle.kt_program.specs.Made.{Made, the_one}
use Rattle.kt_program.specs.Outside.{Whole, place_of, global_meaning, function_meaning, outer_meaning}
use Rattle.kt_program.specs.Scopes.{contains}
use Rattle.kt_program.specs.Statements.{under, absent}
use Rattle.kt_program.specs.Structs.{is_array_count}
use Rattle.kt_program.specs.Types.{place_in, or_first}
use Rattle.kt_program.specs.Views.{view_by}
use Rattle.kt_declarations.specs.Views.{global_number, view_in, FitsLong, Tells}
use Rattle.kt_declarations.proofs.Earlier.{earlier-assoc, under-first, four-first}

-- ---- no fault

pub first-none : (a b : Option Fault) → earlier a b ≡ None → a ≡ None
first-none None b e = refl
first-none (Some f) None e = absurd cc
first-none (Some f) (Some g) e = absurd cc

pub later-none : (a b : Option Fault) → earlier a b ≡ None → b ≡ None
later-none None b e = e
later-none (Some f) None e = refl
later-none (Some f) (Some g) e = absurd cc

pub holds : (b : Bool) (f : Fault) → where_not b f ≡ None → b ≡ true
holds true f e = refl
holds false f e = absurd cc

pub and-first : (a b : Bool) → (a && b) ≡ true → a ≡ true
and-first true b e = refl
and-first false b e = e

pub and-second : (a b : Bool) → (a && b) ≡ true → b ≡ true
and-second true b e = e
and-second false b e = absurd (true≢false (sym e))

module _ (env : Environment) (names : List (List ℕ)) (cells : ℕ) (b : Base) (g : GlobalDeclarator) (right : first_wrong (global env names cells b g) ≡ None) where
  abbrev twice : Option Fault
  twice = where_not (not (is_some (builtin_named g.declarator.name.word) || contains names g.declarator.name.word)) (fault_at kind.Twice g.declarator.name.at)

  abbrev size : Option Fault
  size = where_not (is_small env cells b g) (fault_at kind.TooBig g.declarator.name.at)

  abbrev initial : Bool
  initial = is_initial env (declared_type env b g.declarator.pointer) (is_some g.declarator.count) g.initial

  abbrev value : Option Fault
  value = where_not initial (bad_type (declarator_place g.declarator.pointer g.declarator.name))

  abbrev extents : Option Fault
  extents = extent_fault env (extent_of g.declarator.pointer)

  all-none : earlier extents (earlier twice (earlier size value)) ≡ None
  all-none = sym (four-first extents twice size value) ∙ right

  pub extent-right : extents ≡ None
  extent-right = first-none extents (earlier twice (earlier size value)) all-none

  last-none : earlier size value ≡ None
  last-none = later-none twice (earlier size value) (later-none extents (earlier twice (earlier size value)) all-none)

  pub count-right : is_array_count g.declarator.count ≡ true
  count-right = and-first (is_array_count g.declarator.count) _ (and-first _ _ (holds (is_small env cells b g) (fault_at kind.TooBig g.declarator.name.at) (first-none size value last-none)))

  pub initial-right : initial ≡ true
  initial-right = holds initial (bad_type (declarator_place g.declarator.pointer g.declarator.name)) (later-none size value last-none)

-- ---- constants that fit

at-most : (n : ℕ) → nat_lt n (2 ^ 63) ≡ true → n ≤ 9223372036854775807
at-most n e = grind (arith, nat_tests)

at-most-int : (n : ℕ) → nat_lt n (2 ^ 31) ≡ true → n ≤ 9223372036854775807
at-most-int n e = grind (arith, nat_tests)

at-most-char : (n : ℕ) → nat_lt n (2 ^ 7) ≡ true → n ≤ 9223372036854775807
at-most-char n e = grind (arith, nat_tests)

at-most-least : (v : ℕ) → fits_in 63 (negative v) ≡ true → v ≤ 9223372036854775808
at-most-least zero e = omega arith
at-most-least (suc n) e = let h = at-most n e in omega arith

at-most-least-int : (v : ℕ) → fits_in 31 (negative v) ≡ true → v ≤ 9223372036854775808
at-most-least-int zero e = omega arith
at-most-least-int (suc n) e = let h = at-most-int n e in omega arith

at-most-least-char : (v : ℕ) → fits_in 7 (negative v) ≡ true → v ≤ 9223372036854775808
at-most-least-char zero e = omega arith
at-most-least-char (suc n) e = let h = at-most-char n e in omega arith

zero-at-most : (n : ℕ) → (n == 0) ≡ true → n ≤ 9223372036854775807
zero-at-most n e = let is = (Decides-eqb n 0).0 e in omega arith

number-fits : (o : Option Ty) (n : Number) → is_constant_of o (written.Number n) ≡ true → n.value ≤ 9223372036854775807
number-fits (Some ty.Char) n e = at-most-char n.value e
number-fits (Some ty.Int) n e = at-most-int n.value e
number-fits (Some ty.Long) n e = at-most n.value e
number-fits (Some ty.Mutex) n e = absurd (true≢false (sym e))
number-fits (Some (ty.Ptr t)) n e = zero-at-most n.value (and-first (n.value == 0) (not n.long) (and-first ((n.value == 0) && not n.long) (not n.hexadecimal) e))
number-fits (Some (ty.Struct t)) n e = absurd (true≢false (sym e))
number-fits (Some (ty.Array t k)) n e = absurd (true≢false (sym e))
number-fits None n e = absurd (true≢false (sym e))

negative-fits : (o : Option Ty) (n : Number) → is_constant_of o (written.Negative n) ≡ true → n.value ≤ 9223372036854775808
negative-fits (Some ty.Char) n e = at-most-least-char n.value e
negative-fits (Some ty.Int) n e = at-most-least-int n.value e
negative-fits (Some ty.Long) n e = at-most-least n.value e
negative-fits (Some ty.Mutex) n e = absurd (true≢false (sym e))
negative-fits (Some (ty.Ptr t)) n e = absurd (true≢false (sym e))
negative-fits (Some (ty.Struct t)) n e = absurd (true≢false (sym e))
negative-fits (Some (ty.Array t k)) n e = absurd (true≢false (sym e))
negative-fits None n e = absurd (true≢false (sym e))

constant-fits : (o : Option Ty) (c : Constant) → is_constant_of o c ≡ true → FitsLong (Some c)
constant-fits o (written.Number n) e = number-fits o n e
constant-fits o (written.Negative n) e = negative-fits o n e
constant-fits o (written.Character b) e = tt
constant-fits o (written.Text at bytes) e = tt
constant-fits o written.Null e = tt
constant-fits o written.Eof e = tt
constant-fits o written.MutexInitializer e = tt

pub initial-fits : (env : Environment) (t : Option ℕ) (array : Bool) (c : Option Constant) → is_initial env t array c ≡ true → FitsLong c
initial-fits env t array None e = tt
initial-fits env t array (Some c) e = constant-fits _ c (and-second (not array) _ e)

-- ---- views

module _ (s : Scope) (w : Whole) (n : List ℕ) where
  abbrev named : OuterGlobal → Bool
  named g = bytes_eq (global_name g) n

  meant-number : (k : ℕ) (g : OuterGlobal) (o : Option ℕ) → is_count s (global_meaning w k g o) ≡ true → global_number (global_meaning w k g o) ≡ k
  meant-number k g None e = absurd (true≢false (sym e))
  meant-number k g (Some p) e = refl

  no-number : (o : Option ℕ) → is_count s (function_meaning o) ≡ true → ⊥
  no-number None e = true≢false (sym e)
  no-number (Some k) e = true≢false (sym e)

  outer-number : (k : ℕ) (gs : List OuterGlobal) → is_count s (outer_meaning w k gs n) ≡ true → global_number (outer_meaning w k gs n) ≡ or_first (position_from named k gs)
  outer-number k [] e = absurd (no-number (position_from (λ r. bytes_eq r.name.word n) 0 w.defined) e)
  outer-number k (g ∷ rest) e = by (named g) refl (outer-number (suc k) rest)
    where
      meant : Option ℕ
      meant = place_of w.types (ty.Ptr (place_in w.types (global_type w.structs g)))

      next : suc k ≡ k + 1
      next = omega arith

      by : (b : Bool) → named g ≡ b → (is_count s (outer_meaning w (suc k) rest n) ≡ true → global_number (outer_meaning w (suc k) rest n) ≡ or_first (position_from named (suc k) rest))
          → global_number (outer_meaning w k (g ∷ rest) n) ≡ or_first (position_from named k (g ∷ rest))
      by true t later = rw t (meant-number k g meant (subst (λ (b : Bool). is_count s (if b then global_meaning w k g meant else outer_meaning w (suc k) rest n) ≡ true) t e))
      by false t later =
          rw t (later (subst (λ (b : Bool). is_count s (if b then global_meaning w k g meant else outer_meaning w (suc k) rest n) ≡ true) t e) ∙ ap (λ m. or_first (position_from named m rest)) next)

pub view-right : (w : Whole) (env : Environment) → Tells env w → (b : Base) (stars : ℕ) (e : Option Extent) → extent_fault env e ≡ None → view_in env b stars e ≡ view_by w.globals b stars e
view-right w env tells b stars None h = refl
view-right w env tells b stars (Some (extent.Number at n)) h = refl
view-right w env tells b stars (Some (extent.Name n)) h =
    let counts = holds (is_count env.scope (env.name n.word)) (unknown n.at) h in
    let is = tells.globals n.word in
    ap view.Global (ap global_number is ∙ outer-number env.scope w n.word 0 w.globals (sym (ap (is_count env.scope) is) ∙ counts))

-- ---- heads

pub over-four : (a b t d : Option Fault) (j : Judgment) → first_wrong (under a (under b (under t (under d j)))) ≡ earlier (first_wrong (under a (under b (under t (under d absent))))) (first_wrong j)
over-four a b t d j =
    let x = first_wrong j in
    under-first a (under b (under t (under d j))) ∙ ap (earlier a) (under-first b (under t (under d j))) ∙ ap (λ o. earlier a (earlier b o)) (under-first t (under d j))
    ∙ ap (λ o. earlier a (earlier b (earlier t o))) (under-first d j)
    ∙ ap (λ o. earlier a (earlier b o)) (earlier-assoc t d x) ∙ ap (earlier a) (earlier-assoc b (earlier t d) x) ∙ earlier-assoc a (earlier b (earlier t d)) x
    ∙ ap (λ o. earlier o x) (sym (four-first a b t d))

made-under : (j : Judgment) → made (under None j) ≡ made j
made-under j = by (made j)
  where
    by : (o : Option Made) → made_of None the_one (both_made o (Some [])) ≡ o
    by None = refl
    by (Some m) = refl

pub made-four : (a b t d : Option Fault) (j : Judgment) → first_wrong (under a (under b (under t (under d absent)))) ≡ None → made (under a (under b (under t (under d j)))) ≡ made j
made-four a b t d j e =
    let all = sym (four-first a b t d) ∙ e in
    let two = later-none a (earlier b (earlier t d)) all in
    let three = later-none b (earlier t d) two in
    ap (λ o. made (under o (under b (under t (under d j))))) (first-none a (earlier b (earlier t d)) all) ∙ made-under (under b (under t (under d j)))
    ∙ ap (λ o. made (under o (under t (under d j)))) (first-none b (earlier t d) two) ∙ made-under (under t (under d j))
    ∙ ap (λ o. made (under o (under d j))) (first-none t d three) ∙ made-under (under d j)
    ∙ ap (λ o. made (under o j)) (later-none t d three) ∙ made-under j
