-- What follows where all parts are right.
use Rattle.std.proofs.Common.{◌≡◌, ℕ, ◌+◌, ◌*◌, ◌≤◌, ◌&&◌, ◌||◌, not, nat_le, Bool, true, false, List, [], ◌∷◌, ◌++◌, map, Fits, w32, OnOk, Result, Ok, Err, refl, sym, ap, ◌∙◌, subst, true≢false, is_some, arith, if◌then◌else◌}
use Rattle.std.proofs.lemmas.Bool.Decides.{nat_tests}
use Rattle.std.specs.List.{list_any}
use Rattle.std.specs.Str.{bytes_eq}
use Rattle.std.specs.Global.{Vec}
use Rattle.std.proofs.lemmas.List.{map-append}
use Rattle.kt_grammar.specs.declared.tree.Base.{Base}
use Rattle.kt_syntax.specs.declared.tree.GlobalDeclarator.{GlobalDeclarator}
use Rattle.kt_tree.specs.declared.global.GlobalDecl.{GlobalDecl}
use Rattle.kt_names.specs.declared.fault.CheckFault.{CheckFault}
use Rattle.kt_names.specs.Checked.{Checked, and_then, both, holds}
use Rattle.kt_names.specs.Environment.{cells_of}
use Rattle.kt_names.specs.declared.fault.CheckFault.TheVariants.{Twice, TooBig}
use Rattle.kt_tree.specs.declared.global.Init.{Init}
use Rattle.kt_names.specs.Statements.{State, pointer_outside, declarator_place, contains}
use Rattle.kt_names.specs.Tables.{declared_type}
use Rattle.kt_check.specs.Files.{Frame, Sofar, outside, is_array_count, count_of, has_global, has_routine, outer_name, initial_of, global, function}
use Rattle.kt_check.specs.Stages.{init_parts, once_parts, named_parts, global_parts, global_decl, agreed_parts, new_parts, outer_parts, function_parts, function_body_of, with_routine, with_bodies}
use Rattle.kt_syntax.specs.Tree.{Routine}
use Rattle.kt_names.specs.Functions.{agrees, parameters, body_in, is_noted, no_state, result_fault, defined_function}
use Rattle.kt_check.proofs.NameMaps.{names-any}

abbrev left : {A B : Type 0} → Checked (A × B) → Checked A
left (Ok p) = Ok p.0
left (Err f) = Err f

abbrev behind : {A B : Type 0} → Checked (A × B) → Checked B
behind (Ok p) = Ok p.1
behind (Err f) = Err f

pub both-right : {A B : Type 0} (s : Checked A) (t : Checked B) (x : A × B) → both s t ≡ Ok x → (s ≡ Ok x.0) × (t ≡ Ok x.1)
unfolding both
both-right (Ok a) (Ok b) x e = (ap left e, ap behind e)
both-right (Ok a) (Err g) x e = absurd cc
both-right (Err f) (Ok b) x e = absurd cc
both-right (Err f) (Err g) x e = absurd cc

pub holds-right : (b : Bool) (f : CheckFault) (x : Unit {0}) → holds b f ≡ Ok x → b ≡ true
holds-right true f x e = refl
holds-right false f x e = absurd cc

pub follows-right : {A B : Type 0} (s : Checked A) (k : A → Checked B) (y : B) → and_then s k ≡ Ok y → (x : A) × (s ≡ Ok x) × (k x ≡ Ok y)
follows-right (Ok x) k y e = (x, refl, e)
follows-right (Err f) k y e = absurd cc

pub both-true : (a b : Bool) → (a && b) ≡ true → (a ≡ true) × (b ≡ true)
both-true true b e = (refl, e)
both-true false b e = absurd (true≢false (sym e))

pub not-true : (a : Bool) → not a ≡ true → a ≡ false
not-true true e = absurd (true≢false (sym e))
not-true false e = refl

le-of : (a b : ℕ) → nat_le a b ≡ true → a ≤ b
le-of a b e = grind (arith, nat_tests)

-- ---- globals

-- a global that is right
pub record IsRight (f : Frame) (s : Sofar) (b : Base) (g : GlobalDeclarator) : Type 0 where
  pub viewed : pointer_outside (outside f s) g.declarator.pointer ≡ Ok tt
  pub once : (has_global s g.declarator.name.word || has_routine s g.declarator.name.word) ≡ false
  pub counted : is_array_count g.declarator.count ≡ true
  pub within : s.cells + count_of g.declarator.count * cells_of (outside f s) (declared_type f.names b g.declarator.pointer) ≤ 1048576

module _ (f : Frame) (s : Sofar) (b : Base) (g : GlobalDeclarator) where
  pub parts-right : (x : Unit {0} × (Unit {0} × (Unit {0} × (Unit {0} × Init)))) → global_parts f s b g ≡ Ok x → IsRight f s b g
  parts-right x e =
      let size = count_of g.declarator.count * cells_of (outside f s) (declared_type f.names b g.declarator.pointer) in
      let at = g.declarator.name.at in
      let has = has_global s g.declarator.name.word || has_routine s g.declarator.name.word in
      let array = is_array_count g.declarator.count in
      let first = both-right (pointer_outside (outside f s) g.declarator.pointer) (named_parts f s b g) x e in
      let second = both-right (outer_name g.declarator.name) (once_parts f s b g) x.1 first.1 in
      let third = both-right (holds (not has) (Twice at)) (init_parts f s b g) x.1.1 second.1 in
      let fourth = both-right (holds (array && nat_le size 65536 && nat_le (s.cells + size) 1048576) (TooBig at)) (initial_of f (declared_type f.names b g.declarator.pointer) (is_some g.declarator.count) (declarator_place g.declarator.pointer g.declarator.name) g.initial) x.1.1.1 third.1 in
      let tests = holds-right (array && nat_le size 65536 && nat_le (s.cells + size) 1048576) (TooBig at) x.1.1.1.0 fourth.0 in
      let sizes = both-true (array && nat_le size 65536) (nat_le (s.cells + size) 1048576) tests in
      let counted = both-true array (nat_le size 65536) sizes.0 in
      record { viewed = first.0; once = not-true has (holds-right (not has) (Twice at) x.1.1.0 third.0); counted = counted.0; within = le-of (s.cells + size) 1048576 sizes.1 }

  pub global-right : (d : GlobalDecl) → global f s b g ≡ Ok d → IsRight f s b g × (d.count ≡ count_of g.declarator.count) × (d.name ≡ g.declarator.name.word)
  global-right d e =
      let (x, parts, is) = follows-right (global_parts f s b g) (λ x. Ok (global_decl f b g x.1.1.1.1)) d e in
      (parts-right x parts, cc, cc)

  -- the cells of all globals behind it
  pub sizes-right : (d : GlobalDecl) (cells : ℕ) → global f s b g ≡ Ok d → cells ≡ cells_of (outside f s) (declared_type f.names b g.declarator.pointer) → s.cells + d.count * cells ≤ 1048576
  sizes-right d cells e is =
      let (good, count, name) = global-right d e in
      subst (λ n. s.cells + n * cells ≤ 1048576) (sym count) (subst (λ n. s.cells + count_of g.declarator.count * n ≤ 1048576) (sym is) good.within)

pub fits-second : (a p : ℕ) → a + p ≤ 1048576 → Fits w32 p
fits-second a p h = omega arith

pub fits-whole : (a p : ℕ) → a + p ≤ 1048576 → Fits w32 (a + p)
fits-whole a p h = omega arith

-- ---- names

abbrev named : List (Vec ℕ) → List (List ℕ)
named ks = map (λ k. k.items) ks

pub name-added : (name : Vec ℕ) (word : List ℕ) (ks : List (Vec ℕ)) (ns : List (List ℕ)) → name.items ≡ word → named ks ≡ ns → contains ns word ≡ false → named (if list_any (λ k. bytes_eq name.items k.items) ks then ks else ks ++ name ∷ []) ≡ ns ++ word ∷ []
name-added name word ks ns is same absent =
    let new : list_any (λ k. bytes_eq name.items k.items) ks ≡ false = names-any name.items ks ∙ (λ i. list_any (λ m. bytes_eq m (is i)) (same i)) ∙ absent in
    ap (λ b. named (if b then ks else ks ++ name ∷ [])) new ∙ map-append (λ (k : Vec ℕ). k.items) ks (name ∷ []) ∙ (λ i. same i ++ is i ∷ [])

pub or-left : (a b : Bool) → (a || b) ≡ false → a ≡ false
or-left true b e = absurd (true≢false e)
or-left false b e = refl

-- ---- functions

pub on-ok : {A E P : Type 0} (r : Result A E) → P → OnOk r P
on-ok (Ok x) p = p
on-ok (Err e) p = tt

pub follows-twice : {A B C : Type 0} (s : Checked A) (k : A → Checked B) (m : B → Checked C) → and_then (and_then s k) m ≡ and_then s (λ x. and_then (k x) m)
follows-twice (Ok x) k m = refl
follows-twice (Err f) k m = refl

pub agrees-right : (f : Frame) (s : Sofar) (r : Routine) (x : Unit {0} × (Unit {0} × (Unit {0} × (Unit {0} × State)))) → function_parts f s r ≡ Ok x → agrees f.names r s.routines ≡ Ok tt
agrees-right f s r x e =
    let first = both-right (result_fault (outside f s) r) (outer_parts f s r) x e in
    let second = both-right (outer_name r.name) (new_parts f s r) x.1 first.1 in
    let third = both-right (holds (not (has_global s r.name.word)) (Twice r.name.at)) (agreed_parts f s r) x.1.1 second.1 in
    let fourth = both-right (agrees f.names r s.routines) (parameters (body_in (outside f s) r (is_noted r.body)) no_state r.parameters) x.1.1.1 third.1 in
    fourth.0

-- a function, behind the parts of its declaration
pub function-is : (f : Frame) (s : Sofar) (r : Routine) → function f s r ≡ and_then (function_body_of f s r) (λ d. Ok (with_bodies (with_routine s r) d))
function-is f s r = sym (follows-twice (function_parts f s r) (λ x. defined_function (outside f s) r x.1.1.1.1 r.body) (λ d. Ok (with_bodies (with_routine s r) d)))
