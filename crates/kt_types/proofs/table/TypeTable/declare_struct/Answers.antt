use Rattle.std.proofs.Common.{◌≡◌, ℕ, ◌++◌, ◌∷◌, [], List, None, Some, slice_get, sym, ap, ◌∙◌, subst, arith, map, true, ◌==◌}
use Rattle.std.specs.Cmp.Lexicographic.{pointwise, bytes_decides}
use Rattle.std.specs.Global.{Vec}
use Rattle.std.specs.Map.{lookup}
use Rattle.std.proofs.lemmas.Option.{slice_get-map}
use Rattle.indexmap.proofs.CallerLemmas.{insert_entry-new}
use Rattle.indexmap.specs.IndexMap.{keys}
use Rattle.kt_types.specs.Table.{Table}
use Rattle.kt_types.proofs.Added.{struct-table, struct-kept, struct-place, struct-only}
use Rattle.kt_types.proofs.Complete.{is_none}
use Rattle.kt_types.proofs.Growth.{option_map_some}
use Rattle.kt_types.proofs.Keyed.{key-at, key-only, key-absent}
use Rattle.kt_types.proofs.table.TypeTable.declare_struct.Goals as goal

-- a struct's name in the table comes from a key
key-of : (ks : List (Vec ℕ)) (q : ℕ) (name : List ℕ) → slice_get (map (λ k. k.items) ks) q ≡ Some name → (k : Vec ℕ) × (slice_get ks q ≡ Some k) × (k.items ≡ name)
key-of ks q name at = option_map_some (λ k. k.items) (slice_get ks q) name (sym (slice_get-map (λ k. k.items) ks q) ∙ at)

same : (a b : List ℕ) → pointwise ◌==◌ a b ≡ true → a ≡ b
same a b = (bytes_decides a b).0

tied : (a b : List ℕ) → a ≡ b → pointwise ◌==◌ a b ≡ true
tied a b = (bytes_decides a b).1

-- the place that the look-up found is that of the name
found : (c : goal.In-Some) → slice_get c.args.self.now.structs c.in-Some.number ≡ Some c.args.name.now
found c =
    let (k, at, is) = key-at (λ (k : Vec ℕ). k.items) (pointwise ◌==◌) same tied (keys c.self.inside.structs) c.args.name.now c.in-Some.number c.in-Some.ensures.index in
    ap (λ (u : Table). slice_get u.structs c.in-Some.number) (sym c.self.view_is) ∙ slice_get-map (λ k. k.items) (keys c.self.inside.structs) c.in-Some.number
    ∙ (rw at (ap Some is))

pub returns-in-Some-clause-number : goal.returns-in-Some-clause-number
returns-in-Some-clause-number c = found c

pub returns-in-Some-clause-only : goal.returns-in-Some-clause-only
returns-in-Some-clause-only c q at =
    let (k, here, first) = key-of (keys c.self.inside.structs) q c.args.name.now (ap (λ (u : Table). slice_get u.structs q) c.self.view_is ∙ at) in
    let (l, there, second) = key-of (keys c.self.inside.structs) c.in-Some.number c.args.name.now (ap (λ (u : Table). slice_get u.structs c.in-Some.number) c.self.view_is ∙ found c) in
    key-only (λ (k : Vec ℕ). k.items) (pointwise ◌==◌) same tied (keys c.self.inside.structs) c.in-Some.ensures.unique q c.in-Some.number k l here there (first ∙ sym second)

pub returns-in-Some-clause-new : goal.returns-in-Some-clause-new
returns-in-Some-clause-new c lacks = absurd (lacks (c.in-Some.number, found c))

-- the look-up found no place, and there is none
absent : (c : goal.In_ok-insert) → (q : ℕ) → slice_get (map (λ k. k.items) (keys c.self.inside.structs)) q ≡ Some c.args.name.now → ⊥
absent c q at =
    let (k, here, is) = key-of (keys c.self.inside.structs) q c.args.name.now at in
    key-absent (λ (k : Vec ℕ). k.items) (pointwise ◌==◌) same tied c.self.inside.structs.entries c.args.name.now c.in_default.ensures.found q k here is

added : (c : goal.In_ok-insert) → c.insert.new.self.entries ≡ c.self.inside.structs.entries ++ (c.in_ok-name.name, None) ∷ []
added c =
    let none : lookup (λ k. pointwise ◌==◌ c.in_ok-name.name.items k.items) c.self.inside.structs.entries ≡ None =
    subst (λ n. lookup (λ k. pointwise ◌==◌ n k.items) c.self.inside.structs.entries ≡ None) (sym c.in_ok-name.ensures.items) (is_none _ c.in_default.ensures.found) in
    c.in_ok-insert.ensures.entries ∙ insert_entry-new (λ x y. pointwise ◌==◌ x.items y.items) c.self.inside.structs c.in_ok-name.name None none

pub invariant_of-self-2 : goal.invariant_of-self-2
invariant_of-self-2 c =
    struct-kept c.self.inside c.args.self.now c.self.view_is c.args.name.now c.in_ok-name.name c.in_ok-name.ensures.items c.insert.new.self.entries (added c) c.self.invariant
    (omega (arith, c.len-number.ensures.len, c.if-number.false))

pub returns-clause-number : goal.returns-clause-number
returns-clause-number c =
    ap (slice_get _) c.len-number.ensures.len ∙ struct-place c.self.inside c.args.self.now c.self.view_is c.args.name.now c.in_ok-name.name c.in_ok-name.ensures.items c.insert.new.self.entries (added c)

pub returns-clause-only : goal.returns-clause-only
returns-clause-only c q at =
    struct-only c.self.inside c.args.self.now c.self.view_is c.args.name.now c.in_ok-name.name c.in_ok-name.ensures.items c.insert.new.self.entries (added c) (absent c) q at ∙ sym c.len-number.ensures.len

pub returns-clause-known : goal.returns-clause-known
returns-clause-known c has = absurd (absent c has.0 (ap (λ (u : Table). slice_get u.structs has.0) c.self.view_is ∙ has.1))

pub returns-clause-new : goal.returns-clause-new
returns-clause-new c lacks = struct-table c.self.inside c.args.self.now c.self.view_is c.args.name.now c.in_ok-name.name c.in_ok-name.ensures.items c.insert.new.self.entries (added c)
