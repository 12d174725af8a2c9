-- Acts on memory keep the form of its objects: each has the cells of its element type as often as its count says, literals are of
-- `char`, and each global has its object.
use Rattle.std.specs.Prelude.{◌≡◌, ℕ, pos, ◌+◌, ◌*◌, ◌≤◌, nat_lt, ◌||◌, Bool, true, false, List, length, map, slice_get, Option, None, Some, Result, Ok, refl, if◌then◌else◌}
use Rattle.std.specs.Option.{option_map}
use Rattle.std.proofs.Common.{inl, inr, arith, ltb-false, ap, sym, subst, ◌∙◌}
use Rattle.std.proofs.lemmas.List.{length-map}
use Rattle.std.proofs.lemmas.Option.{none-some, same_Some}
use Rattle.kt_types.specs.declared.kinds.Ty.{Ty}
use Rattle.kt_types.specs.Layout.{cells, layout, repeated}
use Rattle.kt_types.specs.Table.{Table}
use Rattle.kt_mem.specs.declared.memory.Name.{Name}
use Rattle.kt_mem.specs.declared.memory.Name.TheVariants.{Glob, Lit, Heap}
use Rattle.kt_mem.specs.declared.memory.Value.{Value}
use Rattle.kt_mem.specs.declared.memory.Value.TheVariants.{Num, Null, Ptr, Free, Held, Undef}
use Rattle.kt_mem.specs.declared.steps.Trap.{Trap}
use Rattle.kt_mem.specs.declared.steps.Trap.TheVariants as trap
use Rattle.kt_mem.specs.Laws.{SameShape}
use Rattle.kt_mem.specs.Memory.{Cell, Memory, Object, alloc, alloc_fault, and_then, fresh_object, made, object_with, put, release, unless_fault, value_at, value_in, with_value, written}
use Rattle.kt_mem.proofs.Changes.{alloc_ok, and_then_ok, release_ok, written_ok}
use Rattle.kt_mem.proofs.MemoryLaws.{same_shape-with}
use Rattle.kt_mem.proofs.Names.{put-cases, put-other, put-same, same_name}
use Rattle.kt_tree.specs.declared.global.GlobalDecl.{GlobalDecl}
use Rattle.xf_plan.specs.KeepsTypes.{HasGlobals, IsOfChars, IsSmall}
use Rattle.xf_plan.proofs.TypedImages.{fresh-formed}

-- ---- objects of a form

-- the form of the object of a name, where a version has these types
pub record IsFormedAs (types : Table) (n : Name) (o : Object) : Type 0 where
  pub shaped : option_map (repeated o.count) (layout types o.ty) ≡ Some (map (λ (c : Cell). c.ty) o.cells)
  pub chars : IsOfChars n o
  pub small : IsSmall n o

-- all objects are of such a form, and each of these globals has its object
pub record IsFormed (types : Table) (globals : List GlobalDecl) (m : Memory) : Type 0 where
  pub objects : (n : Name) (o : Object) → m.at n ≡ Some o → IsFormedAs types n o
  pub named : HasGlobals globals m

same-chars : (n : Name) (o q : Object) → SameShape o q → IsOfChars n o → IsOfChars n q
same-chars (Lit v i) o q same h = same.ty ∙ h
same-chars (Glob g) o q same h = tt
same-chars (Heap a) o q same h = tt

same-length : (o q : Object) → SameShape o q → length q.cells ≡ length o.cells
same-length o q same = sym (length-map q.cells (λ (c : Cell). c.ty)) ∙ ap length same.types ∙ length-map o.cells (λ (c : Cell). c.ty)

same-small : (n : Name) (o q : Object) → SameShape o q → IsSmall n o → IsSmall n q
same-small (Lit v i) o q same h = tt
same-small (Glob g) o q same h = subst (λ k. k ≤ 65536) (sym (same-length o q same)) h
same-small (Heap a) o q same h = subst (λ k. k ≤ 65536) (sym (same-length o q same)) h

module _ (types : Table) where
  pub same-form : (n : Name) (o q : Object) → SameShape o q → IsFormedAs types n o → IsFormedAs types n q
  same-form n o q same h = record {
    shaped =
        ap (λ k. option_map (repeated k) (layout types q.ty)) same.count ∙ ap (λ a. option_map (repeated o.count) (layout types a)) same.ty ∙ h.shaped
        ∙ ap Some (sym same.types);
    chars = same-chars n o q same h.chars;
    small = same-small n o q same h.small;
  }

  module _ (globals : List GlobalDecl) where
    -- ---- a cell that is written

    module _ (m : Memory) (q : Name) (k : ℕ) (t : Ty) (old new : Value) (held : value_in (m.at q) k t ≡ Ok old) (h : IsFormed types globals m) where
      abbrev cell : Cell
      cell = record { ty = t; value = new }

      abbrev after : Memory
      after = record m { at = put m.at q (option_map (object_with k cell) (m.at q)) }

      -- what stands there now has the form of what stood there
      record Was (o : Option Object) (now : Object) : Type 0 where
        before : Object
        is : o ≡ Some before
        same : SameShape before now

      was : (o : Option Object) (now : Object) → value_in o k t ≡ Ok old → option_map (object_with k cell) o ≡ Some now → Was o now
      was None now there is = absurd (none-some now is)
      was (Some o) now there is =
          record { before = o; is = refl; same = subst (SameShape o) (same_Some (object_with k cell o) now is) (same_shape-with o k t old new there) }

      put-formed : IsFormed types globals after
      put-formed = record {
        objects = λ n o at. put-cases (λ x. x ≡ Some o → IsFormedAs types n o) m.at q n (option_map (object_with k cell) (m.at q)) (here n o) (λ other is. h.objects n o is) at;
        named = λ i d is. global i d is (h.named i d is);
      }
        where
          here : (n : Name) (o : Object) → n ≡ q → option_map (object_with k cell) (m.at q) ≡ Some o → IsFormedAs types n o
          here n o same is =
              let before = was (m.at q) o held is in
              same-form n before.before o before.same (h.objects n before.before (ap m.at same ∙ before.is))

          global : (i : ℕ) (d : GlobalDecl) → slice_get globals i ≡ Some d → (o : Object) × (m.at (Glob i) ≡ Some o) × (o.ty ≡ d.ty) × (o.count ≡ d.count)
              → (o : Object) × (after.at (Glob i) ≡ Some o) × (o.ty ≡ d.ty) × (o.count ≡ d.count)
          global i d is (o, at, ty, count) = elim (same_name (Glob i) q) [
            | inl same ↦
                let there : m.at q ≡ Some o = ap m.at (sym same) ∙ at in (
                  object_with k cell o,
                  ap after.at same ∙ put-same m.at q (option_map (object_with k cell) (m.at q)) ∙ ap (option_map (object_with k cell)) there,
                  ty,
                  count,
                )
            | inr other ↦ (o, put-other m.at q (Glob i) (option_map (object_with k cell) (m.at q)) other ∙ at, ty, count)
          ]

    value-formed : (m : Memory) (p : Value) (t : Ty) (old new : Value) → value_at m p t ≡ Ok old → IsFormed types globals m → IsFormed types globals (with_value m p t new)
    value-formed m (Num z) t old new held h = h
    value-formed m Null t old new held h = h
    value-formed m (Ptr q k) t old new held h = put-formed m q k t old new held h
    value-formed m Free t old new held h = h
    value-formed m (Held x) t old new held h = h
    value-formed m Undef t old new held h = h

    pub written-formed : (m after : Memory) (p : Value) (t : Ty) (f : Value → Result Value Trap) → written m p t (and_then (value_at m p t) f) ≡ Ok after → IsFormed types globals m
        → IsFormed types globals after
    written-formed m after p t f is h =
        let (new, gave, same) = written_ok m after p t (and_then (value_at m p t) f) is in
        let (old, held, made) = and_then_ok (value_at m p t) f new gave in
        subst (IsFormed types globals) (sym same) (value-formed m p t old new held h)

    -- ---- allocation and release

    low-count : (m : Memory) (width count : ℕ) → alloc_fault m width count ≡ None → count * width ≤ 65536
    low-count m width count h = by (nat_lt count 1) (nat_lt 65536 (count * width)) refl h
      where
        by : (a b : Bool) → nat_lt 65536 (count * width) ≡ b → (if a || b then Some trap.Size else (if nat_lt 4194304 (m.live + count * width) then Some trap.Heap else None)) ≡ None
            → count * width ≤ 65536
        by true b is none = absurd cc
        by false true is none = absurd cc
        by false false is none = let lt = ltb-false 65536 (count * width) is in omega (arith, lt)

    no-fault : (o : Option Trap) (m after : Memory) → unless_fault o m ≡ Ok after → o ≡ None
    no-fault None m after h = refl
    no-fault (Some e) m after h = absurd cc

    pub alloc-formed : (m after : Memory) (e : ℕ) (count : ℕ) (zeros : Bool) (complete : (ts : List Ty) × (layout types e ≡ Some ts)) → alloc m e (cells types e) (pos count) zeros ≡ Ok after
        → IsFormed types globals m → IsFormed types globals after
    alloc-formed m after e count zeros (ts, has) is h =
        let ok = alloc_ok m after e count (cells types e) zeros is in
        let o = fresh_object m.next e (cells types e) count zeros in
        let low = low-count m (length (cells types e)) count (no-fault (alloc_fault m (length (cells types e)) count) (made m m.next o) after is) in
        let formed = fresh-formed types m.next e count zeros ts has low in
        subst (IsFormed types globals) (sym ok.1)
        record {
          objects = λ n q at.
              put-cases (λ x. x ≡ Some q → IsFormedAs types n q) m.at (Heap m.next) n (Some o)
              (λ same there. subst (λ x. IsFormedAs types n x) (same_Some o q there) (subst (λ x. IsFormedAs types x o) (sym same) (record { shaped = formed.0; chars = tt; small = formed.1 })))
              (λ other there. h.objects n q there) at;
          named = λ i d there.
              let (q, at, ty, count) = h.named i d there in (q, put-other m.at (Heap m.next) (Glob i) (Some o) refl ∙ at, ty, count);
        }

    pub release-formed : (m after : Memory) (p : Value) → release m p ≡ Ok after → IsFormed types globals m → IsFormed types globals after
    release-formed m after (Num z) is h = absurd cc
    release-formed m after Null is h = let same : m ≡ after = cc in subst (IsFormed types globals) same h
    release-formed m after Free is h = absurd cc
    release-formed m after (Held x) is h = absurd cc
    release-formed m after Undef is h = absurd cc
    release-formed m after (Ptr n k) is h =
        let (a, o, name, there, same) = release_ok m after n k is in
        subst (IsFormed types globals) (sym same)
        record {
          objects = λ q x at.
              put-cases (λ y. y ≡ Some x → IsFormedAs types q x) m.at (Heap a) q None (λ here none. absurd (none-some x none)) (λ other at. h.objects q x at) at;
          named = λ i d there. let (q, at, ty, count) = h.named i d there in (q, put-other m.at (Heap a) (Glob i) None refl ∙ at, ty, count);
        }
