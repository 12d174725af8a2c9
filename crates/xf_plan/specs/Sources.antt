-- From where each cell of a new thing has its value, where the thing comes from an old one: a list as long as the new thing has
-- cells. Places of old cells count from the start of the old thing.
use Rattle.std.specs.Prelude.{ℕ, zero, suc, ◌+◌, ◌-◌, ◌*◌, nat_le, List, [], ◌∷◌, ◌++◌, map, length, replicate, slice_get, Option, None, Some, option_and_then, if◌then◌else◌}
use Rattle.std.specs.Option.{option_map}
use Rattle.kt_types.specs.declared.kinds.FieldDecl.{FieldDecl}
use Rattle.kt_types.specs.declared.kinds.Ty.{Ty}
use Rattle.kt_types.specs.declared.kinds.Ty.TheVariants.{Struct, Array}
use Rattle.kt_types.specs.Table.{Table, fields_of}
use Rattle.kt_types.specs.Layout.{cells, cells_before}
use Rattle.xf_plan.specs.Bodies.{Actions}
use Rattle.xf_plan.specs.Plan.{Plan, is_pair, rules_of, FieldRule, FieldSource, OldField, ZeroField, FieldBody, GlobalRule, GlobalSource, Unmapped, OldGlobal, GlobalBody}
use Rattle.xf_plan.specs.Correspondence.{scalar_converts}

pub data Source : Type 0 where
  -- an old cell, by the default conversion
  FromCell : ℕ → Source
  -- zero, null or free
  Zero : Source
  -- a body, with the places of `$in` and of `$base`, where there are such
  FromBody : Option ℕ → Option ℕ → Actions → Source

abbrev pub width : Table → ℕ → ℕ
width t a = length (cells t a)

-- the source where the old thing stands so many cells behind the start of a larger one
abbrev pub moved_by : ℕ → Source → Source
moved_by k (FromCell i) = FromCell (k + i)
moved_by k Zero = Zero
moved_by k (FromBody source base body) = FromBody (option_map (λ i. k + i) source) (option_map (λ i. k + i) base) body

-- those of n elements, where an old element has w cells
abbrev pub of_elements : ℕ → ℕ → List Source → List Source
of_elements w zero xs = []
of_elements w (suc n) xs = xs ++ map (moved_by w) (of_elements w n xs)

-- those of an array or global of m elements of z cells that comes from one of n elements: the rest are zero
abbrev pub of_longer : ℕ → ℕ → ℕ → ℕ → List Source → Option (List Source)
of_longer w n z m xs = if nat_le n m then Some (of_elements w n xs ++ replicate ((m - n) * z) Zero) else None

-- ---- structs

-- the type of an old field, and how many cells stand before it
abbrev pub field_type : Option FieldDecl → Option ℕ
field_type f = option_map (λ d. d.ty) f

abbrev pub old_field : Plan → List FieldDecl → ℕ → Option ℕ
old_field p fields k = field_type (slice_get fields k)

-- those of a field, where the old struct has these fields and `at` gives those of types
abbrev pub of_field : Plan → (ℕ → ℕ → Option (List Source)) → List FieldDecl → FieldRule → FieldSource → Option (List Source)
of_field p at fields f (OldField k) =
    option_and_then (λ a. option_map (map (moved_by (cells_before p.old fields k))) (at a f.ty)) (old_field p fields k)
of_field p at fields f ZeroField = Some (replicate (width p.new f.ty) Zero)
of_field p at fields f (FieldBody source body) = Some (FromBody (option_map (cells_before p.old fields) source) (Some 0) body ∷ [])

-- those of these fields, one after another
abbrev pub of_fields : Plan → (ℕ → ℕ → Option (List Source)) → List FieldDecl → List FieldRule → Option (List Source)
of_fields p at fields [] = Some []
of_fields p at fields (f ∷ rest) =
    option_and_then (λ xs. option_map (λ ys. xs ++ ys) (of_fields p at fields rest)) (of_field p at fields f f.source)

abbrev pub of_struct : Plan → (ℕ → ℕ → Option (List Source)) → ℕ → ℕ → Option (List Source)
of_struct p at s r =
    if is_pair p.structs s r then option_and_then (λ fields. of_fields p at fields (rules_of p r)) (fields_of p.old s) else None

-- ---- all types

abbrev pub of_types : Plan → (ℕ → ℕ → Option (List Source)) → Ty → Ty → Option (List Source)
of_types p at (Struct s) (Struct r) = of_struct p at s r
of_types p at (Array a n) (Array b m) = option_and_then (of_longer (width p.old a) n (width p.new b) m) (at a b)
of_types p at t u = if scalar_converts p t u then Some (FromCell 0 ∷ []) else None

abbrev pub of_both : Plan → (ℕ → ℕ → Option (List Source)) → Option Ty → Option Ty → Option (List Source)
of_both p at (Some t) (Some u) = of_types p at t u
of_both p at _ _ = None

-- of the types at two places, through at most n types
abbrev pub sources_within : Plan → ℕ → ℕ → ℕ → Option (List Source)
sources_within p zero a b = None
sources_within p (suc n) a b = of_both p (sources_within p n) (slice_get p.old.types a) (slice_get p.new.types b)

-- those of a new thing of the type at place b that comes from an old one of the type at place a
abbrev pub sources : Plan → ℕ → ℕ → Option (List Source)
sources p a b = sources_within p (length p.new.types) a b

-- those of so many elements, as a heap object has them
abbrev pub object_sources : Plan → ℕ → ℕ → ℕ → Option (List Source)
object_sources p a b count = option_map (of_elements (width p.old a) count) (sources p a b)

-- those of a global; none where it isn't mapped
abbrev pub global_sources : Plan → GlobalRule → GlobalSource → Option (List Source)
global_sources p g Unmapped = None
global_sources p g (OldGlobal number a n) = option_and_then (of_longer (width p.old a) n (width p.new g.ty) g.count) (sources p a g.ty)
global_sources p g (GlobalBody source body) = Some (FromBody (option_map (λ i. 0) source) None body ∷ [])
