-- The cells of new things, and how many elements a pointer in each is to point to, as the new declarations say.
use Rattle.std.specs.Prelude.{ℕ, zero, suc, ◌+◌, ◌==◌, List, [], ◌∷◌, ◌++◌, length, slice_get, Option, None, Some, if◌then◌else◌}
use Rattle.kt_types.specs.declared.kinds.FieldDecl.{FieldDecl}
use Rattle.kt_types.specs.declared.kinds.Ty.{Ty}
use Rattle.kt_types.specs.declared.kinds.Ty.TheVariants.{Struct, Array, Ptr}
use Rattle.kt_types.specs.declared.kinds.View.{View}
use Rattle.kt_types.specs.declared.kinds.View.TheVariants as view
use Rattle.kt_types.specs.Table.{Table, fields_of}
use Rattle.kt_types.specs.Layout.{cells_before}
use Rattle.kt_tree.specs.Kinds.{char_type}
use Rattle.xf_plan.specs.Plan.{GlobalRule}
use Rattle.xf_plan.specs.Sources.{width}

pub data Extent : Type 0 where
  -- the whole object, whatever its count
  Whole : Extent
  Elements : ℕ → Extent
  -- as many elements as the new global of that number says, and as the cell so many cells behind the start of the thing says
  AsGlobal : ℕ → Extent
  AsCell : ℕ → Extent

-- a scalar cell of a new thing
pub record NewCell : Type 0 where
  pub ty : Ty
  pub extent : Extent

-- the extent that a view says, in a struct of these fields so many cells behind the start of the thing
abbrev pub extent_of : Table → List FieldDecl → ℕ → View → Extent
extent_of t fields start view.One = Elements 1
extent_of t fields start view.Whole = Whole
extent_of t fields start (view.Count n) = Elements n
extent_of t fields start (view.Global g) = AsGlobal g
extent_of t fields start (view.Field k) = AsCell (start + cells_before t fields k)

-- the extent of a pointer that no declaration names: a plain `char *` points to a whole object, any other one to one element
abbrev pub plain_extent : Option Ty → Extent
plain_extent (Some (Ptr b)) = if b == char_type then Whole else Elements 1
plain_extent t = Elements 1

-- ---- cells of types

-- the cells of m elements, of which `at` gives those that begin somewhere; each has w cells
abbrev pub element_cells : (ℕ → List NewCell) → ℕ → ℕ → ℕ → List NewCell
element_cells at w start zero = []
element_cells at w start (suc m) = at start ++ element_cells at w (start + w) m

-- the cells of fields that begin here, one after another; `all` are the struct's fields, which begins at `start`
abbrev pub field_cells : Table → (ℕ → Extent → ℕ → List NewCell) → List FieldDecl → ℕ → ℕ → List FieldDecl → List NewCell
field_cells t at all start here [] = []
field_cells t at all start here (f ∷ rest) =
    at here (extent_of t all start f.view) f.ty ++ field_cells t at all start (here + width t f.ty) rest

abbrev pub struct_cells : Table → (ℕ → Extent → ℕ → List NewCell) → ℕ → Option (List FieldDecl) → List NewCell
struct_cells t at start None = []
struct_cells t at start (Some fields) = field_cells t at fields start start fields

abbrev pub cells_of_type : Table → (ℕ → Extent → ℕ → List NewCell) → ℕ → Extent → Option Ty → List NewCell
cells_of_type t at start own None = []
cells_of_type t at start own (Some (Struct r)) = struct_cells t at start (fields_of t r)
cells_of_type t at start own (Some (Array e m)) = element_cells (λ here. at here own e) (width t e) start m
cells_of_type t at start own (Some u) = record { ty = u; extent = own } ∷ []

-- of the type at a place, through at most n types
abbrev pub cells_within : Table → ℕ → ℕ → Extent → ℕ → List NewCell
cells_within t zero start own b = []
cells_within t (suc n) start own b = cells_of_type t (cells_within t n) start own (slice_get t.types b)

-- the cells of a thing of the type at a place, which begins so many cells behind the start of a larger one; `own` is the extent
-- of its pointers, where it has no fields
abbrev pub new_cells : Table → ℕ → Extent → ℕ → List NewCell
new_cells t start own b = cells_within t (length t.types) start own b

-- those of so many elements, as a heap object has them
abbrev pub object_cells : Table → ℕ → ℕ → List NewCell
object_cells t b count = element_cells (λ here. new_cells t here (plain_extent (slice_get t.types b)) b) (width t b) 0 count

-- those of a global
abbrev pub global_cells : Table → GlobalRule → List NewCell
global_cells t g = element_cells (λ here. new_cells t here (extent_of t [] 0 g.view) g.ty) (width t g.ty) 0 g.count
