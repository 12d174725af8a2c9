use Rattle.std.proofs.Common.{◌≡◌, ◌≢◌, ◌<◌, ℕ, Some, map, take, slice_get}
use Rattle.kt_types.specs.declared.kinds.FieldDecl.{FieldDecl}
use Rattle.kt_types.proofs.table.distinct_names.Given as goal

abbrev pub invariant-loop-field : goal.invariant-loop-field
invariant-loop-field l = record {
  names : map (λ name. name.items) l.names.keys ≡ map (λ f. f.name) (take l.field-index l.fields);
  apart : (i j : ℕ) (f g : FieldDecl) → i < j → j < l.field-index → slice_get l.fields i ≡ Some f → slice_get l.fields j ≡ Some g → f.name ≢ g.name;
}
