use Rattle.std.proofs.Common.{◌≡◌, ◌++◌, drop}
use Rattle.std.specs.List.{AllByRecursion}
use Rattle.kt_words.specs.Form.{texts, IsName}
use Rattle.kt_words.proofs.form.take_names.Given as goal

-- with the rest of the names they are all, and all are names where the rest are
abbrev pub invariant-loop-name : goal.invariant-loop-name
invariant-loop-name l = record {
  files : texts l.files.items ++ texts (drop l.name-index l.names) ≡ texts l.fn.files.items ++ texts l.names;
  named : AllByRecursion IsName (texts (drop l.name-index l.names)) → AllByRecursion IsName (texts l.names);
  only : AllByRecursion IsName (texts l.names) → AllByRecursion IsName (texts (drop l.name-index l.names));
}
