use Rattle.std.proofs.Common.{◌≡◌, List, map, take, sym, ap, ◌∙◌, subst, ℕ}
use Rattle.kt_tree.specs.Version.{AreDistinct, global_names}
use Rattle.kt_tree.proofs.Distinct.{distinct-front, distinct-back, distinct-take, names-of-functions}
use Rattle.kt_tree.proofs.version.Version.new.Goals as goal

pub names_of_globals-requires-clause-distinct : goal.names_of_globals-requires-clause-distinct
names_of_globals-requires-clause-distinct c = rw c.as_slice.ensures (distinct-front _ _ c.requires.program.distinct)

pub names_of_functions-requires-clause-distinct : goal.names_of_functions-requires-clause-distinct
names_of_functions-requires-clause-distinct c =
    subst AreDistinct (names-of-functions c.args.functions ∙ ap (map (λ f. f.name)) (sym c.as_slice-2.ensures))
    (distinct-back (map (λ g. g.name) c.args.globals) _ c.requires.program.distinct)

pub names_of-requires-clause-distinct : goal.names_of-requires-clause-distinct
names_of-requires-clause-distinct c = rw c.update_points.ensures (distinct-take c.args.points.updates c.args.points.names c.requires.program.points)

pub invariant_of-result : goal.invariant_of-result
invariant_of-result c = record {
  program = c.requires.program;
  numbered = c.requires.numbered;
  global_names = c.in-Ok.ensures ∙ ap (map (λ g. g.name)) c.as_slice.ensures;
  function_names = c.in-Ok-names_of_functions.ensures ∙ ap (map (λ f. f.name)) c.as_slice-2.ensures ∙ sym (names-of-functions c.args.functions);
  point_names = c.in-Ok-names_of.ensures ∙ c.update_points.ensures;
}
