use Rattle.std.proofs.Common.{map, ap, ◌∙◌, subst, List, ℕ}
use Rattle.kt_syntax.specs.Tree.{external_of}
use Rattle.kt_names.specs.Judges.{Judges}
use Rattle.kt_names.specs.Tables.{outer_named}
use Rattle.kt_check.specs.Files.{Frame}
use Rattle.kt_check.specs.Stages.{sofar_of, typed_from}
use Rattle.kt_check.proofs.checking.declared.Goals as goal

pub returns : goal.returns
returns c =
    let xs = map external_of c.args.file.now.items in
    subst (λ (f : Frame). Judges sofar_of c.typed.result (typed_from f c.args.file.now.length))
    (λ i. record {
      externals = map external_of (c.as_slice.ensures i);
      names = c.requires.structs i;
      types = c.requires.types i;
      outer = λ q. (c.requires.outer q ∙ ap (λ (ns : List (List ℕ)). outer_named ns xs q) c.requires.structs) i;
      literal = λ at. c.requires.numbers at i;
      points = c.requires.points i;
    })
    c.typed.ensures
