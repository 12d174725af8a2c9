use Rattle.std.proofs.Common.{ap, ◌∙◌, not}
use Rattle.std.specs.List.{list_all}
use Rattle.kt_lone.specs.Update.{is_int}
use Rattle.kt_stage.proofs.Lists.{any-mapped, both}
use Rattle.kt_stage.proofs.stage.keeps_only_ints.Goals as goal

pub returns-then-are_ints : goal.returns-then-are_ints
returns-then-are_ints c =
    both c.if-are_ints.true (c.are_ints.ensures ∙ ap (list_all is_int) c.globals.ensures)
    (ap not (any-mapped (λ f. f.noted) _ c.args.version.now.functions _ c.functions.ensures c.some_is_noted.ensures))
