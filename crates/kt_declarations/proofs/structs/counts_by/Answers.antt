use Rattle.std.proofs.Common.{ℕ, Option, is_some, ap, ◌∙◌}
use Rattle.kt_program.specs.Views.{is_count_field}
use Rattle.kt_declarations.specs.Fields.{counts_named, known, told}
use Rattle.kt_declarations.proofs.Within.{found-any}
use Rattle.kt_declarations.proofs.structs.counts_by.Goals as goal

pub returns-in-Some : goal.returns-in-Some
returns-in-Some c fields are =
    c.is_some.ensures ∙ ap is_some (c.count.ensures ∙ ap (λ n. (told (known c.args.names.now n)).1) c.as_bytes.ensures.bytes ∙ ap (λ (p : Option ℕ × Option ℕ). p.1) (are c.in-Some.n.now.word))
    ∙ found-any (is_count_field c.in-Some.n.now.word) 0 fields ∙ ap (counts_named fields) c.in-Some.ensures
