use Rattle.std.proofs.Common.{sym, ap, ◌∙◌}
use Rattle.kt_names.specs.declared.ctype.Root.TheVariants as root
use Rattle.kt_names.specs.Types.{root_of, number_of_struct}
use Rattle.kt_names.specs.Views.{environment_of}
use Rattle.kt_terms.proofs.name.root_of.Goals as goal

pub returns-in_ok-number-in-Struct-clause-ok : goal.returns-in_ok-number-in-Struct-clause-ok
returns-in_ok-number-in-Struct-clause-ok c =
    let names = (environment_of c.args.env.now).names in
    ap root.Struct (c.in_ok-number-in-Struct.ensures.ok ∙ ap (number_of_struct names) c.as_bytes.ensures.bytes)
    ∙ ap (root_of names) (sym c.in-Struct.is)
