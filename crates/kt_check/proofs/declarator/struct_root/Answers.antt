use Rattle.std.proofs.Common.{ap, ◌∙◌, map}
use Rattle.kt_names.specs.declared.ctype.Root.TheVariants as root
use Rattle.kt_names.specs.Types.{number_of_struct}
use Rattle.kt_check.proofs.Declarations.{struct-found, struct-missing}
use Rattle.kt_check.proofs.declarator.struct_root.Goals as goal

pub returns-in-Ok-clause-ok : goal.returns-in-Ok-clause-ok
returns-in-Ok-clause-ok c =
    let keys = c.args.env.now.names.now.keys in
    ap root.Struct
    (c.in-Ok.ensures.1
    ∙ struct-found keys c.as_bytes.result.now c.in-Some.place c.in-Some.ensures.index
    ∙ ap (number_of_struct (map (λ k. k.items) keys)) c.as_bytes.ensures.bytes)

pub returns-in-None-clause-ok : goal.returns-in-None-clause-ok
returns-in-None-clause-ok c =
    let keys = c.args.env.now.names.now.keys in
    ap root.Struct
    (struct-missing keys c.as_bytes.result.now c.in-None.ensures.index
    ∙ ap (number_of_struct (map (λ k. k.items) keys)) c.as_bytes.ensures.bytes)
