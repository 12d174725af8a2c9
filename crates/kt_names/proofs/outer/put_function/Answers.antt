use Rattle.std.proofs.Common.{map, ap, ◌∙◌, Some, None, if◌then◌else◌}
use Rattle.std.specs.Option.{option_map, option_or}
use Rattle.std.specs.Map.{lookup}
use Rattle.std.specs.Str.{bytes_eq}
use Rattle.kt_syntax.specs.Tree.{routine_of}
use Rattle.kt_names.specs.Views.{outer_of}
use Rattle.kt_names.specs.Environment.{Function}
use Rattle.kt_names.specs.declared.info.Outer.TheVariants as outer
use Rattle.kt_names.specs.Outers.{outer_in, signature_of}
use Rattle.kt_names.proofs.Outers.{map-or, function-put}
use Rattle.kt_names.proofs.outer.put_function.Goals as goal

pub returns : goal.returns
returns c fs q =
    let names = map (λ n. n.items) c.args.structs.now.keys in
    let info = outer.Function c.in_ok-declared.declared in
    function-put names c.args.numbers.now.entries (routine_of c.args.function.now) fs q (outer_in c.args.outer.now.entries q) (outer_in c.put.new.table.entries q) (outer_of info)
    (ap (option_map outer_of) (c.in_ok-put.ensures q) ∙ map-or outer_of (lookup (λ k. bytes_eq q k.items) c.args.outer.now.entries) (bytes_eq c.as_bytes.result.now q) info
    ∙ ap (λ n. option_or (outer_in c.args.outer.now.entries q) (if bytes_eq n q then Some (outer_of info) else None)) c.as_bytes.ensures.bytes)
    (ap Function (c.in_ok-declared.ensures ∙ ap (λ n. signature_of names n (routine_of c.args.function.now)) c.number_under.ensures))
