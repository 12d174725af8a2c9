use Rattle.std.proofs.Common.{map, ap, ◌∙◌}
use Rattle.std.specs.Option.{option_or}
use Rattle.std.specs.List.{position_from}
use Rattle.std.specs.Map.{lookup}
use Rattle.std.specs.Str.{bytes_eq}
use Rattle.kt_syntax.specs.Tree.{external_of, routine_of}
use Rattle.kt_names.specs.Tables.{defined_in, global_from}
use Rattle.kt_names.specs.Outers.{outer_in, global_of, first_function}
use Rattle.kt_names.proofs.Outers.{outer-is}
use Rattle.kt_names.proofs.outer.outer_table.Goals as goal

pub returns : goal.returns
returns c q =
    let names = map (λ n. n.items) c.args.structs.now.keys in
    let number = lookup (λ k. bytes_eq q k.items) c.in_ok-numbers.numbers.entries in
    outer-is names (map external_of c.args.items.now) q (outer_in c.in_ok-outer.outer.entries q) (outer_in c.put_functions.new.outer.entries q) (map (λ f. routine_of f.now) c.in_ok-functions.functions.items) number
    (c.in_ok-outer.ensures q ∙ ap (λ gs. global_from names 0 (map global_of gs) q) c.deref-2.ensures.value ∙ ap (λ gs. global_from names 0 gs q) c.in_ok-globals.ensures)
    c.in_ok-functions.ensures
    (c.in_ok-numbers.ensures q ∙ ap (λ fs. position_from (λ f. bytes_eq f.name.word q) 0 (defined_in (map (λ f. routine_of f.now) fs))) c.deref.ensures.value)
    (c.in_ok-put_functions.ensures q ∙ ap (λ fs. option_or (outer_in c.in_ok-outer.outer.entries q) (first_function names number (map (λ f. routine_of f.now) fs) q)) c.deref-3.ensures.value)
