use Rattle.std.proofs.Common.{rules, tests}
use Rattle.std.specs.Prelude.{bytes_eq, string_bytes}
use Rattle.std.proofs.lemmas.Iterator.{YieldsList-from_slice}
use Rattle.std.proofs.lemmas.Iterator.Search.{find_from_yields_List}
use Rattle.kt_edge.proofs.Entries.{Entry, bytes_of-first_entry}
use Rattle.kt_edge.proofs.memory.first_entry.Goals as goal

pub returns : goal.returns
returns c =
    let entries = c.args.entries.now in
    let name = c.args.name.now in
    let first = find_from_yields_List (λ (entry : Entry). bytes_eq (string_bytes entry.0) name) _ _ c.find.result c.find.ensures.ran (YieldsList-from_slice entries cc) (λ x b q k. search (rules, tests)) in
    bytes_of-first_entry entries name _ first
