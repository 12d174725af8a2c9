use Rattle.std.proofs.Common.{None, Some, ap, ◌∙◌, if◌then◌else◌}
use Rattle.std.specs.Option.{option_or}
use Rattle.std.specs.Map.{lookup}
use Rattle.std.specs.Str.{bytes_eq}
use Rattle.indexmap.proofs.CallerLemmas.{insert_entry-new}
use Rattle.kt_names.proofs.Noted.{put-now}
use Rattle.kt_names.proofs.put.put_new.Goals as goal

pub returns : goal.returns
returns g c q =
    let es = c.args.table.now.entries in
    let absent = ap (λ n. lookup (λ k. bytes_eq n k.items) es) c.in_ok-name.ensures.items ∙ c.requires in
    ap (lookup (λ k. bytes_eq q k.items)) (c.in_ok-insert.ensures.entries ∙ insert_entry-new (λ a b. bytes_eq a.items b.items) c.args.table.now c.in_ok-name.name c.args.value absent)
    ∙ put-now es c.in_ok-name.name c.args.value q
    ∙ ap (λ n. option_or (lookup (λ k. bytes_eq q k.items) es) (if bytes_eq n q then Some c.args.value else None)) c.in_ok-name.ensures.items
