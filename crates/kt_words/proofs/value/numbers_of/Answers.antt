use Rattle.std.proofs.Common.{◌≡◌, ◌∙◌, ◌<◌, ◌≤◌, length, map, sym, ap, subst, arith, lit<, Some}
use Rattle.std.specs.Prelude.{IfOk}
use Rattle.std.proofs.lemmas.List.{length-map}
use Rattle.std.proofs.lemmas.Iterator.Consumers.{map_from_collect}
use Rattle.std.proofs.lemmas.Iterator.Splits.{YieldsList-from_str_split}
use Rattle.kt_words.specs.Orders.{each_number, numbers_of}
use Rattle.kt_words.proofs.Saying.{numbers-few, numbers-many}
use Rattle.kt_words.proofs.value.numbers_of.Goals as goal

pub returns-then-len-gt-MOST_REQUESTS-clause-err : goal.returns-then-len-gt-MOST_REQUESTS-clause-err
returns-then-len-gt-MOST_REQUESTS-clause-err c h =
    let parts = rw c.in_ok-parts.was at (map_from_collect c.collect.result c.collect.ensures.ran (YieldsList-from_str_split {s = c.split.result} 44 c.args.text.now (lit< tt) c.split.ensures.text c.split.ensures.has_more c.split.ensures.pattern)) in
    let many : 64 < length (map (λ part. part.now) c.in_ok-parts.parts.items) = omega (arith, length-map c.in_ok-parts.parts.items (λ part. part.now), c.len.ensures, c.in_ok-parts.parts.ok.0) in
    numbers-many c.args.text.now (map (λ part. part.now) c.in_ok-parts.parts.items) parts many

pub returns-clause-ok : goal.returns-clause-ok
returns-clause-ok c =
    let parts = rw c.in_ok-parts.was at (map_from_collect c.collect.result c.collect.ensures.ran (YieldsList-from_str_split {s = c.split.result} 44 c.args.text.now (lit< tt) c.split.ensures.text c.split.ensures.has_more c.split.ensures.pattern)) in
    let few : length (map (λ part. part.now) c.in_ok-parts.parts.items) ≤ 64 = omega (arith, length-map c.in_ok-parts.parts.items (λ part. part.now), c.len.ensures, c.in_ok-parts.parts.ok.0) in
    let same : each_number (map (λ part. part.now) c.as_slice.result.now) ≡ numbers_of c.args.text.now =
    ap (λ items. each_number (map (λ part. part.now) items)) c.as_slice.ensures.value ∙ sym (numbers-few c.args.text.now (map (λ part. part.now) c.in_ok-parts.parts.items) parts few)
    in
    subst (λ o. IfOk c.each_number.result (λ numbers. o ≡ Some numbers)) same c.each_number.ensures.ok

pub returns-clause-err : goal.returns-clause-err
returns-clause-err c h =
    let parts = rw c.in_ok-parts.was at (map_from_collect c.collect.result c.collect.ensures.ran (YieldsList-from_str_split {s = c.split.result} 44 c.args.text.now (lit< tt) c.split.ensures.text c.split.ensures.has_more c.split.ensures.pattern)) in
    let few : length (map (λ part. part.now) c.in_ok-parts.parts.items) ≤ 64 = omega (arith, length-map c.in_ok-parts.parts.items (λ part. part.now), c.len.ensures, c.in_ok-parts.parts.ok.0) in
    let same : each_number (map (λ part. part.now) c.as_slice.result.now) ≡ numbers_of c.args.text.now =
    ap (λ items. each_number (map (λ part. part.now) items)) c.as_slice.ensures.value ∙ sym (numbers-few c.args.text.now (map (λ part. part.now) c.in_ok-parts.parts.items) parts few)
    in
    sym same ∙ c.each_number.ensures.err h
