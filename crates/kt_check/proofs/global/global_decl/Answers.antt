use Rattle.std.proofs.Common.{◌≡◌, Ok, subst, sym, ap, ◌∙◌}
use Rattle.kt_names.specs.Environment.{Environment}
use Rattle.kt_names.specs.Types.{place_in}
use Rattle.kt_names.specs.Statements.{pointer_outside}
use Rattle.kt_names.specs.Tables.{view_of}
use Rattle.kt_check.specs.Stages.{frame_seen}
use Rattle.kt_check.proofs.global.global_decl.Goals as goal

pub returns : goal.returns
returns c =
    let f = frame_seen c.args.frame.now in
    let d = c.args.g.now.declarator in
    let view : c.view_of-view.result ≡ view_of f.outer c.args.base.now d.pointer =
    subst (λ (e : Environment). pointer_outside e d.pointer ≡ Ok tt → c.view_of-view.result ≡ view_of e.outer c.args.base.now d.pointer) c.outside-env.ensures c.view_of-view.ensures c.requires.viewed in
    let name : c.from_vec.result ≡ d.name.word = c.from_vec.ensures ∙ c.in_ok-name.ensures.items ∙ c.as_bytes.ensures.bytes in
    let place = c.place.ensures ∙ ap (place_in f.types) c.declared_type-t.ensures in
    sym (λ i. Ok (record { name = name i; ty = place i; count = c.elements.ensures c.requires.counted i; array = c.is_some.ensures i; view = view i; init = c.args.init }))
