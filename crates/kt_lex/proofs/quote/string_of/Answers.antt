use Rattle.std.proofs.Common.{◌≡◌, sym, subst, arith}
use Rattle.std.specs.Prelude.{IfOk}
use Rattle.std.specs.Option.{option_map}
use Rattle.kt_lex.proofs.Scans.{string_value-is}
use Rattle.kt_lex.proofs.quote.string_of.Goals as goal

pub returns-in-len2-up : goal.returns-in-len2-up
returns-in-len2-up c =
    subst (λ v. IfOk c.bytes_in.result (λ text. option_map (λ v. v.items) text ≡ v)) (sym (string_value-is c.args.spelling.now (omega arith))) c.bytes_in.ensures
