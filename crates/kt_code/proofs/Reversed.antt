-- Lists the other way round.
use Rattle.std.proofs.Common.{◌≡◌, List, reverse, ap, sym, ◌∙◌}
use Rattle.std.proofs.lemmas.List.{reverse-reverse}

-- two lists that are equal the other way round are equal
pub reversed_equal : {A : Type 0} (a b : List A) → reverse a ≡ reverse b → a ≡ b
reversed_equal a b h = sym (reverse-reverse a) ∙ (ap reverse h ∙ reverse-reverse b)
