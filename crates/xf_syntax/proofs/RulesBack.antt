-- Rules and rule files that are spelled are read back.
use Rattle.std.specs.Prelude.{◌≡◌, ℕ, ◌≤◌, false, List, ◌++◌, length, Option, Some, None, Ok}
use Rattle.std.proofs.Common.{refl, ap, ◌∙◌, arith}
use Rattle.kt_grammar.specs.declared.sign.Sign.TheVariants as signs
use Rattle.kt_grammar.specs.declared.symbol.Symbol.{Symbol}
use Rattle.kt_grammar.specs.declared.tree.Name.{Name}
use Rattle.kt_grammar.specs.Marks.{Mark, Joined, symbols_of, sign, name, ◌·◌}
use Rattle.kt_grammar.specs.Cursor.{◌>>=◌, begins_sign, behind, name_at}
use Rattle.kt_grammar.specs.Cut.{cut}
use Rattle.kt_grammar.specs.Laws.{ExprIsReadBack, ExprBegins}
use Rattle.kt_grammar.specs.Lists.{is_end}
use Rattle.kt_grammar.specs.TextLaws.{IsReadBack}
use Rattle.kt_grammar.proofs.Parts.{part-then, part-end, sign-then, sign-end, name-then, name-end, token-then, token-end, joined-right, signed, worded, first-end, first-then, first-joined}
use Rattle.kt_grammar.proofs.ListsBack.{joined-length, token-length, IsTurn}
use Rattle.kt_grammar.proofs.ItemTexts.{some-end, each-read-back}
use Rattle.xf_syntax.specs.declared.tree.StructName.{StructName}
use Rattle.xf_syntax.specs.declared.tree.Target.{Target}
use Rattle.xf_syntax.specs.declared.tree.Target.TheVariants as target
use Rattle.xf_syntax.specs.declared.tree.Side.{Side}
use Rattle.xf_syntax.specs.declared.tree.Side.TheVariants as side
use Rattle.xf_syntax.specs.Tree.{Code, Rule, StructsPaired, Started, Moved}
use Rattle.xf_syntax.specs.Spelling.{struct_name, target_spelling, side_spelling, ending, rule, rules}
use Rattle.xf_syntax.specs.Reading.{code_at, ending_at, field_behind, field_at, target_at, named_behind, side_at, struct_name_at, moved_behind, paired_behind, struct_behind, started_behind, rule_at, rules_at}
use Rattle.xf_syntax.proofs.Acts.{code-back}

-- ---- sides

field_behind-back : (n : ℕ) (s : StructName) (f : Name) (marks : List Mark) (rest : List Symbol) → Joined (sign 0 signs.Dot) (name 0 f) marks
    → field_behind s (symbols_of marks ++ rest) ≡ cut n marks rest (Ok (target.Field s f, rest))
unfolding field_behind
field_behind-back n s f marks rest is = sign-then _ rest _ is (omega arith) (name-end _ is.second (omega arith) refl)

field_at-back : (n : ℕ) (s : StructName) (f : Name) (marks : List Mark) (rest : List Symbol) → Joined (name 0 s.name) (sign 0 signs.Dot · name 0 f) marks
    → field_at s.at (symbols_of marks ++ rest) ≡ cut n marks rest (Ok (target.Field s f, rest))
unfolding field_at
field_at-back n s f marks rest is = name-then _ rest _ is (omega arith) (field_behind-back n s f is.back rest is.second)

target-back : (n : ℕ) (t : Target) (marks : List Mark) (rest : List Symbol) → target_spelling t marks → target_at (symbols_of marks ++ rest) ≡ cut n marks rest (Ok (t, rest))
unfolding target_at name_at
target-back n (target.Global g) marks rest is = token-end target_at rest _ is (omega arith) refl
target-back n (target.Field s f) marks rest is = let j = joined-right is in token-then target_at rest _ j (omega arith) (field_at-back n s f j.back rest j.second)

-- a global, where no two colons stand behind it
named_behind-global : (g : Name) (symbols : List Symbol) → begins_sign signs.DoubleColon symbols ≡ false → named_behind g symbols ≡ Ok (side.Target (target.Global g), symbols)
unfolding named_behind
named_behind-global g symbols h = rw h refl

-- a local behind its function's name
local-back : (n : ℕ) (f x : Name) (marks : List Mark) (rest : List Symbol) → Joined (sign 0 signs.DoubleColon) (name 0 x) marks → named_behind f (symbols_of marks ++ rest) ≡ cut n marks rest (Ok (side.Local f x, rest))
unfolding named_behind begins_sign
local-back n f x marks rest is = token-then (named_behind f) rest _ (signed is) (omega arith) (name-end (λ x. Ok (side.Local f x.0, x.1)) is.second (omega arith) refl)

side-back : (n : ℕ) (s : Side) (marks : List Mark) (rest : List Symbol) → side_spelling s marks → begins_sign signs.DoubleColon rest ≡ false → side_at (symbols_of marks ++ rest) ≡ cut n marks rest (Ok (s, rest))
unfolding side_at name_at
side-back n (side.Target (target.Global g)) marks rest is h = token-end side_at rest _ is (omega arith) (named_behind-global g rest h)
side-back n (side.Target (target.Field s f)) marks rest is h =
    let j = joined-right is in
    token-then side_at rest _ j (omega arith) (part-end (field_at s.at) _ n j.back rest (field_at-back n s f j.back rest j.second) refl)
side-back n (side.Local f x) marks rest is h = token-then side_at rest _ is (omega arith) (local-back n f x is.back rest is.second)

struct_name-back : (n : ℕ) (s : StructName) (marks : List Mark) (rest : List Symbol) → struct_name s marks → struct_name_at (symbols_of marks ++ rest) ≡ cut n marks rest (Ok (s, rest))
unfolding struct_name_at
struct_name-back n s marks rest is = token-then struct_name_at rest _ is (omega arith) (name-end _ is.second (omega arith) refl)

-- ---- the ends of rules

ending-back : ExprIsReadBack → ExprBegins → (n : ℕ) (c : Option Code) (marks : List Mark) (rest : List Symbol) → ending c marks → ending_at n (symbols_of marks ++ rest) ≡ cut n marks rest (Ok (c, rest))
unfolding ending_at begins_sign behind
ending-back back begins n None marks rest is = token-end (ending_at n) rest _ is.1 (omega arith) refl
ending-back back begins n (Some c) marks rest is =
    token-then (ending_at n) rest _ (signed is) (omega arith) (part-end (code_at n) _ n is.back rest (code-back back begins n c is.back rest is.second) refl)

-- what ends a rule begins with no two colons
ending-colons : (c : Option Code) (marks : List Mark) (rest : List Symbol) → ending c marks → begins_sign signs.DoubleColon (symbols_of marks ++ rest) ≡ false
unfolding begins_sign
ending-colons None marks rest is = first-end (λ r. begins_sign signs.DoubleColon r ≡ false) rest is.1 refl
ending-colons (Some c) marks rest is = first-then (λ r. begins_sign signs.DoubleColon r ≡ false) rest (signed is) refl

-- ---- rules

module _ (back : ExprIsReadBack) (begins : ExprBegins) (n : ℕ) where
  moved_behind-back : (a b : Side) (c : Option Code) (marks : List Mark) (rest : List Symbol) → Joined (sign 0 signs.Arrow) (side_spelling b · ending c) marks
      → moved_behind n a (symbols_of marks ++ rest) ≡ cut n marks rest (Ok (Moved a b c, rest))
  unfolding moved_behind
  moved_behind-back a b c marks rest is =
      let j = is.second in
      sign-then _ rest _ is (omega arith)
      (part-then side_at _ n rest _ j (side-back n b j.front (symbols_of j.back ++ rest) j.first (ending-colons c j.back rest j.second))
      (part-end (ending_at n) _ n j.back rest (ending-back back begins n c j.back rest j.second) refl))

  -- a field stands behind the struct
  struct_behind-field : (s : StructName) (symbols : List Symbol) → begins_sign signs.Arrow symbols ≡ false → struct_behind n s symbols ≡ (field_behind s symbols >>= λ f. moved_behind n (side.Target f.0) f.1)
  unfolding struct_behind
  struct_behind-field s symbols h = rw h refl

  field-moved-back : (s : StructName) (f : Name) (b : Side) (c : Option Code) (marks : List Mark) (rest : List Symbol)
      → Joined (sign 0 signs.Dot · name 0 f) (sign 0 signs.Arrow · side_spelling b · ending c) marks
      → struct_behind n s (symbols_of marks ++ rest) ≡ cut n marks rest (Ok (Moved (side.Target (target.Field s f)) b c, rest))
  unfolding begins_sign
  field-moved-back s f b c marks rest is =
      struct_behind-field s (symbols_of marks ++ rest)
      (first-joined (λ r. begins_sign signs.Arrow r ≡ false) rest is (first-then (λ r. begins_sign signs.Arrow r ≡ false) (symbols_of is.back ++ rest) (signed is.first) refl))
      ∙ part-then (field_behind s) _ n rest _ is (field_behind-back n s f is.front (symbols_of is.back ++ rest) is.first)
      (moved_behind-back (side.Target (target.Field s f)) b c is.back rest is.second)

  moved-back : (a b : Side) (c : Option Code) (marks : List Mark) (rest : List Symbol) → rule (Moved a b c) marks → rule_at n (symbols_of marks ++ rest) ≡ cut n marks rest (Ok (Moved a b c, rest))
  unfolding rule_at name_at begins_sign
  moved-back (side.Target (target.Global g)) b c marks rest is =
      token-then (rule_at n) rest _ is (omega arith)
      (ap (λ r. r >>= λ left. moved_behind n left.0 left.1)
      (named_behind-global g (symbols_of is.back ++ rest) (first-then (λ r. begins_sign signs.DoubleColon r ≡ false) rest (signed is.second) refl))
      ∙ moved_behind-back (side.Target (target.Global g)) b c is.back rest is.second)
  moved-back (side.Target (target.Field s f)) b c marks rest is =
      let j = joined-right (joined-right is) in
      token-then (rule_at n) rest _ j (omega arith)
      (name-then (λ x. struct_behind n (record { at = s.at; name = x.0 }) x.1) rest _ j.second (omega arith)
      (field-moved-back s f b c j.second.back rest j.second.second))
  moved-back (side.Local f x) b c marks rest is =
      let j = joined-right is in
      token-then (rule_at n) rest _ j (omega arith)
      (part-then (named_behind f) _ n rest _ j.second (local-back n f x j.second.front (symbols_of j.second.back ++ rest) j.second.first)
      (moved_behind-back (side.Local f x) b c j.second.back rest j.second.second))

  paired-back : (a b : StructName) (marks : List Mark) (rest : List Symbol) → rule (StructsPaired a b) marks → rule_at n (symbols_of marks ++ rest) ≡ cut n marks rest (Ok (StructsPaired a b, rest))
  unfolding rule_at struct_behind paired_behind begins_sign
  paired-back a b marks rest is =
      let j = joined-right is in
      let k = j.second in
      let l = k.second in
      token-then (rule_at n) rest _ j (omega arith)
      (name-then (λ x. struct_behind n (record { at = a.at; name = x.0 }) x.1) rest _ k (omega arith)
      (token-then (struct_behind n a) rest _ (signed l) (omega arith)
      (part-then struct_name_at _ n rest _ l.second (struct_name-back n b l.second.front (symbols_of l.second.back ++ rest) l.second.first)
      (sign-end _ l.second.second (omega arith) refl))))

  started-back : (t : Target) (c : Option Code) (marks : List Mark) (rest : List Symbol) → rule (Started t c) marks → rule_at n (symbols_of marks ++ rest) ≡ cut n marks rest (Ok (Started t c, rest))
  unfolding rule_at started_behind
  started-back t c marks rest is =
      let j = is.second in
      token-then (rule_at n) rest _ (worded is) (omega arith)
      (part-then target_at _ n rest _ j (target-back n t j.front (symbols_of j.back ++ rest) j.first)
      (part-end (ending_at n) _ n j.back rest (ending-back back begins n c j.back rest j.second) refl))

  rule-back : (x : Rule) (marks : List Mark) (rest : List Symbol) → rule x marks → rule_at n (symbols_of marks ++ rest) ≡ cut n marks rest (Ok (x, rest))
  rule-back (StructsPaired a b) marks rest is = paired-back a b marks rest is
  rule-back (Started t c) marks rest is = started-back t c marks rest is
  rule-back (Moved a b c) marks rest is = moved-back a b c marks rest is

-- a rule takes a token
rule-some : (x : Rule) (marks : List Mark) → rule x marks → 1 ≤ length marks
rule-some (StructsPaired a b) marks is = let a = joined-length is in let b = joined-length is.second in let c = token-length is.second.first.1 in omega arith
rule-some (Started t c) marks is = let a = joined-length is in let b = token-length is.first.1 in omega arith
rule-some (Moved a b c) marks is = let a = joined-length is in let b = joined-length is.second in let c = token-length is.second.first.1 in omega arith

rule-turn : ExprIsReadBack → ExprBegins → (n : ℕ) → IsTurn rule (rule_at n) is_end n
rule-turn back begins n = record { some = rule-some; first = λ x marks rest is. some-end marks rest (rule-some x marks is); back = rule-back back begins n }

pub rules-back : ExprIsReadBack → ExprBegins → IsReadBack rules rules_at
unfolding rules_at
rules-back back begins n xs marks is = each-read-back rule (rule_at n) n (rule-turn back begins n) xs marks is
