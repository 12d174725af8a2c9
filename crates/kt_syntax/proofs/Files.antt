-- C files that are spelled are read back.
use Rattle.std.specs.Prelude.{◌≡◌, ℕ, ◌+◌, ◌≤◌, false, List, [], ◌∷◌, ◌++◌, length, Ok}
use Rattle.std.proofs.Common.{refl, sym, ap, ◌∙◌, arith}
use Rattle.std.proofs.lemmas.List.{append-nil}
use Rattle.kt_grammar.specs.declared.symbol.Symbol.{Symbol}
use Rattle.kt_grammar.specs.Marks.{Mark, symbols_of}
use Rattle.kt_grammar.specs.Cursor.{until_at}
use Rattle.kt_grammar.specs.Cut.{cut}
use Rattle.kt_grammar.specs.Laws.{ExprIsReadBack, ExprBegins}
use Rattle.kt_grammar.specs.CutLaws.{cut-shallow, deepest, deepest-shallow}
use Rattle.kt_grammar.specs.StandsLaws.{same_value}
use Rattle.kt_syntax.specs.Tree.{External, StructMentioned, StructDefined, GlobalsDeclared, FunctionDeclared}
use Rattle.kt_syntax.specs.File.{IsFile, OneTree}
use Rattle.kt_syntax.specs.Laws.{FileIsReadBack, FileIsRead}
use Rattle.kt_syntax.specs.Spelling.{external}
use Rattle.kt_syntax.specs.Reading.{external_at, is_end, file_at}
use Rattle.kt_syntax.proofs.Lists.{joined-length, token-length, IsTurn, each-back}
use Rattle.kt_syntax.proofs.Phrases.{length-within}
use Rattle.kt_syntax.proofs.Structs.{mentioned-back, defined-back}
use Rattle.kt_syntax.proofs.Globals.{globals-back}
use Rattle.kt_syntax.proofs.Functions.{function-back}

-- ---- external declarations

pub external-back : ExprIsReadBack → ExprBegins → (n : ℕ) (x : External) (marks : List Mark) (rest : List Symbol) → external x marks → external_at n (symbols_of marks ++ rest) ≡ cut n marks rest (Ok (x, rest))
external-back back begins n (StructMentioned x) marks rest is = mentioned-back n x marks rest is
external-back back begins n (StructDefined x fs) marks rest is = defined-back n x fs marks rest is
external-back back begins n (GlobalsDeclared b gs) marks rest is = globals-back n b gs marks rest is
external-back back begins n (FunctionDeclared f) marks rest is = function-back back begins n f marks rest is

-- an external declaration takes a token
external-some : (x : External) (marks : List Mark) → external x marks → 1 ≤ length marks
external-some (StructMentioned x) marks is = let a = joined-length is in let b = token-length is.first.1 in omega arith
external-some (StructDefined x fs) marks is = let a = joined-length is.1 in let b = token-length is.1.first.1 in omega arith
external-some (GlobalsDeclared b gs) marks is =
    let c = joined-length is in
    let d = joined-length is.second in
    let e = joined-length is.second.second in
    let f = token-length is.second.second.second.1 in omega arith
external-some (FunctionDeclared f) marks is =
    let a = joined-length is in
    let b = joined-length is.second in
    let c = joined-length is.second.second in
    let d = joined-length is.second.second.second in
    let e = token-length is.second.second.second.first in omega arith

-- where a token stands is no end
some-end : (marks : List Mark) (rest : List Symbol) → 1 ≤ length marks → is_end (symbols_of marks ++ rest) ≡ false
some-end [] rest h = absurd (omega arith)
some-end (m ∷ marks) rest h = refl

external-turn : ExprIsReadBack → ExprBegins → (n : ℕ) → IsTurn external (external_at n) is_end n
external-turn back begins n = record { some = external-some; first = λ x marks rest is. some-end marks rest (external-some x marks is); back = external-back back begins n }

pub file-back : ExprIsReadBack → ExprBegins → FileIsReadBack
unfolding file_at
file-back back begins n xs marks is =
    ap (λ s. until_at is_end (external_at n) (length s) [] s) (sym (append-nil (symbols_of marks)))
    ∙ each-back external (external_at n) is_end n (external-turn back begins n) xs (length (symbols_of marks ++ [])) [] marks [] is refl (length-within marks [])

-- ---- one tree

-- a file that is spelled within a limit is read
pub file-read : FileIsReadBack → FileIsRead
file-read back n xs marks is shallow = back n xs marks is ∙ cut-shallow n marks [] (Ok (xs, [])) shallow

-- a file that is one is read within some limit
file-within : FileIsReadBack → (limit : ℕ) (symbols : List Symbol) (xs : List External) (f : IsFile symbols xs) → deepest f.marks ≤ limit → file_at limit symbols ≡ Ok (xs, [])
file-within back limit symbols xs f within =
    ap (file_at limit) (sym f.parts) ∙ file-read back limit xs f.marks f.spelled (deepest-shallow limit f.marks within)

pub one-tree : FileIsReadBack → OneTree
one-tree back symbols xs ys f g =
    let n : ℕ = deepest f.marks + deepest g.marks in
    let e = same_value (xs, []) (ys, []) (sym (file-within back n symbols xs f (omega arith)) ∙ file-within back n symbols ys g (omega arith)) in
    ap (λ r. r.0) e
