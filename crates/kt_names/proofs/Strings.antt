-- What a call writes: its first argument, and then the others.
use Rattle.std.proofs.Common.{◌≡◌, ℕ, ◌-◌, ◌≤◌, List, [], ◌∷◌, ◌++◌, map, length, take, drop, get_or, refl, sym, ap, ◌∙◌, arith}
use Rattle.std.proofs.lemmas.List.{take_all}
use Rattle.kt_grammar.specs.declared.tree.Name.{Name}
use Rattle.kt_grammar.specs.declared.tree.Expr.{Expr, Call', Paren', Transform', Index', Field', Arrow', Step', Prefix', Cast', Binary', Choice', Assign', Row_of-Expr, end_of-Expr, more_of-Expr}
use Rattle.kt_grammar.specs.declared.tree.Expr.TheVariants as expr
use Rattle.kt_grammar.specs.Tree.{Term, Called, Terms, More, term_of, terms_of}
use Rattle.kt_names.specs.Tables.{term_written, terms_written}
use Rattle.kt_names.specs.Gathered.{first_argument}

pub call-first : (n : Name) (e : Expr) (rest : Terms) → term_written (Called n (More (term_of e) rest)) ≡ first_argument n e ++ terms_written rest
call-first n (expr.Number at x) rest = refl
call-first n (expr.Character at b) rest = refl
call-first n (expr.Text at bytes) rest = refl
call-first n (expr.Null at) rest = refl
call-first n (expr.Eof at) rest = refl
call-first n (expr.Name name) rest = refl
call-first n (Call' name p row) rest = refl
call-first n (Paren' at p (more_of-Expr a end_of-Expr)) rest = refl
call-first n (expr.SizeOf at type) rest = refl
call-first n (expr.Rule at word) rest = refl
call-first n (expr.OldSymbol at name) rest = refl
call-first n (expr.New at fresh) rest = refl
call-first n (Transform' at p (more_of-Expr a end_of-Expr)) rest = refl
call-first n (Index' p (more_of-Expr a end_of-Expr) q (more_of-Expr i end_of-Expr)) rest = refl
call-first n (Field' p (more_of-Expr a end_of-Expr) name) rest = refl
call-first n (Arrow' p (more_of-Expr a end_of-Expr) name) rest = refl
call-first n (Step' p (more_of-Expr a end_of-Expr) op) rest = refl
call-first n (Prefix' at op p (more_of-Expr a end_of-Expr)) rest = refl
call-first n (Cast' at type p (more_of-Expr a end_of-Expr)) rest = refl
call-first n (Binary' op p (more_of-Expr a end_of-Expr) q (more_of-Expr b end_of-Expr)) rest = refl
call-first n (Choice' p (more_of-Expr c end_of-Expr) q (more_of-Expr a end_of-Expr) r (more_of-Expr b end_of-Expr)) rest = refl
call-first n (Assign' op p (more_of-Expr a end_of-Expr) q (more_of-Expr b end_of-Expr)) rest = refl

pub call-split : (n : Name) (args : List Expr) (e : Expr) → 1 ≤ length args → e ≡ get_or args 0 e
    → term_written (Called n (terms_of (map term_of args))) ≡ first_argument n e ++ terms_written (terms_of (map term_of (take (length args - 1) (drop 1 args))))
call-split n [] e some at = absurd (omega arith)
call-split n (a ∷ args) e some at =
    let same : a ≡ e = sym at in
    let enough : length args ≤ length (a ∷ args) - 1 = omega arith in
    let rest : take (length (a ∷ args) - 1) args ≡ args = take_all (length (a ∷ args) - 1) args enough in
    call-first n a (terms_of (map term_of args))
    ∙ ap (λ x. first_argument n x ++ terms_written (terms_of (map term_of args))) same
    ∙ ap (λ xs. first_argument n e ++ terms_written (terms_of (map term_of xs))) (sym rest)
