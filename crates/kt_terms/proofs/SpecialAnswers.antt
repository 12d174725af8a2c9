-- Built-in calls by how their arguments are written.
use Rattle.std.proofs.Common.{◌≡◌, ℕ, List, [], ◌∷◌, length, map, get_or, Some, None, refl, arith}
use Rattle.kt_grammar.specs.declared.tree.Expr.{Expr}
use Rattle.kt_grammar.specs.Tree.{Term, Constant, Character, Text, Null, Eof, Named, Called, Parenthesised, SizeOf, RuleValue, OldSymbol, Transformed, NewObject, Element, Member, Pointed, Stepped, Prefixed, Converted, Operated, Chosen, Assigned, Terms, Nothing, More, term_of, terms_of}
use Rattle.kt_names.specs.declared.builtin.Builtin.TheVariants as builtin
use Rattle.kt_names.specs.declared.fault.CheckFault.TheVariants.{BadType}
use Rattle.kt_names.specs.Checked.{fault}
use Rattle.kt_names.specs.Environment.{Environment}
use Rattle.kt_names.specs.Builtins.{Argument}
use Rattle.kt_names.specs.Terms.{builtin_call}
use Rattle.kt_terms.specs.Spellings.{spelling_of}
use Rattle.kt_terms.specs.Specials.{only_spelling, updated_by, updating_by, migrated_by}

module _ (env : Environment) (up : ℕ) (values : List Argument) (g : Term) (rest : Terms) where
  update-many : (e : Term) → builtin_call env up builtin.Update values (More e (More g rest)) ≡ fault (BadType up)
  update-many (Constant at n) = refl
  update-many (Character at b) = refl
  update-many (Text at bytes) = refl
  update-many (Null at) = refl
  update-many (Eof at) = refl
  update-many (Named n) = refl
  update-many (Called n args) = refl
  update-many (Parenthesised at a) = refl
  update-many (SizeOf at t) = refl
  update-many (RuleValue at w) = refl
  update-many (OldSymbol at n) = refl
  update-many (NewObject at f) = refl
  update-many (Transformed at a) = refl
  update-many (Element a i) = refl
  update-many (Member a f) = refl
  update-many (Pointed a f) = refl
  update-many (Stepped a op) = refl
  update-many (Prefixed at op a) = refl
  update-many (Converted at t a) = refl
  update-many (Operated op a b) = refl
  update-many (Chosen c a b) = refl
  update-many (Assigned op a b) = refl

  updating-many : (e : Term) → builtin_call env up builtin.IsUpdatingFrom values (More e (More g rest)) ≡ fault (BadType up)
  updating-many (Constant at n) = refl
  updating-many (Character at b) = refl
  updating-many (Text at bytes) = refl
  updating-many (Null at) = refl
  updating-many (Eof at) = refl
  updating-many (Named n) = refl
  updating-many (Called n args) = refl
  updating-many (Parenthesised at a) = refl
  updating-many (SizeOf at t) = refl
  updating-many (RuleValue at w) = refl
  updating-many (OldSymbol at n) = refl
  updating-many (NewObject at f) = refl
  updating-many (Transformed at a) = refl
  updating-many (Element a i) = refl
  updating-many (Member a f) = refl
  updating-many (Pointed a f) = refl
  updating-many (Stepped a op) = refl
  updating-many (Prefixed at op a) = refl
  updating-many (Converted at t a) = refl
  updating-many (Operated op a b) = refl
  updating-many (Chosen c a b) = refl
  updating-many (Assigned op a b) = refl

  migrate-many : (e : Term) → builtin_call env up builtin.MigrateLocal values (More e (More g rest)) ≡ fault (BadType up)
  migrate-many (Constant at n) = refl
  migrate-many (Character at b) = refl
  migrate-many (Text at bytes) = refl
  migrate-many (Null at) = refl
  migrate-many (Eof at) = refl
  migrate-many (Named n) = refl
  migrate-many (Called n args) = refl
  migrate-many (Parenthesised at a) = refl
  migrate-many (SizeOf at t) = refl
  migrate-many (RuleValue at w) = refl
  migrate-many (OldSymbol at n) = refl
  migrate-many (NewObject at f) = refl
  migrate-many (Transformed at a) = refl
  migrate-many (Element a i) = refl
  migrate-many (Member a f) = refl
  migrate-many (Pointed a f) = refl
  migrate-many (Stepped a op) = refl
  migrate-many (Prefixed at op a) = refl
  migrate-many (Converted at t a) = refl
  migrate-many (Operated op a b) = refl
  migrate-many (Chosen c a b) = refl
  migrate-many (Assigned op a b) = refl

module _ (env : Environment) (up : ℕ) (values : List Argument) where
  pub update-by : (args : Terms) → builtin_call env up builtin.Update values args ≡ updated_by env up (only_spelling args)
  update-by Nothing = refl
  update-by (More (Constant at n) Nothing) = refl
  update-by (More (Character at b) Nothing) = refl
  update-by (More (Text at bytes) Nothing) = refl
  update-by (More (Null at) Nothing) = refl
  update-by (More (Eof at) Nothing) = refl
  update-by (More (Named n) Nothing) = refl
  update-by (More (Called n args) Nothing) = refl
  update-by (More (Parenthesised at a) Nothing) = refl
  update-by (More (SizeOf at t) Nothing) = refl
  update-by (More (RuleValue at w) Nothing) = refl
  update-by (More (OldSymbol at n) Nothing) = refl
  update-by (More (NewObject at f) Nothing) = refl
  update-by (More (Transformed at a) Nothing) = refl
  update-by (More (Element a i) Nothing) = refl
  update-by (More (Member a f) Nothing) = refl
  update-by (More (Pointed a f) Nothing) = refl
  update-by (More (Stepped a op) Nothing) = refl
  update-by (More (Prefixed at op a) Nothing) = refl
  update-by (More (Converted at t a) Nothing) = refl
  update-by (More (Operated op a b) Nothing) = refl
  update-by (More (Chosen c a b) Nothing) = refl
  update-by (More (Assigned op a b) Nothing) = refl
  update-by (More e (More g rest)) = update-many env up values g rest e

  pub updating-by : (args : Terms) → builtin_call env up builtin.IsUpdatingFrom values args ≡ updating_by env up (only_spelling args)
  updating-by Nothing = refl
  updating-by (More (Constant at n) Nothing) = refl
  updating-by (More (Character at b) Nothing) = refl
  updating-by (More (Text at bytes) Nothing) = refl
  updating-by (More (Null at) Nothing) = refl
  updating-by (More (Eof at) Nothing) = refl
  updating-by (More (Named n) Nothing) = refl
  updating-by (More (Called n args) Nothing) = refl
  updating-by (More (Parenthesised at a) Nothing) = refl
  updating-by (More (SizeOf at t) Nothing) = refl
  updating-by (More (RuleValue at w) Nothing) = refl
  updating-by (More (OldSymbol at n) Nothing) = refl
  updating-by (More (NewObject at f) Nothing) = refl
  updating-by (More (Transformed at a) Nothing) = refl
  updating-by (More (Element a i) Nothing) = refl
  updating-by (More (Member a f) Nothing) = refl
  updating-by (More (Pointed a f) Nothing) = refl
  updating-by (More (Stepped a op) Nothing) = refl
  updating-by (More (Prefixed at op a) Nothing) = refl
  updating-by (More (Converted at t a) Nothing) = refl
  updating-by (More (Operated op a b) Nothing) = refl
  updating-by (More (Chosen c a b) Nothing) = refl
  updating-by (More (Assigned op a b) Nothing) = refl
  updating-by (More e (More g rest)) = updating-many env up values g rest e

  pub migrate-by : (args : Terms) → builtin_call env up builtin.MigrateLocal values args ≡ migrated_by env up (only_spelling args)
  migrate-by Nothing = refl
  migrate-by (More (Constant at n) Nothing) = refl
  migrate-by (More (Character at b) Nothing) = refl
  migrate-by (More (Text at bytes) Nothing) = refl
  migrate-by (More (Null at) Nothing) = refl
  migrate-by (More (Eof at) Nothing) = refl
  migrate-by (More (Named n) Nothing) = refl
  migrate-by (More (Called n args) Nothing) = refl
  migrate-by (More (Parenthesised at a) Nothing) = refl
  migrate-by (More (SizeOf at t) Nothing) = refl
  migrate-by (More (RuleValue at w) Nothing) = refl
  migrate-by (More (OldSymbol at n) Nothing) = refl
  migrate-by (More (NewObject at f) Nothing) = refl
  migrate-by (More (Transformed at a) Nothing) = refl
  migrate-by (More (Element a i) Nothing) = refl
  migrate-by (More (Member a f) Nothing) = refl
  migrate-by (More (Pointed a f) Nothing) = refl
  migrate-by (More (Stepped a op) Nothing) = refl
  migrate-by (More (Prefixed at op a) Nothing) = refl
  migrate-by (More (Converted at t a) Nothing) = refl
  migrate-by (More (Operated op a b) Nothing) = refl
  migrate-by (More (Chosen c a b) Nothing) = refl
  migrate-by (More (Assigned op a b) Nothing) = refl
  migrate-by (More e (More g rest)) = migrate-many env up values g rest e

-- how the only expression of a list is written
pub only-some : (es : List Expr) (d : Expr) → length es ≡ 1 → Some (spelling_of (term_of (get_or es 0 d))) ≡ only_spelling (terms_of (map term_of es))
only-some [] d h = absurd (omega arith)
only-some (e ∷ []) d h = refl
only-some (e ∷ f ∷ es) d h = absurd (omega arith)

pub only-none : (es : List Expr) → (length es ≡ 1 → ⊥) → None ≡ only_spelling (terms_of (map term_of es))
only-none [] h = refl
only-none (e ∷ []) h = absurd (h refl)
only-none (e ∷ f ∷ es) h = refl
