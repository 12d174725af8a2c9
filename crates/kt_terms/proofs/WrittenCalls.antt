-- Built-in calls by how their arguments are written: those that take values too.
use Rattle.std.proofs.Common.{◌≡◌, ℕ, zero, suc, List, [], ◌∷◌, length, map, drop, get_or, slice_get, Option, Some, None, Result, refl, sym, ap, ◌∙◌, subst, arith}
use Rattle.kt_grammar.specs.declared.tree.Expr.{Expr}
use Rattle.kt_grammar.specs.Tree.{Term, Text, Null, Named, SizeOf, Terms, Nothing, More, term_of, terms_of}
use Rattle.kt_terms.specs.declared.argument.Argument.{Argument as ArgumentCode}
use Rattle.kt_names.specs.declared.operand.Operand.{Operand as OperandCode}
use Rattle.kt_names.specs.declared.ctype.CType.{CType}
use Rattle.kt_names.specs.declared.builtin.Builtin.TheVariants as builtin
use Rattle.kt_names.specs.declared.fault.CheckFault.{CheckFault}
use Rattle.kt_names.specs.declared.fault.CheckFault.TheVariants.{BadType}
use Rattle.kt_names.specs.Checked.{Checked, fault}
use Rattle.kt_names.specs.Judges.{Judges}
use Rattle.kt_names.specs.Environment.{Environment}
use Rattle.kt_names.specs.Operands.{Operand}
use Rattle.kt_names.specs.Views.{operand_of}
use Rattle.kt_names.specs.Builtins.{Argument, entry_in}
use Rattle.kt_terms.specs.Arguments.{argument_at, JudgesArgument, AreJudged}
use Rattle.kt_names.specs.Terms.{typing_all, builtin_call}
use Rattle.kt_terms.specs.Spellings.{Spelling, spelling_of}
use Rattle.kt_terms.specs.Specials.{first_spelling, first_of_two, second_of_two, of_argument, printed_by, zeroed_by, initialised_by, created_by, only_parameter, numbered}

-- ---- calls

module _ (env : Environment) (up : ℕ) where
  pub print-by : (args : Terms) → builtin_call env up builtin.Printf (typing_all env args) args ≡ printed_by env up (first_spelling args) (typing_all env args)
  print-by (More (Text at bytes) rest) = refl
  print-by args = refl

  zero-two : (e f : Term) → builtin_call env up builtin.Calloc (typing_all env (More e (More f Nothing))) (More e (More f Nothing)) ≡ zeroed_by env up (Some (spelling_of f)) (typing_all env (More e (More f Nothing)))
  zero-two e (SizeOf at t) = refl
  zero-two e f = refl

  zero-many : (values : List Argument) (e f g : Term) (rest : Terms) → builtin_call env up builtin.Calloc values (More e (More f (More g rest))) ≡ fault (BadType up)
  zero-many values e (SizeOf at t) g rest = refl
  zero-many values e f g rest = refl

  pub zero-by : (args : Terms) → builtin_call env up builtin.Calloc (typing_all env args) args ≡ zeroed_by env up (second_of_two args) (typing_all env args)
  zero-by Nothing = refl
  zero-by (More e Nothing) = refl
  zero-by (More e (More f Nothing)) = zero-two e f
  zero-by (More e (More f (More g rest))) = zero-many (typing_all env (More e (More f (More g rest)))) e f g rest

  initialise-two : (e f : Term) → builtin_call env up builtin.InitMutex (typing_all env (More e (More f Nothing))) (More e (More f Nothing)) ≡ initialised_by env up (Some (spelling_of f)) (typing_all env (More e (More f Nothing)))
  initialise-two e (Null at) = refl
  initialise-two e f = refl

  initialise-many : (values : List Argument) (e f g : Term) (rest : Terms) → builtin_call env up builtin.InitMutex values (More e (More f (More g rest))) ≡ fault (BadType up)
  initialise-many values e (Null at) g rest = refl
  initialise-many values e f g rest = refl

  pub initialise-by : (args : Terms) → builtin_call env up builtin.InitMutex (typing_all env args) args ≡ initialised_by env up (second_of_two args) (typing_all env args)
  initialise-by Nothing = refl
  initialise-by (More e Nothing) = refl
  initialise-by (More e (More f Nothing)) = initialise-two e f
  initialise-by (More e (More f (More g rest))) = initialise-many (typing_all env (More e (More f (More g rest)))) e f g rest

  create-one : (values : List Argument) (e : Term) → builtin_call env up builtin.Create values (More e Nothing) ≡ fault (BadType up)
  create-one values (Named n) = refl
  create-one values e = refl

  create-two : (e f : Term) → builtin_call env up builtin.Create (typing_all env (More e (More f Nothing))) (More e (More f Nothing)) ≡ created_by env up (Some (spelling_of e)) (typing_all env (More e (More f Nothing)))
  create-two (Named n) f = refl
  create-two e f = refl

  create-many : (values : List Argument) (e f g : Term) (rest : Terms) → builtin_call env up builtin.Create values (More e (More f (More g rest))) ≡ fault (BadType up)
  create-many values (Named n) f g rest = refl
  create-many values e f g rest = refl

  pub create-by : (args : Terms) → builtin_call env up builtin.Create (typing_all env args) args ≡ created_by env up (first_of_two args) (typing_all env args)
  create-by Nothing = refl
  create-by (More e Nothing) = create-one (typing_all env (More e Nothing)) e
  create-by (More e (More f Nothing)) = create-two e f
  create-by (More e (More f (More g rest))) = create-many (typing_all env (More e (More f (More g rest)))) e f g rest

-- ---- how two arguments are written

two-first : (es : List Expr) (d : Expr) → length es ≡ 2 → Some (spelling_of (term_of (get_or es 0 d))) ≡ first_of_two (terms_of (map term_of es))
two-first [] d h = absurd (omega arith)
two-first (e ∷ []) d h = absurd (omega arith)
two-first (e ∷ f ∷ []) d h = refl
two-first (e ∷ f ∷ g ∷ es) d h = absurd (omega arith)

pub is-first : (args es : List Expr) (e : Expr) (s : Spelling) → es ≡ args → length es ≡ 2 → e ≡ get_or es 0 e → s ≡ spelling_of (term_of e) → Some s ≡ first_of_two (terms_of (map term_of args))
is-first args es e s same two at is =
    ap (λ (x : Spelling). Some x) (is ∙ ap (λ (x : Expr). spelling_of (term_of x)) at) ∙ two-first es e two ∙ ap (λ (xs : List Expr). first_of_two (terms_of (map term_of xs))) same

pub no-first : (es : List Expr) → (length es ≡ 2 → ⊥) → None ≡ first_of_two (terms_of (map term_of es))
no-first [] h = refl
no-first (e ∷ []) h = refl
no-first (e ∷ f ∷ []) h = absurd (h refl)
no-first (e ∷ f ∷ g ∷ es) h = refl

pub no-second : (es : List Expr) → (length es ≡ 2 → ⊥) → None ≡ second_of_two (terms_of (map term_of es))
no-second [] h = refl
no-second (e ∷ []) h = refl
no-second (e ∷ f ∷ []) h = absurd (h refl)
no-second (e ∷ f ∷ g ∷ es) h = refl

-- ---- arguments that are taken

module _ (up : ℕ) (f : Argument → Checked Operand) where
  pub taken-some : (r : Result OperandCode CheckFault) (i : ℕ) (xs : List ArgumentCode) (x : ArgumentCode) (specs : List Argument) → Some x ≡ slice_get xs i → JudgesArgument x operand_of r f → AreJudged xs specs
      → Judges operand_of r (of_argument up f (slice_get specs i))
  taken-some r i [] x specs e h are = absurd cc
  taken-some r i (y ∷ xs) x [] e h are = absurd are
  taken-some r zero (y ∷ xs) x (s ∷ specs) e h are =
      let same : y ≡ x = cc in
      let typed : Judges operand_of x.typed s.typed = subst (λ (z : ArgumentCode). Judges operand_of z.typed s.typed) same are.1 in
      let whole : argument_at x s.typed ≡ s = ap (λ (z : ArgumentCode). argument_at z s.typed) (sym same) ∙ sym are.0 in
      subst (λ (a : Argument). Judges operand_of r (f a)) whole (h s.typed typed)
  taken-some r (suc i) (y ∷ xs) x (s ∷ specs) e h are = taken-some r i xs x specs e h are.2

  pub taken-none : (i : ℕ) (xs : List ArgumentCode) (specs : List Argument) → None ≡ slice_get xs i → AreJudged xs specs → of_argument up f (slice_get specs i) ≡ fault (BadType up)
  taken-none i [] [] e are = refl
  taken-none i [] (s ∷ specs) e are = absurd are
  taken-none i (y ∷ xs) [] e are = absurd are
  taken-none zero (y ∷ xs) (s ∷ specs) e are = absurd cc
  taken-none (suc i) (y ∷ xs) (s ∷ specs) e are = taken-none i xs specs e are.2

pub behind-judged : (xs : List ArgumentCode) (specs : List Argument) → AreJudged xs specs → AreJudged (drop 1 xs) (drop 1 specs)
behind-judged [] [] are = tt
behind-judged [] (s ∷ specs) are = absurd are
behind-judged (x ∷ xs) [] are = absurd are
behind-judged (x ∷ xs) (s ∷ specs) are = are.2

-- ---- the functions that threads begin at

-- a function without a result, by its only parameter and its number
pub entry-by : (ps : List CType) (number : Option ℕ) → numbered (only_parameter ps) number ≡ entry_in None ps number
entry-by [] number = refl
entry-by (p ∷ []) None = refl
entry-by (p ∷ []) (Some n) = refl
entry-by (p ∷ q ∷ ps) number = refl
