-- Which arguments of a call are judged, and as which parts.
use Rattle.std.proofs.Common.{◌≡◌, ◌≤◌, ◌==◌, ℕ, zero, suc, Bool, true, false, length, if◌then◌else◌, List, [], ◌∷◌, map, drop, Option, Some, None, refl, arith}
use Rattle.std.specs.Option.{is_some}
use Rattle.std.proofs.lemmas.Bool.Decides.{Decides-eqb}
use Rattle.kt_grammar.specs.declared.tree.Expr.{Expr}
use Rattle.kt_grammar.specs.declared.tree.Name.{Name}
use Rattle.kt_grammar.specs.Tree.{Term, term_of, terms_of}
use Rattle.kt_typing.specs.declared.builtin.Builtin.{Builtin}
use Rattle.kt_typing.specs.declared.builtin.Builtin.TheVariants as builtin
use Rattle.kt_typing.specs.declared.standing.Use.{Use}
use Rattle.kt_typing.specs.declared.standing.Use.TheVariants as use_as
use Rattle.kt_typing.specs.Environment.{Environment}
use Rattle.kt_typing.specs.Forms.{Part}
use Rattle.kt_typing.specs.Calls.{Row, Asks, Allocates, AllocatesZeros, Prints, Begins, Reaches, AsksFrom, Keeps, row, behind_word, leaf, entry}
use Rattle.kt_typing.specs.Terms.{argument_count, first_text, first_name, parts}
use Rattle.kt_expressions.specs.Arguments.{use_at, takes_word, words_of, parts_behind, parts_of_call}

-- where a word stands first, what is behind it
behind : {A : Type 0} (env : Environment) (es : List Term) (o : Option A) → (es ≡ [] → o ≡ None)
    → parts env (drop (if is_some o then 1 else 0) []) (terms_of (drop (if is_some o then 1 else 0) es)) ≡ behind_word o (parts env [] (terms_of es))
behind env es None h = refl
behind env [] (Some w) h = absurd (let e : Some w ≡ None = h refl in cc)
behind env (t ∷ ts) (Some w) h = refl

no-text : (es : List Term) → es ≡ [] → first_text (terms_of es) ≡ None
no-text es e = rw e refl

no-name : (es : List Term) → es ≡ [] → first_name (terms_of es) ≡ None
no-name es e = rw e refl

not-zero : (n : ℕ) → (suc n == 0) ≡ false
not-zero n = by (suc n == 0) refl
  where
    by : (b : Bool) → (suc n == 0) ≡ b → b ≡ false
    by true h = let e : suc n ≡ 0 = (Decides-eqb (suc n) 0).0 h in absurd (omega arith)
    by false h = refl

-- all calls but that of `ktthread_create`
pub parts-same : (env : Environment) (b : Builtin) (es : List Term) → (b ≡ builtin.Create → ⊥) → parts_behind env (Some b) (words_of (Some b) (terms_of es)) es ≡ parts_of_call env b (terms_of es)
parts-same env builtin.Malloc es h = refl
parts-same env builtin.Calloc es h = refl
parts-same env builtin.Free es h = refl
parts-same env builtin.GetChar es h = refl
parts-same env builtin.PutChar es h = refl
parts-same env builtin.Puts es h = refl
parts-same env builtin.Printf [] h = refl
parts-same env builtin.Printf (t ∷ ts) h = rw (not-zero (argument_count (terms_of ts))) (behind env (t ∷ ts) (first_text (terms_of (t ∷ ts))) (no-text (t ∷ ts)))
parts-same env builtin.Lock es h = refl
parts-same env builtin.Unlock es h = refl
parts-same env builtin.InitMutex es h = refl
parts-same env builtin.Create es h = absurd (h refl)
parts-same env builtin.Join es h = refl
parts-same env builtin.Update es h = behind env es (first_text (terms_of es)) (no-text es)
parts-same env builtin.IsUpdating es h = refl
parts-same env builtin.IsUpdatingFrom es h = behind env es (first_text (terms_of es)) (no-text es)
parts-same env builtin.Automigrate es h = refl
parts-same env builtin.MigrateLocal es h = behind env es (first_name (terms_of es)) (no-name es)

-- the call of `ktthread_create`

pub begun-named : (env : Environment) (es : List Term) (n : Name) → first_name (terms_of es) ≡ Some n
    → Part (λ x. None) (leaf (entry env n.at (env.name n.word))) (parts_behind env (Some builtin.Create) (words_of (Some builtin.Create) (terms_of es)) es) ≡ parts_of_call env builtin.Create (terms_of es)
begun-named env [] n e = absurd cc
begun-named env (t ∷ ts) n e = rw e refl

pub begun-other : (env : Environment) (es : List Term) → first_name (terms_of es) ≡ None
    → parts_behind env (Some builtin.Create) (words_of (Some builtin.Create) (terms_of es)) es ≡ parts_of_call env builtin.Create (terms_of es)
begun-other env es e = rw e refl

-- there are not more words than arguments

takes-none : (r : Row) → takes_word r None None ≡ false
takes-none (Asks arguments q t) = refl
takes-none Allocates = refl
takes-none AllocatesZeros = refl
takes-none Prints = refl
takes-none Begins = refl
takes-none Reaches = refl
takes-none AsksFrom = refl
takes-none Keeps = refl

within-one : (b : Bool) (n : ℕ) → (if b then 1 else 0) ≤ suc n
within-one true n = omega arith
within-one false n = omega arith

pub words-within : (call : Option Builtin) (es : List Expr) → words_of call (terms_of (map term_of es)) ≤ length es
words-within None es = omega arith
words-within (Some b) [] = rw (takes-none (row b)) (omega arith)
words-within (Some b) (e ∷ es) = within-one (takes_word (row b) (first_text (terms_of (map term_of (e ∷ es)))) (first_name (terms_of (map term_of (e ∷ es))))) (length es)

-- what arguments are used as

pub only_use : (u : Use) (i : ℕ) → (i ≡ 0 → ⊥) → use_as.Value ≡ use_at (u ∷ []) i
only_use u zero h = absurd (h refl)
only_use u (suc i) h = refl

pub second_use : (u : Use) (i : ℕ) → (i ≡ 1 → ⊥) → use_as.Value ≡ use_at (use_as.Value ∷ u ∷ []) i
second_use u zero h = refl
second_use u (suc zero) h = absurd (h refl)
second_use u (suc (suc i)) h = refl

pub use_there : (u : Use) (us : List Use) (i : ℕ) → i ≡ 0 → u ≡ use_at (u ∷ us) i
use_there u us i h = rw h refl

pub use_second : (u v : Use) (i : ℕ) → i ≡ 1 → v ≡ use_at (u ∷ v ∷ []) i
use_second u v i h = rw h refl

pub ruleset uses = (only_use, second_use, use_there, use_second)
