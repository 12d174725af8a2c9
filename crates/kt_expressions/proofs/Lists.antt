-- Lists of arguments, from the last to the first.
use Rattle.std.proofs.Common.{◌≡◌, ◌<◌, ℕ, zero, suc, List, [], ◌∷◌, ◌++◌, map, length, drop, reverse, get_or, Option, Some, Result, Ok, Err, refl, sym, ap, ◌∙◌, subst, arith}
use Rattle.std.proofs.lemmas.List.{reverse-append}
use Rattle.kt_grammar.specs.declared.tree.Expr.{Expr}
use Rattle.kt_grammar.specs.Tree.{Nothing, term_of, terms_of}
use Rattle.kt_typing.specs.declared.standing.Use.{Use}
use Rattle.kt_typing.specs.Environment.{Environment}
use Rattle.std.specs.Global.{Vec}
use Rattle.kt_grammar.specs.declared.tree.Name.{Name}
use Rattle.kt_typing.specs.declared.builtin.Builtin.{Builtin}
use Rattle.kt_typing.specs.declared.fault.Fault.{Fault}
use Rattle.kt_typing.specs.Calls.{row, row_called}
use Rattle.kt_typing.specs.Forms.{Form, Parts, NoPart, Part}
use Rattle.kt_typing.specs.Operands.{Operand}
use Rattle.kt_typing.specs.Rules.{wrong}
use Rattle.kt_typing.specs.Terms.{argument_count, argument_uses, form, parts}
use Rattle.kt_operands.specs.declared.operand.Operand.{Operand as OperandCode}
use Rattle.kt_operands.specs.declared.refusal.Refusal.{Refusal}
use Rattle.kt_operands.specs.declared.refusal.Refusal.TheVariants as refusal
use Rattle.kt_operands.specs.Views.{operand_of}
use Rattle.kt_operators.specs.Judged.{Judges, JudgesPart, JudgesParts, both_of}
use Rattle.kt_operators.proofs.Parts.{more-parts}
use Rattle.kt_calls.specs.Arguments.{operands_of, row_parts}
use Rattle.kt_expressions.specs.Arguments.{use_at, turned_operands, parts_behind}

pub no-parts : (env : Environment) (us : List Use) → parts env us Nothing ≡ NoPart
no-parts env [] = refl
no-parts env (u ∷ us) = refl

drop-nil : {A : Type 0} (i : ℕ) → drop {A = A} i [] ≡ []
drop-nil zero = refl
drop-nil (suc i) = refl

-- the argument of a number, and those behind it
pub parts-from : (env : Environment) (us : List Use) (es : List Expr) (j : ℕ) (e : Expr) → j < length es → e ≡ get_or es j e
    → parts env (drop j us) (terms_of (drop j (map term_of es))) ≡ Part (wrong env (use_at us j)) (form env (use_at us j) (term_of e)) (parts env (drop (suc j) us) (terms_of (drop (suc j) (map term_of es))))
parts-from env us [] j e h is = absurd (omega arith)
parts-from env [] (a ∷ es) zero e h is = rw (← is) refl
parts-from env (u ∷ us) (a ∷ es) zero e h is = rw (← is) refl
parts-from env [] (a ∷ es) (suc j) e h is =
    let inside = parts-from env [] es j e (omega arith) is in
    subst (λ (us : List Use). parts env us (terms_of (drop j (map term_of es))) ≡ Part (wrong env (use_at [] j)) (form env (use_at [] j) (term_of e)) (parts env [] (terms_of (drop (suc j) (map term_of es)))))
    (drop-nil j) inside
parts-from env (u ∷ us) (a ∷ es) (suc j) e h is = parts-from env us es j e (omega arith) is

pub counted : (es : List Expr) → argument_count (terms_of (map term_of es)) ≡ length es
counted [] = refl
counted (e ∷ es) = ap suc (counted es)

-- a part before others

module _ (w : Operand → Option Fault) (a : Form) (ps : Parts) (x : Result OperandCode Refusal) (rest : Result (Vec OperandCode) Refusal) where
  abbrev pairs : OperandCode × Vec OperandCode → List Operand
  pairs p = operand_of p.0 ∷ turned_operands p.1

  pub stops-parts : (e : Refusal) → Err e ≡ both_of x rest → JudgesPart operand_of w a x → JudgesParts turned_operands ps rest → JudgesParts turned_operands (Part w a ps) (Err e)
  stops-parts refusal.NoMemory is h k = tt
  stops-parts (refusal.Fault f) is h k = subst (JudgesParts pairs (Part w a ps)) (sym is) (more-parts operand_of turned_operands w a ps x rest h k)

  first-is : (r : Result OperandCode Refusal) (s : Result (Vec OperandCode) Refusal) (y : OperandCode) (ys : Vec OperandCode) → Ok (y, ys) ≡ both_of r s → (r ≡ Ok y) × (s ≡ Ok ys)
  first-is (Ok z) (Ok zs) y ys is = let same : (y, ys) ≡ (z, zs) = cc in (ap (λ (p : OperandCode × Vec OperandCode). Ok p.0) (sym same), ap (λ (p : OperandCode × Vec OperandCode). Ok p.1) (sym same))
  first-is (Ok z) (Err e) y ys is = absurd cc
  first-is (Err e) (Ok zs) y ys is = absurd cc
  first-is (Err e) (Err f) y ys is = absurd cc

  pub goes-parts : (y : OperandCode) (ys : Vec OperandCode) (r : Result (Vec OperandCode) Refusal) → Ok (y, ys) ≡ both_of x rest
      → (JudgesPart operand_of w a (Ok y) → JudgesParts turned_operands ps (Ok ys) → JudgesParts turned_operands (Part w a ps) r)
      → JudgesPart operand_of w a x → JudgesParts turned_operands ps rest → JudgesParts turned_operands (Part w a ps) r
  goes-parts y ys r is by h k =
      let (one, other) = first-is x rest y ys is in
      by (subst (JudgesPart operand_of w a) one h) (subst (JudgesParts turned_operands ps) other k)

pub one-more : (w : Operand → Option Fault) (a : Form) (ps : Parts) (x : OperandCode) (xs ys : Vec OperandCode) → ys.items ≡ xs.items ++ x ∷ []
    → JudgesPart operand_of w a (Ok x) → JudgesParts turned_operands ps (Ok xs) → JudgesParts turned_operands (Part w a ps) (Ok ys)
one-more w a ps x xs ys is h k = rw h (rw k (ap (λ (zs : List OperandCode). Some (map operand_of zs)) (sym (ap reverse is ∙ reverse-append xs.items (x ∷ [])))))

pub turned-stops : (ps : Parts) (e : Refusal) → JudgesParts turned_operands ps (Err e) → JudgesParts operands_of ps (Err e)
turned-stops ps refusal.NoMemory h = tt
turned-stops ps (refusal.Fault f) h = h

-- a built-in call, of arguments that were counted and looked at
pub builtin-judged : (env : Environment) (at : ℕ) (b : Builtin) (ps : Parts) (arguments : Result (Vec OperandCode) Refusal) (r : Result OperandCode Refusal) (n m : ℕ) (t u : Option (List ℕ)) (x y : Option Name)
    → n ≡ m → t ≡ u → x ≡ y
    → ((qs : Parts) → JudgesParts operands_of (row_parts env n t x qs (row b)) arguments → Judges operand_of (row_called env at n t x qs (row b)) r)
    → JudgesParts operands_of (row_parts env m u y ps (row b)) arguments → Judges operand_of (row_called env at m u y ps (row b)) r
builtin-judged env at b ps arguments r n m t u x y i j k h =
    subst (λ (o : ℕ). JudgesParts operands_of (row_parts env o u y ps (row b)) arguments → Judges operand_of (row_called env at o u y ps (row b)) r) i
    (subst (λ (o : Option (List ℕ)). JudgesParts operands_of (row_parts env n o y ps (row b)) arguments → Judges operand_of (row_called env at n o y ps (row b)) r) j
    (subst (λ (o : Option Name). JudgesParts operands_of (row_parts env n t o ps (row b)) arguments → Judges operand_of (row_called env at n t o ps (row b)) r) k (h ps)))

-- one argument more, before those behind it
pub parts-next : (env : Environment) (call : Option Builtin) (es : List Expr) (i j : ℕ) (e : Expr) (u : Use) (new : Result (Vec OperandCode) Refusal) → i ≡ suc j → j < length es → e ≡ get_or es j e
    → u ≡ use_at (argument_uses call) j → JudgesParts turned_operands (Part (wrong env u) (form env u (term_of e)) (parts_behind env call i (map term_of es))) new
    → JudgesParts turned_operands (parts_behind env call j (map term_of es)) new
parts-next env call es i j e u new k h is same by =
    let us = argument_uses call in
    let at = use_at us j in
    subst (λ ps. JudgesParts turned_operands ps new) (sym (parts-from env us es j e h is))
    (subst (λ (n : ℕ). JudgesParts turned_operands (Part (wrong env at) (form env at (term_of e)) (parts env (drop n us) (terms_of (drop n (map term_of es))))) new) k
    (subst (λ (v : Use). JudgesParts turned_operands (Part (wrong env v) (form env v (term_of e)) (parts_behind env call i (map term_of es))) new) same by))
