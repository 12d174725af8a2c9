-- External declarations that are not read, and so files, break off where the fault tells.
use Rattle.std.proofs.Common.{◌≡◌, ℕ, ◌+◌, ◌≤◌, inl, inr, Bool, true, false, List, [], ◌∷◌, length, drop, Option, Some, None, Ok, Err, refl, arith}
use Rattle.std.specs.Prelude.{if◌then◌else◌}
use Rattle.kt_grammar.specs.declared.fault.Fault.{Fault}
use Rattle.kt_grammar.specs.declared.keyword.Keyword.TheVariants as keywords
use Rattle.kt_grammar.specs.declared.sign.Sign.TheVariants as signs
use Rattle.kt_grammar.specs.declared.symbol.Symbol.{Symbol}
use Rattle.kt_grammar.specs.declared.symbol.Symbol.TheVariants as symbol
use Rattle.kt_grammar.specs.declared.tree.Base.{Base}
use Rattle.kt_grammar.specs.declared.tree.Base.TheVariants as base
use Rattle.kt_grammar.specs.declared.tree.Name.{Name}
use Rattle.kt_grammar.specs.Marks.{Mark, sign, keyword, name, ◌·◌}
use Rattle.kt_grammar.specs.Spelling.{spells_base}
use Rattle.kt_grammar.specs.Cursor.{◌>>=◌, Outcome, begins_sign, behind, name_at, listed_at, until_at}
use Rattle.kt_grammar.specs.Reading.{bare_base_at}
use Rattle.kt_grammar.specs.Laws.{Stands, ExprStands, FaultStands, ExprFaultStands, ExprGoesOn}
use Rattle.kt_grammar.specs.StandsLaws.{chosen, nothing_stands, stands_joined, stands_as, optional_none, keyword_stands, begins_sign_stands, behind_stands, name_at_stands, bare_base_at_stands}
use Rattle.kt_grammar.specs.FaultLaws.{no_fault, bind_err, fault_as, fault_before, fault_behind, behind_fault, some_name, name_at_fault, some_base, bare_base_at_fault}
use Rattle.kt_syntax.specs.declared.tree.Stars.{Stars}
use Rattle.kt_syntax.specs.declared.tree.Pointer.{Pointer}
use Rattle.kt_syntax.specs.declared.tree.GlobalDeclarator.{GlobalDeclarator}
use Rattle.kt_syntax.specs.declared.tree.Parameter.{Parameter}
use Rattle.kt_syntax.specs.Tree.{Definition, StructMentioned, StructDefined, GlobalsDeclared, FunctionDeclared}
use Rattle.kt_syntax.specs.Spelling.{separated, each, maybe, stars, pointer, global, parameter, fields, entries, leading, result, parameters, noted, body, external}
use Rattle.kt_syntax.specs.Reading.{stars_at, pointer_at, global_behind, global_at, parameter_at, fields_at, block_behind, blocks, count_leading, parameters_behind, definition_behind, body_at, function_behind, globals_behind, bare_stars, named_behind, declared_behind, void_behind, typed_at, struct_behind, struct_at, external_at, is_end, file_at}
use Rattle.kt_syntax.specs.StandLaws.{FileFaultStands}
use Rattle.kt_syntax.specs.ListStands.{picked, until_at_stands}
use Rattle.kt_syntax.proofs.DeclaratorStands.{stars_at_stands, pointer_at_stands, global_behind_stands, global_at_stands, parameter_at_stands, fields_at_stands}
use Rattle.kt_syntax.proofs.ExternalStands.{bare_stars_stand, low, no_leading, count_leading_stands, more_globals, parameters_behind_stands, external_at_stands}
use Rattle.kt_syntax.proofs.FaultSteps.{any, Blank, blank_joined, blank_as, sign_blank, name_blank, rejoined, grouped, ReadFaults, any_stands, last_fault, parts_fault, some_separated, one_separated, separated_at_fault, until_at_fault}
use Rattle.kt_syntax.proofs.DeclaratorFaults.{global_end, global_end_blank, global_of, global_blank, parameter_blank, pointer_at_fault, global_behind_fault, global_at_fault, parameter_at_fault, some_separated_stands, fields_at_fault}
use Rattle.kt_syntax.proofs.StatementFaults.{entries_blank, body_breaks}

-- ---- external declarations of their parts

-- globals behind their base
abbrev globals_end : List Mark → Type 0
globals_end = some_separated 0 (global 0) · sign 0 signs.Semicolon

globals_end_blank : Blank globals_end
globals_end_blank = blank_joined (blank_as (one_separated 0 (global 0)) (global_blank 0)) (sign_blank 0 signs.Semicolon)

globals_of : (marks : List Mark) → (leading · some_base 0 · globals_end) marks → any external marks
globals_of m j =
    let k = j.second.second in
    (GlobalsDeclared j.second.first.0 (k.first.0 ∷ k.first.1), rejoined j j.first (rejoined j.second j.second.first.1 (rejoined k k.first.2 k.second)))

-- one global of its parts
global_alone : (marks : List Mark) → (any (maybe (pointer 0)) · some_name 0 · global_end 0) marks → some_separated 0 (global 0) marks
global_alone m j = one_separated 0 (global 0) m (global_of 0 m j)

-- a global and others
more_alone : (first : GlobalDeclarator) (marks : List Mark) → (global 0 first · sign 0 signs.Comma · some_separated 0 (global 0)) marks → some_separated 0 (global 0) marks
more_alone first m j = (first, j.second.second.0 ∷ j.second.second.1, rejoined j j.first (rejoined j.second j.second.first j.second.second.2))

-- globals with commas between them are one at least
some_of_separated : (gs : List GlobalDeclarator) (marks : List Mark) → separated 0 (global 0) gs marks → some_separated 0 (global 0) marks
some_of_separated [] m s = absurd s
some_of_separated (g ∷ gs) m s = (g, gs, s)

-- a function behind its name
abbrev function_end : List Mark → Type 0
function_end = sign 0 signs.OpenParenthesis · ((any parameters · sign 0 signs.CloseParenthesis) · any body)

function_of : (r : Option Base) (s : Option Stars) (marks : List Mark) → (leading · result r · maybe (stars 0) s · some_name 0 · function_end) marks → any external marks
function_of r s m j =
    let type = j.second in
    let front = type.second in
    let named = front.second in
    let k = grouped named.second in (
      FunctionDeclared (record { result = r; stars = s; name = named.first.0; parameters = k.first.second.first.0; body = k.second.0 }),
      rejoined j j.first (rejoined type type.first (rejoined front front.first (rejoined named named.first.1
          (rejoined k (rejoined k.first k.first.first (rejoined k.first.second k.first.second.first.1 k.first.second.second)) k.second.1)))),
    )

body_of : (flag : Bool) (marks : List Mark) → (noted flag · sign 0 signs.OpenBrace · any (entries 1) · sign 0 signs.CloseBrace) marks → any body marks
body_of flag m j =
    let k = j.second.second in
    (Some (record { noted = flag; entries = k.first.0 }), rejoined j j.first (rejoined j.second j.second.first (rejoined k k.first.1 k.second)))

body_blank : Blank (any body)
body_blank = blank_as (λ m s. (None, s)) (sign_blank 0 signs.Semicolon)

parameters_blank : Blank (any parameters)
parameters_blank = ([], ([], inl refl))

function_end_blank : Blank function_end
function_end_blank = blank_joined (sign_blank 0 signs.OpenParenthesis) (blank_joined (blank_joined parameters_blank (sign_blank 0 signs.CloseParenthesis)) body_blank)

mentioned_of : (marks : List Mark) → (keyword 0 keywords.Struct · some_name 0 · sign 0 signs.Semicolon) marks → any external marks
mentioned_of m j = (StructMentioned j.second.first.0, rejoined j j.first (rejoined j.second j.second.first.1 j.second.second))

-- a struct behind its opening brace
abbrev struct_end : List Mark → Type 0
struct_end = any (fields 0) · any (each (fields 0)) · sign 0 signs.CloseBrace · sign 0 signs.Semicolon

struct_of : (i : Name) (marks : List Mark) → (keyword 0 keywords.Struct · name 0 i · sign 0 signs.OpenBrace · struct_end) marks → any external marks
struct_of i m j =
    let k = grouped j.second.second.second in (
      StructDefined i (k.first.first.0 ∷ k.first.second.0),
      (
        refl,
        rejoined j j.first (rejoined j.second j.second.first (rejoined j.second.second j.second.second.first
            (rejoined k (rejoined k.first k.first.first.1 k.first.second.1) k.second))),
      ),
    )

module _ (n : ℕ) where
  above : 0 ≤ n
  above = low n

  name_here : (symbols : List Symbol) (x : Name × List Symbol) → name_at symbols ≡ Ok x → Stands n (some_name 0) symbols x.1
  name_here symbols x r = stands_as (some_name 0) (λ m s. (x.0, s)) (name_at_stands n 0 symbols x above r)

  -- ---- globals

  globals_behind_fault : (b : Base) (first : GlobalDeclarator) (s2 s3 : List Symbol) (fault : Fault) → Stands n (global 0 first) s2 s3 → globals_behind b first s3 ≡ Err fault → FaultStands n globals_end s2 fault
  unfolding globals_behind
  globals_behind_fault b first s2 s3 fault one e =
      let more : Outcome (List GlobalDeclarator) = if begins_sign signs.Comma s3 then listed_at global_at (length s3) (first ∷ []) (drop 1 s3) else Ok (first ∷ [], s3) in
      elim (bind_err more _ fault e) [
        | inl w ↦ fault_before (sign 0 signs.Semicolon) (sign_blank 0 signs.Semicolon).0 (sign_blank 0 signs.Semicolon).1 (elim (chosen (begins_sign signs.Comma s3) _ _ (Err fault) w) [
          | inl c ↦ fault_as (some_separated 0 (global 0)) (more_alone first)
              (fault_behind one (fault_behind (begins_sign_stands n 0 signs.Comma s3 above c.0)
              (separated_at_fault n 0 (global 0) global_at above (global_at_stands n 0 above) (global_at_fault n 0 above) (global_blank 0) (length s3) (first ∷ []) (drop 1 s3) fault c.1)))
          | inr c ↦ no_fault _ fault c.1
        ])
        | inr l ↦ fault_behind (stands_as (some_separated 0 (global 0)) (some_of_separated l.0.0) (more_globals n first s2 s3 l.0 one l.1))
            (behind_fault n 0 signs.Semicolon l.0.1 fault (last_fault (behind signs.Semicolon l.0.1) _ fault l.2))
      ]

  first_global_fault : (b : Base) (p : Option Pointer) (i : Name) (s2 s3 s4 : List Symbol) (fault : Fault) → Stands n (maybe (pointer 0) p) s2 s3 → Stands n (name 0 i) s3 s4
      → (global_behind p i s4 >>= λ g. globals_behind b g.0 g.1) ≡ Err fault → FaultStands n globals_end s2 fault
  first_global_fault b p i s2 s3 s4 fault front named e = elim (bind_err (global_behind p i s4) _ fault e) [
    | inl w ↦ fault_before (sign 0 signs.Semicolon) (sign_blank 0 signs.Semicolon).0 (sign_blank 0 signs.Semicolon).1
        (fault_as (some_separated 0 (global 0)) global_alone
        (fault_behind (any_stands (maybe (pointer 0)) p front) (fault_behind (stands_as (some_name 0) (λ m s. (i, s)) named) (global_behind_fault n 0 above p i s4 fault w))))
    | inr g ↦ globals_behind_fault b g.0.0 s2 g.0.1 fault (global_behind_stands n 0 above p i s2 s3 s4 g.0 front named g.1) g.2
  ]

  -- a base is there, and globals behind it break off
  globals_fault : (b : Base) (s0 s1 s2 : List Symbol) (fault : Fault) → Stands n leading s0 s1 → Stands n (spells_base 0 b) s1 s2 → FaultStands n globals_end s2 fault → FaultStands n (any external) s0 fault
  globals_fault b s0 s1 s2 fault lead type w = fault_as (any external) globals_of (fault_behind lead (fault_behind (stands_as (some_base 0) (λ m s. (b, s)) type) w))

  -- ---- structs

  struct_behind_fault : (i : Name) → ReadFaults n struct_end (struct_behind i)
  unfolding struct_behind
  struct_behind_fault i symbols fault e =
      let closing = blank_joined (sign_blank 0 signs.CloseBrace) (sign_blank 0 signs.Semicolon) in
      let read : _ → List Symbol → Outcome (List _) = λ f y. until_at (begins_sign signs.CloseBrace) fields_at (length y) (f ∷ []) y in
      parts_fault (fields_at symbols) _ fault (λ x. x.1) e (fields_at_fault n 0 above symbols fault) (λ x r. any_stands (fields 0) x.0 (fields_at_stands n 0 above symbols x r)) (blank_joined ([], ([], refl)) closing)
      (λ f r w. parts_fault (read f.0 f.1) _ fault (λ x. x.1) w
      (λ w. until_at_fault n (begins_sign signs.CloseBrace) (fields 0) fields_at (fields_at_stands n 0 above) (fields_at_fault n 0 above) (length f.1) (f.0 ∷ []) f.1 fault w)
      (λ x r. let all = until_at_stands n (begins_sign signs.CloseBrace) (fields 0) fields_at (fields_at_stands n 0 above) (length f.1) (f.0 ∷ []) f.1 x r in any_stands (each (fields 0)) all.others all.stands)
      closing
      (λ x r w.
      let all = until_at_stands n (begins_sign signs.CloseBrace) (fields 0) fields_at (fields_at_stands n 0 above) (length f.1) (f.0 ∷ []) f.1 x r in
      fault_behind (begins_sign_stands n 0 signs.CloseBrace x.1 above all.stopped) (behind_fault n 0 signs.Semicolon (drop 1 x.1) fault (last_fault (behind signs.Semicolon (drop 1 x.1)) _ fault w))))

  -- ---- functions

  other_parameters_fault : (symbols : List Symbol) (fault : Fault)
      → ◌≡◌ {A = Outcome (List Parameter)}
      (if begins_sign signs.CloseParenthesis symbols then Ok ([], drop 1 symbols)
      else (listed_at parameter_at (length symbols) [] symbols >>= λ ps. behind signs.CloseParenthesis ps.1 >>= λ rest. Ok (ps.0, rest))) (Err fault)
      → FaultStands n (any parameters · sign 0 signs.CloseParenthesis) symbols fault
  other_parameters_fault symbols fault e = elim (chosen (begins_sign signs.CloseParenthesis symbols) _ _ (Err fault) e) [
    | inl c ↦ no_fault _ fault c.1
    | inr c ↦ fault_as (any parameters · sign 0 signs.CloseParenthesis) (λ m j. rejoined j (j.first.0 ∷ j.first.1, j.first.2) j.second)
        (parts_fault (listed_at parameter_at (length symbols) [] symbols) _ fault (λ x. x.1) c.1
        (λ w. separated_at_fault n 0 (parameter 0) parameter_at above (parameter_at_stands n 0 above) (parameter_at_fault n 0 above) (parameter_blank 0) (length symbols) [] symbols fault w)
        (some_separated_stands n 0 above (parameter 0) parameter_at (parameter_at_stands n 0 above) (length symbols) symbols) (sign_blank 0 signs.CloseParenthesis)
        (λ x r w. behind_fault n 0 signs.CloseParenthesis x.1 fault (last_fault (behind signs.CloseParenthesis x.1) _ fault w)))
  ]

  parameters_behind_fault : ReadFaults n (any parameters · sign 0 signs.CloseParenthesis) parameters_behind
  unfolding parameters_behind
  parameters_behind_fault (symbol.Keyword at keywords.Void ∷ rest) fault e = fault_as (any parameters · sign 0 signs.CloseParenthesis) (λ m j. rejoined j ([], inr j.first) j.second)
      (fault_behind (keyword_stands n 0 at keywords.Void rest above) (behind_fault n 0 signs.CloseParenthesis rest fault (last_fault (behind signs.CloseParenthesis rest) _ fault e)))
  parameters_behind_fault symbols fault e = other_parameters_fault symbols fault e

  parameters_here : (symbols : List Symbol) (x : List Parameter × List Symbol) → parameters_behind symbols ≡ Ok x → Stands n (any parameters · sign 0 signs.CloseParenthesis) symbols x.1
  parameters_here symbols x r = stands_as (any parameters · sign 0 signs.CloseParenthesis) (λ m j. rejoined j (x.0, j.first) j.second) (parameters_behind_stands n symbols x r)

  module _ (law : ExprStands) (faults : ExprFaultStands) (goes_on : ExprGoesOn) where
    -- a body behind what is noted
    braced_fault : (flag : Bool) (s0 s1 : List Symbol) (fault : Fault) → Stands n (noted flag) s0 s1 → (behind signs.OpenBrace s1 >>= λ inner. definition_behind n flag inner) ≡ Err fault → FaultStands n (any body) s0 fault
    unfolding definition_behind
    braced_fault flag s0 s1 fault lead e =
        let whole : 0 + n ≡ n = omega arith in
        let inside : Blank (any (entries 1) · sign 0 signs.CloseBrace) = blank_joined (entries_blank 1) (sign_blank 0 signs.CloseBrace) in
        fault_as (any body) (body_of flag)
        (fault_behind lead
        (parts_fault (behind signs.OpenBrace s1) _ fault (λ x. x) e (behind_fault n 0 signs.OpenBrace s1 fault) (λ x r. behind_stands n 0 signs.OpenBrace s1 x above r) inside
        (λ y r w. body_breaks law faults goes_on n n 0 whole y fault (last_fault (block_behind (blocks n) y) _ fault w))))

    other_body_fault : (symbols : List Symbol) (fault : Fault)
        → ◌≡◌ {A = Outcome (Option Definition)} (if begins_sign signs.Semicolon symbols then Ok (None, drop 1 symbols) else (behind signs.OpenBrace symbols >>= λ inner. definition_behind n false inner)) (Err fault)
        → FaultStands n (any body) symbols fault
    other_body_fault symbols fault e = elim (chosen (begins_sign signs.Semicolon symbols) _ _ (Err fault) e) [
      | inl c ↦ no_fault _ fault c.1
      | inr c ↦ braced_fault false symbols symbols fault (nothing_stands n symbols) c.1
    ]

    body_at_fault : ReadFaults n (any body) (body_at n)
    unfolding body_at
    body_at_fault (symbol.Keyword at keywords.NoteLocals ∷ rest) fault e = braced_fault true (symbol.Keyword at keywords.NoteLocals ∷ rest) rest fault (keyword_stands n 0 at keywords.NoteLocals rest above) e
    body_at_fault symbols fault e = other_body_fault symbols fault e

    function_behind_fault : (r : Option Base) (s : Option Stars) (i : Name) → ReadFaults n ((any parameters · sign 0 signs.CloseParenthesis) · any body) (function_behind n r s i)
    unfolding function_behind
    function_behind_fault r s i symbols fault e =
        parts_fault (parameters_behind symbols) _ fault (λ x. x.1) e (parameters_behind_fault symbols fault) (parameters_here symbols) body_blank
        (λ x r w. body_at_fault x.1 fault (last_fault (body_at n x.1) _ fault w))

    -- ---- external declarations

    named_behind_fault : (b : Base) (p : Option Pointer) (i : Name) (s0 s1 s2 s3 s4 : List Symbol) (fault : Fault) → Stands n leading s0 s1 → Stands n (spells_base 0 b) s1 s2 → Stands n (maybe (pointer 0) p) s2 s3 → Stands n (name 0 i) s3 s4
        → named_behind n b p i s4 ≡ Err fault → FaultStands n (any external) s0 fault
    unfolding named_behind
    named_behind_fault b p i s0 s1 s2 s3 s4 fault lead type front named e = elim (picked (bare_stars p) _ _ (Err fault) e) [
      | inl none ↦ globals_fault b s0 s1 s2 fault lead type (first_global_fault b p i s2 s3 s4 fault front named none.1)
      | inr some ↦ elim (chosen (begins_sign signs.OpenParenthesis s4) _ _ (Err fault) some.2) [
        | inl c ↦ fault_as (any external) (function_of (Some b) some.0)
            (fault_behind lead
            (fault_behind type
            (fault_behind (bare_stars_stand n p some.0 s2 s3 some.1 front)
            (fault_behind (stands_as (some_name 0) (λ m s. (i, s)) named)
            (fault_behind (begins_sign_stands n 0 signs.OpenParenthesis s4 above c.0) (function_behind_fault (Some b) some.0 i (drop 1 s4) fault c.1))))))
        | inr c ↦ globals_fault b s0 s1 s2 fault lead type (first_global_fault b p i s2 s3 s4 fault front named c.1)
      ]
    ]

    declared_behind_fault : (b : Base) (s0 s1 s2 : List Symbol) (fault : Fault) → Stands n leading s0 s1 → Stands n (spells_base 0 b) s1 s2 → declared_behind n b s2 ≡ Err fault → FaultStands n (any external) s0 fault
    unfolding declared_behind
    declared_behind_fault b s0 s1 s2 fault lead type e =
        let closing = sign_blank 0 signs.Semicolon in
        elim (bind_err (pointer_at s2) _ fault e) [
          | inl w ↦ globals_fault b s0 s1 s2 fault lead type
              (fault_before (sign 0 signs.Semicolon) closing.0 closing.1 (fault_as (some_separated 0 (global 0)) global_alone
              (fault_before (some_name 0 · global_end 0) (blank_joined (name_blank 0) (global_end_blank 0)).0 (blank_joined (name_blank 0) (global_end_blank 0)).1 (pointer_at_fault n 0 above s2 fault w))))
          | inr p ↦ elim (bind_err (name_at p.0.1) _ fault p.2) [
            | inl w ↦ globals_fault b s0 s1 s2 fault lead type
                (fault_before (sign 0 signs.Semicolon) closing.0 closing.1 (fault_as (some_separated 0 (global 0)) global_alone
                (fault_behind (any_stands (maybe (pointer 0)) p.0.0 (pointer_at_stands n 0 above s2 p.0 p.1))
                (fault_before (global_end 0) (global_end_blank 0).0 (global_end_blank 0).1 (name_at_fault n 0 p.0.1 fault w)))))
            | inr i ↦ named_behind_fault b p.0.0 i.0.0 s0 s1 s2 p.0.1 i.0.1 fault lead type (pointer_at_stands n 0 above s2 p.0 p.1) (name_at_stands n 0 p.0.1 i.0 above i.1) i.2
          ]
        ]

    void_behind_fault : (at : ℕ) (s0 rest : List Symbol) (fault : Fault) → Stands n leading s0 (symbol.Keyword at keywords.Void ∷ rest) → void_behind n rest ≡ Err fault → FaultStands n (any external) s0 fault
    unfolding void_behind
    void_behind_fault at s0 rest fault lead e =
        let s = stars_at rest in
        let inside = blank_joined (blank_joined parameters_blank (sign_blank 0 signs.CloseParenthesis)) body_blank in
        fault_as (any external) (function_of None s.0)
        (fault_behind lead
        (fault_behind (keyword_stands n 0 at keywords.Void rest above)
        (fault_behind (stars_at_stands n 0 above rest)
        (parts_fault (name_at s.1) _ fault (λ x. x.1) e (name_at_fault n 0 s.1 fault) (name_here s.1) function_end_blank
        (λ i r w. parts_fault (behind signs.OpenParenthesis i.1) _ fault (λ x. x) w (behind_fault n 0 signs.OpenParenthesis i.1 fault) (λ x r. behind_stands n 0 signs.OpenParenthesis i.1 x above r) inside
        (λ y r w. function_behind_fault None s.0 i.0 y fault w))))))

    based_fault : (s0 s1 : List Symbol) (fault : Fault) → Stands n leading s0 s1 → (bare_base_at s1 >>= λ b. declared_behind n b.0 b.1) ≡ Err fault → FaultStands n (any external) s0 fault
    based_fault s0 s1 fault lead e = elim (bind_err (bare_base_at s1) _ fault e) [
      | inl w ↦ fault_as (any external) globals_of
          (fault_behind lead (fault_before globals_end globals_end_blank.0 globals_end_blank.1
          (fault_as (some_base 0) (λ m s. (s.0, record { front = []; back = m; parts = refl; first = inl refl; second = s.1 })) (bare_base_at_fault n 0 s1 fault above w))))
      | inr b ↦ declared_behind_fault b.0.0 s0 s1 b.0.1 fault lead (stands_joined (optional_none n (keyword 0 keywords.Const) s1) (bare_base_at_stands n 0 s1 b.0 above b.1)) b.2
    ]

    typed_at_fault : (s0 s1 : List Symbol) (fault : Fault) → Stands n leading s0 s1 → typed_at n s1 ≡ Err fault → FaultStands n (any external) s0 fault
    unfolding typed_at
    typed_at_fault s0 (symbol.Keyword at keywords.Void ∷ rest) fault lead e = void_behind_fault at s0 rest fault lead e
    typed_at_fault s0 s1 fault lead e = based_fault s0 s1 fault lead e

    struct_at_fault : (at : ℕ) (rest : List Symbol) (fault : Fault) → struct_at n rest ≡ Err fault → FaultStands n (any external) (symbol.Keyword at keywords.Struct ∷ rest) fault
    unfolding struct_at
    struct_at_fault at rest fault e =
        let led = keyword_stands n 0 at keywords.Struct rest above in
        let all = symbol.Keyword at keywords.Struct ∷ rest in
        elim (bind_err (name_at rest) _ fault e) [
          | inl w ↦ fault_as (any external) mentioned_of
              (fault_behind led (fault_before (sign 0 signs.Semicolon) (sign_blank 0 signs.Semicolon).0 (sign_blank 0 signs.Semicolon).1 (name_at_fault n 0 rest fault w)))
          | inr i ↦
              let named = name_at_stands n 0 rest i.0 above i.1 in
              elim (chosen (begins_sign signs.Semicolon i.0.1) _ _ (Err fault) i.2) [
                | inl c ↦ no_fault _ fault c.1
                | inr c ↦ elim (chosen (begins_sign signs.OpenBrace i.0.1) _ _ (Err fault) c.1) [
                  | inl c ↦ fault_as (any external) (struct_of i.0.0)
                      (fault_behind led (fault_behind named (fault_behind (begins_sign_stands n 0 signs.OpenBrace i.0.1 above c.0) (struct_behind_fault i.0.0 (drop 1 i.0.1) fault c.1))))
                  | inr c ↦ declared_behind_fault (base.Struct i.0.0) all all i.0.1 fault (no_leading n all) (stands_joined (optional_none n (keyword 0 keywords.Const) all) (stands_joined led named)) c.1
                ]
              ]
        ]

    external_at_fault : ReadFaults n (any external) (external_at n)
    unfolding external_at
    external_at_fault (symbol.Keyword at keywords.Struct ∷ rest) fault e = struct_at_fault at rest fault e
    external_at_fault symbols fault e = typed_at_fault symbols (drop (count_leading symbols) symbols) fault (count_leading_stands n symbols) e

-- a file that is not read breaks off where the fault tells
pub file_faults : ExprStands → ExprFaultStands → ExprGoesOn → FileFaultStands
unfolding file_at
file_faults law faults goes_on n symbols fault e =
    until_at_fault n is_end external (external_at n) (external_at_stands n law) (external_at_fault n law faults goes_on) (length symbols) [] symbols fault e
