-- External declarations that are read, and so files, are what is spelled, no token of them too deep.
use Rattle.std.proofs.Common.{◌≡◌, ℕ, ◌+◌, ◌≤◌, inl, inr, Bool, true, false, List, [], ◌∷◌, ◌++◌, length, drop, Option, Some, None, Ok, refl, sym, ap, ◌∙◌, subst, arith, append-nil}
use Rattle.std.proofs.lemmas.Option.{same_Some}
use Rattle.std.specs.Prelude.{if◌then◌else◌}
use Rattle.kt_grammar.specs.declared.keyword.Keyword.TheVariants as keywords
use Rattle.kt_grammar.specs.declared.sign.Sign.TheVariants as signs
use Rattle.kt_grammar.specs.declared.symbol.Symbol.{Symbol}
use Rattle.kt_grammar.specs.declared.symbol.Symbol.TheVariants as symbol
use Rattle.kt_grammar.specs.declared.tree.Base.{Base}
use Rattle.kt_grammar.specs.declared.tree.Base.TheVariants as base
use Rattle.kt_grammar.specs.declared.tree.Name.{Name}
use Rattle.kt_grammar.specs.Marks.{Mark, symbols_of, sign, keyword, name, ◌·◌}
use Rattle.kt_grammar.specs.Spelling.{spells_base}
use Rattle.kt_grammar.specs.Cursor.{◌>>=◌, begins_sign, behind, name_at, listed_at, until_at}
use Rattle.kt_grammar.specs.Reading.{bare_base_at}
use Rattle.kt_grammar.specs.Laws.{Stands, ExprStands}
use Rattle.kt_grammar.specs.StandsLaws.{by_value, bind_ok, chosen, nothing_stands, stands_joined, stands_as, stands_when, optional_none, optional_some, keyword_stands, begins_sign_stands, behind_stands, name_at_stands, bare_base_at_stands}
use Rattle.kt_syntax.specs.declared.tree.Stars.{Stars}
use Rattle.kt_syntax.specs.declared.tree.Pointer.{Pointer}
use Rattle.kt_syntax.specs.declared.tree.GlobalDeclarator.{GlobalDeclarator}
use Rattle.kt_syntax.specs.declared.tree.Parameter.{Parameter}
use Rattle.kt_syntax.specs.declared.tree.Fields.{Fields}
use Rattle.kt_syntax.specs.Tree.{statements_of, Definition, External, StructMentioned, StructDefined, GlobalsDeclared, FunctionDeclared}
use Rattle.kt_syntax.specs.Spelling.{separated, each, maybe, stars, extent_spelling, pointer, global, parameter, fields, leading, result, parameters, noted, body, external}
use Rattle.kt_syntax.specs.Reading.{stars_at, pointer_at, global_behind, global_at, parameter_at, fields_at, block_behind, blocks, count_leading, parameters_behind, definition_behind, body_at, function_behind, globals_behind, bare_stars, named_behind, declared_behind, void_behind, typed_at, struct_behind, struct_at, external_at, is_end, file_at}
use Rattle.kt_syntax.specs.File.{IsSpelled}
use Rattle.kt_syntax.specs.StandLaws.{FileStands}
use Rattle.kt_syntax.specs.ListStands.{ReadStands, not_true, none_is_some, picked, separated_at_stands, until_at_stands}
use Rattle.kt_syntax.proofs.DeclaratorStands.{stars_at_stands, pointer_at_stands, global_behind_stands, global_at_stands, parameter_at_stands, fields_at_stands}
use Rattle.kt_syntax.proofs.StatementStands.{body_stands}

-- a pointer without an extent is its stars
pub bare_stars_stand : (limit : ℕ) (p : Option Pointer) (s : Option Stars) (symbols rest : List Symbol) → bare_stars p ≡ Some s → Stands limit (maybe (pointer 0) p) symbols rest → Stands limit (maybe (stars 0) s) symbols rest
bare_stars_stand limit None s symbols rest e front = subst (λ (o : Option Stars). Stands limit (maybe (stars 0) o) symbols rest) (same_Some None s e) front
bare_stars_stand limit (Some p) s symbols rest e front = elim (picked p.extent _ _ (Some s) e) [
  | inl none ↦
      subst (λ (o : Option Stars). Stands limit (maybe (stars 0) o) symbols rest) (same_Some (Some p.stars) s none.1)
      (stands_as (stars 0 p.stars)
      (λ m j.
      let empty : j.back ≡ [] = subst (λ o. maybe (extent_spelling 0) o j.back) none.0 j.second in
      subst (stars 0 p.stars) (sym (j.parts ∙ ap (λ (b : List Mark). j.front ++ b) empty ∙ append-nil j.front)) j.first)
      front)
  | inr some ↦ none_is_some s some.2
]

-- nothing is left where the end is
at_end : (symbols : List Symbol) → is_end symbols ≡ true → symbols ≡ []
at_end [] e = refl
at_end (first ∷ rest) e = not_true e

module _ (n : ℕ) where
  pub low : 0 ≤ n
  low = omega arith

  -- what leads a declaration, and is not in its tree
  pub no_leading : (symbols : List Symbol) → Stands n leading symbols symbols
  no_leading symbols = record { marks = []; parts = refl; spelled = tt; shallow = tt }

  pub count_leading_stands : (symbols : List Symbol) → Stands n leading symbols (drop (count_leading symbols) symbols)
  unfolding count_leading
  count_leading_stands (symbol.Keyword at keywords.Static ∷ rest) =
      let more = count_leading_stands rest in
      record {
        marks = record { symbol = symbol.Keyword at keywords.Static; depth = 0 } ∷ more.marks;
        parts = ap (λ (l : List Symbol). symbol.Keyword at keywords.Static ∷ l) more.parts;
        spelled = ((at, inl refl), more.spelled);
        shallow = (low, more.shallow);
      }
  count_leading_stands (symbol.Keyword at keywords.Const ∷ rest) =
      let more = count_leading_stands rest in
      record {
        marks = record { symbol = symbol.Keyword at keywords.Const; depth = 0 } ∷ more.marks;
        parts = ap (λ (l : List Symbol). symbol.Keyword at keywords.Const ∷ l) more.parts;
        spelled = ((at, inr refl), more.spelled);
        shallow = (low, more.shallow);
      }
  count_leading_stands symbols = no_leading symbols

  -- ---- globals

  pub more_globals : (first : GlobalDeclarator) (symbols middle : List Symbol) (x : List GlobalDeclarator × List Symbol) → Stands n (global 0 first) symbols middle
      → (if begins_sign signs.Comma middle then listed_at global_at (length middle) (first ∷ []) (drop 1 middle) else Ok (first ∷ [], middle)) ≡ Ok x → Stands n (separated 0 (global 0) x.0) symbols x.1
  more_globals first symbols middle x one e =
      let Found : List GlobalDeclarator × List Symbol → Type 0 = λ y. Stands n (separated 0 (global 0) y.0) symbols y.1 in
      elim (chosen (begins_sign signs.Comma middle) _ _ (Ok x) e) [
        | inl c ↦
            let l = separated_at_stands n 0 (global 0) global_at low (global_at_stands n 0 low) (length middle) (first ∷ []) (drop 1 middle) x c.1 in
            subst (λ (gs : List GlobalDeclarator). Stands n (separated 0 (global 0) gs) symbols x.1) (sym l.is)
            (stands_joined one (stands_joined (begins_sign_stands n 0 signs.Comma middle low c.0) l.stands))
        | inr c ↦ by_value Found (first ∷ [], middle) x c.1 one
      ]

  globals_behind_stands : (b : Base) (first : GlobalDeclarator) (s0 s1 s2 s3 : List Symbol) (x : External × List Symbol) → Stands n leading s0 s1 → Stands n (spells_base 0 b) s1 s2 → Stands n (global 0 first) s2 s3
      → globals_behind b first s3 ≡ Ok x → Stands n (external x.0) s0 x.1
  unfolding globals_behind
  globals_behind_stands b first s0 s1 s2 s3 x lead type one e =
      let l = bind_ok (if begins_sign signs.Comma s3 then listed_at global_at (length s3) (first ∷ []) (drop 1 s3) else Ok (first ∷ [], s3)) _ x e in
      let t = bind_ok (behind signs.Semicolon l.value.1) _ x l.then_gave in
      by_value (λ (y : External × List Symbol). Stands n (external y.0) s0 y.1) (GlobalsDeclared b l.value.0, t.value) x t.then_gave
      (stands_joined lead (stands_joined type (stands_joined (more_globals first s2 s3 l.value one l.gave) (behind_stands n 0 signs.Semicolon l.value.1 t.value low t.gave))))

  first_global_stands : (b : Base) (p : Option Pointer) (i : Name) (s0 s1 s2 s3 s4 : List Symbol) (x : External × List Symbol) → Stands n leading s0 s1 → Stands n (spells_base 0 b) s1 s2 → Stands n (maybe (pointer 0) p) s2 s3 → Stands n (name 0 i) s3 s4
      → (global_behind p i s4 >>= λ g. globals_behind b g.0 g.1) ≡ Ok x → Stands n (external x.0) s0 x.1
  first_global_stands b p i s0 s1 s2 s3 s4 x lead type front named e =
      let g = bind_ok (global_behind p i s4) _ x e in
      globals_behind_stands b g.value.0 s0 s1 s2 g.value.1 x lead type (global_behind_stands n 0 low p i s2 s3 s4 g.value front named g.gave) g.then_gave

  -- ---- structs

  struct_behind_stands : (at : ℕ) (i : Name) (s0 s1 s2 : List Symbol) (x : External × List Symbol) → Stands n (name 0 i) s0 s1 → Stands n (sign 0 signs.OpenBrace) s1 s2
      → struct_behind i s2 ≡ Ok x → Stands n (external x.0) (symbol.Keyword at keywords.Struct ∷ s0) x.1
  unfolding struct_behind
  struct_behind_stands at i s0 s1 s2 x named opened e =
      let f = bind_ok (fields_at s2) _ x e in
      let l = bind_ok (until_at (begins_sign signs.CloseBrace) fields_at (length f.value.1) (f.value.0 ∷ []) f.value.1) _ x f.then_gave in
      let t = bind_ok (behind signs.Semicolon (drop 1 l.value.1)) _ x l.then_gave in
      let all = until_at_stands n (begins_sign signs.CloseBrace) (fields 0) fields_at (fields_at_stands n 0 low) (length f.value.1) (f.value.0 ∷ []) f.value.1 l.value l.gave in
      let Found : List Fields → Type 0 = λ fs. Stands n (external (StructDefined i fs)) (symbol.Keyword at keywords.Struct ∷ s0) t.value in
      by_value (λ (y : External × List Symbol). Stands n (external y.0) (symbol.Keyword at keywords.Struct ∷ s0) y.1) (StructDefined i l.value.0, t.value) x t.then_gave
      (subst Found (sym all.is)
      (stands_when true refl
      (stands_joined (keyword_stands n 0 at keywords.Struct s0 low)
      (stands_joined named
      (stands_joined opened
      (stands_joined (stands_joined (fields_at_stands n 0 low s2 f.value f.gave) all.stands)
      (stands_joined (begins_sign_stands n 0 signs.CloseBrace l.value.1 low all.stopped) (behind_stands n 0 signs.Semicolon (drop 1 l.value.1) t.value low t.gave))))))))

  -- ---- functions

  other_parameters : (symbols : List Symbol) (x : List Parameter × List Symbol)
      → (if begins_sign signs.CloseParenthesis symbols then Ok ([], drop 1 symbols)
      else (listed_at parameter_at (length symbols) [] symbols >>= λ ps. behind signs.CloseParenthesis ps.1 >>= λ rest. Ok (ps.0, rest))) ≡ Ok x
      → Stands n (parameters x.0 · sign 0 signs.CloseParenthesis) symbols x.1
  other_parameters symbols x e =
      let Found : List Parameter × List Symbol → Type 0 = λ y. Stands n (parameters y.0 · sign 0 signs.CloseParenthesis) symbols y.1 in
      elim (chosen (begins_sign signs.CloseParenthesis symbols) _ _ (Ok x) e) [
        | inl c ↦ by_value Found ([], drop 1 symbols) x c.1 (stands_joined (optional_none n (keyword 0 keywords.Void) symbols) (begins_sign_stands n 0 signs.CloseParenthesis symbols low c.0))
        | inr c ↦
            let l = bind_ok (listed_at parameter_at (length symbols) [] symbols) _ x c.1 in
            let t = bind_ok (behind signs.CloseParenthesis l.value.1) _ x l.then_gave in
            let all = separated_at_stands n 0 (parameter 0) parameter_at low (parameter_at_stands n 0 low) (length symbols) [] symbols l.value l.gave in
            by_value Found (l.value.0, t.value) x t.then_gave
            (stands_joined (subst (λ (ps : List Parameter). Stands n (parameters ps) symbols l.value.1) (sym all.is) all.stands) (behind_stands n 0 signs.CloseParenthesis l.value.1 t.value low t.gave))
      ]

  pub parameters_behind_stands : ReadStands n (λ ps. parameters ps · sign 0 signs.CloseParenthesis) parameters_behind
  unfolding parameters_behind
  parameters_behind_stands (symbol.Keyword at keywords.Void ∷ rest) x e =
      let t = bind_ok (behind signs.CloseParenthesis rest) _ x e in
      by_value (λ (y : List Parameter × List Symbol). Stands n (parameters y.0 · sign 0 signs.CloseParenthesis) (symbol.Keyword at keywords.Void ∷ rest) y.1) ([], t.value) x t.then_gave
      (stands_joined (optional_some (keyword_stands n 0 at keywords.Void rest low)) (behind_stands n 0 signs.CloseParenthesis rest t.value low t.gave))
  parameters_behind_stands symbols x e = other_parameters symbols x e

  module _ (law : ExprStands) where
    definition_behind_stands : (flag : Bool) (s0 s1 s2 : List Symbol) (x : Option Definition × List Symbol) → Stands n (noted flag) s0 s1 → Stands n (sign 0 signs.OpenBrace) s1 s2 → definition_behind n flag s2 ≡ Ok x → Stands n (body x.0) s0 x.1
    unfolding definition_behind
    definition_behind_stands flag s0 s1 s2 x lead opened e =
        let es = bind_ok (block_behind (blocks n) s2) _ x e in
        let whole : 0 + n ≡ n = omega arith in
        by_value (λ (y : Option Definition × List Symbol). Stands n (body y.0) s0 y.1) (Some (record { noted = flag; entries = statements_of es.value.0 }), es.value.1) x es.then_gave
        (stands_joined lead (stands_joined opened (body_stands law n n 0 whole s2 es.value es.gave)))

    other_body : (symbols : List Symbol) (x : Option Definition × List Symbol)
        → (if begins_sign signs.Semicolon symbols then Ok (None, drop 1 symbols) else (behind signs.OpenBrace symbols >>= λ inner. definition_behind n false inner)) ≡ Ok x → Stands n (body x.0) symbols x.1
    other_body symbols x e = elim (chosen (begins_sign signs.Semicolon symbols) _ _ (Ok x) e) [
      | inl c ↦ by_value (λ (y : Option Definition × List Symbol). Stands n (body y.0) symbols y.1) (None, drop 1 symbols) x c.1 (begins_sign_stands n 0 signs.Semicolon symbols low c.0)
      | inr c ↦
          let o = bind_ok (behind signs.OpenBrace symbols) _ x c.1 in
          definition_behind_stands false symbols symbols o.value x (nothing_stands n symbols) (behind_stands n 0 signs.OpenBrace symbols o.value low o.gave) o.then_gave
    ]

    pub body_at_stands : ReadStands n body (body_at n)
    unfolding body_at
    body_at_stands (symbol.Keyword at keywords.NoteLocals ∷ rest) x e =
        let o = bind_ok (behind signs.OpenBrace rest) _ x e in
        definition_behind_stands true (symbol.Keyword at keywords.NoteLocals ∷ rest) rest o.value x (keyword_stands n 0 at keywords.NoteLocals rest low) (behind_stands n 0 signs.OpenBrace rest o.value low o.gave) o.then_gave
    body_at_stands symbols x e = other_body symbols x e

    function_behind_stands : (r : Option Base) (s : Option Stars) (i : Name) (s0 s1 s2 s3 s4 s5 : List Symbol) (x : External × List Symbol) → Stands n leading s0 s1 → Stands n (result r) s1 s2 → Stands n (maybe (stars 0) s) s2 s3 → Stands n (name 0 i) s3 s4
        → Stands n (sign 0 signs.OpenParenthesis) s4 s5 → function_behind n r s i s5 ≡ Ok x → Stands n (external x.0) s0 x.1
    unfolding function_behind
    function_behind_stands r s i s0 s1 s2 s3 s4 s5 x lead type front named opened e =
        let ps = bind_ok (parameters_behind s5) _ x e in
        let b = bind_ok (body_at n ps.value.1) _ x ps.then_gave in
        by_value (λ (y : External × List Symbol). Stands n (external y.0) s0 y.1)
        (FunctionDeclared (record { result = r; stars = s; name = i; parameters = ps.value.0; body = b.value.0 }), b.value.1) x b.then_gave
        (stands_joined lead
        (stands_joined type
        (stands_joined front
        (stands_joined named
        (stands_joined (stands_joined opened (parameters_behind_stands s5 ps.value ps.gave)) (body_at_stands ps.value.1 b.value b.gave))))))

    -- ---- external declarations

    named_behind_stands : (b : Base) (p : Option Pointer) (i : Name) (s0 s1 s2 s3 s4 : List Symbol) (x : External × List Symbol) → Stands n leading s0 s1 → Stands n (spells_base 0 b) s1 s2 → Stands n (maybe (pointer 0) p) s2 s3 → Stands n (name 0 i) s3 s4
        → named_behind n b p i s4 ≡ Ok x → Stands n (external x.0) s0 x.1
    unfolding named_behind
    named_behind_stands b p i s0 s1 s2 s3 s4 x lead type front named e = elim (picked (bare_stars p) _ _ (Ok x) e) [
      | inl none ↦ first_global_stands b p i s0 s1 s2 s3 s4 x lead type front named none.1
      | inr some ↦ elim (chosen (begins_sign signs.OpenParenthesis s4) _ _ (Ok x) some.2) [
        | inl c ↦
            function_behind_stands (Some b) some.0 i s0 s1 s2 s3 s4 (drop 1 s4) x lead type (bare_stars_stand n p some.0 s2 s3 some.1 front) named (begins_sign_stands n 0 signs.OpenParenthesis s4 low c.0) c.1
        | inr c ↦ first_global_stands b p i s0 s1 s2 s3 s4 x lead type front named c.1
      ]
    ]

    declared_behind_stands : (b : Base) (s0 s1 s2 : List Symbol) (x : External × List Symbol) → Stands n leading s0 s1 → Stands n (spells_base 0 b) s1 s2 → declared_behind n b s2 ≡ Ok x → Stands n (external x.0) s0 x.1
    unfolding declared_behind
    declared_behind_stands b s0 s1 s2 x lead type e =
        let p = bind_ok (pointer_at s2) _ x e in
        let i = bind_ok (name_at p.value.1) _ x p.then_gave in
        named_behind_stands b p.value.0 i.value.0 s0 s1 s2 p.value.1 i.value.1 x lead type (pointer_at_stands n 0 low s2 p.value p.gave) (name_at_stands n 0 p.value.1 i.value low i.gave) i.then_gave

    void_behind_stands : (at : ℕ) (s0 rest : List Symbol) (x : External × List Symbol) → Stands n leading s0 (symbol.Keyword at keywords.Void ∷ rest) → void_behind n rest ≡ Ok x → Stands n (external x.0) s0 x.1
    unfolding void_behind
    void_behind_stands at s0 rest x lead e =
        let s = stars_at rest in
        let i = bind_ok (name_at s.1) _ x e in
        let o = bind_ok (behind signs.OpenParenthesis i.value.1) _ x i.then_gave in
        function_behind_stands None s.0 i.value.0 s0 (symbol.Keyword at keywords.Void ∷ rest) rest s.1 i.value.1 o.value x lead (keyword_stands n 0 at keywords.Void rest low) (stars_at_stands n 0 low rest)
        (name_at_stands n 0 s.1 i.value low i.gave) (behind_stands n 0 signs.OpenParenthesis i.value.1 o.value low o.gave) o.then_gave

    based_stands : (s0 s1 : List Symbol) (x : External × List Symbol) → Stands n leading s0 s1 → (bare_base_at s1 >>= λ b. declared_behind n b.0 b.1) ≡ Ok x → Stands n (external x.0) s0 x.1
    based_stands s0 s1 x lead e =
        let b = bind_ok (bare_base_at s1) _ x e in
        declared_behind_stands b.value.0 s0 s1 b.value.1 x lead
        (stands_joined (optional_none n (keyword 0 keywords.Const) s1) (bare_base_at_stands n 0 s1 b.value low b.gave)) b.then_gave

    typed_at_stands : (s0 s1 : List Symbol) (x : External × List Symbol) → Stands n leading s0 s1 → typed_at n s1 ≡ Ok x → Stands n (external x.0) s0 x.1
    unfolding typed_at
    typed_at_stands s0 (symbol.Keyword at keywords.Void ∷ rest) x lead e = void_behind_stands at s0 rest x lead e
    typed_at_stands s0 s1 x lead e = based_stands s0 s1 x lead e

    struct_at_stands : (at : ℕ) (rest : List Symbol) (x : External × List Symbol) → struct_at n rest ≡ Ok x → Stands n (external x.0) (symbol.Keyword at keywords.Struct ∷ rest) x.1
    unfolding struct_at
    struct_at_stands at rest x e =
        let i = bind_ok (name_at rest) _ x e in
        let named = name_at_stands n 0 rest i.value low i.gave in
        let led = keyword_stands n 0 at keywords.Struct rest low in
        elim (chosen (begins_sign signs.Semicolon i.value.1) _ _ (Ok x) i.then_gave) [
          | inl c ↦ by_value (λ (y : External × List Symbol). Stands n (external y.0) (symbol.Keyword at keywords.Struct ∷ rest) y.1) (StructMentioned i.value.0, drop 1 i.value.1) x c.1
              (stands_joined led (stands_joined named (begins_sign_stands n 0 signs.Semicolon i.value.1 low c.0)))
          | inr c ↦ elim (chosen (begins_sign signs.OpenBrace i.value.1) _ _ (Ok x) c.1) [
            | inl c ↦ struct_behind_stands at i.value.0 rest i.value.1 (drop 1 i.value.1) x named (begins_sign_stands n 0 signs.OpenBrace i.value.1 low c.0) c.1
            | inr c ↦
                declared_behind_stands (base.Struct i.value.0) (symbol.Keyword at keywords.Struct ∷ rest) (symbol.Keyword at keywords.Struct ∷ rest) i.value.1 x (no_leading (symbol.Keyword at keywords.Struct ∷ rest))
                (stands_joined (optional_none n (keyword 0 keywords.Const) (symbol.Keyword at keywords.Struct ∷ rest)) (stands_joined led named)) c.1
          ]
        ]

    pub external_at_stands : ReadStands n external (external_at n)
    unfolding external_at
    external_at_stands (symbol.Keyword at keywords.Struct ∷ rest) x e = struct_at_stands at rest x e
    external_at_stands symbols x e = typed_at_stands symbols (drop (count_leading symbols) symbols) x (count_leading_stands symbols) e

-- what stands before nothing is the whole
whole_file : (n : ℕ) (xs : List External) (symbols rest : List Symbol) → Stands n (each external xs) symbols rest → rest ≡ [] → IsSpelled n symbols xs
whole_file n xs symbols rest s ended = record {
  marks = s.marks;
  parts = sym (s.parts ∙ ap (λ (r : List Symbol). symbols_of s.marks ++ r) ended ∙ append-nil (symbols_of s.marks));
  spelled = s.spelled;
  shallow = s.shallow;
}

-- a file that is read is one
pub file_stands : ExprStands → FileStands
unfolding file_at
file_stands law n symbols xs rest e =
    let all = until_at_stands n is_end external (external_at n) (external_at_stands n law) (length symbols) [] symbols (xs, rest) e in
    let ended = at_end rest all.stopped in
    (ended, whole_file n xs symbols rest (subst (λ (ys : List External). Stands n (each external ys) symbols rest) (sym all.is) all.stands) ended)
