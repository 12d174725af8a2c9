-- A text is that of at most one version, and then has no fault; otherwise it has at most one.
use Rattle.std.specs.Prelude.{◌≡◌, ℕ, ◌⊎◌, List, Result, Ok, Err, refl}
use Rattle.std.proofs.Common.{inl, inr, sym, subst, ap, ◌∙◌}
use Rattle.kt_lex.specs.declared.token.Token.{Token}
use Rattle.kt_lex.specs.declared.token.LexFault.{LexFault}
use Rattle.kt_lex.specs.declared.token.LexFault.TheVariants as lex
use Rattle.kt_lex.specs.Tokens.{tokens_of}
use Rattle.kt_syntax.specs.declared.fault.SyntaxFault.{SyntaxFault}
use Rattle.kt_syntax.specs.declared.fault.SyntaxFault.TheVariants as syntax
use Rattle.kt_syntax.specs.Answer.{IsAnswer, OneAnswer}
use Rattle.kt_syntax.specs.Tree.{Tree}
use Rattle.kt_names.specs.declared.fault.CheckFault.{CheckFault}
use Rattle.kt_names.specs.declared.fault.CheckFault.TheVariants as check
use Rattle.kt_check.specs.Files.{version_of}
use Rattle.kt_tree.specs.Version.{Program}
use Rattle.kt_play.specs.declared.status.Cause.{Cause}
use Rattle.kt_play.specs.declared.status.Cause.TheVariants.{Byte, Unclosed, Literal, Directive, Syntax, TooDeep, Unknown, Twice, BadType, Incomplete, TooBig, Entry, Note, NoMain, Later}
use Rattle.kt_play.specs.Job.{HasVersion}
use Rattle.kt_play.specs.Text.{HasTree, IsTypedAs, IsVersionText, IsFaultOf, HasTokensWith}

-- ---- faults by their stage

-- the cause of a fault of tokens, of syntax, and of types; want of memory is none of a text
abbrev of_lex : LexFault → Cause
of_lex (lex.Byte at) = Byte at
of_lex (lex.Unclosed at) = Unclosed at
of_lex (lex.Literal at) = Literal at
of_lex (lex.Directive at) = Directive at
of_lex lex.NoMemory = Later 0

abbrev of_syntax : SyntaxFault → Cause
of_syntax (syntax.Syntax at) = Syntax at
of_syntax (syntax.TooDeep at) = TooDeep at
of_syntax syntax.NoMemory = Later 0

abbrev of_check : CheckFault → Cause
of_check (check.Unknown at) = Unknown at
of_check (check.Twice at) = Twice at
of_check (check.BadType at) = BadType at
of_check (check.Incomplete at) = Incomplete at
of_check (check.TooBig at) = TooBig at
of_check (check.Entry at) = Entry at
of_check (check.Note at) = Note at
of_check (check.NoMain at) = NoMain at
of_check check.NoMemory = Later 0

-- the tokens of the text have this tree, or this fault
abbrev IsParsedAs : List ℕ → Result Tree SyntaxFault → Type 0
IsParsedAs bytes outcome = HasTokensWith bytes (λ tokens. IsAnswer bytes tokens outcome)

-- where a text has its fault: in its tokens, in its syntax, or in its types
abbrev InTokens : List ℕ → Cause → Type 0
InTokens bytes c = (f : LexFault) × (tokens_of bytes ≡ Err f) × (c ≡ of_lex f)

abbrev InSyntax : List ℕ → Cause → Type 0
InSyntax bytes c = (f : SyntaxFault) × IsParsedAs bytes (Err f) × (c ≡ of_syntax f)

abbrev InTypes : List ℕ → Cause → Type 0
InTypes bytes c = (f : CheckFault) × IsTypedAs bytes (Err f) × (c ≡ of_check f)

abbrev IsFaulty : List ℕ → Cause → Type 0
IsFaulty bytes c = InTokens bytes c ⊎ (InSyntax bytes c ⊎ InTypes bytes c)

in_tokens : (bytes : List ℕ) (f : LexFault) → tokens_of bytes ≡ Err f → IsFaulty bytes (of_lex f)
in_tokens bytes f e = inl (f, e, refl)

in_types : (bytes : List ℕ) (f : CheckFault) → IsTypedAs bytes (Err f) → IsFaulty bytes (of_check f)
in_types bytes f t = inr (inr (f, t, refl))

faulty : (bytes : List ℕ) (c : Cause) → IsFaultOf bytes c → IsFaulty bytes c
faulty bytes (Byte at) f = in_tokens bytes _ f
faulty bytes (Unclosed at) f = in_tokens bytes _ f
faulty bytes (Literal at) f = in_tokens bytes _ f
faulty bytes (Directive at) f = in_tokens bytes _ f
faulty bytes (Syntax at) f = inr (inl (syntax.Syntax at, record { tokens = f.tokens; lexed = f.lexed; fault = f.fault }, refl))
faulty bytes (TooDeep at) f = inr (inl (syntax.TooDeep at, record { tokens = f.tokens; lexed = f.lexed; fault = f.fault }, refl))
faulty bytes (Unknown at) f = in_types bytes _ f
faulty bytes (Twice at) f = in_types bytes _ f
faulty bytes (BadType at) f = in_types bytes _ f
faulty bytes (Incomplete at) f = in_types bytes _ f
faulty bytes (TooBig at) f = in_types bytes _ f
faulty bytes (Entry at) f = in_types bytes _ f
faulty bytes (Note at) f = in_types bytes _ f
faulty bytes (NoMain at) f = in_types bytes _ f
faulty bytes (Later at) f = absurd f

-- ---- one outcome of each stage

same_tokens : (bytes : List ℕ) (a b : List Token) → tokens_of bytes ≡ Ok a → tokens_of bytes ≡ Ok b → a ≡ b
same_tokens bytes a b s t = cc

no_lexing : (bytes : List ℕ) (f : LexFault) (tokens : List Token) → tokens_of bytes ≡ Err f → tokens_of bytes ≡ Ok tokens → ⊥
no_lexing bytes f tokens e t = cc

same_lexing : (bytes : List ℕ) (f g : LexFault) → tokens_of bytes ≡ Err f → tokens_of bytes ≡ Err g → f ≡ g
same_lexing bytes f g s t = cc

-- a text with a tree is parsed as that tree
parsed : (bytes : List ℕ) (x : Tree) → HasTree bytes x → IsParsedAs bytes (Ok x)
parsed bytes x t = record { tokens = t.tokens; lexed = t.lexed; fault = t.tree }

module _ (one : OneAnswer) where
  one_parse : (bytes : List ℕ) (x y : Result Tree SyntaxFault) → IsParsedAs bytes x → IsParsedAs bytes y → x ≡ y
  one_parse bytes x y s t =
      let e = same_tokens bytes s.tokens t.tokens s.lexed t.lexed in
      one bytes t.tokens x y (subst (λ (l : List Token). IsAnswer bytes l x) e s.fault) t.fault

  same_syntax : (bytes : List ℕ) (f g : SyntaxFault) → IsParsedAs bytes (Err f) → IsParsedAs bytes (Err g) → f ≡ g
  same_syntax bytes f g s t = let e = one_parse bytes (Err f) (Err g) s t in cc

  no_parsing : (bytes : List ℕ) (f : SyntaxFault) (o : Result Program CheckFault) → IsParsedAs bytes (Err f) → IsTypedAs bytes o → ⊥
  no_parsing bytes f o s t = let e = one_parse bytes (Err f) (Ok t.tree) s (parsed bytes t.tree t.parsed) in cc

  same_tree : (bytes : List ℕ) (x y : Tree) → HasTree bytes x → HasTree bytes y → x ≡ y
  same_tree bytes x y s t = let e = one_parse bytes (Ok x) (Ok y) (parsed bytes x s) (parsed bytes y t) in cc

  one-outcome : (bytes : List ℕ) (a b : Result Program CheckFault) → IsTypedAs bytes a → IsTypedAs bytes b → a ≡ b
  one-outcome bytes a b s t = let e = same_tree bytes s.tree t.tree s.parsed t.parsed in sym s.typed ∙ ap version_of e ∙ t.typed

  pub IsVersionText-unique : (bytes : List ℕ) (v w : Program) → IsVersionText bytes v → IsVersionText bytes w → v ≡ w
  IsVersionText-unique bytes v w s t = let e = one-outcome bytes (Ok v) (Ok w) s t in cc

  same_typing : (bytes : List ℕ) (f g : CheckFault) → IsTypedAs bytes (Err f) → IsTypedAs bytes (Err g) → f ≡ g
  same_typing bytes f g s t = let e = one-outcome bytes (Err f) (Err g) s t in cc

  -- ---- no fault of a version, and at most one

  version_or_faulty : (bytes : List ℕ) (c : Cause) → IsFaulty bytes c → HasVersion bytes → ⊥
  version_or_faulty bytes c (inl x) v = no_lexing bytes x.0 v.1.parsed.tokens x.1 v.1.parsed.lexed
  version_or_faulty bytes c (inr (inl x)) v = no_parsing bytes x.0 _ x.1 v.1
  version_or_faulty bytes c (inr (inr x)) v = let e = one-outcome bytes (Ok v.0) (Err x.0) v.1 x.1 in cc

  -- the text of a version has no fault
  pub fault-none : (bytes : List ℕ) (c : Cause) → IsFaultOf bytes c → HasVersion bytes → ⊥
  fault-none bytes c f v = version_or_faulty bytes c (faulty bytes c f) v

  one_of : (bytes : List ℕ) (c d : Cause) → IsFaulty bytes c → IsFaulty bytes d → c ≡ d
  one_of bytes c d (inl x) (inl y) = x.2 ∙ ap of_lex (same_lexing bytes x.0 y.0 x.1 y.1) ∙ sym y.2
  one_of bytes c d (inl x) (inr (inl y)) = absurd (no_lexing bytes x.0 y.1.tokens x.1 y.1.lexed)
  one_of bytes c d (inl x) (inr (inr y)) = absurd (no_lexing bytes x.0 y.1.parsed.tokens x.1 y.1.parsed.lexed)
  one_of bytes c d (inr (inl x)) (inl y) = absurd (no_lexing bytes y.0 x.1.tokens y.1 x.1.lexed)
  one_of bytes c d (inr (inl x)) (inr (inl y)) = x.2 ∙ ap of_syntax (same_syntax bytes x.0 y.0 x.1 y.1) ∙ sym y.2
  one_of bytes c d (inr (inl x)) (inr (inr y)) = absurd (no_parsing bytes x.0 _ x.1 y.1)
  one_of bytes c d (inr (inr x)) (inl y) = absurd (no_lexing bytes y.0 x.1.parsed.tokens y.1 x.1.parsed.lexed)
  one_of bytes c d (inr (inr x)) (inr (inl y)) = absurd (no_parsing bytes y.0 _ y.1 x.1)
  one_of bytes c d (inr (inr x)) (inr (inr y)) = x.2 ∙ ap of_check (same_typing bytes x.0 y.0 x.1 y.1) ∙ sym y.2

  -- a text has at most one fault
  pub one_fault : (bytes : List ℕ) (c d : Cause) → IsFaultOf bytes c → IsFaultOf bytes d → c ≡ d
  one_fault bytes c d f g = one_of bytes c d (faulty bytes c f) (faulty bytes d g)
