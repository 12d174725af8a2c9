-- How an argument is written, as far as built-in calls ask for it.
use Rattle.std.specs.Prelude.{ℕ, List}
use Rattle.kt_grammar.specs.declared.tree.Name.{Name as NameTree}
use Rattle.kt_grammar.specs.declared.tree.TypeName.{TypeName}
use Rattle.kt_grammar.specs.Tree.{Term, Constant, Character, Text, Null, Eof, Named, Called, Parenthesised, SizeOf, RuleValue, OldSymbol, Transformed, NewObject, Element, Member, Pointed, Stepped, Prefixed, Converted, Operated, Chosen, Assigned}
use Rattle.kt_terms.specs.declared.spelling.Spelling.{Spelling as SpellingCode}
use Rattle.kt_terms.specs.declared.spelling.Spelling.TheVariants as code

pub data Spelling : Type 0 where
  -- `sizeof` at its place, of a type name
  Sized : ℕ → TypeName → Spelling
  Quoted : List ℕ → Spelling
  Word : NameTree → Spelling
  NoPointer : Spelling
  Other : Spelling

abbrev pub spelled : SpellingCode → Spelling
spelled (code.Size at t) = Sized at t.now
spelled (code.Text bytes) = Quoted bytes.now
spelled (code.Name n) = Word n.now
spelled code.Null = NoPointer
spelled code.Other = Other

abbrev pub spelling_of : Term → Spelling
spelling_of (Constant at n) = Other
spelling_of (Character at b) = Other
spelling_of (Text at bytes) = Quoted bytes
spelling_of (Null at) = NoPointer
spelling_of (Eof at) = Other
spelling_of (Named n) = Word n
spelling_of (Called n args) = Other
spelling_of (Parenthesised at a) = Other
spelling_of (SizeOf at t) = Sized at t
spelling_of (RuleValue at w) = Other
spelling_of (OldSymbol at n) = Other
spelling_of (NewObject at f) = Other
spelling_of (Transformed at a) = Other
spelling_of (Element a i) = Other
spelling_of (Member a f) = Other
spelling_of (Pointed a f) = Other
spelling_of (Stepped a op) = Other
spelling_of (Prefixed at op a) = Other
spelling_of (Converted at t a) = Other
spelling_of (Operated op a b) = Other
spelling_of (Chosen c a b) = Other
spelling_of (Assigned op a b) = Other
