-- Laws of reading texts with a common front alike, through what readers are built of.
use Rattle.std.proofs.Common.{◌≡◌, ℕ, zero, suc, ◌≤◌, ◌<◌, inl, inr, ◌&&◌, ◌||◌, Bool, true, false, List, [], ◌∷◌, ◌++◌, length, drop, Option, Some, None, Ok, Err, refl, sym, ap, ◌∙◌, subst, arith, le_refl, le_trans, length-drop, length-append}
use Rattle.std.specs.Prelude.{if◌then◌else◌}
use Rattle.kt_grammar.specs.declared.fault.Fault.TheVariants.{Syntax, TooDeep, NoMemory}
use Rattle.kt_grammar.specs.declared.keyword.Keyword.TheVariants as keywords
use Rattle.kt_grammar.specs.declared.sign.Sign.{Sign}
use Rattle.kt_grammar.specs.declared.sign.Sign.TheVariants as signs
use Rattle.kt_grammar.specs.declared.symbol.Symbol.{Symbol}
use Rattle.kt_grammar.specs.declared.symbol.Symbol.TheVariants as symbol
use Rattle.kt_grammar.specs.declared.tree.Base.TheVariants as base
use Rattle.kt_grammar.specs.declared.operator.Dialect.{Dialect}
use Rattle.kt_grammar.specs.Signs.{same_sign}
use Rattle.kt_grammar.specs.Cursor.{◌>>=◌, Outcome, unexpected, begins_sign, behind, name_at, count_sign, listed_at, until_at}
use Rattle.kt_grammar.specs.Reading.{begins_expr, begins_base, behind_const, bare_base_at, base_at, type_at, between_at}
use Rattle.kt_grammar.specs.Local.{IsWithin, Answer, Value, Unexpected, Deep, told, Same, Alike, IsLocal, RefusedAlike, RefusesAlike}

-- ---- steps

-- no more than so many is no more than a greater number
within_more : {A : Type 0} (n m : ℕ) (o : Outcome A) → n ≤ m → IsWithin n o → IsWithin m o
within_more n m (Ok x) h w = le_trans w h
within_more n m (Err (Syntax left)) h w = le_trans w h
within_more n m (Err (TooDeep left)) h w = le_trans w h
within_more n m (Err NoMemory) h w = tt

-- a step that leaves no more than it got goes on
within_then : {A B : Type 0} (n : ℕ) (o : Outcome A) (next : A × List Symbol → Outcome B) → IsWithin n o → ((x : A × List Symbol) → IsWithin (length x.1) (next x)) → IsWithin n (o >>= next)
within_then n (Ok x) next w h = within_more (length x.1) n (next x) w (h x)
within_then n (Err fault) next w h = w

-- what holds of the answers as they are told holds of the outcomes
as_told : {A : Type 0} {behind other : List Symbol} {o p : Outcome A} (P : Outcome A → Outcome A → Type 0) (s : Same behind other o p) → P (told behind s.answer) (told other s.answer) → P o p
as_told {behind = behind} {p = p} P s h = subst (λ o. P o p) (sym s.first) (subst (λ p. P (told behind s.answer) p) (sym s.second) h)

within_if : {A : Type 0} (n : ℕ) (b : Bool) (o p : Outcome A) → IsWithin n o → IsWithin n p → IsWithin n (if b then o else p)
within_if n true o p h k = h
within_if n false o p h k = k

-- a choice by equal tests
alike_if : {A : Type 0} (t : Symbol) (rest other : List Symbol) (b c : Bool) (o p u v : Outcome A) → b ≡ c → Alike t rest other o p → Alike t rest other u v → Alike t rest other (if b then o else u) (if c then p else v)
alike_if {A} t rest other b c o p u v e h k = subst (λ (c : Bool). Alike t rest other (if b then o else u) (if c then p else v)) e (chosen b)
  where
    chosen : (b : Bool) → Alike t rest other (if b then o else u) (if b then p else v)
    chosen true = h
    chosen false = k

-- what is left of what is left
pub within_drop : {A : Type 0} (n : ℕ) (symbols : List Symbol) (o : Outcome A) → IsWithin (length (drop n symbols)) o → IsWithin (length symbols) o
within_drop n symbols o h = within_more (length (drop n symbols)) (length symbols) o (omega (arith, length-drop n symbols)) h

-- one step and then another, where the second step may know which text it reads
alike_steps : {A B : Type 0} (t : Symbol) (rest other : List Symbol) (o p : Outcome A) (f g : A × List Symbol → Outcome B) → Alike t rest other o p → ((x : A × List Symbol) → IsWithin (length x.1) (f x))
    → ((x : A) (front : List Symbol) → o ≡ Ok (x, front ++ t ∷ rest) → Alike t rest other (f (x, front ++ t ∷ rest)) (g (x, front ++ t ∷ other))) → Alike t rest other (o >>= f) (p >>= g)
alike_steps t rest other o p f g (inl w) within alike = inl (within_then (length rest) o f w within)
alike_steps {A} {B} t rest other o p f g (inr s) within alike = as_told (λ o p. Alike t rest other (o >>= f) (p >>= g)) s (from s.answer s.first)
  where
    from : (answer : Answer A) → o ≡ told (t ∷ rest) answer → Alike t rest other (told (t ∷ rest) answer >>= f) (told (t ∷ other) answer >>= g)
    from (Value x front) e = alike x front e
    from (Unexpected front) e = inr (record { answer = Unexpected front; first = refl; second = refl })
    from (Deep front) e = inr (record { answer = Deep front; first = refl; second = refl })

-- one reader and then another
pub then_local : {A B : Type 0} {read : List Symbol → Outcome A} (next : A × List Symbol → Outcome B) → IsLocal read → ((x : A) → IsLocal (λ symbols. next (x, symbols))) → IsLocal (λ symbols. read symbols >>= next)
then_local {read = read} next a b = record {
  within = λ symbols. within_then (length symbols) (read symbols) next (a.within symbols) (λ x. (b x.0).within x.1);
  alike = λ t rest other front. alike_steps t rest other (read (front ++ t ∷ rest)) (read (front ++ t ∷ other)) next next (a.alike t rest other front) (λ x. (b x.0).within x.1) (λ x behind e. (b x).alike t rest other behind);
}

-- a value, and no symbol is read
pub gives_local : {A : Type 0} (x : A) → IsLocal (λ symbols. Ok (x, symbols))
gives_local x = record { within = λ symbols. le_refl (length symbols); alike = λ t rest other front. inr (record { answer = Value x front; first = refl; second = refl }) }

-- the front symbol cannot come here
pub unexpected_local : {A : Type 0} → IsLocal {A = A} unexpected
unexpected_local = record { within = λ symbols. le_refl (length symbols); alike = λ t rest other front. inr (record { answer = Unexpected front; first = refl; second = refl }) }

-- the front symbol is too deep
pub too_deep_local : {A : Type 0} → IsLocal {A = A} (λ symbols. Err (TooDeep (length symbols)))
too_deep_local = record { within = λ symbols. le_refl (length symbols); alike = λ t rest other front. inr (record { answer = Deep front; first = refl; second = refl }) }

-- ---- the first symbol

-- reading is local from this symbol on; the reader is told those behind it
pub record IsLocalFrom {A : Type 0} (s : Symbol) (read : List Symbol → Outcome A) : Type 0 where
  within : (symbols : List Symbol) → IsWithin (suc (length symbols)) (read symbols)
  alike : (t : Symbol) (rest other front : List Symbol) → Alike t rest other (read (front ++ t ∷ rest)) (read (front ++ t ∷ other))
  first : (rest other : List Symbol) → Alike s rest other (read rest) (read other)

-- the symbol is taken
pub taken : {A : Type 0} {s : Symbol} {next : List Symbol → Outcome A} → IsLocal next → IsLocalFrom s next
taken {next = next} l = record {
  within = λ symbols. within_more (length symbols) (suc (length symbols)) (next symbols) (omega arith) (l.within symbols);
  alike = l.alike;
  first = λ rest other. inl (l.within rest);
}

-- the symbol is left to another reader
pub untaken : {A : Type 0} {s : Symbol} {next : List Symbol → Outcome A} → IsLocal next → IsLocalFrom s (λ symbols. next (s ∷ symbols))
untaken {s = s} l = record {
  within = λ symbols. l.within (s ∷ symbols);
  alike = λ t rest other front. l.alike t rest other (s ∷ front);
  first = λ rest other. l.alike s rest other [];
}

-- one of two ways to go on from a symbol
pub either_from : {A : Type 0} {s : Symbol} {yes_read no_read : List Symbol → Outcome A} (b : Bool) → IsLocalFrom s yes_read → IsLocalFrom s no_read → IsLocalFrom s (λ symbols. if b then yes_read symbols else no_read symbols)
either_from true a b = a
either_from false a b = b

-- by what the first symbol is
pub by_first : {A : Type 0} {read : List Symbol → Outcome A} → IsWithin 0 (read []) → ((s : Symbol) → IsLocalFrom s (λ symbols. read (s ∷ symbols))) → IsLocal read
by_first {read = read} none some = record { within = within; alike = alike }
  where
    within : (symbols : List Symbol) → IsWithin (length symbols) (read symbols)
    within [] = none
    within (s ∷ symbols) = (some s).within symbols

    alike : (t : Symbol) (rest other front : List Symbol) → Alike t rest other (read (front ++ t ∷ rest)) (read (front ++ t ∷ other))
    alike t rest other [] = (some t).first rest other
    alike t rest other (s ∷ front) = (some s).alike t rest other front

-- the first symbol is dropped
pub dropped : {A : Type 0} {next : List Symbol → Outcome A} → IsLocal next → IsLocal (λ symbols. next (drop 1 symbols))
dropped l = by_first (l.within []) (λ s. taken l)

-- what is found depends on the first symbol alone
pub record IsFirst {B : Type 0} (find : List Symbol → B) : Type 0 where
  pub same : (s : Symbol) (rest other : List Symbol) → find (s ∷ rest) ≡ find (s ∷ other)

-- a test of the first symbol, under a condition
pub and_first : {test : List Symbol → Bool} (b : Bool) → IsFirst test → IsFirst (λ symbols. b && test symbols)
and_first true first = first
and_first false first = record { same = λ s rest other. refl }

-- one of two tests of the first symbol holds
pub or_first : {one two : List Symbol → Bool} → IsFirst one → IsFirst two → IsFirst (λ symbols. one symbols || two symbols)
or_first {one = one} {two = two} a b = record { same = λ s rest other. ap (λ x. x || two (s ∷ rest)) (a.same s rest other) ∙ ap (λ y. one (s ∷ other) || y) (b.same s rest other) }

-- of texts with a common front the same is found
first_same : {B : Type 0} {find : List Symbol → B} → IsFirst find → (t : Symbol) (rest other front : List Symbol) → find (front ++ t ∷ rest) ≡ find (front ++ t ∷ other)
first_same first t rest other [] = first.same t rest other
first_same first t rest other (s ∷ front) = first.same s (front ++ t ∷ rest) (front ++ t ∷ other)

-- by what the first symbol is found to be
pub found_local : {A B : Type 0} {find : List Symbol → B} (f : B → List Symbol → Outcome A) → IsFirst find → ((x : B) → IsLocal (f x)) → IsLocal (λ symbols. f (find symbols) symbols)
found_local {find = find} f first l = record {
  within = λ symbols. (l (find symbols)).within symbols;
  alike = λ t rest other front. subst (λ x. Alike t rest other (f (find (front ++ t ∷ rest)) (front ++ t ∷ rest)) (f x (front ++ t ∷ other)))
      (first_same first t rest other front) ((l (find (front ++ t ∷ rest))).alike t rest other front);
}

-- one of two readers
pub either_local : {A : Type 0} {yes_read no_read : List Symbol → Outcome A} (b : Bool) → IsLocal yes_read → IsLocal no_read → IsLocal (λ symbols. if b then yes_read symbols else no_read symbols)
either_local true a b = a
either_local false a b = b

-- one of two readers, by a test of the first symbol
pub if_local : {A : Type 0} {test : List Symbol → Bool} {yes_read no_read : List Symbol → Outcome A} → IsFirst test → IsLocal yes_read → IsLocal no_read
    → IsLocal (λ symbols. if test symbols then yes_read symbols else no_read symbols)
if_local {yes_read = yes_read} {no_read = no_read} first a b = found_local (λ t symbols. if t then yes_read symbols else no_read symbols) first (λ t. either_local t a b)

-- one of two readers, by whether something is found at the first symbol
pub option_local : {A B : Type 0} {find : List Symbol → Option B} {none : List Symbol → Outcome A} {some : B → List Symbol → Outcome A} → IsFirst find → IsLocal none → ((x : B) → IsLocal (some x))
    → IsLocal (λ symbols. elim (find symbols) as (λ _. Outcome A) [ None ↦ none symbols | (Some x) ↦ some x symbols ])
option_local {A} {B} {none = none} {some = some} first a b = found_local (λ f symbols. elim f as (λ _. Outcome A) [ None ↦ none symbols | (Some x) ↦ some x symbols ]) first each
  where
    each : (f : Option B) → IsLocal (λ symbols. elim f as (λ _. Outcome A) [ None ↦ none symbols | (Some x) ↦ some x symbols ])
    each None = a
    each (Some x) = b x

-- ---- what takes a symbol

-- fewer symbols are left, where a value is read
abbrev pub IsBelow : {A : Type 0} → ℕ → Outcome A → Type 0
IsBelow n (Ok x) = length x.1 < n
IsBelow n (Err fault) = Unit {0}

-- reading is local, and a value takes a symbol
pub record IsTaking {A : Type 0} (read : List Symbol → Outcome A) : Type 0 where
  pub local : IsLocal read
  pub takes : (symbols : List Symbol) → IsBelow (length symbols) (read symbols)

-- fewer than so many is fewer than a greater number
pub below_more : {A : Type 0} (n m : ℕ) (o : Outcome A) → n ≤ m → IsBelow n o → IsBelow m o
below_more n m (Ok x) h w = omega arith
below_more n m (Err fault) h w = tt

below_within : {A : Type 0} (n m : ℕ) (o : Outcome A) → n < m → IsWithin n o → IsBelow m o
below_within n m (Ok x) h w = omega arith
below_within n m (Err fault) h w = tt

-- the first of two readers takes a symbol
pub then_taking : {A B : Type 0} {read : List Symbol → Outcome A} (next : A × List Symbol → Outcome B) → IsTaking read → ((x : A) → IsLocal (λ symbols. next (x, symbols))) → IsTaking (λ symbols. read symbols >>= next)
then_taking {A} {read = read} next a b = record { local = then_local next a.local b; takes = λ symbols. from symbols (read symbols) (a.takes symbols) }
  where
    from : (symbols : List Symbol) (o : Outcome A) → IsBelow (length symbols) o → IsBelow (length symbols) (o >>= next)
    from symbols (Ok x) h = below_within (length x.1) (length symbols) (next x) h ((b x.0).within x.1)
    from symbols (Err fault) h = tt

-- the second of two readers takes a symbol
pub then_takes : {A B : Type 0} {read : List Symbol → Outcome A} (next : A × List Symbol → Outcome B) → IsLocal read → ((x : A) → IsTaking (λ symbols. next (x, symbols))) → IsTaking (λ symbols. read symbols >>= next)
then_takes {A} {read = read} next a b = record { local = then_local next a (λ x. (b x).local); takes = λ symbols. from symbols (read symbols) (a.within symbols) }
  where
    from : (symbols : List Symbol) (o : Outcome A) → IsWithin (length symbols) o → IsBelow (length symbols) (o >>= next)
    from symbols (Ok x) h = below_more (length x.1) (length symbols) (next x) h ((b x.0).takes x.1)
    from symbols (Err fault) h = tt

-- reading is local from this symbol on, and a value takes it
pub record IsTakingFrom {A : Type 0} (s : Symbol) (read : List Symbol → Outcome A) : Type 0 where
  local : IsLocalFrom s read
  takes : (symbols : List Symbol) → IsBelow (suc (length symbols)) (read symbols)

-- the symbol is taken
pub takes_it : {A : Type 0} {s : Symbol} {next : List Symbol → Outcome A} → IsLocal next → IsTakingFrom s next
takes_it {next = next} l = record { local = taken l; takes = λ symbols. below_within (length symbols) (suc (length symbols)) (next symbols) (omega arith) (l.within symbols) }

-- the symbol is left to another reader
pub leaves_it : {A : Type 0} {s : Symbol} {next : List Symbol → Outcome A} → IsTaking next → IsTakingFrom s (λ symbols. next (s ∷ symbols))
leaves_it {s = s} l = record { local = untaken l.local; takes = λ symbols. l.takes (s ∷ symbols) }

-- one of two ways to go on from a symbol
pub either_takes : {A : Type 0} {s : Symbol} {yes_read no_read : List Symbol → Outcome A} (b : Bool) → IsTakingFrom s yes_read → IsTakingFrom s no_read → IsTakingFrom s (λ symbols. if b then yes_read symbols else no_read symbols)
either_takes true a b = a
either_takes false a b = b

-- by what the first symbol is
pub taking_by_first : {A : Type 0} {read : List Symbol → Outcome A} → IsWithin 0 (read []) → IsBelow 0 (read []) → ((s : Symbol) → IsTakingFrom s (λ symbols. read (s ∷ symbols))) → IsTaking read
taking_by_first {read = read} none below some = record { local = by_first none (λ s. (some s).local); takes = takes }
  where
    takes : (symbols : List Symbol) → IsBelow (length symbols) (read symbols)
    takes [] = below
    takes (s ∷ symbols) = (some s).takes symbols

pub unexpected_taking : {A : Type 0} → IsTaking {A = A} unexpected
unexpected_taking = record { local = unexpected_local; takes = λ symbols. tt }

-- one of two readers, by a test of the first symbol
pub if_taking : {A : Type 0} {test : List Symbol → Bool} {yes_read no_read : List Symbol → Outcome A} → IsFirst test → IsTaking yes_read → IsTaking no_read
    → IsTaking (λ symbols. if test symbols then yes_read symbols else no_read symbols)
if_taking {A} {test = test} {yes_read = yes_read} {no_read = no_read} first a b = record { local = if_local first a.local b.local; takes = λ symbols. from symbols (test symbols) }
  where
    from : (symbols : List Symbol) (b : Bool) → IsBelow (length symbols) (if b then yes_read symbols else no_read symbols)
    from symbols true = a.takes symbols
    from symbols false = b.takes symbols

-- ---- signs and names

pub begins_sign-first : (s : Sign) → IsFirst (begins_sign s)
unfolding begins_sign
begins_sign-first s = record { same = same }
  where
    same : (t : Symbol) (rest other : List Symbol) → begins_sign s (t ∷ rest) ≡ begins_sign s (t ∷ other)
    same (symbol.Sign at t) rest other = refl
    same _ rest other = refl

-- a sign, and then another reader
pub behind_taking : {A : Type 0} {next : List Symbol → Outcome A} (s : Sign) → IsLocal next → IsTaking (λ symbols. behind s symbols >>= next)
unfolding behind begins_sign
behind_taking {A} {next = next} s l = taking_by_first (le_refl 0) tt some
  where
    some : (t : Symbol) → IsTakingFrom t (λ symbols. behind s (t ∷ symbols) >>= next)
    some (symbol.Sign at t) = each (same_sign t s)
      where
        each : (b : Bool) → IsTakingFrom (symbol.Sign at t) (λ symbols. (if b then Ok symbols else unexpected (symbol.Sign at t ∷ symbols)) >>= next)
        each true = takes_it l
        each false = leaves_it unexpected_taking
    some _ = leaves_it unexpected_taking

pub behind_local : {A : Type 0} {next : List Symbol → Outcome A} (s : Sign) → IsLocal next → IsLocal (λ symbols. behind s symbols >>= next)
behind_local s l = (behind_taking s l).local

pub name_at-local : IsLocal name_at
unfolding name_at
name_at-local = by_first (le_refl 0) some
  where
    some : (s : Symbol) → IsLocalFrom s (λ symbols. name_at (s ∷ symbols))
    some (symbol.Name at word) = taken (gives_local (record { at = at; word = word }))
    some _ = untaken unexpected_local

-- the reader behind the signs at the front is told how many they are
abbrev pub count_then : {A : Type 0} → Sign → (ℕ → List Symbol → Outcome A) → List Symbol → Outcome A
count_then s next symbols = next (count_sign s symbols) (drop (count_sign s symbols) symbols)

-- the signs at the front, and then another reader
pub counted_local : {A : Type 0} (s : Sign) (next : ℕ → List Symbol → Outcome A) → ((n : ℕ) → IsLocal (next n)) → IsLocal (count_then s next)
unfolding count_sign
counted_local {A} s next l = record {
  within = λ symbols. within_drop (count_sign s symbols) symbols (count_then s next symbols) ((l (count_sign s symbols)).within (drop (count_sign s symbols) symbols));
  alike = λ t rest other front. alike t rest other front next l;
}
  where
    at : Bool → (ℕ → List Symbol → Outcome A) → Symbol → List Symbol → Outcome A
    at b next x symbols = let n = if b then suc (count_sign s symbols) else 0 in next n (drop n (x ∷ symbols))

    each : (b : Bool) (t : Symbol) (rest other : List Symbol) (next : ℕ → List Symbol → Outcome A) → ((n : ℕ) → IsLocal (next n)) → Alike t rest other (at b next t rest) (at b next t other)
    each true t rest other next l = inl (within_drop (count_sign s rest) rest (next (suc (count_sign s rest)) (drop (count_sign s rest) rest)) ((l (suc (count_sign s rest))).within (drop (count_sign s rest) rest)))
    each false t rest other next l = (l 0).alike t rest other []

    behind_each : (b : Bool) (t : Symbol) (rest other : List Symbol) (x : Symbol) (front : List Symbol) (next : ℕ → List Symbol → Outcome A) → ((n : ℕ) → IsLocal (next n))
        → Alike t rest other (count_then s (λ n. next (suc n)) (front ++ t ∷ rest)) (count_then s (λ n. next (suc n)) (front ++ t ∷ other)) → Alike t rest other (at b next x (front ++ t ∷ rest)) (at b next x (front ++ t ∷ other))
    behind_each true t rest other x front next l h = h
    behind_each false t rest other x front next l h = (l 0).alike t rest other (x ∷ front)

    alike : (t : Symbol) (rest other front : List Symbol) (next : ℕ → List Symbol → Outcome A) → ((n : ℕ) → IsLocal (next n)) → Alike t rest other (count_then s next (front ++ t ∷ rest)) (count_then s next (front ++ t ∷ other))
    alike t rest other [] next l = subst (λ b. Alike t rest other (at (begins_sign s (t ∷ rest)) next t rest) (at b next t other))
        ((begins_sign-first s).same t rest other) (each (begins_sign s (t ∷ rest)) t rest other next l)
    alike t rest other (x ∷ front) next l = subst (λ b. Alike t rest other (at (begins_sign s (x ∷ front ++ t ∷ rest)) next x (front ++ t ∷ rest)) (at b next x (front ++ t ∷ other)))
        ((begins_sign-first s).same x (front ++ t ∷ rest) (front ++ t ∷ other))
        (behind_each (begins_sign s (x ∷ front ++ t ∷ rest)) t rest other x front next l (alike t rest other front (λ n. next (suc n)) (λ n. l (suc n))))

-- ---- types and expressions

pub begins_expr-first : (g : Dialect) → IsFirst (begins_expr g)
unfolding begins_expr
begins_expr-first g = record { same = same }
  where
    same : (s : Symbol) (rest other : List Symbol) → begins_expr g (s ∷ rest) ≡ begins_expr g (s ∷ other)
    same (symbol.Keyword at keywords.Null) rest other = refl
    same (symbol.Keyword at keywords.Eof) rest other = refl
    same (symbol.Keyword at keywords.SizeOf) rest other = refl
    same (symbol.Keyword at _) rest other = refl
    same _ rest other = refl

-- what could begin here is too deep
pub refused_local : {A : Type 0} {begins : List Symbol → Bool} → IsFirst begins → IsLocal {A = A} (λ symbols. if begins symbols then Err (TooDeep (length symbols)) else unexpected symbols)
refused_local first = if_local first too_deep_local unexpected_local

pub begins_base-first : IsFirst begins_base
unfolding begins_base
begins_base-first = record { same = same }
  where
    same : (t : Symbol) (rest other : List Symbol) → begins_base (t ∷ rest) ≡ begins_base (t ∷ other)
    same (symbol.Keyword at keywords.Const) rest other = refl
    same (symbol.Keyword at _) rest other = refl
    same _ rest other = refl

pub bare_base_at-taking : IsTaking bare_base_at
unfolding bare_base_at
bare_base_at-taking = taking_by_first (le_refl 0) tt some
  where
    some : (s : Symbol) → IsTakingFrom s (λ symbols. bare_base_at (s ∷ symbols))
    some (symbol.Keyword at keywords.Char) = takes_it (gives_local base.Char)
    some (symbol.Keyword at keywords.Int) = takes_it (gives_local base.Int)
    some (symbol.Keyword at keywords.Long) = takes_it (gives_local base.Long)
    some (symbol.Keyword at keywords.Mutex) = takes_it (gives_local base.Mutex)
    some (symbol.Keyword at keywords.Struct) = takes_it (then_local _ name_at-local (λ n. gives_local (base.Struct n)))
    some _ = leaves_it unexpected_taking

pub base_at-taking : IsTaking base_at
unfolding behind_const bare_base_at
base_at-taking = taking_by_first (le_refl 0) tt some
  where
    some : (s : Symbol) → IsTakingFrom s (λ symbols. base_at (s ∷ symbols))
    some (symbol.Keyword at keywords.Const) = takes_it bare_base_at-taking.local
    some _ = leaves_it bare_base_at-taking

pub type_at-local : IsLocal type_at
type_at-local = then_local _ base_at-taking.local (λ b. counted_local signs.Star (λ n symbols. Ok (record { base = b; stars = n }, symbols)) (λ n. gives_local (record { base = b; stars = n })))

pub between_at-local : IsLocal between_at
between_at-local = behind_local signs.OpenParenthesis (then_local _ type_at-local (λ t. behind_local signs.CloseParenthesis (gives_local t)))

-- ---- lists

module _ {A : Type 0} (item : List Symbol → Outcome A) (l : IsLocal item) where
  -- behind an item no more symbols are left than there were
  more_within : (limit : ℕ) (done : List A) (x : A × List Symbol) → IsWithin (length (drop 1 x.1)) (listed_at item limit (done ++ x.0 ∷ []) (drop 1 x.1))
      → IsWithin (length x.1) (if begins_sign signs.Comma x.1 then listed_at item limit (done ++ x.0 ∷ []) (drop 1 x.1) else Ok (done ++ x.0 ∷ [], x.1))
  more_within limit done x h = within_if (length x.1) (begins_sign signs.Comma x.1) _ _ (within_drop 1 x.1 _ h) (le_refl (length x.1))

  listed_within : (limit : ℕ) (done : List A) (symbols : List Symbol) → IsWithin (length symbols) (listed_at item limit done symbols)
  listed_within zero done symbols = le_refl (length symbols)
  listed_within (suc limit) done symbols = within_then (length symbols) (item symbols) _ (l.within symbols)
      (λ x. more_within limit done x (listed_within limit (done ++ x.0 ∷ []) (drop 1 x.1)))

  -- a rest of the front is no longer than the front
  fits : (t : Symbol) (rest front left : List Symbol) (x : A) → item (front ++ t ∷ rest) ≡ Ok (x, left ++ t ∷ rest) → length left ≤ length front
  fits t rest front left x e =
      let h : length (left ++ t ∷ rest) ≤ length (front ++ t ∷ rest) = subst (IsWithin (length (front ++ t ∷ rest))) e (l.within (front ++ t ∷ rest)) in
      omega (arith, length-append left (t ∷ rest), length-append front (t ∷ rest))

  -- limits that are no less than there are symbols do not matter
  listed_alike : (t : Symbol) (rest other : List Symbol) (one two : ℕ) (done : List A) (front : List Symbol) → length front < one → length front < two
      → Alike t rest other (listed_at item one done (front ++ t ∷ rest)) (listed_at item two done (front ++ t ∷ other))
  listed_alike t rest other zero two done front h k = absurd (omega arith)
  listed_alike t rest other (suc one) zero done front h k = absurd (omega arith)
  listed_alike t rest other (suc one) (suc two) done front h k = alike_steps t rest other (item (front ++ t ∷ rest)) (item (front ++ t ∷ other)) _ _ (l.alike t rest other front)
      (λ x. more_within one done x (listed_within one (done ++ x.0 ∷ []) (drop 1 x.1)))
      (λ x left e. alike_if t rest other (begins_sign signs.Comma (left ++ t ∷ rest)) (begins_sign signs.Comma (left ++ t ∷ other)) _ _ _ _ (first_same (begins_sign-first signs.Comma) t rest other left)
      (more x left (fits t rest front left x e) (listed_alike t rest other one two (done ++ x ∷ []))) ((gives_local (done ++ x ∷ [])).alike t rest other left))
    where
      more : (x : A) (left : List Symbol) → length left ≤ length front
          → ((front : List Symbol) → length front < one → length front < two → Alike t rest other (listed_at item one (done ++ x ∷ []) (front ++ t ∷ rest)) (listed_at item two (done ++ x ∷ []) (front ++ t ∷ other)))
          → Alike t rest other (listed_at item one (done ++ x ∷ []) (drop 1 (left ++ t ∷ rest))) (listed_at item two (done ++ x ∷ []) (drop 1 (left ++ t ∷ other)))
      more x [] f again = inl (listed_within one (done ++ x ∷ []) rest)
      more x (s ∷ left) f again = again left (omega arith) (omega arith)

-- items with commas between them, by a limit that is no less than there are symbols
pub listed_local : {A : Type 0} {item : List Symbol → Outcome A} (limit : ℕ → ℕ) → ((n : ℕ) → n ≤ limit n) → IsLocal item → (done : List A) → IsLocal (λ symbols. listed_at item (limit (length symbols)) done symbols)
listed_local {item = item} limit h l done = record {
  within = λ symbols. listed_within item l (limit (length symbols)) done symbols;
  alike = λ t rest other front. listed_alike item l t rest other (limit (length (front ++ t ∷ rest))) (limit (length (front ++ t ∷ other))) done front (below t rest front) (below t other front);
}
  where
    below : (t : Symbol) (rest front : List Symbol) → length front < limit (length (front ++ t ∷ rest))
    below t rest front = let k = h (length (front ++ t ∷ rest)) in omega (arith, length-append front (t ∷ rest))

module _ {A : Type 0} (stops : List Symbol → Bool) (item : List Symbol → Outcome A) (first : IsFirst stops) (l : IsTaking item) where
  until_within : (limit : ℕ) (done : List A) (symbols : List Symbol) → IsWithin (length symbols) (until_at stops item limit done symbols)
  until_within zero done symbols = within_if (length symbols) (stops symbols) (Ok (done, symbols)) (unexpected symbols) (le_refl (length symbols)) (le_refl (length symbols))
  until_within (suc limit) done symbols = within_if (length symbols) (stops symbols) (Ok (done, symbols)) (item symbols >>= λ x. until_at stops item limit (done ++ x.0 ∷ []) x.1) (le_refl (length symbols))
      (within_then (length symbols) (item symbols) _ (l.local.within symbols) (λ x. until_within limit (done ++ x.0 ∷ []) x.1))

  -- an item takes a symbol of the front
  shorter : (t : Symbol) (rest front left : List Symbol) (x : A) → item (front ++ t ∷ rest) ≡ Ok (x, left ++ t ∷ rest) → length left < length front
  shorter t rest front left x e =
      let h : length (left ++ t ∷ rest) < length (front ++ t ∷ rest) = subst (IsBelow (length (front ++ t ∷ rest))) e (l.takes (front ++ t ∷ rest)) in
      omega (arith, length-append left (t ∷ rest), length-append front (t ∷ rest))

  -- limits that are no less than there are symbols do not matter
  until_alike : (t : Symbol) (rest other : List Symbol) (one two : ℕ) (done : List A) (front : List Symbol) → length front < one → length front < two
      → Alike t rest other (until_at stops item one done (front ++ t ∷ rest)) (until_at stops item two done (front ++ t ∷ other))
  until_alike t rest other zero two done front h k = absurd (omega arith)
  until_alike t rest other (suc one) zero done front h k = absurd (omega arith)
  until_alike t rest other (suc one) (suc two) done front h k = alike_if t rest other (stops (front ++ t ∷ rest)) (stops (front ++ t ∷ other)) _ _ _ _ (first_same first t rest other front)
      ((gives_local done).alike t rest other front)
      (alike_steps t rest other (item (front ++ t ∷ rest)) (item (front ++ t ∷ other)) _ _ (l.local.alike t rest other front) (λ x. until_within one (done ++ x.0 ∷ []) x.1)
      (λ x left e. let less = shorter t rest front left x e in until_alike t rest other one two (done ++ x ∷ []) left (omega arith) (omega arith)))

-- items up to where they stop
pub until_local : {A : Type 0} {stops : List Symbol → Bool} {item : List Symbol → Outcome A} → IsFirst stops → IsTaking item → (done : List A) → IsLocal (λ symbols. until_at stops item (length symbols) done symbols)
until_local {stops = stops} {item = item} first l done = record {
  within = λ symbols. until_within stops item first l (length symbols) done symbols;
  alike = λ t rest other front. until_alike stops item first l t rest other (length (front ++ t ∷ rest)) (length (front ++ t ∷ other)) done front (below t rest front) (below t other front);
}
  where
    below : (t : Symbol) (rest front : List Symbol) → length front < length (front ++ t ∷ rest)
    below t rest front = omega (arith, length-append front (t ∷ rest))

-- ---- refusals

-- where nothing of the front is left on the one text, nothing is on the other
same_left : (t : Symbol) (rest other front : List Symbol) → length (front ++ t ∷ rest) ≡ length (t ∷ rest) → length (front ++ t ∷ other) ≡ length (t ∷ other)
same_left t rest other front e = omega (arith, length-append front (t ∷ rest), length-append front (t ∷ other))

-- one answer refuses a symbol on both texts
told_alike : {A : Type 0} (t : Symbol) (rest other : List Symbol) (answer : Answer A) → RefusedAlike t rest other (told (t ∷ rest) answer) (told (t ∷ other) answer)
told_alike t rest other (Value x front) = record { syntax = λ e. absurd cc; deep = λ e. absurd cc }
told_alike t rest other (Unexpected front) = record { syntax = λ e. ap (λ n. Err (Syntax n)) (same_left t rest other front cc); deep = λ e. absurd cc }
told_alike t rest other (Deep front) = record { syntax = λ e. absurd cc; deep = λ e. ap (λ n. Err (TooDeep n)) (same_left t rest other front cc) }

-- a symbol that is refused is so whatever stands behind it
pub refuses_alike : {A : Type 0} {read : List Symbol → Outcome A} → IsLocal read → RefusesAlike read
refuses_alike {A} {read = read} l before t rest other = from (l.alike t rest other before)
  where
    from : Alike t rest other (read (before ++ t ∷ rest)) (read (before ++ t ∷ other)) → RefusedAlike t rest other (read (before ++ t ∷ rest)) (read (before ++ t ∷ other))
    from (inl w) = record {
      syntax = λ e. let h : length (t ∷ rest) ≤ length rest = subst (IsWithin (length rest)) e w in absurd (omega arith);
      deep = λ e. let h : length (t ∷ rest) ≤ length rest = subst (IsWithin (length rest)) e w in absurd (omega arith);
    }
    from (inr s) = as_told (RefusedAlike t rest other) s (told_alike t rest other s.answer)
