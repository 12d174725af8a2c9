-- Addresses that were given out, and their heap numbers: the words of the heap and those of renaming say the same.
use Rattle.std.specs.Prelude.{◌≡◌, ℕ, zero, suc, ◌<◌, ◌==◌, Bool, true, false, List, [], ◌∷◌, ◌++◌, length, if◌then◌else◌, slice_index_or, refl}
use Rattle.std.proofs.Common.{arith, sym, ap, subst, inl, inr}
use Rattle.std.proofs.lemmas.Bool.{eqb-true, eq-eqb}
use mathlib.Core.Path.{fun_ext}
use Rattle.kt_mem.specs.declared.memory.Name.{Name}
use Rattle.kt_mem.specs.declared.memory.Name.TheVariants.{Glob, Lit, Heap}
use Rattle.kt_mem.specs.declared.memory.Value.{Value}
use Rattle.kt_mem.specs.declared.memory.Value.TheVariants.{Num, Null, Ptr, Free, Held, Undef}
use Rattle.kt_mem.specs.declared.thread.KeptLocal.{KeptLocal}
use Rattle.kt_code.specs.declared.frame.Frame.{Frame}
use Rattle.kt_code.specs.declared.private.Private.{Private}
use Rattle.kt_heap.specs.Heap as heap
use Rattle.kt_heap.specs.Heap.{Paired}
use Rattle.kt_mem.specs.Renaming.{Pairs, renamed}
use Rattle.kt_heap.specs.ByNumber.{WasGiven}
use Rattle.kt_heap.proofs.Pairs.{paired_first, paired_rest, number_pushed}
use Rattle.kt_exec.specs.Renaming.{AreOneToOne, IsNew, IsOld, ValueIn, ValuesIn, FramesIn, KeptIn, PrivateIn, NameIn}
use Rattle.kt_exec.proofs.RenamedNames.{private-in}
use Rattle.kt_machine.specs.ByNumber.{Grows, private_by}

-- ---- an address that was given out has a pair

pub old-paired : (ps : Pairs) (a : ℕ) → IsOld ps a → (n : ℕ) × Paired ps a n
old-paired [] a h = absurd h
old-paired (p ∷ ps) a (inl e) = (p.1, subst (λ (x : ℕ). Paired (p ∷ ps) x p.1) e (paired_first p ps))
old-paired (p ∷ ps) a (inr h) = let there = old-paired ps a h in (there.0, paired_rest p ps a there.0 there.1)

new-paired : (ps : Pairs) (n : ℕ) → IsNew ps n → (a : ℕ) × Paired ps a n
new-paired [] n h = absurd h
new-paired (p ∷ ps) n (inl e) = (p.0, subst (λ (x : ℕ). Paired (p ∷ ps) p.0 x) e (paired_first p ps))
new-paired (p ∷ ps) n (inr h) = let there = new-paired ps n h in (there.0, paired_rest p ps there.0 n there.1)

pub one-to-one : (ps : Pairs) → heap.AreOneToOne ps → AreOneToOne ps
one-to-one [] h = tt
one-to-one (p ∷ ps) h =
    (λ old. let there = old-paired ps p.0 old in h.0 there.0 there.1, λ new. let there = new-paired ps p.1 new in h.1 there.0 there.1, one-to-one ps h.2)

old-cases : (p : ℕ × ℕ) (ps : Pairs) (a n k : ℕ) → k < length (p ∷ ps) → slice_index_or (p ∷ ps) k (a, n) ≡ (a, n) → (Paired ps a n → IsOld ps a) →
    IsOld (p ∷ ps) a
old-cases p ps a n zero below is rest = inl (ap (λ (x : ℕ × ℕ). x.0) is)
old-cases p ps a n (suc k) below is rest = inr (rest (k, omega arith, is))

pub paired-old : (ps : Pairs) (a n : ℕ) → Paired ps a n → IsOld ps a
paired-old [] a n h = let below = h.1 in absurd (omega arith)
paired-old (p ∷ ps) a n h = old-cases p ps a n h.0 h.1 h.2 (paired-old ps a n)

-- ---- values

pub old-given : (ps : Pairs) (v : Value) → ValueIn (IsOld ps) v → WasGiven ps v
old-given ps (Ptr (Heap a) k) h = old-paired ps a h
old-given ps (Ptr (Glob i) k) h = tt
old-given ps (Ptr (Lit v i) k) h = tt
old-given ps (Num z) h = tt
old-given ps Null h = tt
old-given ps Free h = tt
old-given ps (Held t) h = tt
old-given ps Undef h = tt

pub given-old : (ps : Pairs) (v : Value) → WasGiven ps v → ValueIn (IsOld ps) v
given-old ps (Ptr (Heap a) k) h = paired-old ps a h.0 h.1
given-old ps (Ptr (Glob i) k) h = tt
given-old ps (Ptr (Lit v i) k) h = tt
given-old ps (Num z) h = tt
given-old ps Null h = tt
given-old ps Free h = tt
given-old ps (Held t) h = tt
given-old ps Undef h = tt

-- ---- where more was given out

pub same-grows : (old new : Pairs) → new ≡ old → Grows old new
same-grows old new e = subst (λ (ps : Pairs). Grows old ps) (sym e) (record { number = λ a h. refl; given = λ a h. h })

old-more : (ps more : Pairs) (a : ℕ) → IsOld ps a → IsOld (ps ++ more) a
old-more [] more a h = absurd h
old-more (p ∷ ps) more a (inl e) = inl e
old-more (p ∷ ps) more a (inr h) = inr (old-more ps more a h)

pub pushed-grows : (old new : Pairs) (a n : ℕ) → heap.IsNew old a → new ≡ old ++ (a, n) ∷ [] → Grows old new
pushed-grows old new a n fresh e =
    subst (λ (ps : Pairs). Grows old ps) (sym e) (record {
      number = λ b h. number_pushed old a n b (λ same. let there = old-paired old b h in fresh there.0 (subst (λ (x : ℕ). Paired old x there.0) same there.1));
      given = λ b h. old-more old ((a, n) ∷ []) b h;
    })

-- the last one has its number
last-cases : (p : ℕ × ℕ) (ps : Pairs) (a n x : ℕ) (b : Bool) → (p.0 == a) ≡ b → heap.IsNew (p ∷ ps) a → x ≡ n → (if b then p.1 else x) ≡ n
last-cases p ps a n x true e fresh rest = absurd (fresh p.1 (subst (λ (y : ℕ). Paired (p ∷ ps) y p.1) (eqb-true p.0 a e) (paired_first p ps)))
last-cases p ps a n x false e fresh rest = rest

pub number-last : (ps : Pairs) (a n : ℕ) → heap.IsNew ps a → renamed (ps ++ (a, n) ∷ []) a ≡ n
number-last [] a n fresh = ap (λ (b : Bool). if b then n else a) (eq-eqb a a refl)
number-last (p ∷ ps) a n fresh =
    last-cases p ps a n (renamed (ps ++ (a, n) ∷ []) a) (p.0 == a) refl fresh
    (number-last ps a n (λ k there. fresh k (paired_rest p ps a k there)))

-- and was given out too
pub pushed-old : (ps : Pairs) (a n : ℕ) → IsOld (ps ++ (a, n) ∷ []) a
pushed-old [] a n = inl refl
pushed-old (p ∷ ps) a n = inr (pushed-old ps a n)

module _ {P Q : ℕ → Type 0} (f : (a : ℕ) → P a → Q a) where
  name-among : (n : Name) → NameIn P n → NameIn Q n
  name-among (Glob i) h = tt
  name-among (Lit v i) h = tt
  name-among (Heap a) h = f a h

  pub value-among : (v : Value) → ValueIn P v → ValueIn Q v
  value-among (Ptr n k) h = name-among n h
  value-among (Num z) h = tt
  value-among Null h = tt
  value-among Free h = tt
  value-among (Held t) h = tt
  value-among Undef h = tt

  values-among : (vs : List Value) → ValuesIn P vs → ValuesIn Q vs
  values-among [] h = tt
  values-among (v ∷ vs) h = (value-among v h.0, values-among vs h.1)

  frames-among : (xs : List Frame) → FramesIn P xs → FramesIn Q xs
  frames-among [] h = tt
  frames-among (x ∷ xs) h = (values-among x.locals h.0, frames-among xs h.1)

  kept-among : (ks : List KeptLocal) → KeptIn P ks → KeptIn Q ks
  kept-among [] h = tt
  kept-among (k ∷ ks) h = (value-among k.value h.0, kept-among ks h.1)

  pub private-among : (x : Private) → PrivateIn P x → PrivateIn Q x
  private-among x h = (frames-among x.frames h.0, values-among x.operands h.1, kept-among x.locals h.2)

pub private-grows : (old new : Pairs) → Grows old new → (x : Private) → PrivateIn (IsOld old) x → private_by new x ≡ private_by old x
private-grows old new grows x h = private-in (IsOld old) (renamed new) (renamed old) grows.number x h
