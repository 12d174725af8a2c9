-- Renaming by pairs: a one-to-one renaming of all names does the same to old names, and two such renamings tell which
-- names are old.
use Rattle.std.specs.Prelude.{◌≡◌, ◌≢◌, ◌⊎◌, ℕ, suc, ◌+◌, ◌<◌, ◌≤◌, ◌==◌, Bool, true, false, List, [], ◌∷◌, map, Option, None, Some, if◌then◌else◌, refl}
use Rattle.std.proofs.Common.{arith, sym, ap, subst, ◌∙◌, inl, inr}
use Rattle.std.proofs.lemmas.Bool.{eqb-true, eq-eqb}
use Rattle.std.proofs.lemmas.Bool.Decides.{eqb_tells}
use Rattle.kt_mem.specs.declared.memory.Name.{Name}
use Rattle.kt_mem.specs.declared.memory.Name.TheVariants.{Glob, Lit, Heap}
use Rattle.kt_mem.specs.declared.memory.Value.{Value}
use Rattle.kt_mem.specs.declared.memory.Value.TheVariants.{Num, Null, Ptr, Free, Held, Undef}
use Rattle.kt_mem.specs.declared.steps.Act.{Act}
use Rattle.kt_mem.specs.declared.steps.Act.TheVariants as act
use Rattle.kt_mem.specs.declared.steps.Piece.{Piece}
use Rattle.kt_mem.specs.declared.steps.Piece.TheVariants as piece
use Rattle.kt_mem.specs.declared.steps.Reply.{Reply}
use Rattle.kt_mem.specs.declared.steps.Reply.TheVariants.{Done, Got, Trapped}
use Rattle.kt_mem.specs.declared.thread.KeptLocal.{KeptLocal}
use Rattle.kt_code.specs.declared.frame.Frame.{Frame}
use Rattle.kt_code.specs.declared.private.Private.{Private}
use Rattle.kt_code.specs.declared.private.Head.{Head}
use Rattle.kt_code.specs.declared.private.Head.TheVariants as head
use Rattle.kt_mem.specs.Renaming.{Pairs, rename_name, rename_value, rename_values, renamed}
use Rattle.kt_exec.specs.Renaming.{rename_frame, rename_frames, rename_kept_local, rename_kept, rename_private, rename_piece, rename_pieces, rename_act, rename_reply, rename_head, IsOld, IsNew, AreOneToOne, NameIn, ValueIn, ValuesIn, FramesIn, KeptIn, PrivateIn, ReplyIn, PieceIn, PiecesIn, ActIn, HeadIn}
use Rattle.kt_exec.proofs.RenamedOperations.{Keeps}

-- ---- a renaming of all names

-- above all new names
abbrev pub bound : Pairs → ℕ
bound [] = 0
bound (p ∷ ps) = suc (p.1 + bound ps)

-- an old name becomes its new one, any other goes up by n
abbrev pub spread : Pairs → ℕ → ℕ → ℕ
spread [] n a = a + n
spread (p ∷ ps) n a = if p.0 == a then p.1 else spread ps n a

new-below : (ps : Pairs) (a : ℕ) → IsNew ps a → a < bound ps
new-below [] a h = absurd h
new-below (p ∷ ps) a (inl e) = omega arith
new-below (p ∷ ps) a (inr h) = let low = new-below ps a h in omega arith

choice-new : (b : Bool) (p : ℕ × ℕ) (ps : Pairs) (n y : ℕ) → IsNew ps y ⊎ (n ≤ y) →
    IsNew (p ∷ ps) (if b then p.1 else y) ⊎ (n ≤ (if b then p.1 else y))
choice-new true p ps n y h = inl (inl refl)
choice-new false p ps n y (inl h) = inl (inr h)
choice-new false p ps n y (inr h) = inr h

spread-new : (ps : Pairs) (n a : ℕ) → IsNew ps (spread ps n a) ⊎ (n ≤ spread ps n a)
spread-new [] n a = inr (omega arith)
spread-new (p ∷ ps) n a = choice-new (p.0 == a) p ps n (spread ps n a) (spread-new ps n a)

-- the new name of the first pair is no name that the others give
first-new : (p : ℕ × ℕ) (ps : Pairs) (n y : ℕ) → (IsNew ps (p.1) → ⊥) → bound (p ∷ ps) ≤ n → IsNew ps y ⊎ (n ≤ y) → p.1 ≡ y → ⊥
first-new p ps n y no-new low (inl h) e = no-new (subst (IsNew ps) (sym e) h)
first-new p ps n y no-new low (inr h) e = omega arith

choice-injective : (b c : Bool) (p : ℕ × ℕ) (x y a d : ℕ) → (b ≡ true → p.0 ≡ a) → (c ≡ true → p.0 ≡ d) → (p.1 ≡ x → ⊥) → (p.1 ≡ y → ⊥) →
    (x ≡ y → a ≡ d) → (if b then p.1 else x) ≡ (if c then p.1 else y) → a ≡ d
choice-injective true true p x y a d l r f g h e = sym (l refl) ∙ r refl
choice-injective true false p x y a d l r f g h e = absurd (g e)
choice-injective false true p x y a d l r f g h e = absurd (f (sym e))
choice-injective false false p x y a d l r f g h e = h e

spread-injective : (ps : Pairs) (n : ℕ) → AreOneToOne ps → bound ps ≤ n → (a b : ℕ) → spread ps n a ≡ spread ps n b → a ≡ b
spread-injective [] n h low a b e = omega arith
spread-injective (p ∷ ps) n h low a b e =
    let below : bound ps ≤ n = omega arith in
    choice-injective (p.0 == a) (p.0 == b) p (spread ps n a) (spread ps n b) a b (eqb-true (p.0) a) (eqb-true (p.0) b)
    (first-new p ps n (spread ps n a) (h.1) low (spread-new ps n a)) (first-new p ps n (spread ps n b) (h.1) low (spread-new ps n b))
    (spread-injective ps n (h.2) below a b) e

tests-alike : (a b c d : ℕ) → (a ≡ b → c ≡ d) → (c ≡ d → a ≡ b) → ((a == b) ≡ true) × (a ≡ b) ⊎ ((a == b) ≡ false) × (a ≢ b) →
    ((c == d) ≡ true) × (c ≡ d) ⊎ ((c == d) ≡ false) × (c ≢ d) → (a == b) ≡ (c == d)
tests-alike a b c d f g (inl h) (inl k) = h.0 ∙ sym (k.0)
tests-alike a b c d f g (inl h) (inr k) = absurd (k.1 (f (h.1)))
tests-alike a b c d f g (inr h) (inl k) = absurd (h.1 (g (k.1)))
tests-alike a b c d f g (inr h) (inr k) = h.0 ∙ sym (k.0)

pub spread-keeps : (ps : Pairs) (n : ℕ) → AreOneToOne ps → bound ps ≤ n → Keeps (spread ps n)
spread-keeps ps n h low = record {
  same = λ a b.
      tests-alike (spread ps n a) (spread ps n b) a b (spread-injective ps n h low a b) (ap (spread ps n))
      (eqb_tells (spread ps n a) (spread ps n b)) (eqb_tells a b);
}

choice-old : (b : Bool) (p : ℕ × ℕ) (ps : Pairs) (x y a : ℕ) → (p.0 ≡ a → b ≡ true) → (IsOld ps a → x ≡ y) → IsOld (p ∷ ps) a →
    (if b then p.1 else x) ≡ (if b then p.1 else y)
choice-old true p ps x y a f g h = refl
choice-old false p ps x y a f g (inl e) = let wrong : false ≡ true = f e in absurd cc
choice-old false p ps x y a f g (inr h) = g h

-- an old name becomes its new one
pub spread-old : (ps : Pairs) (n a : ℕ) → IsOld ps a → renamed ps a ≡ spread ps n a
spread-old [] n a h = absurd h
spread-old (p ∷ ps) n a h =
    choice-old (p.0 == a) p ps (renamed ps a) (spread ps n a) a (eq-eqb (p.0) a) (spread-old ps n a) h

choice-same : (b : Bool) (x y z w : ℕ) → (x ≡ y → x ≡ z) → (if b then w else x) ≡ (if b then w else y) → (if b then w else x) ≡ (if b then w else z)
choice-same true x y z w h e = refl
choice-same false x y z w h e = h e

-- and only an old one goes up alike by two numbers
pub spread-same : (ps : Pairs) (n a : ℕ) → spread ps n a ≡ spread ps (suc n) a → spread ps n a ≡ renamed ps a
spread-same [] n a e = absurd (omega arith)
spread-same (p ∷ ps) n a e =
    choice-same (p.0 == a) (spread ps n a) (spread ps (suc n) a) (renamed ps a) (p.1) (spread-same ps n a) e

-- ---- what two renamings do alike, a third one does too, where it does so to each name

abbrev pub Only : (ℕ → ℕ) → (ℕ → ℕ) → (ℕ → ℕ) → Type 0
Only f g h = (a : ℕ) → f a ≡ g a → f a ≡ h a

name-only : (f g h : ℕ → ℕ) → Only f g h → (n : Name) → rename_name f n ≡ rename_name g n → rename_name f n ≡ rename_name h n
name-only f g h only (Glob i) e = refl
name-only f g h only (Lit v i) e = refl
name-only f g h only (Heap a) e = let same : f a ≡ g a = cc in ap Heap (only a same)

value-only : (f g h : ℕ → ℕ) → Only f g h → (v : Value) → rename_value f v ≡ rename_value g v → rename_value f v ≡ rename_value h v
value-only f g h only (Num n) e = refl
value-only f g h only Null e = refl
value-only f g h only (Ptr n k) e =
    let same : rename_name f n ≡ rename_name g n = cc in ap (λ m. Ptr m k) (name-only f g h only n same)
value-only f g h only Free e = refl
value-only f g h only (Held thread) e = refl
value-only f g h only Undef e = refl

-- the same of lists
list-only : {X : Type 0} (r s t : X → X) → ((x : X) → r x ≡ s x → r x ≡ t x) → (xs : List X) → map r xs ≡ map s xs → map r xs ≡ map t xs
list-only r s t only [] e = refl
list-only r s t only (x ∷ xs) e =
    let first : r x ≡ s x = cc in
    let others : map r xs ≡ map s xs = cc in
    ap (λ y. y ∷ map r xs) (only x first) ∙ ap (λ l. t x ∷ l) (list-only r s t only xs others)

values-only : (f g h : ℕ → ℕ) → Only f g h → (vs : List Value) → rename_values f vs ≡ rename_values g vs → rename_values f vs ≡ rename_values h vs
values-only f g h only = list-only (rename_value f) (rename_value g) (rename_value h) (value-only f g h only)

frame-only : (f g h : ℕ → ℕ) → Only f g h → (x : Frame) → rename_frame f x ≡ rename_frame g x → rename_frame f x ≡ rename_frame h x
frame-only f g h only x e =
    ap (λ vs. record x { locals = vs }) (values-only f g h only x.locals (ap (λ (y : Frame). y.locals) e))

kept_local-only : (f g h : ℕ → ℕ) → Only f g h → (k : KeptLocal) → rename_kept_local f k ≡ rename_kept_local g k →
    rename_kept_local f k ≡ rename_kept_local h k
kept_local-only f g h only k e =
    ap (λ v. record k { value = v }) (value-only f g h only k.value (ap (λ (y : KeptLocal). y.value) e))

pub private-only : (f g h : ℕ → ℕ) → Only f g h → (p : Private) → rename_private f p ≡ rename_private g p →
    rename_private f p ≡ rename_private h p
private-only f g h only p e =
    let xs = list-only (rename_frame f) (rename_frame g) (rename_frame h) (frame-only f g h only) p.frames (ap (λ (q : Private). q.frames) e) in
    let vs = values-only f g h only p.operands (ap (λ (q : Private). q.operands) e) in
    let ks = list-only (rename_kept_local f) (rename_kept_local g) (rename_kept_local h) (kept_local-only f g h only) p.locals (ap (λ (q : Private). q.locals) e) in
    ap (λ l. record (rename_private f p) { frames = l }) xs
    ∙ ap (λ l. record (rename_private f p) { frames = rename_frames h p.frames; operands = l }) vs
    ∙ ap (λ l. record (rename_private h p) { locals = l }) ks

piece-only : (f g h : ℕ → ℕ) → Only f g h → (x : Piece) → rename_piece f x ≡ rename_piece g x → rename_piece f x ≡ rename_piece h x
piece-only f g h only (piece.Bytes bytes) e = refl
piece-only f g h only (piece.Number n) e = refl
piece-only f g h only (piece.Byte b) e = refl
piece-only f g h only (piece.TextAt v) e =
    let same : rename_value f v ≡ rename_value g v = cc in ap piece.TextAt (value-only f g h only v same)

act-only : (f g h : ℕ → ℕ) → Only f g h → (a : Act) → rename_act f a ≡ rename_act g a → rename_act f a ≡ rename_act h a
act-only f g h only act.Tick e = refl
act-only f g h only (act.Load p t) e =
    let same : rename_value f p ≡ rename_value g p = cc in ap (λ v. act.Load v t) (value-only f g h only p same)
act-only f g h only (act.Store p t v) e =
    let same : rename_value f p ≡ rename_value g p = cc in
    let stored : rename_value f v ≡ rename_value g v = cc in
    ap (λ q. act.Store q t (rename_value f v)) (value-only f g h only p same)
    ∙ ap (λ w. act.Store (rename_value h p) t w) (value-only f g h only v stored)
act-only f g h only (act.Allocate e n zeros) same = refl
act-only f g h only (act.Release p) e =
    let same : rename_value f p ≡ rename_value g p = cc in ap act.Release (value-only f g h only p same)
act-only f g h only (act.Lock p) e =
    let same : rename_value f p ≡ rename_value g p = cc in ap act.Lock (value-only f g h only p same)
act-only f g h only (act.Unlock p) e =
    let same : rename_value f p ≡ rename_value g p = cc in ap act.Unlock (value-only f g h only p same)
act-only f g h only (act.InitMutex p) e =
    let same : rename_value f p ≡ rename_value g p = cc in ap act.InitMutex (value-only f g h only p same)
act-only f g h only act.GetChar e = refl
act-only f g h only (act.Wait p) e =
    let same : rename_value f p ≡ rename_value g p = cc in ap act.Wait (value-only f g h only p same)
act-only f g h only (act.Signal p all) e =
    let same : rename_value f p ≡ rename_value g p = cc in ap (λ q. act.Signal q all) (value-only f g h only p same)
act-only f g h only (act.Print ps) e =
    let same : rename_pieces f ps ≡ rename_pieces g ps = cc in
    ap act.Print (list-only (rename_piece f) (rename_piece g) (rename_piece h) (piece-only f g h only) ps same)
act-only f g h only (act.Create i v) e =
    let same : rename_value f v ≡ rename_value g v = cc in ap (act.Create i) (value-only f g h only v same)
act-only f g h only (act.Join n) e = refl
act-only f g h only (act.Point n) e = refl
act-only f g h only (act.MigrateLocal i n) e = refl
act-only f g h only act.Automigrate e = refl
act-only f g h only (act.UpdatingTest n) e = refl
act-only f g h only act.ThreadEnd e = refl
act-only f g h only (act.MainReturn n) e = refl

pub head-only : (f g h : ℕ → ℕ) → Only f g h → (o : Option Head) → rename_head f o ≡ rename_head g o → rename_head f o ≡ rename_head h o
head-only f g h only None e = refl
head-only f g h only (Some (head.Act a)) e =
    let same : rename_act f a ≡ rename_act g a = cc in ap (λ b. Some (head.Act b)) (act-only f g h only a same)
head-only f g h only (Some (head.Trap t)) e = refl

-- ---- renamings that do the same to the names among which all are

abbrev pub SameOn : (ℕ → Type 0) → (ℕ → ℕ) → (ℕ → ℕ) → Type 0
SameOn P f g = (a : ℕ) → P a → f a ≡ g a

name-in : (P : ℕ → Type 0) (f g : ℕ → ℕ) → SameOn P f g → (n : Name) → NameIn P n → rename_name f n ≡ rename_name g n
name-in P f g same (Glob i) h = refl
name-in P f g same (Lit v i) h = refl
name-in P f g same (Heap a) h = ap Heap (same a h)

value-in : (P : ℕ → Type 0) (f g : ℕ → ℕ) → SameOn P f g → (v : Value) → ValueIn P v → rename_value f v ≡ rename_value g v
value-in P f g same (Num n) h = refl
value-in P f g same Null h = refl
value-in P f g same (Ptr n k) h = ap (λ m. Ptr m k) (name-in P f g same n h)
value-in P f g same Free h = refl
value-in P f g same (Held thread) h = refl
value-in P f g same Undef h = refl

values-in : (P : ℕ → Type 0) (f g : ℕ → ℕ) → SameOn P f g → (vs : List Value) → ValuesIn P vs → rename_values f vs ≡ rename_values g vs
values-in P f g same [] h = refl
values-in P f g same (v ∷ vs) h =
    ap (λ w. w ∷ rename_values f vs) (value-in P f g same v (h.0)) ∙ ap (λ l. rename_value g v ∷ l) (values-in P f g same vs (h.1))

frames-in : (P : ℕ → Type 0) (f g : ℕ → ℕ) → SameOn P f g → (xs : List Frame) → FramesIn P xs → rename_frames f xs ≡ rename_frames g xs
frames-in P f g same [] h = refl
frames-in P f g same (x ∷ xs) h =
    ap (λ vs. record x { locals = vs } ∷ rename_frames f xs) (values-in P f g same x.locals (h.0))
    ∙ ap (λ l. rename_frame g x ∷ l) (frames-in P f g same xs (h.1))

kept-in : (P : ℕ → Type 0) (f g : ℕ → ℕ) → SameOn P f g → (ks : List KeptLocal) → KeptIn P ks → rename_kept f ks ≡ rename_kept g ks
kept-in P f g same [] h = refl
kept-in P f g same (k ∷ ks) h =
    ap (λ v. record k { value = v } ∷ rename_kept f ks) (value-in P f g same k.value (h.0))
    ∙ ap (λ l. rename_kept_local g k ∷ l) (kept-in P f g same ks (h.1))

pub private-in : (P : ℕ → Type 0) (f g : ℕ → ℕ) → SameOn P f g → (p : Private) → PrivateIn P p → rename_private f p ≡ rename_private g p
private-in P f g same p h =
    ap (λ l. record (rename_private f p) { frames = l }) (frames-in P f g same p.frames (h.0))
    ∙ ap (λ l. record (rename_private f p) { frames = rename_frames g p.frames; operands = l }) (values-in P f g same p.operands (h.1))
    ∙ ap (λ l. record (rename_private g p) { locals = l }) (kept-in P f g same p.locals (h.2))

pub reply-in : (P : ℕ → Type 0) (f g : ℕ → ℕ) → SameOn P f g → (r : Reply) → ReplyIn P r → rename_reply f r ≡ rename_reply g r
reply-in P f g same Done h = refl
reply-in P f g same (Got v) h = ap Got (value-in P f g same v h)
reply-in P f g same (Trapped t) h = refl

-- ---- two renamings that do the same to certain names alone tell that all names are among these

abbrev pub Tells : (ℕ → Type 0) → (ℕ → ℕ) → (ℕ → ℕ) → Type 0
Tells P f g = (a : ℕ) → f a ≡ g a → P a

choice-tells : (b : Bool) (p : ℕ × ℕ) (ps : Pairs) (a x y : ℕ) → (b ≡ true → p.0 ≡ a) → (x ≡ y → IsOld ps a) →
    (if b then p.1 else x) ≡ (if b then p.1 else y) → IsOld (p ∷ ps) a
choice-tells true p ps a x y f g e = inl (f refl)
choice-tells false p ps a x y f g e = inr (g e)

-- only an old name goes up alike by two numbers
pub spread-tells : (ps : Pairs) (n : ℕ) → Tells (IsOld ps) (spread ps n) (spread ps (suc n))
spread-tells [] n a e = absurd (omega arith)
spread-tells (p ∷ ps) n a e =
    choice-tells (p.0 == a) p ps a (spread ps n a) (spread ps (suc n) a) (eqb-true (p.0) a) (spread-tells ps n a) e

module _ (P : ℕ → Type 0) (f g : ℕ → ℕ) (tells : Tells P f g) where
  name-tells : (n : Name) → rename_name f n ≡ rename_name g n → NameIn P n
  name-tells (Glob i) e = tt
  name-tells (Lit v i) e = tt
  name-tells (Heap a) e = let same : f a ≡ g a = cc in tells a same

  value-tells : (v : Value) → rename_value f v ≡ rename_value g v → ValueIn P v
  value-tells (Num n) e = tt
  value-tells Null e = tt
  value-tells (Ptr n k) e = let same : rename_name f n ≡ rename_name g n = cc in name-tells n same
  value-tells Free e = tt
  value-tells (Held thread) e = tt
  value-tells Undef e = tt

  values-tell : (vs : List Value) → rename_values f vs ≡ rename_values g vs → ValuesIn P vs
  values-tell [] e = tt
  values-tell (v ∷ vs) e =
      let first : rename_value f v ≡ rename_value g v = cc in
      let others : rename_values f vs ≡ rename_values g vs = cc in
      (value-tells v first, values-tell vs others)

  frames-tell : (xs : List Frame) → rename_frames f xs ≡ rename_frames g xs → FramesIn P xs
  frames-tell [] e = tt
  frames-tell (x ∷ xs) e =
      let first : rename_frame f x ≡ rename_frame g x = cc in
      let others : rename_frames f xs ≡ rename_frames g xs = cc in
      (values-tell x.locals (ap (λ (y : Frame). y.locals) first), frames-tell xs others)

  kept-tells : (ks : List KeptLocal) → rename_kept f ks ≡ rename_kept g ks → KeptIn P ks
  kept-tells [] e = tt
  kept-tells (k ∷ ks) e =
      let first : rename_kept_local f k ≡ rename_kept_local g k = cc in
      let others : rename_kept f ks ≡ rename_kept g ks = cc in
      (value-tells k.value (ap (λ (y : KeptLocal). y.value) first), kept-tells ks others)

  pub private-tells : (p : Private) → rename_private f p ≡ rename_private g p → PrivateIn P p
  private-tells p e = (
    frames-tell p.frames (ap (λ (q : Private). q.frames) e),
    values-tell p.operands (ap (λ (q : Private). q.operands) e),
    kept-tells p.locals (ap (λ (q : Private). q.locals) e),
  )

  piece-tells : (x : Piece) → rename_piece f x ≡ rename_piece g x → PieceIn P x
  piece-tells (piece.Bytes bytes) e = tt
  piece-tells (piece.Number n) e = tt
  piece-tells (piece.Byte b) e = tt
  piece-tells (piece.TextAt v) e = let same : rename_value f v ≡ rename_value g v = cc in value-tells v same

  pieces-tell : (xs : List Piece) → rename_pieces f xs ≡ rename_pieces g xs → PiecesIn P xs
  pieces-tell [] e = tt
  pieces-tell (x ∷ xs) e =
      let first : rename_piece f x ≡ rename_piece g x = cc in
      let others : rename_pieces f xs ≡ rename_pieces g xs = cc in
      (piece-tells x first, pieces-tell xs others)

  act-tells : (a : Act) → rename_act f a ≡ rename_act g a → ActIn P a
  act-tells (act.Load p t) e = let same : rename_value f p ≡ rename_value g p = cc in value-tells p same
  act-tells (act.Store p t v) e =
      let same : rename_value f p ≡ rename_value g p = cc in
      let stored : rename_value f v ≡ rename_value g v = cc in
      (value-tells p same, value-tells v stored)
  act-tells (act.Release p) e = let same : rename_value f p ≡ rename_value g p = cc in value-tells p same
  act-tells (act.Lock p) e = let same : rename_value f p ≡ rename_value g p = cc in value-tells p same
  act-tells (act.Unlock p) e = let same : rename_value f p ≡ rename_value g p = cc in value-tells p same
  act-tells (act.InitMutex p) e = let same : rename_value f p ≡ rename_value g p = cc in value-tells p same
  act-tells (act.Wait p) e = let same : rename_value f p ≡ rename_value g p = cc in value-tells p same
  act-tells (act.Signal p all) e = let same : rename_value f p ≡ rename_value g p = cc in value-tells p same
  act-tells (act.Print ps) e = let same : rename_pieces f ps ≡ rename_pieces g ps = cc in pieces-tell ps same
  act-tells (act.Create i v) e = let same : rename_value f v ≡ rename_value g v = cc in value-tells v same
  act-tells act.Tick e = tt
  act-tells (act.Allocate i n zeros) e = tt
  act-tells act.GetChar e = tt
  act-tells (act.Join n) e = tt
  act-tells (act.Point n) e = tt
  act-tells (act.MigrateLocal i n) e = tt
  act-tells act.Automigrate e = tt
  act-tells (act.UpdatingTest n) e = tt
  act-tells act.ThreadEnd e = tt
  act-tells (act.MainReturn n) e = tt

  pub head-tells : (o : Option Head) → rename_head f o ≡ rename_head g o → HeadIn P o
  head-tells None e = tt
  head-tells (Some (head.Act a)) e = let same : rename_act f a ≡ rename_act g a = cc in act-tells a same
  head-tells (Some (head.Trap t)) e = tt
