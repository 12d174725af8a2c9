-- What acts on memory do by address is what they do by heap number.
use Rattle.std.specs.Prelude.{◌≡◌, ℕ, zero, suc, ◌+◌, List, [], ◌∷◌, map, drop, Option, None, Some, Bool, true, false, Result, Ok, Err, IfErr, IfOk, OnOk, OnErr, if◌then◌else◌, refl}
use Rattle.std.specs.Option.{option_map}
use Rattle.std.proofs.Common.{get_or, sym, ap, subst, ◌∙◌}
use Rattle.std.proofs.lemmas.List.{drop-map}
use Rattle.kt_types.specs.declared.kinds.Ty.{Ty}
use Rattle.kt_types.specs.declared.kinds.Ty.TheVariants as ty
use Rattle.kt_mem.specs.declared.memory.Name.{Name}
use Rattle.kt_mem.specs.declared.memory.Name.TheVariants.{Glob, Lit, Heap}
use Rattle.kt_mem.specs.declared.memory.Value.{Value}
use Rattle.kt_mem.specs.declared.memory.Value.TheVariants.{Num, Null, Ptr, Free, Held, Undef}
use Rattle.kt_mem.specs.declared.steps.Piece.{Piece}
use Rattle.kt_mem.specs.declared.steps.Piece.TheVariants as piece
use Rattle.kt_mem.specs.declared.steps.Reply.{Reply}
use Rattle.kt_mem.specs.declared.steps.Reply.TheVariants.{Done, Got, Trapped}
use Rattle.kt_mem.specs.declared.steps.Trap.{Trap}
use Rattle.kt_mem.specs.declared.steps.Trap.TheVariants as trap
use Rattle.kt_mem.specs.Memory.{Memory, Object, Cell, load, store, waits}
use Rattle.kt_mem.specs.Values.{ty_eq}
use Rattle.kt_meaning.specs.Effects.{Shared, Outcome, Replies, Waits, leaves, reads, writes, and_rest, text_with, text_of, text_in, text_at, piece_text, pieces_text}
use Rattle.kt_heap.specs.Heap as heap
use Rattle.kt_heap.specs.Heap.{IsPairing}
use Rattle.kt_mem.specs.Renaming.{Pairs, rename_name, rename_value, renamed}
use Rattle.kt_heap.specs.ByNumber.{cell_by_number, object_by_number, by_number, answer_by, WasGiven, HoldsGiven, ActsByNumber}
use Rattle.kt_heap.proofs.NumberLaws.{loads_by_number, stores_by_number, waits_by_number, looks_by_number}
use Rattle.kt_heap.proofs.GivenLaws.{loads_given, stores_given}
use Rattle.kt_exec.specs.Renaming.{IsOld, NameIn, ValueIn, PieceIn, PiecesIn, ReplyIn, rename_piece, rename_pieces}
use Rattle.kt_lone.specs.Update.{or_same, placed_one, placed_from}
use Rattle.kt_machine.specs.ByNumber.{reply_by}
use Rattle.kt_machine.specs.Outside.{Outside, IsNumber, AreNumbers, pairs_in, shown, left_by, done, given}
use Rattle.kt_machine.proofs.Names.{old-given, given-old, value-among, old-paired}

-- ---- replies without names

pub done-in : {A : Type 0} (P : ℕ → Type 0) (answer : Result A Trap) (r : Reply) → r ≡ done answer → ReplyIn P r
done-in P answer r e = subst (λ (r : Reply). ReplyIn P r) (sym e) (by_answer answer)
  where
    by_answer : {A : Type 0} (answer : Result A Trap) → ReplyIn P (done answer)
    by_answer (Ok x) = tt
    by_answer (Err t) = tt

-- a reply that names nothing is the same by heap number
pub plain-reply : (ps : Pairs) (r : Reply) → ReplyIn (λ a. ⊥) r → reply_by ps r ≡ r
plain-reply ps Done h = refl
plain-reply ps (Trapped t) h = refl
plain-reply ps (Got (Num z)) h = refl
plain-reply ps (Got Null) h = refl
plain-reply ps (Got (Ptr (Glob i) k)) h = refl
plain-reply ps (Got (Ptr (Lit v i) k)) h = refl
plain-reply ps (Got (Ptr (Heap a) k)) h = absurd h
plain-reply ps (Got Free) h = refl
plain-reply ps (Got (Held t)) h = refl
plain-reply ps (Got Undef) h = refl

-- ---- acts that leave another memory

left-by : {A : Type 0} (s : Shared) (ps : Pairs) (m new : Memory) (there here : Result Memory Trap) (answer : Result A Trap) →
    there ≡ answer_by (by_number ps) here → here ≡ left_by answer new → OnErr answer (new ≡ m) →
    leaves (record s { memory = by_number ps m }) there ≡ Replies (reply_by ps (done answer)) (record s { memory = by_number ps new })
left-by s ps m new there here (Ok x) by left kept =
    ap (leaves (record s { memory = by_number ps m })) (by ∙ ap (answer_by (by_number ps)) left)
left-by s ps m new there here (Err t) by left kept =
    ap (leaves (record s { memory = by_number ps m })) (by ∙ ap (answer_by (by_number ps)) left)
    ∙ ap (λ (n : Memory). Replies (Trapped t) (record s { memory = by_number ps n })) (sym kept)

pub acts-leave : {A : Type 0} (by : Pairs → Memory → Value → Result Memory Trap) (act : Memory → Value → Result Memory Trap) → ActsByNumber by act →
    (old o : Outside) → old ≡ o → (h : heap.State) (p : Value) (answer : Result A Trap) (r : Reply) →
    IsPairing (heap.given old.heap) (heap.memory old.heap) → ValueIn (IsOld (pairs_in o)) p → act (heap.memory old.heap) p ≡ left_by answer (heap.memory h) →
    OnErr answer (heap.memory h ≡ heap.memory old.heap) → heap.given h ≡ heap.given old.heap → r ≡ done answer →
    leaves (shown o) (by (pairs_in o) (shown o).memory (rename_value (renamed (pairs_in o)) p))
    ≡ Replies (reply_by (heap.given h) r) (shown (record old { heap = h }))
acts-leave by act law old o same h p answer r pairing names left kept pairs is =
    let ps : Pairs = heap.given old.heap in
    let m : Memory = heap.memory old.heap in
    let new : Memory = heap.memory h in
    subst (λ (x : Outside). leaves (shown x) (by (pairs_in x) (shown x).memory (rename_value (renamed (pairs_in x)) p))
    ≡ Replies (reply_by (heap.given h) r) (shown (record old { heap = h }))) same
    (left-by (shown old) ps m new (by ps (shown old).memory (rename_value (renamed ps) p)) (act m p) answer
    (law ps m p pairing (old-given ps p (subst (λ (x : Outside). ValueIn (IsOld (pairs_in x)) p) (sym same) names))) left kept
    ∙ ap (λ (qs : Pairs). Replies (reply_by qs (done answer)) (record (shown old) { memory = by_number qs new })) (sym pairs)
    ∙ ap (λ (r : Reply). Replies (reply_by (heap.given h) r) (record (shown old) { memory = by_number (heap.given h) new })) (sym is))

-- memory goes on to hold only what was given out
pub holds-after : {A : Type 0} (ps qs : Pairs) (m new : Memory) (here : Result Memory Trap) (answer : Result A Trap) →
    ((after : Memory) → here ≡ Ok after → HoldsGiven ps after) → HoldsGiven ps m → here ≡ left_by answer new → OnErr answer (new ≡ m) → qs ≡ ps →
    HoldsGiven qs new
holds-after ps qs m new here (Ok x) keeps holds left kept pairs = subst (λ (ps : Pairs). HoldsGiven ps new) (sym pairs) (keeps new left)
holds-after ps qs m new here (Err t) keeps holds left kept pairs =
    subst (λ (ps : Pairs). HoldsGiven ps new) (sym pairs) (subst (λ (n : Memory). HoldsGiven ps n) (sym kept) holds)

-- ---- loads

read-by : (s : Shared) (ps : Pairs) (there here : Result Value Trap) → there ≡ answer_by (rename_value (renamed ps)) here →
    reads s there ≡ Replies (reply_by ps (given here)) s
read-by s ps there (Ok v) by = ap (reads s) by
read-by s ps there (Err t) by = ap (reads s) by

pub load-reads : (old o : Outside) → old ≡ o → (p : Value) (t : Ty) (answer : Result Value Trap) (r : Reply) →
    IsPairing (heap.given old.heap) (heap.memory old.heap) → ValueIn (IsOld (pairs_in o)) p → answer ≡ load (heap.memory old.heap) p t → r ≡ given answer →
    reads (shown o) (load (shown o).memory (rename_value (renamed (pairs_in o)) p) t) ≡ Replies (reply_by (pairs_in o) r) (shown o)
load-reads old o same p t answer r pairing names loaded is =
    let ps : Pairs = heap.given old.heap in
    let m : Memory = heap.memory old.heap in
    subst (λ (x : Outside). reads (shown x) (load (shown x).memory (rename_value (renamed (pairs_in x)) p) t) ≡ Replies (reply_by (pairs_in x) r) (shown x)) same
    (read-by (shown old) ps (load (shown old).memory (rename_value (renamed ps) p) t) (load m p t)
    (loads_by_number ps m p t pairing (old-given ps p (subst (λ (x : Outside). ValueIn (IsOld (pairs_in x)) p) (sym same) names)))
    ∙ ap (λ (a : Result Value Trap). Replies (reply_by ps (given a)) (shown old)) (sym loaded)
    ∙ ap (λ (r : Reply). Replies (reply_by ps r) (shown old)) (sym is))

pub load-names : (ps : Pairs) (m : Memory) (p : Value) (t : Ty) (answer : Result Value Trap) (r : Reply) → HoldsGiven ps m →
    answer ≡ load m p t → r ≡ given answer → ReplyIn (IsOld ps) r
load-names ps m p t answer r holds loaded is = subst (λ (r : Reply). ReplyIn (IsOld ps) r) (sym is) (by_answer answer loaded)
  where
    by_answer : (answer : Result Value Trap) → answer ≡ load m p t → ReplyIn (IsOld ps) (given answer)
    by_answer (Ok v) e = given-old ps v (loads_given ps m p v t holds (sym e))
    by_answer (Err t) e = tt

-- ---- locks that wait

pub waits-by : (o : Outside) (thread : ℕ) (p : Value) → IsPairing (heap.given o.heap) (heap.memory o.heap) → ValueIn (IsOld (pairs_in o)) p →
    waits (shown o).memory thread (rename_value (renamed (pairs_in o)) p) ≡ waits (heap.memory o.heap) thread p
waits-by o thread p pairing names =
    waits_by_number (pairs_in o) (heap.memory o.heap) thread p pairing (old-given (pairs_in o) p names)

module _ (old o : Outside) (same : old ≡ o) (thread : ℕ) (p : Value) (b : Bool) (pairing : IsPairing (heap.given old.heap) (heap.memory old.heap))
    (names : ValueIn (IsOld (pairs_in o)) p) (is : b ≡ waits (heap.memory old.heap) thread p) (rest : Outcome) where
  waits-is : waits (shown o).memory thread (rename_value (renamed (pairs_in o)) p) ≡ b
  waits-is =
      waits-by o thread p (subst (λ (x : Outside). IsPairing (heap.given x.heap) (heap.memory x.heap)) same pairing) names
      ∙ sym (is ∙ ap (λ (x : Outside). waits (heap.memory x.heap) thread p) same)

  pub lock-waits : b ≡ true → (if waits (shown o).memory thread (rename_value (renamed (pairs_in o)) p) then Waits else rest) ≡ Waits
  lock-waits e = ap (λ (b : Bool). if b then Waits else rest) (waits-is ∙ e)

  pub lock-goes : b ≡ false → (if waits (shown o).memory thread (rename_value (renamed (pairs_in o)) p) then Waits else rest) ≡ rest
  lock-goes e = ap (λ (b : Bool). if b then Waits else rest) (waits-is ∙ e)

-- ---- texts

module _ (ps : Pairs) (m : Memory) (pairing : IsPairing ps m) where
  text_with-by : (v : Value) (rest : Result (List ℕ) Trap) → text_with (rename_value (renamed ps) v) rest ≡ text_with v rest
  text_with-by (Num z) rest = refl
  text_with-by Null rest = refl
  text_with-by (Ptr n k) rest = refl
  text_with-by Free rest = refl
  text_with-by (Held t) rest = refl
  text_with-by Undef rest = refl

  text_of-by : (cs : List Cell) → text_of (map (cell_by_number ps) cs) ≡ text_of cs
  text_of-by [] = refl
  text_of-by (c ∷ cs) =
      ap (λ (r : Result (List ℕ) Trap). if ty_eq c.ty ty.Char then r else Err trap.Bounds)
      (text_with-by c.value (text_of (map (cell_by_number ps) cs)) ∙ ap (text_with c.value) (text_of-by cs))

  text_in-by : (o : Option Object) (k : ℕ) → text_in (option_map (object_by_number ps) o) k ≡ text_in o k
  text_in-by None k = refl
  text_in-by (Some o) k = ap text_of (drop-map (cell_by_number ps) k o.cells) ∙ text_of-by (drop k o.cells)

  looks-by : (n : Name) → NameIn (IsOld ps) n → (by_number ps m).at (rename_name (renamed ps) n) ≡ option_map (object_by_number ps) (m.at n)
  looks-by (Glob i) h = looks_by_number ps m (Glob i) pairing tt
  looks-by (Lit v i) h = looks_by_number ps m (Lit v i) pairing tt
  looks-by (Heap a) h = looks_by_number ps m (Heap a) pairing (old-paired ps a h)

  text_at-by : (p : Value) → ValueIn (IsOld ps) p → text_at (by_number ps m) (rename_value (renamed ps) p) ≡ text_at m p
  text_at-by Null h = refl
  text_at-by (Ptr n k) h = ap (λ (o : Option Object). text_in o k) (looks-by n h) ∙ text_in-by (m.at n) k
  text_at-by (Num z) h = refl
  text_at-by Free h = refl
  text_at-by (Held t) h = refl
  text_at-by Undef h = refl

  piece-by : (x : Piece) → PieceIn (IsOld ps) x → piece_text (by_number ps m) (rename_piece (renamed ps) x) ≡ piece_text m x
  piece-by (piece.Bytes bytes) h = refl
  piece-by (piece.Number n) h = refl
  piece-by (piece.Byte b) h = refl
  piece-by (piece.TextAt p) h = text_at-by p h

  pub pieces-by : (xs : List Piece) → PiecesIn (IsOld ps) xs → pieces_text (by_number ps m) (rename_pieces (renamed ps) xs) ≡ pieces_text m xs
  pieces-by [] h = refl
  pieces-by (x ∷ xs) h =
      ap (λ (r : Result (List ℕ) Trap). and_rest r (pieces_text (by_number ps m) (rename_pieces (renamed ps) xs))) (piece-by x h.0)
      ∙ ap (and_rest (piece_text m x)) (pieces-by xs h.1)

module _ {E : Type 0} where
  -- a reply without a name is among all names
  pub plain-in : (P : ℕ → Type 0) (answer : Result Reply E) → IfOk answer (λ r. ReplyIn (λ a. ⊥) r) → IfOk answer (λ r. ReplyIn P r)
  plain-in P (Err e) h = tt
  plain-in P (Ok Done) h = tt
  plain-in P (Ok (Trapped t)) h = tt
  plain-in P (Ok (Got v)) h = value-among (λ a none. absurd none) v h

  -- what is written is the same by heap number
  pub pieces-written : (old o : Outside) → old ≡ o → (output : List ℕ) (xs : List Piece) → IsPairing (heap.given old.heap) (heap.memory old.heap) →
      PiecesIn (IsOld (pairs_in old)) xs → (answer : Result Reply E) →
      IfOk answer (λ r. (s : Shared) → writes (record s { output = old.output }) (pieces_text (heap.memory old.heap) xs) ≡ Replies r (record s { output = output })) →
      IfOk answer (λ r. ReplyIn (λ a. ⊥) r) →
      IfOk answer (λ r. writes (shown o) (pieces_text (shown o).memory (rename_pieces (renamed (pairs_in o)) xs))
      ≡ Replies (reply_by (pairs_in old) r) (shown (record old { output = output })))
  pieces-written old o same output xs pairing names (Err e) h plain = tt
  pieces-written old o same output xs pairing names (Ok r) h plain =
      subst (λ (x : Outside). writes (shown x) (pieces_text (shown x).memory (rename_pieces (renamed (pairs_in x)) xs))
      ≡ Replies (reply_by (pairs_in old) r) (shown (record old { output = output }))) same
      (ap (writes (shown old)) (pieces-by (pairs_in old) (heap.memory old.heap) pairing xs names) ∙ h (shown old)
      ∙ ap (λ (r : Reply). Replies r (shown (record old { output = output }))) (sym (plain-reply (pairs_in old) r plain)))

-- ---- kept values

pub number-at : (kept : List (Option Value)) (i : ℕ) → AreNumbers kept → IsNumber (get_or kept i None)
number-at [] i h = tt
number-at (k ∷ kept) zero h = h.0
number-at (k ∷ kept) (suc i) h = number-at kept i h.1

same-or : (ps : Pairs) (m : Memory) (there here : Result Memory Trap) → there ≡ answer_by (by_number ps) here →
    by_number ps (or_same m here) ≡ or_same (by_number ps m) there
same-or ps m there (Ok n) e = sym (ap (or_same (by_number ps m)) e)
same-or ps m there (Err t) e = sym (ap (or_same (by_number ps m)) e)

pub placed_one-by : (ps : Pairs) (m : Memory) → IsPairing ps m → (i : ℕ) (k : Option Value) → IsNumber k →
    by_number ps (placed_one i k m) ≡ placed_one i k (by_number ps m)
placed_one-by ps m pairing i None h = refl
placed_one-by ps m pairing i (Some (Num z)) h =
    same-or ps m (store (by_number ps m) (Ptr (Glob i) 0) ty.Int (Num z)) (store m (Ptr (Glob i) 0) ty.Int (Num z))
    (stores_by_number ty.Int (Num z) ps m (Ptr (Glob i) 0) pairing tt)
placed_one-by ps m pairing i (Some Null) h = absurd h
placed_one-by ps m pairing i (Some (Ptr n k)) h = absurd h
placed_one-by ps m pairing i (Some Free) h = absurd h
placed_one-by ps m pairing i (Some (Held t)) h = absurd h
placed_one-by ps m pairing i (Some Undef) h = absurd h

pub number-some : (k : Option Value) (v : Value) → k ≡ Some v → IsNumber k → IsNumber (Some v)
number-some k v e h = subst IsNumber e h

or-left : {A : Type 0} (m new : Memory) (here : Result Memory Trap) (answer : Result A Trap) → OnOk answer (here ≡ Ok new) → IfErr answer (λ t. here ≡ Err t) →
    OnErr answer (new ≡ m) → new ≡ or_same m here
or-left m new here (Ok x) made failed kept = sym (ap (or_same m) made)
or-left m new here (Err t) made failed kept = kept ∙ sym (ap (or_same m) failed)

-- a store of a kept value, which may change nothing
pub stored-one : {A : Type 0} (ps qs : Pairs) (m new : Memory) (i : ℕ) (v : Value) (answer : Result A Trap) → IsPairing ps m → IsNumber (Some v) →
    OnOk answer (store m (Ptr (Glob i) 0) ty.Int v ≡ Ok new) → IfErr answer (λ t. store m (Ptr (Glob i) 0) ty.Int v ≡ Err t) → OnErr answer (new ≡ m) →
    qs ≡ ps → by_number qs new ≡ placed_one i (Some v) (by_number ps m)
stored-one ps qs m new i v answer pairing number made failed kept pairs =
    ap (λ (rs : Pairs). by_number rs new) pairs
    ∙ ap (by_number ps) (or-left m new (store m (Ptr (Glob i) 0) ty.Int v) answer made failed kept)
    ∙ placed_one-by ps m pairing i (Some v) number

or-holds : (ps : Pairs) (m : Memory) (r : Result Memory Trap) → HoldsGiven ps m → ((n : Memory) → r ≡ Ok n → HoldsGiven ps n) → HoldsGiven ps (or_same m r)
or-holds ps m (Ok n) h keeps = keeps n refl
or-holds ps m (Err t) h keeps = h

number-given : (ps : Pairs) (v : Value) → IsNumber (Some v) → WasGiven ps v
number-given ps (Num z) h = tt
number-given ps Null h = tt
number-given ps (Ptr n k) h = absurd h
number-given ps Free h = tt
number-given ps (Held t) h = tt
number-given ps Undef h = tt

placed_one-holds : (ps : Pairs) (m : Memory) (i : ℕ) (k : Option Value) → IsNumber k → HoldsGiven ps m → HoldsGiven ps (placed_one i k m)
placed_one-holds ps m i None n h = h
placed_one-holds ps m i (Some v) n h =
    or-holds ps m (store m (Ptr (Glob i) 0) ty.Int v) h (λ after e. stores_given ps m after (Ptr (Glob i) 0) v ty.Int h (number-given ps v n) e)

placed_from-holds : (ps : Pairs) (i : ℕ) (kept : List (Option Value)) (m : Memory) → AreNumbers kept → HoldsGiven ps m → HoldsGiven ps (placed_from i kept m)
placed_from-holds ps i [] m n h = h
placed_from-holds ps i (k ∷ kept) m n h = placed_from-holds ps (i + 1) kept (placed_one i k m) n.1 (placed_one-holds ps m i k n.0 h)

pub placed-holds : (ps qs : Pairs) (kept : List (Option Value)) (m new : Memory) → AreNumbers kept → HoldsGiven ps m → new ≡ placed_from 0 kept m → qs ≡ ps →
    HoldsGiven qs new
placed-holds ps qs kept m new n h e pairs =
    subst (λ (ps : Pairs). HoldsGiven ps new) (sym pairs)
    (subst (λ (x : Memory). HoldsGiven ps x) (sym e) (placed_from-holds ps 0 kept m n h))
