-- From what was read of a file to the whole file, or why not all files of some names were read.
use Rattle.std.specs.Prelude.{◌≡◌, ℕ, ◌<◌, ◌≤◌, List, [], ◌∷◌, Option, Result, Ok, Err, IfOk, IfErr, length, refl}
use Rattle.std.proofs.Common.{arith, sym, subst, ◌∙◌, ap, inl, inr}
use Rattle.std.proofs.lemmas.List.{length-take, take_all}
use Rattle.kt_edge.specs.declared.ends.ReadEnd.{ReadEnd}
use Rattle.kt_edge.specs.declared.ends.ReadEnd.TheVariants.{Failed, TooLong, NoMemory}
use Rattle.kt_edge.specs.Count.{Rose}
use Rattle.kt_edge.specs.FileMap.{FileMap, Holds, Lacks, StartsFile}
use Rattle.kt_play.specs.declared.refusal.UnreadFile.{UnreadFile}
use Rattle.kt_play.specs.Reading.{IsReadWhole, IsLong, IsReadCause, IsFileCause, IsFilesCause}

-- what holds of an error holds of the result that is that error
pub as_error : {X E : Type 0} (r : Result X E) (x y : E) (P : E → Type 0) → r ≡ Err x → x ≡ y → P y → IfErr r P
as_error {X = X} {E = E} r x y P e f h = subst (λ (s : Result X E). IfErr s P) (sym e) (subst P (sym f) h)

-- ---- measuring

-- what was read is within the limit, so it is the whole file
pub read_whole : (told : Option FileMap) (name items : List ℕ) → StartsFile told name 262145 items → length items ≤ 262144 → IsReadWhole told name items
read_whole told name items s h =
    let n = length-take 262145 s.0 in
    let m = ap length s.2 in
    let all : length s.0 ≤ 262145 = omega (arith, n, m, h) in
    let same : items ≡ s.0 = s.2 ∙ take_all 262145 s.0 all in
    (subst (λ (b : List ℕ). Holds told name b) (sym same) s.1, h)

-- or it passes the limit, and so does the file
pub read_long : (told : Option FileMap) (name items : List ℕ) → StartsFile told name 262145 items → 262144 < length items → IsLong told name
read_long told name items s h =
    let n = length-take 262145 s.0 in
    let m = ap length s.2 in
    (s.0, s.1, omega (arith, n, m, h))

pub measured_whole : {X : Type 0} (told : Option FileMap) (name : List ℕ) (bytes : X) (items : X → List ℕ) (r : Result X UnreadFile) →
    StartsFile told name 262145 (items bytes) → IfOk r (λ text. (text ≡ bytes) × (length (items bytes) ≤ 262144)) →
    IfOk r (λ text. IsReadWhole told name (items text))
measured_whole {X = X} told name bytes items (Ok text) s h =
    subst (λ (t : X). IsReadWhole told name (items t)) (sym h.0) (read_whole told name (items bytes) s h.1)
measured_whole told name bytes items (Err unread) s h = tt

pub measured_long : {X : Type 0} (told : Option FileMap) (name items : List ℕ) (before now n : ℕ) (r : Result X UnreadFile) → StartsFile told name 262145 items →
    IfErr r (λ unread. (unread ≡ record { number = n; end = TooLong }) × (262144 < length items)) →
    IfErr r (λ unread. IsReadCause unread.end told name before now)
measured_long told name items before now n (Ok text) s h = tt
measured_long told name items before now n (Err unread) s h =
    subst (λ (u : UnreadFile). IsReadCause u.end told name before now) (sym h.0) (read_long told name items s h.1)

pub measured_number : {X : Type 0} (items : List ℕ) (n : ℕ) (r : Result X UnreadFile) →
    IfErr r (λ unread. (unread ≡ record { number = n; end = TooLong }) × (262144 < length items)) → IfErr r (λ unread. unread.number ≡ n)
measured_number items n (Ok text) h = tt
measured_number items n (Err unread) h = ap (λ (u : UnreadFile). u.number) h.0

-- ---- the files

-- what was read of files that are told as before
as_told : (told told' : Option FileMap) (name bytes : List ℕ) → told' ≡ told → IsReadWhole told' name bytes → IsReadWhole told name bytes
as_told told told' name bytes same w = subst (λ (t : Option FileMap). IsReadWhole t name bytes) same w

rose_earlier : (before mid now : ℕ) → before ≤ mid → Rose mid now → Rose before now
rose_earlier before mid now h r = grind arith

-- an unread file of that number is told as such
numbered : (told : Option FileMap) (before now n : ℕ) (names : List (List ℕ)) (unread : UnreadFile) → unread.number ≡ n →
    IsFileCause unread.end told before now n names → IsFilesCause unread told before now names
numbered told before now n names unread e h = subst (λ (k : ℕ). IsFileCause unread.end told before now k names) (sym e) h

first_end : (told : Option FileMap) (name : List ℕ) (others : List (List ℕ)) (before now : ℕ) (end : ReadEnd) → IsReadCause end told name before now →
    IsFileCause end told before now 1 (name ∷ others)
first_end told name others before now Failed h =
    record { place = 0; number = refl; name = name; named = refl; cause = h; files = []; holds = tt; short = tt }
first_end told name others before now TooLong h = record { files = h.0 ∷ []; holds = (h.1, tt); long = h.2 }
first_end told name others before now NoMemory h = tt

pub unread_first : (told : Option FileMap) (name : List ℕ) (others : List (List ℕ)) (before now : ℕ) (unread : UnreadFile) → unread.number ≡ 1 →
    IsReadCause unread.end told name before now → IsFilesCause unread told before now (name ∷ others)
unread_first told name others before now unread e h = numbered told before now 1 _ unread e (first_end told name others before now unread.end h)

second_end : (told told' : Option FileMap) (m n bytes : List ℕ) (others : List (List ℕ)) (before mid now : ℕ) (end : ReadEnd) →
    told' ≡ told → before ≤ mid → IsReadWhole told m bytes → IsReadCause end told' n mid now → IsFileCause end told before now 2 (m ∷ n ∷ others)
second_end told told' m n bytes others before mid now Failed same h w c = record {
  place = 1;
  number = refl;
  name = n;
  named = refl;
  cause = elim c [ inl rose ↦ inl (rose_earlier before mid now h rose) | inr lacks ↦ inr (subst (λ (t : Option FileMap). Lacks t n) same lacks) ];
  files = bytes ∷ [];
  holds = (w.0, tt);
  short = (w.1, tt);
}
second_end told told' m n bytes others before mid now TooLong same h w c =
    record { files = bytes ∷ c.0 ∷ []; holds = (w.0, (subst (λ (t : Option FileMap). Holds t n c.0) same c.1, tt)); long = (w.1, c.2) }
second_end told told' m n bytes others before mid now NoMemory same h w c = tt

pub unread_second : (told told' : Option FileMap) (m n bytes : List ℕ) (others : List (List ℕ)) (before mid now : ℕ) (unread : UnreadFile) → unread.number ≡ 2 →
    told' ≡ told → before ≤ mid → IsReadWhole told m bytes → IsReadCause unread.end told' n mid now → IsFilesCause unread told before now (m ∷ n ∷ others)
unread_second told told' m n bytes others before mid now unread e same h w c =
    numbered told before now 2 _ unread e (second_end told told' m n bytes others before mid now unread.end same h w c)

third_end : (told told' told'' : Option FileMap) (m n o a b : List ℕ) (before mid now : ℕ) (end : ReadEnd) →
    told' ≡ told → told'' ≡ told → before ≤ mid → IsReadWhole told m a → IsReadWhole told' n b → IsReadCause end told'' o mid now →
    IsFileCause end told before now 3 (m ∷ n ∷ o ∷ [])
third_end told told' told'' m n o a b before mid now Failed same same' h w v c =
    let v' = as_told told told' n b same v in
    record {
      place = 2;
      number = refl;
      name = o;
      named = refl;
      cause = elim c [ inl rose ↦ inl (rose_earlier before mid now h rose) | inr lacks ↦ inr (subst (λ (t : Option FileMap). Lacks t o) same' lacks) ];
      files = a ∷ b ∷ [];
      holds = (w.0, (v'.0, tt));
      short = (w.1, (v'.1, tt));
    }
third_end told told' told'' m n o a b before mid now TooLong same same' h w v c =
    let v' = as_told told told' n b same v in
    record {
      files = a ∷ b ∷ c.0 ∷ [];
      holds = (w.0, (v'.0, (subst (λ (t : Option FileMap). Holds t o c.0) same' c.1, tt)));
      long = (w.1, (v'.1, c.2));
    }
third_end told told' told'' m n o a b before mid now NoMemory same same' h w v c = tt

pub unread_third : (told told' told'' : Option FileMap) (m n o a b : List ℕ) (before mid now : ℕ) (unread : UnreadFile) → unread.number ≡ 3 →
    told' ≡ told → told'' ≡ told → before ≤ mid → IsReadWhole told m a → IsReadWhole told' n b → IsReadCause unread.end told'' o mid now →
    IsFilesCause unread told before now (m ∷ n ∷ o ∷ [])
unread_third told told' told'' m n o a b before mid now unread e same same' h w v c =
    numbered told before now 3 _ unread e (third_end told told' told'' m n o a b before mid now unread.end same same' h w v c)
