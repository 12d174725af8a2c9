-- Files and an input that are told: they hold one thing, and at most one file is the first that is too long.
use Rattle.std.specs.Prelude.{◌≡◌, ℕ, zero, suc, List, [], ◌∷◌, slice_get, take, Option, Some, None, refl}
use Rattle.std.proofs.Common.{sym, subst, ap, arith}
use Rattle.kt_edge.specs.FileMap.{FileMap, Holds, Tells, Lacks}
use Rattle.kt_play.specs.Given.{HoldAll, TellAll, HoldsInput}
use Rattle.kt_play.specs.Job.{IsShort, AreShort, IsFirstLong}

-- ---- one file, one input

-- the one file of a name that is told
one_file : (told : Option FileMap) (name bytes other : List ℕ) → Tells told name bytes → Holds told name other → other ≡ bytes
one_file None name bytes other t h = absurd t
one_file (Some files) name bytes other t h = cc

-- the files of these names that are told
pub one_list : (told : Option FileMap) (names files others : List (List ℕ)) → TellAll told names files → HoldAll told names others → others ≡ files
one_list told [] [] [] t h = refl
one_list told [] [] (o ∷ others) t h = absurd h
one_list told [] (b ∷ files) others t h = absurd t
one_list told (n ∷ names) [] others t h = absurd t
one_list told (n ∷ names) (b ∷ files) [] t h = absurd h
one_list told (n ∷ names) (b ∷ files) (o ∷ others) t h =
    let x = one_file told n b o t.0 h.0 in let y = one_list told names files others t.1 h.1 in cc

-- the input that is told
pub one_input : (left : Option (List ℕ)) (rest input : List ℕ) → left ≡ Some rest → HoldsInput left input → input ≡ rest
one_input left rest input e h = subst (λ (o : Option (List ℕ)). HoldsInput o input) e h

-- ---- names that are lacking

lacking : (told : Option FileMap) (name bytes : List ℕ) → Lacks told name → Holds told name bytes → ⊥
lacking None name bytes k h = k
lacking (Some files) name bytes k h = cc

told_holds : (told : Option FileMap) (name bytes : List ℕ) → Tells told name bytes → Holds told name bytes
told_holds None name bytes t = absurd t
told_holds (Some files) name bytes t = t

pub hold_told : (told : Option FileMap) (names files : List (List ℕ)) → TellAll told names files → HoldAll told names files
hold_told told [] [] t = tt
hold_told told [] (b ∷ files) t = t
hold_told told (n ∷ names) [] t = t
hold_told told (n ∷ names) (b ∷ files) t = (told_holds told n b t.0, hold_told told names files t.1)

-- no name of files that are held is lacking
pub lacking_none : (told : Option FileMap) (names files : List (List ℕ)) (place : ℕ) (name : List ℕ) → HoldAll told names files →
    slice_get names place ≡ Some name → Lacks told name → ⊥
lacking_none told [] files place name h e k = cc
lacking_none told (n ∷ names) [] place name h e k = h
lacking_none told (n ∷ names) (b ∷ files) zero name h e k =
    let same : n ≡ name = cc in lacking told n b (subst (Lacks told) (sym same) k) h.0
lacking_none told (n ∷ names) (b ∷ files) (suc place) name h e k = lacking_none told names files place name h.1 e k

-- ---- the first files

tell_front : (told : Option FileMap) (n : ℕ) (names files : List (List ℕ)) → TellAll told names files → TellAll told (take n names) (take n files)
tell_front told zero names files t = tt
tell_front told (suc n) [] [] t = tt
tell_front told (suc n) [] (b ∷ files) t = absurd t
tell_front told (suc n) (x ∷ names) [] t = absurd t
tell_front told (suc n) (x ∷ names) (b ∷ files) t = (t.0, tell_front told n names files t.1)

hold_front : (told : Option FileMap) (n : ℕ) (names files : List (List ℕ)) → HoldAll told names files → HoldAll told (take n names) (take n files)
hold_front told zero names files h = tt
hold_front told (suc n) [] [] h = tt
hold_front told (suc n) [] (b ∷ files) h = absurd h
hold_front told (suc n) (x ∷ names) [] h = absurd h
hold_front told (suc n) (x ∷ names) (b ∷ files) h = (h.0, hold_front told n names files h.1)

short_front : (n : ℕ) (files : List (List ℕ)) → AreShort files → AreShort (take n files)
short_front zero files h = tt
short_front (suc n) [] h = tt
short_front (suc n) (b ∷ files) h = (h.0, short_front n files h.1)

-- ---- the first file that is too long

long_or_short : (files : List (List ℕ)) (n : ℕ) → IsFirstLong files n → AreShort files → ⊥
long_or_short [] n h k = h
long_or_short (b ∷ files) zero h k = h
long_or_short (b ∷ files) (suc zero) h k = omega (arith, h, k.0)
long_or_short (b ∷ files) (suc (suc n)) h k = long_or_short files (suc n) h.1 k.1

-- no file is too long where all are short
pub none_long : (told : Option FileMap) (n : ℕ) (names files others : List (List ℕ)) → TellAll told names files → HoldAll told (take n names) others →
    IsFirstLong others n → AreShort files → ⊥
none_long told n names files others t h long short =
    let same : others ≡ take n files = one_list told (take n names) (take n files) others (tell_front told n names files t) h in
    long_or_short others n long (subst AreShort (sym same) (short_front n files short))

-- at most one file is the first that is too long
pub one_long : (told : Option FileMap) (names files others : List (List ℕ)) (n m : ℕ) → TellAll told (take n names) files → HoldAll told (take m names) others →
    IsFirstLong files n → IsFirstLong others m → m ≡ n
one_long told names [] others n m t h long other = absurd long
one_long told names (b ∷ files) [] n m t h long other = absurd other
one_long told names (b ∷ files) (o ∷ others) zero m t h long other = absurd long
one_long told names (b ∷ files) (o ∷ others) (suc n) zero t h long other = absurd other
one_long told [] (b ∷ files) (o ∷ others) (suc n) (suc m) t h long other = absurd t
one_long told (x ∷ names) (b ∷ files) (o ∷ others) (suc zero) (suc zero) t h long other = refl
one_long told (x ∷ names) (b ∷ files) (o ∷ others) (suc zero) (suc (suc m)) t h long other =
    let same = one_file told x b o t.0 h.0 in let short = subst IsShort same other.0 in absurd (omega (arith, long, short))
one_long told (x ∷ names) (b ∷ files) (o ∷ others) (suc (suc n)) (suc zero) t h long other =
    let same = one_file told x b o t.0 h.0 in let short = subst IsShort (sym same) long.0 in absurd (omega (arith, other, short))
one_long told (x ∷ names) (b ∷ files) (o ∷ others) (suc (suc n)) (suc (suc m)) t h long other =
    ap suc (one_long told names files others (suc n) (suc m) t.1 h.1 long.1 other.1)

-- a file that is held behind the first that is too long
pub held_long : (told : Option FileMap) (names files others : List (List ℕ)) (n : ℕ) → TellAll told (take n names) files → HoldAll told names others →
    IsFirstLong files n → AreShort others → ⊥
held_long told names files others n t h long short =
    let same : take n others ≡ files = one_list told (take n names) files (take n others) t (hold_front told n names others h) in
    long_or_short files n long (subst AreShort same (short_front n others short))

-- the unread file stands behind none that is too long
pub unread_long : (told : Option FileMap) (names files others : List (List ℕ)) (n place : ℕ) (name : List ℕ) → TellAll told (take n names) files →
    HoldAll told (take place names) others → AreShort others → slice_get names place ≡ Some name → Lacks told name → IsFirstLong files n → ⊥
unread_long told names [] others n place name t h short e k long = long
unread_long told names (b ∷ files) others zero place name t h short e k long = long
unread_long told [] (b ∷ files) others (suc n) place name t h short e k long = t
unread_long told (x ∷ names) (b ∷ files) others (suc n) zero name t h short e k long =
    let same : x ≡ name = cc in lacking told x b (subst (Lacks told) (sym same) k) (told_holds told x b t.0)
unread_long told (x ∷ names) (b ∷ files) [] (suc n) (suc place) name t h short e k long = h
unread_long told (x ∷ names) (b ∷ files) (o ∷ others) (suc zero) (suc place) name t h short e k long =
    let same = one_file told x b o t.0 h.0 in let within = subst IsShort same short.0 in omega (arith, long, within)
unread_long told (x ∷ names) (b ∷ files) (o ∷ others) (suc (suc n)) (suc place) name t h short e k long =
    unread_long told names files others (suc n) place name t.1 h.1 short.1 e k long.1
