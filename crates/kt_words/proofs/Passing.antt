-- Faults that are handed on, and lists that are read as bytes.
use Rattle.std.proofs.Common.{◌≡◌, ◌<◌, List, [], ◌∷◌, ◌++◌, length, Result, Ok, Err, String, Global, string_bytes, refl, ap, sym, ◌∙◌, arith}
use Rattle.std.specs.Result.{IsErrAnd}
use Rattle.kt_words.specs.Form.{texts}
use Rattle.kt_words.specs.Reading.{told}
use Rattle.kt_words.specs.declared.fault.WordFault.{WordFault}
use Rattle.kt_words.specs.declared.fault.WordFault.TheVariants.{Words}
use Rattle.kt_words.specs.declared.value.Value.{Value}

pub passed : {T : Type 0} (r : Result T WordFault) (fault : WordFault) → IsErrAnd r (λ handed. handed ≡ fault) → r ≡ Err Words → fault ≡ Words
passed (Ok value) fault e h = absurd e
passed (Err handed) fault e h =
    let same : handed ≡ Words = cc in
    sym e ∙ same

pub told-append : (xs ys : List Value) → told (xs ++ ys) ≡ told xs ++ told ys
told-append [] ys = refl
told-append (x ∷ xs) ys = ap (λ rest. (x.name.now, x.text.now) ∷ rest) (told-append xs ys)

pub texts-append : (xs ys : List (String Global)) → texts (xs ++ ys) ≡ texts xs ++ texts ys
texts-append [] ys = refl
texts-append (x ∷ xs) ys = ap (λ rest. string_bytes x ∷ rest) (texts-append xs ys)

pub texts-empty : (words : List (String Global)) → length words < 1 → texts words ≡ []
texts-empty [] h = refl
texts-empty (word ∷ words) h = absurd (omega arith)
