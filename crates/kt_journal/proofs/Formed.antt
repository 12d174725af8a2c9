-- The lines of marks are of the grammar.
use Rattle.std.proofs.Common.{◌≡◌, ℕ, zero, suc, ◌^◌, ◌-◌, ◌≤◌, ◌<◌, Bool, true, false, ◌&&◌, ◌||◌, not, List, [], ◌∷◌, ◌++◌, length, get_or, refl, ap, subst, ◌∙◌, arith, append-nil, codes}
use Rattle.std.specs.Prelude.{pos, negsuc, ℤ, ◌==◌, nat_eq, is_some, Option, Some, None, slice_get, if◌then◌else◌}
use Rattle.std.specs.Char.{is_ascii_digit}
use Rattle.std.specs.Fmt.{decimal, signed_decimal}
use Rattle.std.specs.List.{list_any}
use Rattle.std.specs.Str.{bytes_eq, all_ascii_digits}
use Rattle.std.proofs.lemmas.Bool.{false≢true, and_parts, eqb-true}
use Rattle.std.proofs.lemmas.Fmt.{decimal_nonempty, first_decimal}
use Rattle.kt_mem.specs.declared.steps.Trap.{Trap}
use Rattle.kt_mem.specs.declared.steps.Trap.TheVariants as trap
use Rattle.kt_tree.specs.Version.{Program}
use Rattle.kt_grammar.specs.Identifiers.{is_identifier}
use Rattle.xf_plan.specs.declared.place.Place.{Place}
use Rattle.xf_plan.specs.declared.place.Place.TheVariants as place
use Rattle.xf_plan.specs.declared.place.Why.{Why}
use Rattle.xf_plan.specs.declared.place.Why.TheVariants as why
use Rattle.kt_world.specs.declared.mark.Closed.{Closed}
use Rattle.kt_world.specs.declared.mark.Closed.TheVariants as closed
use Rattle.kt_world.specs.declared.mark.End.{End}
use Rattle.kt_world.specs.declared.mark.End.TheVariants as end
use Rattle.kt_world.specs.declared.mark.Mark.{Mark}
use Rattle.kt_world.specs.declared.mark.Mark.TheVariants as mark
use Rattle.kt_world.specs.Laws.{IsNoEnd}
use Rattle.kt_world.specs.Told.{IsPlaceOf, TellsClosing, TellsEnd, TellsOf}
use Rattle.kt_journal.specs.declared.kit.Kit.{Kit}
use Rattle.kt_journal.specs.declared.kit.Kit.TheVariants.{First, Second}
use Rattle.kt_journal.specs.Grammar.{Form, Words, ends, is, is_end, is_mark, is_number, is_number_up_to, is_of, is_of_one, is_place_fault, is_thread, is_trap, is_value, place_faults, progress, refusals, refused, request, trap_names}
use Rattle.kt_journal.specs.Kept.{IsClosingKept, IsEndKept, IsKept, IsPlaceKept, IsWord}
use Rattle.kt_journal.specs.Marks.{closed_words, end_words, fault_words, function_name, global_name, local_name, mark_words, place_words, trap_name}
use Rattle.kt_journal.proofs.Identified.{function-named, global-named, local-named}
use Rattle.kt_journal.proofs.Named.{IsProgramIf}
use Rattle.kt_journal.proofs.Numbers.{number-digits, number_in-decimal}

-- ---- tests

two : (a b : Bool) → a ≡ true → b ≡ true → (a && b) ≡ true
two true b h k = k
two false b h k = absurd (false≢true h)

left : (a b : Bool) → a ≡ true → (a || b) ≡ true
left true b h = refl
left false b h = absurd (false≢true h)

right : (a b : Bool) → b ≡ true → (a || b) ≡ true
right true b h = refl
right false b h = h

-- what passes at some place of a list
any-at : {A : Type 0} (p : A → Bool) (xs : List A) (i : ℕ) (x : A) → slice_get xs i ≡ Some x → p x ≡ true → list_any p xs ≡ true
any-at p [] i x is holds = absurd cc
any-at p (y ∷ xs) zero x is holds = let same : y ≡ x = cc in left (p y) (list_any p xs) (ap p same ∙ holds)
any-at p (y ∷ xs) (suc i) x is holds = right (p y) (list_any p xs) (any-at p xs i x is holds)

-- one word more
then-word : (may : List ℕ → Bool) (form : Form) (word : List ℕ) (words : Words) → may word ≡ true → is_of form words ≡ true → is_of (may ∷ form) (word ∷ words) ≡ true
then-word may form word words h k = two (may word) (is_of form words) h k

-- a form behind another
then-form : (form later : Form) (words more : Words) → is_of form words ≡ true → is_of later more ≡ true → is_of (form ++ later) (words ++ more) ≡ true
then-form [] later [] more h k = k
then-form [] later (word ∷ words) more h k = absurd (false≢true h)
then-form (may ∷ form) later [] more h k = absurd (false≢true h)
then-form (may ∷ form) later (word ∷ words) more h k =
    let parts = and_parts (may word) (is_of form words) h in
    then-word may (form ++ later) word (words ++ more) parts.0 (then-form form later words more parts.1 k)

-- ---- words

number-fits : (most n : ℕ) → n < 2 ^ 64 → n ≤ most → is_number_up_to most (decimal n) ≡ true
number-fits most n small h = ap is_some (number_in-decimal most n small h)

any-number : (n : ℕ) → IsWord n → is_number (decimal n) ≡ true
any-number n small = number-fits (2 ^ 64 - 1) n small (omega (arith, small))

thread-fits : (t : ℕ) → t ≤ 64 → is_thread (decimal t) ≡ true
thread-fits t h = number-fits 64 t (omega (arith, h)) h

-- the last word of a line, and the last two
last-number : (n : ℕ) → IsWord n → is_of (is_number ∷ []) (decimal n ∷ []) ≡ true
last-number n small = then-word is_number [] (decimal n) [] (any-number n small) refl

last-thread : (t : ℕ) → t ≤ 64 → is_of (is_thread ∷ []) (decimal t ∷ []) ≡ true
last-thread t h = then-word is_thread [] (decimal t) [] (thread-fits t h) refl

trap-fits : (cause : Trap) → is_trap (trap_name cause) ≡ true
unfolding trap_names
trap-fits trap.Overflow = refl
trap-fits trap.Zero = refl
trap-fits trap.Range = refl
trap-fits trap.Null = refl
trap-fits trap.Dead = refl
trap-fits trap.Bounds = refl
trap-fits trap.Uninit = refl
trap-fits trap.Literal = refl
trap-fits trap.Free = refl
trap-fits trap.Mutex = refl
trap-fits trap.Thread = refl
trap-fits trap.Threads = refl
trap-fits trap.Size = refl
trap-fits trap.Heap = refl
trap-fits trap.Depth = refl
trap-fits trap.Output = refl

last-trap : (cause : Trap) → is_of (is_trap ∷ []) (trap_name cause ∷ []) ≡ true
last-trap cause = then-word is_trap [] (trap_name cause) [] (trap-fits cause) refl

-- ---- what `main` returned

digit-no-sign : (b : ℕ) (c : Bool) → (b == 45) ≡ c → is_ascii_digit b ≡ true → c ≡ false
digit-no-sign b true same digit = let is45 = eqb-true b 45 same in absurd (false≢true (subst (λ n. is_ascii_digit n ≡ true) is45 digit))
digit-no-sign b false same digit = refl

digits-value : (ds : List ℕ) → 0 < length ds → all_ascii_digits ds ≡ true → is_number_up_to (2 ^ 31 - 1) ds ≡ true → is_value ds ≡ true
unfolding is_value
digits-value [] some digits fits = absurd (omega (arith, some))
digits-value (b ∷ ds) some digits fits =
    let parts = and_parts (is_ascii_digit b) (all_ascii_digits ds) digits in
    ap (λ c. if c then is_number_up_to (2 ^ 31) ds && not (is (codes "0") ds) else is_number_up_to (2 ^ 31 - 1) (b ∷ ds)) (digit-no-sign b (b == 45) refl parts.0)
    ∙ fits

no-zero : (ds : List ℕ) → 48 < get_or ds 0 0 → is (codes "0") ds ≡ false
no-zero [] h = refl
no-zero (b ∷ ds) h = by (nat_eq 48 b) refl
  where
    by : (c : Bool) → nat_eq 48 b ≡ c → (c && bytes_eq [] ds) ≡ false
    by true same = absurd (omega (arith, h, eqb-true 48 b same))
    by false same = refl

negative-fits : (n : ℕ) → n < 2 ^ 31 → is_value (45 ∷ decimal (suc n)) ≡ true
unfolding is_value
negative-fits n small =
    two (is_number_up_to (2 ^ 31) (decimal (suc n))) (not (is (codes "0") (decimal (suc n)))) (number-fits (2 ^ 31) (suc n) (omega (arith, small)) (omega (arith, small)))
    (ap not (no-zero (decimal (suc n)) (first_decimal (suc n) (omega arith) (omega (arith, small)))))

value-fits : (z : ℤ) → IsEndKept (end.Main z) → is_value (signed_decimal z) ≡ true
value-fits (pos n) small =
    let fits = number-fits (2 ^ 31 - 1) n (omega (arith, small)) (omega (arith, small)) in
    digits-value (decimal n) (decimal_nonempty n (omega (arith, small))) (number-digits (2 ^ 31 - 1) (decimal n) fits) fits
value-fits (negsuc n) small = negative-fits n small

pub end-formed : (how : End) → IsEndKept how → TellsEnd how → is_end (end_words how) ≡ true
end-formed (end.Main z) kept tells =
    any-at (λ form. is_of form (end_words (end.Main z))) ends 0 (is (codes "end") ∷ is (codes "main") ∷ is_value ∷ []) refl
    (then-word is_value [] (signed_decimal z) [] (value-fits z kept) refl)
end-formed (end.Trap t cause) kept tells =
    any-at (λ form. is_of form (end_words (end.Trap t cause))) ends 1 (is (codes "end") ∷ is (codes "trap") ∷ is_thread ∷ is_trap ∷ []) refl
    (then-word is_thread (is_trap ∷ []) (decimal t) (trap_name cause ∷ []) (thread-fits t tells) (last-trap cause))
end-formed end.Stuck kept tells = refl
end-formed end.Budget kept tells = refl

-- ---- refused closings

-- a refusal of that form, the one of that number
refused-at : (i k : ℕ) (form : Form) (words : Words) → slice_get refusals i ≡ Some (refused form) → IsWord k → is_of form words ≡ true
    → is_of_one refusals (codes "close" ∷ decimal k ∷ codes "refused" ∷ words) ≡ true
refused-at i k form words at small holds =
    any-at (λ f. is_of f (codes "close" ∷ decimal k ∷ codes "refused" ∷ words)) refusals i (refused form) at
    (then-word is_number (is (codes "refused") ∷ form) (decimal k) (codes "refused" ∷ words) (any-number k small) holds)

-- what is wrong at a place of a form; the forms of both kinds of faults there are of these numbers
fault-at : (i j k : ℕ) (w : Why) (form : Form) (words : Words) → slice_get refusals i ≡ Some (refused (is_place_fault ∷ form))
    → slice_get refusals j ≡ Some (refused (is (codes "rule") ∷ (form ++ is_trap ∷ []))) → IsWord k → is_of form words ≡ true
    → is_of_one refusals (codes "close" ∷ decimal k ∷ codes "refused" ∷ fault_words w words) ≡ true
unfolding place_faults
fault-at i j k (why.Rule cause) form words plain ruled small holds =
    refused-at j k (is (codes "rule") ∷ (form ++ is_trap ∷ [])) (fault_words (why.Rule cause) words) ruled small
    (then-form form (is_trap ∷ []) words (trap_name cause ∷ []) holds (last-trap cause))
fault-at i j k why.Interior form words plain ruled small holds =
    refused-at i k (is_place_fault ∷ form) (fault_words why.Interior words) plain small (ap (is_of form) (append-nil words) ∙ holds)
fault-at i j k why.Gone form words plain ruled small holds =
    refused-at i k (is_place_fault ∷ form) (fault_words why.Gone words) plain small (ap (is_of form) (append-nil words) ∙ holds)
fault-at i j k why.Retyped form words plain ruled small holds =
    refused-at i k (is_place_fault ∷ form) (fault_words why.Retyped words) plain small (ap (is_of form) (append-nil words) ∙ holds)
fault-at i j k why.Extent form words plain ruled small holds =
    refused-at i k (is_place_fault ∷ form) (fault_words why.Extent words) plain small (ap (is_of form) (append-nil words) ∙ holds)

place-formed : (new : Option Program) (k : ℕ) (w : Why) (p : Place) → IsProgramIf new → IsWord k → IsPlaceKept p → IsPlaceOf new p
    → is_of_one refusals (codes "close" ∷ decimal k ∷ codes "refused" ∷ fault_words w (place_words new p)) ≡ true
place-formed None k w p program small kept there = absurd there
place-formed (Some q) k w (place.GlobalCell g cell) program small kept there =
    let form = is (codes "g") ∷ is_identifier ∷ is_number ∷ [] in
    fault-at 4 8 k w form (place_words (Some q) (place.GlobalCell g cell)) refl refl small
    (then-word is_identifier (is_number ∷ []) (global_name (Some q) g) (decimal cell ∷ []) (global-named q g program there) (last-number cell kept))
place-formed (Some q) k w (place.Argument t) program small kept there =
    fault-at 5 9 k w (is (codes "a") ∷ is_thread ∷ []) (place_words (Some q) (place.Argument t)) refl refl small (last-thread t there)
place-formed (Some q) k w (place.Local t f x) program small kept there =
    let form = is (codes "l") ∷ is_thread ∷ is_identifier ∷ is_identifier ∷ [] in
    fault-at 6 10 k w form (place_words (Some q) (place.Local t f x)) refl refl small
    (then-word is_thread (is_identifier ∷ is_identifier ∷ []) (decimal t) (function_name (Some q) f ∷ local_name (Some q) f x ∷ []) (thread-fits t there.0)
    (then-word is_identifier (is_identifier ∷ []) (function_name (Some q) f) (local_name (Some q) f x ∷ []) (function-named q f x program there.1)
    (then-word is_identifier [] (local_name (Some q) f x) [] (local-named q f x program there.1) refl)))
place-formed (Some q) k w (place.HeapCell number cell) program small kept there =
    fault-at 7 11 k w (is (codes "h") ∷ is_number ∷ is_number ∷ []) (place_words (Some q) (place.HeapCell number cell)) refl refl small
    (then-word is_number (is_number ∷ []) (decimal number) (decimal cell ∷ []) (any-number number kept.0) (last-number cell kept.1))

-- ---- marks

-- the line of a request, of progress, of a refusal
as-request : (kit : Kit) (words : Words) → is_of (request kit) words ≡ true → is_mark kit words ≡ true
as-request kit words h =
    left (is_of (request kit) words || is_of_one progress words) (is_of_one refusals words) (left (is_of (request kit) words) (is_of_one progress words) h)

as-progress : (kit : Kit) (words : Words) → is_of_one progress words ≡ true → is_mark kit words ≡ true
as-progress kit words h =
    left (is_of (request kit) words || is_of_one progress words) (is_of_one refusals words) (right (is_of (request kit) words) (is_of_one progress words) h)

as-refusal : (kit : Kit) (words : Words) → is_of_one refusals words ≡ true → is_mark kit words ≡ true
as-refusal kit words h = right (is_of (request kit) words || is_of_one progress words) (is_of_one refusals words) h

closing-formed : (kit : Kit) (new : Option Program) (k : ℕ) (c : Closed) → IsProgramIf new → IsWord k → IsClosingKept c → TellsClosing new c
    → is_mark kit (codes "close" ∷ decimal k ∷ closed_words new c) ≡ true
closing-formed kit new k (closed.Ok images) program small kept tells =
    as-progress kit (codes "close" ∷ decimal k ∷ codes "ok" ∷ decimal images ∷ [])
    (any-at (λ form. is_of form (codes "close" ∷ decimal k ∷ codes "ok" ∷ decimal images ∷ [])) progress 0 (is (codes "close") ∷ is_number ∷ is (codes "ok") ∷ is_number ∷ []) refl
    (then-word is_number (is (codes "ok") ∷ is_number ∷ []) (decimal k) (codes "ok" ∷ decimal images ∷ []) (any-number k small) (last-number images kept)))
closing-formed kit new k closed.Held program small kept tells =
    as-refusal kit (codes "close" ∷ decimal k ∷ closed_words new closed.Held) (refused-at 0 k (is (codes "held") ∷ []) (codes "held" ∷ []) refl small refl)
closing-formed kit new k (closed.Point t) program small kept tells =
    as-refusal kit (codes "close" ∷ decimal k ∷ closed_words new (closed.Point t))
    (refused-at 2 k (is (codes "point") ∷ is_thread ∷ []) (codes "point" ∷ decimal t ∷ []) refl small (last-thread t tells))
closing-formed kit new k (closed.Entry t) program small kept tells =
    as-refusal kit (codes "close" ∷ decimal k ∷ closed_words new (closed.Entry t))
    (refused-at 3 k (is (codes "entry") ∷ is_thread ∷ []) (codes "entry" ∷ decimal t ∷ []) refl small (last-thread t tells))
closing-formed kit new k (closed.At fault) program small kept tells =
    as-refusal kit (codes "close" ∷ decimal k ∷ closed_words new (closed.At fault)) (place-formed new k fault.why fault.place program small kept tells)
closing-formed kit new k closed.Size program small kept tells =
    as-refusal kit (codes "close" ∷ decimal k ∷ closed_words new closed.Size) (refused-at 1 k (is (codes "size") ∷ []) (codes "size" ∷ []) refl small refl)

ask-formed : (kit : Kit) (new : Option Program) (turn k woken : ℕ) → IsWord k → woken ≤ 65 → is_mark kit (mark_words kit new (mark.Ask turn k woken)) ≡ true
ask-formed First new turn k woken small few = as-request First (codes "ask" ∷ decimal k ∷ []) (last-number k small)
ask-formed Second new turn k woken small few =
    as-request Second (codes "ask" ∷ decimal k ∷ decimal woken ∷ [])
    (then-word is_number (is_number_up_to 65 ∷ []) (decimal k) (decimal woken ∷ []) (any-number k small)
    (then-word (is_number_up_to 65) [] (decimal woken) [] (number-fits 65 woken (omega (arith, few)) few) refl))

pub mark-formed : (kit : Kit) (new : Option Program) (m : Mark) → IsProgramIf new → IsNoEnd m → IsKept m → TellsOf new m → is_mark kit (mark_words kit new m) ≡ true
mark-formed kit new (mark.Ask turn k woken) program goes kept tells = ask-formed kit new turn k woken kept tells
mark-formed kit new (mark.Close turn k c) program goes kept tells = closing-formed kit new k c program kept.0 kept.1 tells
mark-formed kit new (mark.MainThere turn k) program goes kept tells =
    as-progress kit (codes "main" ∷ decimal k ∷ [])
    (any-at (λ form. is_of form (codes "main" ∷ decimal k ∷ [])) progress 1 (is (codes "main") ∷ is_number ∷ []) refl (last-number k kept))
mark-formed kit new (mark.Back turn k) program goes kept tells =
    as-progress kit (codes "back" ∷ decimal k ∷ [])
    (any-at (λ form. is_of form (codes "back" ∷ decimal k ∷ [])) progress 2 (is (codes "back") ∷ is_number ∷ []) refl (last-number k kept))
mark-formed kit new (mark.End turn how) program goes kept tells = absurd goes
