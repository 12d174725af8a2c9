-- How a list of words goes on behind its first entry.
use Rattle.std.proofs.Common.{◌-◌, ◌≤◌, length, take, drop, get_or, arith, string_bytes, String, Global, ◌≡◌, ℕ, true, List, [], ◌∷◌, ◌++◌, Option, Some, None, refl, ap, sym, subst, ◌∙◌, append_assoc, append-nil, codes}
use Rattle.std.specs.List.{AllByRecursion}
use Rattle.std.proofs.Math.Seq.{take-length}
use Rattle.kt_words.specs.Form.{texts, Entry, Joined, Apart, File, IsFormed, IsName, IsValue, Gives, is_option, spelling, words_of, names_behind, values_in, files_in}
use Rattle.kt_words.specs.Reading.{first_word, BeginsNothing, Continues, GoesOn, Grows, HasNoForm}
use Rattle.kt_words.specs.declared.order.Program.{Program}
use Rattle.kt_words.proofs.Keys.{WithValue, Alone, Plain, key_of, key-first, key-option, first-end, option-end}

-- the words behind the first word of an entry
abbrev pub behind_first : Entry → List (List ℕ) → List (List ℕ)
behind_first (Joined name value) rest = rest
behind_first (Apart name value) rest = value ∷ rest
behind_first (File name) rest = rest

begins : (entry : Entry) (rest : List (List ℕ)) → spelling entry ++ rest ≡ first_word entry ∷ behind_first entry rest
begins (Joined name value) rest = refl
begins (Apart name value) rest = refl
begins (File name) rest = refl

-- two entries that begin the same words are one
one_front : (program : Program) (e d : Entry) (r s : List (List ℕ)) → IsFormed program e → IsFormed program d → spelling e ++ r ≡ spelling d ++ s → (e ≡ d) × (r ≡ s)
one_front program (Joined n v) (Joined m w) r s f g h =
    let words : (n ++ 61 ∷ v) ≡ (m ++ 61 ∷ w) = cc in
    let keys : WithValue n v ≡ WithValue m w = sym (key-first program (Joined n v) f) ∙ ap key_of words ∙ key-first program (Joined m w) g in
    (cc, cc)
one_front program (Joined n v) (Apart m w) r s f g h =
    let words : (n ++ 61 ∷ v) ≡ m = cc in
    let keys : WithValue n v ≡ Alone m = sym (key-first program (Joined n v) f) ∙ ap key_of words ∙ key-first program (Apart m w) g in
    cc
one_front program (Joined n v) (File m) r s f g h =
    let words : (n ++ 61 ∷ v) ≡ m = cc in
    let keys : WithValue n v ≡ Plain = sym (key-first program (Joined n v) f) ∙ ap key_of words ∙ key-first program (File m) g in
    cc
one_front program (Apart n v) (Joined m w) r s f g h =
    let words : n ≡ (m ++ 61 ∷ w) = cc in
    let keys : Alone n ≡ WithValue m w = sym (key-first program (Apart n v) f) ∙ ap key_of words ∙ key-first program (Joined m w) g in
    cc
one_front program (Apart n v) (Apart m w) r s f g h = (cc, cc)
one_front program (Apart n v) (File m) r s f g h =
    let words : n ≡ m = cc in
    let keys : Alone n ≡ Plain = sym (key-first program (Apart n v) f) ∙ ap key_of words ∙ key-first program (File m) g in
    cc
one_front program (File n) (Joined m w) r s f g h =
    let words : n ≡ (m ++ 61 ∷ w) = cc in
    let keys : Plain ≡ WithValue m w = sym (key-first program (File n) f) ∙ ap key_of words ∙ key-first program (Joined m w) g in
    cc
one_front program (File n) (Apart m w) r s f g h =
    let words : n ≡ m = cc in
    let keys : Plain ≡ Alone m = sym (key-first program (File n) f) ∙ ap key_of words ∙ key-first program (Apart m w) g in
    cc
one_front program (File n) (File m) r s f g h = (cc, cc)

values-front : (e : Entry) (es : List Entry) (v : List (List ℕ × List ℕ)) → v ≡ values_in es → values_in (e ∷ []) ++ v ≡ values_in (e ∷ es)
values-front (Joined n w) es v h = ap (λ vs. (n, w) ∷ vs) h
values-front (Apart n w) es v h = ap (λ vs. (n, w) ∷ vs) h
values-front (File n) es v h = h

files-front : (e : Entry) (es : List Entry) (names f : List (List ℕ)) → f ≡ files_in es ++ names → files_in (e ∷ []) ++ f ≡ files_in (e ∷ es) ++ names
files-front (Joined n w) es names f h = h
files-front (Apart n w) es names f h = h
files-front (File n) es names f h = ap (λ fs. n ∷ fs) h

behind_entry : (program : Program) (e : Entry) (rest : List (List ℕ)) (v : List (List ℕ × List ℕ)) (f : List (List ℕ)) → IsFormed program e
    → (es : List Entry) (behind : Option (List (List ℕ))) → spelling e ++ rest ≡ words_of es behind → AllByRecursion (IsFormed program) es → AllByRecursion IsName (names_behind behind)
    → v ≡ values_in es → f ≡ files_in es ++ names_behind behind → GoesOn program (values_in (e ∷ [])) (files_in (e ∷ [])) v f rest
behind_entry program e rest v f formed [] None h all named vs fs =
    let words : first_word e ∷ behind_first e rest ≡ [] = sym (begins e rest) ∙ h in
    absurd (cc)
behind_entry program e rest v f formed [] (Some names) h all named vs fs =
    let words : first_word e ∷ behind_first e rest ≡ codes "--" ∷ names = sym (begins e rest) ∙ h in
    let first : first_word e ≡ codes "--" = cc in
    absurd (first-end program e formed first)
behind_entry program e rest v f formed (d ∷ es) behind h all named vs fs =
    let one = one_front program e d rest (words_of es behind) formed all.0 h in
    record {
      later_values = values_in es;
      later_files = files_in es ++ names_behind behind;
      given = record { entries = es; behind = behind; spelled = one.1; formed = all.1; named = named; values_are = refl; files_are = refl };
      values_are = vs ∙ sym (values-front d es (values_in es) refl) ∙ ap (λ x. values_in (x ∷ []) ++ values_in es) (sym one.0);
      files_are = fs ∙ sym (files-front d es (names_behind behind) (files_in es ++ names_behind behind) refl) ∙ ap (λ x. files_in (x ∷ []) ++ (files_in es ++ names_behind behind)) (sym one.0);
    }

pub continues-entry : (program : Program) (e : Entry) (rest : List (List ℕ)) → IsFormed program e → Continues program (spelling e ++ rest) (values_in (e ∷ [])) (files_in (e ∷ [])) rest
continues-entry program e rest formed = record {
  sound = λ v f g. record {
    entries = e ∷ g.entries;
    behind = g.behind;
    spelled = ap (λ words. spelling e ++ words) g.spelled;
    formed = (formed, g.formed);
    named = g.named;
    values_are = values-front e g.entries v g.values_are;
    files_are = files-front e g.entries (names_behind g.behind) f g.files_are;
  };
  complete = λ v f g. behind_entry program e rest v f formed g.entries g.behind g.spelled g.formed g.named g.values_are g.files_are;
}

-- no words give nothing
pub nothing : (program : Program) → Gives program [] [] []
nothing program = record { entries = []; behind = None; spelled = refl; formed = tt; named = tt; values_are = refl; files_are = refl }

nothing-parts : (program : Program) (v : List (List ℕ × List ℕ)) (f : List (List ℕ)) (es : List Entry) (behind : Option (List (List ℕ))) → [] ≡ words_of es behind
    → v ≡ values_in es → f ≡ files_in es ++ names_behind behind → (v ≡ []) × (f ≡ [])
nothing-parts program v f [] None h vs fs = (vs, fs)
nothing-parts program v f [] (Some names) h vs fs = absurd (cc)
nothing-parts program v f (e ∷ es) behind h vs fs =
    let words : [] ≡ first_word e ∷ behind_first e (words_of es behind) = h ∙ begins e (words_of es behind) in
    absurd (cc)

pub nothing-is : (program : Program) (v : List (List ℕ × List ℕ)) (f : List (List ℕ)) → Gives program [] v f → (v ≡ []) × (f ≡ [])
nothing-is program v f g = nothing-parts program v f g.entries g.behind g.spelled g.values_are g.files_are

behind_end : (program : Program) (names : List (List ℕ)) (v : List (List ℕ × List ℕ)) (f : List (List ℕ))
    → (es : List Entry) (behind : Option (List (List ℕ))) → codes "--" ∷ names ≡ words_of es behind → AllByRecursion (IsFormed program) es → AllByRecursion IsName (names_behind behind)
    → v ≡ values_in es → f ≡ files_in es ++ names_behind behind → (v ≡ []) × (f ≡ names) × AllByRecursion IsName names
behind_end program names v f [] None h all named vs fs = absurd (cc)
behind_end program names v f [] (Some others) h all named vs fs =
    let same : others ≡ names = cc in
    (vs, fs ∙ same, subst (AllByRecursion IsName) same named)
behind_end program names v f (e ∷ es) behind h all named vs fs =
    let words : codes "--" ∷ names ≡ first_word e ∷ behind_first e (words_of es behind) = h ∙ begins e (words_of es behind) in
    let first : first_word e ≡ codes "--" = cc in
    absurd (first-end program e all.0 first)

end-parts : (program : Program) (names : List (List ℕ)) (v : List (List ℕ × List ℕ)) (f : List (List ℕ)) → Gives program (codes "--" ∷ names) v f → (v ≡ []) × (f ≡ names) × AllByRecursion IsName names
end-parts program names v f g = behind_end program names v f g.entries g.behind g.spelled g.formed g.named g.values_are g.files_are

pub continues-end : (program : Program) (names : List (List ℕ)) → AllByRecursion IsName names → Continues program (codes "--" ∷ names) [] names []
continues-end program names named = record {
  sound = λ v f g.
      let none = nothing-is program v f g in
      record {
        entries = [];
        behind = Some names;
        spelled = refl;
        formed = tt;
        named = named;
        values_are = none.0;
        files_are = ap (λ rest. names ++ rest) none.1 ∙ append-nil names;
      };
  complete = λ v f g.
      let parts = end-parts program names v f g in
      record {
        later_values = [];
        later_files = [];
        given = nothing program;
        values_are = parts.0;
        files_are = parts.1 ∙ sym (append-nil names);
      };
}

pub continues-here : (program : Program) (words : List (List ℕ)) → Continues program words [] [] words
continues-here program words = record {
  sound = λ v f g. g;
  complete = λ v f g. record { later_values = v; later_files = f; given = g; values_are = refl; files_are = refl };
}

regroup : (program : Program) (words : List (List ℕ)) (v w x : List (List ℕ × List ℕ)) (f g y : List (List ℕ)) → Gives program words (v ++ (w ++ x)) (f ++ (g ++ y)) → Gives program words ((v ++ w) ++ x) ((f ++ g) ++ y)
regroup program words v w x f g y given = record {
  entries = given.entries;
  behind = given.behind;
  spelled = given.spelled;
  formed = given.formed;
  named = given.named;
  values_are = append_assoc v w x ∙ given.values_are;
  files_are = append_assoc f g y ∙ given.files_are;
}

pub continues-on : (program : Program) (words between rest : List (List ℕ)) (v w : List (List ℕ × List ℕ)) (f g : List (List ℕ))
    → Continues program words v f between → Continues program between w g rest → Continues program words (v ++ w) (f ++ g) rest
continues-on program words between rest v w f g a b = record {
  sound = λ x y given. regroup program words v w x f g y (a.sound (w ++ x) (g ++ y) (b.sound x y given));
  complete = λ x y given.
      let first = a.complete x y given in
      let second = b.complete first.later_values first.later_files first.given in
      record {
        later_values = second.later_values;
        later_files = second.later_files;
        given = second.given;
        values_are = first.values_are ∙ ap (λ l. v ++ l) second.values_are ∙ sym (append_assoc v w second.later_values);
        files_are = first.files_are ∙ ap (λ l. f ++ l) second.files_are ∙ sym (append_assoc f g second.later_files);
      };
}

-- a word that begins nothing
other-parts : (program : Program) (word : List ℕ) (more : List (List ℕ)) → BeginsNothing program word
    → (es : List Entry) (behind : Option (List (List ℕ))) → word ∷ more ≡ words_of es behind → AllByRecursion (IsFormed program) es → ⊥
other-parts program word more none_here [] None h all = cc
other-parts program word more none_here [] (Some names) h all = none_here.no_end (cc)
other-parts program word more none_here (e ∷ es) behind h all =
    let words : word ∷ more ≡ first_word e ∷ behind_first e (words_of es behind) = h ∙ begins e (words_of es behind) in
    let first : first_word e ≡ word = cc in
    none_here.no_entry e all.0 first

pub other-no-form : (program : Program) (word : List ℕ) (more : List (List ℕ)) → BeginsNothing program word → HasNoForm program (word ∷ more)
other-no-form program word more none_here v f g = other-parts program word more none_here g.entries g.behind g.spelled g.formed

-- an option without a value
alone-parts : (program : Program) (name : List ℕ) (more : List (List ℕ)) → is_option program name ≡ true → ((value : List ℕ) (rest : List (List ℕ)) → more ≡ value ∷ rest → IsValue value → ⊥)
    → (es : List Entry) (behind : Option (List (List ℕ))) → name ∷ more ≡ words_of es behind → AllByRecursion (IsFormed program) es → ⊥
alone-parts program name more known none_here [] None h all = cc
alone-parts program name more known none_here [] (Some names) h all = option-end program name known (cc)
alone-parts program name more known none_here (Joined n v ∷ es) behind h all =
    let words : name ≡ n ++ 61 ∷ v = cc in
    let keys : Alone name ≡ WithValue n v = sym (key-option program name known) ∙ ap key_of words ∙ key-first program (Joined n v) all.0 in
    cc
alone-parts program name more known none_here (Apart n v ∷ es) behind h all =
    let words : more ≡ v ∷ words_of es behind = cc in
    none_here v (words_of es behind) words all.0.1
alone-parts program name more known none_here (File n ∷ es) behind h all =
    let words : name ≡ n = cc in
    let keys : Alone name ≡ Plain = sym (key-option program name known) ∙ ap key_of words ∙ key-first program (File n) all.0 in
    cc

pub alone-no-form : (program : Program) (name : List ℕ) (more : List (List ℕ)) → is_option program name ≡ true → ((value : List ℕ) (rest : List (List ℕ)) → more ≡ value ∷ rest → IsValue value → ⊥) → HasNoForm program (name ∷ more)
alone-no-form program name more known none_here v f g = alone-parts program name more known none_here g.entries g.behind g.spelled g.formed

pub end-no-form : (program : Program) (names : List (List ℕ)) → (AllByRecursion IsName names → ⊥) → HasNoForm program (codes "--" ∷ names)
end-no-form program names none_here v f g = none_here (end-parts program names v f g).2

-- words of one form go on to nothing
whole_form : (program : Program) (es : List Entry) (behind : Option (List (List ℕ))) → AllByRecursion (IsFormed program) es → AllByRecursion IsName (names_behind behind)
    → (v : List (List ℕ × List ℕ)) × (f : List (List ℕ)) × Continues program (words_of es behind) v f [] × (v ≡ values_in es) × (f ≡ files_in es ++ names_behind behind)
whole_form program [] None all named = ([], [], continues-here program [], refl, refl)
whole_form program [] (Some names) all named = ([], names, continues-end program names named, refl, refl)
whole_form program (e ∷ es) behind all named =
    let rest = whole_form program es behind all.1 named in (
      values_in (e ∷ []) ++ rest.0,
      files_in (e ∷ []) ++ rest.1,
      continues-on program (words_of (e ∷ es) behind) (words_of es behind) [] (values_in (e ∷ [])) rest.0 (files_in (e ∷ [])) rest.1 (continues-entry program e (words_of es behind) all.0) rest.2,
      values-front e es rest.0 rest.3,
      files-front e es (names_behind behind) rest.1 rest.4,
    )

-- words give one list of values and one of files
pub one_form : (program : Program) (words : List (List ℕ)) (v w : List (List ℕ × List ℕ)) (f g : List (List ℕ)) → Gives program words v f → Gives program words w g → (v ≡ w) × (f ≡ g)
one_form program words v w f g a b =
    let whole = whole_form program a.entries a.behind a.formed a.named in
    let on = (subst (λ l. Continues program l whole.0 whole.1 []) (sym a.spelled) whole.2).complete w g b in
    let none = nothing-is program on.later_values on.later_files on.given in (
      a.values_are ∙ sym whole.3 ∙ sym (append-nil whole.0) ∙ ap (λ l. whole.0 ++ l) (sym none.0) ∙ sym on.values_are,
      a.files_are ∙ sym whole.4 ∙ sym (append-nil whole.1) ∙ ap (λ l. whole.1 ++ l) (sym none.1) ∙ sym on.files_are,
    )

pub grows-joined : (program : Program) (word : List ℕ) (more : List (List ℕ)) (old new : List (List ℕ × List ℕ)) (files : List (List ℕ)) (name value : List ℕ)
    → word ≡ name ++ 61 ∷ value → IsFormed program (Joined name value) → new ≡ old ++ (name, value) ∷ [] → Grows program (word ∷ more) old files new files more
grows-joined program word more old new files name value e formed h = record {
  values = (name, value) ∷ [];
  files = [];
  continues = subst (λ w. Continues program (w ∷ more) ((name, value) ∷ []) [] more) (sym e) (continues-entry program (Joined name value) more formed);
  values_are = h;
  files_are = sym (append-nil files);
}

pub grows-apart : (program : Program) (word : List ℕ) (more rest : List (List ℕ)) (old new : List (List ℕ × List ℕ)) (files : List (List ℕ)) (value : List ℕ)
    → is_option program word ≡ true → more ≡ value ∷ rest → IsValue value → new ≡ old ++ (word, value) ∷ [] → Grows program (word ∷ more) old files new files rest
grows-apart program word more rest old new files value known e valid h = record {
  values = (word, value) ∷ [];
  files = [];
  continues = subst (λ m. Continues program (word ∷ m) ((word, value) ∷ []) [] rest) (sym e) (continues-entry program (Apart word value) rest (known, valid));
  values_are = h;
  files_are = sym (append-nil files);
}

pub grows-file : (program : Program) (word : List ℕ) (more : List (List ℕ)) (values : List (List ℕ × List ℕ)) (old new : List (List ℕ))
    → IsFormed program (File word) → new ≡ old ++ word ∷ [] → Grows program (word ∷ more) values old values new more
grows-file program word more values old new formed h = record {
  values = [];
  files = word ∷ [];
  continues = continues-entry program (File word) more formed;
  values_are = sym (append-nil values);
  files_are = h;
}

pub grows-end : (program : Program) (word : List ℕ) (more : List (List ℕ)) (values : List (List ℕ × List ℕ)) (old new : List (List ℕ))
    → word ≡ codes "--" → AllByRecursion IsName more → new ≡ old ++ more → Grows program (word ∷ more) values old values new []
grows-end program word more values old new e named h = record {
  values = [];
  files = more;
  continues = subst (λ w. Continues program (w ∷ more) [] more []) (sym e) (continues-end program more named);
  values_are = sym (append-nil values);
  files_are = h;
}

-- words that a step takes, behind others
pub grows-on : (program : Program) (words between rest : List (List ℕ)) (old_values new_values : List (List ℕ × List ℕ)) (old_files new_files : List (List ℕ))
    → Continues program words old_values old_files between → Grows program between old_values old_files new_values new_files rest → Continues program words new_values new_files rest
grows-on program words between rest old_values new_values old_files new_files before step =
    let whole = continues-on program words between rest old_values step.values old_files step.files before step.continues in
    let values = subst (λ v. Continues program words v (old_files ++ step.files) rest) (sym step.values_are) whole in
    subst (λ f. Continues program words new_values f rest) (sym step.files_are) values

-- a list of words that has a first one
pub texts-front : (words : List (String Global)) (word : String Global) → word ≡ get_or words 0 word → 1 ≤ length words → texts words ≡ string_bytes word ∷ texts (take (length words - 1) (drop 1 words))
texts-front [] word e h = absurd (omega arith)
texts-front (first ∷ words) word e h =
    let rest : length (first ∷ words) - 1 ≡ length words = omega arith in
    ap (λ w. string_bytes w ∷ texts words) (sym e)
    ∙ ap (λ behind. string_bytes word ∷ texts behind) (sym (ap (λ n. take n words) rest ∙ take-length words))

-- no words are left
pub whole : (program : Program) (words rest : List (List ℕ)) (v : List (List ℕ × List ℕ)) (f : List (List ℕ)) → Continues program words v f rest → rest ≡ [] → Gives program words v f
whole program words rest v f on none =
    let all = on.sound [] [] (subst (λ l. Gives program l [] []) (sym none) (nothing program)) in
    subst (λ x. Gives program words v x) (append-nil f) (subst (λ x. Gives program words x (f ++ [])) (append-nil v) all)

-- what is left has no form
pub unformed : (program : Program) (words rest : List (List ℕ)) (v : List (List ℕ × List ℕ)) (f : List (List ℕ)) → Continues program words v f rest → HasNoForm program rest → HasNoForm program words
unformed program words rest v f on none x y given =
    let left = on.complete x y given in
    none left.later_values left.later_files left.given
