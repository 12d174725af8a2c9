-- Orders that the same words give.
use Rattle.std.proofs.Common.{◌≡◌, ℕ, List, Some, Option, length, subst, ap, sym, ◌∙◌, replicate, codes}
use Rattle.kt_words.specs.Form.{Gives}
use Rattle.kt_words.specs.Orders.{IsOrderOf, HasNoOrder, Says, said, numbers_of, updates_of, values_of}
use Rattle.kt_words.specs.Reading.{HasNoSense, HasNoForm}
use Rattle.kt_words.specs.declared.order.Order.{Order}
use Rattle.kt_words.specs.declared.order.Program.{Program}
use Rattle.kt_words.proofs.Continuing.{one_form}

one_value : {A : Type 0} (o : Option A) (x y : A) → o ≡ Some x → o ≡ Some y → x ≡ y
one_value o x y h k = let both : Some x ≡ Some y = sym h ∙ k in cc

-- values and files say one order
pub one_sense : (values : List (List ℕ × List ℕ)) (files : List (List ℕ)) (a b : Order) → Says values files a → Says values files b → a ≡ b
one_sense values files a b h k =
    let job : a.job ≡ b.job = one_value _ a.job b.job h.job k.job in
    let budget : a.budget ≡ b.budget = one_value _ a.budget b.budget h.budget k.budget in
    let workers : a.workers ≡ b.workers = one_value _ a.workers b.workers h.workers k.workers in
    let schedule : a.schedule ≡ b.schedule = one_value _ a.schedule b.schedule h.schedule k.schedule in
    let names : a.files ≡ b.files = h.names ∙ sym k.names in
    let default : said (replicate (updates_of a.job (length files)) 0) numbers_of (values_of (codes "--after") values) ≡ said (replicate (updates_of b.job (length files)) 0) numbers_of (values_of (codes "--after") values) =
    ap (λ j. said (replicate (updates_of j (length files)) 0) numbers_of (values_of (codes "--after") values)) job
    in
    let after : a.after ≡ b.after = one_value _ a.after b.after h.after (default ∙ k.after) in
    ap (λ x. record a { after = x }) after ∙ ap (λ x. record a { after = b.after; budget = x }) budget ∙ ap (λ x. record b { workers = x; schedule = a.schedule; job = a.job; files = a.files }) workers
    ∙ ap (λ x. record b { schedule = x; job = a.job; files = a.files }) schedule ∙ ap (λ x. record b { job = x; files = a.files }) job ∙ ap (λ x. record b { files = x }) names

pub same_sense : (program : Program) (words : List (List ℕ)) (v w : List (List ℕ × List ℕ)) (f g : List (List ℕ)) (order : Order) → Gives program words v f → Gives program words w g → Says w g order → Says v f order
same_sense program words v w f g order a b says =
    let one = one_form program words w v g f b a in
    subst (λ x. Says x f order) one.0 (subst (λ x. Says w x order) one.1 says)

pub one_order : (program : Program) (words : List (List ℕ)) (a b : Order) → IsOrderOf program words a → IsOrderOf program words b → a ≡ b
one_order program words a b h k = one_sense h.values h.files a b h.says (same_sense program words h.values k.values h.files k.files b h.given k.given k.says)

pub no_sense : (program : Program) (words : List (List ℕ)) (v : List (List ℕ × List ℕ)) (f : List (List ℕ)) → Gives program words v f → HasNoSense v f → HasNoOrder program words
no_sense program words v f given none order h = none order (same_sense program words v h.values f h.files order given h.given h.says)

pub no_form : (program : Program) (words : List (List ℕ)) → HasNoForm program words → HasNoOrder program words
no_form program words none order h = none h.values h.files h.given
