-- How the loops over acts and rules read a list.
use Rattle.std.proofs.Common.{◌≡◌, ℕ, ◌<◌, false, List, [], ◌∷◌, ◌++◌, length, map, Ok, Option, sym, subst}
use Rattle.std.proofs.lemmas.List.{map-append}
use Rattle.kt_grammar.specs.declared.fault.Fault.{Fault}
use Rattle.kt_grammar.specs.declared.sign.Sign.TheVariants as signs
use Rattle.kt_grammar.specs.declared.symbol.Symbol.{Symbol}
use Rattle.kt_grammar.specs.Cursor.{Outcome, Fails, begins_sign, until_at}
use Rattle.kt_grammar.specs.Lists.{is_end}
use Rattle.kt_grammar.proofs.ListLoops.{IsUnderWay, until_more, until_fails}
use Rattle.xf_syntax.specs.declared.tree.Act.{Act}
use Rattle.xf_syntax.specs.declared.tree.RuleItem.{RuleItem}
use Rattle.xf_syntax.specs.Tree.{Action, Rule, action_of, rule_of}
use Rattle.xf_syntax.specs.Reading.{Blocks, act_at, acts_at, rule_at, rules_at}
use Rattle.xf_syntax.proofs.Ends.{act-end, rule-end, nothing_left}

-- acts that are done, and the symbols that are left, where this is to be read
abbrev pub ActsUnderWay : ℕ → Option Blocks → Outcome (List Action) → List Act → List Symbol → Type 0
ActsUnderWay n b whole done rest = IsUnderWay (until_at (begins_sign signs.CloseBrace) (act_at n b)) whole (map action_of done) rest

pub acts_more : (n : ℕ) (b : Option Blocks) (whole : Outcome (List Action)) (done : List Act) (rest : List Symbol) (x : Act) (after : List Symbol)
    → ActsUnderWay n b whole done rest → begins_sign signs.CloseBrace rest ≡ false → act_at n b rest ≡ Ok (action_of x, after) → length after < length rest
    → ActsUnderWay n b whole (done ++ x ∷ []) after
acts_more n b whole done rest x after so_far goes_on read shorter =
    subst (λ (xs : List Action). IsUnderWay (until_at (begins_sign signs.CloseBrace) (act_at n b)) whole xs after) (sym (map-append action_of done (x ∷ [])))
    (until_more (begins_sign signs.CloseBrace) (act_at n b) whole (map action_of done) rest (action_of x) after so_far goes_on read shorter)

pub acts_fails : (n : ℕ) (b : Option Blocks) (symbols : List Symbol) (done : List Act) (rest : List Symbol) (e : Fault)
    → ActsUnderWay n b (until_at (begins_sign signs.CloseBrace) (act_at n b) (length symbols) [] symbols) done rest → begins_sign signs.CloseBrace rest ≡ false → Fails e (act_at n b rest)
    → Fails e (acts_at n b symbols)
unfolding acts_at
acts_fails n b symbols done rest e so_far goes_on fails =
    until_fails (begins_sign signs.CloseBrace) (act_at n b) (until_at (begins_sign signs.CloseBrace) (act_at n b) (length symbols) [] symbols) (map action_of done) rest e (act-end n b) so_far goes_on fails

-- rules that are done, and the symbols that are left
abbrev pub RulesUnderWay : ℕ → Outcome (List Rule) → List RuleItem → List Symbol → Type 0
RulesUnderWay n whole done rest = IsUnderWay (until_at is_end (rule_at n)) whole (map rule_of done) rest

pub rules_more : (n : ℕ) (whole : Outcome (List Rule)) (done : List RuleItem) (rest : List Symbol) (x : RuleItem) (after : List Symbol)
    → RulesUnderWay n whole done rest → is_end rest ≡ false → rule_at n rest ≡ Ok (rule_of x, after) → length after < length rest
    → RulesUnderWay n whole (done ++ x ∷ []) after
rules_more n whole done rest x after so_far goes_on read shorter =
    subst (λ (xs : List Rule). IsUnderWay (until_at is_end (rule_at n)) whole xs after) (sym (map-append rule_of done (x ∷ [])))
    (until_more is_end (rule_at n) whole (map rule_of done) rest (rule_of x) after so_far goes_on read shorter)

pub rules_fail : (n : ℕ) (symbols : List Symbol) (done : List RuleItem) (rest : List Symbol) (e : Fault)
    → RulesUnderWay n (until_at is_end (rule_at n) (length symbols) [] symbols) done rest → is_end rest ≡ false → Fails e (rule_at n rest) → Fails e (rules_at n symbols)
unfolding rules_at
rules_fail n symbols done rest e so_far goes_on fails =
    until_fails is_end (rule_at n) (until_at is_end (rule_at n) (length symbols) [] symbols) (map rule_of done) rest e (rule-end n) so_far goes_on fails

pub ruleset rule_loop = (rules_fail, nothing_left)
