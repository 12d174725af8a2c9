use Rattle.std.proofs.Common.{map, ap, sym, ◌∙◌, subst}
use Rattle.kt_grammar.specs.Tree.{term_of, terms_of}
use Rattle.kt_names.specs.declared.builtin.Builtin.{Builtin}
use Rattle.kt_names.specs.Checked.{Checked}
use Rattle.kt_names.specs.Operands.{Operand}
use Rattle.kt_names.specs.Judges.{Judges}
use Rattle.kt_names.specs.Views.{environment_of, operand_of}
use Rattle.kt_terms.specs.Specials.{updated_by, updating_by, migrated_by, printed_by, zeroed_by, initialised_by, created_by}
use Rattle.kt_names.specs.Terms.{typing_all, plain_builtin, builtin_call}
use Rattle.kt_terms.proofs.SpecialAnswers.{update-by, updating-by, migrate-by}
use Rattle.kt_terms.proofs.WrittenCalls.{print-by, zero-by, initialise-by, create-by}
use Rattle.kt_terms.proofs.called.builtin_call.Goals as goal

pub returns-in-Free : goal.returns-in-Free
returns-in-Free c h =
    let env = environment_of c.args.env.now in
    let args = terms_of (map term_of c.args.args.now) in
    let values = typing_all env args in
    let P : Builtin → Type 0 = λ b. Judges operand_of c.plain_builtin.result (plain_builtin env c.args.up b values) → Judges operand_of c.plain_builtin.result (builtin_call env c.args.up b values args) in
    subst P (sym c.in-Free.is) (λ x. x) (c.plain_builtin.ensures values h)

pub returns-in-GetChar : goal.returns-in-GetChar
returns-in-GetChar c h =
    let env = environment_of c.args.env.now in
    let args = terms_of (map term_of c.args.args.now) in
    let values = typing_all env args in
    let P : Builtin → Type 0 = λ b. Judges operand_of c.plain_builtin-in-GetChar.result (plain_builtin env c.args.up b values) → Judges operand_of c.plain_builtin-in-GetChar.result (builtin_call env c.args.up b values args) in
    subst P (sym c.in-GetChar.is) (λ x. x) (c.plain_builtin-in-GetChar.ensures values h)

pub returns-in-PutChar : goal.returns-in-PutChar
returns-in-PutChar c h =
    let env = environment_of c.args.env.now in
    let args = terms_of (map term_of c.args.args.now) in
    let values = typing_all env args in
    let P : Builtin → Type 0 = λ b. Judges operand_of c.plain_builtin-in-PutChar.result (plain_builtin env c.args.up b values) → Judges operand_of c.plain_builtin-in-PutChar.result (builtin_call env c.args.up b values args) in
    subst P (sym c.in-PutChar.is) (λ x. x) (c.plain_builtin-in-PutChar.ensures values h)

pub returns-in-Puts : goal.returns-in-Puts
returns-in-Puts c h =
    let env = environment_of c.args.env.now in
    let args = terms_of (map term_of c.args.args.now) in
    let values = typing_all env args in
    let P : Builtin → Type 0 = λ b. Judges operand_of c.plain_builtin-in-Puts.result (plain_builtin env c.args.up b values) → Judges operand_of c.plain_builtin-in-Puts.result (builtin_call env c.args.up b values args) in
    subst P (sym c.in-Puts.is) (λ x. x) (c.plain_builtin-in-Puts.ensures values h)

pub returns-in-Lock : goal.returns-in-Lock
returns-in-Lock c h =
    let env = environment_of c.args.env.now in
    let args = terms_of (map term_of c.args.args.now) in
    let values = typing_all env args in
    let P : Builtin → Type 0 = λ b. Judges operand_of c.plain_builtin-in-Lock.result (plain_builtin env c.args.up b values) → Judges operand_of c.plain_builtin-in-Lock.result (builtin_call env c.args.up b values args) in
    subst P (sym c.in-Lock.is) (λ x. x) (c.plain_builtin-in-Lock.ensures values h)

pub returns-in-Unlock : goal.returns-in-Unlock
returns-in-Unlock c h =
    let env = environment_of c.args.env.now in
    let args = terms_of (map term_of c.args.args.now) in
    let values = typing_all env args in
    let P : Builtin → Type 0 = λ b. Judges operand_of c.plain_builtin-in-Unlock.result (plain_builtin env c.args.up b values) → Judges operand_of c.plain_builtin-in-Unlock.result (builtin_call env c.args.up b values args) in
    subst P (sym c.in-Unlock.is) (λ x. x) (c.plain_builtin-in-Unlock.ensures values h)

pub returns-in-Join : goal.returns-in-Join
returns-in-Join c h =
    let env = environment_of c.args.env.now in
    let args = terms_of (map term_of c.args.args.now) in
    let values = typing_all env args in
    let P : Builtin → Type 0 = λ b. Judges operand_of c.plain_builtin-in-Join.result (plain_builtin env c.args.up b values) → Judges operand_of c.plain_builtin-in-Join.result (builtin_call env c.args.up b values args) in
    subst P (sym c.in-Join.is) (λ x. x) (c.plain_builtin-in-Join.ensures values h)

pub returns-in-IsUpdating : goal.returns-in-IsUpdating
returns-in-IsUpdating c h =
    let env = environment_of c.args.env.now in
    let args = terms_of (map term_of c.args.args.now) in
    let values = typing_all env args in
    let P : Builtin → Type 0 = λ b. Judges operand_of c.plain_builtin-in-IsUpdating.result (plain_builtin env c.args.up b values) → Judges operand_of c.plain_builtin-in-IsUpdating.result (builtin_call env c.args.up b values args) in
    subst P (sym c.in-IsUpdating.is) (λ x. x) (c.plain_builtin-in-IsUpdating.ensures values h)

pub returns-in-Automigrate : goal.returns-in-Automigrate
returns-in-Automigrate c h =
    let env = environment_of c.args.env.now in
    let args = terms_of (map term_of c.args.args.now) in
    let values = typing_all env args in
    let P : Builtin → Type 0 = λ b. Judges operand_of c.plain_builtin-in-Automigrate.result (plain_builtin env c.args.up b values) → Judges operand_of c.plain_builtin-in-Automigrate.result (builtin_call env c.args.up b values args) in
    subst P (sym c.in-Automigrate.is) (λ x. x) (c.plain_builtin-in-Automigrate.ensures values h)

pub returns-in-Update : goal.returns-in-Update
returns-in-Update c h =
    let env = environment_of c.args.env.now in
    let args = terms_of (map term_of c.args.args.now) in
    let values = typing_all env args in
    let P : Checked Operand → Type 0 = λ s. Judges operand_of c.updated_by.result s in
    subst P (ap (updated_by env c.args.up) c.only_spelling.ensures ∙ sym (update-by env c.args.up values args) ∙ ap (λ b. builtin_call env c.args.up b values args) (sym c.in-Update.is)) c.updated_by.ensures

pub returns-in-IsUpdatingFrom : goal.returns-in-IsUpdatingFrom
returns-in-IsUpdatingFrom c h =
    let env = environment_of c.args.env.now in
    let args = terms_of (map term_of c.args.args.now) in
    let values = typing_all env args in
    let P : Checked Operand → Type 0 = λ s. Judges operand_of c.updating_by.result s in
    subst P (ap (updating_by env c.args.up) c.only_spelling-in-IsUpdatingFrom.ensures ∙ sym (updating-by env c.args.up values args) ∙ ap (λ b. builtin_call env c.args.up b values args) (sym c.in-IsUpdatingFrom.is)) c.updating_by.ensures

pub returns-in-MigrateLocal : goal.returns-in-MigrateLocal
returns-in-MigrateLocal c h =
    let env = environment_of c.args.env.now in
    let args = terms_of (map term_of c.args.args.now) in
    let values = typing_all env args in
    let P : Checked Operand → Type 0 = λ s. Judges operand_of c.migrated_by.result s in
    subst P (ap (migrated_by env c.args.up) c.only_spelling-in-MigrateLocal.ensures ∙ sym (migrate-by env c.args.up values args) ∙ ap (λ b. builtin_call env c.args.up b values args) (sym c.in-MigrateLocal.is)) c.migrated_by.ensures

pub returns-in-Calloc : goal.returns-in-Calloc
returns-in-Calloc c h =
    let env = environment_of c.args.env.now in
    let args = terms_of (map term_of c.args.args.now) in
    let values = typing_all env args in
    let P : Checked Operand → Type 0 = λ s. Judges operand_of c.zeroed_by.result s in
    subst P (ap (λ o. zeroed_by env c.args.up o values) c.second_of_two.ensures ∙ sym (zero-by env c.args.up args) ∙ ap (λ b. builtin_call env c.args.up b values args) (sym c.in-Calloc.is)) (c.zeroed_by.ensures values h)

pub returns-in-Printf : goal.returns-in-Printf
returns-in-Printf c h =
    let env = environment_of c.args.env.now in
    let args = terms_of (map term_of c.args.args.now) in
    let values = typing_all env args in
    let P : Checked Operand → Type 0 = λ s. Judges operand_of c.printed_by.result s in
    subst P (ap (λ o. printed_by env c.args.up o values) c.first_spelling.ensures ∙ sym (print-by env c.args.up args) ∙ ap (λ b. builtin_call env c.args.up b values args) (sym c.in-Printf.is)) (c.printed_by.ensures values h)

pub returns-in-InitMutex : goal.returns-in-InitMutex
returns-in-InitMutex c h =
    let env = environment_of c.args.env.now in
    let args = terms_of (map term_of c.args.args.now) in
    let values = typing_all env args in
    let P : Checked Operand → Type 0 = λ s. Judges operand_of c.initialised_by.result s in
    subst P (ap (λ o. initialised_by env c.args.up o values) c.second_of_two-in-InitMutex.ensures ∙ sym (initialise-by env c.args.up args) ∙ ap (λ b. builtin_call env c.args.up b values args) (sym c.in-InitMutex.is)) (c.initialised_by.ensures values h)

pub returns-in-Create : goal.returns-in-Create
returns-in-Create c h =
    let env = environment_of c.args.env.now in
    let args = terms_of (map term_of c.args.args.now) in
    let values = typing_all env args in
    let P : Checked Operand → Type 0 = λ s. Judges operand_of c.created_by.result s in
    subst P (ap (λ o. created_by env c.args.up o values) c.first_of_two.ensures ∙ sym (create-by env c.args.up args) ∙ ap (λ b. builtin_call env c.args.up b values args) (sym c.in-Create.is)) (c.created_by.ensures values h)
