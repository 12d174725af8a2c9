use Rattle.std.proofs.Common.{ℕ, List, Bor}
use Rattle.std.specs.Option.{option_map}
use Rattle.kt_grammar.specs.declared.tree.Name.{Name}
use Rattle.kt_typing.specs.declared.builtin.Builtin.TheVariants as builtin
use Rattle.kt_typing.specs.Calls.{behind_word, with_entry}
use Rattle.kt_operands.specs.Views.{environment_of}
use Rattle.kt_calls.proofs.Calls.{called-by}
use Rattle.kt_calls.proofs.call.builtin_called.Goals as goal

pub returns-in-Malloc : goal.returns-in-Malloc
returns-in-Malloc c =
    let env = environment_of c.args.env.now in
    let text = option_map (λ (t : Bor (List ℕ)). t.now) c.args.text in
    let name = option_map (λ (n : Bor Name). n.now) c.args.name in
    called-by env c.args.at c.args.count text name c.args.arguments c.counted.result c.args.builtin builtin.Malloc c.in-Malloc.is c.counted.ensures

pub returns-in-Calloc : goal.returns-in-Calloc
returns-in-Calloc c =
    let env = environment_of c.args.env.now in
    let text = option_map (λ (t : Bor (List ℕ)). t.now) c.args.text in
    let name = option_map (λ (n : Bor Name). n.now) c.args.name in
    called-by env c.args.at c.args.count text name c.args.arguments c.counted-in-Calloc.result c.args.builtin builtin.Calloc c.in-Calloc.is c.counted-in-Calloc.ensures

pub returns-in-Free : goal.returns-in-Free
returns-in-Free c =
    let env = environment_of c.args.env.now in
    let text = option_map (λ (t : Bor (List ℕ)). t.now) c.args.text in
    let name = option_map (λ (n : Bor Name). n.now) c.args.name in
    called-by env c.args.at c.args.count text name c.args.arguments c.counted-in-Free.result c.args.builtin builtin.Free c.in-Free.is c.counted-in-Free.ensures

pub returns-in-GetChar : goal.returns-in-GetChar
returns-in-GetChar c =
    let env = environment_of c.args.env.now in
    let text = option_map (λ (t : Bor (List ℕ)). t.now) c.args.text in
    let name = option_map (λ (n : Bor Name). n.now) c.args.name in
    called-by env c.args.at c.args.count text name c.args.arguments c.counted-in-GetChar.result c.args.builtin builtin.GetChar c.in-GetChar.is c.counted-in-GetChar.ensures

pub returns-in-PutChar : goal.returns-in-PutChar
returns-in-PutChar c =
    let env = environment_of c.args.env.now in
    let text = option_map (λ (t : Bor (List ℕ)). t.now) c.args.text in
    let name = option_map (λ (n : Bor Name). n.now) c.args.name in
    called-by env c.args.at c.args.count text name c.args.arguments c.counted-in-PutChar.result c.args.builtin builtin.PutChar c.in-PutChar.is c.counted-in-PutChar.ensures

pub returns-in-Puts : goal.returns-in-Puts
returns-in-Puts c =
    let env = environment_of c.args.env.now in
    let text = option_map (λ (t : Bor (List ℕ)). t.now) c.args.text in
    let name = option_map (λ (n : Bor Name). n.now) c.args.name in
    called-by env c.args.at c.args.count text name c.args.arguments c.counted-in-Puts.result c.args.builtin builtin.Puts c.in-Puts.is c.counted-in-Puts.ensures

pub returns-in-Printf : goal.returns-in-Printf
returns-in-Printf c =
    let env = environment_of c.args.env.now in
    let text = option_map (λ (t : Bor (List ℕ)). t.now) c.args.text in
    let name = option_map (λ (n : Bor Name). n.now) c.args.name in
    called-by env c.args.at c.args.count text name c.args.arguments c.print_form.result c.args.builtin builtin.Printf c.in-Printf.is c.print_form.ensures

pub returns-in-Lock : goal.returns-in-Lock
returns-in-Lock c =
    let env = environment_of c.args.env.now in
    let text = option_map (λ (t : Bor (List ℕ)). t.now) c.args.text in
    let name = option_map (λ (n : Bor Name). n.now) c.args.name in
    called-by env c.args.at c.args.count text name c.args.arguments c.counted-in-Lock.result c.args.builtin builtin.Lock c.in-Lock.is c.counted-in-Lock.ensures

pub returns-in-Unlock : goal.returns-in-Unlock
returns-in-Unlock c =
    let env = environment_of c.args.env.now in
    let text = option_map (λ (t : Bor (List ℕ)). t.now) c.args.text in
    let name = option_map (λ (n : Bor Name). n.now) c.args.name in
    called-by env c.args.at c.args.count text name c.args.arguments c.counted-in-Unlock.result c.args.builtin builtin.Unlock c.in-Unlock.is c.counted-in-Unlock.ensures

pub returns-in-InitMutex : goal.returns-in-InitMutex
returns-in-InitMutex c =
    let env = environment_of c.args.env.now in
    let text = option_map (λ (t : Bor (List ℕ)). t.now) c.args.text in
    let name = option_map (λ (n : Bor Name). n.now) c.args.name in
    called-by env c.args.at c.args.count text name c.args.arguments c.counted-in-InitMutex.result c.args.builtin builtin.InitMutex c.in-InitMutex.is c.counted-in-InitMutex.ensures

pub returns-in-Create : goal.returns-in-Create
returns-in-Create c =
    let env = environment_of c.args.env.now in
    let text = option_map (λ (t : Bor (List ℕ)). t.now) c.args.text in
    let name = option_map (λ (n : Bor Name). n.now) c.args.name in
    called-by env c.args.at c.args.count text name c.args.arguments c.counted-in-Create.result c.args.builtin builtin.Create c.in-Create.is (λ ps. c.counted-in-Create.ensures (with_entry env name ps))

pub returns-in-Join : goal.returns-in-Join
returns-in-Join c =
    let env = environment_of c.args.env.now in
    let text = option_map (λ (t : Bor (List ℕ)). t.now) c.args.text in
    let name = option_map (λ (n : Bor Name). n.now) c.args.name in
    called-by env c.args.at c.args.count text name c.args.arguments c.counted-in-Join.result c.args.builtin builtin.Join c.in-Join.is c.counted-in-Join.ensures

pub returns-in-Update : goal.returns-in-Update
returns-in-Update c =
    let env = environment_of c.args.env.now in
    let text = option_map (λ (t : Bor (List ℕ)). t.now) c.args.text in
    let name = option_map (λ (n : Bor Name). n.now) c.args.name in
    called-by env c.args.at c.args.count text name c.args.arguments c.counted-in-Update.result c.args.builtin builtin.Update c.in-Update.is (λ ps. c.counted-in-Update.ensures (behind_word text ps))

pub returns-in-IsUpdating : goal.returns-in-IsUpdating
returns-in-IsUpdating c =
    let env = environment_of c.args.env.now in
    let text = option_map (λ (t : Bor (List ℕ)). t.now) c.args.text in
    let name = option_map (λ (n : Bor Name). n.now) c.args.name in
    called-by env c.args.at c.args.count text name c.args.arguments c.counted-in-IsUpdating.result c.args.builtin builtin.IsUpdating c.in-IsUpdating.is c.counted-in-IsUpdating.ensures

pub returns-in-IsUpdatingFrom : goal.returns-in-IsUpdatingFrom
returns-in-IsUpdatingFrom c =
    let env = environment_of c.args.env.now in
    let text = option_map (λ (t : Bor (List ℕ)). t.now) c.args.text in
    let name = option_map (λ (n : Bor Name). n.now) c.args.name in
    called-by env c.args.at c.args.count text name c.args.arguments c.counted-in-IsUpdatingFrom.result c.args.builtin builtin.IsUpdatingFrom c.in-IsUpdatingFrom.is (λ ps. c.counted-in-IsUpdatingFrom.ensures (behind_word text ps))

pub returns-in-Automigrate : goal.returns-in-Automigrate
returns-in-Automigrate c =
    let env = environment_of c.args.env.now in
    let text = option_map (λ (t : Bor (List ℕ)). t.now) c.args.text in
    let name = option_map (λ (n : Bor Name). n.now) c.args.name in
    called-by env c.args.at c.args.count text name c.args.arguments c.counted-in-Automigrate.result c.args.builtin builtin.Automigrate c.in-Automigrate.is c.counted-in-Automigrate.ensures

pub returns-in-MigrateLocal : goal.returns-in-MigrateLocal
returns-in-MigrateLocal c =
    let env = environment_of c.args.env.now in
    let text = option_map (λ (t : Bor (List ℕ)). t.now) c.args.text in
    let name = option_map (λ (n : Bor Name). n.now) c.args.name in
    called-by env c.args.at c.args.count text name c.args.arguments c.counted-in-MigrateLocal.result c.args.builtin builtin.MigrateLocal c.in-MigrateLocal.is (λ ps. c.counted-in-MigrateLocal.ensures (behind_word name ps))
