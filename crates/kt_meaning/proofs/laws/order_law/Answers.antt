use Rattle.kt_meaning.proofs.Rows.{left, compound, null, char, late, deep, fall, control, same_point, other_point}
use Rattle.kt_meaning.proofs.laws.order_law.Goals as goal

pub returns-clause-left_operand_first : goal.returns-clause-left_operand_first
returns-clause-left_operand_first c = left

pub returns-clause-load_before_the_operand : goal.returns-clause-load_before_the_operand
returns-clause-load_before_the_operand c = compound

pub returns-clause-null_field : goal.returns-clause-null_field
returns-clause-null_field c = null

pub returns-clause-no_wrapping : goal.returns-clause-no_wrapping
returns-clause-no_wrapping c = char

pub returns-clause-trap_before_the_store : goal.returns-clause-trap_before_the_store
returns-clause-trap_before_the_store c = late

pub returns-clause-two_hundred_calls : goal.returns-clause-two_hundred_calls
returns-clause-two_hundred_calls c = deep

pub returns-clause-end_without_a_value : goal.returns-clause-end_without_a_value
returns-clause-end_without_a_value c = fall

pub returns-clause-loops_and_choices : goal.returns-clause-loops_and_choices
returns-clause-loops_and_choices c = control

pub returns-clause-own_point : goal.returns-clause-own_point
returns-clause-own_point c = same_point

pub returns-clause-other_point : goal.returns-clause-other_point
returns-clause-other_point c = other_point
