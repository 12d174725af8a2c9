use Rattle.kt_lex.specs.Tokens.{tokens_of}
use Rattle.kt_lex.proofs.Exact.{answers-tokens, answers-fault, answers-succeeds, answers-fails}
use Rattle.kt_lex.proofs.scan.lex.Goals as goal

pub returns-clause-tokens : goal.returns-clause-tokens
returns-clause-tokens c = answers-tokens _ (tokens_of c.args.bytes.now) c.read_all.ensures

pub returns-clause-fault : goal.returns-clause-fault
returns-clause-fault c = answers-fault _ (tokens_of c.args.bytes.now) c.read_all.ensures

pub returns-clause-succeeds : goal.returns-clause-succeeds
returns-clause-succeeds c = answers-succeeds _ (tokens_of c.args.bytes.now) c.read_all.ensures

pub returns-clause-fails : goal.returns-clause-fails
returns-clause-fails c = answers-fails _ (tokens_of c.args.bytes.now) c.read_all.ensures
