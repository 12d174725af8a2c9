use Rattle.kt_syntax.proofs.Told.{fails}
use Rattle.kt_syntax.proofs.parser.parse.Goals as goal

pub returns-clause-fails : goal.returns-clause-fails
returns-clause-fails c =
    fails c.file_stands_law.ensures c.file_places_law.ensures.syntax c.file_places_law.ensures.depth c.file_answer_law.ensures.one c.args.bytes.now c.args.tokens.now _
    c.read_tokens.ensures.tree c.read_tokens.ensures.fault
