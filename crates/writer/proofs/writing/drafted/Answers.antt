use Rattle.std.proofs.Common.{arith}
use Rattle.std.proofs.lemmas.Grind.{common_steps}
use Rattle.writer.proofs.Drafting.{behind_line}
use Rattle.writer.proofs.writing.drafted.Goals as goal

pub returns-in-Add : goal.returns-in-Add
returns-in-Add c = let e = behind_line c.args.order in grind (arith, common_steps)

pub returns-in-Delete : goal.returns-in-Delete
returns-in-Delete c = let e = behind_line c.args.order in grind (arith, common_steps)
