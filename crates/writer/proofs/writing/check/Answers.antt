use Rattle.std.proofs.Common.{rules}
use Rattle.writer.proofs.Back.{read_back, one_line, alone}
use Rattle.writer.proofs.writing.check.Goals as goal

pub returns-in-Add : goal.returns-in-Add
returns-in-Add c = record { answer = search rules; back = read_back c.args.order; line = one_line c.args.order; alone = alone c.args.order }

pub returns-in-Delete : goal.returns-in-Delete
returns-in-Delete c = record { answer = search rules; back = read_back c.args.order; line = one_line c.args.order; alone = alone c.args.order }
