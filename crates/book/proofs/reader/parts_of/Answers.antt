use Rattle.std.proofs.Common.{◌∙◌}
use Rattle.book.proofs.Passing.{taken, refused_empty}
use Rattle.book.proofs.Promised.{promised_by}
use Rattle.book.proofs.reader.parts_of.Goals as goal

pub cut-requires : goal.cut-requires
cut-requires c = (taken c.in-Ok.header c.args.bytes.now c.in-Ok.ensures).ends

pub returns-in-Ok : goal.returns-in-Ok
returns-in-Ok c =
    let is = c.cut.ensures ∙ (taken c.in-Ok.header c.args.bytes.now c.in-Ok.ensures).spells in
    record { is = is; promises = promised_by _ c.args.bytes.now is }

pub returns-in-Err : goal.returns-in-Err
returns-in-Err c =
    let is = refused_empty c.in-Err.field-0 c.args.bytes.now c.in-Err.ensures in
    record { is = is; promises = promised_by _ c.args.bytes.now is }
