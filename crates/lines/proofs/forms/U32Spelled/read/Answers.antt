use Rattle.std.proofs.Common.{sym, ap, ◌∙◌}
use Rattle.lines.specs.Forms.{plain}
use Rattle.lines.proofs.Numbers.{number_parsed}
use Rattle.lines.proofs.forms.U32Spelled.read.Goals as goal

pub returns-then-is_plain : goal.returns-then-is_plain
returns-then-is_plain c =
    c.ok.ensures.value ∙ number_parsed c.args.text.now _ (ap plain (sym c.as_bytes.ensures.value) ∙ sym c.if-is_plain.ensures) c.parse.ensures.value.0
