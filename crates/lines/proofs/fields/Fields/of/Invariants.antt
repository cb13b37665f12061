use Rattle.std.proofs.Common.{◌≡◌, length, take, map}
use Rattle.lines.proofs.fields.Fields.of.Given as goal

abbrev pub invariant-loop-part : goal.invariant-loop-part
invariant-loop-part l = record {
  first : map (λ part. part.now) l.first.items ≡ take 10 (map (λ part. part.now) l.yielded);
  count : l.count ≡ length l.yielded;
}
