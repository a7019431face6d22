-- As much as fits is copied, or nothing.
use Rattle.std.proofs.Common.{refl}
use Rattle.buffer.proofs.Copying.{some_stored, none_stored}
use Rattle.buffer.proofs.Page.put.Goals as goal

pub returns-then-n-end : goal.returns-then-n-end
returns-then-n-end c =
    let a = c.args in
    record {
      same_bytes = refl;
      written = record {
        size = refl;
        stored = rw c.copy.ensures (some_stored a.self.now.bytes.now a.text.now a.self.now.size c.min-end.ensures c.if-n-end.true);
      };
    }

pub returns-else-n-end : goal.returns-else-n-end
returns-else-n-end c =
    let a = c.args in
    record {
      same_bytes = refl;
      written = record { size = refl; stored = none_stored a.self.now.bytes.now a.text.now a.self.now.size c.min-end.ensures c.if-n-end.false };
    }
