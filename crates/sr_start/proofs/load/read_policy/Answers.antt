use Rattle.std.proofs.Common.{Some, ap, inr, string_bytes, sym}
use Rattle.sr_start.specs.Policy.{told_of}
use Rattle.sr_start.proofs.load.read_policy.Goals as goal

pub returns-in-Ok-read : goal.returns-in-Ok-read
returns-in-Ok-read g c =
    let read = rw c.as_str.ensures.value at c.in-Ok-read.ensures.ok in
    inr (Some (string_bytes c.in-Ok.text), c.in-Ok.ensures.ok, sym (ap told_of read))
