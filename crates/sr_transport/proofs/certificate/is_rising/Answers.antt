use Rattle.std.proofs.Common.{rules}
use Rattle.sr_transport.proofs.certificate.is_rising.Goals as goal

pub returns : goal.returns
returns c = search rules
