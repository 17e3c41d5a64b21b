use Rattle.std.proofs.Common.{refl}
use Rattle.sr_resp.proofs.code.ErrCode.text.Goals as goal

pub returns-in-Syntax : goal.returns-in-Syntax
returns-in-Syntax c = rw c.in-Syntax.is refl

pub returns-in-Protocol : goal.returns-in-Protocol
returns-in-Protocol c = rw c.in-Protocol.is refl
