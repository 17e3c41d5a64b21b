use Rattle.std.proofs.Common.{rules}
use Rattle.sr_book.proofs.machine.Machine.board_reply.Goals as goal

pub returns-in_ok-text-in-Some : goal.returns-in_ok-text-in-Some
returns-in_ok-text-in-Some c = search rules
