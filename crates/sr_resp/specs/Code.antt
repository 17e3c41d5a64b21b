-- The texts of simple strings and of errors.
-- Source: RESP2 protocol specification, "Simple strings" and "Simple errors"; Redis documentation, command PING and the
-- pages of the X* commands. The words after ERR, NOGROUP and BUSYGROUP, and the codes OOM, STALE and TOOMANY, are this
-- server's own.

use Rattle.std.specs.Prelude.{ℕ, List, codes}
use Rattle.sr_resp.specs.declared.code.Word.{Word}
use Rattle.sr_resp.specs.declared.code.Word.TheVariants as words
use Rattle.sr_resp.specs.declared.code.ErrCode.{ErrCode}
use Rattle.sr_resp.specs.declared.code.ErrCode.TheVariants as errors

abbrev pub word_text : Word → List ℕ
word_text words.Ok = codes "OK"
word_text words.Pong = codes "PONG"

abbrev pub error_text : ErrCode → List ℕ
error_text errors.Unknown = codes "ERR unknown command"
error_text errors.Arity = codes "ERR wrong number of arguments"
error_text errors.Syntax = codes "ERR syntax error"
error_text errors.Number = codes "ERR value is not an integer or out of range"
error_text errors.BadId = codes "ERR Invalid stream ID specified as stream command argument"
error_text errors.Protocol = codes "ERR Protocol error"
error_text errors.IdZero = codes "ERR The ID specified in XADD must be greater than 0-0"
error_text errors.IdSmall = codes "ERR The ID specified in XADD is equal or smaller than the target stream top item"
error_text errors.Exhausted = codes "ERR The stream has exhausted the last possible ID, unable to add more items"
error_text errors.NoKey = codes "ERR no such key"
error_text errors.NoGroup = codes "NOGROUP no such key or consumer group"
error_text errors.BusyGroup = codes "BUSYGROUP Consumer Group name already exists"
error_text errors.Memory = codes "OOM out of memory"
error_text errors.Full = codes "OOM history is full"
error_text errors.Stale = codes "STALE the group changed while the plan was made"
error_text errors.TooMany = codes "TOOMANY more than 4096 stranded entries"
