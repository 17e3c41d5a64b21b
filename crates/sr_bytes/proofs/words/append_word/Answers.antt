use Rattle.std.proofs.Common.{rules}
use Rattle.sr_bytes.proofs.words.append_word.Goals as goal

pub returns-then-is_err-clause-err : goal.returns-then-is_err-clause-err
returns-then-is_err-clause-err c = search rules
