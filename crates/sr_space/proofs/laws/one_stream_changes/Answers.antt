use Rattle.sr_space.proofs.KeyLaws.{stream_at-with_stream, stream_at-with_stream_other}
use Rattle.sr_space.proofs.laws.one_stream_changes.Goals as goal

pub returns : goal.returns
returns c = record { at_key = stream_at-with_stream; others = stream_at-with_stream_other }
