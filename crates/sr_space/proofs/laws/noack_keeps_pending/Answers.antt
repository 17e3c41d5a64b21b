use Rattle.sr_space.specs.Bounds.{in_63_bits}
use Rattle.sr_space.specs.commands.Xread.{count_of}
use Rattle.sr_space.proofs.NoAckLaws.{noack-keeps}
use Rattle.sr_space.proofs.laws.noack_keeps_pending.Goals as goal

pub returns : goal.returns
returns c = λ keys moment read key name no_ack new.
    rw no_ack (noack-keeps (in_63_bits moment) read.group read.consumer (count_of read.count) name keys read.streams key new)
