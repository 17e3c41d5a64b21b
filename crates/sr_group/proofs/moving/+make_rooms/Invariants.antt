use Rattle.std.proofs.Common.{length}
use Rattle.sr_group.proofs.moving.+make_rooms.Given as goal

abbrev pub decreases-make_rooms : goal.decreases-make_rooms
decreases-make_rooms l = length l.readies.now
