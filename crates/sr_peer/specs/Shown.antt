-- The part that a value of the code's own type shows.

use Rattle.sr_peer.specs.declared.part.Part as declared
use Rattle.sr_peer.specs.declared.part.Part.TheVariants as shown
use Rattle.sr_peer.specs.Reply.{Part, Simple, Error, Int, Bulk, NullBulk, NullArray, Array}

abbrev pub part_of : declared.Part → Part
part_of (shown.Simple text) = Simple text.now
part_of (shown.Error text) = Error text.now
part_of (shown.Int n) = Int n
part_of (shown.Bulk bytes) = Bulk bytes.now
part_of shown.NullBulk = NullBulk
part_of shown.NullArray = NullArray
part_of (shown.Array items) = Array items
