-- An entry id is a pair of numbers, compared by the first and then by the second, and written with a hyphen between
-- them.

pub mod Id
pub mod Next
pub mod Spelling
pub mod Spec
-- what the crates above say most
pub use Rattle.sr_ids.specs.Id.{greatest_id, is_below, is_one_of, is_same_id, IsBelow, IsId, least_id}
pub use Rattle.sr_ids.specs.Spelling.{IsStart, spelling, SpellsId}
pub use Rattle.sr_ids.specs.Next.{IsNextAuto, IsNextIn}
pub use Rattle.sr_ids.specs.Spec.{IsSpec}
