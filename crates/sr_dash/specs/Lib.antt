-- The board of a group is a line of text for each consumer that the group or the policy has.

pub mod Board
pub mod steps
