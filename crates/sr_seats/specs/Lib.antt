-- Hands that share a book: what each has seen of it, and when the receipts that they hold agree with its records.

pub mod Held
pub mod Closing
pub mod Refused
-- what the crates above say most
pub use Rattle.sr_seats.specs.Held.{count_before, count_made, Exchanges, HeldState, new_seat, new_seats, SeatState}
pub use Rattle.sr_seats.specs.Closing.{Agrees, count_skipped, Differs}
