pub mod BytesLemmas
pub mod ConnectionsLemmas
pub mod RingLemmas
pub mod SocketsLemmas
