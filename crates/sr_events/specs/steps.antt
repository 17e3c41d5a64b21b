pub mod Connections
pub mod Ring
