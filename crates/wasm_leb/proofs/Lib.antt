pub mod Tops
pub mod Roundtrip
pub mod Faults
pub mod Shortest
