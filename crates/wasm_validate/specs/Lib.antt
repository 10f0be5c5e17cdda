pub mod Invalids
