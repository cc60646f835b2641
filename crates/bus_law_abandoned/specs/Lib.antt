pub mod Abandoned
