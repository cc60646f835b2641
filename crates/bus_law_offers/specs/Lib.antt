pub mod Still
pub mod Yielding
pub mod Accepting
pub mod Passing
pub mod Read
