pub mod Ticks
pub mod Blocks
pub mod Heeding
pub mod Replies
pub mod LastOrders
pub mod Handling
