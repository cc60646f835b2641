pub mod Tenfold
