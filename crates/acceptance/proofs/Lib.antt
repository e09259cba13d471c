pub mod Halted
