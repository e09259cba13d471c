pub mod Throwing
