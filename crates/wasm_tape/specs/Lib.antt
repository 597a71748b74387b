pub mod Parts
pub mod Written
pub mod Read
pub mod Answers
pub mod Laws
