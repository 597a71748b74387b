pub mod Writing
pub mod Types
pub mod Operands
pub mod StoreNumbers
pub mod OperandsRead
