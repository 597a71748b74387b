pub mod ClosureTypes
