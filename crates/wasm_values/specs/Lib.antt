pub mod Externals
pub mod Handles
pub mod Laws
pub mod References
pub mod StoreIds
pub mod Values
