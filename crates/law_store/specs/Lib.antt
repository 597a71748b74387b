pub mod Granted
pub mod HostCalls
pub mod Later
pub mod Laws
pub mod OtherStores
pub mod PageSizes
pub mod Rows
