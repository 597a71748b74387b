pub mod Activations
pub mod Callers
pub mod Hosts
pub mod Lending
pub mod Scopes
pub mod StoreViews
