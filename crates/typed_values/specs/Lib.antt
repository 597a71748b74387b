pub mod StaticTypes
pub mod Conversions
pub mod ConversionLaws
pub mod Lists
pub mod ListLaws
pub mod Tuples
pub mod TupleLaws
