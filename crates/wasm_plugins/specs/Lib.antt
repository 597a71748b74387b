pub mod Guests
pub mod Meetings
pub mod Calling
pub mod Lending
