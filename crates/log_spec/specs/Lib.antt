pub mod LogText
pub mod Reading
pub mod Told
pub mod Laws
pub mod Examples
