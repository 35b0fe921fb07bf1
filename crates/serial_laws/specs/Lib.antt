pub mod Serial
pub mod Alone
pub mod Examples
