pub mod Parted
pub mod Noted
pub mod Pushed
