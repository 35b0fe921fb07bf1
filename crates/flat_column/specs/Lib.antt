pub mod Bitmap
pub mod Numbers
pub mod Strips
