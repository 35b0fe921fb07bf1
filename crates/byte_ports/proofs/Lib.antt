pub mod KnownMore
