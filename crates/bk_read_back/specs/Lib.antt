-- What the crate says. It has laws alone, so there is no code to keep.
pub mod NetReadBack
pub mod ReadBack
pub mod Small
