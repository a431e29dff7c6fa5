pub mod HasAt
