-- What the crate says.
pub mod Diagram
pub mod Flow
pub mod KeptNet
pub mod Net
pub mod NetLine
pub mod NetLineLaws
pub mod ReadNet
pub mod SmithFlow
-- How its code keeps it.
pub mod GatheredWires
pub mod GroupNumbers
pub mod Labels
pub mod NetReading
