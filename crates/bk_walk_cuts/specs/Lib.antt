-- What the crate says: of cuts by counts, and of cuts by the forms of sides.
pub mod FormCuts
pub mod KnownSides
pub mod MoveCuts
pub mod RuledOutCut
pub mod SideForms
pub mod SidesOfTilings
pub mod Trace
-- How its code keeps it.
pub mod LinedWords
