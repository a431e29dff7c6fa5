-- Each tiling has a normal image: the counts of nodes and of squares at the sides, and how images change them.
pub mod CountExamples
pub mod EachNormalImage
pub mod FewNodes
pub mod FirstMoves
pub mod ImageCorners
pub mod ImageCounts
pub mod ImagesToMeet
pub mod LayoutCounts
pub mod LayoutSides
pub mod MirroredCrossings
pub mod MirroredGroups
pub mod NormalExamples
pub mod NormalImageExamples
pub mod UpendedGroups
