pub mod BestArrivals
pub mod Kind
pub mod RunSummaries
pub mod Tree
pub mod Same
