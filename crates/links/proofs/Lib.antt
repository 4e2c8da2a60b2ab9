pub mod LeastMultiples
pub mod StepLists
