pub mod Above
pub mod Custom
pub mod Equation
pub mod Equivalence
pub mod Items
pub mod LayerLaws
