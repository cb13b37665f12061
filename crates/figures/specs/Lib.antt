pub mod Figures
pub mod VerdictFigures
