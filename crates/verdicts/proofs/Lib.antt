-- Laws of the verdicts' lines.
pub mod Verdicts
