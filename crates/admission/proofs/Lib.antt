pub mod Verdicts
pub mod Admits
pub mod AnchorRule
