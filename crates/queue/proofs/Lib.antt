pub mod Tops
pub mod Pieces
pub mod OneTable
pub mod Entered
pub mod Built
