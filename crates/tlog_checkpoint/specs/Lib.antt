pub mod Lines
pub mod Grammar
pub mod Parts
pub mod Reading
pub mod Laws
