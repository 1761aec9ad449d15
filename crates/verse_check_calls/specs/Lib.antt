pub mod Views
pub mod Given
