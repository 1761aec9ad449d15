mod Items
mod Given
