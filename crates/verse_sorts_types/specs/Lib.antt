pub mod SortOf
pub mod Laws
