pub mod NestedLemmas
