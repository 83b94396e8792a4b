pub mod Words
pub mod Totals
pub mod Reduced
pub mod Grouping
pub mod Edits
pub mod Laws
pub mod Examples
pub mod Editing
