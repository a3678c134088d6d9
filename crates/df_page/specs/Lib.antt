pub mod Markup
pub mod Means
pub mod Bars
pub mod Cells
pub mod Sections
pub mod Pages
pub mod Reading
