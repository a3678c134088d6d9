pub mod RunLine
pub mod SessionLine
