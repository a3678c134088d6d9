pub mod Texts
pub mod FrameTables
pub mod ExpressionData
pub mod StepData
pub mod ViewTables
pub mod Sayable
