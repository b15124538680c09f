pub mod PlanText
pub mod Told
