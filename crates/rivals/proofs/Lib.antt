pub mod EvenPlans
pub mod Demand3
pub mod DiagonalPlans
