pub mod Gcd
pub mod Products
pub mod Sums
pub mod LeastFactor
pub mod Divisors
