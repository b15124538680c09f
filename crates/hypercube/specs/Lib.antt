pub mod Hypercube
