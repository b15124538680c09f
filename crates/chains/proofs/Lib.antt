mod Walking
mod Running
mod Merging
mod Counting
mod Filling
mod Outcomes
