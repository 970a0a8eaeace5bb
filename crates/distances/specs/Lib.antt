pub mod Costs
pub mod Dijkstra
