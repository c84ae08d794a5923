-- Graphs as rows of bits: the compound graph, its closure, the circle test, the graph of the root; the shortest path and circle, and what
-- the links of one are.
pub mod Rows
pub mod Compound
pub mod Parts
pub mod Paths
pub mod Search
pub mod Marks
pub mod Trails
pub mod Opened
