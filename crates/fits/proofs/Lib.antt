-- The law about this room's promises. Assumes nothing.
pub mod Results
