-- 01's twelve cases as one table. Assumes nothing.
pub mod Table
