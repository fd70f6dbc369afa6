pub mod Within
pub mod Splice
pub mod Clauses
pub mod Worked
