-- That no step, no note and no fate depends on the version of a plan.
pub mod Moved
pub mod Reports
pub mod Runs
