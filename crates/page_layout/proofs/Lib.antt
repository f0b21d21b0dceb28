pub mod Tables
pub mod PlaneLaws
pub mod Hits
pub mod SoundPages
pub mod Sum
pub mod Queue
pub mod Calls
pub mod FilledTables
