pub mod Holds
pub mod LogComparison
pub mod Machines
pub mod WaitQueues
