-- Lines and runs: what each command does, what its reply tells, where it finds no space, and that lines and replies determine a run.
pub mod Runs
pub mod Commands
pub mod Printing
pub mod Told
pub mod Lacking
pub mod Determined
