mod Processes
mod Memory
mod OfHeap
