mod Arena
mod Served
mod Quits
mod Making
