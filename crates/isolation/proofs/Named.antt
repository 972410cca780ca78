-- What is seen of trees and done to them goes by name; a known tree by name stays, and one that enters a state is what entered.
pub mod Seeing
pub mod Growing
pub mod Doing
pub mod Making
pub mod Entering
pub mod Parts
