pub mod Named
pub mod Events
pub mod Views
pub mod Solo
pub mod Laws
pub mod Examples
