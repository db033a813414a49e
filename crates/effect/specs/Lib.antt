pub mod Effect
pub mod Page
pub mod Cut
