pub mod LaneLaws
pub mod Silence
pub mod Ports
