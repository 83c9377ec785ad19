-- The definitions of what commands share.
pub mod Apart
pub mod Bounds
pub mod FileRows
pub mod Runs
pub mod SystemTexts
pub mod Told
