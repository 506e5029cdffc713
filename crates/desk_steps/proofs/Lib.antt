pub mod Closing
pub mod Turning
pub mod Beginning
