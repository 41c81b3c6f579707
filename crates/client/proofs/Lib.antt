mod StatusFrames
mod Bodies
pub mod Reaching
mod Fronts
mod Blocks
mod Standing
pub mod Laws
mod Worked
