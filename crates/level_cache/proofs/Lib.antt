mod Corners
mod Crashes
mod Levels
mod Naming
mod Places
mod Returns
mod Steps
