mod Ended
mod Outputs
