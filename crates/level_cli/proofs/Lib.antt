mod Ended
mod Ends
mod Granted
mod Outputs
mod Refused
mod Spelled
