mod Spelled
mod Taking
mod Keeping
mod Putting
mod Runs
mod OneEnd
mod Refused
mod Well
