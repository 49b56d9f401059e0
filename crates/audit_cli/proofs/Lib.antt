mod Ends
mod Opened
mod Performing
mod Refusing
mod Spelled
