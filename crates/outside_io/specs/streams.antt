-- What the contracts of sources and sinks cite.
pub mod Asks
pub mod Faults
pub mod Memory
pub mod Sink
pub mod Source
