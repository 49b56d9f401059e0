mod Telling
mod Giving
mod Repeating
mod BandGiving
mod BandLaying
mod BandHolding
mod HeadedTiles
mod ReasonNames
