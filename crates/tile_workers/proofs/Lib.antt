mod Shares
mod Tiles
