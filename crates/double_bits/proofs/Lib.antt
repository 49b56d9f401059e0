pub mod HalfBits
pub mod OneHalf
mod Powers
mod Signs
