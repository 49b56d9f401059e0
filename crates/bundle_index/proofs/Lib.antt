mod Fields
pub mod HeaderFields
pub mod Headers
pub mod Numbers
