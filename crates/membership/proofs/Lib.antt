pub mod Numbers
pub mod Signs
