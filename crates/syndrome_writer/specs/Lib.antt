-- What the contract of the syndrome call that counts its characters cites.
pub mod Characters
