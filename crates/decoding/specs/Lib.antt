-- What the contract of the decode call that counts its letters cites.
pub mod Letters
