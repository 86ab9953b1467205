pub mod HalfMasks
