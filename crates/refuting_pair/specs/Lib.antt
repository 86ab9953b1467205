pub mod LowestOnes
