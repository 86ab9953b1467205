pub mod FirstOnes
