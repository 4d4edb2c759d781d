pub mod OneProof
pub mod Trees
