pub mod Fingerprints
pub mod Pairs
pub mod Tallies
pub mod Totals
pub mod FingerprintsLemmas
pub mod Modular
pub mod TalliesLemmas
