pub mod VdcWords
pub mod Headers
pub mod ScalerWords
pub mod RegionLaws
pub mod SumRegion
pub mod RegionLoop
pub mod EventLaws
mod Sum
