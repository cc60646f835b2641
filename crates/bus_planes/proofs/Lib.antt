pub mod BitLaws
pub mod Shown
pub mod FirstHalves
pub mod PairLaws
pub mod CutLaws
pub mod StillLaws
pub mod SlotSamples
