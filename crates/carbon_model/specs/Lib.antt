pub mod State
pub mod RingFiles
pub mod Replay
pub mod Sound
pub mod Found
pub mod Series
