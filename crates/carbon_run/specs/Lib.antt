pub mod Conf
pub mod Texts
pub mod Runs
pub mod Stores
pub mod Serves
pub mod Samples
pub mod Commands
pub mod Headline
