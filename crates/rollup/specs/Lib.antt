pub mod Rollup
pub mod RollupLaws
