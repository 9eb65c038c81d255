pub mod TextLemmas
pub mod UnitLemmas
pub mod FactorLemmas
pub mod LayoutLemmas
pub mod RetentionLemmas
pub mod RulesCross
