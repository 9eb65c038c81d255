pub mod RuleLines
pub mod Retentions
pub mod RetentionLaws
pub mod RuleSections
pub mod RulesOf
pub mod LayoutBy
