pub mod RuleTexts
pub mod SeenWords
pub mod Readings
pub mod RulePlaces
