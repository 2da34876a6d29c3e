pub mod LevelLaws
pub mod ShareLaws
pub mod SlotLaws
pub mod MatchLaws
pub mod SpellingLaws
pub mod RouteLaws
