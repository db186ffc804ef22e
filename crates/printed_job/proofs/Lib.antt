pub mod LinesLaws
pub mod OneText
