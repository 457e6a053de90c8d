pub mod OneBuilding
pub mod Installings
