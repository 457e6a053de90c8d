mod RowLaws
mod PickLaws
mod Powers
pub mod CodeLaws
mod NearLaws
pub mod CountLaws
mod FarthestLaws
pub mod IdPlaces
