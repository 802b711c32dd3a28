pub mod WalkLaws
pub mod FitLaws
pub mod CallLaws
pub mod GivenLaws
pub mod PlaceLaws
pub mod PlanLaws
pub mod EndLaws
