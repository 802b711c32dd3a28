pub mod Kids
pub mod KidViews
pub mod KidsView
pub mod SetsView
pub mod Rooms
pub mod Expected
