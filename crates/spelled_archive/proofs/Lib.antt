pub mod NodeViews
pub mod Bodies
