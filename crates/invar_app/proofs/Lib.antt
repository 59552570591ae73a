pub mod HelpPromises
pub mod TopPromises
pub mod PrintedChecked
pub mod FullChecked
