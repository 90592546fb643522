pub mod HashView
pub mod TableView
