pub mod RunLists
