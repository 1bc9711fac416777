pub mod CrewLaws
