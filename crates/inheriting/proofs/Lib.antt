pub mod Inheriting
