pub mod TotalLaws
