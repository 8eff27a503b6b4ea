pub mod Amos
pub mod Results
