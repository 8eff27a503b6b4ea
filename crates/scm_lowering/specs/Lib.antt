pub mod laws
pub mod Lowering
pub mod Accesses
pub use Rattle.scm_cells.specs.CellLists
pub use Rattle.scm_cells.specs.Numbers
pub use Rattle.scm_amo.specs.Results
