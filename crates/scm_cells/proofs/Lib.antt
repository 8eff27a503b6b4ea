mod PaddedNames
mod Narrowing
mod CellMaps
