pub mod DerivationLaws
