pub mod LeadingLaws
pub mod RefutingLaws
