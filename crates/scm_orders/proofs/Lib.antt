pub mod PlaceLaws
pub mod MomentLaws
pub mod SeeingLaws
pub mod HintLaws
pub mod RuleLaws
pub mod RefutingLaws
