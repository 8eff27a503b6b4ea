pub mod FrontSteps
pub mod LinkLaws
pub mod WalkLaws
pub mod RisingLaws
pub mod StayingLaws
pub mod PickingLaws
pub mod FixingLaws
pub mod RefutingTests
