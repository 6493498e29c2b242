-- Division by leading terms in the work room: model, and that it is the rule.
pub mod Model
pub mod SpreadModel
pub mod WorkRoomModel
pub mod GreatestExponents
pub mod Dense
pub mod Spread
pub mod Steps
pub mod Fitting
pub mod ModelLaws
pub mod Ends
pub mod Turns
pub mod Going
pub mod Begins
pub mod Trial
pub mod WorkRoom
