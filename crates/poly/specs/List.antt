-- Lists: their checks, the search for the first wrong place, the leading part, the shorter of two.
pub mod Model
pub mod Laws
pub mod Falling
pub mod Right
pub mod Check
pub mod Leading
pub mod Shorter
pub mod Searching
pub mod Search
pub mod Counted
