pub mod Totals
pub mod Owners
pub mod Judging
pub mod Accepting
pub mod Told
pub mod Passing
pub mod Passed
pub mod Printed
