pub mod Said
pub mod Logs
pub mod Apart
pub mod Verdicts
pub mod Accepted
pub mod Printed
