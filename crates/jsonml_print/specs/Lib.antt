pub mod Printed
pub mod Pen
pub mod Calls
pub mod Laws
