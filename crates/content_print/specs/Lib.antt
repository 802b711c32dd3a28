pub mod LentPrinted
