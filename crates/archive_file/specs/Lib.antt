pub mod KeyedBy
pub mod NodeFits
pub mod Sound
pub mod Faults
pub mod Goes
pub mod Laid
pub mod Sizes
