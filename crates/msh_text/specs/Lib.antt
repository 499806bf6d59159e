pub mod Calls
pub mod FirstFault
pub mod Frame
pub mod MeshText
pub mod Texts
