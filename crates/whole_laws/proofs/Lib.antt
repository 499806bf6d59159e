pub mod Blends
pub mod ExactFloors
pub mod Floors
pub mod Laws
pub mod Order
pub mod Products
pub mod Ring
