pub mod Coils
pub mod Presses
pub mod Strikes
