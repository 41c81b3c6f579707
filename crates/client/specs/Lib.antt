pub mod Words
pub mod Subscriber
pub mod Taking
pub mod Law
