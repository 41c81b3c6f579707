pub mod Behind
pub mod Catalogs
pub mod Catalogued
pub mod Members
