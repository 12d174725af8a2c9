pub mod Agreement
pub mod AgreementLaws
pub mod Code
pub mod Looks
pub mod Machine
pub mod Requests
pub mod SameActs
pub mod Settling
