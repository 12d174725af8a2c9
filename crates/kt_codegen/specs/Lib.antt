pub mod Emitting
pub mod StatementActs
pub mod StatementCode
pub mod VersionCode
