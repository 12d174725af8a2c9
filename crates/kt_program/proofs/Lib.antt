pub mod Exact
pub mod WorkedRows
pub mod FileRowsHold
pub mod Typed
pub mod FitsParts
pub mod Fits
pub mod FileRight
pub mod BodyFits
