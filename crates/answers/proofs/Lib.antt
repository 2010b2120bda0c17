-- Examples of what this crate defines.
pub mod Examples
