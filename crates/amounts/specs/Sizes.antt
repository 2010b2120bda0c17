-- What an exact distance asks of its numbers: that they are within document 01's bounds. It is crate exact's, and is passed on from here.
pub use Rattle.exact.specs.Sizes.{Distance}
