-- What is promised of the buffers that are lent for one book's line, start pair and repacked form.
pub mod Loaded
