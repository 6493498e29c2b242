-- What the program's function on bytes promises, and its laws.
pub mod QuotientOfFile
pub mod Answer
