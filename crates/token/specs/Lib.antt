pub mod Bytes
pub mod Lex
pub mod Numbers
pub mod Tokens
pub mod Grammar
pub mod Layout
pub mod Falls
pub mod Plain
