pub mod Lexer
