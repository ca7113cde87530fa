pub mod Tokens
pub mod Operator
pub mod Literal
pub mod Found
pub mod Grammar
pub mod Machine
pub mod Parsed
pub mod Laws
