pub mod Letter
pub mod Words
pub mod Goes
pub mod Next
pub mod Want
pub mod WordsCode
pub mod Recover
pub mod Stage
