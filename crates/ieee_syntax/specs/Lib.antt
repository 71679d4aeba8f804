pub mod Kind
pub mod Rounded
pub mod Number
pub mod Program
pub mod Automaton
pub mod Answers
