pub mod NamedLemmas
pub mod FileWhys
mod Cut
mod CheckText
mod HeadNotes
mod ProgressWritten
mod Appended
mod Commas
mod Printed
mod Reports
pub mod Performing
pub mod Exchanges
pub mod Written
pub mod Listened
mod Whys
