mod Built
mod Keeping
mod Placing
mod Leaving
mod PutNotes
mod NoteWalks
mod Reordering
mod Sizes
mod Standing
mod Found
mod EntryLists
pub mod Logs
mod PutPaths
