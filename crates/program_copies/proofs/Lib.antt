pub mod Given
pub mod AsMirror
pub mod MirrorProofs
pub mod Reading
pub mod Widths
pub mod ShelfFiles
pub mod OneViews
pub mod TrueFiles
pub mod CopyBodies
pub mod LawfulViews
pub mod MirrorAnswers
pub mod Blaming
pub mod TrueProofs
pub mod Answering
pub mod OpenedHeads
pub mod MadeKeys
pub mod Damages
pub mod Parts
pub mod Cuts
pub mod ShownBundles
pub mod CopyFaults
pub mod CopySteps
pub mod WholeSteps
pub mod ServedSteps
pub mod TrueEntries
mod Lines
pub mod Noted
mod Putting
mod Serving
mod Whys
pub mod Repaired
