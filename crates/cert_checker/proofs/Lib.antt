pub mod FormingLaws
pub mod IdentityLaws
pub mod LongLaws
mod SearchLaws
pub mod MapsLaws
pub mod RowLaws
pub mod VerdictLaws
pub mod FileLaws
pub mod Walks
pub mod Bases
pub mod Normal
pub mod Passings
pub mod Stopping
pub mod PartTotals
mod StageTotals
pub mod StageSteps
pub mod Placed
pub mod Branches
pub mod Behind
pub mod Whole
pub mod FormsAlong
pub mod Begun
pub mod StartLists
pub mod Kept
mod FullOver
pub mod Counted
