pub mod RowsMade
pub mod PairsMade
pub mod StageMade
pub mod TasksMade
pub mod RoundsMade
pub mod FormsMade
pub mod Whole
pub mod Late
