-- Where an identity of a certificate stands.
--   Place     at_start: at the start;  in_branch b: at branch b
use Rattle.std.specs.Prelude.{ℕ}

pub data Place : Type 0 where
  at_start : Place
  in_branch : ℕ → Place
