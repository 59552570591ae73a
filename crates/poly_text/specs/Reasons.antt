-- Why texts are refused.
--   Reason             why a token is at fault: it can't stand there; it passes a limit; it is too large a number, a name that was there before, a name that
--                      isn't declared, a name that init sets and uses, a local name that its branch hasn't set, no divisor
--   Fault              a reason, and the offset of the token
--   unless b why       the reason why, unless b
--   or_else o p        the first of two, or none
use Rattle.std.specs.Prelude.{ℕ, Bool, Option, Some, None, if◌then◌else◌}

pub data Reason : Type 0 where
  syntax limit wide twice unknown init_uses unset divisor : Reason

pub record Fault : Type 0 where
  pub reason : Reason
  pub at : ℕ

abbrev pub unless : Bool → Reason → Option Reason
unless b why = if b then None else Some why

abbrev pub or_else : Option Reason → Option Reason → Option Reason
or_else None other = other
or_else (Some why) other = Some why
