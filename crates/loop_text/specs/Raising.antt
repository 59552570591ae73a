-- States of a loop that is read, in a chain.
--   in_chain n before s        the state s of a loop, where n loops began and this was read before
--   told_in_chain n before r   what is told of a loop, of the chain
use Rattle.std.specs.Prelude.{ℕ, Ok, Err}
use Rattle.poly_text.specs.Told.{Told}
use Rattle.loop_text.specs.Loops.{LoopContext, LoopValue, LoopState}
use Rattle.loop_text.specs.Chains.{Earlier, ChainContext, ChainValue, ChainState}

abbrev pub in_chain : ℕ → Earlier → LoopState → ChainState
in_chain n before s = record {
  context = record { loop = s.context; loops = n };
  value = record { before = before; loop = s.value };
}

abbrev pub told_in_chain : ℕ → Earlier → Told LoopContext LoopValue
    → Told ChainContext ChainValue
told_in_chain n before (Ok r) = Ok (in_chain n before r.0, r.1)
told_in_chain n before (Err f) = Err f
