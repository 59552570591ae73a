-- What a text says: it is read by the grammar of chains.
--   of_stages program gs  the chain of these stages, over the variables and with the start of the program; the first is its first loop, and has no code
--   chain_in s           the chain that was read
--   chain_or_fault t     it, or the first fault
--   chain_of bytes       what the text says, or its first fault
use Rattle.std.specs.Prelude.{ℕ, List, [], ◌∷◌, Result, Ok, Err}
use Rattle.loops.specs.Program.{Expr, Program}
use Rattle.grammars.specs.Reader.{read_whole}
use Rattle.grammars.specs.Embedded.{part}
use Rattle.poly_text.specs.Lexemes.{tokens}
use Rattle.poly_text.specs.Reasons.{Fault}
use Rattle.poly_text.specs.Told.{Told, told}
use Rattle.loop_text.specs.LoopReader.{program_in}
use Rattle.loops.specs.Chain.{Chain, Stage}
use Rattle.loop_text.specs.Chains.{ChainContext, ChainValue, ChainState, loops_in_chains, with_stage, chain_language, whole_chain, chain_nothing}

abbrev pub of_stages : {E : Type 0} → Program E → List (Stage E) → Chain E
of_stages program [] = record { first = program; further = [] }
of_stages program (g ∷ gs) = record {
  first = record program { branches = g.branches };
  further = gs;
}

abbrev pub chain_in : ChainState → Chain (Expr ℕ)
chain_in s =
    of_stages (program_in (part loops_in_chains s))
    (with_stage s.value.before s.value.loop.branches).stages

abbrev pub chain_or_fault : Told ChainContext ChainValue → Result (Chain (Expr ℕ)) Fault
chain_or_fault (Ok r) = Ok (chain_in r.0)
chain_or_fault (Err f) = Err f

abbrev pub chain_of : List ℕ → Result (Chain (Expr ℕ)) Fault
chain_of bytes =
    chain_or_fault (told (read_whole chain_language whole_chain chain_nothing (tokens bytes)))
