-- What code reads by the language of loops it reads by that of chains.
--   reading_raised      reading by a grammar of loops, in a chain
--   fault_raised        and a fault of it
use Rattle.std.proofs.Common.{◌≡◌, ℕ, List, refl, sym, ap, ◌∙◌, Option, Some, None, Err, option_map}
use Rattle.std.specs.Option.{IfSome}
use Rattle.grammars.specs.Embedded.{answer_in}
use Rattle.grammars.specs.Reader.{ReadResult, reads, refused, unended, parsed}
use Rattle.grammars.proofs.Lifted.{lifted_read}
use Rattle.poly_text.specs.Lexemes.{Lexeme, Placed}
use Rattle.poly_text.specs.Reasons.{Reason, Fault}
use Rattle.poly_text.specs.Told.{Told, told}
use Rattle.poly_text.specs.Telling.{reading}
use Rattle.loop_text.specs.Loops as loops
use Rattle.loop_text.specs.Loops.{LoopContext, LoopValue, LoopState, loop_language}
use Rattle.loop_text.specs.Chains.{Earlier, ChainContext, ChainValue, loops_in_chains, chain_language}
use Rattle.loop_text.specs.Raising.{in_chain, told_in_chain}
use Rattle.loop_text.proofs.ChainChecked.{loops_embedded}
use Rattle.loop_text.proofs.Raised.{up}

module _ (n : ℕ) (before : Earlier) where
  told_raised : (s : LoopState) (a : ReadResult Lexeme LoopContext LoopValue Reason)
      → told (answer_in loops_in_chains a (in_chain n before s)) ≡ told_in_chain n before (told a)
  told_raised s (reads t ts) = refl
  told_raised s (refused x why) = refl
  told_raised s unended = refl

  pub reading_raised : (g : loops.Rule) (s : LoopState) (ts : List Placed)
      → reading chain_language (up g) (in_chain n before s) ts ≡ told_in_chain n before
      (reading loop_language g s ts)
  unfolding reading
  reading_raised g s ts = ap told (lifted_read loops_in_chains loop_language chain_language
      loops_embedded g (in_chain n before s) ts) ∙ told_raised s (parsed loop_language g s ts)

  pub fault_raised : (g : loops.Rule) (s : LoopState) (ts : List Placed) (o : Option Fault)
      → IfSome (option_map Err o) (λ (r : Told LoopContext LoopValue). r ≡ reading loop_language g s
      ts) → IfSome (option_map Err o) (λ (r : Told ChainContext ChainValue).
      r ≡ reading chain_language (up g) (in_chain n before s) ts)
  fault_raised g s ts None h = tt
  fault_raised g s ts (Some f) h = ap (told_in_chain n before) h ∙ sym (reading_raised g s ts)
