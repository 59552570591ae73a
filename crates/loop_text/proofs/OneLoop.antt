-- Each text of a loop is one of a chain of this loop.
--   loop_is_chain
use Rattle.std.proofs.Common.{◌≡◌, ℕ, List, [], ◌∷◌, ◌++◌, ap, subst, Ok}
use Rattle.std.proofs.lemmas.List.{append-nil}
use Rattle.loops.specs.Program.{Program, Expr}
use Rattle.grammars.specs.Derivation.{Derives, derives_nothing, derives_token, derives_sequence, derives_none}
use Rattle.grammars.specs.FirstFault.{sounds}
use Rattle.poly_text.specs.Lexemes.{tokens}
use Rattle.loop_text.specs.Loops.{LoopState, loop, the_end, loop_language, nothing}
use Rattle.loop_text.specs.LoopReader.{loop_of}
use Rattle.loop_text.proofs.LoopLaws.{loop_read}
use Rattle.loop_text.specs.Chains.{none_before, chain_language, whole_chain, chain_nothing, further, chain_end}
use Rattle.grammars.specs.Grammar.{many}
use Rattle.loop_text.specs.ChainReader.{chain_of}
use Rattle.loop_text.proofs.ChainLaws.{chain_read}
use Rattle.loop_text.proofs.Raised.{Marks, at, raised}
use Rattle.loops.specs.Chain.{Chain}

-- the end of a loop's text is that of a chain's
ended : (t : LoopState) (s : LoopState) (ms : Marks) → Derives loop_language (the_end ∷ []) s ms t
    → Derives chain_language (many further ∷ chain_end ∷ []) (at 1 none_before s) (ms ++ [])
    (at 1 none_before t)
ended t s _ (derives_token h derives_nothing) = derives_none (derives_token h derives_nothing)

pub loop_is_chain : (bytes : List ℕ) (l : Program (Expr ℕ)) → loop_of bytes ≡ Ok l
    → chain_of bytes ≡ Ok (record { first = l; further = [] })
loop_is_chain bytes l e =
    let (s, derived, same) = (loop_read bytes l).0 e in
    (chain_read bytes (record { first = l; further = [] })).1 (
      at 1 none_before s,
      subst (λ ms. Derives chain_language whole_chain chain_nothing ms (at 1 none_before s))
          (append-nil (sounds (tokens bytes)))
          (derives_sequence (raised 1 none_before (the_end ∷ []) (many further ∷ chain_end ∷ []) s
          (at 1 none_before s) [] (ended s) (loop ∷ []) nothing (sounds (tokens bytes)) derived)),
      ap (λ (p : Program (Expr ℕ)). chain p) same,
    )
  where
    chain : Program (Expr ℕ) → Chain (Expr ℕ)
    chain p = record { first = p; further = [] }
