-- What is read up to the end of the text.
--   whole_read      so it is, where all is read
--   whole_fails     an error
--   whole_fails_last     an error at the last part
use Rattle.std.proofs.Common.{◌≡◌, ℕ, List, [], ap, sym, subst, ◌∙◌, Result, Ok, Err, IfSome, option_map}
use Rattle.loops.specs.Program.{Expr}
use Rattle.loops.specs.Sequences.{Sequence}
use Rattle.grammars.specs.Grammar.{sequence}
use Rattle.poly_text.specs.Lexemes.{Placed}
use Rattle.poly_text.specs.Reasons.{Fault}
use Rattle.poly_text.specs.Faults.{fault_of}
use Rattle.poly_text.specs.declared.error.TextError.{TextError}
use Rattle.poly_text.proofs.Paths.{fault_passes, stopped, GoesOn}
use Rattle.loop_text.specs.Seqs.{SeqState, Rule, the_end, seq_language}
use Rattle.loop_text.specs.SeqReader.{sequences_in, sequences_or_fault}
use Rattle.loop_text.specs.SequenceStates.{IsFault, reading, whole}
use Rattle.poly_text.proofs.WholeTexts.{whole_told, whole_reading}

module _ (g : Rule) (s : SeqState) (ts : List Placed) where
  whole_is : whole g s ts ≡ sequences_or_fault (whole_told (reading (sequence g the_end) s ts))
  whole_is = ap sequences_or_fault (whole_reading seq_language g the_end s ts)

  pub whole_read : (t : SeqState) → Ok (t, []) ≡ reading (sequence g the_end) s ts
      → Ok (sequences_in t) ≡ whole g s ts
  whole_read t e = ap (λ r. sequences_or_fault (whole_told r)) e ∙ sym whole_is

  module _ {f h : Rule} {t : SeqState} {us : List Placed}
      (path : GoesOn seq_language (sequence g the_end) s ts (sequence f h) t us) where
    pub whole_fails : (e : TextError) → IsFault e (reading f t us)
        → IfSome (option_map Err (fault_of e))
        (λ (r : Result (List (Sequence (Expr ℕ))) Fault). r ≡ whole g s ts)
    whole_fails e p =
        fault_passes (fault_of e) (reading (sequence g the_end) s ts) (whole g s ts)
        (λ f h. ap (λ r. sequences_or_fault (whole_told r)) h ∙ sym whole_is)
        (subst (IsFault e) (sym path.same) (stopped seq_language f h t us e p))

  pub whole_fails_last : {f : Rule} {t : SeqState} {us : List Placed}
      → GoesOn seq_language (sequence g the_end) s ts f t us → (e : TextError)
      → IsFault e (reading f t us)
      → IfSome (option_map Err (fault_of e))
      (λ (r : Result (List (Sequence (Expr ℕ))) Fault). r ≡ whole g s ts)
  whole_fails_last {f = f} {t = t} {us = us} path e p =
      fault_passes (fault_of e) (reading (sequence g the_end) s ts) (whole g s ts)
      (λ f h. ap (λ r. sequences_or_fault (whole_told r)) h ∙ sym whole_is)
      (subst (IsFault e) (sym path.same) p)
