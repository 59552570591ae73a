-- What is read up to the end of the text.
--   whole_read      so it is, where all is read
--   whole_fails     an error at a first part; whole_fails_last: at the last part
use Rattle.std.proofs.Common.{◌≡◌, ℕ, List, [], ap, sym, subst, ◌∙◌, Result, Ok, Err, IfSome, option_map}
use Rattle.loops.specs.Program.{Program, Expr}
use Rattle.grammars.specs.Grammar.{sequence}
use Rattle.poly_text.specs.Lexemes.{Placed}
use Rattle.poly_text.specs.Reasons.{Fault}
use Rattle.poly_text.specs.Faults.{fault_of}
use Rattle.poly_text.specs.declared.error.TextError.{TextError}
use Rattle.poly_text.proofs.Paths.{IsFault, fault_passes, stopped, GoesOn}
use Rattle.loop_text.specs.Loops.{LoopState, Rule, the_end, loop_language}
use Rattle.loop_text.specs.LoopReader.{program_in, program_or_fault}
use Rattle.loop_text.specs.States.{reading, whole}
use Rattle.poly_text.proofs.WholeTexts.{whole_told, whole_reading}

module _ (g : Rule) (s : LoopState) (ts : List Placed) where
  whole_is : whole g s ts ≡ program_or_fault (whole_told (reading (sequence g the_end) s ts))
  whole_is = ap program_or_fault (whole_reading loop_language g the_end s ts)

  pub whole_read : (t : LoopState) → Ok (t, []) ≡ reading (sequence g the_end) s ts
      → Ok (program_in t) ≡ whole g s ts
  whole_read t e = ap (λ r. program_or_fault (whole_told r)) e ∙ sym whole_is

  -- of the last part
  pub whole_fails_last : {h : Rule} {t : LoopState} {us : List Placed}
      → GoesOn loop_language (sequence g the_end) s ts h t us → (e : TextError)
      → IsFault e (reading h t us)
      → IfSome (option_map Err (fault_of e)) (λ (r : Result (Program (Expr ℕ)) Fault).
      r ≡ whole g s ts)
  whole_fails_last path e p =
      fault_passes (fault_of e) (reading (sequence g the_end) s ts) (whole g s ts) (λ f h.
      ap (λ r. program_or_fault (whole_told r)) h ∙ sym whole_is)
      (subst (IsFault e) (sym path.same) p)

  pub whole_fails : {f h : Rule} {t : LoopState} {us : List Placed}
      → GoesOn loop_language (sequence g the_end) s ts (sequence f h) t us → (e : TextError)
      → IsFault e (reading f t us)
      → IfSome (option_map Err (fault_of e)) (λ (r : Result (Program (Expr ℕ)) Fault).
      r ≡ whole g s ts)
  whole_fails {f = f} {h = h} {t = t} {us = us} path e p =
      whole_fails_last path e (stopped loop_language f h t us e p)
