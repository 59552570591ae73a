-- The forms, the start, the rounds and the end, judged one after another.
--   forms_stop, starts_stop, rounds_stop, end_stops     where one of them stops, behind those that hold
--   further_hold                                         all of them hold
use Rattle.std.proofs.Common.{ℕ, ◌<◌, List, [], ◌∷◌, ◌++◌, length, refl, sym, ap, ◌∙◌, append_assoc}
use Rattle.algebra.specs.Each.{Each}
use Rattle.algebra.proofs.Each.{each-append}
use Rattle.loops.specs.Program.{Expr, Program}
use Rattle.rounds.specs.Start.{start_list}
use Rattle.corollaries.specs.Full.{FullCertificate}
use Rattle.corollaries.specs.Parts.{Part, in_forms, in_start, at_end, Holds, form_parts, start_parts, round_parts}
use Rattle.cert_checker.specs.Further.{further_parts}
use Rattle.cert_checker.specs.Parts.{part_of, in_forms as forms_stop_as, in_starts as starts_stop_as}
use Rattle.cert_checker.specs.FullStops.{IsStop, StopsAt}
use Rattle.cert_checker.specs.FullWide.{IsPastPart}
use Rattle.cert_checker.specs.declared.full_part.Part.{Part as Found}
use Rattle.cert_checker.specs.declared.full_part.Part.TheVariants as part
use Rattle.cert_checker.specs.declared.full_stop.Stop.{Stop}
use Rattle.cert_checker.proofs.Stopping.{stop_in, numbers_hold, numbers_stop}

module _ (program : Program (Expr ℕ)) (c : FullCertificate) where
  abbrev P : Part → Type 0
  P = Holds program c

  abbrev W : Part → Type 0
  W = IsPastPart program c

  abbrev forms : List Part
  forms = form_parts program c

  abbrev starts : List Part
  starts = start_parts program c

  abbrev rounds : List Part
  rounds = round_parts program c

  abbrev further : List Part
  further = further_parts program c

  pub forms_hold : ((b : ℕ) → b < length program.branches → P (in_forms b)) → Each P forms
  forms_hold h = numbers_hold P in_forms (length program.branches) h

  pub starts_hold : ((i : ℕ) → i < length (start_list program) → P (in_start i)) → Each P starts
  starts_hold h = numbers_hold P in_start (length (start_list program)) h

  pub forms_stop : (e : Stop ℕ) → StopsAt (λ b. P (in_forms b)) (λ b. W (in_forms b))
      (length program.branches) e → IsStop part_of P W further (forms_stop_as e)
  unfolding Each
  forms_stop e s = stop_in _ _ W _ [] forms _ refl tt _
      (numbers_stop _ P W in_forms _ (λ b. part.Form b) (λ i. refl) e s)

  pub starts_stop : Each P forms → (e : Stop ℕ) → StopsAt (λ i. P (in_start i))
      (λ i. W (in_start i)) (length (start_list program)) e
      → IsStop part_of P W further (starts_stop_as e)
  starts_stop h e s = stop_in _ _ W _ forms starts (rounds ++ at_end ∷ []) refl h _
      (numbers_stop _ P W in_start _ (λ i. part.Start i) (λ i. refl) e s)

  pub rounds_stop : Each P forms → Each P starts → (e : Stop Found) → IsStop part_of P W rounds e
      → IsStop part_of P W further e
  rounds_stop h k e s = stop_in _ _ W _ (forms ++ starts) rounds (at_end ∷ [])
      (sym (append_assoc forms starts (rounds ++ at_end ∷ []))) (each-append P forms starts h k) e s

  pub end_stops : Each P forms → Each P starts → Each P rounds → (e : Stop Found)
      → IsStop part_of P W (at_end ∷ []) e → IsStop part_of P W further e
  end_stops h k l e s = stop_in _ _ W _ (forms ++ (starts ++ rounds)) (at_end ∷ []) []
      (ap (λ ps. forms ++ ps) (sym (append_assoc starts rounds (at_end ∷ [])))
      ∙ sym (append_assoc forms (starts ++ rounds) (at_end ∷ [])))
      (each-append P forms (starts ++ rounds) h (each-append P starts rounds k l)) e s

  pub further_hold : Each P forms → Each P starts → Each P rounds → Each P (at_end ∷ [])
      → Each P further
  further_hold h k l m = each-append P forms _ h
      (each-append P starts (rounds ++ at_end ∷ []) k (each-append P rounds (at_end ∷ []) l m))
