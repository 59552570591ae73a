-- The laws of loop texts, from those of all grammars.
--   loops_spelled             each text is spelled by bytes
--   loop_read, loop_fault     what is read, and what is refused
use Rattle.std.proofs.Common.{◌≡◌, ℕ, List, length, refl, ap, sym, ◌∙◌, nat_lt, Option, Some, Result, Ok, Err, ◌↔◌}
use Rattle.loops.specs.Program.{Program, Expr}
use Rattle.grammars.specs.Grammar.{Placed}
use Rattle.grammars.specs.Reader.{ReadResult}
use Rattle.grammars.specs.FirstFault.{IsFirstFault}
use Rattle.grammars.specs.Spelled.{IsRead, AreSpelled, spelled_marks}
use Rattle.grammars.proofs.Automata.{leads}
use Rattle.poly_text.specs.Lexemes.{Lexeme, tokens}
use Rattle.poly_text.specs.Reasons.{Reason, Fault}
use Rattle.poly_text.specs.Told.{told}
use Rattle.poly_text.specs.Sums.{a_sum, a_factor}
use Rattle.poly_text.proofs.SumChecked.{kinds_exact, sum_leads}
use Rattle.poly_text.proofs.LexemeRuns.{Place, outside, guarded, behind, moves, alike, texts_spelled}
use Rattle.poly_text.proofs.WholeTexts.{texts_read, texts_refused, Outcome, is_read, is_refused, outcome}
use Rattle.loop_text.specs.Loops.{LoopContext, LoopValue, LoopState, LoopRule, of_sums, more_values, rule_says, loop_language, whole_loop, nothing}
use Rattle.loop_text.specs.LoopReader.{program_in, fault_at, program_or_fault, loop_of}
use Rattle.loop_text.proofs.LoopChecked.{by_more, loops_checked, loop_whole}

-- no rule begins or ends in a guard
rules_lead : (n : LoopRule) (c : LoopContext) (p q : Place) → sum_leads p ≡ Some q
    → leads loop_language moves alike (λ n. sum_leads) (rule_says n c) p ≡ Some q
rules_lead (of_sums a_sum) c outside q e = e
rules_lead (of_sums a_factor) c outside q e = e
rules_lead more_values c outside q e =
    by_more (λ g. leads loop_language moves alike (λ n. sum_leads) g outside ≡ Some q) e e
    (nat_lt c.values (length c.targets))
rules_lead n c guarded q e = absurd (cc)
rules_lead n c behind q e = absurd (cc)

loops_spelled : AreSpelled loop_language whole_loop nothing tokens
loops_spelled = texts_spelled loop_language (λ n. sum_leads) kinds_exact (λ x. refl) rules_lead
    whole_loop refl nothing

abbrev program_told : ReadResult Lexeme LoopContext LoopValue Reason
    → Result (Program (Expr ℕ)) Fault
program_told a = program_or_fault (told a)

module _ (bytes : List ℕ) where
  abbrev LoopOutcome : Type 0
  LoopOutcome = Outcome loop_language loops_checked whole_loop loop_whole nothing loops_spelled
      bytes

  loop_outcome : LoopOutcome
  loop_outcome = outcome loop_language loops_checked whole_loop loop_whole nothing loops_spelled
      bytes

  abbrev Says : Program (Expr ℕ) → Type 0
  Says program = (s : LoopState) × IsRead loop_language whole_loop nothing (tokens bytes) s
      × (program_in s ≡ program)

  pub loop_read : (program : Program (Expr ℕ)) → (loop_of bytes ≡ Ok program) ↔ Says program
  loop_read program = (forth loop_outcome, back)
    where
      forth : LoopOutcome → loop_of bytes ≡ Ok program → Says program
      forth (is_read s h) e =
          let same : ◌≡◌ {A = Result (Program (Expr ℕ)) Fault} (Ok (program_in s)) (Ok program) =
          sym (ap program_told h) ∙ e in (
            s,
            (texts_read loop_language loops_checked whole_loop loop_whole nothing loops_spelled
                bytes s).0 h,
            cc,
          )
      forth (is_refused x why h) e = let no : ◌≡◌ {A = Result (Program (Expr ℕ)) Fault}
          (Err (fault_at x why)) (Ok program) = sym (ap program_told h) ∙ e in absurd (cc)

      back : Says program → loop_of bytes ≡ Ok program
      back (s, is, e) =
          ap program_told ((texts_read loop_language loops_checked whole_loop loop_whole nothing
          loops_spelled bytes s).1 is) ∙ ap Ok e

  abbrev Refuses : Fault → Type 0
  Refuses f = (x : Placed Lexeme) × (why : Option Reason)
      × IsFirstFault (spelled_marks loop_language whole_loop nothing tokens) (tokens bytes) x why
      × (fault_at x why ≡ f)

  pub loop_fault : (f : Fault) → (loop_of bytes ≡ Err f) ↔ Refuses f
  loop_fault f = (forth loop_outcome, back)
    where
      forth : LoopOutcome → loop_of bytes ≡ Err f → Refuses f
      forth (is_read s h) e = let no : ◌≡◌ {A = Result (Program (Expr ℕ)) Fault} (Ok (program_in s))
          (Err f) = sym (ap program_told h) ∙ e in absurd (cc)
      forth (is_refused x why h) e =
          let same : ◌≡◌ {A = Result (Program (Expr ℕ)) Fault} (Err (fault_at x why)) (Err f) =
          sym (ap program_told h) ∙ e in (
            x,
            why,
            (texts_refused loop_language loops_checked whole_loop loop_whole nothing
                loops_spelled bytes x why).0 h,
            cc,
          )

      back : Refuses f → loop_of bytes ≡ Err f
      back (x, why, is, e) =
          ap program_told ((texts_refused loop_language loops_checked whole_loop loop_whole nothing
          loops_spelled bytes x why).1 is) ∙ ap Err e
