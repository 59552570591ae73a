-- The laws of texts of programs, from those of all grammars.
--   programs_spelled                each text is spelled by bytes
--   program_read, program_fault     what is read, and what is refused
use Rattle.std.proofs.Common.{◌≡◌, ℕ, List, length, refl, ap, sym, ◌∙◌, nat_lt, Option, Some, None, Result, Ok, Err, ◌↔◌}
use Rattle.loops.specs.Program.{Expr}
use Rattle.program_model.specs.Program.{Program}
use Rattle.grammars.specs.Grammar.{Placed}
use Rattle.grammars.specs.Reader.{ReadResult}
use Rattle.grammars.specs.FirstFault.{IsFirstFault}
use Rattle.grammars.specs.Spelled.{IsRead, AreSpelled, spelled_marks}
use Rattle.grammars.proofs.Automata.{leads}
use Rattle.program_text.specs.Lexemes.{Lexeme, tokens}
use Rattle.poly_text.specs.Reasons.{Reason, Fault}
use Rattle.program_text.specs.Told.{told}
use Rattle.program_text.specs.Sums.{a_sum, a_factor, a_divisor}
use Rattle.program_text.proofs.SumChecked.{kinds_exact, by_free}
use Rattle.program_text.proofs.LexemeRuns.{Place, outside, guarded, behind, moves, alike, texts_spelled}
use Rattle.program_text.proofs.Outcomes.{texts_read, texts_refused, Outcome, is_read, is_refused, outcome}
use Rattle.program_text.specs.Words as words
use Rattle.loop_model.specs.Words as loop_words
use Rattle.program_text.specs.Programs.{ProgramContext, ProgramValue, ProgramState, ProgramRule, of_sums, more_values, a_statement, an_if, rule_says, program_language, whole_program, nothing, sums_in_programs}
use Rattle.grammars.specs.Embedded.{lift}
use Rattle.program_text.specs.ProgramReader.{program_in, fault_at, program_or_fault, text_of}
use Rattle.program_text.proofs.ProgramChecked.{by_more, programs_checked, program_whole}

-- a rule begins and ends outside of guards
abbrev ends_outside : Place → Option Place
ends_outside outside = Some outside
ends_outside guarded = None
ends_outside behind = None

rules_lead : (n : ProgramRule) (c : ProgramContext) (p q : Place) → ends_outside p ≡ Some q
    → leads program_language moves alike (λ n. ends_outside) (rule_says n c) p ≡ Some q
unfolding words.keyword_of loop_words.keyword_of
rules_lead (of_sums a_sum) c outside q e = e
rules_lead (of_sums a_factor) c outside q e = e
rules_lead (of_sums a_divisor) c outside q e =
    by_free (λ g. leads program_language moves alike (λ n. ends_outside) (lift sums_in_programs g)
    outside ≡ Some q) e e c.sum.free
rules_lead more_values c outside q e =
    by_more (λ g. leads program_language moves alike (λ n. ends_outside) g outside ≡ Some q) e e
    (nat_lt c.values (length c.targets))
rules_lead a_statement c outside q e = e
rules_lead an_if c outside q e = e
rules_lead n c guarded q e = absurd (cc)
rules_lead n c behind q e = absurd (cc)

programs_spelled : AreSpelled program_language whole_program nothing tokens
programs_spelled = texts_spelled program_language (λ n. ends_outside) kinds_exact (λ x. refl)
    rules_lead
    whole_program refl nothing

abbrev program_told : List ℕ → ReadResult Lexeme ProgramContext ProgramValue Reason
    → Result (Program (Expr ℕ)) Fault
program_told bytes a = program_or_fault bytes (told a)

module _ (bytes : List ℕ) where
  abbrev ProgramOutcome : Type 0
  ProgramOutcome = Outcome program_language programs_checked whole_program program_whole nothing
      programs_spelled
      bytes

  program_outcome : ProgramOutcome
  program_outcome = outcome program_language programs_checked whole_program program_whole nothing
      programs_spelled
      bytes

  abbrev Says : Program (Expr ℕ) → Type 0
  Says program = (s : ProgramState) × IsRead program_language whole_program nothing (tokens bytes) s
      × (program_in bytes s ≡ program)

  pub program_read : (program : Program (Expr ℕ)) → (text_of bytes ≡ Ok program) ↔ Says program
  program_read program = (forth program_outcome, back)
    where
      forth : ProgramOutcome → text_of bytes ≡ Ok program → Says program
      forth (is_read s h) e =
          let same : ◌≡◌ {A = Result (Program (Expr ℕ)) Fault} (Ok (program_in bytes s))
          (Ok program) =
          sym (ap (program_told bytes) h) ∙ e in (
            s,
            (texts_read program_language programs_checked whole_program program_whole nothing
                programs_spelled
                bytes s).0 h,
            cc,
          )
      forth (is_refused x why h) e = let no : ◌≡◌ {A = Result (Program (Expr ℕ)) Fault}
          (Err (fault_at x why)) (Ok program) = sym (ap (program_told bytes) h) ∙ e in absurd (cc)

      back : Says program → text_of bytes ≡ Ok program
      back (s, is, e) =
          ap (program_told bytes) ((texts_read program_language programs_checked whole_program
          program_whole nothing
          programs_spelled bytes s).1 is) ∙ ap Ok e

  abbrev Refuses : Fault → Type 0
  Refuses f = (x : Placed Lexeme) × (why : Option Reason)
      × IsFirstFault (spelled_marks program_language whole_program nothing tokens) (tokens bytes) x
      why
      × (fault_at x why ≡ f)

  pub program_fault : (f : Fault) → (text_of bytes ≡ Err f) ↔ Refuses f
  program_fault f = (forth program_outcome, back)
    where
      forth : ProgramOutcome → text_of bytes ≡ Err f → Refuses f
      forth (is_read s h) e = let no : ◌≡◌ {A = Result (Program (Expr ℕ)) Fault}
          (Ok (program_in bytes s))
          (Err f) = sym (ap (program_told bytes) h) ∙ e in absurd (cc)
      forth (is_refused x why h) e =
          let same : ◌≡◌ {A = Result (Program (Expr ℕ)) Fault} (Err (fault_at x why)) (Err f) =
          sym (ap (program_told bytes) h) ∙ e in (
            x,
            why,
            (texts_refused program_language programs_checked whole_program program_whole nothing
                programs_spelled bytes x why).0 h,
            cc,
          )

      back : Refuses f → text_of bytes ≡ Err f
      back (x, why, is, e) =
          ap (program_told bytes) ((texts_refused program_language programs_checked whole_program
          program_whole nothing
          programs_spelled bytes x why).1 is) ∙ ap Err e
