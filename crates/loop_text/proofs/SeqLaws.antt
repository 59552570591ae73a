-- The laws of texts of sequences, from those of all grammars.
--   seqs_spelled             each text is spelled by bytes
--   seqs_read, seqs_fault     what is read, and what is refused
use Rattle.std.proofs.Common.{◌≡◌, ℕ, List, length, refl, ap, sym, ◌∙◌, nat_lt, Option, Some, Result, Ok, Err, ◌↔◌}
use Rattle.loops.specs.Program.{Expr}
use Rattle.loops.specs.Limits.{most_names}
use Rattle.loops.specs.Sequences.{Sequence}
use Rattle.grammars.specs.Grammar.{Placed}
use Rattle.grammars.specs.Reader.{ReadResult}
use Rattle.grammars.specs.FirstFault.{IsFirstFault}
use Rattle.grammars.specs.Spelled.{IsRead, AreSpelled, spelled_marks}
use Rattle.grammars.proofs.Automata.{leads}
use Rattle.poly_text.specs.Lexemes.{Lexeme, tokens}
use Rattle.poly_text.specs.Reasons.{Reason, Fault}
use Rattle.poly_text.specs.Told.{told}
use Rattle.poly_text.specs.Sums.{a_sum, a_factor}
use Rattle.poly_text.proofs.SumChecked.{kinds_exact, sum_leads}
use Rattle.poly_text.proofs.LexemeRuns.{Place, outside, guarded, behind, moves, alike, texts_spelled}
use Rattle.poly_text.proofs.WholeTexts.{texts_read, texts_refused, Outcome, is_read, is_refused, outcome}
use Rattle.loop_text.specs.Seqs.{SeqContext, SeqValue, SeqState, SeqRule, of_values, of_nexts, a_value, more_nexts, rule_says, seq_language, whole_seqs, nothing}
use Rattle.loop_text.specs.SeqReader.{sequences_in, fault_at, sequences_or_fault, sequences_of}
use Rattle.loop_text.proofs.SeqChecked.{by_value, by_next, seqs_checked, seqs_whole}

-- no rule begins or ends in a guard
rules_lead : (n : SeqRule) (c : SeqContext) (p q : Place) → sum_leads p ≡ Some q
    → leads seq_language moves alike (λ n. sum_leads) (rule_says n c) p ≡ Some q
rules_lead (of_values a_sum) c outside q e = e
rules_lead (of_values a_factor) c outside q e = e
rules_lead (of_nexts a_sum) c outside q e = e
rules_lead (of_nexts a_factor) c outside q e = e
rules_lead a_value c outside q e =
    by_value (λ g. leads seq_language moves alike (λ n. sum_leads) g outside ≡ Some q) e e
    (nat_lt (length c.variables) most_names)
rules_lead more_nexts c outside q e =
    by_next (λ g. leads seq_language moves alike (λ n. sum_leads) g outside ≡ Some q) e e
    (nat_lt c.nexts (length c.sequences))
rules_lead n c guarded q e = absurd (cc)
rules_lead n c behind q e = absurd (cc)

seqs_spelled : AreSpelled seq_language whole_seqs nothing tokens
seqs_spelled = texts_spelled seq_language (λ n. sum_leads) kinds_exact
    (λ x. refl) rules_lead whole_seqs refl nothing

abbrev sequences_told : ReadResult Lexeme SeqContext SeqValue Reason
    → Result (List (Sequence (Expr ℕ))) Fault
sequences_told a = sequences_or_fault (told a)

module _ (bytes : List ℕ) where
  abbrev SeqOutcome : Type 0
  SeqOutcome = Outcome seq_language seqs_checked whole_seqs seqs_whole nothing seqs_spelled bytes

  seq_outcome : SeqOutcome
  seq_outcome = outcome seq_language seqs_checked whole_seqs seqs_whole nothing seqs_spelled bytes

  abbrev Says : List (Sequence (Expr ℕ)) → Type 0
  Says qs = (s : SeqState) × IsRead seq_language whole_seqs nothing
      (tokens bytes) s × (sequences_in s ≡ qs)

  pub seqs_read : (qs : List (Sequence (Expr ℕ))) → (sequences_of bytes ≡ Ok qs) ↔ Says qs
  seqs_read qs = (forth seq_outcome, back)
    where
      forth : SeqOutcome → sequences_of bytes ≡ Ok qs → Says qs
      forth (is_read s h) e =
          let same : ◌≡◌ {A = Result (List (Sequence (Expr ℕ))) Fault} (Ok (sequences_in s))
          (Ok qs) = sym (ap sequences_told h) ∙ e in (
            s,
            (texts_read seq_language seqs_checked whole_seqs seqs_whole nothing seqs_spelled bytes
                s).0 h,
            cc,
          )
      forth (is_refused x why h) e =
          let no : ◌≡◌ {A = Result (List (Sequence (Expr ℕ))) Fault} (Err (fault_at x why))
          (Ok qs) = sym (ap sequences_told h) ∙ e in absurd (cc)

      back : Says qs → sequences_of bytes ≡ Ok qs
      back (s, is, e) = ap sequences_told
          ((texts_read seq_language seqs_checked whole_seqs seqs_whole nothing seqs_spelled bytes
          s).1 is) ∙ ap Ok e

  abbrev Refuses : Fault → Type 0
  Refuses f = (x : Placed Lexeme) × (why : Option Reason) × IsFirstFault
      (spelled_marks seq_language whole_seqs nothing tokens)
      (tokens bytes) x why × (fault_at x why ≡ f)

  pub seqs_fault : (f : Fault) → (sequences_of bytes ≡ Err f) ↔ Refuses f
  seqs_fault f = (forth seq_outcome, back)
    where
      forth : SeqOutcome → sequences_of bytes ≡ Err f → Refuses f
      forth (is_read s h) e =
          let no : ◌≡◌ {A = Result (List (Sequence (Expr ℕ))) Fault} (Ok (sequences_in s)) (Err f) =
          sym (ap sequences_told h) ∙ e in absurd (cc)
      forth (is_refused x why h) e =
          let same : ◌≡◌ {A = Result (List (Sequence (Expr ℕ))) Fault} (Err (fault_at x why))
          (Err f) = sym (ap sequences_told h) ∙ e in (
            x,
            why,
            (texts_refused seq_language seqs_checked whole_seqs seqs_whole nothing
                seqs_spelled bytes x why).0 h,
            cc,
          )

      back : Refuses f → sequences_of bytes ≡ Err f
      back (x, why, is, e) =
          ap sequences_told ((texts_refused seq_language seqs_checked whole_seqs seqs_whole nothing
          seqs_spelled bytes x why).1 is) ∙ ap Err e
