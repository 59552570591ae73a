-- The laws of texts of chains, from those of all grammars.
--   chains_spelled             each text is spelled by bytes
--   chain_read, chain_fault     what is read, and what is refused
use Rattle.std.proofs.Common.{◌≡◌, ℕ, List, length, refl, ap, sym, ◌∙◌, nat_lt, Option, Some, Result, Ok, Err, ◌↔◌}
use Rattle.loops.specs.Program.{Expr}
use Rattle.grammars.specs.Grammar.{Placed}
use Rattle.grammars.specs.Reader.{ReadResult}
use Rattle.grammars.specs.FirstFault.{IsFirstFault}
use Rattle.grammars.specs.Spelled.{IsRead, AreSpelled, spelled_marks}
use Rattle.grammars.proofs.Automata.{leads}
use Rattle.poly_text.specs.Lexemes.{Lexeme, tokens}
use Rattle.poly_text.specs.Reasons.{Reason, Fault}
use Rattle.poly_text.specs.Told.{told}
use Rattle.poly_text.specs.Sums.{a_sum, a_factor}
use Rattle.poly_text.proofs.SumChecked.{kinds_exact, sum_leads}
use Rattle.poly_text.proofs.LexemeRuns.{Place, outside, guarded, behind, moves, alike, texts_spelled}
use Rattle.poly_text.proofs.WholeTexts.{texts_read, texts_refused, Outcome, is_read, is_refused, outcome}
use Rattle.grammars.specs.Embedded.{lift}
use Rattle.loop_text.specs.Loops.{LoopRule, of_sums, more_values, rule_says}
use Rattle.loop_text.specs.LoopReader.{fault_at}
use Rattle.loops.specs.Chain.{Chain}
use Rattle.loop_text.specs.Chains.{ChainContext, ChainValue, ChainState, loops_in_chains, chain_language, whole_chain, chain_nothing}
use Rattle.loop_text.specs.ChainReader.{chain_in, chain_or_fault, chain_of}
use Rattle.loop_text.proofs.ChainChecked.{by_more, chains_checked, chain_whole}

-- no rule begins or ends in a guard
rules_lead : (n : LoopRule) (c : ChainContext) (p q : Place) → sum_leads p ≡ Some q
    → leads chain_language moves alike (λ n. sum_leads) (lift loops_in_chains (rule_says n c.loop))
    p ≡ Some q
rules_lead (of_sums a_sum) c outside q e = e
rules_lead (of_sums a_factor) c outside q e = e
rules_lead more_values c outside q e =
    by_more (λ g. leads chain_language moves alike (λ n. sum_leads) g outside ≡ Some q) e e
    (nat_lt c.loop.values (length c.loop.targets))
rules_lead n c guarded q e = absurd (cc)
rules_lead n c behind q e = absurd (cc)

chains_spelled : AreSpelled chain_language whole_chain chain_nothing tokens
chains_spelled = texts_spelled chain_language (λ n. sum_leads) kinds_exact (λ x. refl) rules_lead
    whole_chain refl chain_nothing

abbrev chain_told : ReadResult Lexeme ChainContext ChainValue Reason → Result (Chain (Expr ℕ)) Fault
chain_told a = chain_or_fault (told a)

module _ (bytes : List ℕ) where
  abbrev ChainOutcome : Type 0
  ChainOutcome = Outcome chain_language chains_checked whole_chain chain_whole chain_nothing
      chains_spelled bytes

  chain_outcome : ChainOutcome
  chain_outcome = outcome chain_language chains_checked whole_chain chain_whole chain_nothing
      chains_spelled bytes

  abbrev Says : Chain (Expr ℕ) → Type 0
  Says c = (s : ChainState) × IsRead chain_language whole_chain chain_nothing (tokens bytes) s
      × (chain_in s ≡ c)

  pub chain_read : (c : Chain (Expr ℕ)) → (chain_of bytes ≡ Ok c) ↔ Says c
  chain_read c = (forth chain_outcome, back)
    where
      forth : ChainOutcome → chain_of bytes ≡ Ok c → Says c
      forth (is_read s h) e =
          let same : ◌≡◌ {A = Result (Chain (Expr ℕ)) Fault} (Ok (chain_in s)) (Ok c) =
          sym (ap chain_told h) ∙ e in (
            s,
            (texts_read chain_language chains_checked whole_chain chain_whole chain_nothing
                chains_spelled bytes s).0 h,
            cc,
          )
      forth (is_refused x why h) e = let no : ◌≡◌ {A = Result (Chain (Expr ℕ)) Fault}
          (Err (fault_at x why)) (Ok c) = sym (ap chain_told h) ∙ e in absurd (cc)

      back : Says c → chain_of bytes ≡ Ok c
      back (s, is, e) =
          ap chain_told ((texts_read chain_language chains_checked whole_chain chain_whole
          chain_nothing chains_spelled bytes s).1 is) ∙ ap Ok e

  abbrev Refuses : Fault → Type 0
  Refuses f = (x : Placed Lexeme) × (why : Option Reason)
      × IsFirstFault (spelled_marks chain_language whole_chain chain_nothing tokens) (tokens bytes)
      x why × (fault_at x why ≡ f)

  pub chain_fault : (f : Fault) → (chain_of bytes ≡ Err f) ↔ Refuses f
  chain_fault f = (forth chain_outcome, back)
    where
      forth : ChainOutcome → chain_of bytes ≡ Err f → Refuses f
      forth (is_read s h) e = let no : ◌≡◌ {A = Result (Chain (Expr ℕ)) Fault} (Ok (chain_in s))
          (Err f) = sym (ap chain_told h) ∙ e in absurd (cc)
      forth (is_refused x why h) e =
          let same : ◌≡◌ {A = Result (Chain (Expr ℕ)) Fault} (Err (fault_at x why)) (Err f) =
          sym (ap chain_told h) ∙ e in (
            x,
            why,
            (texts_refused chain_language chains_checked whole_chain chain_whole
                chain_nothing chains_spelled bytes x why).0 h,
            cc,
          )

      back : Refuses f → chain_of bytes ≡ Err f
      back (x, why, is, e) =
          ap chain_told ((texts_refused chain_language chains_checked whole_chain chain_whole
          chain_nothing chains_spelled bytes x why).1 is) ∙ ap Err e
