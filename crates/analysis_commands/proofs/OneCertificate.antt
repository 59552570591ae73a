-- What is printed of an analysis is a function of the loop.
--   one_steps            the cofactors of the divisions that close a list are one list
--   one_certificate      finished analyses of a loop have one list, with these cofactors
--   one_text             so one text is told
use Rattle.std.proofs.Common.{◌≡◌, ℕ, ◌<◌, List, [], get_or, refl, sym, ap, ap₂, subst, ◌∙◌, Ok}
use Rattle.std.specs.Prelude.{None}
use Rattle.std.proofs.lemmas.List.{ext_get_or}
use Rattle.algebra.specs.Fraction.{Fraction, rationals}
use Rattle.polynomials.specs.Order.{grevlex}
use Rattle.polynomials.specs.Terms.{Terms}
use Rattle.machines.specs.Division as division
use Rattle.machines.specs.Journal.{Journal, Entry}
use Rattle.machines.proofs.Runs.{ended_unique}
use Rattle.loops.specs.Certificate.{Certificate}
use Rattle.loops.specs.Program.{Expr, Program}
use Rattle.loops.specs.WellFormed.{IsWellFormed}
use Rattle.rounds.specs.Analysis.{Setting, pullback}
use Rattle.rounds.specs.Form.{Form}
use Rattle.rounds.specs.Journal.{setting_of, IsFinished}
use Rattle.rounds.proofs.Forms.{forms_are_one}
use Rattle.rounds.proofs.Theorem.{same_basis_same}
use Rattle.loop_text.proofs.WellFormed.{loop_well}
use Rattle.invariant_fix.specs.Closing.{IsClosing, AreBranchSteps, AreSteps}
use Rattle.analysis_commands.specs.declared.kind.Kind.{Kind}
use Rattle.analysis_commands.specs.Certificates.{found_text}
use Rattle.analysis_commands.specs.Causes.{IsClosed}

-- ---- one list of cofactors
module _ (A : Setting) (gs : List (Terms Fraction)) where
  one_closing : (b i : ℕ) (ps qs : List (Terms Fraction)) → IsClosing A b i gs ps
      → IsClosing A b i gs qs → ps ≡ qs
  one_closing b i ps qs x y =
      let u = ended_unique (division.next rationals grevlex gs)
      (division.initial_state gs (pullback A b (get_or gs i []))) x.last y.last x.leads.events
      y.leads.events x.leads.run x.ended y.leads.run y.ended in
      x.cofactors ∙ (ap (λ (s : division.State Fraction). s.cofactors) u.1 ∙ sym y.cofactors)

  one_branch : (b : ℕ) (ps qs : List (List (Terms Fraction))) → AreBranchSteps A b gs ps
      → AreBranchSteps A b gs qs → ps ≡ qs
  one_branch b ps qs x y = ext_get_or [] ps qs (x.count ∙ sym y.count) (λ i less.
      let l = subst (λ n. i < n) x.count less in
      one_closing b i (get_or ps i []) (get_or qs i []) (x.each i l) (y.each i l))

  pub one_steps : (ps qs : List (List (List (Terms Fraction)))) → AreSteps A gs ps
      → AreSteps A gs qs → ps ≡ qs
  one_steps ps qs x y = ext_get_or [] ps qs (x.count ∙ sym y.count) (λ b less.
      let l = subst (λ n. b < n) x.count less in
      one_branch b (get_or ps b []) (get_or qs b []) (x.each b l) (y.each b l))

-- ---- one certificate
abbrev made : List (Terms Fraction) → List (List (List (Terms Fraction))) → Certificate
made gs steps = record { basis = gs; steps = steps }

-- the analysis that ended with the list of c, and was closed by its cofactors
abbrev IsClosedAt : List Entry → ℕ → Certificate → Program (Expr ℕ) → Type 0
IsClosedAt es k c l = (f : IsFinished l es k c.basis)
    × AreSteps (setting_of l f.follows.forms None) c.basis c.steps

module _ (l : Program (Expr ℕ)) (w : IsWellFormed l) (es fs : List Entry) (k j : ℕ)
    (c d : Certificate) (a : IsClosedAt es k c l) (b : IsClosedAt fs j d l) where
  bases : c.basis ≡ d.basis
  bases = (same_basis_same l l w w refl es fs k j c.basis d.basis a.0 b.0).1
      (λ p. ((λ i. i), (λ i. i)))

  forms : b.0.follows.forms ≡ a.0.follows.forms
  forms = forms_are_one l _ _ b.0.follows.are_forms a.0.follows.are_forms

  steps_here : AreSteps (setting_of l a.0.follows.forms None) c.basis d.steps
  steps_here = subst (λ gs. AreSteps (setting_of l a.0.follows.forms None) gs d.steps) (sym bases)
      (subst (λ (fs : List Form). AreSteps (setting_of l fs None) d.basis d.steps) forms b.1)

  pub one_certificate : c ≡ d
  one_certificate = ap₂ made bases
      (one_steps (setting_of l a.0.follows.forms None) c.basis c.steps d.steps a.1 steps_here)

pub one_text : (kind : Kind) (text said other : List ℕ) (m k : Journal) → IsClosed kind text m said
    → IsClosed kind text k other → said ≡ other
one_text kind text said other m k a b =
    let same : b.loop ≡ a.loop =
    (let x : Ok b.loop ≡ Ok a.loop = sym b.is_loop ∙ a.is_loop in cc) in
    let here = subst (IsClosedAt k.entries b.rounds b.certificate) same (b.finished, b.steps) in
    let one = one_certificate a.loop (loop_well text a.loop a.is_loop).formed m.entries k.entries
    a.rounds b.rounds a.certificate b.certificate (a.finished, a.steps) here in
    a.says ∙ (ap₂ (λ (l : Program (Expr ℕ)) c. found_text kind l.names c) (sym same) one
    ∙ sym b.says)
