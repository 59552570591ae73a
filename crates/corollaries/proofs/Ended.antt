-- A journal that has ended: its list is the one reduced basis of what is zero at the end of every run, at the places that are shown.
--   ended_basis, ended_generates, one_basis                        of a loop
--   relations_basis, relations_generate, one_relations_basis       of sequences
use Rattle.std.proofs.Common.{◌≡◌, ℕ, ◌+◌, List, map, length, sym, ap, subst, ◌∙◌}
use Rattle.std.specs.Prelude.{◌↔◌}
use Rattle.algebra.specs.Fraction.{Fraction, ℚ, rationals}
use Rattle.algebra.proofs.Fractions.{ℚ_field}
use Rattle.polynomials.specs.Terms.{Terms}
use Rattle.polynomials.specs.Order.{grevlex}
use Rattle.polynomials.specs.Polynomial.{Arity, IsPolynomial}
use Rattle.polynomials.proofs.Orders.{grevlex_order}
use Rattle.ideals.specs.Members.{IsMember}
use Rattle.machines.specs.Elimination.{in_front}
use Rattle.machines.specs.Journal.{Entry}
use Rattle.machines.specs.Reduced.{IsReducedFor, IsReducedBasis}
use Rattle.machines.proofs.Ends.{reduced_along}
use Rattle.machines.proofs.Places.{in_slice}
use Rattle.machines.proofs.Reducing.{one_reduced}
use Rattle.loops.specs.Program.{Expr, Program}
use Rattle.loops.specs.WellFormed.{IsWellFormed}
use Rattle.rounds.proofs.Theorem.{finished_generates}
use Rattle.loops.specs.Sequences.{Sequence, AreFormed}
use Rattle.loops.specs.Turning.{names, first_places, program_of}
use Rattle.loops.specs.Relations.{IsRelation, IsShown}
use Rattle.loops.proofs.RecurrencesFormed.{program_formed}
use Rattle.loops.proofs.Relations.{of_loop, length-shown}
use Rattle.loops.proofs.RecurrenceStarts.{length-names}
use Rattle.corollaries.specs.Order.{hidden, visible, in_order, starting}
use Rattle.corollaries.specs.Journal.{IsEnded}
use Rattle.corollaries.proofs.Ordered.{ordered_arity, ordered_members}
use Rattle.corollaries.proofs.Eliminated.{eliminated_basis}
use Rattle.corollaries.proofs.Shown.{visible_shown}

module _ {At : Type 0} (program : Program (Expr At)) (is : List ℕ) (es : List Entry)
    (hs : List (Terms Fraction)) (ended : IsEnded program is es hs) where
  abbrev n : ℕ
  n = length program.names

  abbrev a : ℕ
  a = length (hidden (length program.names) is)

  abbrev b : ℕ
  b = length (visible (length program.names) is)

  basis : IsReducedBasis rationals grevlex (length (visible (length program.names) is)) hs
      (λ y. IsMember ℚ (length (hidden (length program.names) is) + length
      (visible (length program.names) is)) (map (in_order (length program.names) is) ended.basis)
      (in_front (length (hidden (length program.names) is)) y))
  unfolding starting
  basis = subst (λ l. IsReducedBasis rationals grevlex b l
      (λ y. IsMember ℚ (a + b) (map (in_order n is) ended.basis) (in_front a y)))
      (sym ended.behind.list)
      (eliminated_basis a b (map (in_order n is) ended.basis)
      (ordered_arity n is ended.basis) ended.behind.finished.work.events ended.behind.last
      ended.behind.finished.work.run ended.behind.finished.ended)

  module _ (w : IsWellFormed program) where
    members : (p : Terms Fraction) → Arity b p
        → IsMember ℚ (a + b) (map (in_order n is) ended.basis) (in_front a p) ↔ IsShown program
        (visible n is) p
    members p h = ordered_members program is ended.basis
        (finished_generates program w ended.analysed ended.rounds ended.basis ended.finished) p h

    pub ended_basis : IsReducedFor rationals grevlex (length (visible (length program.names) is)) hs
        (IsShown program (visible (length program.names) is))
    ended_basis = reduced_along ℚ_field grevlex grevlex_order b hs
        (λ y. IsMember ℚ (a + b) (map (in_order n is) ended.basis) (in_front a y))
        (IsShown program (visible n is)) (λ p h. members p h.arity) basis.reduced

    pub ended_generates : (p : Terms Fraction)
        → IsPolynomial ℚ grevlex (length (visible (length program.names) is)) p
        → IsMember ℚ (length (visible (length program.names) is)) hs p
        ↔ IsShown program (visible (length program.names) is) p
    ended_generates p h =
        let g = basis.generates p h in
        let m = members p h.arity in
        ((λ i. m.0 (g.0 i)), (λ i. g.1 (m.1 i)))

    pub one_basis : (ks : List (Terms Fraction))
        → IsReducedFor rationals grevlex (length (visible (length program.names) is)) ks
        (IsShown program (visible (length program.names) is)) → ks ≡ hs
    one_basis ks r =
        let same : (p : Terms Fraction) → IsPolynomial ℚ grevlex b p
        → IsShown program (visible n is) p ↔ IsMember ℚ b hs p =
        λ p h. let g = ended_generates p h in ((λ i. g.1 i), (λ i. g.0 i)) in
        one_reduced ℚ_field grevlex grevlex_order b hs
        (λ j g at. basis.reduced.polynomials g (in_slice hs j g at)) ks hs
        (reduced_along ℚ_field grevlex grevlex_order b ks (IsShown program (visible n is))
        (IsMember ℚ b hs) same r)
        (reduced_along ℚ_field grevlex grevlex_order b hs (IsShown program (visible n is))
        (IsMember ℚ b hs) same ended_basis)

module _ {At : Type 0} (qs : List (Sequence (Expr At))) (formed : AreFormed qs) (es : List Entry)
    (hs : List (Terms Fraction)) (ended : IsEnded (program_of qs) (first_places 0 qs) es hs) where
  abbrev v : List ℕ
  v = visible (length (names qs)) (first_places 0 qs)

  seen : visible (length (names qs)) (first_places 0 qs) ≡ first_places 0 qs
  seen = ap (λ m. visible m (first_places 0 qs)) (length-names qs) ∙ visible_shown qs

  long : length (visible (length (names qs)) (first_places 0 qs)) ≡ length qs
  long = ap length seen ∙ length-shown 0 qs

  same : (p : Terms Fraction) → IsShown (program_of qs) v p ↔ IsRelation qs p
  same p = let o = of_loop qs formed p in (
    (λ i. o.1 (subst (λ l. IsShown (program_of qs) l p) seen i)),
    (λ i. subst (λ l. IsShown (program_of qs) l p) (sym seen) (o.0 i)),
  )

  pub relations_basis : IsReducedFor rationals grevlex (length qs) hs (IsRelation qs)
  relations_basis = reduced_along ℚ_field grevlex grevlex_order (length qs) hs
      (IsShown (program_of qs) v) (IsRelation qs) (λ p h. same p)
      (subst (λ m. IsReducedFor rationals grevlex m hs (IsShown (program_of qs) v)) long
      (ended_basis (program_of qs) (first_places 0 qs) es hs ended (program_formed qs formed)))

  pub relations_generate : (p : Terms Fraction) → IsPolynomial ℚ grevlex (length qs) p
      → IsMember ℚ (length qs) hs p ↔ IsRelation qs p
  relations_generate p h =
      let v = visible (length (names qs)) (first_places 0 qs) in
      let all : (q : Terms Fraction) → IsPolynomial ℚ grevlex (length qs) q
      → IsMember ℚ (length qs) hs q ↔ IsShown (program_of qs) v q =
      subst (λ m. (q : Terms Fraction) → IsPolynomial ℚ grevlex m q
      → IsMember ℚ m hs q ↔ IsShown (program_of qs) v q) long
      (ended_generates (program_of qs) (first_places 0 qs) es hs ended
      (program_formed qs formed)) in
      let g = all p h in let s = same p in
      ((λ i. s.0 (g.0 i)), (λ i. g.1 (s.1 i)))

  pub one_relations_basis : (ks : List (Terms Fraction))
      → IsReducedFor rationals grevlex (length qs) ks (IsRelation qs) → ks ≡ hs
  one_relations_basis ks r =
      one_basis (program_of qs) (first_places 0 qs) es hs ended (program_formed qs formed) ks
      (subst (λ m. IsReducedFor rationals grevlex m ks (IsShown (program_of qs) v)) (sym long)
      (reduced_along ℚ_field grevlex grevlex_order (length qs) ks (IsRelation qs)
      (IsShown (program_of qs) v) (λ p h. ((λ i. (same p).1 i), (λ i. (same p).0 i))) r))
