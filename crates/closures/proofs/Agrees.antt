-- What a closing of one polynomial answers is so, and it has one end.
--   closed_yes, countered_no     an invariant; none
--   ends_once                    two ends of one closing are the same, and their journals
--   closed_exactly               where a closing ends, it ends with a list exactly for invariants
--   agrees                       so it agrees with the division by the basis of all invariants
--   closing_division             the division of an iteration of a member, by the list, ends with nothing
use Rattle.std.proofs.Common.{◌≡◌, ℕ, List, [], ◌∷◌, length, sym, ap, subst, ◌∙◌, None}
use Rattle.algebra.specs.Each.{Each}
use Rattle.algebra.specs.In.{In}
use Rattle.algebra.proofs.Each.{each_weaker}
use Rattle.algebra.proofs.In.{each_from, in_place}
use Rattle.algebra.specs.Fraction.{Fraction, ℚ, rationals}
use Rattle.algebra.proofs.Fractions.{ℚ_field}
use Rattle.polynomials.specs.Terms.{Terms}
use Rattle.polynomials.specs.Order.{grevlex}
use Rattle.polynomials.specs.Polynomial.{Arity, AllArity, IsPolynomial}
use Rattle.polynomials.proofs.Arity.{arity-compose}
use Rattle.polynomials.proofs.Orders.{grevlex_order}
use Rattle.ideals.specs.Members.{IsMember}
use Rattle.ideals.proofs.FractionMembers.{member_at, member_same}
use Rattle.machines.specs.Collect.{collect}
use Rattle.machines.specs.Division as division
use Rattle.machines.specs.Journal.{Entry}
use Rattle.machines.specs.Reduced.{IsReducedFor}
use Rattle.machines.specs.Run.{HasEnded}
use Rattle.machines.proofs.Collecting.{collect-polynomial, collect-same}
use Rattle.machines.proofs.ReducedLists.{division_decides}
use Rattle.machines.proofs.Runs.{ended_unique}
use Rattle.loops.specs.Program.{Expr, Program}
use Rattle.loops.specs.Inv.{Inv}
use Rattle.loops.specs.WellFormed.{IsWellFormed}
use Rattle.loops.proofs.Maps.{arity-branch_map}
use Rattle.rounds.specs.Journal.{IsAnswered}
use Rattle.rounds.specs.Results.{LeadsTo}
use Rattle.rounds.specs.Word.{IsLetter, after_iteration}
use Rattle.rounds.proofs.Theorem.{answered_decides_all}
use Rattle.corollaries.proofs.Images.{refutes}
use Rattle.closures.specs.Closing.{Candidate, fresh, Step, closed, countered, next, move_of, moves}
use Rattle.closures.specs.Closure.{InClosure}
use Rattle.closures.specs.Ends.{ComesNext}
use Rattle.closures.proofs.Closures.{closure_ideal, closure_kept}
use Rattle.closures.proofs.Ideals.{members_in}
use Rattle.closures.proofs.Ended.{closed_is, closed_invariants, countered_first}

module _ {At : Type 0} (program : Program (Expr At)) where
  abbrev m : ℕ
  m = length program.names

  pub ends_once : (P : List (Terms Fraction)) (es fs : List Entry) (a b : Step)
      → move_of program P a ≡ None → move_of program P b ≡ None → ComesNext program P es a
      → ComesNext program P fs b → (es ≡ fs) × (a ≡ b)
  ends_once P es fs a b ea eb c d =
      let r = ended_unique (moves program P) fresh c.state d.state es fs c.run
      (ap (move_of program P) c.is ∙ ea) d.run (ap (move_of program P) d.is ∙ eb) in
      (r.0, sym c.is ∙ ap (next program P) r.1 ∙ d.is)

  module _ (w : IsWellFormed program) (p : Terms Fraction) (hp : IsPolynomial ℚ grevlex m p) where
    pub closed_yes : (es : List Entry) (gs : List (Terms Fraction))
        → ComesNext program (p ∷ []) es (closed gs) → Inv program p
    unfolding Each
    closed_yes es gs c = (closed_invariants program (p ∷ []) (hp, tt) es gs c).0

    pub countered_no : (es : List Entry) (x : Candidate) (q : Terms Fraction)
        → ComesNext program (p ∷ []) es (countered x q) → Inv program p → ⊥
    countered_no es x q c =
        refutes program p x.word (countered_first program w p hp es x q c).counters

    pub agrees : (es fs : List Entry) (k : ℕ) (bs gs : List (Terms Fraction))
        (s : division.State Fraction) (x : Candidate) (q : Terms Fraction)
        → IsAnswered program p es k bs s
        → (ComesNext program (p ∷ []) fs (closed gs) → s.current ≡ None)
        × (ComesNext program (p ∷ []) fs (countered x q) → s.current ≡ None → ⊥)
    agrees es fs k bs gs s x q a =
        let both = answered_decides_all program w p hp es k bs s a in
        ((λ c. both.1 (closed_yes fs gs c)), (λ c e. countered_no fs x q c (both.0 e)))

  -- the divisions of a certificate
  pub closing_division : (P : List (Terms Fraction)) → Each (IsPolynomial ℚ grevlex m) P
      → (es : List Entry) (gs : List (Terms Fraction)) → ComesNext program P es (closed gs)
      → (b : ℕ) → IsLetter program b → (q : Terms Fraction) → Arity m q → IsMember ℚ m gs q
      → (s : division.State Fraction)
      → LeadsTo (division.next rationals grevlex gs)
      (division.initial_state gs (collect rationals grevlex (after_iteration program b q))) s
      → HasEnded (division.next rationals grevlex gs) s → s.current ≡ None
  closing_division P ps es gs c b l q a i s to e =
      let is = closed_is program P ps es gs c in
      let iteration = after_iteration program b q in
      let ta : Arity m iteration = arity-compose m ℚ q _ (arity-branch_map program _) in
      let pa = each_weaker (IsPolynomial ℚ grevlex m) (Arity m) (λ x h. h.arity) P ps in
      let kept = (closure_kept program P pa).turned b q l (is.generates.only q a i) in
      (division_decides m gs (collect rationals grevlex iteration) to.events s
      (own gs is.reduced) (collect-polynomial ℚ_field grevlex grevlex_order m iteration ta) to.run
      e).0
      (member_same m gs iteration (collect rationals grevlex iteration)
      (collect-same ℚ_field grevlex grevlex_order iteration) (is.generates.all iteration ta kept))
    where
      own : (gs : List (Terms Fraction)) → IsReducedFor rationals grevlex m gs (InClosure program P)
          → IsReducedFor rationals grevlex m gs (IsMember ℚ m gs)
      own gs r = record {
        members = λ g i. in_itself gs (each_from gs (λ g i. (r.polynomials g i).arity)) g i;
        polynomials = r.polynomials;
        nonzero = r.nonzero;
        monic = r.monic;
        ascends = r.ascends;
        led = λ t p h i. r.led t p h (to_closure gs r (t ∷ p) h.arity i);
        clean = r.clean;
      }
        where
          in_itself : (gs : List (Terms Fraction)) → AllArity m gs → (p : Terms Fraction)
              → In p gs → IsMember ℚ m gs p
          in_itself gs ga p i =
              let (j, l, e) = in_place gs [] p i in
              subst (IsMember ℚ m gs) e (member_at m gs ga j l)

          to_closure : (gs : List (Terms Fraction))
              → IsReducedFor rationals grevlex m gs (InClosure program P) → (q : Terms Fraction)
              → Arity m q → IsMember ℚ m gs q → InClosure program P q
          to_closure gs r q a i =
              members_in m (InClosure program P)
              (closure_ideal program P
              (each_weaker (IsPolynomial ℚ grevlex m) (Arity m) (λ x h. h.arity) P ps)) gs q
              (each_from gs (λ g k. r.members g k)) a i
