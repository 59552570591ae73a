-- Where a task of a search has ended, the search goes on by it.
--   job_generators       the generators of its source's list are polynomials
--   job_keeps, job_takes     with all rests 0 its transition is done; with rests these are taken
use Rattle.std.proofs.Common.{◌≡◌, ℕ, zero, suc, ◌+◌, ◌<◌, ◌≤◌, List, [], refl, sym, ap, subst, ◌∙◌, arith}
use Rattle.algebra.specs.Each.{Each}
use Rattle.algebra.specs.In.{In}
use Rattle.algebra.proofs.In.{each_from}
use Rattle.algebra.specs.Fraction.{Fraction, ℚ}
use Rattle.polynomials.specs.Order.{grevlex}
use Rattle.polynomials.specs.Polynomial.{IsPolynomial}
use Rattle.polynomials.specs.Terms.{Terms}
use Rattle.ideals.specs.Members.{IsMember}
use Rattle.machines.specs.Run.{IsRun}
use Rattle.machines.proofs.Places.{in_slice}
use Rattle.flows.specs.Graph.{Transition, Graph, IsGraph}
use Rattle.flows.specs.Family.{after, generators}
use Rattle.flows.specs.Entries.{Entry}
use Rattle.flows.specs.Kept.{Listing, listed, IsExact}
use Rattle.flows.specs.NextTask.{HasJob, target_of}
use Rattle.flows.specs.Searching as search
use Rattle.flows.specs.Searching.{elements, list_at, KeepsTarget, TakesRests, IsBasisFor}
use Rattle.flows.specs.Tasks.{State, Rests, Job, fresh, kept, rested, next, moves}
use Rattle.flows.proofs.InFront.{generators_polynomials}
use Rattle.flows.proofs.Searching.{Holds}
use Rattle.flows.proofs.Sound.{transition_is}
use Rattle.flows.proofs.TaskEnds.{task_kept, task_basis}

module _ (G : Graph) (is : IsGraph G) (d q : ℕ) (big : 2 ≤ q)
    (zeros : (t : Transition) → In t G.transitions
    → Each (IsPolynomial ℚ grevlex (t.unknowns + G.variables)) t.zeros)
    (s : search.State) (h : Holds G is d q big s) (j : Job) (has : HasJob G d q s j) where
  abbrev n : ℕ
  n = G.variables

  abbrev t : Transition
  t = j.transition

  among : In j.transition G.transitions
  among =
      let next = has.next in
      let here = next.is in
      in_slice G.transitions j.place j.transition here.at

  listing_polynomials : (v : ℕ) → v < G.nodes
      → (let x = s.nodes v in x.listing) ≡ listed (list_at s v)
      → Each (IsPolynomial ℚ grevlex n) (list_at s v)
  listing_polynomials zero l e = nothing (list_at s 0) (ap elements h.start)
    where
      nothing : (gs : List (Terms Fraction)) → gs ≡ [] → Each (IsPolynomial ℚ grevlex n) gs
      nothing gs e = subst (Each (IsPolynomial ℚ grevlex n)) (sym e)
          (each_from [] (λ g i. absurd i))
  listing_polynomials (suc v) l e =
      let told = h.lists (suc v) (omega arith) l (list_at s (suc v)) e in
      let tidy = told.tidy in
      each_from (list_at s (suc v)) (λ g i. tidy.polynomials g i)

  source_listed : (l : Listing) (gs : List (Terms Fraction)) → l ≡ listed gs
      → l ≡ listed (elements l)
  source_listed l gs e = subst (λ (l : Listing). l ≡ listed (elements l)) (sym e) refl

  pub job_generators : Each (IsPolynomial ℚ grevlex (t.unknowns + G.variables))
      (generators j.transition (λ v. j.source))
  job_generators =
      let next = has.next in
      let here = next.is in
      generators_polynomials n j.transition j.source
      (subst (Each (IsPolynomial ℚ grevlex n)) (sym has.source)
      (listing_polynomials t.from (transition_is G is j.transition among).from_node
      (source_listed (let x = s.nodes t.from in x.listing) here.list here.source)))
      (zeros j.transition among)

  pub job_keeps : (es : List Entry) (b : State) → IsRun (moves n j) fresh es b
      → next n j b ≡ kept → (let x = s.nodes t.to in x.listing) ≡ listed (list_at s t.to)
      → KeepsTarget G d q s j.place j.transition
  job_keeps es b r e target =
      let k = transition_is G is j.transition among in
      record {
        next = has.next;
        target = target;
        kept = subst (λ gs. Each (λ p. IsMember ℚ (t.unknowns + n)
            (generators j.transition (λ v. gs)) (after n j.transition p)) (list_at s t.to))
            has.source
            (task_kept G j job_generators k.images k.count d has.monomials es b r e
            (list_at s t.to) (has.target ∙ ap target_of target));
      }

  pub job_takes : (es : List Entry) (b : State) → IsRun (moves n j) fresh es b
      → (basis : List (Terms Fraction)) (rs : Rests) → next n j b ≡ rested basis rs
      → ¬ (KeepsTarget G d q s j.place j.transition) → 0 < t.to
      → IsExact G d (s.nodes t.from) (list_at s t.from)
      → TakesRests G d q s j.place (record { transition = j.transition; basis = basis })
  job_takes es b r basis rs e why some exact =
      let k = transition_is G is j.transition among in
      record {
        next = has.next;
        why = why;
        some = some;
        basis = subst (λ gs. IsBasisFor G j.transition gs basis) has.source
            (task_basis G j job_generators k.images k.count d has.monomials es b r basis rs e);
        exact = exact;
      }
