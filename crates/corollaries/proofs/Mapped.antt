-- What is known behind code, from what was known before it.
--   IsZeroBehind c code p     p is zero behind the code, at the end of every run of the chain c
--   mapped_reduced               what an elimination has ended with is a reduced basis
--   code_reduced                 and reduced for its own ideal
--   mapped_generates             it generates the polynomials that are zero behind the code
--   mapped_one                   and is the only one, with one list of entries
--   exhausted_mapped, past_mapped       where it is out of units, or past, it has begun
use Rattle.std.proofs.Common.{◌⊎◌, inl, inr, ◌≡◌, ◌↔◌, ℕ, ◌+◌, List, [], ◌∷◌, ◌++◌, map, length, sym, ap, subst, ◌∙◌}
use Rattle.algebra.specs.Fraction.{Fraction, ℚ, rationals}
use Rattle.algebra.proofs.Fractions.{ℚ_field, ℚ_ring}
use Rattle.polynomials.specs.Order.{grevlex}
use Rattle.polynomials.specs.Terms.{Terms, Same, value_at}
use Rattle.polynomials.specs.Polynomial.{Arity, AllArity}
use Rattle.polynomials.proofs.Arity.{arity-compose}
use Rattle.polynomials.proofs.ByValues.{same_by_values}
use Rattle.polynomials.proofs.Orders.{grevlex_order}
use Rattle.polynomials.proofs.Same.{Same-sym}
use Rattle.polynomials.proofs.ValueAt.{value_at_same}
use Rattle.ideals.specs.Members.{IsMember}
use Rattle.ideals.proofs.FractionMembers.{member_same}
use Rattle.machines.specs.Collect.{collect}
use Rattle.machines.specs.Elimination.{in_front}
use Rattle.machines.specs.Journal.{Entry, Did}
use Rattle.machines.specs.Reduced.{IsReducedFor, IsReducedBasis}
use Rattle.machines.proofs.Collecting.{collect-polynomial, collect-same}
use Rattle.machines.proofs.Padding.{arity-pad, in_front_at}
use Rattle.machines.proofs.ReducedLists.{reduced_arity}
use Rattle.machines.proofs.Runs.{ended_unique}
use Rattle.loops.specs.Map.{branch_map, composition}
use Rattle.loops.specs.Program.{Expr, Program, Statement}
use Rattle.loops.proofs.Maps.{arity-branch_map, value_after_branch}
use Rattle.rounds.specs.Generate.{Generates}
use Rattle.rounds.specs.Orbit.{IsEliminated}
use Rattle.rounds.specs.Results.{IsReducedList}
use Rattle.rounds.proofs.Invariants.{reduced_for}
use Rattle.corollaries.proofs.Eliminated.{eliminated_basis}
use Rattle.corollaries.specs.Between.{between, list_of, Leads, IsMapped, IsExhaustedLeading, IsPastLeading, HasMapped}
use Rattle.loops.specs.Chain.{Chain, stages_of, state_behind, ChainRun, ChainInv}
use Rattle.corollaries.specs.CodeBetween.{copies, code_list, LeadsOn}
use Rattle.corollaries.proofs.CodeBetween.{code_leads_on, hs_arity}
use Rattle.loops.proofs.ChainRuns.{chain_keeps_state}

-- with variables in front, like terms can be collected before or after
front_collected : (k m : ℕ) (p : Terms Fraction) → Arity m p
    → Same ℚ (in_front k (collect rationals grevlex p)) (in_front k p)
front_collected k m p a =
    same_by_values (k + m) _ _ (arity-pad k m _ (collect-polynomial ℚ_field grevlex grevlex_order m
    p a).arity) (arity-pad k m p a)
    (λ s l. in_front_at k m (collect rationals grevlex p) s l
    ∙ value_at_same ℚ_ring _ _ _ (collect-same ℚ_field grevlex grevlex_order p)
    ∙ sym (in_front_at k m p s l))

-- ---- an elimination that has ended
module _ (k m : ℕ) (hs ks : List (Terms Fraction)) (b : IsReducedBasis rationals grevlex m ks
    (λ y. IsMember ℚ (k + m) hs (in_front k y))) where
  members : (p : Terms Fraction) → Arity m p → IsMember ℚ m ks p
      ↔ IsMember ℚ (k + m) hs (in_front k p)
  members p a =
      let q : Terms Fraction = collect rationals grevlex p in
      let both = b.generates q (collect-polynomial ℚ_field grevlex grevlex_order m p a) in (
        (λ i. member_same (k + m) hs (in_front k q) (in_front k p)
            (Same-sym ℚ (front_collected k m p a))
            (both.0 (member_same m ks p q (collect-same ℚ_field grevlex grevlex_order p) i))),
        (λ i. member_same m ks q p (Same-sym ℚ (collect-same ℚ_field grevlex grevlex_order p))
            (both.1 (member_same (k + m) hs (in_front k p) (in_front k q)
            (front_collected k m p a) i))),
      )

  basis_eliminates : IsEliminated k m hs ks
  basis_eliminates = record {
    arities = reduced_arity grevlex grevlex_order m ks _ b.reduced;
    only = λ p a i. (members p a).0 i;
    all = λ p a i. (members p a).1 i;
  }

  basis_reduced : IsReducedList m ks
  basis_reduced = reduced_for m (λ y. IsMember ℚ (k + m) hs (in_front k y)) (IsMember ℚ m ks) ks
      (λ p a. ((members p a).1, (members p a).0)) b.reduced

module _ {At : Type 0} (program : Program (Expr At)) (code : List (Statement (Expr At)))
    (gs : List (Terms Fraction)) (ga : AllArity (length program.names) gs)
    (es : List Entry) (ks : List (Terms Fraction)) (e : Leads program code gs es ks) where
  abbrev m : ℕ
  m = length program.names

  basis : IsReducedBasis rationals grevlex (length program.names) ks
      (λ y. IsMember ℚ (copies (length program.names) code + length program.names)
      (code_list program code gs) (in_front (copies (length program.names) code) y))
  basis = subst (λ l. IsReducedBasis rationals grevlex m l
      (λ y. IsMember ℚ (copies m code + m) (code_list program code gs)
      (in_front (copies m code) y))) (sym e.list)
      (eliminated_basis (copies m code) m (code_list program code gs) (hs_arity program code gs ga)
      e.finished.work.events e.last e.finished.work.run e.finished.ended)

  pub code_reduced : IsReducedList (length program.names) ks
  code_reduced = basis_reduced (copies m code) m (code_list program code gs) ks basis

  pub code_generates : Generates (length program.names) ks (LeadsOn program code gs)
  code_generates = code_leads_on program code gs ga ks (basis_eliminates (copies m code) m
      (code_list program code gs) ks basis)

  pub code_basis : IsReducedFor rationals grevlex (length program.names) ks
      (LeadsOn program code gs)
  code_basis =
      let g = code_generates in
      reduced_for m (IsMember ℚ m ks) (LeadsOn program code gs) ks (λ p a. (g.only p a, g.all p a))
      code_reduced

-- ---- without code, and with it
module _ {At : Type 0} (c : Chain (Expr At)) (code : List (Statement (Expr At)))
    (p : Terms Fraction) where
  pub record IsZeroBehind : Type 0 where
    pub arity : Arity (length c.first.names) p
    pub zero : (r : ChainRun c) → value_at ℚ p (state_behind c.first code r.end) ≡ ℚ.zero

module _ {At : Type 0} (c : Chain (Expr At)) (gs : List (Terms Fraction))
    (g : Generates (length c.first.names) gs (ChainInv c)) where
  pub mapped_reduced : IsReducedList (length c.first.names) gs
      → (code : List (Statement (Expr At))) (es : List Entry) (ks : List (Terms Fraction))
      → IsMapped c.first code gs es ks → IsReducedList (length c.first.names) ks
  mapped_reduced r [] es ks h = subst (IsReducedList (length c.first.names)) (sym h.1) r
  mapped_reduced r (a ∷ code) es ks h = code_reduced c.first (a ∷ code) gs g.arities es ks h

  pub mapped_generates : (code : List (Statement (Expr At))) (es : List Entry)
      (ks : List (Terms Fraction)) → IsMapped c.first code gs es ks
      → Generates (length c.first.names) ks (IsZeroBehind c code)
  unfolding state_behind
  mapped_generates [] es ks h = subst (λ l. Generates (length c.first.names) l (IsZeroBehind c []))
      (sym h.1) (record {
        arities = g.arities;
        only = λ p a i. record { arity = a; zero = λ r. (g.only p a i).zero r };
        all = λ p a z. g.all p a (record { arity = a; zero = λ r. z.zero r });
      })
  mapped_generates (a ∷ code) es ks h =
      let k = code_generates c.first (a ∷ code) gs g.arities es ks h in
      let m = length c.first.names in
      let map_arity = arity-branch_map c.first (a ∷ code) in
      let state : (r : ChainRun c) → length r.end ≡ length c.first.names =
      λ r. chain_keeps_state c.first (stages_of c) r.words r.start r.end r.is_start.state
      r.is_end in
      let moved : (p : Terms Fraction) → Terms Fraction =
      λ p. composition c.first p (branch_map c.first (a ∷ code)) in
      let moved_arity : (p : Terms Fraction) → Arity m (moved p) =
      λ p. arity-compose m ℚ p (branch_map c.first (a ∷ code)) map_arity in
      record {
        arities = k.arities;
        only = λ p b i. record {
          arity = b;
          zero =
              λ r. sym (value_after_branch c.first p (a ∷ code) r.end (state r))
              ∙ (g.only (moved p) (moved_arity p) (k.only p b i)).zero r;
        };
        all = λ p b z.
            k.all p b (g.all (moved p) (moved_arity p) (record {
              arity = moved_arity p;
              zero = λ r. value_after_branch c.first p (a ∷ code) r.end (state r) ∙ z.zero r;
            }));
      }

-- ---- there is one
pub leads_one : {At : Type 0} (program : Program (Expr At)) (code : List (Statement (Expr At)))
    (gs : List (Terms Fraction)) (es fs : List Entry) (ks hs : List (Terms Fraction))
    → Leads program code gs es ks → Leads program code gs fs hs → (es ≡ fs) × (ks ≡ hs)
leads_one program code gs es fs ks hs a b =
    let M = between program code gs in
    let u = ended_unique M.next M.start a.last b.last a.finished.work.events
    b.finished.work.events a.finished.work.run a.finished.ended b.finished.work.run
    b.finished.ended in (
      a.finished.work.entries ∙ ap (λ xs. [] ++ map Did xs) u.0 ∙ sym b.finished.work.entries,
      a.list ∙ ap (list_of (length program.names) code) u.1 ∙ sym b.list,
    )

pub mapped_one : {At : Type 0} (program : Program (Expr At)) (code : List (Statement (Expr At)))
    (gs : List (Terms Fraction)) (es fs : List Entry) (ks hs : List (Terms Fraction))
    → IsMapped program code gs es ks → IsMapped program code gs fs hs → (es ≡ fs) × (ks ≡ hs)
mapped_one program [] gs es fs ks hs a b = (a.0 ∙ sym b.0, a.1 ∙ sym b.1)
mapped_one program (x ∷ code) gs es fs ks hs a b = leads_one program (x ∷ code) gs es fs ks hs a b

-- ---- what has begun
module _ {At : Type 0} (program : Program (Expr At)) (gs : List (Terms Fraction)) (es : List Entry)
  where
    pub exhausted_mapped : (code : List (Statement (Expr At))) (n : ℕ)
        → IsExhaustedLeading program code gs n es → HasMapped program code gs es
    exhausted_mapped [] n h = absurd h
    exhausted_mapped (a ∷ code) n h = record { at = h.at; work = h.work }

    pub past_mapped : (code : List (Statement (Expr At))) → IsPastLeading program code gs es
        → (es ≡ []) ⊎ HasMapped program code gs es
    past_mapped [] h = absurd h
    past_mapped (a ∷ code) (inl h) = inr (record { at = h.at; work = h.work })
    past_mapped (a ∷ code) (inr h) = inl h.0
